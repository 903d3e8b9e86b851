use Rattle.sw_channels.proofs.SubAddressLemmas.{told-ascii}
use Rattle.sw_channels.proofs.initialization.is_sub_address.Goals as goal

pub returns-then-payload-le-LONGEST_SUB_ADDRESS : goal.returns-then-payload-le-LONGEST_SUB_ADDRESS
returns-then-payload-le-LONGEST_SUB_ADDRESS c =
    told-ascii c.is_ascii.result c.args.payload.now c.if-payload-le-LONGEST_SUB_ADDRESS.true c.is_ascii.ensures.cases
