use Rattle.std.proofs.Common.{◌<◌, List, ◌++◌, length, false, ap, ◌∙◌, arith}
use Rattle.std.proofs.lemmas.Grind.{common_steps}
use Rattle.sw_hislip.specs.declared.message.Message.{Message}
use Rattle.sw_channels.specs.InParts.{parts_of}
use Rattle.sw_channels.specs.Said.{StepSeen, answering}
use Rattle.sw_channels.proofs.SyncAnswersLemmas.{cuts-to}
use Rattle.sw_channels.proofs.program.answer.Goals as goal

pub returns : goal.returns
returns c =
    let some : 0 < length c.args.bytes.items = grind (arith, common_steps) in
    let step : List Message → StepSeen = λ parts. record { out = c.args.said.items ++ answering parts; ends = false } in (
      parts_of c.room_of.result c.args.id c.args.bytes.items,
      cuts-to c.args.size c.args.id c.room_of.result c.args.bytes.items some c.room_of.ensures.value c.room_of.ensures.some,
      c.answering.ensures ∙ ap step c.of.ensures,
    )
