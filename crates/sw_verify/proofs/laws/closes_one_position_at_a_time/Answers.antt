use Rattle.std.proofs.Common.{sym, subst, Option}
use Rattle.sw_code.specs.Range.{Program}
use Rattle.sw_verify.specs.Setup.{agenda_by}
use Rattle.sw_verify.specs.Ready.{IsReadyBy}
use Rattle.sw_verify.specs.Channels.{is_among}
use Rattle.sw_verify.specs.Sound.{effect}
use Rattle.sw_verify.specs.Moments.{IsListed, AtMostOneMore}
use Rattle.std.proofs.Common.{take}
use Rattle.sw_verify.proofs.Throughout.{one_at_a_time}
use Rattle.sw_verify.proofs.laws.closes_one_position_at_a_time.Goals as goal

pub returns : goal.returns
returns c =
    let p = c.args.snapshot.now in
    let ready = subst (λ (o : Option Program). IsReadyBy p o) c.requires.settings c.requires.passed in
    λ i. subst (λ (o : Option Program). AtMostOneMore (IsListed p.settings.scan.list) (is_among p.closed)
    (effect (is_among p.closed) (take i (agenda_by p.settings.scan o)))) (sym c.requires.settings)
    (one_at_a_time p.layout (is_among p.closed) p.settings.scan.points p.settings.scan ready.listed ready.sound i)
