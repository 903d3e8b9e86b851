use Rattle.std.proofs.Common.{ap, sym, subst, ◌∙◌, Option}
use Rattle.sw_core.specs.Seen.{WorkSeen, work_seen}
use Rattle.sw_talk.specs.CoreDesk.{piece_seen}
use Rattle.sw_talk.proofs.KeepingLemmas.{seen-some}
use Rattle.sw_workers.specs.Work.{EndsPiece, IsSentOn}
use Rattle.sw_workers.proofs.CarriesLemmas.{carries-start, carries-sent, carries-more, sent-none}
use Rattle.sw_workers.proofs.desk.SharedDesk.carry_piece.Goals as goal

pub loop-init : goal.loop-init
loop-init g c = carries-start _ _ _

pub returns-in_default : goal.returns-in_default
returns-in_default g c = carries-sent _ _ _ _ _ _ c.loop.invariant (sent-none g.H.Carrier.sent c.loop.left c.in_default.not-Some)

pub returns-in_default-send : goal.returns-in_default-send
returns-in_default-send g c =
    carries-sent _ _ _ _ _ _ c.loop.invariant
    (subst
    (λ (o : Option WorkSeen). IsSentOn g.H.Carrier.sent o)
    (sym (ap work_seen c.in-Some-left.is ∙ seen-some c.in-Some-left.piece))
    c.in_default-send.ensures.sent)

pub loop-preserved : goal.loop-preserved
loop-preserved g c =
    carries-more _ _ _ _ (piece_seen c.in-Some-left.piece) _ _ _ c.loop.invariant (ap work_seen c.in-Some-left.is ∙ seen-some c.in-Some-left.piece)
    (subst
    (λ (w : WorkSeen). EndsPiece g.H.Recording.first w c.loop.self.part (work_seen c.finish-left.result) c.finish-left.new.self.part)
    c.in-Some-send.ensures.back
    c.finish-left.ensures)
