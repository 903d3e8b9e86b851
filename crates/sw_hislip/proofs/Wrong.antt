-- A wrong prologue stays.
use Rattle.std.proofs.Common.{◌≡◌, ℕ, List, [], ◌∷◌, take, drop, refl, sym, ap, ◌∙◌, arith, inl, inr, subst, length-append, Ok, Err, Some, None, Option, Result}
use Rattle.std.proofs.lemmas.List.{take-append-le}
use Rattle.sw_hislip.specs.declared.fault.WireFault.{WireFault}
use Rattle.sw_hislip.specs.declared.fault.WireFault.TheVariants.{BadPrologue, TooLarge, NoMemory}
use Rattle.sw_hislip.specs.declared.message.Message.{Message}
use Rattle.sw_hislip.specs.Pending.{Pending, fed, HasWrongPrologue, GivesNext}
use Rattle.sw_hislip.specs.Stream.{Call, feeds, answers, WrongPrologueStays}

gives_wrong : (old new : Pending) (answer : Result (Option Message) WireFault) → HasWrongPrologue old.bytes → GivesNext old answer new
    → (answer ≡ Err BadPrologue) × (new ≡ old)
gives_wrong old new (Ok (Some m)) w (holds, skip) = absurd (w.wrong (ap (take 2) holds.whole))
gives_wrong old new (Ok None) w (inl short, same) = absurd (omega (arith, short, w.header))
gives_wrong old new (Ok None) w (inr l, same) = absurd (w.wrong (ap (take 2) l.begins.whole))
gives_wrong old new (Err BadPrologue) w (is, same) = (refl, same)
gives_wrong old new (Err (TooLarge kind)) w (h, got, large, named, same) = absurd (w.wrong (ap (take 2) large.begins.whole))
gives_wrong old new (Err NoMemory) w (m, more, holds, same) = absurd (w.wrong (ap (take 2) holds.whole))

feeds_wrong : (p : Pending) (piece : List ℕ) → HasWrongPrologue p.bytes → HasWrongPrologue (fed p piece).bytes
feeds_wrong p piece w = record {
  header = rw length-append (omega (arith, w.header));
  wrong = λ e. w.wrong (sym (take-append-le 2 p.bytes (drop p.skip piece) (omega (arith, w.header))) ∙ e);
}

pub wrong_stays : (calls : List Call) → WrongPrologueStays calls
wrong_stays [] p q w l = tt
wrong_stays (feeds piece ∷ calls) p q w l = wrong_stays calls (fed p piece) q (feeds_wrong p piece w) l
wrong_stays (answers answer ∷ calls) p q w (after, gives, more) =
    let bad = gives_wrong p after answer w gives in
    (bad.0, wrong_stays calls after q (subst (λ (x : Pending). HasWrongPrologue x.bytes) (sym bad.1) w) more)
