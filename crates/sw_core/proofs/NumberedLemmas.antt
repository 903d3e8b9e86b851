-- A step of an ask that can be numbered, and of one that can't.
use Rattle.std.proofs.Common.{◌≡◌, ◌==◌, ◌&&◌, not, Bool, true, false, refl, sym, subst}
use Rattle.std.specs.Prelude.{MatchBool}
use Rattle.sw_core.specs.Panel.{Panel}
use Rattle.sw_core.specs.Event.{last_number, concluded}
use Rattle.sw_core.specs.Seen.{AskSeen, AskSession, AskInstall, AskEject, AskExternal, AskElapsed, AskFinished, AnswerSeen, failed_in, IsOwnAccount}
use Rattle.sw_core.specs.Step.{Acts, acts_unnumbered, IsWorn, IsEvent, IsUnnumbered, Step}
use Rattle.sw_core.proofs.CallsLemmas.{failed_same}

unfailed_worn : (p : Panel) (ask : AskSeen) (answer : AnswerSeen) → acts_unnumbered ask ≡ false → failed_in ask answer p.cage.cards p.cage.cards ≡ false
unfailed_worn p (AskFinished done) answer n = absurd (cc (n))
unfailed_worn p (AskSession ask) answer n = failed_same p.cage.cards
unfailed_worn p (AskInstall slot card) answer n = failed_same p.cage.cards
unfailed_worn p (AskEject slot) answer n = failed_same p.cage.cards
unfailed_worn p AskExternal answer n = failed_same p.cage.cards
unfailed_worn p (AskElapsed ticket) answer n = failed_same p.cage.cards

-- a meter's return always acts
pub own_worn : (ask : AskSeen) → acts_unnumbered ask ≡ false → IsOwnAccount ask
own_worn (AskFinished done) n = absurd (cc (n))
own_worn (AskSession ask) n = tt
own_worn (AskInstall slot card) n = tt
own_worn (AskEject slot) n = tt
own_worn AskExternal n = tt
own_worn (AskElapsed ticket) n = tt

pub worn_step : (p : Panel) (ask : AskSeen) (answer : AnswerSeen) → (p.events == last_number) ≡ true → acts_unnumbered ask ≡ false → IsWorn ask answer
    → Step p ask (failed_in ask answer p.cage.cards p.cage.cards) answer p
worn_step p ask answer e n w =
    let f = failed_in ask answer p.cage.cards p.cage.cards in
    let yes : IsUnnumbered p ask f answer p = record { worn = w; unfailed = unfailed_worn p ask answer n; same = refl } in
    subst (λ (a : Bool). MatchBool (a && not (acts_unnumbered ask)) (IsUnnumbered p ask f answer p) (IsEvent p ask f answer p)) (sym e) (subst (λ (b : Bool).
    MatchBool (true && not b) (IsUnnumbered p ask f answer p) (IsEvent p ask f answer p)) (sym n) yes)

pub numbered_step : (p q done : Panel) (ask : AskSeen) (f : Bool) (answer : AnswerSeen) → ((p.events == last_number) && not (acts_unnumbered ask)) ≡ false
    → Acts p ask f answer done → q ≡ concluded answer done → Step p ask f answer q
numbered_step p q done ask f answer n acts is =
    let yes : IsEvent p ask f answer q = record { done = done; acts = acts; after = is } in
    subst (λ (b : Bool). MatchBool b (IsUnnumbered p ask f answer q) (IsEvent p ask f answer q)) (sym n) yes
