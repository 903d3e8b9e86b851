-- Waiting for a lock.
use Rattle.std.proofs.Common.{◌≡◌, ℕ, ◌+◌, ◌<◌, ◌==◌, Bool, true, false, MatchBool, List, [], ◌∷◌, ◌++◌, Option, Some, refl, sym, subst, append_assoc}
use Rattle.std.proofs.Common.{append-nil, arith}
use Rattle.std.proofs.lemmas.Bool.Decides.{nat_tests}
use Rattle.sw_core.specs.declared.ask.SessionAsk.{SessionAsk}
use Rattle.sw_core.specs.declared.ask.SessionAnswer.{SessionAnswer}
use Rattle.sw_core.specs.declared.ask.SessionAnswer.TheVariants.{Joined, Full, Stranger, Broken, Done, Missed, Max, Lock, Info, Snapshot, Refused, Hold, Worn}
use Rattle.sw_talk.specs.declared.desk.Wake.TheVariants.{Again, Over}
use Rattle.sw_talk.specs.Talk.{turns}
use Rattle.sw_talk.specs.Trace.{Entry, Asked, Waited}
use Rattle.sw_channels.specs.EngineStep.{LedBy}
use Rattle.sw_channels.specs.EngineAsync.{AwaitsLock, lock_code}
use Rattle.sw_channels.proofs.EngineAsksLemmas.{by-more}

-- what comes once a lock was held so often
abbrev pub Goes-on : ℕ → SessionAsk → Option ℕ → List Entry → Option ℕ → Type 0
Goes-on turn ask limit asked code = MatchBool (turn == turns) ((asked ≡ []) × (code ≡ Some 0)) (AwaitsLock turn ask limit asked code)

-- with what comes yet, these calls are a wait for the lock
abbrev pub AwaitsBy : SessionAsk → Option ℕ → ℕ → Option ℕ → List Entry → Type 0
AwaitsBy ask limit turn left asked = (more : List Entry) (code : Option ℕ) → Goes-on turn ask left more code → AwaitsLock 0 ask limit (asked ++ more) code

open-turn : (turn : ℕ) (ask : SessionAsk) (left : Option ℕ) (more : List Entry) (code : Option ℕ) → turn < turns → AwaitsLock turn ask left more code
    → Goes-on turn ask left more code
open-turn turn ask left more code lt s =
    let differs : (turn == turns) ≡ false = grind (arith, nat_tests) in
    subst (λ (b : Bool). MatchBool b ((more ≡ []) × (code ≡ Some 0)) (AwaitsLock turn ask left more code)) (sym differs) s

last-turn : (turn : ℕ) (ask : SessionAsk) (left : Option ℕ) → turn ≡ turns → Goes-on turn ask left [] (Some 0)
last-turn turn ask left is =
    let same : (turn == turns) ≡ true = grind (arith, nat_tests) in
    let none : List Entry = [] in
    let over : Option ℕ = Some 0 in
    subst (λ (b : Bool). MatchBool b ((none ≡ []) × (over ≡ Some 0)) (AwaitsLock turn ask left none over)) (sym same) (refl, refl)

-- held, and asked again
pub lock-again : {D : Type 0} (passes : D → Entry → D → Type 0) (d0 d1 d2 d3 : D) (turn : ℕ) (ask asked held : SessionAsk) (limit left left' : Option ℕ)
    → turn < turns → asked ≡ ask → LedBy passes d0 d1 (AwaitsBy ask limit turn left)
    → passes d1 (Asked asked (Hold held)) d2 → passes d2 (Waited left (Again left')) d3 → LedBy passes d0 d3 (AwaitsBy ask limit (turn + 1) left')
lock-again passes d0 d1 d2 d3 turn ask asked held limit left left' lt same led p q =
    let two : List Entry = Asked asked (Hold held) ∷ Waited left (Again left') ∷ [] in
    by-more passes d0 d1 d3 (AwaitsBy ask limit turn left) (AwaitsBy ask limit (turn + 1) left') two led (d2, p, (d3, q, refl))
    (λ t so more code w. subst (λ (l : List Entry). AwaitsLock 0 ask limit l code) (sym (append_assoc t two more))
    (so (two ++ more) code (open-turn turn ask left (two ++ more) code lt (same, refl, w))))

-- held, and given up
pub lock-over : {D : Type 0} (passes : D → Entry → D → Type 0) (d0 d1 d2 d3 : D) (turn : ℕ) (ask asked held : SessionAsk) (limit left : Option ℕ) → turn < turns
    → asked ≡ ask → LedBy passes d0 d1 (AwaitsBy ask limit turn left)
    → passes d1 (Asked asked (Hold held)) d2 → passes d2 (Waited left Over) d3 → LedBy passes d0 d3 (λ t. AwaitsLock 0 ask limit t (Some 0))
lock-over passes d0 d1 d2 d3 turn ask asked held limit left lt same led p q =
    let two : List Entry = Asked asked (Hold held) ∷ Waited left Over ∷ [] in
    by-more passes d0 d1 d3 (AwaitsBy ask limit turn left) (λ t. AwaitsLock 0 ask limit t (Some 0)) two led (d2, p, (d3, q, refl))
    (λ t so. so two (Some 0) (open-turn turn ask left two (Some 0) lt (same, refl, refl)))

told : (turn : ℕ) (ask asked : SessionAsk) (left : Option ℕ) (answer : SessionAnswer) → asked ≡ ask → ((held : SessionAsk) → answer ≡ Hold held → ⊥)
    → AwaitsLock turn ask left (Asked asked answer ∷ []) (lock_code answer)
told turn ask asked left (Hold held) same differ = absurd (differ held refl)
told turn ask asked left (Joined s) same differ = (same, refl)
told turn ask asked left Full same differ = (same, refl)
told turn ask asked left Missed same differ = (same, refl)
told turn ask asked left (Max size) same differ = (same, refl)
told turn ask asked left (Lock code) same differ = (same, refl)
told turn ask asked left (Info exclusive holders) same differ = (same, refl)
told turn ask asked left Stranger same differ = (same, refl)
told turn ask asked left Broken same differ = (same, refl)
told turn ask asked left (Done text) same differ = (same, refl)
told turn ask asked left (Refused e) same differ = (same, refl)
told turn ask asked left (Worn back) same differ = (same, refl)
told turn ask asked left (Snapshot s number) same differ = (same, refl)

-- answered
pub lock-told : {D : Type 0} (passes : D → Entry → D → Type 0) (d0 d1 d2 : D) (turn : ℕ) (ask asked : SessionAsk) (limit left : Option ℕ)
    (answer : SessionAnswer) (code : Option ℕ) → turn < turns → asked ≡ ask → ((held : SessionAsk) → answer ≡ Hold held → ⊥)
    → code ≡ lock_code answer → LedBy passes d0 d1 (AwaitsBy ask limit turn left) → passes d1 (Asked asked answer) d2
    → LedBy passes d0 d2 (λ t. AwaitsLock 0 ask limit t code)
lock-told passes d0 d1 d2 turn ask asked limit left answer code lt same differ is led p =
    by-more passes d0 d1 d2 (AwaitsBy ask limit turn left) (λ t. AwaitsLock 0 ask limit t code) (Asked asked answer ∷ []) led (d2, p, refl)
    (λ t so. so (Asked asked answer ∷ []) code
    (open-turn turn ask left (Asked asked answer ∷ []) code lt
    (subst (λ (c : Option ℕ). AwaitsLock turn ask left (Asked asked answer ∷ []) c) (sym is) (told turn ask asked left answer same differ))))

-- held until the last turn
pub lock-end : {D : Type 0} (passes : D → Entry → D → Type 0) (d0 d1 : D) (turn : ℕ) (ask : SessionAsk) (limit left : Option ℕ) → turn ≡ turns
    → LedBy passes d0 d1 (AwaitsBy ask limit turn left) → LedBy passes d0 d1 (λ t. AwaitsLock 0 ask limit t (Some 0))
lock-end passes d0 d1 turn ask limit left is led = record {
  asked = led.asked;
  leads = led.leads;
  admits = subst (λ (l : List Entry). AwaitsLock 0 ask limit l (Some 0)) (append-nil led.asked) (led.admits [] (Some 0) (last-turn turn ask left is));
}
