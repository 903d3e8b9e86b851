-- What was heard before a server began.
use Rattle.std.proofs.Common.{◌≡◌, ℕ, ◌+◌, ◌-◌, ◌≤◌, List, [], ◌∷◌, length, Option, None, Some, Ok, refl, ap, ◌∙◌, arith}
use Rattle.std.proofs.Common.{sym, subst}
use Rattle.std.specs.Io.KnownBytes.{Consumes, prepend_known}
use Rattle.sw_hislip.specs.Pending.{Pending, nothing_fed, fed}
use Rattle.sw_session.specs.ServePoint.{Voice, Point}
use Rattle.sw_session.specs.Serve.{Course, course, TakesServerTurn}
use Rattle.sw_session.specs.declared.turns.Next.TheVariants.{On}
use Rattle.sw_session.proofs.ServeTurnsLemmas.{Going, going-start, going-on}

nothing_less : (n : ℕ) → 0 ≡ 0 - n
nothing_less n = omega (arith)

-- what is pending in a decoder of which nothing was taken yet was fed to it
pub heard_is : (p : Pending) → p.skip ≡ 0 → p ≡ fed nothing_fed p.bytes
heard_is p e = ap (λ (n : ℕ). record { bytes = p.bytes; skip = n }) (e ∙ nothing_less (length p.bytes))

pub consumes_heard : (bytes : List ℕ) (input : Option (List ℕ)) → Consumes (prepend_known bytes input) input bytes
consumes_heard bytes None = tt
consumes_heard bytes (Some xs) = refl

pub nothing_before : (input : Option (List ℕ)) → prepend_known [] input ≡ input
nothing_before None = refl
nothing_before (Some xs) = refl

no_bytes : (bytes : List ℕ) (n : ℕ) → length bytes ≤ n → n ≡ 0 → bytes ≡ []
no_bytes [] n le e = refl
no_bytes (b ∷ bytes) n le e = absurd (omega (arith, le, e))

-- nothing was heard before, and no turn was taken
pub going_nothing : {E D : Type 0} (u : Voice E D) (p : Pending) (a : Point E D) (input : Option (List ℕ)) (pauses : Option ℕ) (room : ℕ)
    → p.skip ≡ 0 → length p.bytes ≤ room → room ≡ 0 → Going u nothing_fed p (course a (prepend_known p.bytes input) pauses) (course a input pauses) 0
going_nothing u p a input pauses room skip le none =
    let bytes = no_bytes p.bytes room le none in
    let fresh : p ≡ nothing_fed = ap (λ (n : ℕ). record { bytes = p.bytes; skip = n }) skip
    ∙ ap (λ (l : List ℕ). record { bytes = l; skip = 0 }) bytes in
    let before : prepend_known p.bytes input ≡ input = ap (λ (l : List ℕ). prepend_known l input) bytes ∙ nothing_before input in
    subst (λ (i : Option (List ℕ)). Going u nothing_fed p (course a i pauses) (course a input pauses) 0) (sym before)
    (going-start u p (course a input pauses) fresh)

-- what was heard is carried out: the first turn
pub going_heard : {E D : Type 0} (u : Voice E D) (q : Pending) (a b : Course E D) → TakesServerTurn u nothing_fed q a b (Ok On)
    → Going u nothing_fed q a b (0 + 1)
going_heard u q a b t = going-on u nothing_fed nothing_fed q a a b 0 (going-start u nothing_fed a refl) t
