-- Known bytes that grow.
use Rattle.std.proofs.Common.{◌≡◌, ℕ, ◌+◌, ◌-◌, ◌≤◌, List, [], ◌++◌, length, take, drop, Option, Some, None, ap, sym, refl, ◌∙◌, append_assoc, append-nil}
use Rattle.std.proofs.Common.{subst}
use Rattle.std.proofs.Math.Seq.{take-add}
use Rattle.std.proofs.lemmas.List.{take_rest, take-append-drop}
use Rattle.std.specs.Io.KnownBytes.{Appends, Consumes, Keeps}
use Rattle.sw_session.specs.ServeWrite.{WritesPart}

pub appends-nothing : (a : Option (List ℕ)) → Appends a a []
appends-nothing None = tt
appends-nothing (Some xs) = sym (append-nil xs)

pub appends-more : (a b c : Option (List ℕ)) (xs ys : List ℕ) → Appends a b xs → Appends b c ys → Appends a c (xs ++ ys)
appends-more None b c xs ys p q = tt
appends-more (Some old) None c xs ys p q = absurd p
appends-more (Some old) (Some bs) None xs ys p q = absurd q
appends-more (Some old) (Some bs) (Some cs) xs ys p q = q ∙ ap (λ t. t ++ ys) p ∙ append_assoc old xs ys

pub appends-part : (a b c : Option (List ℕ)) (bytes : List ℕ) (done n : ℕ) → done ≤ length bytes → n ≤ length bytes - done → Appends a b (take done bytes)
    → Appends b c (take n (take (length bytes - done) (drop done bytes))) → Appends a c (take (done + n) bytes)
appends-part a b c bytes done n le fits p q =
    let same : take done bytes ++ take n (take (length bytes - done) (drop done bytes)) ≡ take (done + n) bytes = sym
    (take-add done n bytes ∙ ap (λ t. take done bytes ++ take n t) (sym (take_rest bytes done))) in
    subst (λ (t : List ℕ). Appends a c t) same (appends-more a b c _ _ p q)

pub appends-keeps : (a b c : Option (List ℕ)) (xs : List ℕ) → Appends a b xs → Keeps b c → Appends a c xs
appends-keeps None b c xs p q = tt
appends-keeps (Some old) None c xs p q = absurd p
appends-keeps (Some old) (Some bs) None xs p q = absurd q
appends-keeps (Some old) (Some bs) (Some cs) xs p q = q ∙ p

-- a front part by its length
pub part-take : (a b : Option (List ℕ)) (bytes : List ℕ) (n : ℕ) → Appends a b (take n bytes) → WritesPart a b bytes
part-take a b bytes n p = record { front = take n bytes; back = drop n bytes; parts = sym (take-append-drop n bytes); writes = p }

pub consumes-nothing : (a : Option (List ℕ)) → Consumes a a []
consumes-nothing None = tt
consumes-nothing (Some xs) = refl

pub consumes-more : (a b c : Option (List ℕ)) (xs ys : List ℕ) → Consumes a b xs → Consumes b c ys → Consumes a c (xs ++ ys)
consumes-more None b c xs ys p q = tt
consumes-more (Some old) None c xs ys p q = absurd p
consumes-more (Some old) (Some bs) None xs ys p q = absurd q
consumes-more (Some old) (Some bs) (Some cs) xs ys p q = p ∙ ap (λ t. xs ++ t) q ∙ sym (append_assoc xs ys cs)
