-- An answer in parts.
use Rattle.std.proofs.Common.{◌≡◌, ℕ, zero, suc, ◌<◌, ◌≤◌, List, [], ◌∷◌, length, take, drop, refl, sym, ap, ◌∙◌, inl, inr, arith}
use Rattle.std.specs.Prelude.{nat_le, true, false}
use Rattle.std.proofs.lemmas.Bool.{le-leb, lt-leb}
use Rattle.std.proofs.lemmas.Bool.Decides.{leb_tells}
use Rattle.std.proofs.lemmas.List.{length-drop}
use Rattle.sw_hislip.specs.declared.kind.Kind.TheVariants as Kind
use Rattle.sw_hislip.specs.declared.message.Message.{Message}
use Rattle.sw_channels.specs.EngineMessages.{IsCut, part}
use Rattle.sw_channels.specs.InParts.{in_parts, parts_of}

-- one more part in front
cut-more : (room id : ℕ) (bytes : List ℕ) (ms : List Message) → room < length bytes → IsCut room id (drop room bytes) ms
    → IsCut room id bytes (part Kind.Data id (take room bytes) ∷ ms)
cut-more room id bytes [] h c = absurd c
cut-more room id bytes (n ∷ ms) h c = (h, refl, c)

-- the last part, and one before it
last-part : (most room id : ℕ) (bytes : List ℕ) → length bytes ≤ room → in_parts most room id bytes ≡ part Kind.DataEnd id bytes ∷ []
last-part zero room id bytes h = refl
last-part (suc most) room id bytes h = let t : nat_le (length bytes) room ≡ true = le-leb _ _ h in rw t refl

one-part : (most room id : ℕ) (bytes : List ℕ) → room < length bytes
    → in_parts (suc most) room id bytes ≡ part Kind.Data id (take room bytes) ∷ in_parts most room id (drop room bytes)
one-part most room id bytes h = let t : nat_le (length bytes) room ≡ false = lt-leb _ _ h in rw t refl

-- they are the same, however many may come before the last
any-most : (m n room id : ℕ) (bytes : List ℕ) → 0 < room → length bytes ≤ m → length bytes ≤ n → in_parts m room id bytes ≡ in_parts n room id bytes
any-most zero n room id bytes some p q = sym (last-part n room id bytes (omega (arith, p)))
any-most (suc m) zero room id bytes some p q = last-part (suc m) room id bytes (omega (arith, q))
any-most (suc m) (suc n) room id bytes some p q = elim (leb_tells (length bytes) room) [
  | inl t ↦ last-part (suc m) room id bytes t.1 ∙ sym (last-part (suc n) room id bytes t.1)
  | inr t ↦
      let l = length-drop room bytes in
      one-part m room id bytes t.1
      ∙ ap (λ (ms : List Message). part Kind.Data id (take room bytes) ∷ ms)
      (any-most m n room id (drop room bytes) some (omega (arith, p, some, t.1, l)) (omega (arith, q, some, t.1, l)))
      ∙ sym (one-part n room id bytes t.1)
]

pub parts-last : (room id : ℕ) (bytes : List ℕ) → length bytes ≤ room → parts_of room id bytes ≡ part Kind.DataEnd id bytes ∷ []
parts-last room id bytes h = last-part (length bytes) room id bytes h

pub parts-more : (room id : ℕ) (bytes : List ℕ) → 0 < room → room < length bytes
    → parts_of room id bytes ≡ part Kind.Data id (take room bytes) ∷ parts_of room id (drop room bytes)
parts-more room id bytes some h =
    let l = length-drop room bytes in
    any-most (length bytes) (suc (length bytes)) room id bytes some (omega (arith)) (omega (arith))
    ∙ one-part (length bytes) room id bytes h
    ∙ ap (λ (ms : List Message). part Kind.Data id (take room bytes) ∷ ms)
    (any-most (length bytes) (length (drop room bytes)) room id (drop room bytes) some (omega (arith, l)) (omega (arith)))

-- an answer in parts is cut
cut-in-parts : (most room id : ℕ) (bytes : List ℕ) → 0 < room → length bytes ≤ most → IsCut room id bytes (in_parts most room id bytes)
cut-in-parts zero room id bytes some p = (omega (arith, p), refl)
cut-in-parts (suc most) room id bytes some p = elim (leb_tells (length bytes) room) [
  | inl t ↦ rw (last-part (suc most) room id bytes t.1) (t.1, refl)
  | inr t ↦
      let l = length-drop room bytes in
      rw (one-part most room id bytes t.1) (cut-more room id bytes (in_parts most room id (drop room bytes)) t.1
      (cut-in-parts most room id (drop room bytes) some (omega (arith, p, some, t.1, l))))
]

pub parts-are-cut : (room id : ℕ) (bytes : List ℕ) → 0 < room → IsCut room id bytes (parts_of room id bytes)
parts-are-cut room id bytes some = cut-in-parts (length bytes) room id bytes some (omega (arith))
