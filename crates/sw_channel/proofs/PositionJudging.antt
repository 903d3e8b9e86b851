-- Judging joined channels from left to right: what it gives, and that it gives what they name.
use Rattle.std.proofs.Common.{◌≡◌, ℕ, suc, ◌+◌, ◌<◌, ◌≤◌, map, false, List, [], ◌∷◌, ◌++◌, length, refl, sym, ap, subst, ◌∙◌, append_assoc, arith}
use Rattle.std.proofs.Common.{inl, inr}
use Rattle.std.specs.Prelude.{Option, Some, None, Result, Ok, Err}
use Rattle.std.proofs.lemmas.Bool.{cases_Bool, leb-false, lt-leb}
use Rattle.std.proofs.lemmas.List.{append-nil, length-append, length-map}
use Rattle.sw_base.specs.Layout.{Channel}
use Rattle.sw_base.specs.declared.error.ScpiError.{ScpiError}
use Rattle.sw_base.specs.declared.error.ScpiError.TheVariants.{InvalidExpression, DataOutOfRange, TooMuchData}
use Rattle.sw_channel.specs.Grammar.{WrittenChannel, joined}
use Rattle.sw_channel.specs.Meaning.{channel_of}
use Rattle.sw_channel.specs.Positions.{Position, IsPosition, AreDifferent, is_among, most_joined}
use Rattle.sw_channel.specs.PositionMeaning.{NamePositions, is_full, with_next, and_next, position_after, position_of_joined, one_position}
use Rattle.sw_channel.proofs.Joining.{different_more, different_apart}

abbrev given : Position → Result Position ScpiError
given p = Ok p

abbrev turned_away : ScpiError → Result Position ScpiError
turned_away e = Err e

same_given : (p q : Position) → given p ≡ given q → p ≡ q
same_given p q e = cc

-- ---- one channel more

next_ok : (count : ℕ) (o : Option Channel) (p q : Position) → with_next count o p ≡ Ok q → (c : Channel) × (o ≡ Some c) × (is_among p c ≡ false)
    × (is_full count p ≡ false)
    × (q ≡ p ++ c ∷ [])
next_ok count None p q e = absurd cc
next_ok count (Some c) p q e =
    elim (cases_Bool (is_among p c)) [
      | inl t ↦ absurd (let k : turned_away DataOutOfRange ≡ Ok q = rw t at e in cc)
      | inr t ↦ elim (cases_Bool (is_full count p)) [
        | inl u ↦ absurd (let k : turned_away TooMuchData ≡ Ok q = rw (t, u) at e in cc)
        | inr u ↦ let k : given (p ++ c ∷ []) ≡ Ok q = rw (t, u) at e in (c, refl, t, u, sym (same_given (p ++ c ∷ []) q k))
      ]
    ]

next_named : (count : ℕ) (o : Option Channel) (c : Channel) (p : Position) → o ≡ Some c → is_among p c ≡ false → is_full count p ≡ false
    → with_next count o p ≡ Ok (p ++ c ∷ [])
next_named count o c p e t u = rw (e, t, u) refl

next_never : (count : ℕ) (o : Option Channel) (p : Position) → with_next count o p ≡ Err InvalidExpression → ⊥
next_never count None p e = cc
next_never count (Some c) p e =
    elim (cases_Bool (is_among p c)) [
      | inl t ↦ let k : turned_away DataOutOfRange ≡ Err InvalidExpression = rw t at e in cc
      | inr t ↦ elim (cases_Bool (is_full count p)) [
        | inl u ↦ let k : turned_away TooMuchData ≡ Err InvalidExpression = rw (t, u) at e in cc
        | inr u ↦ let k : given (p ++ c ∷ []) ≡ Err InvalidExpression = rw (t, u) at e in cc
      ]
    ]

-- ---- channels one after another

-- what a position may be while its channels are read, in a list of so many
record IsBegun (count : ℕ) (p : Position) : Type 0 where
  different : AreDifferent p
  few : length p ≤ most_joined
  room : 1 ≤ length p → count < 512

begun_more : (count : ℕ) (p : Position) (c : Channel) → IsBegun count p → is_among p c ≡ false → is_full count p ≡ false → IsBegun count (p ++ c ∷ [])
begun_more count [] c b t u = record {
  different = different_more [] c b.different t;
  few = omega arith;
  room = λ h. leb-false 512 count u;
}
begun_more count (d ∷ p) c b t u =
    let k : length (d ∷ p) < most_joined = leb-false most_joined (length (d ∷ p)) u in
    record {
      different = different_more (d ∷ p) c b.different t;
      few = omega (arith, k, length-append (d ∷ p) (c ∷ []));
      room = λ h. b.room (omega arith);
    }

err_stays : (count : ℕ) (e : ScpiError) (ws : List WrittenChannel) → position_after count (Err e) ws ≡ Err e
err_stays count e [] = refl
err_stays count e (w ∷ ws) = err_stays count e ws

-- the channels that were added
record Added (count : ℕ) (p q : Position) (ws : List WrittenChannel) : Type 0 where
  rest : Position
  all : q ≡ p ++ rest
  named : map channel_of ws ≡ map Some rest
  begun : IsBegun count q

added_first : (count : ℕ) (p q : Position) (w : WrittenChannel) (ws : List WrittenChannel) (r : Result Position ScpiError) → IsBegun count p
    → with_next count (channel_of w) p ≡ r → position_after count r ws ≡ Ok q
    → ((m : Position) → IsBegun count m → position_after count (Ok m) ws ≡ Ok q → Added count m q ws) → Added count p q (w ∷ ws)
added_first count p q w ws (Err d) b is h go = absurd (let k : turned_away d ≡ Ok q = sym (err_stays count d ws) ∙ h in cc)
added_first count p q w ws (Ok m) b is h go =
    let n = next_ok count (channel_of w) p m is in
    let a = go m (subst (λ (x : Position). IsBegun count x) (sym n.4) (begun_more count p n.0 b n.2 n.3)) h in
    record {
      rest = n.0 ∷ a.rest;
      all = a.all ∙ ap (λ (x : Position). x ++ a.rest) n.4 ∙ append_assoc p (n.0 ∷ []) a.rest;
      named = let x = n.1 in let y = a.named in cc;
      begun = a.begun;
    }

after_ok : (count : ℕ) (p q : Position) (ws : List WrittenChannel) → IsBegun count p → position_after count (Ok p) ws ≡ Ok q → Added count p q ws
after_ok count p q [] b e =
    let same : p ≡ q = same_given p q e in
    record { rest = []; all = sym same ∙ sym (append-nil p); named = refl; begun = subst (λ (x : Position). IsBegun count x) same b }
after_ok count p q (w ∷ ws) b e = added_first count p q w ws (with_next count (channel_of w) p) b refl e (λ m c h. after_ok count m q ws c h)

named_after : (count : ℕ) (p rest : Position) (ws : List WrittenChannel) → map channel_of ws ≡ map Some rest → AreDifferent (p ++ rest)
    → length (p ++ rest) ≤ most_joined → count < 512 → position_after count (Ok p) ws ≡ Ok (p ++ rest)
named_after count p [] [] m d f r = ap Ok (sym (append-nil p))
named_after count p (c ∷ rest) [] m d f r = absurd cc
named_after count p [] (w ∷ ws) m d f r = absurd cc
named_after count p (c ∷ rest) (w ∷ ws) m d f r =
    let first : channel_of w ≡ Some c = cc in
    let others : map channel_of ws ≡ map Some rest = cc in
    let whole = append_assoc p (c ∷ []) rest in
    let next = next_named count (channel_of w) c p first (different_apart p c rest d) (room p f) in
    ap (λ (x : Result Position ScpiError). position_after count x ws) next
    ∙ named_after count (p ++ c ∷ []) rest ws others (subst AreDifferent (sym whole) d) (subst (λ (x : Position). length x ≤ most_joined) (sym whole) f) r
    ∙ ap Ok whole where
      room : (p : Position) → length (p ++ c ∷ rest) ≤ most_joined → is_full count p ≡ false
      room [] f = lt-leb 512 count r
      room (x ∷ p) f = lt-leb most_joined (length (x ∷ p)) (omega (arith, f, length-append (x ∷ p) (c ∷ rest)))

after_never : (count : ℕ) (r : Result Position ScpiError) (ws : List WrittenChannel) → (r ≡ Err InvalidExpression → ⊥)
    → position_after count r ws ≡ Err InvalidExpression → ⊥
after_never count r [] n e = n e
after_never count r (w ∷ ws) n e = after_never count (and_next count r (channel_of w)) ws (step r n) e where
  step : (r : Result Position ScpiError) → (r ≡ Err InvalidExpression → ⊥) → and_next count r (channel_of w) ≡ Err InvalidExpression → ⊥
  step (Err d) n h = n h
  step (Ok p) n h = next_never count (channel_of w) p h

-- the channels read so far, and one more
pub after_more : (count : ℕ) (r : Result Position ScpiError) (ws : List WrittenChannel) (w : WrittenChannel)
    → position_after count r (ws ++ w ∷ []) ≡ and_next count (position_after count r ws) (channel_of w)
after_more count r [] w = refl
after_more count r (v ∷ ws) w = after_more count (and_next count r (channel_of v)) ws w

-- ---- an item of joined channels

of_one : (r : Result Position ScpiError) (ps : List Position) → one_position r ≡ Ok ps → (p : Position) × (r ≡ Ok p) × (ps ≡ p ∷ [])
of_one (Err e) ps h = absurd cc
of_one (Ok p) ps h = (p, refl, let k : p ∷ [] ≡ ps = cc in sym k)

pub joined_ok : (count : ℕ) (w : WrittenChannel) (ws : List WrittenChannel) (ps : List Position)
    → one_position (position_of_joined count (w ∷ ws)) ≡ Ok ps → NamePositions (joined w ws) ps × (count + length ps ≤ 512)
joined_ok count w ws ps e =
    let o = of_one (position_of_joined count (w ∷ ws)) ps e in
    let none : IsBegun count [] = record { different = tt; few = omega arith; room = λ h. absurd (omega (arith, h)) } in
    let a = after_ok count [] o.0 (w ∷ ws) none o.1 in
    let names : map channel_of (w ∷ ws) ≡ map Some o.0 = a.named ∙ ap (λ (x : Position). map Some x) (sym a.all) in
    let many : suc (length ws) ≡ length o.0 =
    sym (length-map (w ∷ ws) channel_of) ∙ ap (λ (x : List (Option Channel)). length x) names ∙ length-map o.0 Some in
    let some : 1 ≤ length o.0 = omega (arith, many) in
    let position : IsPosition o.0 = record { some = some; few = a.begun.few; different = a.begun.different } in
    let room = a.begun.room some in
    let one : length ps ≡ 1 = ap (λ (x : List Position). length x) o.2 in
    ((o.0, names, position, o.2), omega (arith, room, one))

pub joined_named : (count : ℕ) (w : WrittenChannel) (ws : List WrittenChannel) (ps : List Position) → NamePositions (joined w ws) ps
    → count + length ps ≤ 512 → one_position (position_of_joined count (w ∷ ws)) ≡ Ok ps
joined_named count w ws ps n h =
    let one : length ps ≡ 1 = ap (λ (x : List Position). length x) n.3 in
    let room : count < 512 = omega (arith, h, one) in
    let r = named_after count [] n.0 (w ∷ ws) n.1 n.2.different n.2.few room in
    ap one_position r ∙ ap Ok (sym n.3)

pub joined_never : (count : ℕ) (w : WrittenChannel) (ws : List WrittenChannel) → one_position (position_of_joined count (w ∷ ws)) ≡ Err InvalidExpression → ⊥
joined_never count w ws e = step (position_of_joined count (w ∷ ws)) refl e where
  step : (r : Result Position ScpiError) → position_of_joined count (w ∷ ws) ≡ r → one_position r ≡ Err InvalidExpression → ⊥
  step (Ok p) is h = cc
  step (Err d) is h =
      let same : d ≡ InvalidExpression = cc in
      after_never count (Ok []) (w ∷ ws) (λ k. let z : given [] ≡ turned_away InvalidExpression = k in cc) (is ∙ ap Err same)
