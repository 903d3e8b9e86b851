-- Which sessions stay joined, and are not cleared, where one seat is another.
use Rattle.std.proofs.Common.{◌≡◌, ◌≤◌, ◌<◌, ℕ, true, false, List, length, Option, None, Some, is_some, inl, inr}
use Rattle.std.proofs.Common.{refl, ap, sym, subst, ◌∙◌, arith}
use Rattle.sw_base.specs.Layout.{slot_at}
use Rattle.sw_cage.proofs.SlotChangeLemmas.{slot_cases, slot_set_other, some_slot}
use Rattle.sw_core.specs.declared.ask.Sid.{Sid}
use Rattle.sw_core.specs.declared.sessions.Seat.{Seat}
use Rattle.sw_core.specs.Panel.{Panel, is_running}
use Rattle.sw_core.specs.Seats.{lacks_second, Attaches}
use Rattle.sw_core.specs.Sessions.{SessionsSeen, IsJoined, IsLeastFree, joined_in, seat_in, seat_of, is_clearing, with_seat}
use Rattle.sw_history.proofs.HoldsLemmas.{Keeps}

pub keeps_tables : (p q : Panel) → q.sessions.seats ≡ p.sessions.seats → q.sessions.locks ≡ p.sessions.locks
    → (is_running p ≡ true → is_running q ≡ true) → Keeps p q
keeps_tables p q s l r = record {
  joined = λ sid h. ap (λ (x : List (Option Seat)). joined_in (slot_at x sid.number)) s ∙ h;
  clear = λ sid h c. ap (λ (x : List (Option Seat)). (seat_in (slot_at x sid.number)).clearing) s ∙ c;
  locks = l;
  scan = r;
}

-- a seat that a session has is that of a number
some_seat : (o : Option Seat) (joined : ℕ) → joined_in o ≡ Some joined → is_some o ≡ true
some_seat None joined h = absurd (cc (h))
some_seat (Some seat) joined h = refl

pub seat_placed : (s : SessionsSeen) (sid : Sid) → IsJoined s sid → (0 < sid.number) × (sid.number ≤ length s.seats)
seat_placed s sid h = some_slot s.seats sid.number (some_seat (slot_at s.seats sid.number) sid.joined h)

some_lacking : (o : Option Seat) → lacks_second o ≡ true → is_some o ≡ true
some_lacking None h = absurd (cc (h))
some_lacking (Some seat) h = refl

pub joined_once : (o : Option Seat) (j : ℕ) → joined_in o ≡ Some j → (seat_in o).joined ≡ j
joined_once None j h = absurd (cc (h))
joined_once (Some seat) j h = cc (h)

-- a seat is another, by which the same session is joined, and is not cleared where it wasn't
pub keeps_seat : (p q : Panel) (n : ℕ) (v : Seat) → 0 < n → n ≤ length p.sessions.seats → v.joined ≡ (seat_of p.sessions n).joined
    → ((seat_of p.sessions n).clearing ≡ false → v.clearing ≡ false) → q.sessions ≡ with_seat p.sessions n (Some v)
    → (is_running p ≡ true → is_running q ≡ true) → Keeps p q
keeps_seat p q n v low high j c is r = record {
  joined = joined;
  clear = clear;
  locks = ap (λ (x : SessionsSeen). x.locks) is;
  scan = r;
}
  where
    seats : List (Option Seat)
    seats = p.sessions.seats

    joined : (sid : Sid) → IsJoined p.sessions sid → IsJoined q.sessions sid
    joined sid h =
        subst (λ (x : SessionsSeen). IsJoined x sid) (sym is) (elim (slot_cases seats n sid.number (Some v) low high) [
          | inl e ↦ ap joined_in e.1
              ∙ ap Some (j ∙ joined_once (slot_at seats n) sid.joined (subst (λ (m : ℕ). joined_in (slot_at seats m) ≡ Some sid.joined) e.0 h))
          | inr e ↦ ap joined_in e.1 ∙ h
        ])

    clear : (sid : Sid) → IsJoined p.sessions sid → is_clearing p.sessions sid.number ≡ false → is_clearing q.sessions sid.number ≡ false
    clear sid h k =
        subst (λ (x : SessionsSeen). is_clearing x sid.number ≡ false) (sym is) (elim (slot_cases seats n sid.number (Some v) low high) [
          | inl e ↦ ap (λ (o : Option Seat). (seat_in o).clearing) e.1 ∙ c (subst (λ (m : ℕ). (seat_of p.sessions m).clearing ≡ false) e.0 k)
          | inr e ↦ ap (λ (o : Option Seat). (seat_in o).clearing) e.1 ∙ k
        ])

-- a session comes to a seat that nobody had
pub keeps_joined : (p q : Panel) (n : ℕ) (v : Seat) → IsLeastFree p.sessions n → q.sessions ≡ with_seat p.sessions n (Some v)
    → (is_running p ≡ true → is_running q ≡ true) → Keeps p q
keeps_joined p q n v free is r = record {
  joined = λ sid h. subst (λ (x : SessionsSeen). IsJoined x sid) (sym is) (ap joined_in (other sid h) ∙ h);
  clear = λ sid h k. subst
      (λ (x : SessionsSeen). is_clearing x sid.number ≡ false)
      (sym is)
      (ap (λ (o : Option Seat). (seat_in o).clearing) (other sid h) ∙ k);
  locks = ap (λ (x : SessionsSeen). x.locks) is;
  scan = r;
}
  where
    seats : List (Option Seat)
    seats = p.sessions.seats

    taken : (sid : Sid) → IsJoined p.sessions sid → sid.number ≡ n → ⊥
    taken sid h e =
        let none : joined_in (slot_at seats sid.number) ≡ None = ap (λ (m : ℕ). joined_in (slot_at seats m)) e ∙ ap joined_in free.free in
        let some : joined_in (slot_at seats sid.number) ≡ Some sid.joined = h in cc (none, some)

    other : (sid : Sid) → IsJoined p.sessions sid → slot_at (with_seat p.sessions n (Some v)).seats sid.number ≡ slot_at seats sid.number
    other sid h = slot_set_other seats n sid.number (Some v) (omega (arith, free.first)) (taken sid h)

-- a session gets its second channel
pub keeps_attached : (p q : Panel) (n : ℕ) (sid : Sid) → Attaches p.sessions n sid q.sessions → (is_running p ≡ true → is_running q ≡ true) → Keeps p q
keeps_attached p q n sid h r =
    let b = some_slot p.sessions.seats n (some_lacking (slot_at p.sessions.seats n) h.lacks) in
    keeps_seat p q n (record (seat_of p.sessions n) { attached = true }) b.0 b.1 refl (λ c. c) h.after r
