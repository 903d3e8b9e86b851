-- What is noted of one session leaves what is noted of every other.
use Rattle.std.proofs.Common.{◌≡◌, ◌≢◌, ℕ, ◌<◌, ◌≤◌, inl, inr, Bool, true, false, length, Option, Some, None, refl, sym, ap, ◌∙◌, arith}
use Rattle.std.specs.Prelude.{if◌then◌else◌}
use Rattle.sw_base.specs.Limits.{most_sessions}
use Rattle.sw_base.specs.Layout.{slot_at}
use Rattle.sw_cage.proofs.SlotChangeLemmas.{slot_cases}
use Rattle.sw_core.specs.declared.ask.Sid.{Sid}
use Rattle.sw_talk.specs.declared.available.Mark.{Mark}
use Rattle.sw_talk.specs.Available.{Notes, NoteLeavesOthers, is_available, is_joined, is_joined_after, has_message, is_number, with_mark}

-- a session has no message where another one has joined
unlike : (joined other : ℕ) (mark : Option Mark) → joined ≢ other → is_joined_after joined mark ≡ true → has_message other mark ≡ false
unlike joined other None differs is = refl
unlike joined other (Some mark) differs is = grind arith

-- sessions of one number differ by when they joined
joined-apart : (sid other : Sid) → sid ≢ other → other.number ≡ sid.number → sid.joined ≢ other.joined
joined-apart sid other differs number = λ same.
    differs (ap (λ (n : ℕ). let s : Sid = record { number = n; joined = sid.joined } in s) (sym number)
    ∙ ap (λ (n : ℕ). let s : Sid = record { number = other.number; joined = n } in s) same)

leaves-number : (notes : Notes) (sid other : Sid) (mark : Option Mark) (n : Bool) → length notes ≡ most_sessions → sid ≢ other → is_number sid.number ≡ n
    → is_joined_after sid.joined mark ≡ true → is_joined notes sid ≡ true
    → has_message other.joined (slot_at (with_mark notes sid.number mark) other.number) ≡ is_available notes other
leaves-number notes sid other mark false long differs in_range is was = rw in_range refl
leaves-number notes sid other mark true long differs in_range is was =
    let from_one : 0 < sid.number = grind arith in
    let to_most : sid.number ≤ length notes = grind arith in
    rw in_range (elim (slot_cases notes sid.number other.number mark from_one to_most) [
      | inl e ↦ ap (λ (m : Option Mark). has_message other.joined m) e.1
          ∙ unlike sid.joined other.joined mark (joined-apart sid other differs e.0) is
          ∙ sym (ap (λ (k : ℕ). has_message other.joined (slot_at notes k)) e.0
          ∙ unlike sid.joined other.joined (slot_at notes sid.number) (joined-apart sid other differs e.0) was)
      | inr e ↦ ap (λ (m : Option Mark). has_message other.joined m) e.1
    ])

leaves-by : (notes : Notes) (sid other : Sid) (mav : Bool) (j : Bool) → length notes ≡ most_sessions → sid ≢ other → is_joined notes sid ≡ j
    → is_available (if j then with_mark notes sid.number (Some (record { joined = sid.joined; mav = mav })) else notes) other ≡ is_available notes other
leaves-by notes sid other mav false long differs was = refl
leaves-by notes sid other mav true long differs was =
    leaves-number notes sid other (Some (record { joined = sid.joined; mav = mav })) (is_number sid.number) long differs refl (grind arith) was

pub note-leaves-others : NoteLeavesOthers
note-leaves-others notes sid other mav long differs = leaves-by notes sid other mav (is_joined notes sid) long differs refl
