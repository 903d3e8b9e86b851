-- The cage's cards by slot, those that are out among them.
use Rattle.std.proofs.Common.{◌≡◌, ℕ, zero, suc, ◌-◌, ◌<◌, Bool, true, false, List, [], ◌∷◌, length, Option, None, Some, slice_index_or, slice_set, refl, sym}
use Rattle.std.proofs.Common.{◌∙◌, ap, arith, nat_lt, if◌then◌else◌}
use Rattle.std.proofs.lemmas.List.{map-set, length-map}
use Rattle.sw_base.specs.Layout.{Channel, SlotContents, meter, Layout, slot_at, contents_have, contents_group, contents_are_meter, is_present, group_of}
use Rattle.sw_base.specs.Layout.{has_meter, IsClash}
use Rattle.sw_card.specs.Account.{Account, MeterAccount, of_meter}
use Rattle.sw_cage.specs.Accounts.{Accounts, slot_contents, layout_of}
use Rattle.sw_cage.specs.Cage.{or_meter, layout_with}
use Rattle.sw_cage.specs.declared.job.Ticket.{Ticket}
use Rattle.sw_cage.proofs.SlotChangeLemmas.{slot_get, slot_layout}

or_has : (b : Option SlotContents) (t : Option Ticket) (ch : ℕ) → contents_have (or_meter b t) ch ≡ contents_have b ch
or_has None None ch = refl
or_has None (Some t) ch = refl
or_has (Some b) t ch = refl

or_group : (b : Option SlotContents) (t : Option Ticket) (ch : ℕ) → contents_group (or_meter b t) ch ≡ contents_group b ch
or_group None None ch = refl
or_group None (Some t) ch = refl
or_group (Some b) t ch = refl

pub or_in : (b : Option SlotContents) → or_meter b None ≡ b
or_in None = refl
or_in (Some b) = refl

with_index : (bays : Layout) (out : List (Option Ticket)) (i : ℕ) → length out ≡ length bays
    → slice_index_or (layout_with bays out) i None ≡ or_meter (slice_index_or bays i None) (slice_index_or out i None)
with_index [] [] i h = refl
with_index [] (t ∷ out) i h = absurd (omega arith)
with_index (b ∷ bays) [] i h = absurd (omega arith)
with_index (b ∷ bays) (t ∷ out) zero h = refl
with_index (b ∷ bays) (t ∷ out) (suc i) h = with_index bays out i (omega arith)

with_if : (b : Bool) (x y : Option SlotContents) (z : Option Ticket) → x ≡ or_meter y z
    → (if b then x else None) ≡ or_meter (if b then y else None) (if b then z else None)
with_if true x y z e = e
with_if false x y z e = refl

pub slot_with : (bays : Layout) (out : List (Option Ticket)) (s : ℕ) → length out ≡ length bays
    → slot_at (layout_with bays out) s ≡ or_meter (slot_at bays s) (slot_at out s)
slot_with bays out s h = with_if (nat_lt 0 s) (slice_index_or (layout_with bays out) (s - 1) None) (slice_index_or bays (s - 1) None)
    (slice_index_or out (s - 1) None) (with_index bays out (s - 1) h)

pub with_length : (bays : Layout) (out : List (Option Ticket)) → length (layout_with bays out) ≡ length bays
with_length [] out = refl
with_length (b ∷ bays) [] = ap suc (with_length bays [])
with_length (b ∷ bays) (t ∷ out) = ap suc (with_length bays out)

module _ (bays : Layout) (out : List (Option Ticket)) (h : length out ≡ length bays) where
  pub present_with : (c : Channel) → is_present (layout_with bays out) c ≡ is_present bays c
  present_with c = ap (λ b. contents_have b c.1) (slot_with bays out c.0 h) ∙ or_has (slot_at bays c.0) (slot_at out c.0) c.1

  pub group_with : (c : Channel) → group_of (layout_with bays out) c ≡ group_of bays c
  group_with c = ap (λ b. contents_group b c.1) (slot_with bays out c.0 h) ∙ or_group (slot_at bays c.0) (slot_at out c.0) c.1

  pub clash_with : (a b : Channel) → IsClash bays a b → IsClash (layout_with bays out) a b
  clash_with a b k = record { other = k.other; grouped = λ e. k.grouped (sym (group_with a) ∙ e); same = group_with a ∙ k.same ∙ sym (group_with b) }

  -- a meter that is not out is in its slot
  pub meter_in : (s : ℕ) → has_meter (layout_with bays out) s ≡ true → slot_at out s ≡ None → has_meter bays s ≡ true
  meter_in s m e = ap contents_are_meter (sym (slot_with bays out s h ∙ ap (or_meter (slot_at bays s)) e ∙ or_in (slot_at bays s))) ∙ m

-- a meter goes out

sent_index : (bays : Layout) (out : List (Option Ticket)) (i : ℕ) (t : Ticket) → length out ≡ length bays → slice_index_or bays i None ≡ Some meter
    → layout_with (slice_set bays i None) (slice_set out i (Some t)) ≡ layout_with bays out
sent_index [] out i t h e = absurd (cc)
sent_index (b ∷ bays) [] i t h e = absurd (omega arith)
sent_index (b ∷ bays) (u ∷ out) zero t h e = ap (λ (x : Option SlotContents). or_meter x u ∷ layout_with bays out) (sym e)
sent_index (b ∷ bays) (u ∷ out) (suc i) t h e = ap (λ (l : Layout). or_meter b u ∷ l) (sent_index bays out i t (omega arith) e)

-- a meter comes back
back_index : (bays : Layout) (out : List (Option Ticket)) (i : ℕ) (t : Ticket) → length out ≡ length bays → slice_index_or bays i None ≡ None
    → slice_index_or out i None ≡ Some t → layout_with (slice_set bays i (Some meter)) (slice_set out i None) ≡ layout_with bays out
back_index [] out i t h e f = refl
back_index (b ∷ bays) [] i t h e f = absurd (omega arith)
back_index (b ∷ bays) (u ∷ out) zero t h e f = ap (λ (x : Option SlotContents). x ∷ layout_with bays out)
    (sym (ap (λ (y : Option SlotContents). or_meter y u) e ∙ ap (λ (v : Option Ticket). or_meter None v) f))
back_index (b ∷ bays) (u ∷ out) (suc i) t h e f = ap (λ (l : Layout). or_meter b u ∷ l) (back_index bays out i t (omega arith) e f)

layout_set : (rack : Accounts) (i : ℕ) (v : Option Account) → layout_of (slice_set rack i v) ≡ slice_set (layout_of rack) i (slot_contents v)
layout_set rack i v = map-set slot_contents rack i v

pub layout_length : (rack : Accounts) → length (layout_of rack) ≡ length rack
layout_length rack = length-map rack slot_contents

pub layout_sent : (rack : Accounts) (out : List (Option Ticket)) (s : ℕ) (t : Ticket) (m : MeterAccount) → length out ≡ length rack → 0 < s
    → slot_at rack s ≡ Some (of_meter m)
    → layout_with (layout_of (slice_set rack (s - 1) None)) (slice_set out (s - 1) (Some t)) ≡ layout_with (layout_of rack) out
layout_sent rack out s t m h p e =
    ap (λ (l : Layout). layout_with l (slice_set out (s - 1) (Some t))) (layout_set rack (s - 1) None)
    ∙ sent_index (layout_of rack) out (s - 1) t (h ∙ sym (layout_length rack)) (sym (slot_get (layout_of rack) s p) ∙ slot_layout rack s ∙ ap slot_contents e)

pub layout_back : (rack : Accounts) (out : List (Option Ticket)) (s : ℕ) (t : Ticket) (m : MeterAccount) → length out ≡ length rack → 0 < s
    → slot_at rack s ≡ None
    → slot_at out s ≡ Some t
    → layout_with (layout_of (slice_set rack (s - 1) (Some (of_meter m)))) (slice_set out (s - 1) None) ≡ layout_with (layout_of rack) out
layout_back rack out s t m h p e f =
    ap (λ (l : Layout). layout_with l (slice_set out (s - 1) None)) (layout_set rack (s - 1) (Some (of_meter m)))
    ∙ back_index (layout_of rack) out (s - 1) t (h ∙ sym (layout_length rack)) (sym (slot_get (layout_of rack) s p) ∙ slot_layout rack s ∙ ap slot_contents e)
    (sym (slot_get out s p) ∙ f)
