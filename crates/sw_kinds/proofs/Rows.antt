-- A row's account by its mask: after one channel was set, and after all were opened.
use Rattle.std.proofs.Common.{◌≡◌, ◌≢◌, ℕ, ◌≤◌, Bool, true, false, List, length, replicate, sym, ap, ◌∙◌, arith, IsTrue, Result, Ok, Err, OnErr}
use Rattle.std.proofs.Common.{inl, inr, ◌==◌}
use Rattle.std.proofs.lemmas.Bool.{cases_Bool}
use Rattle.std.proofs.lemmas.List.{length-replicate}
use Rattle.std.proofs.lemmas.Grind.{common_steps}
use Rattle.sw_base.specs.Layout.{has_channel}
use Rattle.sw_card.specs.Account.{Account, relay_account, closed_at, set_closed, none_closed, with_set, at_rest, IsWithin}
use Rattle.sw_card.specs.Mask.{in_mask, states_of}
use Rattle.sw_card.proofs.Bits.{split_at}
use Rattle.sw_card.proofs.Masks.{length-states, states_none, states_set, closed_states, closed_states_past}
use Rattle.sw_card.proofs.Rows.{none_replicate, within_same}
use Rattle.sw_kinds.specs.Row.{HoldsDriven, failure_counted}

-- after all channels were opened
pub account_none : (old : Account) (serial failures n group mask empty : ℕ) → relay_account serial failures (replicate n group) (states_of mask n) ≡ old
    → ((ch : ℕ) → in_mask empty ch ≡ false) → relay_account serial failures (replicate n group) (states_of empty n) ≡ at_rest old
account_none old serial failures n group mask empty e h =
    let k : replicate n false ≡ none_closed (states_of mask n) =
    sym (ap (λ m. replicate m false) (length-states mask n)) ∙ none_replicate (states_of mask n) in
    ap (λ l. relay_account serial failures (replicate n group) l) (states_none empty n h ∙ k) ∙ ap at_rest e

-- after one channel was set
account_at : (old : Account) (serial failures n group mask new ch : ℕ) (on : Bool) → relay_account serial failures (replicate n group) (states_of mask n) ≡ old
    → 1 ≤ ch → ch ≤ n → in_mask new ch ≡ on → ((k : ℕ) → k ≢ ch → in_mask new k ≡ in_mask mask k)
    → relay_account serial failures (replicate n group) (states_of new n) ≡ with_set old ch on
account_at old serial failures n group mask new ch on e some few here others =
    ap (λ l. relay_account serial failures (replicate n group) l) (states_set mask new n ch on some few here others) ∙ ap (λ a. with_set a ch on) e

has_both : (groups : List ℕ) (ch : ℕ) → IsTrue (has_channel groups ch) → (1 ≤ ch) × (ch ≤ length groups)
has_both groups ch h = grind (arith, common_steps)

-- a channel that the card has is one of the row's
pub in_row : (old : Account) (serial failures n group mask ch : ℕ) → relay_account serial failures (replicate n group) (states_of mask n) ≡ old
    → IsTrue (has_channel old.groups ch) → (1 ≤ ch) × (ch ≤ n)
in_row old serial failures n group mask ch e h =
    let b : (1 ≤ ch) × (ch ≤ length old.groups) = has_both old.groups ch h in
    let l : length old.groups ≡ n = ap (λ (a : Account). length a.groups) (sym e) ∙ length-replicate n group in
    (b.0, omega (arith, b.1, l))

pub account_set : (old : Account) (serial failures n group mask new ch : ℕ) → relay_account serial failures (replicate n group) (states_of mask n) ≡ old
    → IsTrue (has_channel old.groups ch) → in_mask new ch ≡ true → ((k : ℕ) → k ≢ ch → in_mask new k ≡ in_mask mask k)
    → relay_account serial failures (replicate n group) (states_of new n) ≡ with_set old ch true
account_set old serial failures n group mask new ch e h here others =
    let b = in_row old serial failures n group mask ch e h in
    account_at old serial failures n group mask new ch true e b.0 b.1 here others

-- a channel that is closed is one of the row's
some_closed : (closed : List Bool) (ch : ℕ) → closed_at closed ch ≡ true → 1 ≤ ch
some_closed closed ch h = grind (arith, common_steps)

pub closed_in_row : (old : Account) (serial failures n group mask ch : ℕ) → relay_account serial failures (replicate n group) (states_of mask n) ≡ old
    → closed_at old.closed ch ≡ true → (1 ≤ ch) × (ch ≤ n)
closed_in_row old serial failures n group mask ch e h =
    let k : closed_at (states_of mask n) ch ≡ true = ap (λ (a : Account). closed_at a.closed ch) e ∙ h in (
      some_closed (states_of mask n) ch k,
      elim (split_at ch n) [
        | inl few ↦ few
        | inr past ↦ absurd (let no : true ≡ false = sym k ∙ closed_states_past mask n ch past in cc)
      ],
    )

pub account_clear : (old : Account) (serial failures n group mask new ch : ℕ) → relay_account serial failures (replicate n group) (states_of mask n) ≡ old
    → closed_at old.closed ch ≡ true → in_mask new ch ≡ false → ((k : ℕ) → k ≢ ch → in_mask new k ≡ in_mask mask k)
    → relay_account serial failures (replicate n group) (states_of new n) ≡ with_set old ch false
account_clear old serial failures n group mask new ch e h here others =
    let b = closed_in_row old serial failures n group mask ch e h in
    account_at old serial failures n group mask new ch false e b.0 b.1 here others

-- what is driven stays among the closed channels while it stays in the mask
kept : (driven : ℕ → Bool) (n mask new : ℕ) → HoldsDriven driven n mask
    → ((k : ℕ) → driven k ≡ true → in_mask mask k ≡ true → in_mask new k ≡ true) → HoldsDriven driven n new
kept driven n mask new h stays = record {
  some = h.some;
  few = h.few;
  held = λ k on. elim (split_at k n) [
    | inl few ↦ closed_states new n k few ∙ stays k on (sym (closed_states mask n k few) ∙ h.held k on)
    | inr past ↦ absurd (let no : true ≡ false = sym (h.held k on) ∙ closed_states_past mask n k past in cc)
  ];
}

pub kept_set : (driven : ℕ → Bool) (n mask new ch : ℕ) → HoldsDriven driven n mask → in_mask new ch ≡ true
    → ((k : ℕ) → k ≢ ch → in_mask new k ≡ in_mask mask k) → HoldsDriven driven n new
kept_set driven n mask new ch h here others = kept driven n mask new h (λ k on inside. elim (cases_Bool (k == ch)) [
  | inl same ↦ let e : k ≡ ch = grind (arith, common_steps, same) in rw e here
  | inr other ↦ others k (λ e. grind (arith, common_steps, other, e)) ∙ inside
])

pub kept_clear : (driven : ℕ → Bool) (n mask new ch : ℕ) → HoldsDriven driven n mask → driven ch ≡ false
    → ((k : ℕ) → k ≢ ch → in_mask new k ≡ in_mask mask k) → HoldsDriven driven n new
kept_clear driven n mask new ch h off others = kept driven n mask new h (λ k on inside.
    others k (λ e. let no : true ≡ false = sym on ∙ ap driven e ∙ off in cc) ∙ inside)

-- after a fault nothing is closed but what might be, since exactly that is
pub within_set : {T E : Type 0} (result : Result T E) (old new : Account) (ch : ℕ) (on : Bool) → OnErr result (new ≡ failure_counted (with_set old ch on))
    → OnErr result (IsWithin new.closed (set_closed old.closed ch on))
within_set (Ok x) old new ch on h = tt
within_set (Err e) old new ch on h = rw (ap (λ (a : Account). a.closed) h) (within_same (set_closed old.closed ch on))

pub within_old : {T E : Type 0} (result : Result T E) (old new : Account) → OnErr result (new ≡ failure_counted old)
    → OnErr result (IsWithin new.closed old.closed)
within_old (Ok x) old new h = tt
within_old (Err e) old new h = rw (ap (λ (a : Account). a.closed) h) (within_same old.closed)
