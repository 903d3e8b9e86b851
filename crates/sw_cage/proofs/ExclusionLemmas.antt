-- What keeps the cards exclusive, told by what the cage's calls promise.
use Rattle.std.proofs.Common.{◌≡◌, Bool, true, false, List, length, inl, inr, sym, ◌∙◌, ap, subst, ◌∷◌, [], if◌then◌else◌}
use Rattle.std.proofs.lemmas.Bool.{and_parts, or_cases, or_left, or_right}
use Rattle.std.proofs.lemmas.List.{length-map}
use Rattle.std.specs.List.{list_all}
use Rattle.sw_base.specs.Layout.{Channel, is_present, IsExclusive}
use Rattle.sw_verify.specs.Channels.{same_channel, is_among}
use Rattle.sw_verify.proofs.Round.{same_channel_is}
use Rattle.sw_cage.specs.Accounts.{Accounts, layout_of, is_closed, option_rest, all_open}
use Rattle.sw_cage.specs.Change.{Sets, identity, IsDisturbed}
use Rattle.sw_cage.specs.Close.{closed_with, CanClose}
use Rattle.sw_cage.proofs.SlotChangeLemmas.{exclusive_none, all_open_closed}
use Rattle.sw_cage.proofs.ChannelCallLemmas.{sets_layout, sets_closed}

pub sets_length : (old new : Accounts) (chans : List Channel) (on : Bool) → Sets old chans on new → length new ≡ length old
sets_length old new chans on s = sym (length-map new option_rest) ∙ ap length s.rest ∙ length-map old option_rest

pub disturbed_length : (old new : Accounts) (chans : List Channel) → IsDisturbed old chans new → length new ≡ length old
disturbed_length old new chans d = sym (length-map new identity) ∙ ap length d.cards ∙ length-map old identity

all_in : (p : Channel → Bool) (chans : List Channel) (c : Channel) → list_all p chans ≡ true → is_among chans c ≡ true → p c ≡ true
all_in p [] c all h = absurd (cc)
all_in p (x ∷ chans) c all h = elim (or_cases (same_channel c x) (is_among chans c) h) [
  | inl s ↦ ap p (same_channel_is c x s) ∙ (and_parts (p x) (list_all p chans) all).0
  | inr i ↦ all_in p chans c (and_parts (p x) (list_all p chans) all).1 i
]

closed_too : (old new : Accounts) (chans : List Channel) → Sets old chans true new → (c : Channel) → is_closed new c ≡ true
    → closed_with (is_closed old) chans c ≡ true
closed_too old new chans sets c k = elim (sets_closed old new chans true sets c k)
    [ inl o ↦ or_right (is_among chans c) (is_closed old c) o | inr i ↦ or_left (is_among chans c) (is_closed old c) i ]

-- channels that may be closed together are closed
pub exclusive_closing : (old new : Accounts) (chans : List Channel) → IsExclusive (layout_of old) (is_closed old)
    → CanClose (layout_of old) (is_closed old) chans
    → Sets old chans true new → IsExclusive (layout_of new) (is_closed new)
exclusive_closing old new chans safe can sets = subst (λ l. IsExclusive l (is_closed new)) (sym (sets_layout old new chans true sets)) (record {
  present = λ c k. elim (sets_closed old new chans true sets c k)
      [ inl o ↦ safe.present c o | inr i ↦ all_in (is_present (layout_of old)) chans c can.present i ];
  apart = λ a b ka kb clash. can.apart (record {
    one = a;
    other = b;
    one_closed = closed_too old new chans sets a ka;
    other_closed =
        closed_too old new chans sets b kb;
    clash = clash;
  });
})

if_false : (a r m : Bool) → m ≡ (if a then false else r) → m ≡ true → r ≡ true
if_false true r m e h = cc
if_false false r m e h = sym e ∙ h

-- channels are opened
pub exclusive_opening : (old new : Accounts) (chans : List Channel) → IsExclusive (layout_of old) (is_closed old) → Sets old chans false new
    → IsExclusive (layout_of new) (is_closed new)
exclusive_opening old new chans safe sets = subst (λ l. IsExclusive l (is_closed new)) (sym (sets_layout old new chans false sets)) (record {
  present = λ c k. safe.present c (if_false (is_among chans c) (is_closed old c) (is_closed new c) (sets.closed c) k);
  apart = λ a b ka kb clash. safe.apart a b (if_false (is_among chans a) (is_closed old a) (is_closed new a) (sets.closed a) ka)
      (if_false (is_among chans b) (is_closed old b) (is_closed new b) (sets.closed b) kb) clash;
})

-- every relay is opened
pub exclusive_all_open : (rack : Accounts) → IsExclusive (layout_of (all_open rack)) (is_closed (all_open rack))
exclusive_all_open rack = exclusive_none (layout_of (all_open rack)) (is_closed (all_open rack)) (all_open_closed rack)
