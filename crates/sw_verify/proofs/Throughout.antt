-- What holds at each moment of a list of items.
use Rattle.std.proofs.Common.{◌≡◌, ℕ, zero, suc, ◌≤◌, true, not, List, [], ◌∷◌, take, refl, sym, ◌∙◌, subst, ⊎_elim, arith, length, append-nil, ◌<◌}
use Rattle.std.proofs.lemmas.Bool.{or_cases, and_parts}
use Rattle.sw_channel.specs.Positions.{Position}
use Rattle.sw_base.specs.Layout.{Channel, Layout, is_present, IsClash, IsExclusive}
use Rattle.sw_trigger.specs.Settings.{SettingsSeen}
use Rattle.sw_trigger.specs.Agenda.{Item, Awaits, Close, Open, agenda}
use Rattle.sw_trigger.specs.Counts.{reads}
use Rattle.sw_verify.specs.Channels.{same_channel, Channels, none, with_channel, without, with_each, without_each}
use Rattle.sw_verify.specs.Sound.{CanCloseOne, CanCloseEach, AllRight, effect, IsSound}
use Rattle.sw_verify.specs.Moments.{IsListed, AtMostOneMore}
use Rattle.sw_verify.proofs.Round.{same_channel_is, round-turns}

pub clash_back : (layout : Layout) (a b : Channel) → IsClash layout a b → IsClash layout b a
clash_back layout a b k = record { other = λ e. k.other (sym e); grouped = λ e. k.grouped (k.same ∙ e); same = sym k.same }

-- closing what can be closed, and opening, leave no two that clash
pub exclusive_with : (layout : Layout) (b : Channels) (c : Channel) → CanCloseOne layout b c → IsExclusive layout b → IsExclusive layout (with_channel c b)
exclusive_with layout b c can e = record {
  present = λ x h.
      ⊎_elim (λ (s : same_channel c x ≡ true). subst (λ (y : Channel). is_present layout y ≡ true) (same_channel_is c x s) can.present)
      (λ (h : b x ≡ true). e.present x h) (or_cases (same_channel c x) (b x) h);
  apart = λ x y h g k.
      ⊎_elim
      (λ (s : same_channel c x ≡ true). let cx = same_channel_is c x s in
      ⊎_elim (λ (t : same_channel c y ≡ true). k.other (sym cx ∙ same_channel_is c y t))
      (λ (g : b y ≡ true). can.apart y g (subst (λ (z : Channel). IsClash layout z y) (sym cx) k))
      (or_cases (same_channel c y) (b y) g))
      (λ (h : b x ≡ true).
      ⊎_elim (λ (t : same_channel c y ≡ true).
      can.apart x h (clash_back layout x c (subst (λ (z : Channel). IsClash layout x z) (sym (same_channel_is c y t)) k)))
      (λ (g : b y ≡ true). e.apart x y h g k)
      (or_cases (same_channel c y) (b y) g))
      (or_cases (same_channel c x) (b x) h);
}

pub exclusive_without : (layout : Layout) (b : Channels) (c : Channel) → IsExclusive layout b → IsExclusive layout (without c b)
exclusive_without layout b c e = record {
  present = λ x h. e.present x (and_parts (not (same_channel c x)) (b x) h).1;
  apart = λ x y h g k. e.apart x y (and_parts (not (same_channel c x)) (b x) h).1 (and_parts (not (same_channel c y)) (b y) g).1 k;
}

exclusive_with_each : (layout : Layout) (b : Channels) (p : Position) → CanCloseEach layout b p → IsExclusive layout b → IsExclusive layout (with_each p b)
exclusive_with_each layout b [] k e = e
exclusive_with_each layout b (c ∷ p) k e = exclusive_with_each layout (with_channel c b) p k.1 (exclusive_with layout b c k.0 e)

exclusive_without_each : (layout : Layout) (b : Channels) (p : Position) → IsExclusive layout b → IsExclusive layout (without_each p b)
exclusive_without_each layout b [] e = e
exclusive_without_each layout b (c ∷ p) e = exclusive_without_each layout (without c b) p (exclusive_without layout b c e)

pub exclusive_throughout : (layout : Layout) (b mine : Channels) (items : List Item) → AllRight layout b mine items → IsExclusive layout b → (i : ℕ)
    → IsExclusive layout (effect b (take i items))
exclusive_throughout layout b mine items h e zero = e
exclusive_throughout layout b mine [] h e (suc i) = e
exclusive_throughout layout b mine (Awaits w ∷ items) h e (suc i) = exclusive_throughout layout b mine items h e i
exclusive_throughout layout b mine (Close p ∷ items) h e (suc i) =
    exclusive_throughout layout (with_each p b) (with_each p mine) items h.1 (exclusive_with_each layout b p h.0 e) i
exclusive_throughout layout b mine (Open p ∷ items) h e (suc i) =
    exclusive_throughout layout (without_each p b) (without_each p mine) items h.1 (exclusive_without_each layout b p e) i

pub reads_so_far : (items : List Item) (i : ℕ) → reads (take i items) ≤ reads items
reads_so_far items zero = omega arith
reads_so_far [] (suc i) = omega arith
reads_so_far (Awaits w ∷ items) (suc i) = omega (arith, reads_so_far items i)
reads_so_far (Close c ∷ items) (suc i) = reads_so_far items i
reads_so_far (Open c ∷ items) (suc i) = reads_so_far items i

-- a sound agenda closes one position at a time
pub one_at_a_time : (layout : Layout) (b : Channels) (room : ℕ) (s : SettingsSeen) → 0 < length s.list → IsSound layout b room (agenda s) → (i : ℕ)
    → AtMostOneMore (IsListed s.list) b (effect b (take i (agenda s)))
one_at_a_time layout b room s listed w =
    let r = round-turns layout b (IsListed s.list) s (λ k. (k, refl)) listed in
    r.moments (r.needs [] (subst (λ (l : List Item). AllRight layout b none l) (sym (append-nil (agenda s))) w.right)).0
