-- What `==` tells of layers and lists of channels, and two settings of the same parts.
use Rattle.std.proofs.Common.{◌≡◌, ℕ, Bool, true, false, not, ◌&&◌, eqb, List, [], ◌∷◌, ◌++◌, ◌-◌, length, take, replicate, refl, sym, ap, ◌∙◌}
use Rattle.std.specs.Bool.{Decides}
use Rattle.std.specs.Cmp.Lexicographic.{pointwise}
use Rattle.std.proofs.lemmas.Bool.Decides.{Decides-eqb, Decides-and, Decides-like}
use Rattle.std.proofs.lemmas.Slice.Eq.{slice_eq-Decides}
use denote.Enum.Bare.{sameb, same_true, true_same}
use Rattle.sw_base.specs.Layout.{Channel}
use Rattle.sw_channel.specs.Positions.{Position, most_joined}
use Rattle.sw_channel.specs.PositionSeen.{first_of, filled}
use Rattle.sw_base.specs.contracts.terms.Source.{the_type}
use Rattle.sw_base.specs.declared.terms.Source.{Source}
use Rattle.sw_trigger.specs.declared.layer.Layer.{Layer}
use Rattle.sw_trigger.specs.Settings.{SettingsSeen}

abbrev same_source : Source → Source → Bool
same_source a b = sameb the_type a b

source_decides : (a b : Source) → Decides (same_source a b) (a ≡ b)
source_decides a b = (same_true the_type tt a b, true_same the_type a b)

abbrev layer : ℕ → Source → ℕ → ℕ → Layer
layer count source delay timer = record { count = count; source = source; delay_us = delay; timer_us = timer }

same_layer : (a b : Layer) → (a.count ≡ b.count) × (a.source ≡ b.source) × (a.delay_us ≡ b.delay_us) × (a.timer_us ≡ b.timer_us) → a ≡ b
same_layer a b e =
    ap (λ n. layer n a.source a.delay_us a.timer_us) e.0 ∙ ap (λ s. layer b.count s a.delay_us a.timer_us) e.1
    ∙ ap (λ n. layer b.count b.source n a.timer_us) e.2 ∙ ap (λ n. layer b.count b.source b.delay_us n) e.3

not_other : (b : Bool) → not b ≡ false → b ≡ true
not_other true h = refl
not_other false h = sym h

all_four : (a b c d : Bool) → (a && (b && (c && d))) ≡ true → (a ≡ true) × (b ≡ true) × (c ≡ true) × (d ≡ true)
all_four true true true d h = (refl, refl, refl, h)
all_four true true false d h = cc
all_four true false c d h = cc
all_four false b c d h = cc

abbrev layers_test : Layer → Layer → Bool
layers_test a b = eqb a.count b.count && (same_source a.source b.source && (eqb a.delay_us b.delay_us && eqb a.timer_us b.timer_us))

layer_back : (a b : Layer) → layers_test a b ≡ true → a ≡ b
layer_back a b e =
    let t = all_four (eqb a.count b.count) (same_source a.source b.source) (eqb a.delay_us b.delay_us) (eqb a.timer_us b.timer_us) e in
    same_layer a b (
      (Decides-eqb a.count b.count).0 t.0,
      (source_decides a.source b.source).0 t.1,
      (Decides-eqb a.delay_us b.delay_us).0 t.2,
      (Decides-eqb a.timer_us b.timer_us).0 t.3,
    )

test_refl : (a : Layer) → layers_test a a ≡ true
test_refl a =
    rw (
      (Decides-eqb a.count a.count).1 refl,
      (source_decides a.source a.source).1 refl,
      (Decides-eqb a.delay_us a.delay_us).1 refl,
      (Decides-eqb a.timer_us a.timer_us).1 refl,
    ) refl

layer_decides : (a b : Layer) → Decides (layers_test a b) (a ≡ b)
layer_decides a b = (layer_back a b, λ e. ap (layers_test a) (sym e) ∙ test_refl a)

-- what `a != b` tells where it is false, of a layer and of a row of them
pub layer_same : (r : Bool) (a b : Layer) → r ≡ not (layers_test a b) → r ≡ false → a ≡ b
layer_same r a b e f = layer_back a b (not_other (layers_test a b) (sym e ∙ f))

pub layers_same : (r : Bool) (xs ys : List Layer) → r ≡ not (pointwise layers_test xs ys) → r ≡ false → xs ≡ ys
layers_same r xs ys e f = (slice_eq-Decides layer_decides xs ys (pointwise layers_test xs ys) refl).0 (not_other (pointwise layers_test xs ys) (sym e ∙ f))

pub layer_other : (r : Bool) (a b : Layer) → r ≡ not (layers_test a b) → r ≡ true → a ≡ b → ⊥
layer_other r a b e f g = absurd (cc (sym f ∙ e ∙ ap not ((layer_decides a b).1 g)))

pub layers_other : (r : Bool) (xs ys : List Layer) → r ≡ not (pointwise layers_test xs ys) → r ≡ true → xs ≡ ys → ⊥
layers_other r xs ys e f g = absurd (cc (sym f ∙ e ∙ ap not ((slice_eq-Decides layer_decides xs ys (pointwise layers_test xs ys) refl).1 g)))

abbrev same_channel : Channel → Channel → Bool
same_channel a b = eqb a.0 b.0 && eqb a.1 b.1

pub channel_decides : (a b : Channel) → Decides (same_channel a b) (a ≡ b)
channel_decides a b =
    Decides-like (same_channel a b) (λ (e : (a.0 ≡ b.0) × (a.1 ≡ b.1)). ap (λ (n : ℕ). let c : Channel = (n, a.1) in c) e.0
    ∙ ap (λ (n : ℕ). let c : Channel = (b.0, n) in c) e.1)
    (λ (e : a ≡ b). (
      ap (λ (c : Channel). c.0) e,
      ap (λ (c : Channel). c.1) e,
    )) (Decides-and (eqb a.0 b.0) (eqb a.1 b.1) (Decides-eqb a.0 b.0) (Decides-eqb a.1 b.1))

pub channels_decide : (xs ys : List Channel) (r : Bool) → r ≡ pointwise same_channel xs ys → Decides r (xs ≡ ys)
channels_decide = slice_eq-Decides channel_decides

channels_sides : (xs ys : List Channel) → Decides (pointwise same_channel xs ys) (xs ≡ ys)
channels_sides xs ys = channels_decide xs ys (pointwise same_channel xs ys) refl

take_front : (p r : List Channel) → take (length p) (p ++ r) ≡ p
take_front [] r = refl
take_front (c ∷ p) r = ap (λ (l : List Channel). c ∷ l) (take_front p r)

-- what `==` of two positions looks at: their channels, filled up, and how many they are
abbrev same_position : Position → Position → Bool
same_position a b = pointwise same_channel (filled a) (filled b) && eqb (length a) (length b)

pub position_decides : (a b : Position) → Decides (same_position a b) (a ≡ b)
position_decides a b =
    Decides-like (same_position a b) (λ (e : (filled a ≡ filled b) × (length a ≡ length b)).
    sym (take_front a (replicate (most_joined - length a) (first_of a)))
    ∙ ap (λ (l : List Channel). take (length a) l) e.0 ∙ ap (λ (n : ℕ). take n (filled b)) e.1
    ∙ take_front b (replicate (most_joined - length b) (first_of b)))
    (λ (e : a ≡ b). (ap filled e, ap length e))
    (Decides-and (pointwise same_channel (filled a) (filled b)) (eqb (length a) (length b)) (channels_sides (filled a) (filled b))
    (Decides-eqb (length a) (length b)))

pub positions_decide : (xs ys : List Position) (r : Bool) → r ≡ pointwise same_position xs ys → Decides r (xs ≡ ys)
positions_decide = slice_eq-Decides position_decides

abbrev setup : List Layer → Layer → List Position → ℕ → ℕ → ℕ → SettingsSeen
setup arms trigger list meter points settle =
    record { arms = arms; trigger = trigger; list = list; meter = meter; points = points; settle_us = settle }

pub same_setup : (a b : SettingsSeen) → a.arms ≡ b.arms → a.trigger ≡ b.trigger → a.list ≡ b.list → a.meter ≡ b.meter → a.points ≡ b.points
    → a.settle_us ≡ b.settle_us → a ≡ b
same_setup a b arms trigger list meter points settle =
    ap (λ x. setup x a.trigger a.list a.meter a.points a.settle_us) arms
    ∙ ap (λ x. setup b.arms x a.list a.meter a.points a.settle_us) trigger
    ∙ ap (λ x. setup b.arms b.trigger x a.meter a.points a.settle_us) list
    ∙ ap (λ x. setup b.arms b.trigger b.list x a.points a.settle_us) meter
    ∙ ap (λ x. setup b.arms b.trigger b.list b.meter x a.settle_us) points
    ∙ ap (λ x. setup b.arms b.trigger b.list b.meter b.points x) settle
