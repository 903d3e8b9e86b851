-- Words of first lines and of layers.
use Rattle.std.proofs.Common.{◌≡◌, ℕ, zero, suc, ◌+◌, ◌-◌, ◌<◌, ◌≤◌, ◌^◌, Bool, true, false, cond, List, [], ◌∷◌, ◌++◌, refl, sym, ap, ◌∙◌}
use Rattle.std.proofs.Common.{arith}
use Rattle.std.specs.Prelude.{Some, Ok, Err, IfOk, codes, decimal, nat_lt, nat_le, ◌&&◌}
use Rattle.std.specs.List.{join_with_byte, list_all, slice_get}
use Rattle.std.specs.Str.{bytes_eq}
use Rattle.std.proofs.lemmas.Bool.{leb-true}
use Rattle.std.proofs.lemmas.Fmt.{decimal_digit, decimal_injective}
use Rattle.std.proofs.lemmas.Slice.Eq.{bytes_eq-Decides}
use Rattle.sw_base.specs.Layers.{arm_layers, arm_numbered, number_of}
use Rattle.sw_base.specs.Limits.{most_slots, most_arm_layers, most_counters}
use Rattle.sw_base.specs.declared.terms.ArmLayer.{ArmLayer}
use Rattle.sw_base.specs.declared.terms.ArmLayer.TheVariants.{First}
use Rattle.sw_base.specs.declared.terms.LayerName.{LayerName}
use Rattle.sw_base.specs.declared.terms.LayerName.TheVariants.{Arm, Trigger}
use Rattle.sw_channel.specs.Positions.{most_joined}
use Rattle.sw_code.specs.declared.fault.ListFault.TheVariants.{BadStep}
use Rattle.sw_code.specs.declared.version.Version.{Version}
use Rattle.sw_code.specs.Listing.{layer_word}
use Rattle.sw_code.specs.Versions.{older, newest, versions, version_among, version_in, first_parts, IsVersion}
use Rattle.sw_code.specs.Reading.{layer_among, layer_in}

-- ---- versions

abbrev first_line : Version → List ℕ
first_line v = join_with_byte 32 (first_parts v)

both : (a b : Bool) → (a && b) ≡ true → (a ≡ true) × (b ≡ true)
both true b h = (refl, h)
both false b h = absurd (cc h)

-- a version is in the instrument's range, as a test
abbrev is_version : Version → Bool
is_version v =
    nat_le v.slots most_slots && (nat_le v.arm_layers most_arm_layers
    && (nat_le 1 v.counters && (nat_le v.counters most_counters && nat_le v.joined most_joined)))

range_by_test : (v : Version) → is_version v ≡ true → IsVersion v
range_by_test v h =
    let slots = both _ _ h in
    let layers = both _ _ slots.1 in
    let some = both _ _ layers.1 in
    let counters = both _ _ some.1 in
    record {
      slots = leb-true v.slots most_slots slots.0;
      arm_layers = leb-true v.arm_layers most_arm_layers layers.0;
      some_counter = leb-true 1 v.counters some.0;
      counters = leb-true v.counters most_counters counters.0;
      joined = leb-true v.joined most_joined counters.1;
    }

among_range : (vs : List Version) (line : List ℕ) → list_all is_version vs ≡ true → IfOk (version_among vs line) IsVersion
among_range [] line h = tt
among_range (v ∷ vs) line h =
    let parts = both (is_version v) (list_all is_version vs) h in
    at (bytes_eq line (first_line v)) (range_by_test v parts.0) (among_range vs line parts.1) where
      at : (b : Bool) → IsVersion v → IfOk (version_among vs line) IsVersion → IfOk (cond b (Ok v) (version_among vs line)) IsVersion
      at true here there = here
      at false here there = there

-- whatever a first line tells is in the instrument's range
pub version_range : (line : List ℕ) → IfOk (version_in line) IsVersion
version_range line = among_range versions line refl

-- the first lines of versions are told apart by their numbers
same_number : (v w : Version) → v.number < 2 ^ 64 → w.number < 2 ^ 64 → first_line v ≡ first_line w → v.number ≡ w.number
same_number v w h k e =
    let d : decimal v.number ≡ decimal w.number = cc in
    decimal_injective v.number w.number h k d

last_told : (vs : List Version) (v : Version) → v.number < 2 ^ 64 → list_all (λ w. nat_lt w.number v.number) vs ≡ true
    → version_among (vs ++ v ∷ []) (first_line v) ≡ Ok v
last_told [] v n h = ap (λ b. cond b (Ok v) (Err BadStep)) ((bytes_eq-Decides (first_line v) (first_line v)).1 refl)
last_told (w ∷ vs) v n h =
    let parts = both (nat_lt w.number v.number) (list_all (λ x. nat_lt x.number v.number) vs) h in
    at (bytes_eq (first_line v) (first_line w)) refl (leb-true (suc w.number) v.number parts.0) (last_told vs v n parts.1) where
      at : (b : Bool) → bytes_eq (first_line v) (first_line w) ≡ b → w.number < v.number → version_among (vs ++ v ∷ []) (first_line v) ≡ Ok v
          → cond b (Ok w) (version_among (vs ++ v ∷ []) (first_line v)) ≡ Ok v
      at true e below later =
          let same = same_number v w n (omega arith) ((bytes_eq-Decides (first_line v) (first_line w)).0 e) in
          absurd (omega arith)
      at false e below later = later

pub newest_told : version_in (join_with_byte 32 (first_parts newest)) ≡ Ok newest
newest_told = last_told older newest (omega arith) refl

-- ---- layers

pub number_small : (arm : ArmLayer) → number_of arm ≤ most_arm_layers
number_small First = omega arith
number_small inner = omega arith

pub arm_word : (arm : ArmLayer) → layer_word (Arm arm) ≡ codes "arm" ++ (48 + number_of arm) ∷ []
arm_word arm = ap (λ (d : List ℕ). codes "arm" ++ d) (decimal_digit (number_of arm) (omega (arith, number_small arm)))

numbered_back : (arm : ArmLayer) → arm_numbered (number_of arm) ≡ arm
numbered_back First = refl
numbered_back inner = refl

in_its_place : (arm : ArmLayer) → slice_get arm_layers (number_of arm - 1) ≡ Some arm
in_its_place First = refl
in_its_place inner = refl

same_layer : (a b : ArmLayer) → layer_word (Arm a) ≡ layer_word (Arm b) → a ≡ b
same_layer a b e =
    let d : decimal (number_of a) ≡ decimal (number_of b) = cc in
    let n = decimal_injective (number_of a) (number_of b) (omega (arith, number_small a)) (omega (arith, number_small b)) d in
    sym (numbered_back a) ∙ ap arm_numbered n ∙ numbered_back b

among_printed : (arms : List ArmLayer) (i : ℕ) (arm : ArmLayer) → slice_get arms i ≡ Some arm → layer_among arms (layer_word (Arm arm)) ≡ Ok (Arm arm)
among_printed [] i arm h = absurd (cc h)
among_printed (a ∷ arms) i arm h = at (bytes_eq (layer_word (Arm arm)) (layer_word (Arm a))) refl i h (λ k e. among_printed arms k arm e) where
  at : (b : Bool) → bytes_eq (layer_word (Arm arm)) (layer_word (Arm a)) ≡ b → (i : ℕ) → slice_get (a ∷ arms) i ≡ Some arm
      → ((k : ℕ) → slice_get arms k ≡ Some arm → layer_among arms (layer_word (Arm arm)) ≡ Ok (Arm arm))
      → cond b (Ok (Arm a)) (layer_among arms (layer_word (Arm arm))) ≡ Ok (Arm arm)
  at true e i h later = ap (λ x. Ok (Arm x)) (sym (same_layer arm a ((bytes_eq-Decides (layer_word (Arm arm)) (layer_word (Arm a))).0 e)))
  at false e zero h later =
      let same : a ≡ arm = cc in
      let t = (bytes_eq-Decides (layer_word (Arm arm)) (layer_word (Arm a))).1 (ap (λ x. layer_word (Arm x)) (sym same)) in
      absurd (cc (e, t))
  at false e (suc i) h later = later i h

-- the word of a layer is read as that layer
pub layer_printed : (name : LayerName) → layer_in newest (layer_word name) ≡ Ok name
layer_printed Trigger = refl
layer_printed (Arm arm) = among_printed arm_layers (number_of arm - 1) arm (in_its_place arm)
