-- What is told of a listing, with each double quote in it doubled.
use Rattle.std.proofs.Common.{◌≡◌, ℕ, ◌+◌, ◌<◌, ◌≤◌, Bool, true, false, List, [], ◌∷◌, ◌++◌, length, drop, slice_index_or, Option, None, Result, Ok, Err, IfOk, refl, sym, ap, subst, ◌∙◌}
use Rattle.std.specs.Prelude.{◌==◌, if◌then◌else◌}
use Rattle.std.proofs.Math.ListN.{drop_of_length-le}
use Rattle.std.proofs.lemmas.List.{append-nil, append_assoc, drop_more}
use Rattle.std.specs.Option.{option_map}
use Rattle.sw_base.specs.Layout.{Channel, Layout}
use Rattle.sw_lex.specs.Elements.{doubled}
use Rattle.sw_verify.specs.Listings.{Says}
use Rattle.sw_cage.specs.Cage.{cage_layout}
use Rattle.sw_cage.specs.Channels.{closed_list}
use Rattle.sw_core.specs.ListingCheck.{IsListingTold, told_text}
use Rattle.sw_core.specs.Panel.{Panel}

doubled_by : (is : Bool) (b : ℕ) (rest : List ℕ)
    → (if is then 34 ∷ 34 ∷ doubled 34 rest else b ∷ doubled 34 rest) ≡ (if is then 34 ∷ 34 ∷ [] else b ∷ []) ++ doubled 34 rest
doubled_by true b rest = refl
doubled_by false b rest = refl

doubled_next : (b : ℕ) (rest : List ℕ) → doubled 34 (b ∷ rest) ≡ doubled 34 (b ∷ []) ++ doubled 34 rest
doubled_next b rest = doubled_by (b == 34) b rest

-- with one byte more, as much is left to append
pub one_less : (old all text more bytes : List ℕ) (i d : ℕ) → text ++ doubled 34 (drop i bytes) ≡ old ++ doubled 34 all
    → more ≡ text ++ doubled 34 (slice_index_or bytes i d ∷ []) → i < length bytes → more ++ doubled 34 (drop (i + 1) bytes) ≡ old ++ doubled 34 all
one_less old all text more bytes i d same is here =
    let left = doubled 34 (drop (i + 1) bytes) in
    ap (λ (l : List ℕ). l ++ left) is ∙ append_assoc text (doubled 34 (slice_index_or bytes i d ∷ [])) left
    ∙ ap (λ (l : List ℕ). text ++ l) (sym (doubled_next (slice_index_or bytes i d) (drop (i + 1) bytes)))
    ∙ ap (λ (l : List ℕ). text ++ doubled 34 l) (sym (drop_more bytes i d here)) ∙ same

-- where none is left
pub none_left : (old bytes text : List ℕ) (i : ℕ) → length bytes ≤ i → text ++ doubled 34 (drop i bytes) ≡ old ++ doubled 34 bytes
    → text ≡ old ++ doubled 34 bytes
none_left old bytes text i past same =
    sym (append-nil text) ∙ ap (λ (l : List ℕ). text ++ doubled 34 l) (sym (drop_of_length-le bytes past)) ∙ same

-- ---- what is said of a listing

module _ (p : Panel) (listing line : List ℕ) (accepted : Bool) where
  pub told_of : {S E : Type 0} (bytes : S → List ℕ) (cause : Option S) (layout : Layout) (closed slice : List Channel) (points : ℕ)
      (told : Result (List ℕ) E) → layout ≡ cage_layout p.cage → closed ≡ closed_list p.cage.cards → slice ≡ closed → points ≡ p.settings.scan.points
      → Says layout slice points accepted listing line → (accepted ≡ true → cause ≡ None) → IfOk told (λ t. t ≡ told_text line (option_map bytes cause))
      → IfOk told (λ t. IsListingTold p listing t)
  told_of bytes cause layout closed slice points (Ok t) e f g h says fine told = record {
    accepted = accepted;
    line = line;
    says = subst (λ (x : Layout). Says x (closed_list p.cage.cards) p.settings.scan.points accepted listing line) e
        (subst (λ (x : List Channel). Says layout x p.settings.scan.points accepted listing line) (g ∙ f)
        (subst (λ (x : ℕ). Says layout slice x accepted listing line) h says));
    cause = option_map bytes cause;
    fine = λ a. ap (λ (o : Option _). option_map bytes o) (fine a);
    told = told;
  }
  told_of bytes cause layout closed slice points (Err x) e f g h says fine told = tt
