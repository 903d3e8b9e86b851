-- Looking for a name, key by key.
use Rattle.std.proofs.Common.{◌≡◌, ℕ, ◌+◌, ◌<◌, ◌≤◌, true, false, List, length, get_or, drop, Some, None, refl, ◌∙◌}
use Rattle.std.proofs.lemmas.List.{at_drop_more, at_drop_all}
use Rattle.std.specs.Str.{bytes_eq}
use Rattle.sw_rack.specs.declared.key.Key.{Key}
use Rattle.sw_rack.specs.Keys.{name_of, named}

pub named_here : (keys : List Key) (i : ℕ) (d : Key) (name : List ℕ) → i < length keys → bytes_eq (name_of (get_or keys i d)) name ≡ true
    → named (drop i keys) name ≡ Some (get_or keys i d)
unfolding named
named_here keys i d name lt h = at_drop_more (λ ks. named ks name) keys i d lt ∙ rw h refl

pub named_later : (keys : List Key) (i : ℕ) (d : Key) (name : List ℕ) → i < length keys → bytes_eq (name_of (get_or keys i d)) name ≡ false
    → named (drop i keys) name ≡ named (drop (i + 1) keys) name
unfolding named
named_later keys i d name lt h = at_drop_more (λ ks. named ks name) keys i d lt ∙ rw h refl

pub named_never : (keys : List Key) (i : ℕ) (name : List ℕ) → length keys ≤ i → named (drop i keys) name ≡ None
unfolding named
named_never keys i name le = at_drop_all (λ ks. named ks name) keys i le
