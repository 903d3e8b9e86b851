-- Histories that grow.
use Rattle.std.proofs.Common.{◌≡◌, ℕ, List, [], ◌∷◌, ◌++◌, refl, ap, sym, ◌∙◌, subst}
use Rattle.sw_core.specs.Panel.{Panel}
use Rattle.sw_history.specs.Entries.{HistoryEntry, last_pair}
use Rattle.sw_history.specs.History.{pair_of, IsEntry, IsHistory}

-- one more event
pub history_more : (p : Panel) (entries : List HistoryEntry) (e : HistoryEntry) (q r : Panel) → IsHistory p entries q → IsEntry q e r
    → IsHistory p (entries ++ e ∷ []) r
history_more p [] e q r h k = (r, subst (λ (x : Panel). IsEntry x e r) (sym h) k, refl)
history_more p (x ∷ entries) e q r h k = (h.0, h.1, history_more h.0 entries e q r h.2 k)

-- the pair at the end of a history is that of its last panel
pub history_pair : (p : Panel) (entries : List HistoryEntry) (q : Panel) → IsHistory p entries q → last_pair (pair_of p) entries ≡ pair_of q
history_pair p [] q h = ap pair_of h
history_pair p (e ∷ entries) q h = ap (λ (y : ℕ × ℕ). last_pair y entries) h.1.pair ∙ history_pair h.0 entries q h.2
