-- The pair at the end of a history, and the entries of one desk, after one more entry.
use Rattle.std.proofs.Common.{◌≡◌, ◌≢◌, ◌==◌, ℕ, ◌/◌, ◌%◌, List, [], ◌∷◌, ◌++◌, refl, ap, ◌∙◌, arith, eq-eqb, ne_eqb, append-nil}
use Rattle.std.proofs.lemmas.List.Elements.{filter-append}
use mathlib.Core.Bool.{cond}
use Rattle.sw_history.specs.Entries.{HistoryEntry, last_pair, made_by}
use Rattle.sw_history.specs.Board.{pair_in}

pub last_pair-more : (p : ℕ × ℕ) (es : List HistoryEntry) (e : HistoryEntry) → last_pair p (es ++ e ∷ []) ≡ e.pair
last_pair-more p [] e = refl
last_pair-more p (x ∷ es) e = last_pair-more x.pair es e

made_by-append : (d : ℕ) (es fs : List HistoryEntry) → made_by d (es ++ fs) ≡ made_by d es ++ made_by d fs
made_by-append d es fs = filter-append (λ (e : HistoryEntry). e.desk == d) es fs

pub made_by-own : (d : ℕ) (es : List HistoryEntry) (e : HistoryEntry) → e.desk ≡ d → made_by d (es ++ e ∷ []) ≡ made_by d es ++ e ∷ []
made_by-own d es e is = made_by-append d es (e ∷ []) ∙ ap (λ b. made_by d es ++ cond b (e ∷ []) []) (eq-eqb e.desk d is)

pub made_by-other : (d : ℕ) (es : List HistoryEntry) (e : HistoryEntry) → e.desk ≢ d → made_by d (es ++ e ∷ []) ≡ made_by d es
made_by-other d es e is = made_by-append d es (e ∷ [])
    ∙ (ap (λ b. made_by d es ++ cond b (e ∷ []) []) (ne_eqb e.desk d is) ∙ append-nil (made_by d es))

-- a word is told by its pair
pub same_word : (a b : ℕ) → pair_in a ≡ pair_in b → a ≡ b
same_word a b e =
    let low : a % 256 ≡ b % 256 = ap (λ (p : ℕ × ℕ). p.0) e in
    let high : a / 256 ≡ b / 256 = ap (λ (p : ℕ × ℕ). p.1) e in
    omega arith
