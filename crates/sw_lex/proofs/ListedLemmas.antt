-- What one of the rows matches is found in the table that they are.
use Rattle.std.proofs.Common.{◌≡◌, ℕ, Bool, List, [], ◌∷◌, map, refl, sym, ap, subst, inl, inr}
use Rattle.sw_lex.specs.declared.table.HeaderMeaning.{HeaderMeaning}
use Rattle.sw_lex.specs.declared.rows.Row.{Row}
use Rattle.sw_lex.specs.declared.rows.Subsystem.{Subsystem}
use Rattle.sw_lex.specs.Table.{Node, must, HeaderEntry}
use Rattle.sw_lex.specs.Rows.{nodes_at, row_nodes, entry_at, entries_of, MatchesRow, Matches}
use Rattle.sw_lex.specs.Found.{IsIn, IsForm, Fits, IsFound}
use Rattle.sw_lex.proofs.SpelledLemmas.{in_left, in_right, in_cases, fits_listed, listed_fits}

-- ---- the rows of one group

row_found : (first w : List ℕ) (rows : List Row) (ws : List (List ℕ)) (query : Bool) (key : HeaderMeaning) (k : ℕ) → IsForm first w → MatchesRow rows ws query key k
    → IsFound (map (entry_at first) rows) (w ∷ ws) query key k
row_found first w [] ws query key k i m = absurd m
row_found first w (row ∷ rows) ws query key k i m =
    elim m [
      | inl a ↦ record {
        entry = entry_at first row;
        listed = inl refl;
        query_is = a.0;
        key_is = a.1;
        spelled = fits_listed (must first ∷ nodes_at (row_nodes row)) (w ∷ ws) k (i, a.2);
      }
      | inr b ↦
          let f = row_found first w rows ws query key k i b in
          record { entry = f.entry; listed = inr f.listed; query_is = f.query_is; key_is = f.key_is; spelled = f.spelled }
    ]

at_row : (first w : List ℕ) (rows : List Row) (e : HeaderEntry) (ws : List (List ℕ)) (k : ℕ) → IsIn e (map (entry_at first) rows) → Fits e.nodes (w ∷ ws) k
    → IsForm first w × MatchesRow rows ws e.query e.key k
at_row first w [] e ws k h f = absurd h
at_row first w (row ∷ rows) e ws k h f =
    elim h [
      | inl i ↦
          let n : e.nodes ≡ must first ∷ nodes_at (row_nodes row) = ap (λ (d : HeaderEntry). d.nodes) i in
          let t = subst (λ (ns : List Node). Fits ns (w ∷ ws) k) n f in
          (t.0, inl (sym (ap (λ (d : HeaderEntry). d.query) i), sym (ap (λ (d : HeaderEntry). d.key) i), t.1))
      | inr r ↦ let t = at_row first w rows e ws k r f in (t.0, inr t.1)
    ]

-- ---- all of them

pub matches_found : (groups : List Subsystem) (w : List ℕ) (ws : List (List ℕ)) (query : Bool) (key : HeaderMeaning) (k : ℕ) → Matches groups w ws query key k
    → IsFound (entries_of groups) (w ∷ ws) query key k
unfolding entries_of
matches_found [] w ws query key k m = absurd m
matches_found (group ∷ groups) w ws query key k m =
    elim m [
      | inl a ↦
          let f = row_found group.first.text.now w group.rows.now ws query key k a.0 a.1 in
          record {
            entry = f.entry;
            listed = in_left f.entry (map (entry_at group.first.text.now) group.rows.now) (entries_of groups) f.listed;
            query_is = f.query_is;
            key_is = f.key_is;
            spelled = f.spelled;
          }
      | inr b ↦
          let f = matches_found groups w ws query key k b in
          record {
            entry = f.entry;
            listed = in_right f.entry (map (entry_at group.first.text.now) group.rows.now) (entries_of groups) f.listed;
            query_is = f.query_is;
            key_is = f.key_is;
            spelled = f.spelled;
          }
    ]

at_entry : (groups : List Subsystem) (e : HeaderEntry) (w : List ℕ) (ws : List (List ℕ)) (k : ℕ) → IsIn e (entries_of groups) → Fits e.nodes (w ∷ ws) k
    → Matches groups w ws e.query e.key k
unfolding entries_of
at_entry [] e w ws k h f = absurd h
at_entry (group ∷ groups) e w ws k h f =
    elim (in_cases e (map (entry_at group.first.text.now) group.rows.now) (entries_of groups) h) [
      | inl a ↦ inl (at_row group.first.text.now w group.rows.now e ws k a f)
      | inr b ↦ inr (at_entry groups e w ws k b f)
    ]

pub found_matches : (groups : List Subsystem) (w : List ℕ) (ws : List (List ℕ)) (query : Bool) (key : HeaderMeaning) (k : ℕ)
    → IsFound (entries_of groups) (w ∷ ws) query key k
    → Matches groups w ws query key k
found_matches groups w ws query key k f =
    let m = at_entry groups f.entry w ws k f.listed (listed_fits f.entry.nodes (w ∷ ws) k f.spelled) in
    subst (λ (x : HeaderMeaning). Matches groups w ws query x k) f.key_is (subst (λ (b : Bool). Matches groups w ws b f.entry.key k) f.query_is m)
