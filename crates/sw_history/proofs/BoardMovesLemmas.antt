-- Each step keeps the rule.
use Rattle.std.proofs.Common.{◌≡◌, ◌≢◌, ◌==◌, ◌⊎◌, ℕ, zero, suc, ◌+◌, ◌<◌, ◌≤◌, Bool, true, false, List, [], ◌∷◌, ◌++◌, length, set, Some}
use Rattle.std.proofs.Common.{refl, ap, sym, ◌∙◌, subst, ⊎_elim, inl, inr, arith, eq-eqb, ne_eqb, lt_of_not-le}
use Rattle.std.specs.Prelude.{slice_index, slice_set}
use Rattle.std.specs.Option.{unwrap_or}
use mathlib.Core.List.{IsPrefix}
use mathlib.Core.Option as found
use mathlib.Core.Option.{some-injective, some-ne-none}
use mathlib.Core.Logic.{dite}
use native.Mathlib.Decide.{dec_le}
use prog.Atomic.{either}
use Rattle.atomic_table.specs.Table.{State, Me, step, Act, keeps, Valid, stepped, carried_after, Allows, Splits, Joins}
use Rattle.sw_history.specs.Entries.{HistoryEntry, last_pair, made_by}
use Rattle.sw_history.specs.Board.{pair_in, World, Known, Said, KnowsTruly, KeptIn, Kept, Nothing, first_seat, spent, reader, told_known, after_desk, new_desk}
use Rattle.sw_history.specs.Board.{without_desk, of_desk, desk_taken_over, replaced, SettlesStep, Saw, Sees, entry_of, published, Published}
use Rattle.sw_history.proofs.FrontsLemmas.{prefix_self, prefix_more, prefix_shorter}
use Rattle.sw_history.proofs.EntriesLemmas.{last_pair-more, made_by-own, made_by-other, same_word}
use Rattle.sw_history.proofs.BoardSeatsLemmas.{Has, All, off, none_is, same_some, fits_set, fits_split, fits_join, there_too}

-- ---- make

-- the board at the start
abbrev made_world : ℕ → World
made_world word = record { word = word; history = []; publisher = 0; made = 0; seat_of = λ d. 0 }

fits_first : (p : ℕ × ℕ) (word : ℕ) → KnowsTruly (made_world word) p 0 (first_seat p)
fits_first p word = record {
  seen = λ l. (refl, ([], refl), ([], refl));
  publishes = λ l. (refl, refl, refl);
  desk = λ d e. absurd (none_is _ d refl e);
}

pub begins : (p : ℕ × ℕ) (word : ℕ) → p ≡ pair_in word → Kept p (record { words = word ∷ []; homes = []; views = first_seat p ∷ [] })
begins p word is = (made_world word, record { words = refl; word = is; fresh = λ d h. refl; fits = one })
  where
    one : All (made_world word) p (first_seat p ∷ [])
    one zero v e = subst (KnowsTruly (made_world word) p 0) (some-injective _ _ e) (fits_first p word)
    one (suc j) v e = absurd (some-ne-none v (sym e))

-- ---- read

-- a word that stays
stays : (x : World) (found_words : List ℕ) → found_words ≡ x.word ∷ [] → slice_set found_words 0 (slice_index found_words 0) ≡ x.word ∷ []
stays x found_words is = ap (λ (ws : List ℕ). slice_set ws 0 (slice_index ws 0)) is

-- the whole history is seen
abbrev looked : World → Known → Known
looked x v = record v { seen = x.history }

fits_looked : (x : World) (p : ℕ × ℕ) (id : ℕ) (v : Known) → KnowsTruly x p id v → KnowsTruly x p id (looked x v)
fits_looked x p id v f = record {
  seen = λ l. let h = f.seen l in (h.0, prefix_self x.history, h.2);
  publishes = λ l. let h = f.publishes l in (h.0, refl, h.2);
  desk = f.desk;
}

saw : (x : World) (p : ℕ × ℕ) (found_words : List ℕ) (views : List Known) (id : ℕ) (v : Known) → KeptIn x p found_words views → KnowsTruly x p id v
    → v.live ≡ true
    → Saw v (slice_index found_words 0) (looked x v)
saw x p found_words views id v k f live =
    let h = f.seen live in record {
      same = (refl, refl, refl, refl, refl, refl, refl);
      later = (h.1, h.2);
      pair = ap (λ (q : ℕ × ℕ). last_pair q x.history) h.0 ∙ (k.word ∙ ap (λ (ws : List ℕ). pair_in (slice_index ws 0)) (sym k.words));
      whole = λ l. sym (f.publishes l).1;
      own = λ d e. (f.desk d e).2;
    }

pub reads : (p : ℕ × ℕ) (slots id : ℕ) (me : Me Nothing Known) → me.0.live ≡ true
    → Allows (Kept p) slots id me 0 (λ n. n) (Sees (step slots 0 0 0 found.none) me)
reads p slots id me live s kept len at small =
    let x = kept.0 in
    let k = kept.1 in
    let f = k.fits id me.0 at in
    let all = fits_set x p s.views id (looked x me.0) (λ j u apart e. k.fits j u e) (fits_looked x p id me.0 f) in (
      looked x me.0,
      keeps,
      tt,
      (x, record { words = stays x s.words k.words; word = k.word; fresh = k.fresh; fits = all }),
      (saw x p s.words s.views id me.0 k f live, refl),
    )

-- of what was seen and what was told the one or the other is seen
settled : Known → List HistoryEntry → Known
settled v xs = record v { seen = xs; told = [] }

Settling : ℕ × ℕ → ℕ → Me Nothing Known → State Nothing Known → Type 0
Settling p id me s = (w : Known) × (a : Act Nothing) × Valid s.homes me.1 a × Kept p (stepped s 0 (slice_index s.words 0) id me.1 w a)
    × SettlesStep (step 0 0 0 0 found.none) me (slice_index s.words 0) (w, carried_after me.1 a)

settles_at : (p : ℕ × ℕ) (id : ℕ) (me : Me Nothing Known) (s : State Nothing Known) → me.0.live ≡ true → me.0.publishes ≡ false
    → (kept : Kept p s) → Has s.views id me.0 → (xs : List HistoryEntry) → IsPrefix me.0.seen xs → IsPrefix me.0.told xs → IsPrefix xs kept.0.history
    → (xs ≡ me.0.seen) ⊎ (xs ≡ me.0.told) → Settling p id me s
unfolding settled Settling
settles_at p id me s live quiet kept at xs one two all which =
    let x = kept.0 in
    let k = kept.1 in
    let f = k.fits id me.0 at in
    let w = settled me.0 xs in
    let g : KnowsTruly x p id w = record {
      seen = λ l. let h = f.seen l in (h.0, all, (x.history, refl));
      publishes = λ l. absurd (off (sym quiet ∙ l));
      desk = f.desk;
    } in
    let each = fits_set x p s.views id w (λ j u apart e. k.fits j u e) g in (
      w,
      keeps,
      tt,
      (x, record { words = stays x s.words k.words; word = k.word; fresh = k.fresh; fits = each }),
      (record { same = (refl, refl, refl, refl, refl, refl); later = (one, two); one = which }, refl),
    )

either_way : (m n : ℕ) → (m ≤ n) ⊎ (n ≤ m)
either_way m n = dite (dec_le m n) (λ le. inl le) (λ no. let lt : n < m = lt_of_not-le no in inr (omega arith))

pub compares : (p : ℕ × ℕ) (slots id : ℕ) (me : Me Nothing Known) → me.0.live ≡ true → me.0.publishes ≡ false
    → Allows (Kept p) slots id me 0 (λ n. n) (SettlesStep (step slots 0 0 0 found.none) me)
unfolding Settling
compares p slots id me live quiet s kept len at small =
    let a = me.0.seen in
    let b = me.0.told in
    let all = kept.0.history in
    let h = (kept.1.fits id me.0 at).seen live in
    ⊎_elim
    (λ (le : length a ≤ length b). settles_at p id me s live quiet kept at b (prefix_shorter a b all h.1 h.2 le) (prefix_self b) h.2 (inr refl))
    (λ (le : length b ≤ length a). settles_at p id me s live quiet kept at a (prefix_self a) (prefix_shorter b a all h.2 h.1 le) h.1 (inl refl))
    (either_way (length a) (length b))

-- ---- publish

-- one more entry, and the word of its pair
abbrev grown : World → ℕ → HistoryEntry → World
grown x word e = record x { word = word; history = x.history ++ e ∷ [] }

others_publish : (x : World) (p : ℕ × ℕ) (new : ℕ) (e : HistoryEntry) (id j : ℕ) (u : Known) → x.seat_of e.desk ≡ id → x.publisher ≡ id → j ≢ id
    → KnowsTruly x p j u → KnowsTruly (grown x new e) p j u
others_publish x p new e id j u own seat apart f = record {
  seen = λ l. let h = f.seen l in (h.0, prefix_more u.seen x.history (e ∷ []) h.1, prefix_more u.told x.history (e ∷ []) h.2);
  publishes = λ l. absurd (apart ((f.publishes l).0 ∙ seat));
  desk = λ d is.
      let h = f.desk d is in
      let other = λ (same : e.desk ≡ d). apart (sym h.0 ∙ (ap x.seat_of (sym same) ∙ own)) in (h.0, h.1, made_by-other d x.history e other ∙ h.2);
}

mine_publishes : (x : World) (p : ℕ × ℕ) (new id d : ℕ) (v : Known) (said : Said) → v.live ≡ true → v.publishes ≡ true → v.desk ≡ Some d
    → KnowsTruly x p id v → KnowsTruly (grown x new (entry_of v said)) p id (published v said)
mine_publishes x p new id d v said live pub_ is f =
    let e = entry_of v said in
    let h = f.seen live in
    let q = f.publishes pub_ in
    let m = f.desk d is in
    let more = λ (xs : List HistoryEntry). xs ++ e ∷ [] in
    let own = made_by-own d x.history e (ap (λ o. unwrap_or o 0) is) ∙ ap more m.2 in record {
      seen = λ l. (
        h.0,
        subst (λ (xs : List HistoryEntry). IsPrefix (more v.seen) (more xs)) q.1 (prefix_self (more v.seen)),
        prefix_more v.told x.history (e ∷ []) h.2,
      );
      publishes = λ l. (q.0, ap more q.1, q.2);
      desk = λ c there. subst
          (λ (y : ℕ). (x.seat_of y ≡ id) × (y < x.made) × (made_by y (more x.history) ≡ more v.mine))
          (same_some d c (sym is ∙ there))
          (m.0, m.1, own);
    }

hits : (n old new : ℕ) → n ≡ old → either (n == old) new n ≡ new
hits n old new e = ap (λ (b : Bool). either b new n) (eq-eqb n old e)

kept_grown : (x : World) (p : ℕ × ℕ) (s : State Nothing Known) (id d old new : ℕ) (v : Known) (said : Said) → KeptIn x p s.words s.views
    → Has s.views id v → v.live ≡ true → v.publishes ≡ true → v.desk ≡ Some d → x.word ≡ old → said.pair ≡ pair_in new
    → KeptIn (grown x new (entry_of v said)) p (slice_set s.words 0 (either (slice_index s.words 0 == old) new (slice_index s.words 0)))
    (set s.views id (published v said))
kept_grown x p s id d old new v said k at live pub_ is here after =
    let f = k.fits id v at in
    let q = f.publishes pub_ in
    let m = f.desk d is in
    let e = entry_of v said in
    let named : e.desk ≡ d = ap (λ o. unwrap_or o 0) is in
    let others = λ (j : ℕ) (u : Known) (apart : j ≢ id) (at' : Has s.views j u).
    others_publish x p new e id j u (ap x.seat_of named ∙ m.0) (sym q.0) apart (k.fits j u at') in record {
      words = ap (λ (ws : List ℕ). slice_set ws 0 (either (slice_index ws 0 == old) new (slice_index ws 0))) k.words
          ∙ ap (λ (n : ℕ). n ∷ []) (hits x.word old new here);
      word = last_pair-more p x.history e ∙ after;
      fresh = λ c le.
          let other = λ (same : e.desk ≡ c). let lt = m.1 in let c_is : d ≡ c = sym named ∙ same in absurd (omega arith) in
          made_by-other c x.history e other ∙ k.fresh c le;
      fits = fits_set (grown x new e) p s.views id (published v said) others (mine_publishes x p new id d v said live pub_ is f);
    }

pub publishes : (p : ℕ × ℕ) (slots id d : ℕ) (me : Me Nothing Known) (old new : ℕ) (said : Said) → me.0.live ≡ true → me.0.publishes ≡ true
    → me.0.desk ≡ Some d → last_pair me.0.opening me.0.seen ≡ pair_in old → said.pair ≡ pair_in new
    → Allows (Kept p) slots id me 0 (λ n. either (n == old) new n) (Published said (step slots 0 old new found.none) me)
publishes p slots id d me old new said live pub_ is before after s kept len at small =
    let v = me.0 in
    let x = kept.0 in
    let k = kept.1 in
    let f = k.fits id v at in
    let whole = ap (λ (y : ℕ × ℕ). last_pair y x.history) (sym (f.seen live).0) ∙ (ap (last_pair v.opening) (sym (f.publishes pub_).1) ∙ before) in
    let here : x.word ≡ old = same_word x.word old (sym k.word ∙ whole) in (
      published v said,
      keeps,
      tt,
      (grown x new (entry_of v said), kept_grown x p s id d old new v said k at live pub_ is here after),
      (refl, refl),
    )

-- ---- split

-- a seat that has seen the same
pub copies : (p : ℕ × ℕ) (id : ℕ) (v : Known) → Splits (Kept p) id v v (reader v)
copies p id v s kept at =
    let x = kept.0 in
    let k = kept.1 in
    let f = k.fits id v at in
    let r : KnowsTruly x p (length (set s.views id v)) (reader v) = record {
      seen = λ l. let h = f.seen l in (h.0, h.1, (x.history, refl));
      publishes = λ l. absurd (off l);
      desk = λ d e. absurd (none_is _ d refl e);
    } in
    let all = fits_split x p s.views id v (reader v) (λ j u ne e. k.fits j u e) f r in
    (x, record { words = k.words; word = k.word; fresh = k.fresh; fits = all })

-- a desk goes to the seat n
abbrev given : World → ℕ → ℕ → World
given x d n = record x { seat_of = λ c. either (c == d) n (x.seat_of c) }

seat_else : (x : World) (c d n : ℕ) → c ≢ d → either (c == d) n (x.seat_of c) ≡ x.seat_of c
seat_else x c d n ne = ap (λ (b : Bool). either b n (x.seat_of c)) (ne_eqb c d ne)

seat_here : (x : World) (c d n : ℕ) → c ≡ d → either (c == d) n (x.seat_of c) ≡ n
seat_here x c d n e = ap (λ (b : Bool). either b n (x.seat_of c)) (eq-eqb c d e)

fits_given : (x : World) (p : ℕ × ℕ) (d n j : ℕ) (u : Known) → x.seat_of d ≢ j → KnowsTruly x p j u → KnowsTruly (given x d n) p j u
fits_given x p d n j u apart f = record {
  seen = f.seen;
  publishes = f.publishes;
  desk = λ c is. let h = f.desk c is in (seat_else x c d n (λ (same : c ≡ d). apart (ap x.seat_of (sym same) ∙ h.0)) ∙ h.0, h.1, h.2);
}

-- a new desk, at the seat n
abbrev more_desks : World → ℕ → World
more_desks x n = record x { made = x.made + 1; seat_of = λ c. either (c == x.made) n (x.seat_of c) }

fits_older : (x : World) (p : ℕ × ℕ) (n j : ℕ) (u : Known) (made : ℕ) → (u.publishes ≡ true → made ≡ x.made + 1) → KnowsTruly x p j u
    → KnowsTruly (more_desks x n) p j (record u { made = made })
fits_older x p n j u made now f = record {
  seen = f.seen;
  publishes = λ l. let h = f.publishes l in (h.0, h.1, now l);
  desk = λ c is.
      let h = f.desk c is in
      let lt = h.1 in (seat_else x c x.made n (λ (same : c ≡ x.made). absurd (omega arith)) ∙ h.0, (omega arith), h.2);
}

fits_new : (x : World) (p : ℕ × ℕ) (found_words : List ℕ) (views : List Known) (id n : ℕ) (v : Known) → KeptIn x p found_words views → KnowsTruly x p id v
    → v.publishes ≡ true → KnowsTruly (more_desks x n) p n (new_desk v)
fits_new x p found_words views id n v k f pub_ = record {
  seen = λ l. let h = f.seen l in (h.0, h.1, (x.history, refl));
  publishes = λ l. absurd (off l);
  desk = λ c is.
      let same : v.made ≡ c = same_some v.made c is in
      let now : c ≡ x.made = sym same ∙ (f.publishes pub_).2 in (seat_here x c x.made n now, (omega arith), k.fresh c (omega arith));
}

pub makes_desk : (p : ℕ × ℕ) (id : ℕ) (v : Known) → v.publishes ≡ true → Splits (Kept p) id v (after_desk v) (new_desk v)
makes_desk p id v pub_ s kept at =
    let x = kept.0 in
    let k = kept.1 in
    let f = k.fits id v at in
    let q = f.publishes pub_ in
    let n : ℕ = length (set s.views id (after_desk v)) in
    let other = λ (j : ℕ) (u : Known) (ne : j ≢ id) (e : Has s.views j u). fits_older x p n j u u.made
    (λ l. let h = (k.fits j u e).publishes l in absurd (ne (h.0 ∙ sym q.0)))
    (k.fits j u e) in
    let left = fits_older x p n id v (v.made + 1) (λ l. ap (λ (m : ℕ). m + 1) q.2) f in
    let right = fits_new x p s.words s.views id n v k f pub_ in
    let all = fits_split (more_desks x n) p s.views id (after_desk v) (new_desk v) other left right in
    (more_desks x n, record { words = k.words; word = k.word; fresh = λ c le. k.fresh c (omega arith); fits = all })

-- a desk leaves its seat
pub rides_off : (p : ℕ × ℕ) (id d : ℕ) (v : Known) → v.desk ≡ Some d → Splits (Kept p) id v (without_desk v) (of_desk v)
rides_off p id d v is s kept at =
    let x = kept.0 in
    let k = kept.1 in
    let f = k.fits id v at in
    let n : ℕ = length (set s.views id (without_desk v)) in
    let y : World = given x d n in
    let l : KnowsTruly y p id (without_desk v) = record { seen = f.seen; publishes = f.publishes; desk = λ c e. absurd (none_is _ c refl e) } in
    let r : KnowsTruly y p n (of_desk v) = record {
      seen = λ l. let h = f.seen l in (h.0, h.1, (x.history, refl));
      publishes = λ l. absurd (off l);
      desk = λ c there. let h = f.desk c there in (seat_here x c d n (sym (same_some d c (sym is ∙ there))), h.1, h.2);
    } in
    let other = λ (j : ℕ) (u : Known) (ne : j ≢ id) (e : Has s.views j u). fits_given x p d n j u
    (λ (o : x.seat_of d ≡ j). ne (sym o ∙ (f.desk d is).0))
    (k.fits j u e) in
    let all = fits_split y p s.views id (without_desk v) (of_desk v) other l r in (y, record { words = k.words; word = k.word; fresh = k.fresh; fits = all })

-- ---- join

-- the seat is told what the other had seen
pub informs : (p : ℕ × ℕ) (id : ℕ) (v : Known) (other : ℕ) (w : Known) → w.live ≡ true → Joins (Kept p) id v other w (told_known v w) spent
informs p id v other w live s kept at apart there =
    let x = kept.0 in
    let k = kept.1 in
    let f = k.fits id v at in
    let g = k.fits other w (there_too s.views id other (told_known v w) w apart there) in
    let b : KnowsTruly x p id (told_known v w) = record {
      seen = λ l. let h = f.seen l in (h.0, h.1, (g.seen live).1);
      publishes = f.publishes;
      desk = f.desk;
    } in
    let all = fits_join x p s.views id other (told_known v w) (λ j u ne ne' e. k.fits j u e) b in
    (x, record { words = k.words; word = k.word; fresh = k.fresh; fits = all })

-- what a seat with another's desk knows besides the desk is so
Rests : ℕ × ℕ → ℕ → Known → ℕ → Known → Known → Type 0
Rests p id v other w both = (x : World) → KnowsTruly x p id v → KnowsTruly x p other w
    → (both.live ≡ true → (both.opening ≡ p) × IsPrefix both.seen x.history × IsPrefix both.told x.history)
    × (both.publishes ≡ true → (id ≡ x.publisher) × (both.seen ≡ x.history) × (both.made ≡ x.made))

-- the desk comes to another seat
comes : (p : ℕ × ℕ) (id d : ℕ) (v : Known) (other : ℕ) (w both : Known) → w.desk ≡ Some d → both.desk ≡ w.desk → both.mine ≡ w.mine
    → Rests p id v other w both → Joins (Kept p) id v other w both spent
unfolding Rests
comes p id d v other w both is desk mine rest s kept at apart there =
    let x = kept.0 in
    let k = kept.1 in
    let f = k.fits id v at in
    let g = k.fits other w (there_too s.views id other both w apart there) in
    let y : World = given x d id in
    let b : KnowsTruly y p id both = record {
      seen = (rest x f g).0;
      publishes = (rest x f g).1;
      desk = λ c e. let h = g.desk c (sym desk ∙ e) in (seat_here x c d id (sym (same_some d c (sym is ∙ (sym desk ∙ e)))), h.1, h.2 ∙ sym mine);
    } in
    let others = λ (j : ℕ) (u : Known) (ne : j ≢ id) (ne' : j ≢ other) (e : Has s.views j u). fits_given x p d id j u
    (λ (o : x.seat_of d ≡ j). ne' (sym o ∙ (g.desk d is).0))
    (k.fits j u e) in
    let all = fits_join y p s.views id other both others b in (y, record { words = k.words; word = k.word; fresh = k.fresh; fits = all })

pub rides_on : (p : ℕ × ℕ) (id d : ℕ) (v : Known) (other : ℕ) (w : Known) → w.desk ≡ Some d → w.live ≡ true
    → Joins (Kept p) id v other w (desk_taken_over v w) spent
unfolding Rests
rides_on p id d v other w is live = comes p id d v other w (desk_taken_over v w) is refl refl
    (λ x f g. ((λ l. let h = f.seen l in (h.0, h.1, (g.seen live).1)), f.publishes))

pub rides_back : (p : ℕ × ℕ) (id d : ℕ) (v : Known) (other : ℕ) (w : Known) → w.desk ≡ Some d → Joins (Kept p) id v other w (replaced v w) spent
unfolding Rests
rides_back p id d v other w is = comes p id d v other w (replaced v w) is refl refl
    (λ x f g. ((λ l. let h = g.seen l in (h.0, h.1, (x.history, refl))), (λ l. absurd (off l))))
