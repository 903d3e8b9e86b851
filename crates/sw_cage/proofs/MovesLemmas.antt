-- The moves of a scan, one by one.
use Rattle.std.proofs.Common.{◌≡◌, ℕ, ◌+◌, List, [], ◌∷◌, length, drop, Some, None, refl, sym, ap, ◌∙◌, subst, arith}
use Rattle.std.proofs.Math.Seq.{drop-drop}
use mathlib.Core.Path.{fun_ext}
use Rattle.sw_base.specs.Layout.{Layout}
use Rattle.sw_trigger.specs.Agenda.{Item, Awaits, Close, Open}
use Rattle.sw_verify.specs.Channels.{Channels}
use Rattle.sw_verify.specs.Sound.{effect}
use Rattle.sw_cage.specs.Accounts.{Accounts, layout_of, is_closed, all_open}
use Rattle.sw_cage.specs.Cage.{ScanSeen}
use Rattle.sw_cage.specs.Advance.{leading_moves, moves_from, next_place}
use Rattle.sw_cage.specs.declared.scan.steps.Move.{Move}
use Rattle.sw_cage.specs.declared.scan.steps.Move.TheVariants as move
use Rattle.sw_cage.specs.Steps.{next_move, move_item}
use Rattle.sw_cage.specs.Moves.{MayMove}
use Rattle.sw_cage.specs.Outcome.{Moved}
use Rattle.sw_cage.proofs.MoveLemmas.{moved_none, moved_both, moved_layout}

first_move : (l : List Item) (m : Move) → next_move l ≡ Some m → l ≡ move_item m ∷ drop 1 l
first_move [] m e = absurd (cc e)
first_move (Awaits what ∷ l) m e = absurd (cc e)
first_move (Close p ∷ l) m e = let k : move.Close p ≡ m = cc in ap (λ (x : Move). move_item x ∷ l) k
first_move (Open p ∷ l) m e = let k : move.Open p ≡ m = cc in ap (λ (x : Move). move_item x ∷ l) k

no_move : (l : List Item) → next_move l ≡ None → leading_moves l ≡ []
no_move [] e = refl
no_move (Awaits what ∷ l) e = refl
no_move (Close p ∷ l) e = absurd (cc e)
no_move (Open p ∷ l) e = absurd (cc e)

lead_move : (m : Move) (l : List Item) → leading_moves (move_item m ∷ l) ≡ move_item m ∷ leading_moves l
lead_move (move.Open p) l = refl
lead_move (move.Close p) l = refl

may_head : (m : Move) (layout : Layout) (b : Channels) (l : List Item) → MayMove layout b (move_item m ∷ l) → MayMove layout b (move_item m ∷ [])
may_head (move.Open p) layout b l h = (h.0, tt)
may_head (move.Close p) layout b l h = (h.0, tt)

may_tail : (m : Move) (layout : Layout) (b : Channels) (l : List Item) → MayMove layout b (move_item m ∷ l) → MayMove layout (effect b (move_item m ∷ [])) l
may_tail (move.Open p) layout b l h = h.1
may_tail (move.Close p) layout b l h = h.1

-- From where a scan stood it has come to here: what is left to move from here, is what was left then.
pub record MovesOn (old : Accounts) (from : ScanSeen) (now : Accounts) (at : ScanSeen) : Type 0 where
  pub same : all_open now ≡ all_open old
  pub moved : (new : Accounts) → Moved now (moves_from at.course at.index) new → Moved old (moves_from from.course from.index) new
  pub there : next_place at.course at.index ≡ next_place from.course from.index
  pub may : MayMove (layout_of now) (is_closed now) (drop at.index at.course.items)

pub moves_first : (old : Accounts) (from : ScanSeen) → MayMove (layout_of old) (is_closed old) (drop from.index from.course.items) → MovesOn old from old from
moves_first old from h = record { same = refl; moved = λ new m. m; there = refl; may = h }

-- one move more
module _ (old : Accounts) (from : ScanSeen) (now : Accounts) (at : ScanSeen) (m : Move) (is : next_move (drop at.index at.course.items) ≡ Some m) (g : MovesOn
    old from now at) where
  abbrev rest : List Item
  rest = drop (at.index + 1) at.course.items

  split : drop at.index at.course.items ≡ move_item m ∷ rest
  split = first_move (drop at.index at.course.items) m is ∙ ap (λ (l : List Item). move_item m ∷ l) (drop-drop 1 at.index at.course.items)

  here : MayMove (layout_of now) (is_closed now) (move_item m ∷ rest)
  here = subst (MayMove (layout_of now) (is_closed now)) split g.may

  pub may_next : MayMove (layout_of now) (is_closed now) (move_item m ∷ [])
  may_next = may_head m (layout_of now) (is_closed now) rest here

  lead : moves_from at.course at.index ≡ move_item m ∷ moves_from at.course (at.index + 1)
  lead = ap leading_moves split ∙ lead_move m rest

  pub moves_next : (new : Accounts) → Moved now (move_item m ∷ []) new → MovesOn old from new (record at { index = at.index + 1 })
  moves_next new step = record {
    same = step.rest ∙ g.same;
    moved = λ end k. g.moved end
        (subst (λ (l : List Item). Moved now l end) (sym lead) (moved_both now new end (move_item m ∷ []) (moves_from at.course (at.index + 1)) step k));
    there =
        let e : at.index + 1 + length (moves_from at.course (at.index + 1)) ≡ at.index + length (moves_from at.course at.index) =
        omega (arith, ap length lead) in
        ap (λ (n : ℕ). let p : ScanSeen = record { course = at.course; index = n } in p) e ∙ g.there;
    may =
        subst (λ (l : Layout). MayMove l (is_closed new) rest) (sym (moved_layout now new (move_item m ∷ []) step))
        (subst (λ (b : Channels). MayMove (layout_of now) b rest) (sym (fun_ext step.closed)) (may_tail m (layout_of now) (is_closed now) rest here));
  }

-- none is left
module _ (old : Accounts) (from : ScanSeen) (now : Accounts) (at : ScanSeen) (is : next_move (drop at.index at.course.items) ≡ None) (g : MovesOn old from now
    at) where
  none : moves_from at.course at.index ≡ []
  none = no_move (drop at.index at.course.items) is

  pub moves_over : Moved old (moves_from from.course from.index) now
  moves_over = g.moved now (subst (λ (l : List Item). Moved now l now) (sym none) (moved_none now))

  pub there_over : at ≡ next_place from.course from.index
  there_over =
      let e : at.index ≡ at.index + length (moves_from at.course at.index) = omega (arith, ap length none) in
      ap (λ (n : ℕ). let p : ScanSeen = record { course = at.course; index = n } in p) e ∙ g.there
