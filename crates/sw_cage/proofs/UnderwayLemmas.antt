-- A scan that runs: from item to item of its course.
use Rattle.std.proofs.Common.{◌≡◌, ℕ, ◌+◌, ◌<◌, Bool, true, false, ◌&&◌, ◌||◌, not, List, [], ◌∷◌, ◌++◌, length, take, drop, Option, Some, refl, sym, ap}
use Rattle.std.proofs.Common.{◌∙◌, subst, arith}
use Rattle.std.proofs.Math.Seq.{take-add}
use Rattle.std.proofs.lemmas.List.{take-append-drop}
use Rattle.sw_base.specs.Layout.{Channel, Layout}
use Rattle.sw_channel.specs.Positions.{Position}
use Rattle.sw_trigger.specs.declared.layer.Awaited.{Awaited}
use Rattle.sw_trigger.specs.declared.layer.Awaited.TheVariants.{Read}
use Rattle.sw_verify.specs.Course.{CourseSeen}
use Rattle.sw_trigger.specs.Agenda.{Item, Awaits, Close, Open}
use Rattle.sw_trigger.specs.Counts.{reads, is_reading}
use Rattle.sw_trigger.proofs.Awaiting.{reads-append}
use Rattle.sw_verify.specs.Channels.{Channels, same_channel, none, with_channel, without, with_each, without_each}
use Rattle.sw_verify.specs.Sound.{CanCloseOne, CanCloseEach, CanOpenEach, AllRight, effect}
use Rattle.sw_verify.proofs.Round.{effect-append}
use Rattle.sw_cage.specs.Cage.{layout_with}
use Rattle.sw_cage.specs.Advance.{leading_moves, first_awaited, moves_from}
use Rattle.sw_cage.specs.Moves.{MayMove}
use Rattle.sw_cage.specs.Good.{HasDone}
use Rattle.sw_cage.specs.declared.job.Ticket.{Ticket}
use Rattle.sw_cage.proofs.LayoutLemmas.{present_with, clash_with}

-- items

awaits_first : (l : List Item) (x : Awaited) → first_awaited l ≡ Some x → l ≡ Awaits x ∷ drop 1 l
awaits_first [] x e = absurd (cc)
awaits_first (Awaits w ∷ l) x e = let k : w ≡ x = cc in ap (λ (y : Awaited). Awaits y ∷ l) k
awaits_first (Close c ∷ l) x e = absurd (cc)
awaits_first (Open c ∷ l) x e = absurd (cc)

pub leading_front : (l : List Item) → take (length (leading_moves l)) l ≡ leading_moves l
leading_front [] = refl
leading_front (Awaits x ∷ l) = refl
leading_front (Close c ∷ l) = ap (λ (m : List Item). Close c ∷ m) (leading_front l)
leading_front (Open c ∷ l) = ap (λ (m : List Item). Open c ∷ m) (leading_front l)

leading_reads : (l : List Item) → reads (leading_moves l) ≡ 0
leading_reads [] = refl
leading_reads (Awaits x ∷ l) = refl
leading_reads (Close c ∷ l) = leading_reads l
leading_reads (Open c ∷ l) = leading_reads l

take_way : (s : CourseSeen) (i : ℕ) → take (i + length (moves_from s i)) s.items ≡ take i s.items ++ moves_from s i
take_way s i = take-add i (length (moves_from s i)) s.items ∙ ap (λ (l : List Item). take i s.items ++ l) (leading_front (drop i s.items))

take_past : (s : CourseSeen) (i : ℕ) (x : Awaited) → first_awaited (drop i s.items) ≡ Some x → take (i + 1) s.items ≡ take i s.items ++ Awaits x ∷ []
take_past s i x e = take-add i 1 s.items ∙ ap (λ (l : List Item). take i s.items ++ take 1 l) (awaits_first (drop i s.items) x e)

pub reads_way : (s : CourseSeen) (i : ℕ) → reads (take (i + length (moves_from s i)) s.items) ≡ reads (take i s.items)
reads_way s i = ap reads (take_way s i) ∙ reads-append (take i s.items) (moves_from s i) ∙ omega (arith, leading_reads (drop i s.items))

pub reads_past : (s : CourseSeen) (i : ℕ) (x : Awaited) → first_awaited (drop i s.items) ≡ Some x
    → reads (take (i + 1) s.items) ≡ reads (take i s.items) + is_reading x
reads_past s i x e = ap reads (take_past s i x e) ∙ reads-append (take i s.items) (Awaits x ∷ []) ∙ omega arith

-- a reading is left where one is awaited
pub reads_left : (s : CourseSeen) (i : ℕ) → first_awaited (drop i s.items) ≡ Some Read → reads (take i s.items) < reads s.items
reads_left s i e =
    let whole = ap reads (sym (take-append-drop i s.items)) ∙ reads-append (take i s.items) (drop i s.items) in
    let rest = ap reads (awaits_first (drop i s.items) Read e) in
    omega (arith, whole, rest)

-- what is left of sound items is right from where it has come
right_after : (layout : Layout) (b m : Channels) (xs ys : List Item) → AllRight layout b m (xs ++ ys) → AllRight layout (effect b xs) (effect m xs) ys
right_after layout b m [] ys h = h
right_after layout b m (Awaits w ∷ xs) ys h = right_after layout b m xs ys h
right_after layout b m (Close p ∷ xs) ys h = right_after layout (with_each p b) (with_each p m) xs ys h.1
right_after layout b m (Open p ∷ xs) ys h = right_after layout (without_each p b) (without_each p m) xs ys h.1

-- mine are closed
abbrev IsWithin : Channels → Channels → Type 0
IsWithin m b = (x : Channel) → m x ≡ true → b x ≡ true

or_keeps : (t a b : Bool) → (a ≡ true → b ≡ true) → (t || a) ≡ true → (t || b) ≡ true
or_keeps true a b f h = refl
or_keeps false a b f h = f h

and_keeps : (t a b : Bool) → (a ≡ true → b ≡ true) → (t && a) ≡ true → (t && b) ≡ true
and_keeps true a b f h = f h
and_keeps false a b f h = h

within_with : (m b : Channels) (p : Position) → IsWithin m b → IsWithin (with_each p m) (with_each p b)
within_with m b [] h = h
within_with m b (c ∷ p) h = within_with (with_channel c m) (with_channel c b) p (λ x e. or_keeps (same_channel c x) (m x) (b x) (h x) e)

less_within : (m b : Channels) (c : Channel) → IsWithin m b → IsWithin (without c m) (without c b)
less_within m b c h = λ x e. and_keeps (not (same_channel c x)) (m x) (b x) (h x) e

within_without : (m b : Channels) (p : Position) → IsWithin m b → IsWithin (without_each p m) (without_each p b)
within_without m b [] h = h
within_without m b (c ∷ p) h = within_without (without c m) (without c b) p (less_within m b c h)

-- what is mine may be opened
opens_within : (m b : Channels) (p : Position) → IsWithin m b → CanOpenEach m p → CanOpenEach b p
opens_within m b [] h k = tt
opens_within m b (c ∷ p) h k = (h c k.0, opens_within (without c m) (without c b) p (less_within m b c h) k.1)

within_after : (m b : Channels) (xs : List Item) → IsWithin m b → IsWithin (effect m xs) (effect b xs)
within_after m b [] h = h
within_after m b (Awaits w ∷ xs) h = within_after m b xs h
within_after m b (Close p ∷ xs) h = within_after (with_each p m) (with_each p b) xs (within_with m b p h)
within_after m b (Open p ∷ xs) h = within_after (without_each p m) (without_each p b) xs (within_without m b p h)

-- so the moves that come next may be made
moves_may : (layout : Layout) (b m : Channels) (l : List Item) → IsWithin m b → AllRight layout b m l → MayMove layout b l
moves_may layout b m [] w h = tt
moves_may layout b m (Awaits what ∷ l) w h = tt
moves_may layout b m (Close p ∷ l) w h = (h.0, moves_may layout (with_each p b) (with_each p m) l (within_with m b p w) h.1)
moves_may layout b m (Open p ∷ l) w h = (opens_within m b p w h.0, moves_may layout (without_each p b) (without_each p m) l (within_without m b p w) h.1)

-- a meter that is out has no channel, so none is hindered or let by it
can_close_in : (bays : Layout) (out : List (Option Ticket)) (h : length out ≡ length bays) (b : Channels) (c : Channel) → CanCloseOne (layout_with bays out) b c
    → CanCloseOne bays b c
can_close_in bays out h b c k = record {
  present = sym (present_with bays out h c) ∙ k.present;
  was_open = k.was_open;
  apart =
      λ x e j. k.apart x e (clash_with bays out h c x j);
}

can_close_each_in : (bays : Layout) (out : List (Option Ticket)) (h : length out ≡ length bays) (b : Channels) (p : Position)
    → CanCloseEach (layout_with bays out) b p → CanCloseEach bays b p
can_close_each_in bays out h b [] k = tt
can_close_each_in bays out h b (c ∷ p) k = (can_close_in bays out h b c k.0, can_close_each_in bays out h (with_channel c b) p k.1)

pub may_move_in : (bays : Layout) (out : List (Option Ticket)) (h : length out ≡ length bays) (b : Channels) (l : List Item)
    → MayMove (layout_with bays out) b l → MayMove bays b l
may_move_in bays out h b [] m = tt
may_move_in bays out h b (Awaits what ∷ l) m = tt
may_move_in bays out h b (Close p ∷ l) m = (can_close_each_in bays out h b p m.0, may_move_in bays out h (with_each p b) l m.1)
may_move_in bays out h b (Open p ∷ l) m = (m.0, may_move_in bays out h (without_each p b) l m.1)

module _ (layout : Layout) (closed : Channels) (s : CourseSeen) (i : ℕ) (w : HasDone layout closed s i) where
  pub right_here : AllRight layout closed (effect none (take i s.items)) (drop i s.items)
  right_here =
      let all : AllRight layout w.found none (take i s.items ++ drop i s.items) =
      subst (λ (l : List Item). AllRight layout w.found none l) (sym (take-append-drop i s.items)) w.sound.right in
      subst (λ (b : Channels). AllRight layout b (effect none (take i s.items)) (drop i s.items)) (sym w.so_far)
      (right_after layout w.found none (take i s.items) (drop i s.items) all)

  -- the moves that come next may be made
  pub may_move : MayMove layout closed (drop i s.items)
  may_move =
      let mine : IsWithin (effect none (take i s.items)) (effect w.found (take i s.items)) =
      within_after none w.found (take i s.items) (λ x h. absurd (cc)) in
      moves_may layout closed (effect none (take i s.items)) (drop i s.items)
      (subst (λ (b : Channels). IsWithin (effect none (take i s.items)) b) (sym w.so_far) mine) right_here

  -- once they are made
  pub on_way_moved : (now : Channels) → now ≡ effect closed (moves_from s i) → HasDone layout now s (i + length (moves_from s i))
  on_way_moved now e = record {
    found = w.found;
    sound = w.sound;
    so_far = e ∙ ap (λ (b : Channels). effect b (moves_from s i)) w.so_far ∙ sym (effect-append w.found (take i s.items) (moves_from s i)) ∙ ap
        (effect w.found)
        (sym (take_way s i));
  }

  -- once what is awaited has come
  pub on_way_past : (x : Awaited) → first_awaited (drop i s.items) ≡ Some x → HasDone layout closed s (i + 1)
  on_way_past x e = record {
    found = w.found;
    sound = w.sound;
    so_far = w.so_far ∙ sym (effect-append w.found (take i s.items) (Awaits x ∷ [])) ∙ ap (effect w.found) (sym (take_past s i x e));
  }

pub on_way_like : (layout layout' : Layout) (b b' : Channels) (s : CourseSeen) (i : ℕ) → layout' ≡ layout → b' ≡ b → HasDone layout b s i
    → HasDone layout' b' s i
on_way_like layout layout' b b' s i e f w = subst (λ (l : Layout). HasDone l b' s i) (sym e) (subst (λ (x : Channels). HasDone layout x s i) (sym f) w)
