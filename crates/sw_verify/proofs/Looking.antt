-- The verifier's look, step by step.
use Rattle.std.proofs.Common.{◌≡◌, ℕ, ◌+◌, ◌<◌, Bool, true, false, List, [], ◌∷◌, drop, length, get_or, replicate, refl, sym, ap, ◌∙◌, subst, arith}
use Rattle.std.proofs.Common.{inl, inr, ⊎_elim}
use Rattle.std.proofs.lemmas.List.{drop_more, drop_all}
use Rattle.std.proofs.lemmas.Bool.{both_ways}
use Rattle.sw_base.specs.Limits.{channel_places}
use Rattle.sw_channel.specs.Positions.{Position}
use Rattle.sw_base.specs.Layout.{Channel, Layout, is_present, IsClash}
use Rattle.sw_base.specs.declared.terms.LayerName.{LayerName}
use Rattle.sw_code.specs.declared.code.Step.{Step}
use Rattle.sw_code.specs.declared.code.Step.TheVariants as step
use Rattle.sw_verify.specs.declared.ledger.Ledger.{Ledger}
use Rattle.sw_verify.specs.declared.refusal.Refusal.{Refusal}
use Rattle.sw_verify.specs.declared.refusal.Refusal.TheVariants.{NoChannel, GroupClash, LeftClosed, NotClosed}
use Rattle.sw_verify.specs.Channels.{Channels, none, is_among, with_channel, without, with_each, without_each}
use Rattle.sw_verify.specs.Sound.{CanCloseOne, CanCloseEach, CanOpenEach}
use Rattle.sw_verify.specs.Check.{IsBlocked}
use Rattle.sw_verify.specs.Nest.{StepsRight, LoopIsRound}
use Rattle.sw_verify.specs.Stops.{IsBarred, IsBarredAt, IsNotMineAt, LoopStops, StopsBy}
use Rattle.sw_verify.specs.Ledger.{TellsRow, Shows, AreSaved}
use Rattle.sw_verify.proofs.Ledgers.{tells_none, row_tells_one, one_row}

-- After some steps the ledger and the rows stand for closed sets from which the steps left tell of all.
pub record Progress (layout : Layout) (closed : List Channel) (steps : List Step) (i : ℕ) (ledger : Ledger) (rows : List (List Bool)) : Type 0 where
  pub b : Channels
  pub m : Channels
  pub ss : List (Channels × Channels)
  pub shows : Shows layout (is_among closed) b m ledger
  pub saved : AreSaved (is_among closed) ss rows
  pub right : StepsRight layout (drop i steps) b m ss → StepsRight layout steps (is_among closed) none []
  pub stops : (r : Refusal) → StopsBy layout r (drop i steps) b m ss → StopsBy layout r steps (is_among closed) none []

pub at_start : (layout : Layout) (closed : List Channel) (steps : List Step) (ledger : Ledger) → Shows layout (is_among closed) (is_among closed) none ledger
    → Progress layout closed steps 0 ledger []
at_start layout closed steps ledger s = record { b = is_among closed; m = none; ss = []; shows = s; saved = tt; right = λ h. h; stops = λ r h. h }

pub next_step : (steps : List Step) (i : ℕ) (o d : Step) → i < length steps → get_or steps i d ≡ o → drop i steps ≡ o ∷ drop (i + 1) steps
next_step steps i o d h e = drop_more steps i d h ∙ ap (λ (x : Step). x ∷ drop (i + 1) steps) e

module _ (layout : Layout) (closed : List Channel) (steps : List Step) (i : ℕ) (ledger : Ledger) (rows : List (List Bool))
    (p : Progress layout closed steps i ledger rows) where
  -- what the step and the steps behind it tell
  right_by : (o : Step) → drop i steps ≡ o ∷ drop (i + 1) steps → StepsRight layout (o ∷ drop (i + 1) steps) p.b p.m p.ss
      → StepsRight layout steps (is_among closed) none []
  right_by o e h = p.right (subst (λ (l : List Step). StepsRight layout l p.b p.m p.ss) (sym e) h)

  stops_by : (o : Step) → drop i steps ≡ o ∷ drop (i + 1) steps → (r : Refusal) → StopsBy layout r (o ∷ drop (i + 1) steps) p.b p.m p.ss
      → StopsBy layout r steps (is_among closed) none []
  stops_by o e r h = p.stops r (subst (λ (l : List Step). StopsBy layout r l p.b p.m p.ss) (sym e) h)

  pub after_wait : (name : LayerName) → drop i steps ≡ step.Wait name ∷ drop (i + 1) steps → Progress layout closed steps (i + 1) ledger rows
  after_wait name e = record {
    b = p.b;
    m = p.m;
    ss = p.ss;
    shows = p.shows;
    saved = p.saved;
    right = right_by (step.Wait name) e;
    stops = stops_by (step.Wait name) e;
  }

  pub after_timer : (name : LayerName) (micros : ℕ) → drop i steps ≡ step.Timer name micros ∷ drop (i + 1) steps
      → Progress layout closed steps (i + 1) ledger rows
  after_timer name micros e = record {
    b = p.b;
    m = p.m;
    ss = p.ss;
    shows = p.shows;
    saved = p.saved;
    right = right_by (step.Timer name micros) e;
    stops = stops_by (step.Timer name micros) e;
  }

  pub after_pause : (micros : ℕ) → drop i steps ≡ step.Pause micros ∷ drop (i + 1) steps → Progress layout closed steps (i + 1) ledger rows
  after_pause micros e = record {
    b = p.b;
    m = p.m;
    ss = p.ss;
    shows = p.shows;
    saved = p.saved;
    right = right_by (step.Pause micros) e;
    stops = stops_by (step.Pause micros) e;
  }

  pub after_read : drop i steps ≡ step.Read ∷ drop (i + 1) steps → Progress layout closed steps (i + 1) ledger rows
  after_read e = record { b = p.b; m = p.m; ss = p.ss; shows = p.shows; saved = p.saved; right = right_by step.Read e; stops = stops_by step.Read e }

  pub after_set : (k n : ℕ) (row : List Bool) → row ≡ ledger.mine → drop i steps ≡ step.Set k n ∷ drop (i + 1) steps
      → Progress layout closed steps (i + 1) ledger (row ∷ rows)
  after_set k n row same e = record {
    b = p.b;
    m = p.m;
    ss = (p.b, p.m) ∷ p.ss;
    shows = p.shows;
    saved = (subst (λ (r : List Bool). TellsRow (is_among closed) p.b p.m r) (sym same) p.shows.mine, p.saved);
    right = right_by (step.Set k n) e;
    stops = stops_by (step.Set k n) e;
  }

  pub after_close : (c : Position) (after : Ledger) → drop i steps ≡ step.Close c ∷ drop (i + 1) steps
      → ((start b m : Channels) → Shows layout start b m ledger → CanCloseEach layout b c × Shows layout start (with_each c b) (with_each c m) after)
      → Progress layout closed steps (i + 1) after rows
  after_close c after e closes =
      let w = closes (is_among closed) p.b p.m p.shows in
      record {
        b = with_each c p.b;
        m = with_each c p.m;
        ss = p.ss;
        shows = w.1;
        saved = p.saved;
        right = λ h. right_by (step.Close c) e (w.0, h);
        stops = λ r h. stops_by (step.Close c) e r (inr (w.0, h));
      }

  pub close_stops : (c : Position) (r : Refusal) → drop i steps ≡ step.Close c ∷ drop (i + 1) steps
      → ((start b m : Channels) → Shows layout start b m ledger → IsBarredAt layout b c r) → StopsBy layout r steps (is_among closed) none []
  close_stops c r e barred = stops_by (step.Close c) e r (inl (barred (is_among closed) p.b p.m p.shows))

  pub after_open : (c : Position) (after : Ledger) → drop i steps ≡ step.Open c ∷ drop (i + 1) steps
      → ((start b m : Channels) → Shows layout start b m ledger → CanOpenEach m c × Shows layout start (without_each c b) (without_each c m) after)
      → Progress layout closed steps (i + 1) after rows
  after_open c after e opens =
      let w = opens (is_among closed) p.b p.m p.shows in
      record {
        b = without_each c p.b;
        m = without_each c p.m;
        ss = p.ss;
        shows = w.1;
        saved = p.saved;
        right = λ h. right_by (step.Open c) e (w.0, h);
        stops = λ r h. stops_by (step.Open c) e r (inr (w.0, h));
      }

  pub open_stops : (c : Position) (r : Refusal) → drop i steps ≡ step.Open c ∷ drop (i + 1) steps → (r ≡ NotClosed)
      × ((start b m : Channels) → Shows layout start b m ledger → IsNotMineAt m c) → StopsBy layout r steps (is_among closed) none []
  open_stops c r e w = stops_by (step.Open c) e r (inl (w.1 (is_among closed) p.b p.m p.shows, w.0))

  -- the end of a loop with no loop open
  pub loop_alone : (k to : ℕ) → drop i steps ≡ step.Loop k to ∷ drop (i + 1) steps → rows ≡ [] → StopsBy layout LeftClosed steps (is_among closed) none []
  loop_alone k to e empty = stops_by (step.Loop k to) e LeftClosed (at p.ss (subst (AreSaved (is_among closed) p.ss) empty p.saved)) where
    at : (ss : List (Channels × Channels)) → AreSaved (is_among closed) ss []
        → LoopStops p.b p.m ss LeftClosed (StopsBy layout LeftClosed (drop (i + 1) steps) p.b p.m)
    at [] h = refl
    at (s ∷ ss) h = absurd h

  pub loop_stops : (k to : ℕ) (row : List Bool) (rest : List (List Bool)) → drop i steps ≡ step.Loop k to ∷ drop (i + 1) steps → rows ≡ row ∷ rest
      → (ledger.mine ≡ row → ⊥) → StopsBy layout LeftClosed steps (is_among closed) none []
  loop_stops k to row rest e is differ = stops_by (step.Loop k to) e LeftClosed (at p.ss (subst (AreSaved (is_among closed) p.ss) is p.saved)) where
    at : (ss : List (Channels × Channels)) → AreSaved (is_among closed) ss (row ∷ rest)
        → LoopStops p.b p.m ss LeftClosed (StopsBy layout LeftClosed (drop (i + 1) steps) p.b p.m)
    at [] h = absurd h
    at (s ∷ ss) h = inl (λ w. differ (one_row (is_among closed) p.b s.0 p.m s.1 ledger.mine row p.shows.mine h.0 w.1), refl)

  pub after_loop : (k to : ℕ) (row : List Bool) (rest : List (List Bool)) → drop i steps ≡ step.Loop k to ∷ drop (i + 1) steps → rows ≡ row ∷ rest
      → ledger.mine ≡ row → Progress layout closed steps (i + 1) ledger rest
  after_loop k to row rest e is same =
      at p.ss (subst (AreSaved (is_among closed) p.ss) is p.saved) (right_by (step.Loop k to) e) (stops_by (step.Loop k to) e) where
        at : (ss : List (Channels × Channels)) → AreSaved (is_among closed) ss (row ∷ rest)
            → (LoopIsRound p.b p.m ss (StepsRight layout (drop (i + 1) steps) p.b p.m) → StepsRight layout steps (is_among closed) none [])
            → ((r : Refusal) → LoopStops p.b p.m ss r (StopsBy layout r (drop (i + 1) steps) p.b p.m) → StopsBy layout r steps (is_among closed) none [])
            → Progress layout closed steps (i + 1) ledger rest
        at [] h f g = absurd h
        at (s ∷ ss) h f g =
            let w = row_tells_one (is_among closed) p.b s.0 p.m s.1 ledger.mine row p.shows.mine h.0 same in
            record { b = p.b; m = p.m; ss = ss; shows = p.shows; saved = h.1; right = λ x. f (w.0, w.1, x); stops = λ r x. g r (inr (w.0, w.1, x)) }

  pub halt_right : drop i steps ≡ step.Halt ∷ drop (i + 1) steps → ledger.mine ≡ replicate channel_places false
      → StepsRight layout steps (is_among closed) none []
  halt_right e clear =
      right_by step.Halt e (row_tells_one (is_among closed) p.b (is_among closed) p.m none ledger.mine (replicate channel_places false) p.shows.mine
      (tells_none (is_among closed)) clear).1

  pub halt_stops : drop i steps ≡ step.Halt ∷ drop (i + 1) steps → (ledger.mine ≡ replicate channel_places false → ⊥)
      → StopsBy layout LeftClosed steps (is_among closed) none []
  halt_stops e left =
      stops_by step.Halt e LeftClosed (
        λ w.
            left (one_row (is_among closed) p.b (is_among closed) p.m none ledger.mine (replicate channel_places false) p.shows.mine
            (tells_none (is_among closed)) w),
        refl,
      )

  pub end_right : i ≡ length steps → StepsRight layout steps (is_among closed) none []
  end_right e = p.right (subst (λ (l : List Step). StepsRight layout l p.b p.m p.ss) (sym none_left) tt) where
    none_left : drop i steps ≡ []
    none_left = drop_all i steps (omega arith)

-- the end of a loop where no loop is open or the newest row is another
pub loop_differs : (layout : Layout) (closed : List Channel) (steps : List Step) (i : ℕ) (ledger : Ledger) (rows : List (List Bool))
    → Progress layout closed steps i ledger rows → (k to : ℕ) → drop i steps ≡ step.Loop k to ∷ drop (i + 1) steps
    → ((rest : List (List Bool)) → rows ≡ ledger.mine ∷ rest → ⊥) → StopsBy layout LeftClosed steps (is_among closed) none []
loop_differs layout closed steps i ledger [] p k to e other = loop_alone layout closed steps i ledger [] p k to e refl
loop_differs layout closed steps i ledger (row ∷ rest) p k to e other =
    loop_stops layout closed steps i ledger (row ∷ rest) p k to row rest e refl (λ same. other rest (ap (λ (r : List Bool). r ∷ rest) (sym same)))

-- what may not be closed can't be
pub barred_not : (layout : Layout) (b : Channels) (c : Channel) (r : Refusal) → CanCloseOne layout b c → IsBarred layout b c r → ⊥
barred_not layout b c r can barred =
    ⊎_elim (λ (x : (is_present layout c ≡ false) × (r ≡ NoChannel)). both_ways (is_present layout c) x.0 can.present)
    (λ (x : (is_present layout c ≡ true) × IsBlocked layout b c × (r ≡ GroupClash)).
    ⊎_elim (λ (h : b c ≡ true). both_ways (b c) can.was_open h)
    (λ (h : (y : Channel) × (b y ≡ true) × IsClash layout c y). can.apart h.0 h.1 h.2) x.1)
    barred

pub barred_at_not : (layout : Layout) (b : Channels) (p : Position) (r : Refusal) → CanCloseEach layout b p → IsBarredAt layout b p r → ⊥
barred_at_not layout b [] r k h = h
barred_at_not layout b (c ∷ p) r k h =
    ⊎_elim (λ (w : IsBarred layout b c r). barred_not layout b c r k.0 w)
    (λ (w : CanCloseOne layout b c × IsBarredAt layout (with_channel c b) p r). barred_at_not layout (with_channel c b) p r k.1 w.1) h

pub not_mine_not : (m : Channels) (p : Position) → CanOpenEach m p → IsNotMineAt m p → ⊥
not_mine_not m [] k h = h
not_mine_not m (c ∷ p) k h =
    ⊎_elim (λ (w : m c ≡ false). both_ways (m c) w k.0) (λ (w : (m c ≡ true) × IsNotMineAt (without c m) p). not_mine_not (without c m) p k.1 w.1) h

-- steps that are right are not refused
pub right_not_stopped : (layout : Layout) (r : Refusal) (steps : List Step) (b m : Channels) (ss : List (Channels × Channels)) → StepsRight layout steps b m ss
    → StopsBy layout r steps b m ss → ⊥
right_not_stopped layout r [] b m ss h s = s
right_not_stopped layout r (step.Set k n ∷ steps) b m ss h s = right_not_stopped layout r steps b m ((b, m) ∷ ss) h s
right_not_stopped layout r (step.Wait name ∷ steps) b m ss h s = right_not_stopped layout r steps b m ss h s
right_not_stopped layout r (step.Timer name micros ∷ steps) b m ss h s = right_not_stopped layout r steps b m ss h s
right_not_stopped layout r (step.Pause micros ∷ steps) b m ss h s = right_not_stopped layout r steps b m ss h s
right_not_stopped layout r (step.Close c ∷ steps) b m ss h s =
    ⊎_elim (λ (x : IsBarredAt layout b c r). barred_at_not layout b c r h.0 x)
    (λ (x : CanCloseEach layout b c × StopsBy layout r steps (with_each c b) (with_each c m) ss).
    right_not_stopped layout r steps (with_each c b) (with_each c m) ss h.1 x.1) s
right_not_stopped layout r (step.Read ∷ steps) b m ss h s = right_not_stopped layout r steps b m ss h s
right_not_stopped layout r (step.Open c ∷ steps) b m ss h s =
    ⊎_elim (λ (x : IsNotMineAt m c × (r ≡ NotClosed)). not_mine_not m c h.0 x.0)
    (λ (x : CanOpenEach m c × StopsBy layout r steps (without_each c b) (without_each c m) ss).
    right_not_stopped layout r steps (without_each c b) (without_each c m) ss h.1 x.1) s
right_not_stopped layout r (step.Loop k to ∷ steps) b m [] h s = h
right_not_stopped layout r (step.Loop k to ∷ steps) b m (t ∷ ss) h s =
    ⊎_elim (λ (x : ((b ≡ t.0) × (m ≡ t.1) → ⊥) × (r ≡ LeftClosed)). x.0 (h.0, h.1))
    (λ (x : (b ≡ t.0) × (m ≡ t.1) × StopsBy layout r steps b m ss). right_not_stopped layout r steps b m ss h.2 x.2) s
right_not_stopped layout r (step.Halt ∷ steps) b m ss h s = s.0 h

pub moved : (layout : Layout) (closed : List Channel) (steps : List Step) (i : ℕ) (ledger ledger' : Ledger) (rows rows' : List (List Bool)) → ledger' ≡ ledger
    → rows' ≡ rows → Progress layout closed steps i ledger rows → Progress layout closed steps i ledger' rows'
moved layout closed steps i ledger ledger' rows rows' e f p =
    subst (λ (l : Ledger). Progress layout closed steps i l rows') (sym e) (subst (λ (r : List (List Bool)). Progress layout closed steps i ledger r) (sym f) p)
