-- The locks stay in order, and whoever holds one is joined.
use Rattle.std.proofs.Common.{◌≡◌, ◌≢◌, ℕ, ◌-◌, ◌==◌, ◌&&◌, ◌||◌, not, cond, Bool, true, false, List, [], ◌∷◌, length, Option, None, Some, is_some}
use Rattle.std.proofs.Common.{refl, sym, ◌∙◌, ap, subst, arith, inl, inr, ◌⊎◌}
use Rattle.std.specs.Prelude.{MatchBool}
use Rattle.std.proofs.lemmas.Bool.{cases_eq, cases_Bool, eq-eqb, eqb-true, cond-true, cond-false}
use Rattle.std.proofs.lemmas.List.{get_or-set_same, get_or-set_other, length-set}
use Rattle.sw_base.specs.Layout.{slot_at}
use Rattle.sw_base.specs.Limits.{most_sessions}
use Rattle.sw_hislip.specs.LockTable.{LockTable, no_locks, key_of, shares, is_holder, excludes, holds, granted, with_key, without_exclusive}
use Rattle.sw_hislip.specs.LockTable.{Replies, released, without_session}
use Rattle.sw_hislip.specs.LockRules.{IsSession, IsOrderly, asks, releases, leaves}
use Rattle.sw_hislip.specs.declared.locks.LockReply.TheVariants as Reply
use Rattle.sw_hislip.proofs.LockTurns.{step_orderly, first_orderly}
use Rattle.sw_hislip.proofs.LockProofs.{none_at}
use Rattle.sw_cage.specs.Work.{FinishedSeen}
use Rattle.sw_cage.specs.declared.taken.Happening.TheVariants.{Bus, External, Elapsed}
use Rattle.sw_cage.proofs.SlotChangeLemmas.{slot_cases}
use Rattle.sw_core.specs.declared.ask.Sid.{Sid}
use Rattle.sw_core.specs.declared.ask.SessionAsk.{SessionAsk}
use Rattle.sw_core.specs.declared.ask.SessionAsk.TheVariants as Ask
use Rattle.sw_core.specs.declared.ask.SessionAnswer.{SessionAnswer}
use Rattle.sw_core.specs.declared.ask.SessionAnswer.TheVariants as answers
use Rattle.sw_core.specs.declared.ask.SessionAnswer.TheVariants.{Joined, Full, Stranger, Broken, Done, Refused, Hold, Worn, Missed, Max, Lock, Info}
use Rattle.sw_core.specs.declared.sessions.Seat.{Seat}
use Rattle.sw_core.specs.Panel.{Panel, opening_at}
use Rattle.sw_core.specs.Event.{concluded, session_concluded, last_number}
use Rattle.sw_core.specs.Sessions.{SessionsSeen, nobody, IsJoined, with_seat, seat_of, AreSeated}
use Rattle.sw_core.specs.Seats.{asker_of, StepLock, StepSeat, attached}
use Rattle.sw_core.specs.Seats.{Locks}
use Rattle.sw_core.specs.Seen.{WorkSeen, AskSeen, AskSession, AskInstall, AskEject, AskExternal, AskElapsed, AskFinished, AnswerSeen, SaysSession}
use Rattle.sw_core.specs.Seen.{SaysInstalled, SaysNotInstalled, SaysEjected, SaysNotEjected, SaysBack}
use Rattle.sw_core.specs.Step.{IsServed, StepJoined, StepAdmitted, StepJoin, StepAttach, StepNew, StepSession, StepFinished, Acts, acts_unnumbered}
use Rattle.sw_core.specs.Step.{IsEvent, IsUnnumbered, Step, Admission, Dropped, ShutOut, Admitted, admission}
use Rattle.sw_core.proofs.SeatingLemmas.{seated_number, lacking_number}
use Rattle.sw_core.proofs.KeepingLemmas.{keep_happens, keep_held, unit_sessions, snapshot_sessions, start_sessions, returns_sessions}

-- ---- who holds a lock after a turn

either : (a b : Bool) → (a || b) ≡ true → (a ≡ true) ⊎ (b ≡ true)
either true b h = inl refl
either false b h = inr h

or_first : (a b : Bool) → a ≡ true → (a || b) ≡ true
or_first true b h = refl
or_first false b h = absurd (cc (h))

or_second : (a b : Bool) → b ≡ true → (a || b) ≡ true
or_second true b h = refl
or_second false b h = h

is_holder_is : (number : ℕ) (o : Option ℕ) → is_holder number o ≡ true → o ≡ Some number
is_holder_is number None h = absurd (cc (h))
is_holder_is number (Some holder) h = ap (λ (n : ℕ). Some n) (eqb-true holder number h)

held_exclusive : (l : LockTable) (number : ℕ) → l.exclusive ≡ Some number → holds l number ≡ true
held_exclusive l number e =
    or_first (excludes l number) (shares l number) (ap (λ (o : Option ℕ). is_holder number o) e ∙ eq-eqb number number refl)

held_shared : (l : LockTable) (number : ℕ) → shares l number ≡ true → holds l number ≡ true
held_shared l number e = or_second (excludes l number) (shares l number) e

-- what a session holds by one table it holds by the other, but for one session
abbrev HoldsLess : LockTable → LockTable → ℕ → Type 0
HoldsLess l m number = holds m number ≡ true → holds l number ≡ true

holds_less : (l m : LockTable) (number : ℕ) → (m.exclusive ≡ Some number → l.exclusive ≡ Some number)
    → (shares m number ≡ true → shares l number ≡ true) → HoldsLess l m number
holds_less l m number e s h = elim (either (excludes m number) (shares m number) h) [
  | inl x ↦ held_exclusive l number (e (is_holder_is number m.exclusive x))
  | inr x ↦ held_shared l number (s x)
]

key_same : (l : LockTable) (sid : ℕ) (k : Option (List ℕ)) → length l.keys ≡ most_sessions → IsSession sid → key_of (with_key l sid k) sid ≡ k
key_same l sid k n s = get_or-set_same l.keys (sid - 1) k None (omega (arith, n, s.0, s.1))

key_other : (l : LockTable) (sid other : ℕ) (k : Option (List ℕ)) → IsSession sid → IsSession other → other ≢ sid
    → key_of (with_key l sid k) other ≡ key_of l other
key_other l sid other k s t differ = get_or-set_other l.keys (sid - 1) (other - 1) k None (λ e. differ (omega (arith, e, s.0, t.0)))

no_key : (l : LockTable) (sid : ℕ) → length l.keys ≡ most_sessions → IsSession sid → shares (with_key l sid None) sid ≡ true → ⊥
no_key l sid n s h = let e : false ≡ true = ap (λ (o : Option (List ℕ)). is_some o) (sym (key_same l sid None n s)) ∙ h in cc (e)

-- a key is taken away
less_key : (l : LockTable) (sid number : ℕ) → length l.keys ≡ most_sessions → IsSession sid → IsSession number → HoldsLess l (with_key l sid None) number
less_key l sid number n s t = holds_less l (with_key l sid None) number (λ e. e) (λ h. elim (cases_eq number sid) [
  | inl e ↦ absurd (no_key l sid n s (subst (λ (x : ℕ). shares (with_key l sid None) x ≡ true) e h))
  | inr differ ↦ ap (λ (o : Option (List ℕ)). is_some o) (sym (key_other l sid number None s t differ)) ∙ h
])

less_exclusive : (l : LockTable) (number : ℕ) → HoldsLess l (without_exclusive l) number
less_exclusive l number = holds_less l (without_exclusive l) number (λ e. absurd (cc (e))) (λ h. h)

less_same : (l m : LockTable) (number : ℕ) → m ≡ l → HoldsLess l m number
less_same l m number e h = ap (λ (x : LockTable). holds x number) (sym e) ∙ h

-- a release
less_released : (l : LockTable) (sid number : ℕ) → length l.keys ≡ most_sessions → IsSession sid → IsSession number → HoldsLess l (released l sid) number
less_released l sid number n s t =
    let rest = cond (shares l sid) (with_key l sid None) l in
    elim (cases_Bool (excludes l sid)) [
      | inl own ↦ subst (λ (x : LockTable). HoldsLess l x number) (sym (cond-true (excludes l sid) (without_exclusive l) rest own)) (less_exclusive l number)
      | inr other ↦ subst (λ (x : LockTable). HoldsLess l x number) (sym (cond-false (excludes l sid) (without_exclusive l) rest other))
          (elim (cases_Bool (shares l sid)) [
            | inl shared ↦ subst (λ (x : LockTable). HoldsLess l x number) (sym (cond-true (shares l sid) (with_key l sid None) l shared))
                (less_key l sid number n s t)
            | inr none ↦ subst (λ (x : LockTable). HoldsLess l x number) (sym (cond-false (shares l sid) (with_key l sid None) l none)) (λ h. h)
          ])
    ]

-- who leaves holds nothing, and nobody else holds more
pub record Freed (l m : LockTable) (sid number : ℕ) : Type 0 where
  pub other : holds m number ≡ true → number ≢ sid
  pub less : HoldsLess l m number

freed_by : (l old : LockTable) (sid number : ℕ) → length old.keys ≡ most_sessions → IsSession sid → IsSession number
    → (old.exclusive ≡ Some sid → ⊥) → HoldsLess l old number → Freed l (with_key old sid None) sid number
freed_by l old sid number n s t alone less = record {
  other = λ h e. elim (either (excludes (with_key old sid None) number) (shares (with_key old sid None) number) h) [
    | inl x ↦ alone (is_holder_is number old.exclusive x ∙ ap (λ (k : ℕ). Some k) e)
    | inr x ↦ no_key old sid n s (subst (λ (k : ℕ). shares (with_key old sid None) k ≡ true) e x)
  ];
  less = λ h. less (less_key old sid number n s t h);
}

freed : (l : LockTable) (sid number : ℕ) → length l.keys ≡ most_sessions → IsSession sid → IsSession number → Freed l (without_session l sid) sid number
freed l sid number n s t =
    elim (cases_Bool (excludes l sid)) [
      | inl own ↦ subst (λ (x : LockTable). Freed l (with_key x sid None) sid number) (sym (cond-true (excludes l sid) (without_exclusive l) l own))
          (freed_by l (without_exclusive l) sid number n s t (λ e. cc (e)) (less_exclusive l number))
      | inr other ↦ subst (λ (x : LockTable). Freed l (with_key x sid None) sid number) (sym (cond-false (excludes l sid) (without_exclusive l) l other))
          (freed_by l l sid number n s t (λ e. not_holder e other) (λ h. h))
    ]
  where
    not_holder : l.exclusive ≡ Some sid → excludes l sid ≡ false → ⊥
    not_holder e h = let x : true ≡ false = sym (ap (λ (o : Option ℕ). is_holder sid o) e ∙ eq-eqb sid sid refl) ∙ h in cc (x)

-- a lock that is granted is held by who asked, and nobody else holds more
holds_granted : (l : LockTable) (sid : ℕ) (key : List ℕ) (number : ℕ) → IsSession sid → IsSession number → number ≢ sid
    → HoldsLess l (granted l sid key) number
holds_granted l sid [] number s t differ =
    holds_less l (granted l sid []) number (λ e. absurd (differ (let x : sid ≡ number = cc (e) in sym x))) (λ h. h)
holds_granted l sid (b ∷ key) number s t differ =
    holds_less l (granted l sid (b ∷ key)) number (λ e. e)
    (λ h. ap (λ (o : Option (List ℕ)). is_some o) (sym (key_other l sid number (Some (b ∷ key)) s t differ)) ∙ h)

-- ---- seats

-- a session that has a seat keeps one
seat_kept : (s : SessionsSeen) (sid number : ℕ) (seat : Seat) → length s.seats ≡ most_sessions → IsSession sid
    → is_some (slot_at s.seats number) ≡ true → is_some (slot_at (with_seat s sid (Some seat)).seats number) ≡ true
seat_kept s sid number seat n i h = elim (slot_cases s.seats sid number (Some seat) (omega (arith, i.0)) (omega (arith, n, i.1))) [
  | inl e ↦ ap (λ (o : Option Seat). is_some o) e.1
  | inr e ↦ ap (λ (o : Option Seat). is_some o) e.1 ∙ h
]

seated_seat : (s : SessionsSeen) (sid : ℕ) (seat : Seat) → IsSession sid → AreSeated s → AreSeated (with_seat s sid (Some seat))
seated_seat s sid seat i k = record {
  seats = length-set s.seats (sid - 1) (Some seat) ∙ k.seats;
  locks = k.locks;
  joined = λ number is h. seat_kept s sid number seat k.seats i (k.joined number is h);
}

seat_other : (s : SessionsSeen) (sid number : ℕ) → length s.seats ≡ most_sessions → IsSession sid → number ≢ sid
    → is_some (slot_at s.seats number) ≡ true → is_some (slot_at (with_seat s sid None).seats number) ≡ true
seat_other s sid number n i differ h = elim (slot_cases s.seats sid number None (omega (arith, i.0)) (omega (arith, n, i.1))) [
  | inl e ↦ absurd (differ e.0)
  | inr e ↦ ap (λ (o : Option Seat). is_some o) e.1 ∙ h
]

seated_left : (s : SessionsSeen) (sid : ℕ) → IsSession sid → AreSeated s
    → AreSeated (record (with_seat s sid None) { locks = without_session s.locks sid })
seated_left s sid i k = record {
  seats = length-set s.seats (sid - 1) None ∙ k.seats;
  locks = step_orderly s.locks (without_session s.locks sid) (leaves sid) k.locks (i, refl);
  joined = λ number is h.
      let f = freed s.locks sid number k.locks.sessions i is in
      seat_other s sid number k.seats i (f.other h) (k.joined number is (f.less h));
}

-- a session that is joined
has_seat : (s : SessionsSeen) (sid : Sid) → IsJoined s sid → is_some (slot_at s.seats sid.number) ≡ true
has_seat s sid h = some_joined (slot_at s.seats sid.number) h
  where
    some_joined : (o : Option Seat) → Rattle.sw_core.specs.Sessions.joined_in o ≡ Some sid.joined → is_some o ≡ true
    some_joined None e = absurd (cc (e))
    some_joined (Some seat) e = refl

seated_locks : (s : SessionsSeen) (m : LockTable) → AreSeated s → IsOrderly m
    → ((number : ℕ) → IsSession number → holds m number ≡ true → is_some (slot_at s.seats number) ≡ true)
    → AreSeated (record s { locks = m })
seated_locks s m k order joined = record { seats = k.seats; locks = order; joined = joined }

seated_granted : (s : SessionsSeen) (sid : Sid) (key : List ℕ) (m : LockTable) → IsJoined s sid → IsSession sid.number → AreSeated s
    → Replies s.locks sid.number key Reply.Granted m → AreSeated (record s { locks = m })
seated_granted s sid key m j i k h =
    seated_locks s m k (step_orderly s.locks m (asks sid.number key Reply.Granted) k.locks (i, h)) (λ number is own. elim (cases_eq number sid.number) [
      | inl e ↦ subst (λ (n : ℕ). is_some (slot_at s.seats n) ≡ true) (sym e) (has_seat s sid j)
      | inr differ ↦ k.joined number is (holds_granted s.locks sid.number key number i is differ (ap (λ (x : LockTable). holds x number) (sym h.2) ∙ own))
    ])

seated_same : (s t : SessionsSeen) → t ≡ s → AreSeated s → AreSeated t
seated_same s t e k = subst (λ (x : SessionsSeen). AreSeated x) (sym e) k

same_table : (s : SessionsSeen) (m : LockTable) → m ≡ s.locks → AreSeated s → AreSeated (record s { locks = m })
same_table s m e k = subst (λ (x : LockTable). AreSeated (record s { locks = x })) (sym e)
    (record { seats = k.seats; locks = k.locks; joined = k.joined })

seated_code : (s : SessionsSeen) (sid : Sid) (key : List ℕ) (code : ℕ) (m : LockTable) → IsJoined s sid → IsSession sid.number → AreSeated s
    → Locks s.locks sid.number key code m → AreSeated (record s { locks = m })
seated_code s sid key code m j i k (inl h) = seated_granted s sid key m j i k h.1
seated_code s sid key code m j i k (inr (inl h)) = same_table s m h.1.1 k
seated_code s sid key code m j i k (inr (inr h)) = same_table s m h.2 k

-- the same seats
seats_as : (s t : SessionsSeen) → t.seats ≡ s.seats → AreSeated (record s { locks = t.locks }) → AreSeated t
seats_as s t e k = record {
  seats = ap (λ (l : List (Option Seat)). length l) e ∙ k.seats;
  locks = k.locks;
  joined = λ number is h. ap (λ (l : List (Option Seat)). is_some (slot_at l number)) e ∙ k.joined number is h;
}

seated_lock : (s : SessionsSeen) (sid : Sid) (key : List ℕ) (a : SessionAnswer) (t : SessionsSeen) → IsJoined s sid → IsSession sid.number → AreSeated s
    → StepLock s sid key a t → AreSeated t
seated_lock s sid key (Lock code) t j i k h = seats_as s t h.1 (seated_code s sid key code t.locks j i k h.0)
seated_lock s sid key (Hold back) t j i k h = seated_same s t h.2 k
seated_lock s sid key a t j i k h = absurd h

seated_release : (s : SessionsSeen) (sid : ℕ) → IsSession sid → AreSeated s → AreSeated (record s { locks = released s.locks sid })
seated_release s sid i k =
    seated_locks s (released s.locks sid) k (step_orderly s.locks (released s.locks sid) (releases sid) k.locks (i, refl))
    (λ number is h. k.joined number is (less_released s.locks sid number k.locks.sessions i is h))

seated_step : (s : SessionsSeen) (ask : SessionAsk) (a : SessionAnswer) (t : SessionsSeen)
    → ((sid : Sid) → asker_of ask ≡ Some sid → IsJoined s sid) → AreSeated s → StepSeat s ask a t → AreSeated t
seated_step s (Ask.Leave sid) (Done None) t j k h = seated_same _ t h (seated_left s sid.number (seated_number s sid k.seats (j sid refl)) k)
seated_step s (Ask.Attached sid) (Done None) t j k h = seated_same s t h.1 k
seated_step s (Ask.Attached sid) Missed t j k h = seated_same s t h.1 k
seated_step s (Ask.Size sid n) (Done None) t j k h = seated_same _ t h (seated_seat s sid.number _ (seated_number s sid k.seats (j sid refl)) k)
seated_step s (Ask.MaxSize sid) (Max n) t j k h = seated_same s t h.1 k
seated_step s (Ask.Clear sid) (Done None) t j k h = seated_same _ t h (seated_seat s sid.number _ (seated_number s sid k.seats (j sid refl)) k)
seated_step s (Ask.Cleared sid) (Done None) t j k h = seated_same _ t h (seated_seat s sid.number _ (seated_number s sid k.seats (j sid refl)) k)
seated_step s (Ask.Lock sid key) a t j k h = seated_lock s sid key a t (j sid refl) (seated_number s sid k.seats (j sid refl)) k h
seated_step s (Ask.Release sid) (Lock code) t j k h =
    seated_same _ t h.1 (seated_release s sid.number (seated_number s sid k.seats (j sid refl)) k)
seated_step s (Ask.LockInfo sid) (Info exclusive n) t j k h = seated_same s t h.2 k
seated_step s ask a t j k h = absurd h

-- ---- asks

seated_as : (p q : Panel) → q.sessions ≡ p.sessions → AreSeated p.sessions → AreSeated q.sessions
seated_as p q e k = seated_same p.sessions q.sessions e k

seated_is : (p q : Panel) → q ≡ p → AreSeated p.sessions → AreSeated q.sessions
seated_is p q e k = seated_as p q (ap (λ (x : Panel). x.sessions) e) k

seated_served : (p : Panel) (ask : SessionAsk) (f : Bool) (a : SessionAnswer) (q : Panel)
    → ((sid : Sid) → asker_of ask ≡ Some sid → IsJoined p.sessions sid) → AreSeated p.sessions → IsServed p ask f a q → AreSeated q.sessions
seated_served p ask f a q j k h =
    seated_same h.sessions q.sessions (ap (λ (x : Panel). x.sessions) h.after) (seated_step p.sessions ask a h.sessions j k h.served)

seated_joined : (p : Panel) (ask : SessionAsk) (f : Bool) (a : SessionAnswer) (w : Option WorkSeen) (q : Panel)
    → ((sid : Sid) → asker_of ask ≡ Some sid → IsJoined p.sessions sid) → AreSeated p.sessions → StepJoined p ask f a w q → AreSeated q.sessions
seated_joined p (Ask.Fault sid e) f (Done None) None q j k h = seated_as p q (ap (λ (x : Panel). x.sessions) h.1) k
seated_joined p (Ask.Fault sid e) f a None q j k h = seated_served p (Ask.Fault sid e) f a q j k h
seated_joined p (Ask.Unit sid command available) f a w q j k h = seated_as p q (unit_sessions p sid command available f a w q h) k
seated_joined p (Ask.Bus sid) f a w q j k h = seated_as p q (keep_happens p Bus f h.told q h.happens).0 k
seated_joined p (Ask.Snapshot sid) f a None q j k h = seated_as p q (snapshot_sessions p f a q h) k
seated_joined p (Ask.Start sid plan) f a w q j k h = seated_as p q (start_sessions p plan f a w q h) k
seated_joined p (Ask.Attached sid) f a None q j k h = seated_served p (Ask.Attached sid) f a q j k h
seated_joined p (Ask.Leave sid) f a None q j k h = seated_served p (Ask.Leave sid) f a q j k h
seated_joined p (Ask.Size sid n) f a None q j k h = seated_served p (Ask.Size sid n) f a q j k h
seated_joined p (Ask.MaxSize sid) f a None q j k h = seated_served p (Ask.MaxSize sid) f a q j k h
seated_joined p (Ask.Clear sid) f a None q j k h = seated_served p (Ask.Clear sid) f a q j k h
seated_joined p (Ask.Cleared sid) f a None q j k h = seated_served p (Ask.Cleared sid) f a q j k h
seated_joined p (Ask.Lock sid key) f a None q j k h = seated_served p (Ask.Lock sid key) f a q j k h
seated_joined p (Ask.Release sid) f a None q j k h = seated_served p (Ask.Release sid) f a q j k h
seated_joined p (Ask.LockInfo sid) f a None q j k h = seated_served p (Ask.LockInfo sid) f a q j k h
seated_joined p Ask.Join f a None q j k h = seated_served p Ask.Join f a q j k h
seated_joined p (Ask.Attach n) f a None q j k h = seated_served p (Ask.Attach n) f a q j k h
seated_joined p ask f a w q j k h = absurd h

seated_admitted : (now : Admission) (p : Panel) (ask : SessionAsk) (f : Bool) (a : SessionAnswer) (w : Option WorkSeen) (q : Panel)
    → ((sid : Sid) → asker_of ask ≡ Some sid → IsJoined p.sessions sid) → AreSeated p.sessions → StepAdmitted now p ask f a w q → AreSeated q.sessions
seated_admitted Dropped p ask f Broken None q j k h = seated_is p q h.1 k
seated_admitted Dropped p ask f a w q j k h = absurd h
seated_admitted ShutOut p ask f a w q j k h = seated_as p q (keep_held p ask f a w q h).0 k
seated_admitted Admitted p ask f a w q j k h = seated_joined p ask f a w q j k h

seated_join : (p : Panel) (f : Bool) (a : SessionAnswer) (w : Option WorkSeen) (q : Panel) → AreSeated p.sessions → StepJoin p f a w q → AreSeated q.sessions
seated_join p f (Joined sid) None q k h =
    seated_same _ q.sessions (ap (λ (x : Panel). x.sessions) h.3) (seated_seat p.sessions sid.number _ (h.1.first, h.1.last) k)
seated_join p f Full None q k h = seated_is p q h.2 k
seated_join p f a w q k h = absurd h

seated_attach : (p : Panel) (number : ℕ) (f : Bool) (a : SessionAnswer) (w : Option WorkSeen) (q : Panel) → AreSeated p.sessions
    → StepAttach p number f a w q → AreSeated q.sessions
seated_attach p number f (Joined sid) None q k h =
    seated_same (attached p.sessions number) q.sessions h.1.after
    (seated_seat p.sessions number _ (lacking_number p.sessions number k.seats h.1.lacks) k)
seated_attach p number f Stranger None q k h = seated_is p q h.2 k
seated_attach p number f a w q k h = absurd h

seated_new : (p : Panel) (ask : SessionAsk) (f : Bool) (a : SessionAnswer) (w : Option WorkSeen) (q : Panel) → AreSeated p.sessions → StepNew p ask f a w q
    → AreSeated q.sessions
seated_new p Ask.Join f a w q k h = seated_join p f a w q k h
seated_new p (Ask.Attach number) f a w q k h = seated_attach p number f a w q k h
seated_new p ask f a w q k h = absurd h

seated_session : (o : Option Sid) (p : Panel) (ask : SessionAsk) (f : Bool) (a : SessionAnswer) (w : Option WorkSeen) (q : Panel) → asker_of ask ≡ o
    → AreSeated p.sessions → StepSession o p ask f a w q → AreSeated q.sessions
seated_session None p ask f a w q e k h = seated_new p ask f a w q k h
seated_session (Some sid) p ask f Stranger None q e k h = seated_is p q h.2 k
seated_session (Some sid) p ask f a w q e k h =
    seated_admitted (admission p sid ask) p ask f a w q (λ other is.
    subst (λ (x : Sid). IsJoined p.sessions x) (let same = sym e ∙ is in let s : sid ≡ other = cc (same) in s) h.0) k h.1

seated_finished : (p : Panel) (done : FinishedSeen) (f : Bool) (a : AnswerSeen) (q : Panel) → AreSeated p.sessions → StepFinished p done f a q
    → AreSeated q.sessions
seated_finished p done f SaysBack q k h = seated_is p q h.2 k
seated_finished p done f a q k h = seated_as p q (returns_sessions p done f h.told q h.returns) k

seated_acts : (p : Panel) (ask : AskSeen) (f : Bool) (a : AnswerSeen) (q : Panel) → AreSeated p.sessions → Acts p ask f a q → AreSeated q.sessions
seated_acts p (AskSession ask) f (SaysSession a w) q k h = seated_session (asker_of ask) p ask f a w q refl k h
seated_acts p (AskInstall slot card) f SaysInstalled q k h = seated_as p q (ap (λ (x : Panel). x.sessions) h.4) k
seated_acts p (AskInstall slot card) f (SaysNotInstalled refusal) q k h = seated_is p q h.2 k
seated_acts p (AskEject slot) f (SaysEjected card) q k h = seated_as p q (ap (λ (x : Panel). x.sessions) h.3) k
seated_acts p (AskEject slot) f (SaysNotEjected refusal) q k h = seated_is p q h.2 k
seated_acts p AskExternal f a q k h = seated_as p q (keep_happens p External f h.told q h.happens).0 k
seated_acts p (AskElapsed ticket) f a q k h = seated_as p q (keep_happens p (Elapsed ticket) f h.told q h.happens).0 k
seated_acts p (AskFinished done) f a q k h = seated_finished p done f a q k h
seated_acts p ask f a q k h = absurd h

-- ---- events

-- the end of an event moves no session
session_end : (a : SessionAnswer) (p : Panel) → (session_concluded a p).sessions ≡ p.sessions
session_end Stranger p = refl
session_end Broken p = refl
session_end (Hold ask) p = refl
session_end (Worn ask) p = refl
session_end (Refused e) p = refl
session_end (Joined sid) p = refl
session_end Full p = refl
session_end (Done text) p = refl
session_end (answers.Snapshot s number) p = refl
session_end Missed p = refl
session_end (Max n) p = refl
session_end (Lock code) p = refl
session_end (Info exclusive n) p = refl

event_end : (a : AnswerSeen) (p : Panel) → (concluded a p).sessions ≡ p.sessions
event_end (SaysSession a w) p = session_end a p
event_end a p = refl

seated_either : (b : Bool) (p : Panel) (ask : AskSeen) (f : Bool) (a : AnswerSeen) (q : Panel) → AreSeated p.sessions
    → MatchBool b (IsUnnumbered p ask f a q) (IsEvent p ask f a q) → AreSeated q.sessions
seated_either true p ask f a q k h = seated_is p q h.same k
seated_either false p ask f a q k h =
    seated_as h.done q (ap (λ (x : Panel). x.sessions) h.after ∙ event_end a h.done) (seated_acts p ask f a h.done k h.acts)

pub step_seated : (p : Panel) (ask : AskSeen) (f : Bool) (a : AnswerSeen) (q : Panel) → AreSeated p.sessions → Step p ask f a q → AreSeated q.sessions
step_seated p ask f a q k h = seated_either ((p.events == last_number) && not (acts_unnumbered ask)) p ask f a q k h

-- nobody holds a lock before anybody joins
holds_none : (number : ℕ) → holds no_locks number ≡ true → ⊥
holds_none number h = elim (either (excludes no_locks number) (shares no_locks number) h) [
  | inl x ↦ cc (x)
  | inr x ↦ (let e : false ≡ true = ap (λ (o : Option (List ℕ)). is_some o) (sym (none_at no_locks.keys (number - 1) refl)) ∙ x in cc (e))
]

pub opening_seated : (events scans : ℕ) → AreSeated (opening_at events scans).sessions
opening_seated events scans = record { seats = refl; locks = first_orderly; joined = λ number is h. absurd (holds_none number h) }
