-- Parts of a server's run, one after another.
use Rattle.std.proofs.Common.{◌≡◌, ℕ, ◌+◌, List, [], ◌∷◌, ◌++◌, refl, sym, ap, ap₂, ◌∙◌, append_assoc, append-nil, arith, inl, inr, subst}
use Rattle.std.proofs.Common.{flat_map, Ok, Err, Some, None, Option, Result, IfOk, OnErr}
use Rattle.std.proofs.lemmas.List.Concat.{flat_map-append}
use Rattle.std.specs.Prelude.{option_map}
use Rattle.std.specs.Io.KnownBytes.{Appends}
use Rattle.sw_hislip.specs.declared.fault.WireFault.TheVariants.{BadPrologue, TooLarge, NoMemory}
use Rattle.sw_hislip.specs.declared.kind.Kind.{Kind}
use Rattle.sw_hislip.specs.declared.message.Message.{Message}
use Rattle.sw_hislip.specs.Pending.{Pending, fed}
use Rattle.sw_hislip.specs.Stream.{Call, feeds, answers, Decodes, stream_of, told}
use Rattle.sw_channels.specs.declared.step.Sent.{Sent}
use Rattle.sw_channels.specs.Said.{StepSeen}
use Rattle.sw_session.specs.Acts.{Act, Takes, Skips, Refuses, Notices}
use Rattle.sw_session.specs.declared.after_step.AfterStep.{AfterStep}
use Rattle.sw_session.specs.declared.after_step.AfterStep.TheVariants.{Goes, Ends, Fatal, Malformed}
use Rattle.sw_session.specs.declared.fault.ServeFault.{ServeFault}
use Rattle.sw_session.specs.declared.fault.ServeFault.TheVariants as Fault
use Rattle.sw_talk.specs.Trace.{Entry, Leads}
use Rattle.sw_channels.specs.EngineStep.{LedBy}
use Rattle.sw_session.specs.ServeWrite.{wire_on, wire_off}
use Rattle.sw_session.specs.ServePoint.{Protocol, Voice, Point, point}
use Rattle.sw_session.specs.ServeHand.{availability_notes, HandsOver, HandsUpTo}
use Rattle.sw_session.specs.ServeRead.{PausesBy}
use Rattle.sw_session.specs.Serve.{Exchange, Speaks, acts_of, asks_of, said_of, arrived, is_refused, after_step, pauses}
use Rattle.sw_session.specs.Serve.{is_pause}
use Rattle.sw_session.specs.Serve.{Spoken, Stops, Breaks, GoesThrough, Says, Processes, IsCutOff, Finds, TellsActs}
use Rattle.sw_session.proofs.ServeKnownLemmas.{appends-nothing, appends-more}

-- ---- the engine's definition

pub speaks-then : {E : Type 0} (v : Protocol E) (s mid s' : E) (xs ys : List Exchange) (after : AfterStep) → Speaks v s xs Goes mid → Speaks v mid ys after s'
    → Speaks v s (xs ++ ys) after s'
speaks-then v s mid s' [] ys after p q = subst (λ t. Speaks v t ys after s') p.1 q
speaks-then v s mid s' (x ∷ xs) ys after (Goes, m, row, n, a, p) q = (Goes, m, row, n, a, speaks-then v m mid s' xs ys after p q)
speaks-then v s mid s' (x ∷ xs) ys after (Ends, m, row, n, a, p) q = absurd (cc (p.1))
speaks-then v s mid s' (x ∷ xs) ys after (Fatal code, m, row, n, a, p) q = absurd (cc (p.1))
speaks-then v s mid s' (x ∷ xs) ys after (Malformed, m, row, n, a, p) q = absurd (cc (p.1))

pub speaks-one : {E : Type 0} (v : Protocol E) (s s' : E) (x : Exchange) (after : AfterStep) → v.speaks s x.act x.asked x.step s'
    → x.noted ≡ availability_notes (v.session s') x.step.out → after ≡ after_step (is_refused x.act) x.step → Speaks v s (x ∷ []) after s'
speaks-one v s s' x Goes row n a = (Goes, s', row, n, a, (refl, refl))
speaks-one v s s' x Ends row n a = (Ends, s', row, n, a, (refl, refl, refl))
speaks-one v s s' x (Fatal code) row n a = (Fatal code, s', row, n, a, (refl, refl, refl))
speaks-one v s s' x Malformed row n a = (Malformed, s', row, n, a, (refl, refl, refl))

-- ---- the desk

pub onward : {D : Type 0} (passes : D → Entry → D → Type 0) (a b c : D) (xs ys : List Entry) → Leads passes a xs b → Leads passes b ys c
    → Leads passes a (xs ++ ys) c
onward passes a b c [] ys l m = subst (λ d. Leads passes d ys c) l m
onward passes a b c (x ∷ xs) ys (mid, p, l) m = (mid, p, onward passes mid b c xs ys l m)

-- ---- the wire

pub decodes-then : (p mid q : Pending) (cs ds : List Call) → Decodes p cs mid → Decodes mid ds q → Decodes p (cs ++ ds) q
decodes-then p mid q [] ds l m = subst (λ (x : Pending). Decodes x ds q) l m
decodes-then p mid q (feeds piece ∷ cs) ds l m = decodes-then (fed p piece) mid q cs ds l m
decodes-then p mid q (answers a ∷ cs) ds l m = (l.0, l.1, decodes-then l.0 mid q cs ds l.2 m)

pub stream-then : (cs ds : List Call) → stream_of (cs ++ ds) ≡ stream_of cs ++ stream_of ds
stream-then [] ds = refl
stream-then (feeds piece ∷ cs) ds = ap (λ l. piece ++ l) (stream-then cs ds) ∙ sym (append_assoc piece (stream_of cs) (stream_of ds))
stream-then (answers a ∷ cs) ds = stream-then cs ds

pub told-then : (cs ds : List Call) → told (cs ++ ds) ≡ told cs ++ told ds
told-then [] ds = refl
told-then (feeds piece ∷ cs) ds = told-then cs ds
told-then (answers (Ok (Some m)) ∷ cs) ds = ap (λ (l : List (Result Message Kind)). Ok m ∷ l) (told-then cs ds)
told-then (answers (Ok None) ∷ cs) ds = told-then cs ds
told-then (answers (Err BadPrologue) ∷ cs) ds = told-then cs ds
told-then (answers (Err (TooLarge k)) ∷ cs) ds = ap (λ (l : List (Result Message Kind)). Err k ∷ l) (told-then cs ds)
told-then (answers (Err NoMemory) ∷ cs) ds = told-then cs ds

pub tells-nothing : (p : Pending) → TellsActs p p [] []
tells-nothing p = record { calls = []; decodes = refl; stream = refl; told = refl }

pub tells-then : (p mid q : Pending) (read more : List ℕ) (is js : List Act) → TellsActs p mid read is → TellsActs mid q more js
    → TellsActs p q (read ++ more) (is ++ js)
tells-then p mid q read more is js t u = record {
  calls = t.calls ++ u.calls;
  decodes = decodes-then p mid q t.calls u.calls t.decodes u.decodes;
  stream = stream-then t.calls u.calls ∙ ap₂ (λ (l m : List ℕ). l ++ m) t.stream u.stream;
  told = told-then t.calls u.calls ∙ ap₂ (λ (l m : List (Result Message Kind)). l ++ m) t.told u.told ∙ sym (flat_map-append arrived is js);
}

pub tells-found : (p p' : Pending) (input : Act) → Finds p input p' → TellsActs p p' [] (input ∷ [])
tells-found p p' (Takes m) f = record { calls = answers (Ok (Some m)) ∷ []; decodes = (p', f, refl); stream = refl; told = refl }
tells-found p p' (Skips kind) f = record { calls = answers (Err (TooLarge kind)) ∷ []; decodes = (p', f, refl); stream = refl; told = refl }
tells-found p p' Refuses f = record { calls = answers (Err BadPrologue) ∷ []; decodes = (p', f, refl); stream = refl; told = refl }
tells-found p p' Notices f = absurd f

pub tells-paused : (p : Pending) → TellsActs p p [] (Notices ∷ [])
tells-paused p = record { calls = []; decodes = refl; stream = refl; told = refl }

pub tells-fed : (p p' : Pending) (piece : List ℕ) → p' ≡ fed p piece → TellsActs p p' piece []
tells-fed p p' piece e = record { calls = feeds piece ∷ []; decodes = e; stream = append-nil piece; told = refl }

-- ---- exchanges

pub spoken-none : {E D : Type 0} (u : Voice E D) (a : Point E D) → Spoken u a a [] Goes
spoken-none u a = record { speaks = (refl, refl); asks = refl; main = appends-nothing a.main; side = appends-nothing a.side }

said-then : (f : Sent → List ℕ) (a b c : Option (List ℕ)) (xs ys : List Exchange) → Appends a b (flat_map f (said_of xs))
    → Appends b c (flat_map f (said_of ys)) → Appends a c (flat_map f (said_of (xs ++ ys)))
said-then f a b c xs ys p q =
    let same : flat_map f (said_of xs) ++ flat_map f (said_of ys) ≡ flat_map f (said_of (xs ++ ys)) =
    sym (ap (flat_map f) (flat_map-append (λ (x : Exchange). x.step.out) xs ys) ∙ flat_map-append f (said_of xs) (said_of ys)) in
    subst (λ (l : List ℕ). Appends a c l) same (appends-more a b c (flat_map f (said_of xs)) (flat_map f (said_of ys)) p q)

pub spoken-then : {E D : Type 0} (u : Voice E D) (a b c : Point E D) (xs ys : List Exchange) (after : AfterStep)
    → Spoken u a b xs Goes → Spoken u b c ys after → Spoken u a c (xs ++ ys) after
spoken-then u a b c xs ys after p q = record {
  speaks = speaks-then u.protocol a.engine b.engine c.engine xs ys after p.speaks q.speaks;
  asks = subst (λ (l : List Entry). Leads u.passes a.desk l c.desk) (sym (flat_map-append (λ (x : Exchange). x.asked ++ x.noted) xs ys))
      (onward u.passes a.desk b.desk c.desk (asks_of xs) (asks_of ys) p.asks q.asks);
  main = said-then (wire_on u.own) a.main b.main c.main xs ys p.main q.main;
  side = said-then (wire_off u.own) a.side b.side c.side xs ys p.side q.side;
}

acts-append : (xs ys : List Exchange) → acts_of (xs ++ ys) ≡ acts_of xs ++ acts_of ys
acts-append [] ys = refl
acts-append (x ∷ xs) ys = ap (λ (l : List Act). x.act ∷ l) (acts-append xs ys)

pub goes-nowhere : {E D : Type 0} (u : Voice E D) (a : Point E D) → GoesThrough u a a [] Goes
goes-nowhere u a = ([], [], refl, λ g. refl, spoken-none u a)

-- all of the acts
all-acts : (done rest acts : List Act) → rest ≡ [] → done ++ rest ≡ acts → done ≡ acts
all-acts done rest acts n e = sym (append-nil done) ∙ sym (ap (λ (l : List Act). done ++ l) n) ∙ e

pub goes-then : {E D : Type 0} (u : Voice E D) (a b c : Point E D) (is js : List Act) (after : AfterStep)
    → GoesThrough u a b is Goes → GoesThrough u b c js after → GoesThrough u a c (is ++ js) after
goes-then u a b c is js after (xs, r, e, n, p) (ys, t, f, m, q) = (
  xs ++ ys,
  t,
  ap (λ (l : List Act). l ++ t) (acts-append xs ys) ∙ append_assoc (acts_of xs) (acts_of ys) t ∙ ap₂ (λ (l k : List Act). l ++ k)
      (all-acts (acts_of xs) r is (n refl) e) f,
  m,
  spoken-then u a b c xs ys after p q,
)

-- a channel that ended comes to no more acts
pub ends-before : {E D : Type 0} (u : Voice E D) (a b : Point E D) (is js : List Act) (after : AfterStep)
    → (after ≡ Goes → ⊥)
    → GoesThrough u a b is after → GoesThrough u a b (is ++ js) after
ends-before u a b is js after ended (xs, r, e, n, p) =
    (xs, r ++ js, sym (append_assoc (acts_of xs) r js) ∙ ap (λ (l : List Act). l ++ js) e, λ g. absurd (ended g), p)

pub stops-then : {E D : Type 0} (u : Voice E D) (a b c : Point E D) (is js : List Act) (fault : ServeFault)
    → GoesThrough u a b is Goes → Stops u b c js fault → Stops u a c (is ++ js) fault
stops-then u a b c is js fault (xs, r, e, n, p) t = record {
  xs = xs ++ t.xs;
  act = t.act;
  rest = t.rest;
  mid = t.mid;
  acts_are = ap (λ (l : List Act). l ++ t.act ∷ t.rest) (acts-append xs t.xs) ∙ append_assoc (acts_of xs) (acts_of t.xs) (t.act ∷ t.rest) ∙ ap₂
      (λ (l k : List Act). l ++ k) (all-acts (acts_of xs) r is (n refl) e) t.acts_are;
  spoken = spoken-then u a b t.mid xs t.xs Goes p t.spoken;
  breaks = t.breaks;
}

-- an act that fails, with others that are not come to
pub stops-at : {E D : Type 0} (u : Voice E D) (a b : Point E D) (act : Act) (rest : List Act) (fault : ServeFault)
    → Breaks u a b act fault → Stops u a b (act ∷ rest) fault
stops-at u a b act rest fault k = record
    { xs = []; act = act; rest = rest; mid = a; acts_are = refl; spoken = spoken-none u a; breaks = k }

-- ---- one act

one-out : (f : Sent → List ℕ) (a b : Option (List ℕ)) (x : Exchange) → Appends a b (flat_map f x.step.out) → Appends a b (flat_map f (said_of (x ∷ [])))
one-out f a b x p = subst (λ (l : List Sent). Appends a b (flat_map f l)) (sym (append-nil x.step.out)) p

-- once the engine was asked, this is said: it stays, and the writers are as they were until then
pub processes-ok : {E D : Type 0} (u : Voice E D) (a m b : Point E D) (act : Act) (step : StepSeen) (after : AfterStep)
    → LedBy u.passes a.desk m.desk (λ asked. u.protocol.speaks a.engine act asked step m.engine) → m.main ≡ a.main → m.side ≡ a.side
    → HandsOver u m b step.out → after ≡ after_step (is_refused act) step → Processes u act a b (Ok after)
processes-ok u a m b act step after led main side hands k =
    let noted : List Entry = availability_notes (u.protocol.session m.engine) step.out in
    let x : Exchange = record { act = act; asked = led.asked; step = step; noted = noted } in (
      x ∷ [],
      [],
      refl,
      λ g. refl,
      record {
        speaks = subst (λ e. Speaks u.protocol a.engine (x ∷ []) after e) (sym hands.engine)
            (speaks-one u.protocol a.engine m.engine x after led.admits refl k);
        asks = subst (λ (l : List Entry). Leads u.passes a.desk l b.desk) (sym (append-nil (led.asked ++ noted)))
            (onward u.passes a.desk m.desk b.desk led.asked noted led.leads hands.notes);
        main = one-out (wire_on u.own) a.main b.main x
            (subst (λ (o : Option (List ℕ)). Appends o b.main (flat_map (wire_on u.own) step.out)) main hands.main);
        side = one-out (wire_off u.own) a.side b.side x
            (subst (λ (o : Option (List ℕ)). Appends o b.side (flat_map (wire_off u.own) step.out)) side hands.side);
      },
    )

cut-off : {E D : Type 0} (u : Voice E D) (a m b : Point E D) (act : Act) (step : StepSeen) (fault : ServeFault)
    → LedBy u.passes a.desk m.desk (λ asked. u.protocol.speaks a.engine act asked step m.engine) → m.main ≡ a.main → m.side ≡ a.side
    → HandsUpTo u m b step.out fault → IsCutOff u a b act fault
cut-off u a m b act step fault led main side cut = record {
  asked = led.asked;
  step = step;
  engine = m.engine;
  speaks = led.admits;
  desk = m.desk;
  asks = led.leads;
  cut = subst (λ (o : Option (List ℕ)). HandsUpTo u (point m.engine m.desk a.main o) b step.out fault) side
      (subst (λ (o : Option (List ℕ)). HandsUpTo u (point m.engine m.desk o m.side) b step.out fault) main cut);
}

pub processes-err : {E D : Type 0} (u : Voice E D) (a m b : Point E D) (act : Act) (step : StepSeen) (fault : ServeFault)
    → LedBy u.passes a.desk m.desk (λ asked. u.protocol.speaks a.engine act asked step m.engine) → m.main ≡ a.main → m.side ≡ a.side
    → HandsUpTo u m b step.out fault → Processes u act a b (Err fault)
processes-err u a m b act step Fault.Write led main side cut = cut-off u a m b act step Fault.Write led main side cut
processes-err u a m b act step Fault.NoMemory led main side cut = inl (cut-off u a m b act step Fault.NoMemory led main side cut)
processes-err u a m b act step Fault.Read led main side cut = absurd cut.fails
processes-err u a m b act step Fault.Wire led main side cut = absurd cut.fails
processes-err u a m b act step (Fault.Fatal code) led main side cut = absurd cut.fails
processes-err u a m b act step Fault.ReadBound led main side cut = absurd cut.fails

pub processes-starved : {E D : Type 0} (u : Voice E D) (a b : Point E D) (act : Act)
    → LedBy u.passes a.desk b.desk (λ asked. u.protocol.falters a.engine act asked b.engine) → b.main ≡ a.main → b.side ≡ a.side
    → Processes u act a b (Err Fault.NoMemory)
processes-starved u a b act led main side = inr (record { asked = led.asked; falters = led.admits; asks = led.leads; main = main; side = side })

-- what an engine said to an act, or that there was no memory for it
pub processes-said : {E D X : Type 0} (u : Voice E D) (a m b : Point E D) (act : Act) (said : Result StepSeen X) (r : Result AfterStep ServeFault)
    → IfOk said (λ step. LedBy u.passes a.desk m.desk (λ asked. u.protocol.speaks a.engine act asked step m.engine))
    → OnErr said (LedBy u.passes a.desk m.desk (λ asked. u.protocol.falters a.engine act asked m.engine))
    → m.main ≡ a.main → m.side ≡ a.side → Says u said (is_refused act) m b r → Processes u act a b r
processes-said u a m b act (Ok step) (Ok after) speaks falters main side h = processes-ok u a m b act step after speaks main side h.0 h.1
processes-said u a m b act (Ok step) (Err fault) speaks falters main side h = processes-err u a m b act step fault speaks main side h
processes-said u a m b act (Err x) r speaks falters main side h =
    subst (λ (q : Result AfterStep ServeFault). Processes u act a b q) (sym h.0)
    (subst (λ p. Processes u act a p (Err Fault.NoMemory)) (sym h.1) (processes-starved u a m act falters main side))

-- ---- reads that a time limit ended

pub pauses-then : (is js : List Act) → pauses (is ++ js) ≡ pauses is + pauses js
pauses-then [] js = omega (arith)
pauses-then (i ∷ is) js = let e = pauses-then is js in omega (arith, e)

-- where there was none the count stands
pub none-paused : (old new : Option ℕ) (n : ℕ) → n ≡ 0 → new ≡ old → PausesBy old new n
none-paused None new n e f = f
none-paused (Some m) new n e f = f ∙ ap (λ (k : ℕ). Some k) (omega (arith, e))

pub paused-then : (old mid new : Option ℕ) (is js : List Act) → PausesBy old mid (pauses is) → PausesBy mid new (pauses js)
    → PausesBy old new (pauses (is ++ js))
paused-then None mid new is js p q = q ∙ ap (λ (o : Option ℕ). option_map (λ m. m + pauses js) o) p
paused-then (Some k) mid new is js p q =
    q ∙ ap (λ (o : Option ℕ). option_map (λ m. m + pauses js) o) p
    ∙ ap (λ (n : ℕ). Some n) (let e = pauses-then is js in omega (arith, e))

-- what the wire tells is no such read
pub found-unpaused : (p p' : Pending) (input : Act) → Finds p input p' → is_pause input ≡ 0
found-unpaused p p' (Takes m) f = refl
found-unpaused p p' (Skips kind) f = refl
found-unpaused p p' Refuses f = refl
found-unpaused p p' Notices f = absurd f

pub none-more : (is : List Act) (input : Act) → pauses is ≡ 0 → is_pause input ≡ 0 → pauses (is ++ input ∷ []) ≡ 0
none-more is input e f = let g = pauses-then is (input ∷ []) in omega (arith, e, f, g)
