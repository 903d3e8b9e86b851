-- Turns of a server, one after another.
use Rattle.std.proofs.Common.{◌≡◌, ℕ, ◌+◌, ◌<◌, ◌≤◌, false, List, [], ◌∷◌, ◌++◌, length, refl, sym, ap, ◌∙◌, append_assoc, append-nil, length-append, arith}
use Rattle.std.proofs.Common.{inl, inr, subst, flat_map, Ok, Err, Option, Result}
use Rattle.std.specs.Prelude.{IfOk, Bool}
use Rattle.std.proofs.lemmas.List.Concat.{flat_map-append}
use Rattle.std.specs.Io.KnownBytes.{Consumes}
use Rattle.sw_hislip.specs.declared.kind.Kind.{Kind}
use Rattle.sw_hislip.specs.declared.message.Message.{Message}
use Rattle.sw_hislip.specs.Pending.{Pending, nothing_fed, fed, Waits}
use Rattle.sw_hislip.specs.Stream.{Call, Follows, EveryMessageComesOut, LeavesARest, stream_of}
use Rattle.sw_session.specs.Acts.{Act, Notices}
use Rattle.sw_session.specs.declared.after_step.AfterStep.{AfterStep}
use Rattle.sw_session.specs.declared.after_step.AfterStep.TheVariants.{Goes, Ends, Fatal, Malformed}
use Rattle.sw_session.specs.declared.fault.ServeFault.{ServeFault}
use Rattle.sw_session.specs.declared.fault.ServeFault.TheVariants as Fault
use Rattle.sw_session.specs.declared.turns.Received.TheVariants as Received
use Rattle.sw_session.specs.declared.turns.Next.{Next}
use Rattle.sw_session.specs.declared.turns.Next.TheVariants.{On, Over}
use Rattle.sw_session.specs.ServeRead.{PausesBy}
use Rattle.sw_session.specs.ServePoint.{Voice, Point}
use Rattle.sw_session.specs.Serve.{acts_for, arrived, pauses, Stops, GoesThrough, Judges, ProcessesEach, HoldsMessage, TellsActs, Stands}
use Rattle.sw_session.specs.Serve.{Listens, HearsAll, conclude, Loses, Progress, progress, EndsWell, FailsBy, EndsTurn, Course, course, TakesServerTurn}
use Rattle.sw_session.specs.Serve.{EndsRun, RunsChannel}
use Rattle.sw_session.proofs.ServeKnownLemmas.{consumes-nothing, consumes-more}
use Rattle.sw_session.proofs.ServePartsLemmas.{pauses-then, none-paused, paused-then, tells-nothing, tells-then, tells-paused, tells-fed, goes-nowhere}
use Rattle.sw_session.proofs.ServePartsLemmas.{goes-then}
use Rattle.sw_session.proofs.ServePartsLemmas.{stops-then}

none-lost : (input left : Option (List ℕ)) (piece : List ℕ) → Consumes input left piece → Consumes input left (piece ++ [])
none-lost input left piece c = subst (λ (l : List ℕ). Consumes input left l) (sym (append-nil piece)) c

-- ---- one turn

pub turn-err : {E D : Type 0} (u : Voice E D) (p p' : Pending) (a : Point E D) (input left : Option (List ℕ)) (old new : Option ℕ)
    (fault : ServeFault)
    → Waits p.bytes → Listens input left p p' (Err fault) → new ≡ old
    → TakesServerTurn u p p' (course a input old) (course a left new) (Err fault)
turn-err u p p' a input left old new fault waits (same, inl r) e =
    subst (λ (f : ServeFault). TakesServerTurn u p p' (course a input old) (course a left new) (Err f)) (sym r.0)
    (record {
      read = [];
      lost = [];
      reads = r.1;
      loses = refl;
      inputs = [];
      paused = none-paused old new 0 refl e;
      tells = subst (λ (q : Pending). TellsActs p q [] []) (sym same) (tells-nothing p);
      ends = ((goes-nowhere u a, subst (λ (q : Pending). Waits q.bytes) (sym same) waits), λ x. absurd (cc (x)));
    })
turn-err u p p' a input left old new fault waits (same, inr r) e =
    subst (λ (f : ServeFault). TakesServerTurn u p p' (course a input old) (course a left new) (Err f)) (sym r.0)
    (record {
      read = [];
      lost = r.1.0;
      reads = r.1.1;
      loses = tt;
      inputs = [];
      paused = none-paused old new 0 refl e;
      tells = subst (λ (q : Pending). TellsActs p q [] []) (sym same) (tells-nothing p);
      ends = (inr (goes-nowhere u a, inl r.1.2), λ x. absurd (cc (x)));
    })

pub turn-end : {E D : Type 0} (u : Voice E D) (p p' : Pending) (a : Point E D) (input left : Option (List ℕ)) (old new : Option ℕ)
    → Waits p.bytes → Listens input left p p' (Ok Received.End) → new ≡ old
    → TakesServerTurn u p p' (course a input old) (course a left new) (Ok Over)
turn-end u p p' a input left old new waits (reads, end, same) e =
    record {
      read = [];
      lost = [];
      reads = reads;
      loses = refl;
      inputs = [];
      paused = none-paused old new 0 refl e;
      tells = subst (λ (q : Pending). TellsActs p q [] []) (sym same) (tells-nothing p);
      ends = inl (goes-nowhere u a, subst (λ (q : Pending). Waits q.bytes) (sym same) waits, end);
    }

-- how a turn ends in which so many bytes were read, and these inputs gone through
record Turned {E D : Type 0} (u : Voice E D) (p p' : Pending) (a b : Course E D) (result : Result Next ServeFault) : Type 0 where
  read : List ℕ
  inputs : List Act
  paused : PausesBy a.pauses b.pauses (pauses inputs)
  reads : Consumes a.input b.input read
  tells : TellsActs p p' read inputs
  ends : EndsTurn u a.point b.point (progress (flat_map acts_for inputs) p' [] (length read + pauses inputs) b.input) result

loses-none : {A : Type 0} (r : Result A ServeFault) → Loses r []
loses-none (Ok x) = refl
loses-none (Err Fault.Read) = refl
loses-none (Err Fault.Write) = refl
loses-none (Err Fault.Wire) = refl
loses-none (Err (Fault.Fatal code)) = refl
loses-none (Err Fault.NoMemory) = tt
loses-none (Err Fault.ReadBound) = refl

turned : {E D : Type 0} (u : Voice E D) (p p' : Pending) (a b : Course E D) (result : Result Next ServeFault)
    → Turned u p p' a b result → TakesServerTurn u p p' a b result
turned u p p' a b result t = record {
  read = t.read;
  lost = [];
  reads = none-lost a.input b.input t.read t.reads;
  loses = loses-none result;
  inputs = t.inputs;
  paused = t.paused;
  tells = t.tells;
  ends = t.ends;
}

-- how acts end a turn
ends-by : {E D : Type 0} (u : Voice E D) (a b : Point E D) (r : Progress) (after : AfterStep)
    → 0 < r.count → GoesThrough u a b r.acts after → Stands after r.pending → EndsTurn u a b r (conclude (Ok after))
ends-by u a b r Goes some g s = (g, s, some)
ends-by u a b r Ends some g s = inr g
ends-by u a b r (Fatal code) some g s = (g, λ e. absurd (cc (e)))
ends-by u a b r Malformed some g s = ((g, s), λ e. absurd (cc (e)))

stops-by : {E D : Type 0} (u : Voice E D) (a b : Point E D) (r : Progress) (fault : ServeFault)
    → Stops u a b r.acts fault → EndsTurn u a b r (Err fault)
stops-by u a b r Fault.Write t = (t, λ e. absurd (cc (e)))
stops-by u a b r Fault.NoMemory t = (inl t, λ e. absurd (cc (e)))
stops-by u a b r Fault.Read t = absurd t.breaks
stops-by u a b r Fault.Wire t = absurd t.breaks
stops-by u a b r (Fault.Fatal code) t = absurd t.breaks
stops-by u a b r Fault.ReadBound t = absurd t.breaks

starves-by : {E D : Type 0} (u : Voice E D) (a b : Point E D) (r : Progress) (fault : ServeFault)
    → fault ≡ Fault.NoMemory → GoesThrough u a b r.acts Goes → HoldsMessage r.pending → EndsTurn u a b r (Err fault)
starves-by u a b r fault e g w = subst (λ (f : ServeFault). EndsTurn u a b r (Err f)) (sym e) (inr (g, inr w), λ x. absurd (cc (x)))

paused-stands : (p : Pending) (after : AfterStep) → Waits p.bytes → Judges false after → Stands after p
paused-stands p Goes waits j = waits
paused-stands p Ends waits j = tt
paused-stands p (Fatal code) waits j = tt
paused-stands p Malformed waits j = absurd (j refl)

pub judged-ok : (b : Bool) (r : Result AfterStep ServeFault) → IfOk r (λ after. Judges b after) → (after : AfterStep) → r ≡ Ok after → Judges b after
judged-ok b r j after e = subst (λ (q : Result AfterStep ServeFault). IfOk q (λ x. Judges b x)) e j

pub turn-paused : {E D : Type 0} (u : Voice E D) (p p' : Pending) (a b : Course E D) (r : Result AfterStep ServeFault)
    → PausesBy a.pauses b.pauses 1 → Waits p.bytes → Listens a.input b.input p p' (Ok Received.Paused) → ProcessesEach u (Notices ∷ []) a.point b.point r
    → ((after : AfterStep) → r ≡ Ok after → Judges false after)
    → TakesServerTurn u p p' a b (conclude r)
turn-paused u p p' a b (Ok after) counts waits l h judged =
    turned u p p' a b (conclude (Ok after)) (record {
      read = [];
      inputs = Notices ∷ [];
      paused = counts;
      reads = l.0;
      tells = subst (λ (q : Pending). TellsActs p q [] (Notices ∷ [])) (sym l.1) (tells-paused p);
      ends = ends-by u a.point b.point (progress (Notices ∷ []) p' [] 1 b.input) after (omega (arith)) h
          (paused-stands p' after (subst (λ (q : Pending). Waits q.bytes) (sym l.1) waits) (judged after refl));
    })
turn-paused u p p' a b (Err fault) counts waits l h judged =
    turned u p p' a b (Err fault) (record {
      read = [];
      inputs = Notices ∷ [];
      paused = counts;
      reads = l.0;
      tells = subst (λ (q : Pending). TellsActs p q [] (Notices ∷ [])) (sym l.1) (tells-paused p);
      ends = stops-by u a.point b.point (progress (Notices ∷ []) p' [] 1 b.input) fault h;
    })

tells-read : (p p' q : Pending) (piece : List ℕ) (inputs : List Act) → p' ≡ fed p piece → TellsActs p' q [] inputs → TellsActs p q piece inputs
tells-read p p' q piece inputs e t = subst (λ (l : List ℕ). TellsActs p q l inputs) (append-nil piece)
    (tells-then p p' q piece [] [] inputs (tells-fed p p' piece e) t)

pub turn-bytes : {E D : Type 0} (u : Voice E D) (p p' q : Pending) (a b : Course E D) (r : Result AfterStep ServeFault)
    → Listens a.input b.input p p' (Ok Received.Bytes) → b.pauses ≡ a.pauses → HearsAll u p' q a.point b.point r → TakesServerTurn u p q a b (conclude r)
turn-bytes u p p' q a b (Ok after) (piece, some, reads, e) counts h =
    turned u p q a b (conclude (Ok after)) (record {
      read = piece;
      inputs = h.inputs;
      paused = none-paused a.pauses b.pauses (pauses h.inputs) h.unpaused counts;
      reads = reads;
      tells = tells-read p p' q piece h.inputs e h.tells;
      ends = ends-by u a.point b.point (progress (flat_map acts_for h.inputs) q [] (length piece + pauses h.inputs) b.input) after
          (omega (arith, some)) h.spoken.0 h.spoken.1;
    })
turn-bytes u p p' q a b (Err fault) (piece, some, reads, e) counts h =
    let so_far = progress (flat_map acts_for h.inputs) q [] (length piece + pauses h.inputs) b.input in
    turned u p q a b (Err fault) (record {
      read = piece;
      inputs = h.inputs;
      paused = none-paused a.pauses b.pauses (pauses h.inputs) h.unpaused counts;
      reads = reads;
      tells = tells-read p p' q piece h.inputs e h.tells;
      ends = elim h.spoken [
        | inl t ↦ stops-by u a.point b.point so_far fault t
        | inr t ↦ starves-by u a.point b.point so_far fault t.0 t.1 t.2
      ];
    })

-- ---- why a turn fails

pub concluded-read : (r : Result AfterStep ServeFault) → conclude r ≡ Err Fault.Read → r ≡ Err Fault.Read
concluded-read (Ok Goes) e = absurd (cc (e))
concluded-read (Ok Ends) e = absurd (cc (e))
concluded-read (Ok (Fatal code)) e = absurd (cc (e))
concluded-read (Ok Malformed) e = absurd (cc (e))
concluded-read (Err Fault.Read) e = refl
concluded-read (Err Fault.Write) e = absurd (cc (e))
concluded-read (Err Fault.Wire) e = absurd (cc (e))
concluded-read (Err (Fault.Fatal code)) e = absurd (cc (e))
concluded-read (Err Fault.NoMemory) e = absurd (cc (e))
concluded-read (Err Fault.ReadBound) e = absurd (cc (e))

pub concluded-write : (r : Result AfterStep ServeFault) → conclude r ≡ Err Fault.Write → r ≡ Err Fault.Write
concluded-write (Ok Goes) e = absurd (cc (e))
concluded-write (Ok Ends) e = absurd (cc (e))
concluded-write (Ok (Fatal code)) e = absurd (cc (e))
concluded-write (Ok Malformed) e = absurd (cc (e))
concluded-write (Err Fault.Read) e = absurd (cc (e))
concluded-write (Err Fault.Write) e = refl
concluded-write (Err Fault.Wire) e = absurd (cc (e))
concluded-write (Err (Fault.Fatal code)) e = absurd (cc (e))
concluded-write (Err Fault.NoMemory) e = absurd (cc (e))
concluded-write (Err Fault.ReadBound) e = absurd (cc (e))

pub each-unread : {E D : Type 0} (u : Voice E D) (acts : List Act) (a b : Point E D)
    (r : Result AfterStep ServeFault) → ProcessesEach u acts a b r → r ≡ Err Fault.Read → ⊥
each-unread u acts a b (Ok after) h e = absurd (cc (e))
each-unread u acts a b (Err Fault.Read) h e = h.breaks
each-unread u acts a b (Err Fault.Write) h e = absurd (cc (e))
each-unread u acts a b (Err Fault.Wire) h e = absurd (cc (e))
each-unread u acts a b (Err (Fault.Fatal code)) h e = absurd (cc (e))
each-unread u acts a b (Err Fault.NoMemory) h e = absurd (cc (e))
each-unread u acts a b (Err Fault.ReadBound) h e = absurd (cc (e))

pub all-unread : {E D : Type 0} (u : Voice E D) (p p' : Pending) (a b : Point E D)
    (r : Result AfterStep ServeFault) → HearsAll u p p' a b r → r ≡ Err Fault.Read → ⊥
all-unread u p p' a b (Ok after) h e = absurd (cc (e))
all-unread u p p' a b (Err Fault.Read) h e = elim h.spoken [
  | inl t ↦ t.breaks
  | inr t ↦ absurd (cc (t.0))
]
all-unread u p p' a b (Err Fault.Write) h e = absurd (cc (e))
all-unread u p p' a b (Err Fault.Wire) h e = absurd (cc (e))
all-unread u p p' a b (Err (Fault.Fatal code)) h e = absurd (cc (e))
all-unread u p p' a b (Err Fault.NoMemory) h e = absurd (cc (e))
all-unread u p p' a b (Err Fault.ReadBound) h e = absurd (cc (e))

pub listens-unwritten : (input left : Option (List ℕ)) (p p' : Pending) (fault : ServeFault) → Listens input left p p' (Err fault) → fault ≡ Fault.Write → ⊥
listens-unwritten input left p p' fault (same, inl r) e = let f = r.0 in absurd (cc (e, f))
listens-unwritten input left p p' fault (same, inr r) e = let f = r.0 in absurd (cc (e, f))

-- ---- turns, one after another

acts-then : (is js : List Act) → flat_map acts_for is ++ flat_map acts_for js ≡ flat_map acts_for (is ++ js)
acts-then is js = sym (flat_map-append acts_for is js)

-- so many turns are over, and the run goes on
pub record Going {E D : Type 0} (u : Voice E D) (p p' : Pending) (a b : Course E D) (n : ℕ) : Type 0 where
  pub read : List ℕ
  pub reads : Consumes a.input b.input read
  pub inputs : List Act
  pub paused : PausesBy a.pauses b.pauses (pauses inputs)
  pub tells : TellsActs p p' read inputs
  pub goes : GoesThrough u a.point b.point (flat_map acts_for inputs) Goes
  pub waits : Waits p'.bytes
  pub turned : n ≤ length read + pauses inputs

pub going-start : {E D : Type 0} (u : Voice E D) (p : Pending) (a : Course E D) → p ≡ nothing_fed → Going u nothing_fed p a a 0
going-start u p a e = record {
  read = [];
  reads = consumes-nothing a.input;
  inputs = [];
  paused = none-paused a.pauses a.pauses 0 refl refl;
  tells = subst (λ (q : Pending). TellsActs nothing_fed q [] []) (sym e) (tells-nothing nothing_fed);
  goes = goes-nowhere u a.point;
  waits = subst (λ (q : Pending). Waits q.bytes) (sym e) (inl (omega (arith)));
  turned = omega (arith);
}

well-then : {E D : Type 0} (u : Voice E D) (a b c : Point E D) (is : List Act) (r : Progress)
    → GoesThrough u a b is Goes → EndsWell u b c r → EndsWell u a c (record r { acts = is ++ r.acts })
well-then u a b c is r g (inl (h, w, e)) = inl (goes-then u a b c is r.acts Goes g h, w, e)
well-then u a b c is r g (inr h) = inr (goes-then u a b c is r.acts Ends g h)

-- what is so of a turn's progress is so of a run's, however much more it had read
fails-then : {E D : Type 0} (u : Voice E D) (a b c : Point E D) (is : List Act) (r : Progress) (turns more : ℕ) (fault : ServeFault)
    → GoesThrough u a b is Goes → FailsBy u b c r 0 fault → (fault ≡ Fault.ReadBound → ⊥)
    → FailsBy u a c (record r { acts = is ++ r.acts; count = more }) turns fault
fails-then u a b c is r turns more Fault.Read g h other = (goes-then u a b c is r.acts Goes g h.0, h.1)
fails-then u a b c is r turns more Fault.Write g h other = stops-then u a b c is r.acts Fault.Write g h
fails-then u a b c is r turns more Fault.Wire g h other = (goes-then u a b c is r.acts Malformed g h.0, h.1)
fails-then u a b c is r turns more (Fault.Fatal code) g h other = goes-then u a b c is r.acts (Fatal code) g h
fails-then u a b c is r turns more Fault.NoMemory g (inl h) other = inl (stops-then u a b c is r.acts Fault.NoMemory g h)
fails-then u a b c is r turns more Fault.NoMemory g (inr h) other = inr (goes-then u a b c is r.acts Goes g h.0, h.1)
fails-then u a b c is r turns more Fault.ReadBound g h other = absurd (other refl)

reads-then : (input mid left : Option (List ℕ)) (read more lost : List ℕ) → Consumes input mid read → Consumes mid left (more ++ lost)
    → Consumes input left ((read ++ more) ++ lost)
reads-then input mid left read more lost c d = subst (λ (l : List ℕ). Consumes input left l) (sym (append_assoc read more lost))
    (consumes-more input mid left read (more ++ lost) c d)

pub going-on : {E D : Type 0} (u : Voice E D) (p q r : Pending) (a b c : Course E D) (n : ℕ)
    → Going u p q a b n → TakesServerTurn u q r b c (Ok On) → Going u p r a c (n + 1)
going-on u p q r a b c n g t = record {
  read = g.read ++ t.read;
  reads = consumes-more a.input b.input c.input g.read t.read g.reads
      (subst (λ (l : List ℕ). Consumes b.input c.input l) (ap (λ l. t.read ++ l) t.loses ∙ append-nil t.read) t.reads);
  inputs = g.inputs ++ t.inputs;
  paused = paused-then a.pauses b.pauses c.pauses g.inputs t.inputs g.paused t.paused;
  tells = tells-then p q r g.read t.read g.inputs t.inputs g.tells t.tells;
  goes = subst (λ (l : List Act). GoesThrough u a.point c.point l Goes) (acts-then g.inputs t.inputs)
      (goes-then u a.point b.point c.point (flat_map acts_for g.inputs) (flat_map acts_for t.inputs) Goes g.goes t.ends.0);
  waits = t.ends.1;
  turned = let e = g.turned in let f = t.ends.2 in let h = length-append g.read t.read in let k = pauses-then g.inputs t.inputs in omega (arith, e, f, h, k);
}

-- ---- the end

law-follows : ((calls : List Call) (p : Pending) → EveryMessageComesOut calls p) → (p : Pending) (read : List ℕ) (inputs : List Act)
    → TellsActs nothing_fed p read inputs → Follows read (flat_map arrived inputs) p
law-follows law p read inputs t = subst (λ (b : List ℕ). Follows b (flat_map arrived inputs) p) t.stream
    (subst (λ (l : List (Result Message Kind)). Follows (stream_of t.calls) l p) t.told (law t.calls p t.decodes))

-- how a run ends in which these bytes were read, and these inputs gone through
record Ran {E D : Type 0} (u : Voice E D) (turns : ℕ) (p : Pending) (a b : Course E D) (result : Result (Unit {0}) ServeFault) : Type 0 where
  read : List ℕ
  lost : List ℕ
  inputs : List Act
  reads : Consumes a.input b.input (read ++ lost)
  loses : Loses result lost
  paused : PausesBy a.pauses b.pauses (pauses inputs)
  tells : TellsActs nothing_fed p read inputs
  ends : EndsRun u a.point b.point (progress (flat_map acts_for inputs) p lost (length read + pauses inputs) b.input) turns result

runs : {E D : Type 0} (u : Voice E D) (turns : ℕ) (p : Pending) (a b : Course E D) (result : Result (Unit {0}) ServeFault)
    → ((calls : List Call) (q : Pending) → EveryMessageComesOut calls q)
    → ((bytes : List ℕ) (t : List (Result Message Kind)) (q : Pending) → LeavesARest bytes t q)
    → Ran u turns p a b result → RunsChannel u turns a b result
runs u turns p a b result law rest r = record {
  read = r.read;
  lost = r.lost;
  reads = r.reads;
  loses = r.loses;
  inputs = r.inputs;
  paused = r.paused;
  pending = p;
  follows = law-follows law p r.read r.inputs r.tells;
  stream = rest r.read (flat_map arrived r.inputs) p (law-follows law p r.read r.inputs r.tells);
  ends = r.ends;
}

-- a turn that ended, after those that went on
ran-then : {E D : Type 0} (u : Voice E D) (turns n : ℕ) (q p : Pending) (a b c : Course E D) (r : Result Next ServeFault)
    (result : Result (Unit {0}) ServeFault) (g : Going u nothing_fed q a b n) (t : TakesServerTurn u q p b c r)
    → Loses result t.lost
    → EndsRun u a.point c.point (progress (flat_map acts_for g.inputs ++ flat_map acts_for t.inputs) p t.lost
    (length (g.read ++ t.read) + pauses (g.inputs ++ t.inputs)) c.input) turns result
    → Ran u turns p a c result
ran-then u turns n q p a b c r result g t loses ends = record {
  read = g.read ++ t.read;
  lost = t.lost;
  inputs = g.inputs ++ t.inputs;
  reads = reads-then a.input b.input c.input g.read t.read t.lost g.reads t.reads;
  loses = loses;
  paused = paused-then a.pauses b.pauses c.pauses g.inputs t.inputs g.paused t.paused;
  tells = tells-then nothing_fed q p g.read t.read g.inputs t.inputs g.tells t.tells;
  ends = subst (λ (l : List Act). EndsRun u a.point c.point
      (progress l p t.lost (length (g.read ++ t.read) + pauses (g.inputs ++ t.inputs)) c.input) turns result)
      (acts-then g.inputs t.inputs) ends;
}

pub runs-over : {E D : Type 0} (u : Voice E D) (turns n : ℕ) (q p : Pending) (a b c : Course E D)
    → ((calls : List Call) (q : Pending) → EveryMessageComesOut calls q)
    → ((bytes : List ℕ) (t : List (Result Message Kind)) (q : Pending) → LeavesARest bytes t q)
    → Going u nothing_fed q a b n → TakesServerTurn u q p b c (Ok Over) → RunsChannel u turns a c (Ok tt)
runs-over u turns n q p a b c law rest g t =
    runs u turns p a c (Ok tt) law rest (ran-then u turns n q p a b c (Ok Over) (Ok tt) g t t.loses
    (well-then u a.point b.point c.point (flat_map acts_for g.inputs)
    (progress (flat_map acts_for t.inputs) p t.lost (length (g.read ++ t.read) + pauses (g.inputs ++ t.inputs)) c.input) g.goes t.ends))

pub runs-fault : {E D : Type 0} (u : Voice E D) (turns n : ℕ) (q p : Pending) (a b c : Course E D) (fault : ServeFault)
    → ((calls : List Call) (q : Pending) → EveryMessageComesOut calls q)
    → ((bytes : List ℕ) (t : List (Result Message Kind)) (q : Pending) → LeavesARest bytes t q)
    → Going u nothing_fed q a b n → TakesServerTurn u q p b c (Err fault) → RunsChannel u turns a c (Err fault)
runs-fault u turns n q p a b c fault law rest g t =
    runs u turns p a c (Err fault) law rest (ran-then u turns n q p a b c (Err fault) (Err fault) g t t.loses
    (fails-then u a.point b.point c.point (flat_map acts_for g.inputs)
    (progress (flat_map acts_for t.inputs) p t.lost (length t.read + pauses t.inputs) c.input) turns
    (length (g.read ++ t.read) + pauses (g.inputs ++ t.inputs)) fault g.goes t.ends.0 t.ends.1))

pub runs-bound : {E D : Type 0} (u : Voice E D) (turns n : ℕ) (p : Pending) (a b : Course E D)
    → ((calls : List Call) (q : Pending) → EveryMessageComesOut calls q)
    → ((bytes : List ℕ) (t : List (Result Message Kind)) (q : Pending) → LeavesARest bytes t q)
    → Going u nothing_fed p a b n → turns ≤ n → RunsChannel u turns a b (Err Fault.ReadBound)
runs-bound u turns n p a b law rest g h = runs u turns p a b (Err Fault.ReadBound) law rest (record {
  read = g.read;
  lost = [];
  inputs = g.inputs;
  reads = none-lost a.input b.input g.read g.reads;
  loses = refl;
  paused = g.paused;
  tells = g.tells;
  ends = (g.goes, g.waits, let e = g.turned in omega (arith, e, h));
})
