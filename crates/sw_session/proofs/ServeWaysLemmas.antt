-- The ways of a turn, and turns one after another.
use Rattle.std.proofs.Common.{◌≡◌, ℕ, ◌+◌, ◌<◌, List, [], ◌∷◌, ◌++◌, length, drop, refl, sym, ap, ◌∙◌, append_assoc, append-nil, length-append, arith, inl, inr}
use Rattle.std.proofs.Common.{subst, flat_map, Ok, Err, Some, None, Option, Result, IfOk, true, false}
use Rattle.std.specs.Result.{result_transpose}
use Rattle.std.proofs.lemmas.List.{length-drop}
use Rattle.std.proofs.lemmas.List.Concat.{flat_map-append}
use Rattle.sw_hislip.specs.Wire.{header, header_of}
use Rattle.sw_hislip.specs.declared.message.Message.{Message}
use Rattle.sw_hislip.specs.declared.fault.WireFault.{WireFault}
use Rattle.sw_hislip.specs.declared.fault.WireFault.TheVariants.{TooLarge, BadPrologue, NoMemory}
use Rattle.sw_hislip.specs.Pending.{Pending, Waits, HasWrongPrologue, GivesNext}
use Rattle.sw_session.specs.Acts.{Act, Takes, Skips, Refuses, Notices}
use Rattle.sw_session.specs.declared.after_step.AfterStep.{AfterStep}
use Rattle.sw_session.specs.declared.after_step.AfterStep.TheVariants.{Goes, Ends, Fatal, Malformed}
use Rattle.sw_session.specs.declared.fault.ServeFault.{ServeFault}
use Rattle.sw_session.specs.declared.fault.ServeFault.TheVariants as Fault
use Rattle.sw_session.specs.declared.turns.Received.{Received}
use Rattle.sw_session.specs.declared.turns.Next.{Next}
use Rattle.sw_session.specs.ServePoint.{Voice, Point}
use Rattle.sw_session.specs.Serve.{acts_for, is_refused, pauses, Stops, GoesThrough, Judges, Processes, ProcessesEach, Finds, HoldsMessage}
use Rattle.sw_session.specs.Serve.{goes_on, GivesHeard, ServesHeard, TellsActs, Stands, Listens, CountsReceived, HearsAll, Course, TakesServerTurn}
use Rattle.sw_session.proofs.ServePartsLemmas.{found-unpaused, none-more, tells-nothing, tells-then, tells-found, goes-nowhere, goes-then, ends-before}
use Rattle.sw_session.proofs.ServePartsLemmas.{stops-then}
use Rattle.sw_session.proofs.ServePartsLemmas.{stops-at}

-- ---- results that are known

pub processes-is : {E D : Type 0} (u : Voice E D) (act : Act) (a b : Point E D) (r q : Result AfterStep ServeFault) → r ≡ q → Processes u act a b r → Processes
    u act a b q
processes-is u act a b r q e h = subst (λ (x : Result AfterStep ServeFault). Processes u act a b x) e h

pub went-on : (r : Result AfterStep ServeFault) → goes_on r ≡ true → r ≡ Ok Goes
went-on (Ok Goes) t = refl
went-on (Ok Ends) t = absurd (cc (t))
went-on (Ok (Fatal code)) t = absurd (cc (t))
went-on (Ok Malformed) t = absurd (cc (t))
went-on (Err fault) t = absurd (cc (t))

pub gives-is : (p p' : Pending) (o q : Option (Result Message WireFault)) → o ≡ q → GivesHeard p p' o → GivesHeard p p' q
gives-is p p' o q e g = subst (λ (x : Option (Result Message WireFault)). GivesHeard p p' x) e g

pub serves-is : {E D : Type 0} (u : Voice E D) (heard : Result Message WireFault) (a b : Point E D) (r q : Result AfterStep ServeFault)
    → r ≡ q → ServesHeard u heard a b r → ServesHeard u heard a b q
serves-is u heard a b r q e h = subst (λ (x : Result AfterStep ServeFault). ServesHeard u heard a b x) e h

pub listens-is : (input left : Option (List ℕ)) (p p' : Pending) (r q : Result Received ServeFault) → r ≡ q → Listens input left p p' r → Listens input left p
    p' q
listens-is input left p p' r q e l = subst (λ (x : Result Received ServeFault). Listens input left p p' x) e l

pub counts-is : (old new : Option ℕ) (r q : Result Received ServeFault) → r ≡ q → CountsReceived old new r → CountsReceived old new q
counts-is old new r q e c = subst (λ (x : Result Received ServeFault). CountsReceived old new x) e c

pub turn-is : {E D : Type 0} (u : Voice E D) (p p' : Pending) (a b : Course E D) (r q : Result Next ServeFault)
    → r ≡ q → TakesServerTurn u p p' a b r → TakesServerTurn u p p' a b q
turn-is u p p' a b r q e t = subst (λ (x : Result Next ServeFault). TakesServerTurn u p p' a b x) e t

-- ---- what the wire tells

-- one act is all
pub each-one : {E D : Type 0} (u : Voice E D) (act : Act) (a b : Point E D) (r : Result AfterStep ServeFault)
    → Processes u act a b r → ProcessesEach u (act ∷ []) a b r
each-one u act a b (Ok after) h = h
each-one u act a b (Err fault) h = stops-at u a b act [] fault h

-- an act, and then another
pub each-two : {E D : Type 0} (u : Voice E D) (first second : Act) (a b c : Point E D) (r : Result AfterStep ServeFault)
    → Processes u first a b (Ok Goes) → Processes u second b c r → ProcessesEach u (first ∷ second ∷ []) a c r
each-two u first second a b c (Ok after) h k = goes-then u a b c (first ∷ []) (second ∷ []) after h k
each-two u first second a b c (Err fault) h k = stops-then u a b c (first ∷ []) (second ∷ []) fault h
    (stops-at u b c second [] fault k)

-- an act that ends the channel before another, or that fails
pub each-over : {E D : Type 0} (u : Voice E D) (first second : Act) (a b : Point E D) (r : Result AfterStep ServeFault)
    → goes_on r ≡ false → Processes u first a b r → ProcessesEach u (first ∷ second ∷ []) a b r
each-over u first second a b (Ok Goes) t h = absurd (cc (t))
each-over u first second a b (Ok Ends) t h = ends-before u a b (first ∷ []) (second ∷ []) Ends (λ e. absurd (cc (e))) h
each-over u first second a b (Ok (Fatal code)) t h = ends-before u a b (first ∷ []) (second ∷ []) (Fatal code) (λ e. absurd (cc (e))) h
each-over u first second a b (Ok Malformed) t h = ends-before u a b (first ∷ []) (second ∷ []) Malformed (λ e. absurd (cc (e))) h
each-over u first second a b (Err fault) t h = stops-at u a b first (second ∷ []) fault h

-- ---- all that the wire tells

-- a message or a fault of the wire takes bytes, unless it is a wrong prologue
pub takes-bytes : (p p' : Pending) (input : Act) → Finds p input p' → Judges (is_refused input) Goes → length p'.bytes < length p.bytes
takes-bytes p p' (Takes m) f judged =
    let e : length p.bytes ≡ 16 + length (m.payload ++ p'.bytes) = ap length
    (f.0.whole ∙ append_assoc (header (header_of m)) m.payload p'.bytes) ∙ length-append (header (header_of m)) (m.payload ++ p'.bytes) in
    let g : length (m.payload ++ p'.bytes) ≡ length m.payload + length p'.bytes = length-append m.payload p'.bytes in
    omega (arith, e, g)
takes-bytes p p' (Skips kind) (h, got, large, named, same) judged =
    let e : length p.bytes ≡ 16 + length got = ap length large.begins.whole ∙ length-append (header h) got in
    let g : length p'.bytes ≡ length (drop h.length got) = ap (λ (q : Pending). length q.bytes) same in
    let k = length-drop h.length got in
    omega (arith, e, g, k)
takes-bytes p p' Refuses f judged = absurd (cc (judged))
takes-bytes p p' Notices f judged = absurd f

-- what the decoder gives, in its order
pub gives-heard : (p p' : Pending) (r : Result (Option Message) WireFault) → GivesNext p r p' → GivesHeard p p' (result_transpose r)
gives-heard p p' (Ok None) g = g
gives-heard p p' (Ok (Some m)) g = g
gives-heard p p' (Err fault) g = g

pub heard-smaller : {E D : Type 0} (u : Voice E D) (p p' : Pending) (a b : Point E D) (heard : Result Message WireFault)
    → GivesHeard p p' (Some heard) → ServesHeard u heard a b (Ok Goes) → length p'.bytes < length p.bytes
heard-smaller u p p' a b (Ok m) g s = takes-bytes p p' (Takes m) g s.1
heard-smaller u p p' a b (Err (TooLarge kind)) g s = takes-bytes p p' (Skips kind) g s.1
heard-smaller u p p' a b (Err BadPrologue) g s = takes-bytes p p' Refuses g s.1
heard-smaller u p p' a b (Err NoMemory) g s = absurd (cc (s.0))

-- what is pending once the channel ended so
pub stands : (p p' : Pending) (input : Act) (after : AfterStep) → (after ≡ Goes → ⊥) → Finds p input p' → Judges (is_refused input) after → Stands after p'
stands p p' input Goes ended f judged = absurd (ended refl)
stands p p' input Ends ended f judged = tt
stands p p' input (Fatal code) ended f judged = tt
stands p p' (Takes m) Malformed ended f judged = absurd (judged refl)
stands p p' (Skips kind) Malformed ended f judged = absurd (judged refl)
stands p p' Refuses Malformed ended f judged = subst (λ (q : Pending). HasWrongPrologue q.bytes) (sym f.1) f.0
stands p p' Notices Malformed ended f judged = absurd f

-- so far all that the wire told is gone through
pub record Hearing {E D : Type 0} (u : Voice E D) (p p' : Pending) (a b : Point E D) : Type 0 where
  pub inputs : List Act
  pub unpaused : pauses inputs ≡ 0
  pub tells : TellsActs p p' [] inputs
  pub goes : GoesThrough u a b (flat_map acts_for inputs) Goes

pub hearing-start : {E D : Type 0} (u : Voice E D) (p : Pending) (a : Point E D) → Hearing u p p a a
hearing-start u p a = record { inputs = []; unpaused = refl; tells = tells-nothing p; goes = goes-nowhere u a }

acts-more : (inputs : List Act) (input : Act) → flat_map acts_for inputs ++ acts_for input ≡ flat_map acts_for (inputs ++ input ∷ [])
acts-more inputs input = ap (λ (l : List Act). flat_map acts_for inputs ++ l) (sym (append-nil (acts_for input))) ∙ sym
    (flat_map-append acts_for inputs (input ∷ []))

goes-more : {E D : Type 0} (u : Voice E D) (a b c : Point E D) (inputs : List Act) (input : Act) (after : AfterStep)
    → GoesThrough u a b (flat_map acts_for inputs) Goes → GoesThrough u b c (acts_for input) after
    → GoesThrough u a c (flat_map acts_for (inputs ++ input ∷ [])) after
goes-more u a b c inputs input after g h =
    subst (λ (l : List Act). GoesThrough u a c l after) (acts-more inputs input)
    (goes-then u a b c (flat_map acts_for inputs) (acts_for input) after g h)

pub hearing-on : {E D : Type 0} (u : Voice E D) (p q q' : Pending) (a b c : Point E D) (input : Act)
    → Hearing u p q a b → Finds q input q' → ProcessesEach u (acts_for input) b c (Ok Goes) → Hearing u p q' a c
hearing-on u p q q' a b c input k f h = record {
  inputs = k.inputs ++ input ∷ [];
  unpaused = none-more k.inputs input k.unpaused (found-unpaused q q' input f);
  tells = tells-then p q q' [] [] k.inputs (input ∷ []) k.tells (tells-found q q' input f);
  goes = goes-more u a b c k.inputs input Goes k.goes h;
}

pub hearing-heard : {E D : Type 0} (u : Voice E D) (p q q' : Pending) (a b c : Point E D) (heard : Result Message WireFault)
    → Hearing u p q a b → GivesHeard q q' (Some heard) → ServesHeard u heard b c (Ok Goes) → Hearing u p q' a c
hearing-heard u p q q' a b c (Ok m) k g s = hearing-on u p q q' a b c (Takes m) k g s.0
hearing-heard u p q q' a b c (Err (TooLarge kind)) k g s = hearing-on u p q q' a b c (Skips kind) k g s.0
hearing-heard u p q q' a b c (Err BadPrologue) k g s = hearing-on u p q q' a b c Refuses k g s.0
hearing-heard u p q q' a b c (Err NoMemory) k g s = absurd (cc (s.0))

-- no more is whole
pub all-processed : {E D : Type 0} (u : Voice E D) (p q q' : Pending) (a b : Point E D)
    → Hearing u p q a b → GivesHeard q q' None → HearsAll u p q' a b (Ok Goes)
all-processed u p q q' a b k (waits, same) = record {
  inputs = k.inputs;
  unpaused = k.unpaused;
  tells = subst (λ (r : Pending). TellsActs p r [] k.inputs) (sym same) k.tells;
  spoken = (k.goes, subst (λ (r : Pending). Waits r.bytes) (sym same) waits);
}

pub all-ended : {E D : Type 0} (u : Voice E D) (p q q' : Pending) (a b c : Point E D) (input : Act) (after : AfterStep)
    → (after ≡ Goes → ⊥)
    → Hearing u p q a b → Finds q input q' → ProcessesEach u (acts_for input) b c (Ok after) → Judges (is_refused input) after
    → HearsAll u p q' a c (Ok after)
all-ended u p q q' a b c input after ended k f h judged = record {
  inputs = k.inputs ++ input ∷ [];
  unpaused = none-more k.inputs input k.unpaused (found-unpaused q q' input f);
  tells = tells-then p q q' [] [] k.inputs (input ∷ []) k.tells (tells-found q q' input f);
  spoken = (goes-more u a b c k.inputs input after k.goes h, stands q q' input after ended f judged);
}

pub all-stopped : {E D : Type 0} (u : Voice E D) (p q q' : Pending) (a b c : Point E D) (input : Act) (fault : ServeFault)
    → Hearing u p q a b → Finds q input q' → ProcessesEach u (acts_for input) b c (Err fault) → HearsAll u p q' a c (Err fault)
all-stopped u p q q' a b c input fault k f h = record {
  inputs = k.inputs ++ input ∷ [];
  unpaused = none-more k.inputs input k.unpaused (found-unpaused q q' input f);
  tells = tells-then p q q' [] [] k.inputs (input ∷ []) k.tells (tells-found q q' input f);
  spoken = inl (subst (λ (l : List Act). Stops u a c l fault) (acts-more k.inputs input)
      (stops-then u a b c (flat_map acts_for k.inputs) (acts_for input) fault k.goes h));
}

pub all-starved : {E D : Type 0} (u : Voice E D) (p q q' : Pending) (a b c : Point E D) (r : Result AfterStep ServeFault)
    → Hearing u p q a b → GivesNext q (Err NoMemory) q' → r ≡ Err Fault.NoMemory → c ≡ b → HearsAll u p q' a c r
all-starved u p q q' a b c r k (m, more, has, same) e f =
    let whole : HearsAll u p q' a b (Err Fault.NoMemory) = record {
      inputs = k.inputs;
      unpaused = k.unpaused;
      tells = subst (λ (r : Pending). TellsActs p r [] k.inputs) (sym same) k.tells;
      spoken = inr (refl, k.goes, subst (λ (r : Pending). HoldsMessage r) (sym same) (m, more, has));
    } in
    subst (λ (x : Result AfterStep ServeFault). HearsAll u p q' a c x) (sym e)
    (subst (λ x. HearsAll u p q' a x (Err Fault.NoMemory)) (sym f) whole)

-- or what it tells ends the channel, or fails
pub all-over : {E D : Type 0} (u : Voice E D) (p q q' : Pending) (a b c : Point E D) (input : Act) (r : Result AfterStep ServeFault)
    → goes_on r ≡ false → Hearing u p q a b → Finds q input q' → ProcessesEach u (acts_for input) b c r
    → IfOk r (λ after. Judges (is_refused input) after) → HearsAll u p q' a c r
all-over u p q q' a b c input (Ok Goes) t k f h j = absurd (cc (t))
all-over u p q q' a b c input (Ok Ends) t k f h j = all-ended u p q q' a b c input Ends (λ e. absurd (cc (e))) k f h j
all-over u p q q' a b c input (Ok (Fatal code)) t k f h j = all-ended u p q q' a b c input (Fatal code) (λ e. absurd (cc (e))) k f h j
all-over u p q q' a b c input (Ok Malformed) t k f h j = all-ended u p q q' a b c input Malformed (λ e. absurd (cc (e))) k f h j
all-over u p q q' a b c input (Err fault) t k f h j = all-stopped u p q q' a b c input fault k f h

pub heard-over : {E D : Type 0} (u : Voice E D) (p q q' : Pending) (a b c : Point E D) (heard : Result Message WireFault) (r : Result AfterStep ServeFault)
    → goes_on r ≡ false → Hearing u p q a b → GivesHeard q q' (Some heard) → ServesHeard u heard b c r → HearsAll u p q' a c r
heard-over u p q q' a b c (Ok m) r t k g s = all-over u p q q' a b c (Takes m) r t k g s.0 s.1
heard-over u p q q' a b c (Err (TooLarge kind)) r t k g s = all-over u p q q' a b c (Skips kind) r t k g s.0 s.1
heard-over u p q q' a b c (Err BadPrologue) r t k g s = all-over u p q q' a b c Refuses r t k g s.0 s.1
heard-over u p q q' a b c (Err NoMemory) r t k g s = all-starved u p q q' a b c r k g s.0 s.1
