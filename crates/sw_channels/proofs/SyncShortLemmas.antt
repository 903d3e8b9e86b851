-- What a message of the synchronous channel has asked where memory ran out.
use Prim.{tt}
use Rattle.std.proofs.Common.{◌≡◌, ℕ, true, List, [], ◌++◌, Option, None, Result, Ok, Err, OnErr, inr, refl, sym, subst}
use Rattle.sw_hislip.specs.declared.message.Message.{Message}
use Rattle.sw_channels.specs.declared.requests.SyncRequest.{SyncRequest}
use Rattle.sw_channels.specs.declared.requests.SyncRequest.TheVariants as Request
use Rattle.sw_channels.specs.declared.step.Reply.{Reply}
use Rattle.sw_channels.specs.Said.{StepSeen}
use Rattle.sw_channels.specs.declared.synchronous.Delivery.{Delivery}
use Rattle.sw_channels.specs.EngineKinds.{sync_request}
use Rattle.sw_channels.specs.EngineStep.{LedBy, goes, joined}
use Rattle.sw_channels.specs.EngineSync.{SyncStanding, Programs, Attended, ServesProgram, FallsShort, FaltersSync, Attends}
use Rattle.sw_channels.specs.EngineSync.{gate_step, Delivers, delivery_step, said_by_delivery}
use Rattle.sw_talk.specs.Trace.{Entry, Led}
use Rattle.sw_talk.proofs.LedLemmas.{leads-append}
use Rattle.sw_channels.proofs.SyncTalksLemmas.{went-on}

-- nothing was asked
pub short-none : {D : Type 0} (passes : D → Entry → D → Type 0) (d : D) (P : List Entry → Type 0) → P [] → LedBy passes d d P
short-none passes d P h = record { asked = []; leads = refl; admits = h }

pub short-else : {D : Type 0} (passes : D → Entry → D → Type 0) (d : D) (P : List Entry → Type 0) {X E : Type 0} (r : Result X E) → P []
    → OnErr r (LedBy passes d d P)
short-else passes d P (Ok x) h = tt
short-else passes d P (Err e) h = short-none passes d P h

-- a part, and a last one
pub part-short : {D : Type 0} (passes : D → Entry → D → Type 0) (d : D) (request : SyncRequest) (s : SyncStanding) (m : Message) {X E : Type 0} (r : Result X E)
    → request ≡ Request.Part → OnErr r (LedBy passes d d (λ asked. FallsShort (Programs true request s m) asked))
part-short passes d request s m r is =
    let none : List Entry = [] in
    short-else passes d (λ asked. FallsShort (Programs true request s m) asked) r
    (subst (λ (q : SyncRequest). FallsShort (Programs true q s m) none) (sym is) (goes [], s, refl))

pub end-short : {D : Type 0} (passes : D → Entry → D → Type 0) (old new : D) (request : SyncRequest) (s : SyncStanding) (m : Message) {X E : Type 0}
    (r : Result X E)
    → request ≡ Request.End → OnErr r (LedBy passes old new (λ asked. asked ≡ []))
    → OnErr r (LedBy passes old new (λ asked. FallsShort (Programs true request s m) asked))
end-short passes old new request s m (Ok x) is h = tt
end-short passes old new request s m (Err e) is h = record {
  asked = h.asked;
  leads = h.leads;
  admits = subst (λ (q : SyncRequest). FallsShort (Programs true q s m) h.asked) (sym is) (goes [], s, h.admits);
}

-- the last answer was looked at before
pub processes-short : {D : Type 0} (passes : D → Entry → D → Type 0) (old mid new : D) (request : SyncRequest) (s : SyncStanding) (m : Message)
    (delivery : Delivery) {X E : Type 0} (r : Result X E)
    → (delivery ≡ Delivery.Gone → ⊥) → ((id : ℕ) → Led passes old mid (λ t rest. Delivers s.sid m.control id t (delivery_step id delivery) rest))
    → OnErr r (LedBy passes mid new (λ asked. FallsShort (Programs true request s m) asked))
    → OnErr r (LedBy passes old new (λ asked. FallsShort (Attended true request s m) asked))
processes-short passes old mid new request s m delivery (Ok x) not led h = tt
processes-short passes old mid new request s m delivery (Err e) not led h =
    let first : StepSeen = goes (said_by_delivery m.parameter delivery) in
    let l : Led passes old mid (λ t rest. Delivers s.sid m.control m.parameter t first rest) =
    subst (λ (f : StepSeen). Led passes old mid (λ t rest. Delivers s.sid m.control m.parameter t f rest)) (went-on m.parameter delivery not)
    (led m.parameter) in
    record {
      asked = l.trace ++ h.asked;
      leads = leads-append passes old mid new l.trace h.asked l.leads h.leads;
      admits = (joined first h.admits.0, h.admits.1, (first, h.asked, l.admits h.asked, (h.admits.0, h.admits.2, refl)));
    }

-- and before that whether the second channel stands
pub program-short : {D : Type 0} (passes : D → Entry → D → Type 0) (old mid new : D) (request : SyncRequest) (s : SyncStanding) (m : Message)
    (gate : Option Reply) {X E : Type 0} (r : Result X E)
    → gate ≡ None → Led passes old mid (λ t rest. Attends s.attached s.sid t (gate_step gate) rest)
    → OnErr r (LedBy passes mid new (λ asked. FallsShort (Attended true request (record s { attached = true }) m) asked))
    → OnErr r (LedBy passes old new (λ asked. FallsShort (ServesProgram true request s m) asked))
program-short passes old mid new request s m gate (Ok x) is led h = tt
program-short passes old mid new request s m gate (Err e) is led h =
    let first : StepSeen = goes [] in
    let l : Led passes old mid (λ t rest. Attends s.attached s.sid t first rest) =
    subst (λ (g : Option Reply). Led passes old mid (λ t rest. Attends s.attached s.sid t (gate_step g) rest)) is led in
    record {
      asked = l.trace ++ h.asked;
      leads = leads-append passes old mid new l.trace h.asked l.leads h.leads;
      admits = (joined first h.admits.0, h.admits.1, (first, h.asked, l.admits h.asked, (h.admits.0, h.admits.2, refl)));
    }

-- one message
pub takes-short : {D : Type 0} (passes : D → Entry → D → Type 0) (old new : D) (s : SyncStanding) (m : Message) (request : SyncRequest) {X E : Type 0}
    (r : Result X E)
    → request ≡ sync_request m.kind → OnErr r (LedBy passes old new (λ asked. FallsShort (ServesProgram true request s m) asked))
    → OnErr r (LedBy passes old new (λ asked. FaltersSync s m asked))
takes-short passes old new s m request (Ok x) is h = tt
takes-short passes old new s m request (Err e) is h = record {
  asked = h.asked;
  leads = h.leads;
  admits = inr (subst (λ (q : SyncRequest). FallsShort (ServesProgram true q s m) h.asked) is h.admits);
}
