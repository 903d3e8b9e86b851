-- Whole rows of the synchronous channel.
use Prim.{tt}
use Rattle.std.proofs.Common.{◌≡◌, ℕ, Bool, true, false, MatchBool, List, [], ◌∷◌, ◌++◌, Option, None, Some, Result, Ok, Err, IfOk, IfSome, refl, sym, ap}
use Rattle.std.proofs.Common.{subst, ◌∙◌, append-nil, not, ◌<◌, length, arith}
use Rattle.sw_macro.specs.Table.{Table}
use Rattle.sw_hislip.specs.declared.message.Message.{Message}
use Rattle.sw_core.specs.declared.ask.Sid.{Sid}
use Rattle.sw_core.specs.declared.ask.SessionAsk.TheVariants as Ask
use Rattle.sw_core.specs.declared.ask.SessionAnswer.{SessionAnswer}
use Rattle.sw_channels.specs.declared.partial_message.PartialMessage.{PartialMessage}
use Rattle.sw_channels.specs.declared.requests.SyncRequest.{SyncRequest}
use Rattle.sw_channels.specs.declared.requests.SyncRequest.TheVariants as Request
use Rattle.sw_channels.specs.declared.step.Channel.TheVariants.{Synchronous}
use Rattle.sw_channels.specs.declared.step.Reply.{Reply}
use Rattle.sw_channels.specs.declared.step.Sent.{Sent}
use Rattle.sw_channels.specs.Said.{StepSeen}
use Rattle.sw_channels.specs.declared.synchronous.Delivery.{Delivery}
use Rattle.sw_channels.specs.EngineKinds.{sync_request}
use Rattle.sw_channels.specs.EngineStep.{LedBy, Unasked, goes, over, joined, reply_step}
use Rattle.sw_channels.specs.EngineSync.{SyncStanding, Answers, SaysAnswer, Converses, SaysMore, Finishes, Triggers, Programs, Attended, ServesProgram, Attends, gate_step}
use Rattle.sw_channels.specs.EngineSync.{Delivers, delivery_step, said_by_delivery, is_within, is_program, with_part, whole, RepliesSync, TakesSync}
use Rattle.sw_talk.specs.Talk.{Talked, state}
use Rattle.sw_talk.specs.Trace.{Entry, Asked, Led, Leads}
use Rattle.sw_talk.proofs.LedLemmas.{leads-append}

-- a program message was talked over, and its answer given
pub converses : {D : Type 0} (passes : D → Entry → D → Type 0) (old mid new : D) (sid talker : Sid) (macros macros' : Table) (attached : Bool)
    (partial : PartialMessage)
    (said : List Sent) (id : ℕ) (text bytes : List ℕ) (lasts : Bool) (rest : List Entry) (step : StepSeen)
    → talker ≡ sid → (t : Talked passes talker (state old macros) text bytes (state mid macros')) × (t.lasts ≡ lasts) → Leads passes mid rest new
    → SaysMore said step (λ own. SaysAnswer sid id bytes lasts rest own)
    → LedBy passes old new (λ asked.
    SaysMore said step (λ own. Converses (record { sid = sid; macros = macros; attached = attached; partial = partial }) id text asked own macros'))
converses passes old mid new sid talker macros macros' attached partial said id text bytes lasts rest step is talked p more =
    let t : (t : Talked passes sid (state old macros) text bytes (state mid macros')) × (t.lasts ≡ lasts) =
    subst (λ (s : Sid). (t : Talked passes s (state old macros) text bytes (state mid macros')) × (t.lasts ≡ lasts)) is talked in
    record {
      asked = t.0.trace ++ rest;
      leads = leads-append passes old mid new t.0.trace rest t.0.leads p;
      admits = (
        more.0,
        record {
          talk = t.0.trace;
          rest = rest;
          asks = refl;
          bytes = bytes;
          lasts = t.0.lasts;
          talks = t.0.talks;
          says = subst (λ (b : Bool). SaysAnswer sid id bytes b rest more.0) (sym t.1) more.1;
        },
        more.2,
      );
    }

-- nothing was answered, and the session lasts
pub says-none : (sid : Sid) (said : List Sent) (id : ℕ) (bytes : List ℕ) (lasts : Bool) (step : StepSeen) → length bytes ≡ 0 → lasts ≡ true
    → step ≡ joined (goes said) (goes []) → SaysMore said step (λ own. SaysAnswer sid id bytes lasts [] own)
says-none sid said id [] true step none is told = (goes [], (refl, refl), told)
says-none sid said id [] false step none is told = absurd (cc (is))
says-none sid said id (b ∷ bytes) lasts step none is told = absurd (cc (none))

-- something was, or it may not last, and the size is asked
pub says-some : (sid : Sid) (said : List Sent) (id : ℕ) (bytes : List ℕ) (lasts : Bool) (size : SessionAnswer) (step : StepSeen)
    → (lasts ≡ true → 0 < length bytes)
    → SaysMore said step (λ own. Answers id bytes size own)
    → SaysMore said step (λ own. SaysAnswer sid id bytes lasts (Asked (Ask.MaxSize sid) size ∷ []) own)
says-some sid said id [] true size step some more = let s = some refl in absurd (omega (arith, s))
says-some sid said id [] false size step some more = (more.0, (size, refl, more.1), more.2)
says-some sid said id (b ∷ bytes) lasts size step some more = (more.0, (size, refl, more.1), more.2)

-- the message is whole, or is dropped whole
pub finishes-some : {D : Type 0} (passes : D → Entry → D → Type 0) (old new : D) (s mid s' : SyncStanding) (said : List Sent) (id : ℕ) (text : List ℕ)
    (all : Option (List ℕ)) (step : StepSeen)
    → all ≡ Some text → mid ≡ record s { partial = PartialMessage.Nothing } → s' ≡ record mid { macros = s'.macros }
    → LedBy passes old new (λ asked. SaysMore said step (λ own. Converses mid id text asked own s'.macros))
    → LedBy passes old new (λ asked. SaysMore said step (λ own. Finishes s id all asked own s'))
finishes-some passes old new s mid s' said id text all step is between became h = record {
  asked = h.asked;
  leads = h.leads;
  admits =
      let own : StepSeen = h.admits.0 in
      let c : Converses (record s { partial = PartialMessage.Nothing }) id text h.asked own s'.macros =
      subst (λ (t : SyncStanding). Converses t id text h.asked own s'.macros) between h.admits.1 in
      let put : SyncStanding → SyncStanding = λ t. record t { macros = s'.macros } in (
        own,
        subst (λ (o : Option (List ℕ)). Finishes s id o h.asked own s') (sym is)
            (record { talk = c.talk; rest = c.rest; asks = c.asks; bytes = c.bytes; lasts = c.lasts; talks = c.talks; says = c.says }, became ∙ ap put between),
        h.admits.2,
      );
}

pub finishes-none : {D : Type 0} (passes : D → Entry → D → Type 0) (d : D) (s s' : SyncStanding) (said : List Sent) (id : ℕ) (all : Option (List ℕ))
    (step : StepSeen)
    → all ≡ None → s' ≡ record s { partial = PartialMessage.Nothing } → step ≡ joined (goes said) (goes [])
    → LedBy passes d d (λ asked. SaysMore said step (λ own. Finishes s id all asked own s'))
finishes-none passes d s s' said id all step is became told =
    let none : List Entry = [] in
    let own : StepSeen = goes [] in
    record { asked = []; leads = refl; admits = (own, subst (λ (o : Option (List ℕ)). Finishes s id o none own s') (sym is) ((refl, refl), became), told) }

-- a message of a program is served
pub serves-part : {D : Type 0} (passes : D → Entry → D → Type 0) (d : D) (request : SyncRequest) (s s' : SyncStanding) (m : Message)
    (said : List Sent) {E : Type 0} (r : Result StepSeen E)
    → request ≡ Request.Part → IfOk r (λ step. (step ≡ joined (goes said) (goes [])) × (s' ≡ record s { partial = with_part s.partial m.payload }))
    → IfOk r (λ step. LedBy passes d d (λ asked. SaysMore said step (λ own. Programs false request s m asked own s')))
serves-part passes d request s s' m said (Ok step) is h =
    let none : List Entry = [] in
    let own : StepSeen = goes [] in
    record { asked = []; leads = refl; admits = (own, subst (λ (q : SyncRequest). Programs false q s m none own s') (sym is) ((refl, refl), h.1), h.0) }
serves-part passes d request s s' m said (Err e) is h = tt

pub serves-end : {D : Type 0} (passes : D → Entry → D → Type 0) (old new : D) (request : SyncRequest) (s s' : SyncStanding) (m : Message)
    (said : List Sent) {E : Type 0} (r : Result StepSeen E)
    → request ≡ Request.End
    → IfOk r (λ step. LedBy passes old new (λ asked. SaysMore said step (λ own. Finishes s m.parameter (whole s.partial m.payload) asked own s')))
    → IfOk r (λ step. LedBy passes old new (λ asked. SaysMore said step (λ own. Programs false request s m asked own s')))
serves-end passes old new request s s' m said r is h =
    subst (λ (q : SyncRequest). IfOk r (λ step. LedBy passes old new (λ asked. SaysMore said step (λ own. Programs false q s m asked own s')))) (sym is) h

pub serves-trigger : {D : Type 0} (passes : D → Entry → D → Type 0) (old new : D) (request : SyncRequest) (s s' : SyncStanding) (m : Message) (said : List Sent)
    (step : StepSeen)
    → request ≡ Request.Trigger → LedBy passes old new (λ asked. SaysMore said step (λ own. Triggers (is_within s.partial) s.sid asked own))
    → s' ≡ record s { partial = PartialMessage.Nothing }
    → LedBy passes old new (λ asked. SaysMore said step (λ own. Programs false request s m asked own s'))
serves-trigger passes old new request s s' m said step is h became =
    let own : StepSeen = h.admits.0 in
    record {
      asked = h.asked;
      leads = h.leads;
      admits =
          (own, subst (λ (q : SyncRequest). Programs false q s m h.asked own s') (sym is) (h.admits.1, became), h.admits.2);
    }

-- the session is none any more
pub processes-gone : {D : Type 0} (passes : D → Entry → D → Type 0) (old new : D) (request : SyncRequest) (s s' : SyncStanding) (m : Message)
    (delivery : Delivery)
    (step : StepSeen)
    → s' ≡ s → delivery ≡ Delivery.Gone → ((id : ℕ) → Led passes old new (λ t rest. Delivers s.sid m.control id t (delivery_step id delivery) rest))
    → step ≡ over
    → LedBy passes old new (λ asked. Attended false request s m asked step s')
processes-gone passes old new request s s' m delivery step stays is led told =
    let none : List Entry = [] in
    let l : Led passes old new (λ t rest. Delivers s.sid m.control m.parameter t over rest) =
    subst (λ (d : Delivery). Led passes old new (λ t rest. Delivers s.sid m.control m.parameter t (delivery_step m.parameter d) rest)) is
    (led m.parameter) in
    record {
      asked = l.trace;
      leads = l.leads;
      admits = (
        over,
        none,
        subst (λ (t : List Entry). Delivers s.sid m.control m.parameter t over none) (append-nil l.trace) (l.admits none),
        (refl, (refl, told), stays),
      );
    }

-- what the last answer makes be said, and that the channel goes on
pub went-on : (id : ℕ) (delivery : Delivery) → (delivery ≡ Delivery.Gone → ⊥) → delivery_step id delivery ≡ goes (said_by_delivery id delivery)
went-on id Delivery.Quiet not = refl
went-on id Delivery.Interrupted not = refl
went-on id Delivery.Gone not = absurd (not refl)

-- the last answer was looked at, and the message is served
pub processes-on : {D : Type 0} (passes : D → Entry → D → Type 0) (old mid new : D) (request : SyncRequest) (s s' : SyncStanding) (m : Message)
    (delivery : Delivery) (said : List Sent) {E : Type 0} (r : Result StepSeen E)
    → (delivery ≡ Delivery.Gone → ⊥) → ((id : ℕ) → Led passes old mid (λ t rest. Delivers s.sid m.control id t (delivery_step id delivery) rest))
    → said ≡ said_by_delivery m.parameter delivery
    → IfOk r (λ step. LedBy passes mid new (λ asked. SaysMore said step (λ own. Programs false request s m asked own s')))
    → IfOk r (λ step. LedBy passes old new (λ asked. Attended false request s m asked step s'))
processes-on passes old mid new request s s' m delivery said (Ok step) not led is h =
    let first : StepSeen = goes said in
    let l : Led passes old mid (λ t rest. Delivers s.sid m.control m.parameter t first rest) =
    subst (λ (f : StepSeen). Led passes old mid (λ t rest. Delivers s.sid m.control m.parameter t f rest))
    (subst (λ (o : List Sent). delivery_step m.parameter delivery ≡ goes o) (sym is) (went-on m.parameter delivery not)) (led m.parameter) in
    record {
      asked = l.trace ++ h.asked;
      leads = leads-append passes old mid new l.trace h.asked l.leads h.leads;
      admits = (first, h.asked, l.admits h.asked, (h.admits.0, h.admits.1, h.admits.2));
    }
processes-on passes old mid new request s s' m delivery said (Err e) not led is h = tt

-- the second channel doesn't stand
pub program-stays : {D : Type 0} (passes : D → Entry → D → Type 0) (old new : D) (request : SyncRequest) (s s' : SyncStanding) (m : Message)
    (gate : Option Reply) (reply : Reply) (step : StepSeen)
    → s' ≡ s → gate ≡ Some reply → Led passes old new (λ t rest. Attends s.attached s.sid t (gate_step gate) rest)
    → IfSome gate (λ r. (reply_step Synchronous r).ends ≡ true) → step ≡ reply_step Synchronous reply
    → LedBy passes old new (λ asked. ServesProgram false request s m asked step s')
program-stays passes old new request s s' m gate reply step stays is led all told =
    let none : List Entry = [] in
    let first : StepSeen = reply_step Synchronous reply in
    let short : Bool = false in
    let l : Led passes old new (λ t rest. Attends s.attached s.sid t first rest) =
    subst (λ (g : Option Reply). Led passes old new (λ t rest. Attends s.attached s.sid t (gate_step g) rest)) is led in
    let On : Type 0 = (second : StepSeen) × Attended false request (record s { attached = true }) m none second s' × (step ≡ joined first second) in
    let ends : first.ends ≡ true = subst (λ (g : Option Reply). IfSome g (λ r. (reply_step Synchronous r).ends ≡ true)) is all in
    record {
      asked = l.trace;
      leads = l.leads;
      admits = (
        first,
        none,
        subst (λ (t : List Entry). Attends s.attached s.sid t first none) (append-nil l.trace)
            (l.admits none),
        subst (λ (b : Bool). MatchBool b ((short ≡ false) × Unasked first none step × (s' ≡ s)) On) (sym ends) (refl, (refl, told), stays),
      );
    }

-- it stands
pub program-on : {D : Type 0} (passes : D → Entry → D → Type 0) (old mid new : D) (request : SyncRequest) (s s' : SyncStanding) (m : Message)
    (gate : Option Reply) {E : Type 0} (r : Result StepSeen E)
    → gate ≡ None → Led passes old mid (λ t rest. Attends s.attached s.sid t (gate_step gate) rest)
    → IfOk r (λ step. LedBy passes mid new (λ asked. Attended false request (record s { attached = true }) m asked step s'))
    → IfOk r (λ step. LedBy passes old new (λ asked. ServesProgram false request s m asked step s'))
program-on passes old mid new request s s' m gate (Ok step) is led h =
    let first : StepSeen = goes [] in
    let l : Led passes old mid (λ t rest. Attends s.attached s.sid t first rest) =
    subst (λ (g : Option Reply). Led passes old mid (λ t rest. Attends s.attached s.sid t (gate_step g) rest)) is led in
    record {
      asked = l.trace ++ h.asked;
      leads = leads-append passes old mid new l.trace h.asked l.leads h.leads;
      admits = (first, h.asked, l.admits h.asked, (step, h.admits, refl));
    }
program-on passes old mid new request s s' m gate (Err e) is led h = tt

-- one message
pub takes-program : {D : Type 0} (passes : D → Entry → D → Type 0) (old new : D) (s s' : SyncStanding) (m : Message) (request : SyncRequest) {E : Type 0}
    (r : Result StepSeen E)
    → request ≡ sync_request m.kind → is_program request ≡ true → IfOk r (λ step. LedBy passes old new (λ asked. ServesProgram false request s m asked step s'))
    → IfOk r (λ step. LedBy passes old new (λ asked. TakesSync s m asked step s'))
takes-program passes old new s s' m request (Ok step) is program h =
    let q : SyncRequest = sync_request m.kind in
    let served : ServesProgram false q s m h.asked step s' = subst (λ (o : SyncRequest). ServesProgram false o s m h.asked step s') is h.admits in
    let yes : is_program q ≡ true = subst (λ (o : SyncRequest). is_program o ≡ true) is program in
    record {
      asked = h.asked;
      leads = h.leads;
      admits = subst (λ (b : Bool). MatchBool b (ServesProgram false q s m h.asked step s')
          (RepliesSync q s h.asked step s')) (sym yes) served;
    }
takes-program passes old new s s' m request (Err e) is program h = tt

pub takes-reply : {D : Type 0} (passes : D → Entry → D → Type 0) (old new : D) (s s' : SyncStanding) (m : Message) (request : SyncRequest)
    (step told : StepSeen)
    → request ≡ sync_request m.kind → is_program request ≡ false → LedBy passes old new (λ asked. RepliesSync request s asked told s') → step ≡ told
    → LedBy passes old new (λ asked. TakesSync s m asked step s')
takes-reply passes old new s s' m request step told is program h same =
    let q : SyncRequest = sync_request m.kind in
    let replied : RepliesSync q s h.asked step s' =
    subst (λ (o : SyncRequest). RepliesSync o s h.asked step s') is (subst (λ (t : StepSeen). RepliesSync request s h.asked t s') (sym same) h.admits) in
    let no : is_program q ≡ false = subst (λ (o : SyncRequest). is_program o ≡ false) is program in
    record {
      asked = h.asked;
      leads = h.leads;
      admits = subst (λ (b : Bool). MatchBool b (ServesProgram false q s m h.asked step s')
          (RepliesSync q s h.asked step s')) (sym no) replied;
    }
