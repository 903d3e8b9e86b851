-- Rows of the synchronous channel.
use Rattle.std.proofs.Common.{◌≡◌, ℕ, Bool, true, false, MatchBool, List, [], ◌∷◌, Option, refl, sym, subst, append-nil}
use Rattle.sw_base.specs.declared.error.ScpiError.TheVariants.{QueryInterrupted, GetNotAllowed}
use Rattle.sw_core.specs.declared.ask.Sid.{Sid}
use Rattle.sw_core.specs.declared.ask.SessionAsk.TheVariants as Ask
use Rattle.sw_core.specs.declared.ask.SessionAnswer.{SessionAnswer}
use Rattle.sw_talk.specs.declared.desk.View.{View}
use Rattle.sw_channels.specs.declared.step.Reply.{Reply}
use Rattle.sw_channels.specs.Said.{StepSeen}
use Rattle.sw_hislip.specs.declared.kind.Kind.TheVariants as Kind
use Rattle.sw_talk.specs.Talk.{Settles, Queues, is_done}
use Rattle.sw_channels.proofs.EngineAsksLemmas.{by-one, by-two}
use Rattle.sw_talk.specs.Trace.{Entry, Asked, Polled, Noted, Led}
use Rattle.sw_channels.specs.EngineMessages.{plain, tells_delivery}
use Rattle.sw_channels.specs.EngineStep.{LedBy, Unasked, goes, over}
use Rattle.sw_channels.specs.EngineSync.{Attends, attended, gate_step, Delivers, Interrupts, LooksForAnswer, interrupted, GivesTrigger, Completes, responds}
use Rattle.sw_talk.proofs.LedLemmas.{led-none, led-one, led-then}

-- the second channel was seen to stand
pub attends-seen : {D : Type 0} (passes : D → Entry → D → Type 0) (d : D) (sid : Sid) (attached : Bool) → attached ≡ true
    → Led passes d d (λ t rest. Attends attached sid t (goes []) rest)
attends-seen passes d sid attached is =
    led-none passes d (λ t rest. Attends attached sid t (goes []) rest) (λ rest. subst (λ (b : Bool). Attends b sid rest (goes []) rest) (sym is) (refl, refl))

-- it is asked whether it stands
pub attends-asked : {D : Type 0} (passes : D → Entry → D → Type 0) (old new : D) (sid : Sid) (attached : Bool) (answer : SessionAnswer) (gate : Option Reply)
    → attached ≡ false → passes old (Asked (Ask.Attached sid) answer) new → gate_step gate ≡ attended answer
    → Led passes old new (λ t rest. Attends attached sid t (gate_step gate) rest)
attends-asked passes old new sid seen answer gate is p told =
    led-one passes old new (λ t rest. Attends seen sid t (gate_step gate) rest) (Asked (Ask.Attached sid) answer) p
    (λ rest. subst (λ (b : Bool). Attends b sid (Asked (Ask.Attached sid) answer ∷ rest) (gate_step gate) rest) (sym is) (refl, told, refl))

-- the client has taken the last answer
pub delivered-told : {D : Type 0} (passes : D → Entry → D → Type 0) (old new : D) (sid : Sid) (control id : ℕ) → tells_delivery control ≡ true
    → passes old (Noted sid false) new → Led passes old new (λ t rest. Delivers sid control id t (goes []) rest)
delivered-told passes old new sid control id is p =
    led-one passes old new (λ t rest. Delivers sid control id t (goes []) rest) (Noted sid false) p
    (λ rest. subst (λ (b : Bool). MatchBool b ((Noted sid false ∷ rest ≡ Noted sid false ∷ rest) × (goes [] ≡ goes []))
    (LooksForAnswer sid id (Noted sid false ∷ rest) (goes []) rest)) (sym is) (refl, refl))

looked : (sid : Sid) (control id : ℕ) (asked rest : List Entry) (step : StepSeen) → tells_delivery control ≡ false → LooksForAnswer sid id asked step rest
    → Delivers sid control id asked step rest
looked sid control id asked rest step is h =
    subst (λ (b : Bool). MatchBool b ((asked ≡ Noted sid false ∷ rest) × (step ≡ goes [])) (LooksForAnswer sid id asked step rest)) (sym is) h

-- no answer is available
pub delivered-none : {D : Type 0} (passes : D → Entry → D → Type 0) (old new : D) (sid : Sid) (control id : ℕ) (view : View) → tells_delivery control ≡ false
    → view.mav ≡ false → passes old (Polled sid view) new → Led passes old new (λ t rest. Delivers sid control id t (goes []) rest)
delivered-none passes old new sid control id view is none p =
    led-one passes old new (λ t rest. Delivers sid control id t (goes []) rest) (Polled sid view) p
    (λ rest. looked sid control id (Polled sid view ∷ rest) rest (goes []) is
    (refl, subst (λ (b : Bool). MatchBool b (Interrupts sid id rest (goes []) rest) ((goes [] ≡ goes []) × (rest ≡ rest))) (sym none) (refl, refl)))

-- one is, and is dropped
pub delivered-not : {D : Type 0} (passes : D → Entry → D → Type 0) (old mid new : D) (sid : Sid) (control id : ℕ) (view : View) (step : StepSeen)
    → tells_delivery control ≡ false → view.mav ≡ true → passes old (Polled sid view) mid
    → Led passes mid new (λ t rest. Interrupts sid id t step rest) → Led passes old new (λ t rest. Delivers sid control id t step rest)
delivered-not passes old mid new sid control id view step is some p led =
    let P : List Entry → List Entry → Type 0 = λ t rest. t ≡ Polled sid view ∷ rest in
    let Q : List Entry → List Entry → Type 0 = λ t rest. Interrupts sid id t step rest in
    led-then passes old mid new P Q (λ t rest. Delivers sid control id t step rest) (led-one passes old mid P (Polled sid view) p (λ rest. refl)) led
    (λ t u rest e h. subst (λ (l : List Entry). Delivers sid control id l step rest) (sym e)
    (looked sid control id (Polled sid view ∷ u) rest step is
    (refl, subst (λ (b : Bool). MatchBool b (Interrupts sid id u step rest) ((step ≡ goes []) × (rest ≡ u))) (sym some) h)))

-- the interrupt
pub interrupts-told : {D : Type 0} (passes : D → Entry → D → Type 0) (old mid new : D) (sid : Sid) (id : ℕ) (answer : SessionAnswer) (step : StepSeen)
    → passes old (Noted sid false) mid → passes mid (Asked (Ask.Fault sid QueryInterrupted) answer) new → step ≡ interrupted id answer
    → Led passes old new (λ t rest. Interrupts sid id t step rest)
interrupts-told passes old mid new sid id answer step p q told = record {
  trace = Noted sid false ∷ Asked (Ask.Fault sid QueryInterrupted) answer ∷ [];
  leads = (mid, p, (new, q, refl));
  admits = λ rest. (refl, refl, refl, told, refl);
}

-- a trigger within a program message, and one without
pub trigger-within : {D : Type 0} (passes : D → Entry → D → Type 0) (old new : D) (sid : Sid) (within : Bool) (final : SessionAnswer) → within ≡ true
    → Led passes old new (λ t rest. Queues sid GetNotAllowed t final rest) → LedBy passes old new (λ asked. GivesTrigger within sid asked final)
trigger-within passes old new sid within final is led = record {
  asked = led.trace;
  leads = led.leads;
  admits = subst (λ (b : Bool). GivesTrigger b sid led.trace final) (sym is)
      (subst (λ (t : List Entry). Queues sid GetNotAllowed t final []) (append-nil led.trace) (led.admits []));
}

pub trigger-alone : {D : Type 0} (passes : D → Entry → D → Type 0) (old new : D) (sid : Sid) (within : Bool) (final : SessionAnswer) → within ≡ false
    → Led passes old new (λ t rest. Settles sid 0 (Ask.Bus sid) t final rest) → LedBy passes old new (λ asked. GivesTrigger within sid asked final)
trigger-alone passes old new sid within final is led = record {
  asked = led.trace;
  leads = led.leads;
  admits = subst (λ (b : Bool). GivesTrigger b sid led.trace final) (sym is)
      (subst (λ (t : List Entry). Settles sid 0 (Ask.Bus sid) t final []) (append-nil led.trace) (led.admits []));
}

-- a clear is complete
pub completes-done : {D : Type 0} (passes : D → Entry → D → Type 0) (old mid new : D) (sid : Sid) (answer : SessionAnswer) (step : StepSeen) → is_done answer ≡
    true
    → passes old (Asked (Ask.Cleared sid) answer) mid → passes mid (Noted sid false) new
    → step ≡ responds (plain Kind.DeviceClearAcknowledge 0 0) → LedBy passes old new (λ asked. Completes sid asked step)
completes-done passes old mid new sid answer step is p q told =
    by-two passes old mid new (λ asked. Completes sid asked step) (Asked (Ask.Cleared sid) answer) (Noted sid false) p q (
      refl,
      subst (λ (b : Bool). MatchBool b ((Noted sid false ∷ [] ≡ Noted sid false ∷ []) × (step ≡ responds (plain Kind.DeviceClearAcknowledge 0 0)))
          (Unasked over (Noted sid false ∷ []) step)) (sym is) (refl, told),
    )

-- or is not
pub completes-not : {D : Type 0} (passes : D → Entry → D → Type 0) (old new : D) (sid : Sid) (answer : SessionAnswer) → is_done answer ≡ false
    → passes old (Asked (Ask.Cleared sid) answer) new → LedBy passes old new (λ asked. Completes sid asked over)
completes-not passes old new sid answer is p =
    let none : List Entry = [] in
    by-one passes old new (λ asked. Completes sid asked over) (Asked (Ask.Cleared sid) answer) p (
      refl,
      subst (λ (b : Bool). MatchBool b ((none ≡ Noted sid false ∷ []) × (over ≡ responds (plain Kind.DeviceClearAcknowledge 0 0)))
          (Unasked over none over)) (sym is) (refl, refl),
    )
