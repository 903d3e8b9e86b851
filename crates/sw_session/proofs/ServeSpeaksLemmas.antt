-- An engine as a server asks it.
use Rattle.std.proofs.Common.{◌≡◌, ℕ, true, false, [], ◌∷◌, Option, Some, None, Result, Ok, Err, IfOk, OnErr, OnOk, refl, sym, subst}
use Rattle.sw_hislip.specs.declared.kind.Kind.{Kind}
use Rattle.sw_hislip.specs.declared.message.Message.{Message}
use Rattle.sw_core.specs.declared.ask.Sid.{Sid}
use Rattle.sw_talk.specs.declared.desk.View.{View}
use Rattle.sw_channels.specs.declared.refusals.FatalCode.TheVariants.{PoorlyFormed}
use Rattle.sw_channels.specs.declared.engine.State.{State}
use Rattle.sw_channels.specs.declared.engine.State.TheVariants.{Unopened, Synchronized, Attached}
use Rattle.sw_channels.specs.declared.step.Channel.{Channel}
use Rattle.sw_channels.specs.declared.step.Channel.TheVariants.{Synchronous, Asynchronous}
use Rattle.sw_session.specs.declared.fault.ServeFault.{ServeFault}
use Rattle.sw_channels.specs.Said.{StepSeen}
use Rattle.sw_session.specs.Acts.{Act}
use Rattle.sw_talk.specs.Trace.{Entry, Polled}
use Rattle.sw_channels.specs.EngineStep.{LedBy, goes, says, fails}
use Rattle.sw_channels.specs.Engine.{EngineStanding, fresh_engine, TakesMessage, Falters, session_of, channel_of_state, too_large, skips, notice_from}
use Rattle.sw_channels.specs.Engine.{noticed_from}
use Rattle.sw_session.specs.ServePoint.{voice, Point}
use Rattle.sw_session.specs.declared.after_step.AfterStep.TheVariants.{Goes}
use Rattle.sw_session.specs.Serve.{RunsChannel, with_desk, LeavesSession, Processes}
use Rattle.sw_session.specs.ServeEngine.{told_step, second_session_of, LooksFor, Looks, EngineSpeaks, EngineFalters, engine_protocol}
use Rattle.sw_session.specs.ServeEngine.{Station, manned, ServesChannel}
use Rattle.sw_session.proofs.ServeKnownLemmas.{appends-nothing}
use Rattle.sw_session.proofs.ServePartsLemmas.{processes-ok}

pub takes-speaks : {D X : Type 0} (passes : D → Entry → D → Type 0) (d d' : D) (e f : EngineStanding) (m : Message) (r : Result StepSeen X)
    → IfOk r (λ step. LedBy passes d d' (λ asked. TakesMessage e.state m asked step f.state)) → OnOk r ((e.spent ≡ false) × (f.spent ≡ false))
    → IfOk r (λ step. LedBy passes d d' (λ asked. EngineSpeaks e (Act.Takes m) asked step f))
takes-speaks passes d d' e f m (Ok step) h k = record { asked = h.asked; leads = h.leads; admits = (h.admits, k.0, k.1) }
takes-speaks passes d d' e f m (Err x) h k = tt

pub takes-falters : {D X : Type 0} (passes : D → Entry → D → Type 0) (d d' : D) (e f : EngineStanding) (m : Message) (r : Result StepSeen X)
    → OnErr r (LedBy passes d d' (λ asked. Falters e m asked)) → OnErr r (f.spent ≡ true) → OnErr r (session_of f.state ≡ session_of e.state)
    → OnErr r (LedBy passes d d' (λ asked. EngineFalters e (Act.Takes m) asked f))
takes-falters passes d d' e f m (Ok step) h k s = tt
takes-falters passes d d' e f m (Err x) h k s = record { asked = h.asked; leads = h.leads; admits = (h.admits, s, k) }

pub skips-speaks : {D X : Type 0} (passes : D → Entry → D → Type 0) (d : D) (e f : EngineStanding) (kind : Kind) (r : Result StepSeen X)
    → IfOk r (λ step. step ≡ says (channel_of_state e.state) too_large) → IfOk r (λ step. f ≡ record e { state = skips kind e.state })
    → IfOk r (λ step. LedBy passes d d (λ asked. EngineSpeaks e (Act.Skips kind) asked step f))
skips-speaks passes d e f kind (Ok step) h k = record { asked = []; leads = refl; admits = ((refl, h), k) }
skips-speaks passes d e f kind (Err x) h k = tt

pub skips-falters : {D X : Type 0} (passes : D → Entry → D → Type 0) (d : D) (e f : EngineStanding) (kind : Kind) (r : Result StepSeen X)
    → OnErr r (f ≡ e) → OnErr r (LedBy passes d d (λ asked. EngineFalters e (Act.Skips kind) asked f))
skips-falters passes d e f kind (Ok step) h = tt
skips-falters passes d e f kind (Err x) h = record { asked = []; leads = refl; admits = (refl, h) }

pub refuses-speaks : {D X : Type 0} (passes : D → Entry → D → Type 0) (d : D) (e : EngineStanding) (r : Result StepSeen X)
    → IfOk r (λ step. step ≡ fails (channel_of_state e.state) PoorlyFormed)
    → IfOk r (λ step. LedBy passes d d (λ asked. EngineSpeaks e Act.Refuses asked step e))
refuses-speaks passes d e (Ok step) h = record { asked = []; leads = refl; admits = ((refl, h), refl) }
refuses-speaks passes d e (Err x) h = tt

pub refuses-falters : {D X : Type 0} (passes : D → Entry → D → Type 0) (d : D) (e : EngineStanding) (r : Result StepSeen X)
    → OnErr r (LedBy passes d d (λ asked. EngineFalters e Act.Refuses asked e))
refuses-falters passes d e (Ok step) = tt
refuses-falters passes d e (Err x) = record { asked = []; leads = refl; admits = (refl, refl) }

pub looks-speaks : {D X : Type 0} (passes : D → Entry → D → Type 0) (d d' : D) (e f : EngineStanding) (r : Result StepSeen X)
    → IfOk r (λ step. LedBy passes d d' (λ asked. Looks e.state asked step f.state)) → f.spent ≡ e.spent
    → IfOk r (λ step. LedBy passes d d' (λ asked. EngineSpeaks e Act.Notices asked step f))
looks-speaks passes d d' e f (Ok step) h k = record { asked = h.asked; leads = h.leads; admits = (h.admits, k) }
looks-speaks passes d d' e f (Err x) h k = tt

pub looks-falters : {D X : Type 0} (passes : D → Entry → D → Type 0) (d d' : D) (e f : EngineStanding) (r : Result StepSeen X)
    → OnErr r (f ≡ e) → OnErr r (d' ≡ d) → OnErr r (LedBy passes d d' (λ asked. EngineFalters e Act.Notices asked f))
looks-falters passes d d' e f (Ok step) h k = tt
looks-falters passes d d' e f (Err x) h k = record { asked = []; leads = k; admits = (refl, h) }

-- ---- a look

pub looks-none : {D : Type 0} (passes : D → Entry → D → Type 0) (d : D) (s : State) (step : StepSeen) → second_session_of s ≡ None → step ≡ goes []
    → LedBy passes d d (λ asked. Looks s asked step s)
looks-none passes d s step e h =
    record { asked = []; leads = refl; admits = subst (λ (o : Option Sid). LooksFor o s [] step s) (sym e) ((refl, h), refl) }

pub looks-some : {D : Type 0} (passes : D → Entry → D → Type 0) (d d' : D) (s t : State) (sid : Sid) (view : View) (step : StepSeen)
    → second_session_of s ≡ Some sid → passes d (Polled sid view) d'
    → step ≡ told_step (notice_from s view) → t ≡ noticed_from s view → LedBy passes d d' (λ asked. Looks s asked step t)
looks-some passes d d' s t sid view step e p h k =
    record {
      asked = Polled sid view ∷ [];
      leads = (d', p, refl);
      admits = subst (λ (o : Option Sid). LooksFor o s (Polled sid view ∷ []) step t) (sym e)
          (refl, h, k);
    }

-- any channel but a session's second one has nothing to tell
pub tells-none : {D : Type 0} (passes : D → Entry → D → Type 0) (own : Channel) (a : Point EngineStanding D) → second_session_of a.engine.state ≡ None
    → Processes (voice engine_protocol passes own) Act.Notices a a (Ok Goes)
tells-none passes own a e =
    let looks = looks-none passes a.desk a.engine.state (goes []) e refl in
    processes-ok (voice engine_protocol passes own) a a a Act.Notices (goes []) Goes (record { asked = looks.asked; leads = looks.leads; admits = (looks.admits, refl) })
    refl refl
    (record { engine = refl; notes = refl; main = appends-nothing a.main; side = appends-nothing a.side }) refl

pub second-none : (s : State) → channel_of_state s ≡ Synchronous → None ≡ second_session_of s
second-none (Unopened c) e = refl
second-none (Synchronized s) e = refl
second-none (Attached s) e = absurd (cc (e))

pub second-some : (s : State) → channel_of_state s ≡ Asynchronous → session_of s ≡ second_session_of s
second-some (Unopened c) e = refl
second-some (Synchronized s) e = absurd (cc (e))
second-some (Attached s) e = refl

-- a run by a fresh engine, and the session is left
pub served : {D : Type 0} (passes : D → Entry → D → Type 0) (own : Channel) (turns : ℕ) (fresh engine : EngineStanding) (sid : Option Sid)
    (before after : Station D) (desk : D) (result : Result (Unit {0}) ServeFault) → fresh ≡ fresh_engine own
    → RunsChannel (voice engine_protocol passes own) turns (manned fresh before) (with_desk desk (manned engine after)) result
    → sid ≡ session_of engine.state → LeavesSession passes sid desk after.desk → ServesChannel passes own turns before after result
served passes own turns fresh engine sid before after desk result is runs same leaves = record {
  engine = engine;
  serves = record {
    desk = desk;
    runs = subst (λ (e : EngineStanding). RunsChannel (voice engine_protocol passes own) turns (manned e before) (with_desk desk (manned engine after)) result)
        is runs;
    leaves = subst (λ (o : Option Sid). LeavesSession passes o desk after.desk) same leaves;
  };
}
