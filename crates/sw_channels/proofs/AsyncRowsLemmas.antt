-- Rows of the asynchronous channel.
use Rattle.std.proofs.Common.{◌≡◌, ℕ, max, nat_lt, [], ◌∷◌, ◌++◌, None, refl}
use Rattle.sw_hislip.specs.declared.kind.Kind.TheVariants as Kind
use Rattle.sw_core.specs.declared.ask.Sid.{Sid}
use Rattle.sw_core.specs.declared.ask.SessionAnswer.{SessionAnswer}
use Rattle.sw_core.specs.declared.ask.SessionAnswer.TheVariants.{Joined, Full, Stranger, Broken, Done, Missed, Max, Lock, Info, Snapshot, Refused, Hold, Worn}
use Rattle.sw_talk.specs.declared.desk.View.{View}
use Rattle.sw_channels.specs.Said.{StepSeen}
use Rattle.sw_talk.specs.Trace.{Entry, Polled, Leads}
use Rattle.sw_channels.specs.EngineMessages.{plain, status_byte}
use Rattle.sw_channels.specs.EngineStep.{LedBy, over}
use Rattle.sw_channels.specs.EngineAsync.{AsyncStanding, TellsStatus, AttachesBy, delivered, replies}
use Rattle.sw_talk.proofs.LedLemmas.{leads-append}

-- the status is told
pub status-told : {D : Type 0} (passes : D → Entry → D → Type 0) (old mid new : D) (s s' : AsyncStanding) (control : ℕ) (view : View) (step : StepSeen)
    → Leads passes old (delivered s.sid control) mid → passes mid (Polled s.sid view) new
    → step ≡ replies (plain Kind.AsyncStatusResponse (status_byte view.byte view.mav (nat_lt s.polled view.requests)) 0)
    → s' ≡ record s { polled = max s.polled view.requests }
    → LedBy passes old new (λ asked. TellsStatus s control asked step s')
status-told passes old mid new s s' control view step l p told counted = record {
  asked = delivered s.sid control ++ Polled s.sid view ∷ [];
  leads = leads-append passes old mid new (delivered s.sid control) (Polled s.sid view ∷ []) l (new, p, refl);
  admits = record { view = view; asks = refl; tells = told; counts = counted };
}

-- any other answer than a session, or that there is none, ends the channel
pub attaches-told : (answer : SessionAnswer) → ((sid : Sid) → answer ≡ Joined sid → ⊥) → (answer ≡ Stranger → ⊥) → AttachesBy answer [] over None
attaches-told (Joined sid) joined stranger = absurd (joined sid refl)
attaches-told Stranger joined stranger = absurd (stranger refl)
attaches-told Full joined stranger = ((refl, refl), refl)
attaches-told Missed joined stranger = ((refl, refl), refl)
attaches-told (Max size) joined stranger = ((refl, refl), refl)
attaches-told (Lock code) joined stranger = ((refl, refl), refl)
attaches-told (Info exclusive holders) joined stranger = ((refl, refl), refl)
attaches-told Broken joined stranger = ((refl, refl), refl)
attaches-told (Done text) joined stranger = ((refl, refl), refl)
attaches-told (Refused e) joined stranger = ((refl, refl), refl)
attaches-told (Hold back) joined stranger = ((refl, refl), refl)
attaches-told (Worn back) joined stranger = ((refl, refl), refl)
attaches-told (Snapshot s number) joined stranger = ((refl, refl), refl)
