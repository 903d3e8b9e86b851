-- What is said to one message, and what both channels have in common.
use Rattle.std.specs.Prelude.{◌≡◌, Bool, true, false, List, [], ◌∷◌, ◌++◌, if◌then◌else◌}
use Rattle.sw_hislip.specs.declared.message.Message.{Message}
use Rattle.sw_core.specs.declared.ask.SessionAsk.{SessionAsk}
use Rattle.sw_core.specs.declared.ask.SessionAnswer.{SessionAnswer}
use Rattle.sw_core.specs.declared.ask.SessionAnswer.TheVariants.{Stranger, Worn}
use Rattle.sw_channels.specs.declared.refusals.FatalCode.{FatalCode}
use Rattle.sw_channels.specs.declared.step.Channel.{Channel}
use Rattle.sw_channels.specs.declared.step.Reply.{Reply}
use Rattle.sw_channels.specs.declared.step.Reply.TheVariants.{Says, Silence, Fails, Leaves}
use Rattle.sw_channels.specs.declared.step.Sent.{Sent}
use Rattle.sw_channels.specs.Said.{StepSeen}
use Rattle.sw_channels.specs.EngineMessages.{fatal_of}
use Rattle.sw_talk.specs.Talk.{is_done}
use Rattle.sw_talk.specs.Trace.{Entry, Asked, Leads}

abbrev pub on : Channel → Message → Sent
on channel m = record { channel = channel; message = m }

-- these messages are said, and the channel continues
abbrev pub goes : List Sent → StepSeen
goes said = record { out = said; ends = false }

-- the channel ends, and nothing is said
abbrev pub over : StepSeen
over = record { out = []; ends = true }

-- one message is said on this channel, which continues
abbrev pub says : Channel → Message → StepSeen
says channel m = goes (on channel m ∷ [])

-- the channel that met a fault reports it, and ends
abbrev pub fails : Channel → FatalCode → StepSeen
fails channel code = record { out = on channel (fatal_of code) ∷ []; ends = true }

-- what one part of a message's row says, and then another
abbrev pub joined : StepSeen → StepSeen → StepSeen
joined first second = record { out = first.out ++ second.out; ends = second.ends }

-- nothing is asked, and this is said
abbrev pub Unasked : StepSeen → List Entry → StepSeen → Type 0
Unasked it asked step = (asked ≡ []) × (step ≡ it)

-- once what was asked is done, this message is said; any other answer ends the channel
abbrev pub on_done : Channel → Message → SessionAnswer → StepSeen
on_done channel m answer = if is_done answer then says channel m else over

-- this is asked
abbrev pub OnDone : SessionAsk → Channel → Message → List Entry → StepSeen → Type 0
OnDone ask channel m (Asked a answer ∷ []) step = (a ≡ ask) × (step ≡ on_done channel m answer)
OnDone ask channel m asked step = ⊥

-- the session is none any more, or nothing more can be numbered: the channel ends
abbrev pub is_gone : SessionAnswer → Bool
is_gone Stranger = true
is_gone (Worn ask) = true
is_gone answer = false

-- The desk goes from old to new by calls that P admits.
pub record LedBy {D : Type 0} (passes : D → Entry → D → Type 0) (old new : D) (P : List Entry → Type 0) : Type 0 where
  pub asked : List Entry
  pub leads : Leads passes old asked new
  pub admits : P asked

-- the step for a reply on this channel
abbrev pub reply_step : Channel → Reply → StepSeen
reply_step channel (Says m) = says channel m
reply_step channel Silence = goes []
reply_step channel (Fails code) = fails channel code
reply_step channel Leaves = over
