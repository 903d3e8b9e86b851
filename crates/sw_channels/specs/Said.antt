-- What is said to one message.
use Rattle.std.specs.Prelude.{ℕ, Bool, true, false, List, [], Option, map, option_map}
use Rattle.std.specs.List.{find}
use Rattle.sw_hislip.specs.declared.kind.Kind.{Kind}
use Rattle.sw_hislip.specs.declared.kind.Kind.TheVariants as Kinds
use Rattle.sw_hislip.specs.declared.message.Message.{Message}
use Rattle.sw_channels.specs.declared.step.Channel.TheVariants.{Synchronous}
use Rattle.sw_channels.specs.declared.step.Rest.{Rest}
use Rattle.sw_channels.specs.declared.step.Rest.TheVariants.{Nothing, End, Answer}
use Rattle.sw_channels.specs.declared.step.Sent.{Sent}

-- the messages that are said, in order, and whether the channel ends then
pub record StepSeen : Type 0 where
  pub out : List Sent
  pub ends : Bool

-- the parts of an answer that follow the messages, and whether the channel ends
abbrev pub left_of : Rest → List Message
left_of Nothing = []
left_of End = []
left_of (Answer parts) = parts

abbrev pub is_end : Rest → Bool
is_end Nothing = false
is_end End = true
is_end (Answer parts) = false

-- parts of an answer go out on the synchronous channel
abbrev pub answering : List Message → List Sent
answering parts = map (λ (m : Message). record { channel = Synchronous; message = m }) parts

abbrev pub is_fatal : Kind → Bool
is_fatal Kinds.FatalError = true
is_fatal kind = false

-- the code of the first fatal error among these messages (IVI-6.1 HiSLIP, FatalError: the control code)
abbrev pub fatal_code : List Sent → Option ℕ
fatal_code out = option_map (λ (s : Sent). s.message.control) (find (λ (s : Sent). is_fatal s.message.kind) out)
