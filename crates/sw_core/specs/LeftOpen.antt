-- What the state leaves open of an answer: what cards say of their relays, and the check of a listing.
use Rattle.std.specs.Prelude.{ℕ, Bool, true, List, Some}
use Rattle.sw_lex.specs.Apart.{same_word}
use Rattle.sw_core.specs.declared.ask.SessionAsk.{SessionAsk}
use Rattle.sw_core.specs.declared.ask.SessionAsk.TheVariants as Ask
use Rattle.sw_core.specs.declared.ask.SessionAnswer.{SessionAnswer}
use Rattle.sw_core.specs.declared.ask.SessionAnswer.TheVariants.{Done}
use Rattle.sw_core.specs.Action.{Effect, TellsSurety, TellsListing, Action, AtOnce, BetweenScans, AfterScan, action_of}
use Rattle.sw_core.specs.Panel.{Panel}
use Rattle.sw_core.specs.Seen.{AskSeen, AskSession, AnswerSeen, SaysSession}

pub data LeftOpen : Type 0 where
  -- nothing: the state determines the answer
  Determined : LeftOpen
  -- whether the answer is that of cards that are sure of their relays
  OfCards : (sure : Bool) → LeftOpen
  -- the text for a listing; no contract promises its plain words
  OfListing : (text : List ℕ) → LeftOpen

abbrev pub effect_of : Action → Effect
effect_of (AtOnce effect) = effect
effect_of (BetweenScans effect) = effect
effect_of (AfterScan effect) = effect

-- of the answer of an effect
abbrev pub left_open : Effect → Panel → SessionAnswer → LeftOpen
left_open (TellsSurety text) p (Done (Some told)) = OfCards (same_word told (text p true))
left_open (TellsListing listing) p (Done (Some told)) = OfListing told
left_open effect p answer = Determined

-- of the answer to a session's ask
abbrev pub answer_leaves : Panel → SessionAsk → SessionAnswer → LeftOpen
answer_leaves p (Ask.Unit sid command available) answer = left_open (effect_of (action_of available command)) p answer
answer_leaves p ask answer = Determined

-- of the answer to any ask
abbrev pub leaves_open : Panel → AskSeen → AnswerSeen → LeftOpen
leaves_open p (AskSession ask) (SaysSession answer work) = answer_leaves p ask answer
leaves_open p ask answer = Determined
