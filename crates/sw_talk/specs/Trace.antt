-- What passes between a session and its desk.
use Rattle.std.specs.Prelude.{◌≡◌, ◌≤◌, ℕ, Bool, List, [], ◌∷◌, ◌++◌, Option, Some, None}
use Rattle.sw_core.specs.declared.ask.Sid.{Sid}
use Rattle.sw_core.specs.declared.ask.SessionAsk.{SessionAsk}
use Rattle.sw_core.specs.declared.ask.SessionAnswer.{SessionAnswer}
use Rattle.sw_core.specs.declared.ask.SessionAnswer.TheVariants.{Hold, Worn}
use Rattle.sw_talk.specs.declared.desk.View.{View}
use Rattle.sw_talk.specs.declared.desk.Wake.{Wake}
use Rattle.sw_talk.specs.declared.desk.Wake.TheVariants.{Again, Over}

-- One call of a desk: what it was asked and answered; for how many milliseconds at most a wait was to last, and how it
-- ended; the session that was looked at, and what was seen; or the session for which it was noted whether a message is
-- available.
pub data Entry : Type 0 where
  Asked : SessionAsk → SessionAnswer → Entry
  Waited : Option ℕ → Wake → Entry
  Polled : Sid → View → Entry
  Noted : Sid → Bool → Entry

-- the desk goes from old to new by these entries, each as passes allows
abbrev pub Leads : {D : Type 0} → (D → Entry → D → Type 0) → D → List Entry → D → Type 0
Leads passes old [] new = new ≡ old
Leads passes old (e ∷ trace) new = (mid : _) × passes old e mid × Leads passes mid trace new

-- the desk gives back as it came an ask that it holds, or that can't be numbered
abbrev pub HandsBackAsk : SessionAsk → SessionAnswer → Type 0
HandsBackAsk ask (Hold back) = back ≡ ask
HandsBackAsk ask (Worn back) = back ≡ ask
HandsBackAsk ask answer = Unit {0}

-- what is left of a wait's limit is never more than the limit, and none where there was none
abbrev pub LeavesOf : Option ℕ → Wake → Type 0
LeavesOf limit Over = Unit {0}
LeavesOf None (Again None) = Unit {0}
LeavesOf (Some limit) (Again (Some left)) = left ≤ limit
LeavesOf limit wake = ⊥

-- The desk goes from old to new by a trace that P admits: P takes a trace, and what is left of it after this part.
pub record Led {D : Type 0} (passes : D → Entry → D → Type 0) (old new : D) (P : List Entry → List Entry
    → Type 0) : Type 0 where
  pub trace : List Entry
  pub leads : Leads passes old trace new
  pub admits : (rest : List Entry) → P (trace ++ rest) rest
