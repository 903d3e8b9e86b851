-- When a source is asked for bytes, and what is written by then.
use Rattle.std.specs.Prelude.{◌≡◌, ◌≢◌, ℕ, zero, suc, ◌+◌, false, List, [], ◌∷◌, ◌++◌, Option, IfSome, ◌⊎◌}
use Rattle.std.specs.Io.KnownBytes.{Appends, Keeps}
use Rattle.std.specs.Io.BufRead.{take_through, DropsThrough}
use Rattle.sw_core.specs.declared.ask.Sid.{Sid}
use Rattle.sw_talk.specs.CoreDesk.{DeskSeen, WaitsOut}
use Rattle.sw_session.specs.ServeWrite.{WritesPart}
use Rattle.mainframe.specs.declared.fault.RunFault.{RunFault}
use Rattle.mainframe.specs.declared.fault.RunFault.TheVariants.{Input, Output, Memory, Listen, Descriptors}
use Rattle.mainframe.specs.Run.{RunState, Line}

-- a read failed, or there was no memory for what was read
abbrev pub IsOfReading : RunFault → Type 0
IsOfReading Input = Unit {0}
IsOfReading Memory = Unit {0}
IsOfReading Output = ⊥
IsOfReading Listen = ⊥
IsOfReading Descriptors = ⊥

-- how many bytes of answers are kept at most before they are written
abbrev pub most_unwritten : ℕ
most_unwritten = 65536

-- of these answers a front part is written, and the rest kept
abbrev pub Gathers : Option (List ℕ) → List ℕ → Option (List ℕ) → List ℕ → Type 0
Gathers old bytes new unwritten = (front : List ℕ) × (bytes ≡ front ++ unwritten) × Appends old new front

-- the source is asked for bytes this many times, each time while the writer is this one
abbrev pub AsksWith : {S W : Type 0} → (S → W → S → Type 0) → S → W → ℕ → S → Type 0
AsksWith asked old w zero new = new ≡ old
AsksWith asked old w (suc n) new = (mid : _) × asked old w mid × AsksWith asked mid w n new

-- each time spends a turn
abbrev pub Spends : {S W : Type 0} → (S → W → S → Type 0) → S → W → ℕ → ℕ → S → Type 0
Spends asked old w turns left new = (n : ℕ) × (turns ≡ left + n) × AsksWith asked old w n new

-- the source is not asked for bytes, and moves this many times
abbrev pub MovesUnasked : {S : Type 0} → (S → S → Type 0) → S → ℕ → S → Type 0
MovesUnasked unasked old zero new = new ≡ old
MovesUnasked unasked old (suc n) new = (mid : _) × unasked old mid × MovesUnasked unasked mid n new

abbrev pub IsUnasked : {S : Type 0} → (S → S → Type 0) → S → S → Type 0
IsUnasked unasked old new = (n : ℕ) × MovesUnasked unasked old n new

-- why a read gives nothing: no turn is left, or a read failed
abbrev pub FailsAfter : {S : Type 0} → (S → S → Type 0) → ℕ → S → Type 0
FailsAfter failed left new = (left ≡ 0) ⊎ ((old : _) × failed old new)

-- what is known of what a run reads from and writes to: which bytes are left to be read; how the source moves where it
-- is asked for bytes, while the writer is so, and where it is not; and what the writer has
pub record Streams (S W : Type 0) : Type 1 where
  pub remaining : S → Option (List ℕ)
  pub asked : S → W → S → Type 0
  pub unasked : S → S → Type 0
  pub contents : W → Option (List ℕ)

abbrev pub streams : {S W : Type 0} → (S → Option (List ℕ)) → (S → W → S → Type 0) → (S → S → Type 0)
    → (W → Option (List ℕ)) → Streams S W
streams remaining asked unasked contents =
    record { remaining = remaining; asked = asked; unasked = unasked; contents = contents }

-- the state of a run: its desk and macros, its source and its writer, what was answered and not written yet, and how
-- often the source may still be asked
pub record Stand (S W : Type 0) : Type 0 where
  pub state : RunState
  pub source : S
  pub writer : W
  pub unwritten : List ℕ
  pub turns : ℕ

abbrev pub stand : {S W : Type 0} → RunState → S → W → List ℕ → ℕ → Stand S W
stand state source writer unwritten turns =
    record { state = state; source = source; writer = writer; unwritten = unwritten; turns = turns }

-- The source comes from one state to another. Either it is asked for nothing; or all answers so far are written before,
-- and the writer has them each time that it is asked for bytes.
pub record AsksNothing {S W : Type 0} (known : Streams S W) (a b : Stand S W) : Type 0 where
  pub moves : IsUnasked known.unasked a.source b.source
  pub writer : b.writer ≡ a.writer
  pub unwritten : b.unwritten ≡ a.unwritten
  pub turns : b.turns ≡ a.turns

pub record AsksWritten {S W : Type 0} (known : Streams S W) (a b : Stand S W) : Type 0 where
  pub before : S
  pub moves : IsUnasked known.unasked a.source before
  pub writes : Appends (known.contents a.writer) (known.contents b.writer) a.unwritten
  pub unwritten : b.unwritten ≡ []
  pub asks : Spends known.asked before b.writer a.turns b.turns b.source

abbrev pub ReadsOn : {S W : Type 0} → Streams S W → Stand S W → Stand S W → Type 0
ReadsOn known a b = AsksNothing known a b ⊎ AsksWritten known a b

-- One line is read, then executed, and then its answer is written or kept behind the answers that are not written.
pub record TakesTurn {S W : Type 0} (known : Streams S W) (sid : Sid)
    (a : Stand S W) (line : List ℕ) (b : Stand S W) : Type 0 where
  pub read : Stand S W
  pub told : List ℕ
  pub reads : ReadsOn known a read
  pub some : line ≢ []
  pub takes : IfSome (known.remaining a.source) (λ xs. line ≡ take_through 10 xs)
  pub rest : DropsThrough (known.remaining a.source) (known.remaining read.source) 10
  pub answered : Line sid a.state line told b.state
  pub writes : Gathers (known.contents read.writer) (read.unwritten ++ told) (known.contents b.writer) b.unwritten
  pub source : b.source ≡ read.source
  pub turns : b.turns ≡ read.turns

-- these lines, one after another
abbrev pub TakesTurns : {S W : Type 0} → Streams S W → Sid → Stand S W → List (List ℕ) → Stand S W → Type 0
TakesTurns known sid a [] b = b ≡ a
TakesTurns known sid a (line ∷ more) b =
    (mid : _) × TakesTurn known sid a line mid × TakesTurns known sid mid more b

-- All that a run asks of its source, until this many turns are left: whole lines in turn, and then what is asked while
-- all answers to these are written, and no more than they.
pub record AsksInTurn {S W : Type 0} (known : Streams S W) (sid : Sid)
    (a : Stand S W) (left : ℕ) (source : S) : Type 0 where
  pub lines : List (List ℕ)
  pub last : Stand S W
  pub turns : TakesTurns known sid a lines last
  pub read : Stand S W
  pub reads : ReadsOn known last read
  pub comes : source ≡ read.source
  pub spent : left ≡ read.turns

-- the desk waited in vain for what was outstanding after a line, as often as it waits at most
abbrev pub IsInVain : DeskSeen → Type 0
IsInVain desk = (spoken : DeskSeen) × WaitsOut spoken false desk

-- The lines at hand are answered.
pub record AnswersAtHand {S W : Type 0} (known : Streams S W) (sid : Sid) (a b : Stand S W) : Type 0 where
  pub lines : List (List ℕ)
  pub last : Stand S W
  pub turns : TakesTurns known sid a lines last
  pub moves : IsUnasked known.unasked last.source b.source
  pub keeps : Keeps (known.remaining last.source) (known.remaining b.source)
  pub same : b ≡ record last { source = b.source }

-- The same up to a fault: all answers are written but for the fault of a write, and nothing behind these lines is
-- taken.
abbrev pub StopsWith : {W : Type 0} → (W → Option (List ℕ)) → RunFault → W → List ℕ → W → DeskSeen → Type 0
StopsWith contents Input old bytes new desk = Appends (contents old) (contents new) bytes × IsInVain desk
StopsWith contents Output old bytes new desk = WritesPart (contents old) (contents new) bytes
StopsWith contents Memory old bytes new desk = ⊥
StopsWith contents Listen old bytes new desk = ⊥
StopsWith contents Descriptors old bytes new desk = ⊥

pub record StopsAtHand {S W : Type 0} (known : Streams S W) (sid : Sid)
    (a : Stand S W) (fault : RunFault) (source : S) (writer : W) (desk : DeskSeen) : Type 0 where
  pub lines : List (List ℕ)
  pub last : Stand S W
  pub turns : TakesTurns known sid a lines last
  pub same : last.turns ≡ a.turns
  pub moves : IsUnasked known.unasked last.source source
  pub keeps : Keeps (known.remaining last.source) (known.remaining source)
  pub stops : StopsWith known.contents fault last.writer last.unwritten writer desk
