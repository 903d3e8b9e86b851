-- Answers of program messages.
use Rattle.std.proofs.Common.{◌≡◌, ℕ, ◌<◌, List, [], ◌∷◌, length, arith, map, refl, sym, subst}
use Rattle.sw_hislip.specs.declared.message.Message.{Message}
use Rattle.sw_core.specs.declared.ask.SessionAnswer.{SessionAnswer}
use Rattle.sw_core.specs.declared.ask.SessionAnswer.TheVariants.{Joined, Full, Missed, Max, Lock, Info, Stranger, Broken, Done, Refused, Hold, Worn, Snapshot}
use Rattle.sw_channels.specs.declared.step.Channel.TheVariants.{Synchronous}
use Rattle.sw_channels.specs.declared.step.Sent.{Sent}
use Rattle.sw_channels.specs.Said.{StepSeen}
use Rattle.sw_channels.specs.EngineStep.{on, goes, over, joined}
use Rattle.sw_channels.specs.EngineMessages.{room_of, IsCut}
use Rattle.sw_channels.specs.InParts.{parts_of}
use Rattle.sw_channels.specs.EngineSync.{Answers, CutsTo, SaysMore}
use Rattle.sw_channels.proofs.CutsLemmas.{parts-are-cut}

-- the size was told: the answer goes out, cut to it
pub responds-max : (said : List Sent) (id size : ℕ) (bytes : List ℕ) (answer : SessionAnswer) (step : StepSeen) → answer ≡ Max size
    → ((parts : List Message) × CutsTo size id bytes parts × (step ≡ joined (goes said) (goes (map (on Synchronous) parts))))
    → SaysMore said step (λ own. Answers id bytes answer own)
responds-max said id size bytes answer step is cut =
    let own : StepSeen = goes (map (on Synchronous) cut.0) in
    (own, subst (λ (a : SessionAnswer). Answers id bytes a own) (sym is) (cut.0, cut.1, refl), cut.2)

-- an answer that is not empty, in parts of the client's size
pub cuts-to : (size id room : ℕ) (bytes : List ℕ) → 0 < length bytes → room ≡ room_of size → 0 < room → CutsTo size id bytes (parts_of room id bytes)
cuts-to size id room [] some is fits = absurd (omega (arith, some))
cuts-to size id room (b ∷ bytes) some is fits =
    let all : List ℕ = b ∷ bytes in
    subst (λ (r : ℕ). IsCut r id all (parts_of room id all)) is (parts-are-cut room id all fits)

-- any other answer than a size ends the channel
answers-over : (id : ℕ) (bytes : List ℕ) (answer : SessionAnswer) → ((size : ℕ) → answer ≡ Max size → ⊥) → Answers id bytes answer over
answers-over id bytes (Max size) other = absurd (other size refl)
answers-over id bytes (Joined sid) other = refl
answers-over id bytes Full other = refl
answers-over id bytes Missed other = refl
answers-over id bytes (Lock code) other = refl
answers-over id bytes (Info exclusive holders) other = refl
answers-over id bytes Stranger other = refl
answers-over id bytes Broken other = refl
answers-over id bytes (Done text) other = refl
answers-over id bytes (Refused e) other = refl
answers-over id bytes (Hold back) other = refl
answers-over id bytes (Worn back) other = refl
answers-over id bytes (Snapshot s number) other = refl

pub responds-over : (said : List Sent) (id : ℕ) (bytes : List ℕ) (answer : SessionAnswer) (step : StepSeen) → ((size : ℕ) → answer ≡ Max size → ⊥)
    → step ≡ joined (goes said) over → SaysMore said step (λ own. Answers id bytes answer own)
responds-over said id bytes answer step other told = (over, answers-over id bytes answer other, told)
