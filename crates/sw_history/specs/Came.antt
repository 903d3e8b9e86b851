-- Which cards came into a mainframe, and that its meters are among them. A place is counted from 0: slot 1 has place 0.
use Rattle.std.specs.Prelude.{◌≡◌, ℕ, ◌-◌, Option, None, Some, slice_index_or, ◌⊎◌}
use Rattle.std.proofs.Common.{inr}
use Rattle.sw_card.specs.Account.{Account, of_meter}
use Rattle.sw_cage.specs.Cards.{Cards, meters_of}
use Rattle.sw_core.specs.declared.ask.Ask.{Ask}

-- each meter that has a place is one that came into that place
abbrev pub AllCame : {C : Type 0} → (ℕ → C × Account → Type 0) → Cards C → Type 0
AllCame {C} came cards =
    (place : ℕ) → (card : C × Account) → slice_index_or (meters_of cards) place None ≡ Some card → came place card

-- the card that an ask brings, and its place: one that goes in, or a meter that returns
abbrev pub brought : {R M : Type 0} → Ask R M → Option (ℕ × ((R ⊎ M) × Account))
brought (Ask.Install slot card) = Some (slot - 1, card)
brought (Ask.Finished done) = Some (done.1.slot - 1, (inr done.0, of_meter done.1.meter))
brought ask = None

-- it came into its place
abbrev pub HasCome : {C : Type 0} → (ℕ → C × Account → Type 0) → Option (ℕ × (C × Account)) → Type 0
HasCome came None = Unit {0}
HasCome came (Some it) = came it.0 it.1
