-- Cards that are offered to slots, and the mainframe that was offered them.
use Rattle.std.specs.Prelude.{◌≡◌, ℕ, Bool, List, [], ◌∷◌, ◌++◌, Option, None, Some, All, Contains}
use Rattle.sw_base.specs.declared.reading.Reading.{Reading}
use Rattle.sw_base.specs.Layout.{slot_at}
use Rattle.sw_card.specs.Account.{Account, relay_account, of_meter}
use Rattle.sw_cage.specs.Accounts.{Accounts}
use Rattle.sw_cage.specs.Install.{RefusesInstall}
use Rattle.sw_cage.specs.declared.refusal.InstallRefusal.{InstallRefusal}
use Rattle.sw_core.specs.declared.ask.Sid.{Sid}
use Rattle.sw_core.specs.declared.ask.SessionAsk.TheVariants as Ask
use Rattle.sw_core.specs.declared.ask.SessionAnswer.TheVariants.{Joined}
use Rattle.sw_core.specs.Panel.{Panel, opening}
use Rattle.sw_core.specs.Seen.{AskSession, AskInstall, SaysSession, SaysInstalled, failed_in, IsOwnAccount}
use Rattle.sw_core.specs.Step.{Step}
use Rattle.sw_talk.specs.CoreDesk.{DeskSeen, desk_over}
use Rattle.sw_serve.specs.declared.slot_card.OwnCard.{OwnCard}
use Rattle.sw_serve.specs.declared.slot_card.OwnCard.TheVariants.{Relays, Measures}
use Rattle.sw_serve.specs.declared.slot_card.SlotCard.{SlotCard}

-- a card by its own account, and the slot that it is offered to
pub record PlacedCard : Type 0 where
  pub slot : ℕ
  pub card : Account

abbrev pub placed : ℕ → Account → PlacedCard
placed slot card = record { slot = slot; card = card }

-- the account that a relay card, or a meter, gives of itself
abbrev pub relay_seen : {R : Type 0} → (R → ℕ) → (R → ℕ) → (R → List ℕ) → (R → List Bool) → R → Account
relay_seen serial failures groups closed r = relay_account (serial r) (failures r) (groups r) (closed r)

abbrev pub meter_seen : {M : Type 0} → (M → ℕ) → (M → ℕ) → (M → Option Reading) → M → Account
meter_seen serial failures last m = of_meter (record { serial = serial m; failures = failures m; last = last m })

abbrev pub own_seen : {R M : Type 0} → (R → Account) → (M → Account) → OwnCard R M → Account
own_seen relays meters (Relays r) = relays r
own_seen relays meters (Measures m) = meters m

-- what is offered, in this order
abbrev pub cards_seen : {R M : Type 0} → (R → Account) → (M → Account) → List (SlotCard R M) → List PlacedCard
cards_seen relays meters [] = []
cards_seen relays meters (o ∷ more) =
    placed o.slot (own_seen relays meters o.card) ∷ cards_seen relays meters more

-- the mainframe is offered a card, and takes it
pub record Takes (p : Panel) (o : PlacedCard) (q : Panel) : Type 0 where
  pub failed : Bool
  pub own : IsOwnAccount (AskInstall o.slot o.card)
  pub counted : failed ≡ failed_in (AskInstall o.slot o.card) SaysInstalled p.cage.cards q.cage.cards
  pub step : Step p (AskInstall o.slot o.card) failed SaysInstalled q

-- the mainframe is offered these cards one after another, each once, and takes each
abbrev pub TakesCards : Panel → List PlacedCard → Panel → Type 0
TakesCards p [] q = q ≡ p
TakesCards p (o ∷ more) q = (mid : Panel) × Takes p o mid × TakesCards mid more q

-- each of these cards is in the slot that it was offered to, and no other slot has a card
pub record Holds (rack : Accounts) (cards : List PlacedCard) : Type 0 where
  pub each : All (λ o. slot_at rack o.slot ≡ Some o.card) cards
  pub only : (slot : ℕ) (card : Account) → slot_at rack slot ≡ Some card → Contains cards (placed slot card)

-- The mainframe takes the cards before one in the list, and refuses that one, for this cause. The cards behind it are
-- not offered.
pub record RefusesCard (p : Panel) (cards : List PlacedCard) (slot : ℕ) (why : InstallRefusal) : Type 0 where
  pub before : List PlacedCard
  pub card : Account
  pub behind : List PlacedCard
  pub listed : cards ≡ before ++ placed slot card ∷ behind
  pub last : Panel
  pub takes : TakesCards p before last
  pub refuses : RefusesInstall last.cage slot card why

-- the mainframe once it took these cards into the empty cage
pub record IsFitted (cards : List PlacedCard) (panel : Panel) : Type 0 where
  pub takes : TakesCards opening cards panel
  pub holds : Holds panel.cage.cards cards

-- a session joins the opening mainframe
pub record Joins (sid : Sid) (q : Panel) : Type 0 where
  pub failed : Bool
  pub step : Step opening (AskSession Ask.Join) failed (SaysSession (Joined sid) None) q

-- the mainframe once a session joined and it took these cards into the empty cage
pub record IsSetUp (cards : List PlacedCard) (sid : Sid) (panel : Panel) : Type 0 where
  pub begun : Panel
  pub joined : Joins sid begun
  pub fitted : TakesCards begun cards panel
  pub holds : Holds panel.cage.cards cards

-- a desk over such a mainframe, with nothing outstanding
pub record IsDeskForOne (cards : List PlacedCard) (sid : Sid) (desk : DeskSeen) : Type 0 where
  pub panel : Panel
  pub set_up : IsSetUp cards sid panel
  pub over : desk ≡ desk_over panel
