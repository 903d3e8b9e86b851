-- A card of either kind: the card itself, and its account.
use Rattle.std.specs.Prelude.{Bool, true, None, ◌⊎◌}
use Rattle.std.proofs.Common.{inl, inr}
use Rattle.sw_card.specs.Account.{Account, of_meter}
use Rattle.sw_card.specs.declared.card.Kind.{Kind}
use Rattle.sw_card.specs.declared.card.Kind.TheVariants.{Relays, Meters}

abbrev pub seen : {R M : _} → Kind R M → (R ⊎ M) × Account
seen (Relays r) = (inl r.0, record r.1 { last = None })
seen (Meters m) = (inr m.0, of_meter m.1)

-- whether a card says that its relays are as its account says: a relay card by its own answer, and a meter, which has
-- none
abbrev pub surety : {R M : Type 0} → (R → Bool) → R ⊎ M → Bool
surety sure (inl r) = sure r
surety sure (inr m) = true
