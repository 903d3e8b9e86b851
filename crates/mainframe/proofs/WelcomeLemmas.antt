-- The program's cards can all be taken.
use Rattle.std.proofs.Common.{◌≡◌, ◌≢◌, ◌≤◌, ◌-◌, ◌&&◌, ℕ, Bool, true, false, ltb, get_or, zero, suc, List, [], ◌∷◌, replicate, refl, arith}
use Rattle.std.specs.Prelude.{All}
use Rattle.std.proofs.lemmas.List.Elements.{All-nil, All-cons}
use Rattle.sw_card.specs.Account.{Account, closed_at, relay_account, of_meter}
use Rattle.sw_serve.specs.SlotCards.{PlacedCard, placed}
use Rattle.sw_serve.specs.Fitting.{IsSound, AreApart, AreWelcome}
use Rattle.mainframe.specs.Cards.{first_card, second_card, third_card, meter_card, program_cards}

none_in : (n i : ℕ) → get_or (replicate n false) i false ≡ false
none_in zero i = refl
none_in (suc n) zero = refl
none_in (suc n) (suc i) = none_in n i

both : (b c : Bool) → c ≡ false → (b && c) ≡ false
both true c e = e
both false c e = refl

pub all_open : (n ch : ℕ) → closed_at (replicate n false) ch ≡ false
all_open n ch = both (ltb 0 ch) (get_or (replicate n false) (ch - 1) false) (none_in n (ch - 1))

first_sound : IsSound (placed 1 first_card)
unfolding first_card
first_sound = record {
  first = omega arith;
  last = omega arith;
  fit = λ relays. record { some_channel = omega arith; few_channels = omega arith };
  «open» = all_open 20;
}

second_sound : IsSound (placed 2 second_card)
unfolding second_card
second_sound = record {
  first = omega arith;
  last = omega arith;
  fit = λ relays. record { some_channel = omega arith; few_channels = omega arith };
  «open» = all_open 16;
}

third_sound : IsSound (placed 3 third_card)
unfolding third_card
third_sound = record {
  first = omega arith;
  last = omega arith;
  fit = λ relays. record { some_channel = omega arith; few_channels = omega arith };
  «open» = all_open 10;
}

meter_sound : IsSound (placed 4 (of_meter meter_card))
meter_sound = record {
  first = omega arith;
  last = omega arith;
  fit = λ relays. absurd (cc (relays));
  «open» = all_open 0;
}

program_apart : AreApart program_cards
program_apart =
    let F : PlacedCard = placed 1 first_card in
    let S : PlacedCard = placed 2 second_card in
    let T : PlacedCard = placed 3 third_card in
    let M : PlacedCard = placed 4 (of_meter meter_card) in (
      All-cons (λ (x : PlacedCard). x.slot ≢ 1) S (T ∷ M ∷ []) (omega arith) (All-cons (λ (x : PlacedCard). x.slot ≢ 1) T (M ∷ []) (omega arith)
          (All-cons (λ (x : PlacedCard). x.slot ≢ 1) M [] (omega arith) (All-nil (λ (x : PlacedCard). x.slot ≢ 1)))),
      (
        All-cons (λ (x : PlacedCard). x.slot ≢ 2) T (M ∷ []) (omega arith) (All-cons (λ (x : PlacedCard). x.slot ≢ 2) M [] (omega arith)
            (All-nil (λ (x : PlacedCard). x.slot ≢ 2))),
        (
          All-cons (λ (x : PlacedCard). x.slot ≢ 3) M [] (omega arith) (All-nil (λ (x : PlacedCard). x.slot ≢ 3)),
          (All-nil (λ (x : PlacedCard). x.slot ≢ 4), tt),
        ),
      ),
    )

pub program_welcome : AreWelcome program_cards
program_welcome =
    let second : List PlacedCard = placed 2 second_card ∷ placed 3 third_card ∷ placed 4 (of_meter meter_card) ∷ [] in
    let third : List PlacedCard = placed 3 third_card ∷ placed 4 (of_meter meter_card) ∷ [] in
    let last : List PlacedCard = placed 4 (of_meter meter_card) ∷ [] in
    record {
      apart = program_apart;
      sound = All-cons IsSound (placed 1 first_card) second first_sound (All-cons IsSound (placed 2 second_card) third second_sound
          (All-cons IsSound (placed 3 third_card) last third_sound (All-cons IsSound (placed 4 (of_meter meter_card)) [] meter_sound (All-nil IsSound))));
    }
