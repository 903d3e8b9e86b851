-- The verifier's look at one position, channel by channel.
use Rattle.std.proofs.Common.{◌≡◌, ℕ, ◌+◌, ◌<◌, ◌≤◌, true, false, [], ◌∷◌, drop, length, get_or, refl, sym, ap, ◌∙◌, subst, inl, inr}
use Rattle.std.proofs.lemmas.List.{drop_more, drop_all}
use Rattle.sw_base.specs.Layout.{Channel, Layout}
use Rattle.sw_channel.specs.Positions.{Position}
use Rattle.sw_verify.specs.declared.ledger.Ledger.{Ledger}
use Rattle.sw_verify.specs.declared.refusal.Refusal.{Refusal}
use Rattle.sw_verify.specs.Channels.{Channels, none, with_channel, without, with_each, without_each}
use Rattle.sw_verify.specs.Sound.{CanCloseOne, CanCloseEach, CanOpenEach}
use Rattle.sw_verify.specs.Stops.{IsBarred, IsBarredAt, IsNotMineAt}
use Rattle.sw_verify.specs.Ledger.{Shows}
use Rattle.sw_verify.proofs.Round.{undone, each_open, each_opens, each_among}
use Rattle.sw_verify.proofs.Looking.{not_mine_not}

-- what is left of a position tells of all of it
pub record Closing (layout : Layout) (start b m : Channels) (p rest : Position) (l : Ledger) : Type 0 where
  pub now : Channels
  pub own : Channels
  pub shows : Shows layout start now own l
  pub can : CanCloseEach layout now rest → CanCloseEach layout b p
  pub bars : (r : Refusal) → IsBarredAt layout now rest r → IsBarredAt layout b p r
  pub closed : with_each rest now ≡ with_each p b
  pub mine : with_each rest own ≡ with_each p m

pub record Opening (layout : Layout) (start b m : Channels) (p rest : Position) (l : Ledger) : Type 0 where
  pub now : Channels
  pub own : Channels
  pub shows : Shows layout start now own l
  pub can : CanOpenEach own rest → CanOpenEach m p
  pub bars : IsNotMineAt own rest → IsNotMineAt m p
  pub closed : without_each rest now ≡ without_each p b
  pub mine : without_each rest own ≡ without_each p m

pub closing_first : (layout : Layout) (start b m : Channels) (p : Position) (l : Ledger) → Shows layout start b m l → Closing layout start b m p p l
closing_first layout start b m p l s = record { now = b; own = m; shows = s; can = λ k. k; bars = λ r k. k; closed = refl; mine = refl }

pub opening_first : (layout : Layout) (start b m : Channels) (p : Position) (l : Ledger) → Shows layout start b m l → Opening layout start b m p p l
opening_first layout start b m p l s = record { now = b; own = m; shows = s; can = λ k. k; bars = λ k. k; closed = refl; mine = refl }

pub next_left : (p : Position) (i : ℕ) (c : Channel) → i < length p → c ≡ get_or p i c → drop i p ≡ c ∷ drop (i + 1) p
next_left p i c h e = drop_more p i c h ∙ ap (λ (x : Channel). x ∷ drop (i + 1) p) (sym e)

pub none_left : (p : Position) (i : ℕ) → length p ≤ i → drop i p ≡ []
none_left p i h = drop_all i p h

module _ (layout : Layout) (start b m : Channels) (p : Position) (c : Channel) (rest : Position) (l : Ledger) where
  pub closing_next : (after : Ledger) → ((start b m : Channels) → Shows layout start b m l
      → CanCloseOne layout b c × Shows layout start (with_channel c b) (with_channel c m) after)
      → Closing layout start b m p (c ∷ rest) l → Closing layout start b m p rest after
  closing_next after f g =
      let w = f start g.now g.own g.shows in record {
        now = with_channel c g.now;
        own = with_channel c g.own;
        shows = w.1;
        can = λ k. g.can (w.0, k);
        bars = λ r k. g.bars r (inr (w.0, k));
        closed = g.closed;
        mine = g.mine;
      }

  pub closing_barred : (r : Refusal) → ((start b m : Channels) → Shows layout start b m l → IsBarred layout b c r)
      → Closing layout start b m p (c ∷ rest) l → IsBarredAt layout b p r
  closing_barred r f g = g.bars r (inl (f start g.now g.own g.shows))

  pub opening_next : (after : Ledger) → ((start b m : Channels) → Shows layout start b m l
      → (m c ≡ true) × Shows layout start (without c b) (without c m) after)
      → Opening layout start b m p (c ∷ rest) l → Opening layout start b m p rest after
  opening_next after f g =
      let w = f start g.now g.own g.shows in record {
        now = without c g.now;
        own = without c g.own;
        shows = w.1;
        can = λ k. g.can (w.0, k);
        bars = λ k. g.bars (inr (w.0, k));
        closed = g.closed;
        mine = g.mine;
      }

  pub opening_barred : ((start b m : Channels) → Shows layout start b m l → m c ≡ false)
      → Opening layout start b m p (c ∷ rest) l → IsNotMineAt m p
  opening_barred f g = g.bars (inl (f start g.now g.own g.shows))

pub closing_over : (layout : Layout) (start b m : Channels) (p : Position) (l : Ledger) → Closing layout start b m p [] l
    → CanCloseEach layout b p × Shows layout start (with_each p b) (with_each p m) l
closing_over layout start b m p l g = (
  g.can tt,
  subst (λ (x : Channels). Shows layout start x (with_each p m) l) g.closed (subst (λ (x : Channels). Shows layout start g.now x l) g.mine g.shows),
)

pub opening_over : (layout : Layout) (start b m : Channels) (p : Position) (l : Ledger) → Opening layout start b m p [] l
    → CanOpenEach m p × Shows layout start (without_each p b) (without_each p m) l
opening_over layout start b m p l g = (
  g.can tt,
  subst (λ (x : Channels). Shows layout start x (without_each p m) l) g.closed (subst (λ (x : Channels). Shows layout start g.now x l) g.mine g.shows),
)

-- a position that is closed and opened again leaves the ledger as it was
pub shows_again : (layout : Layout) (b : Channels) (p : Position) (mid after : Ledger) → CanCloseEach layout b p
    → ((start b m : Channels) → Shows layout start b m mid → CanOpenEach m p × Shows layout start (without_each p b) (without_each p m) after)
    → Shows layout b (with_each p b) (with_each p none) mid → Shows layout b b none after
shows_again layout b p mid after k f s =
    let w = f b (with_each p b) (with_each p none) s in
    subst (λ (x : Channels). Shows layout b x none after) (undone p b (each_open layout b p k))
    (subst (λ (x : Channels). Shows layout b (without_each p (with_each p b)) x after) (undone p none (λ x e. refl)) w.1)

pub opens_again : (layout : Layout) (b : Channels) (p : Position) → CanCloseEach layout b p → IsNotMineAt (with_each p none) p → ⊥
opens_again layout b p k h = not_mine_not (with_each p none) p (each_opens layout b (with_each p none) p k (each_among p none)) h
