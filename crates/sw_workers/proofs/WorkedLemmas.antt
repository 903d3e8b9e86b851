-- What a worker's desk counts and knows, one step further.
use Rattle.std.proofs.Common.{◌≡◌, ◌+◌, ℕ, List, [], ◌∷◌, ◌++◌, Option, None, Some, inl, inr, refl, sym, subst, arith}
use Rattle.std.specs.Prelude.{IfSome}
use Rattle.std.specs.declared.time.Instant.{Instant}
use Rattle.sw_cage.specs.declared.job.Ticket.{Ticket}
use Rattle.sw_core.specs.Panel.{Panel}
use Rattle.sw_core.specs.Seen.{WorkSeen, AskSeen, Pauses}
use Rattle.sw_talk.specs.CoreDesk.{TellsOfPiece, brought}
use Rattle.sw_workers.specs.declared.pauses.Next.TheVariants.{Ends}
use Rattle.sw_workers.specs.declared.pauses.Pause.{Pause}
use Rattle.sw_workers.specs.Pauses.{EndsStanding}
use Rattle.sw_history.specs.Held.{AtDesk}
use Rattle.sw_workers.specs.Work.{MadeAsk, Carries, Adds, Brings, AreTold, Works, IsOverPause, none_own, events_of}
use Rattle.sw_workers.proofs.CarriesLemmas.{made_of, learns-append}

pub works-none : (start : Panel) (own : WorkSeen → Type 0) (d : AtDesk) → Works start own None d d
works-none start own d = record { made = []; told = tt; counts = omega arith; learns = refl }

abbrev OfOwn : (WorkSeen → Type 0) → Option WorkSeen → Type 0
OfOwn own None = ⊥
OfOwn own (Some piece) = own piece

told-more : (start : Panel) (own : WorkSeen → Type 0) (left : Option WorkSeen) (xs : List MadeAsk) → AreTold start none_own left xs
    → AreTold start own left xs
told-more start own left [] t = tt
told-more start own left (x ∷ xs) t = (
  record {
    piece = t.0.piece;
    whose = elim t.0.whose [
      | inl never ↦ absurd never
      | inr is ↦ inr is
    ];
    tells = t.0.tells;
    made = t.0.made;
  },
  told-more start own (brought x.event.answer) xs t.1,
)

-- what is left is as good as what is the worker's own
told-own : (start : Panel) (own : WorkSeen → Type 0) (left : Option WorkSeen) (piece : WorkSeen) (xs : List MadeAsk) → own piece
    → AreTold start none_own (Some piece) xs → AreTold start own left xs
told-own start own left piece [] r t = tt
told-own start own left piece (x ∷ xs) r t = (
  record {
    piece = t.0.piece;
    whose = elim t.0.whose [
      | inl never ↦ absurd never
      | inr is ↦ inl (subst (λ (o : Option WorkSeen). OfOwn own o) is r)
    ];
    tells = t.0.tells;
    made = t.0.made;
  },
  told-more start own (brought x.event.answer) xs t.1,
)

told-append : (start : Panel) (own : WorkSeen → Type 0) (left : Option WorkSeen) (xs ys : List MadeAsk) → AreTold start own left xs
    → ((l : Option WorkSeen) → AreTold start own l ys) → AreTold start own left (xs ++ ys)
told-append start own left [] ys a b = b left
told-append start own left (x ∷ xs) ys a b = (a.0, told-append start own (brought x.event.answer) xs ys a.1 b)

events-append : (xs ys : List MadeAsk) → events_of (xs ++ ys) ≡ events_of xs + events_of ys
events-append [] ys = omega arith
events-append (x ∷ xs) ys = omega (arith, events-append xs ys)

-- one more piece of the worker's own
pub works-more : (start : Panel) (own : WorkSeen → Type 0) (piece : WorkSeen) (old mid new : AtDesk) → Works start own None old mid → own piece
    → Works start none_own (Some piece) mid new → Works start own None old new
works-more start own piece old mid new a r b = record {
  made = a.made ++ b.made;
  told = told-append start own None a.made b.made a.told (λ l. told-own start own l piece b.made r b.told);
  counts = omega (arith, a.counts, b.counts, events-append a.made b.made);
  learns = learns-append old.seat mid.seat new.seat a.made b.made a.learns b.learns;
}

carried-told : (start : Panel) (work : Option WorkSeen) (made : List MadeAsk) → Carries start work made → AreTold start none_own work made
carried-told start work [] c = tt
carried-told start None (m ∷ made) c = absurd c
carried-told start (Some piece) (m ∷ made) c = (
  record { piece = piece; whose = inr refl; tells = c.0; made = c.1 },
  carried-told start (brought m.event.answer) made c.2,
)

-- a piece, and what came of it
pub works-piece : (start : Panel) (piece : WorkSeen) (ask : AskSeen) (old mid new : AtDesk) (work : Option WorkSeen) → TellsOfPiece piece ask
    → Brings start ask old work mid → Adds start work mid new → Works start none_own (Some piece) old new
works-piece start piece ask old mid new work tells told adds = record {
  made = made_of told ∷ adds.made;
  told = (
    record { piece = piece; whose = inr refl; tells = tells; made = told.asks.history },
    subst (λ (o : Option WorkSeen). AreTold start none_own o adds.made) told.brings_is (carried-told start work adds.made adds.carries),
  );
  counts = omega (arith, told.asks.counts, adds.counts);
  learns = (refl, adds.learns);
}

-- the pause that ends had come, and its end
pub ended : (arrived : Pause → Type 0) (reached : Instant → Type 0) (stands : Option Pause) (ticket : Ticket) → IfSome stands arrived
    → EndsStanding reached stands (Ends ticket) → (micros : ℕ) × IsOverPause arrived reached (Pauses ticket micros)
ended arrived reached None ticket h e = absurd e
ended arrived reached (Some p) ticket h e = (p.micros, (p, h, e.1, sym e.0, refl))
