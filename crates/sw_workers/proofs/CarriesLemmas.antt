-- Work that is carried out, one piece further.
use Rattle.std.proofs.Common.{◌≡◌, ◌+◌, List, [], ◌∷◌, ◌++◌, Option, None, Some, refl, sym, subst, ◌∙◌, arith, append_assoc}
use Rattle.std.proofs.lemmas.List.{append-nil}
use Rattle.sw_core.specs.Panel.{Panel}
use Rattle.sw_core.specs.declared.ask.Work.{Work}
use Rattle.sw_core.specs.Seen.{WorkSeen, work_seen}
use Rattle.sw_history.specs.Board.{Known}
use Rattle.sw_history.specs.Held.{AtDesk}
use Rattle.sw_history.specs.History.{event}
use Rattle.sw_history.specs.Shares.{is_counted, one_if}
use Rattle.sw_talk.specs.CoreDesk.{brought}
use Rattle.sw_workers.specs.Work.{MadeAsk, Carries, Brings, SeesToWork, EndsPiece, IsSentOn, Learns, events_of, left_over}

-- what the mainframe was told
abbrev pub made_of : {start : Panel} {ask : _} {old : AtDesk} {work : Option WorkSeen} {new : AtDesk} → Brings start ask old work new → MadeAsk
made_of {start} {ask} {old} {work} {new} told = record {
  before = told.asks.before;
  event = event ask told.answer told.asks.after;
  knew = old.seat;
  knows = new.seat;
}

-- the work so far was carried out, and this is left
pub record CarriesOn (start : Panel) (work left : Option WorkSeen) (old new : AtDesk) : Type 0 where
  pub made : List MadeAsk
  pub on : (more : List MadeAsk) → Carries start left more → Carries start work (made ++ more)
  pub counts : new.amount ≡ old.amount + events_of made
  pub learns : Learns old.seat made new.seat
  pub rests : left_over work made ≡ left

pub carries-start : (start : Panel) (work : Option WorkSeen) (old : AtDesk) → CarriesOn start work work old old
carries-start start work old = record { made = []; on = λ more c. c; counts = omega arith; learns = refl; rests = refl }

nothing : (start : Panel) (left : Option WorkSeen) → Carries start left []
nothing start left = tt

events-snoc : (made : List MadeAsk) (m : MadeAsk) → events_of (made ++ m ∷ []) ≡ events_of made + one_if (is_counted m.before.events m.event.answer)
events-snoc [] m = omega arith
events-snoc (x ∷ made) m = omega (arith, events-snoc made m)

-- what is learned by the one and then by the other
pub learns-append : (u v w : Known) (made more : List MadeAsk) → Learns u made v → Learns v more w → Learns u (made ++ more) w
learns-append u v w [] more a b = subst (λ (x : Known). Learns x more w) a b
learns-append u v w (m ∷ made) more a b = (a.0, learns-append m.knows v w made more a.1 b)

-- one more leaves what it brought
left-more : (work : Option WorkSeen) (made : List MadeAsk) (m : MadeAsk) → left_over work (made ++ m ∷ []) ≡ brought m.event.answer
left-more work [] m = refl
left-more work (x ∷ made) m = left-more (brought x.event.answer) made m

-- nothing is left
pub sent-none : {M : _} (sent : WorkSeen → Type 0) (work : Option (Work M)) → ((piece : Work M) → work ≡ Some piece → ⊥) → IsSentOn sent (work_seen work)
sent-none sent None n = tt
sent-none sent (Some piece) n = absurd (n piece refl)

-- what was left was sent
pub carries-sent : (start : Panel) (sent : WorkSeen → Type 0) (work left : Option WorkSeen) (old new : AtDesk) → CarriesOn start work left old new
    → IsSentOn sent left → SeesToWork start sent work old new
carries-sent start sent work left old new h s = record {
  adds = record {
    made = h.made;
    carries = subst (λ (m : List MadeAsk). Carries start work m) (append-nil h.made) (h.on [] (nothing start left));
    counts = h.counts;
    learns = h.learns;
  };
  rest = subst (λ (o : Option WorkSeen). IsSentOn sent o) (sym h.rests) s;
}

carried : (start : Panel) (piece : WorkSeen) (next : Option WorkSeen) (mid new : AtDesk) (ends : EndsPiece start piece mid next new) (more : List MadeAsk)
    → Carries start next more → Carries start (Some piece) (made_of ends.told ∷ more)
carried start piece next mid new ends more c =
    (ends.tells, ends.told.asks.history, subst (λ (o : Option WorkSeen). Carries start o more) ends.told.brings_is c)

pub carries-more : (start : Panel) (work left next : Option WorkSeen) (piece : WorkSeen) (old mid new : AtDesk) → CarriesOn start work left old mid
    → left ≡ Some piece → EndsPiece start piece mid next new → CarriesOn start work next old new
carries-more start work left next piece old mid new h is ends =
    let m : MadeAsk = made_of ends.told in record {
      made = h.made ++ m ∷ [];
      on = λ more c. subst
          (λ (u : List MadeAsk). Carries start work u)
          (sym (append_assoc h.made (m ∷ []) more))
          (h.on (m ∷ more) (subst (λ (o : Option WorkSeen). Carries start o (m ∷ more)) (sym is) (carried start piece next mid new ends more c)));
      counts = omega (arith, ends.told.asks.counts, h.counts, events-snoc h.made m);
      learns = learns-append old.seat mid.seat new.seat h.made (m ∷ []) h.learns (refl, refl);
      rests = left-more work h.made m ∙ sym ends.told.brings_is;
    }
