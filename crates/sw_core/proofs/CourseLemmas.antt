-- What a scan would leave closed, if it went on to its end, stays the same while it goes on.
use Rattle.std.proofs.Common.{◌≡◌, ℕ, zero, suc, ◌+◌, ◌<◌, ◌≤◌, List, [], ◌∷◌, length, drop, Option, None, Some, is_some, refl, ap, sym, subst, ◌∙◌, arith}
use mathlib.Core.Path.{fun_ext}
use Rattle.sw_base.specs.Layout.{Channel}
use Rattle.sw_trigger.specs.declared.layer.Awaited.{Awaited}
use Rattle.sw_verify.specs.Course.{CourseSeen}
use Rattle.sw_trigger.specs.Agenda.{Item, Awaits, Close, Open}
use Rattle.sw_verify.specs.Channels.{Channels, with_each, without_each}
use Rattle.sw_verify.specs.Sound.{effect}
use Rattle.sw_cage.specs.Accounts.{Accounts, is_closed}
use Rattle.sw_cage.specs.Cage.{ScanSeen, CageSeen}
use Rattle.sw_cage.specs.Advance.{leading_moves, first_awaited, moves_from, next_place, awaits}
use Rattle.sw_cage.specs.Work.{JobSeen}
use Rattle.sw_cage.specs.TakenSeen.{TakenSeen, SaysIgnored, SaysWaits, SaysPause, SaysJob, SaysEnded, SaysFault}
use Rattle.sw_cage.specs.declared.job.Ticket.{Ticket}
use Rattle.sw_cage.specs.Outcome.{Moved, Occupancy, occupancy_of, IsSent, AdvancesOrFails, Advances}
use Rattle.sw_cage.proofs.SlotChangeLemmas.{some_slot}
use Rattle.sw_cage.proofs.AdvanceLemmas.{closed_sent}

-- ---- lists

drop_nil : {A : Type 0} (n : ℕ) → drop n (let r : List A = [] in r) ≡ []
drop_nil zero = refl
drop_nil (suc n) = refl

pub drop_past : {A : Type 0} (i n : ℕ) (l : List A) → drop (i + n) l ≡ drop n (drop i l)
drop_past zero n l = ap (λ (m : ℕ). drop m l) (let e : 0 + n ≡ n = omega arith in e)
drop_past (suc i) n [] = ap (λ (m : ℕ). drop m []) (let e : suc i + n ≡ suc (i + n) = omega arith in e) ∙ sym (drop_nil n)
drop_past (suc i) n (x ∷ l) = ap (λ (m : ℕ). drop m (x ∷ l)) (let e : suc i + n ≡ suc (i + n) = omega arith in e) ∙ drop_past i n l

-- ---- what is left closed at the end

abbrev pub leaves : Accounts → ScanSeen → Channels
leaves rack at = effect (is_closed rack) (drop at.index at.course.items)

-- by the closings and openings at the front, and then by the rest
effect_lead : (b : Channels) (l : List Item) → effect (effect b (leading_moves l)) (drop (length (leading_moves l)) l) ≡ effect b l
effect_lead b [] = refl
effect_lead b (Awaits w ∷ l) = refl
effect_lead b (Close p ∷ l) = effect_lead (with_each p b) l
effect_lead b (Open p ∷ l) = effect_lead (without_each p b) l

-- what is awaited closes and opens nothing
effect_first : (b : Channels) (l : List Item) (x : Awaited) → first_awaited l ≡ Some x → effect b (drop 1 l) ≡ effect b l
effect_first b [] x e = absurd (cc (e))
effect_first b (Awaits w ∷ l) x e = refl
effect_first b (Close c ∷ l) x e = absurd (cc (e))
effect_first b (Open c ∷ l) x e = absurd (cc (e))

pub effect_next : (b : Channels) (s : CourseSeen) (i : ℕ)
    → effect (effect b (moves_from s i)) (drop (i + length (moves_from s i)) s.items) ≡ effect b (drop i s.items)
effect_next b s i =
    ap (λ (l : List Item). effect (effect b (moves_from s i)) l) (drop_past i (length (moves_from s i)) s.items) ∙ effect_lead b (drop i s.items)

-- ---- moves

-- a scan stands at this place, by these settings, and would leave closed what these items do
abbrev IsCome : Accounts → Channels → CourseSeen → ℕ → ScanSeen → Type 0
IsCome rack b s i at = (at.course ≡ s) × (leaves rack at ≡ effect b (drop i s.items))

come : (old mid new : Accounts) (s : CourseSeen) (i : ℕ) (scan : Option ScanSeen) (at : ScanSeen) → Moved old (moves_from s i) mid
    → is_closed new ≡ is_closed mid
    → scan ≡ Some (next_place s i) → scan ≡ Some at → IsCome new (is_closed old) s i at
come old mid new s i scan at m e f g =
    let there : next_place s i ≡ at = let h = sym f ∙ g in cc (h) in
    let here : IsCome new (is_closed old) s i (next_place s i) =
    (refl, ap (λ (b : Channels). effect b (drop (i + length (moves_from s i)) s.items)) (e ∙ fun_ext m.closed) ∙ effect_next (is_closed old) s i) in
    subst (λ (x : ScanSeen). IsCome new (is_closed old) s i x) there here

bay_closed : (old new : Occupancy) → new ≡ old → is_closed new.cards ≡ is_closed old.cards
bay_closed old new e = ap (λ (b : Occupancy). is_closed b.cards) e

-- a meter that leaves closes and opens nothing
sent_closed : (old : Occupancy) (slot : ℕ) (ticket : Ticket) (job : JobSeen) (new : Occupancy) → IsSent old slot ticket job new
    → is_closed new.cards ≡ is_closed old.cards
sent_closed old slot ticket job new h =
    let b : (0 < slot) × (slot ≤ length old.cards) = some_slot old.cards slot (ap (λ o. is_some o) h.meter) in
    ap (λ (x : Occupancy). is_closed x.cards) h.after ∙ fun_ext (closed_sent old.cards slot job.meter (omega (arith, b.0)) b.1 h.meter)

-- where a scan comes to it leaves closed what it would have before
pub leaves_goes : (old new : Occupancy) (number : ℕ) (s : CourseSeen) (i : ℕ) (told : TakenSeen) (scan : Option ScanSeen) (at : ScanSeen)
    → AdvancesOrFails old number (moves_from s i) (next_place s i) told new scan → scan ≡ Some at → IsCome new.cards (is_closed old.cards) s i at
leaves_goes old new number s i SaysFault scan at h e = absurd (let n = sym h.over ∙ e in cc (n))
leaves_goes old new number s i SaysIgnored scan at h e = absurd h.arrives
leaves_goes old new number s i SaysWaits scan at h e =
    come old.cards h.cards new.cards s i scan at h.moved (bay_closed (record old { cards = h.cards }) new h.arrives.1) h.arrives.2 e
leaves_goes old new number s i (SaysPause ticket micros) scan at h e =
    come old.cards h.cards new.cards s i scan at h.moved (bay_closed (record old { cards = h.cards }) new h.arrives.2) h.arrives.3 e
leaves_goes old new number s i (SaysJob job) scan at h e =
    come old.cards h.cards new.cards s i scan at h.moved (sent_closed (record old { cards = h.cards }) _ _ job new h.arrives.1) h.arrives.2 e
leaves_goes old new number s i SaysEnded scan at h e = absurd (let n = sym h.arrives.2 ∙ e in cc (n))

-- ---- one cage and a later one

-- a scan that runs then ran before, by the same settings, and would leave the same closed
abbrev pub Holds : CageSeen → CageSeen → Type 0
Holds p q = (at : ScanSeen) → q.scan ≡ Some at → (old : ScanSeen) × (p.scan ≡ Some old) × (at.course ≡ old.course) × (leaves q.cards at ≡ leaves p.cards old)

abbrev pub SameClosed : CageSeen → CageSeen → Type 0
SameClosed p q = (c : Channel) → is_closed q.cards c ≡ is_closed p.cards c

pub same_rack : (p q : CageSeen) → q.cards ≡ p.cards → SameClosed p q
same_rack p q e c = ap (λ (r : Accounts). is_closed r c) e

pub holds_same : (p q : CageSeen) → q.scan ≡ p.scan → SameClosed p q → Holds p q
holds_same p q e r at i = (at, sym e ∙ i, refl, ap (λ (b : Channels). effect b (drop at.index at.course.items)) (fun_ext r))

pub holds_none : (p q : CageSeen) → q.scan ≡ None → Holds p q
holds_none p q e at i = absurd (let n = sym e ∙ i in cc (n))

-- past what it awaits a scan would leave the same closed
pub past_closed : (p from : CageSeen) (at : ScanSeen) (x : Awaited) → awaits at ≡ Some x → SameClosed p from
    → effect (is_closed from.cards) (drop (at.index + 1) at.course.items) ≡ leaves p.cards at
past_closed p from at x e same =
    ap (λ (b : Channels). effect b (drop (at.index + 1) at.course.items)) (fun_ext same)
    ∙ ap (λ (l : List Item). effect (is_closed p.cards) l) (drop_past at.index 1 at.course.items)
    ∙ effect_first (is_closed p.cards) (drop at.index at.course.items) x e

pub holds_goes : (p q from : CageSeen) (at : ScanSeen) (x : Awaited) (told : TakenSeen) → p.scan ≡ Some at → awaits at ≡ Some x → SameClosed p from
    → Advances from at.course (at.index + 1) told q → Holds p q
holds_goes p q from at x told is e same g new i =
    let r = leaves_goes (occupancy_of from) (occupancy_of q) from.number at.course (at.index + 1) told q.scan new g.runs i in
    (at, is, r.0, r.1 ∙ past_closed p from at x e same)

pub holds_on : (p m q : CageSeen) → Holds p m → Holds m q → Holds p q
holds_on p m q h k at i = let a = k at i in let b = h a.0 a.1 in (b.0, b.1, a.2 ∙ b.2, a.3 ∙ b.3)
