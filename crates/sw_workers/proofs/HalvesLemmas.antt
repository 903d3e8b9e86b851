-- The halves that wait are of sessions that are joined.
use Rattle.std.proofs.Common.{◌≡◌, ◌≢◌, inl, inr, ℕ, ◌-◌, zero, suc, Bool, true, false, Option, None, Some}
use Rattle.std.proofs.Common.{refl, ap, sym, subst, ◌∙◌, slice_set, replicate, if◌then◌else◌}
use Rattle.std.specs.Prelude.{nat_lt, slice_index_or}
use Rattle.sw_base.specs.Layout.{slot_at}
use Rattle.sw_base.specs.Limits.{most_sessions}
use Rattle.sw_cage.proofs.SlotChangeLemmas.{slot_cases}
use Rattle.sw_core.specs.declared.ask.Sid.{Sid}
use Rattle.sw_core.specs.declared.ask.SessionAsk.TheVariants as Ask
use Rattle.sw_core.specs.declared.ask.SessionAnswer.TheVariants.{Joined}
use Rattle.sw_core.specs.Good.{IsGoodPanel}
use Rattle.sw_core.specs.Panel.{Panel}
use Rattle.sw_core.specs.Seen.{WorkSeen, AskSeen, AskSession, AnswerSeen, SaysSession}
use Rattle.sw_core.specs.Sessions.{SessionsSeen, IsJoined}
use Rattle.sw_core.specs.Step.{Step}
use Rattle.sw_history.specs.Coming.{coming_of}
use Rattle.sw_history.specs.declared.coming.Coming.TheVariants.{Joins, Attaches}
use Rattle.sw_history.specs.Joined.{SessionsStay}
use Rattle.sw_history.specs.Said.{session_told}
use Rattle.sw_workers.specs.Halves.{Rows, AreJoined, StayJoined, Begins, Takes, Follows, joined_by}

abbrev nobody : Option Sid
nobody = None

get_none : (n k : ℕ) → slice_index_or (replicate n nobody) k None ≡ None
get_none zero k = refl
get_none (suc n) zero = refl
get_none (suc n) (suc k) = get_none n k

at_none : (b : Bool) (k : ℕ) → (if b then slice_index_or (replicate most_sessions nobody) k None else None) ≡ None
at_none true k = get_none most_sessions k
at_none false k = refl

-- at first none waits
pub none_waits : (s : SessionsSeen) → AreJoined s (replicate most_sessions None)
none_waits s = λ number sid at. let none = at_none (nat_lt 0 number) (number - 1) in absurd (cc (at, none))

-- where all stay joined
pub joined_on : (p q : Panel) (rows : Rows) → StayJoined p q → AreJoined p.sessions rows → AreJoined q.sessions rows
joined_on p q rows stay are = λ number sid at. let was = are number sid at in (was.0, stay sid was.1)

joined_as : (p q : Panel) (old new : Rows) → new ≡ old → StayJoined p q → AreJoined p.sessions old → AreJoined q.sessions new
joined_as p q old new same stay are = subst (λ (r : Rows). AreJoined q.sessions r) (sym same) (joined_on p q old stay are)

-- a session's half doesn't wait any more, and all others stay joined
taken_on : (p q : Panel) (old new : Rows) (sid : Sid) → ((other : Sid) → other ≢ sid → IsJoined p.sessions other → IsJoined q.sessions other)
    → AreJoined p.sessions old → Takes old sid new → AreJoined q.sessions new
taken_on p q old new sid stay are (inl same) = λ number other at.
    let before : slot_at old number ≡ Some other = ap (λ (r : Rows). slot_at r number) (sym same.0) ∙ at in
    let was = are number other before in
    let there = λ (e : other ≡ sid). ap (λ (n : ℕ). slot_at old n) (ap (λ (s : Sid). s.number) (sym e) ∙ was.0) ∙ before ∙ ap Some e in
    (was.0, stay other (λ e. same.1 (there e)) was.1)
taken_on p q old new sid stay are (inr g) = λ number other at.
    let after : slot_at (slice_set old (sid.number - 1) None) number ≡ Some other = ap (λ (r : Rows). slot_at r number) (sym g.after) ∙ at in
    elim (slot_cases old sid.number number None g.first g.last) [
      | inl e ↦ let none = e.1 in absurd (cc (after, none))
      | inr n ↦
          let was = are number other (sym n.1 ∙ after) in
          (was.0, stay other (λ e. n.0 (sym was.0 ∙ ap (λ (s : Sid). s.number) e)) was.1)
    ]

-- a session has joined, whose half may wait now
begun_on : (p q : Panel) (old new : Rows) (sid : Sid) → StayJoined p q → IsJoined q.sessions sid → AreJoined p.sessions old → Begins old sid new
    → AreJoined q.sessions new
begun_on p q old new sid stay joined are (inl same) = joined_as p q old new same stay are
begun_on p q old new sid stay joined are (inr b) = λ number other at.
    let after : slot_at (slice_set old (sid.number - 1) b.half) number ≡ Some other = ap (λ (r : Rows). slot_at r number) (sym b.after) ∙ at in
    elim (slot_cases old sid.number number b.half b.first b.last) [
      | inl e ↦
          let own : other ≡ sid = b.own other (sym e.1 ∙ after) in
          (ap (λ (s : Sid). s.number) own ∙ sym e.0, subst (λ (s : Sid). IsJoined q.sessions s) (sym own) joined)
      | inr n ↦ let was = are number other (sym n.1 ∙ after) in (was.0, stay other was.1)
    ]

-- who is told to have joined
told_joined : (a : AnswerSeen) (sid : Sid) → joined_by (session_told a) ≡ Some sid → (work : Option WorkSeen) × (a ≡ SaysSession (Joined sid) work)
told_joined (SaysSession (Joined s) work) sid h = let same : s ≡ sid = cc (h) in (work, ap (λ (x : Sid). SaysSession (Joined x) work) same)
told_joined a sid h = absurd (cc (h))

joins_on : (law : SessionsStay) (p q : Panel) (f : Bool) (a : AnswerSeen) (old new : Rows) (o : Option Sid) → IsGoodPanel p
    → Step p (AskSession Ask.Join) f a q → joined_by (session_told a) ≡ o → StayJoined p q → AreJoined p.sessions old → Follows old Joins o new
    → AreJoined q.sessions new
joins_on law p q f a old new None good step told stay are same = joined_as p q old new same stay are
joins_on law p q f a old new (Some sid) good step told stay are begins =
    let so = told_joined a sid told in
    begun_on p q old new sid stay
    (law.joins p q f sid so.0 good (subst (λ (x : AnswerSeen). Step p (AskSession Ask.Join) f x q) so.1 step)) are begins

attaches_on : (p q : Panel) (old new : Rows) (o : Option Sid) → StayJoined p q → AreJoined p.sessions old → Follows old Attaches o new → AreJoined q.sessions new
attaches_on p q old new None stay are same = joined_as p q old new same stay are
attaches_on p q old new (Some sid) stay are takes = taken_on p q old new sid (λ other ne. stay other) are takes

-- after any ask
pub follows_on : (law : SessionsStay) (p q : Panel) (ask : AskSeen) (f : Bool) (a : AnswerSeen) (old new : Rows) → IsGoodPanel p → Step p ask f a q
    → AreJoined p.sessions old → Follows old (coming_of ask) (joined_by (session_told a)) new → AreJoined q.sessions new
follows_on law p q (AskSession Ask.Join) f a old new good step are follows =
    joins_on law p q f a old new (joined_by (session_told a)) good step refl
    (λ sid j. law.stays p q (AskSession Ask.Join) f a sid step j (λ e. cc (e))) are follows
follows_on law p q (AskSession (Ask.Attach number)) f a old new good step are follows =
    attaches_on p q old new (joined_by (session_told a)) (λ sid j. law.stays p q (AskSession (Ask.Attach number)) f a sid step j (λ e. cc (e))) are follows
follows_on law p q (AskSession (Ask.Leave sid)) f a old new good step are follows =
    taken_on p q old new sid (λ other ne j. law.stays p q (AskSession (Ask.Leave sid)) f a other step j (λ e. ne (cc (e)))) are follows
follows_on law p q ask f a old new good step are same =
    joined_as p q old new same (λ sid j. law.stays p q ask f a sid step j (λ e. cc (e))) are
