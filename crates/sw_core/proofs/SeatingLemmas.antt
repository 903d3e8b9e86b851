-- What a session asks of its seat or of the locks has one answer where memory suffices.
use Rattle.std.proofs.Common.{◌≡◌, ◌≤◌, ℕ, Bool, true, false, List, length, Option, None, Some, is_some, refl, sym, ◌∙◌, ap, arith, inl, inr}
use Rattle.sw_base.specs.Layout.{slot_at}
use Rattle.sw_base.specs.Limits.{most_sessions}
use Rattle.sw_cage.proofs.SlotChangeLemmas.{some_slot}
use Rattle.sw_hislip.specs.LockTable.{LockTable, Replies, MayLackMemory, is_wrong, grants}
use Rattle.sw_hislip.specs.declared.locks.LockReply.TheVariants as Reply
use Rattle.sw_core.specs.declared.ask.Sid.{Sid}
use Rattle.sw_core.specs.declared.ask.SessionAsk.{SessionAsk}
use Rattle.sw_core.specs.declared.ask.SessionAsk.TheVariants as Ask
use Rattle.sw_core.specs.declared.ask.SessionAnswer.{SessionAnswer}
use Rattle.sw_core.specs.declared.ask.SessionAnswer.TheVariants.{Done, Missed, Max, Lock, Info, Hold}
use Rattle.sw_core.specs.declared.sessions.Seat.{Seat}
use Rattle.sw_core.specs.Sessions.{SessionsSeen, IsJoined, joined_in, seat_of}
use Rattle.sw_core.specs.Seats.{Locks, FindsKey, StepLock, StepSeat, lacks_second, LacksSecond}

-- a session that is joined has one of the numbers
some_seat : (o : Option Seat) (joined : ℕ) → joined_in o ≡ Some joined → is_some o ≡ true
some_seat None joined h = absurd (cc h)
some_seat (Some seat) joined h = refl

pub seated_number : (s : SessionsSeen) (sid : Sid) → length s.seats ≡ most_sessions → IsJoined s sid → (1 ≤ sid.number) × (sid.number ≤ most_sessions)
seated_number s sid n h =
    let b = some_slot s.seats sid.number (some_seat (slot_at s.seats sid.number) sid.joined h) in
    (omega (arith, b.0), omega (arith, b.1, n))

lacking_seat : (o : Option Seat) → lacks_second o ≡ true → is_some o ≡ true
lacking_seat None h = absurd (cc h)
lacking_seat (Some seat) h = refl

-- a session that lacks its second channel has one of the numbers
pub lacking_number : (s : SessionsSeen) (number : ℕ) → length s.seats ≡ most_sessions → LacksSecond s number → (1 ≤ number) × (number ≤ most_sessions)
lacking_number s number n h =
    let b = some_slot s.seats number (lacking_seat (slot_at s.seats number) h) in
    (omega (arith, b.0), omega (arith, b.1, n))

true_false : (b : Bool) → b ≡ true → b ≡ false → ⊥
true_false b t f = cc (t, f)

same_sessions : (s t : SessionsSeen) → s.seats ≡ t.seats → s.locks ≡ t.locks → s ≡ t
same_sessions s t a b =
    ap (λ (x : List (Option _)). let r : SessionsSeen = record { seats = x; locks = s.locks } in r) a
    ∙ ap (λ (x : LockTable). let r : SessionsSeen = record { seats = t.seats; locks = x } in r) b

-- it is no want of memory
abbrev IsKept : LockTable → ℕ → List ℕ → ℕ → Type 0
IsKept l number key code = code ≡ 3 → MayLackMemory l number key → ⊥

grants_once : (l : LockTable) (number : ℕ) (key : List ℕ) (code code' : ℕ) (m m' : LockTable) → IsKept l number key code → IsKept l number key code'
    → Locks l number key code m → Locks l number key code' m' → (code ≡ code') × (m ≡ m')
grants_once l number key code code' m m' n n' (inl a) (inl b) = (a.0 ∙ sym b.0, a.1.2 ∙ sym b.1.2)
grants_once l number key code code' m m' n n' (inl a) (inr (inl b)) = absurd (true_false (is_wrong l number key) b.1.0 a.1.0)
grants_once l number key code code' m m' n n' (inl a) (inr (inr b)) = absurd (n' b.0 b.1)
grants_once l number key code code' m m' n n' (inr (inl a)) (inl b) = absurd (true_false (is_wrong l number key) a.1.0 b.1.0)
grants_once l number key code code' m m' n n' (inr (inl a)) (inr (inl b)) = (a.0 ∙ sym b.0, a.1.1 ∙ sym b.1.1)
grants_once l number key code code' m m' n n' (inr (inl a)) (inr (inr b)) = absurd (n' b.0 b.1)
grants_once l number key code code' m m' n n' (inr (inr a)) b = absurd (n a.0 a.1)

granted_apart : (l : LockTable) (number : ℕ) (key : List ℕ) (code : ℕ) (m m' : LockTable) → IsKept l number key code → Locks l number key code m
    → Replies l number key Reply.NotNow m' → ⊥
granted_apart l number key code m m' n (inl a) b = true_false (grants l number key) a.1.1 b.1
granted_apart l number key code m m' n (inr (inl a)) b = true_false (is_wrong l number key) a.1.0 b.0
granted_apart l number key code m m' n (inr (inr a)) b = n a.0 a.1

lock_once : (s : SessionsSeen) (sid : Sid) (key : List ℕ) (a a' : SessionAnswer) (t t' : SessionsSeen) → FindsKey s (Ask.Lock sid key) a
    → FindsKey s (Ask.Lock sid key) a' → StepLock s sid key a t → StepLock s sid key a' t' → (a ≡ a') × (t ≡ t')
lock_once s sid key (Lock code) (Lock code') t t' n m h k =
    let r = grants_once s.locks sid.number key code code' t.locks t'.locks n m h.0 k.0 in
    (ap Lock r.0, same_sessions t t' (h.1 ∙ sym k.1) r.1)
lock_once s sid key (Lock code) (Hold back) t t' n m h k = absurd (granted_apart s.locks sid.number key code t.locks t'.locks n h.0 k.0)
lock_once s sid key (Hold back) (Lock code) t t' n m h k = absurd (granted_apart s.locks sid.number key code t'.locks t.locks m k.0 h.0)
lock_once s sid key (Hold back) (Hold back') t t' n m h k = (ap Hold (h.1 ∙ sym k.1), h.2 ∙ sym k.2)
lock_once s sid key a a' t t' n m h k = absurd (assumption (h, k))

pub seat_once : (s : SessionsSeen) (ask : SessionAsk) (a a' : SessionAnswer) (t t' : SessionsSeen) → FindsKey s ask a → FindsKey s ask a' → StepSeat s ask a t
    → StepSeat s ask a' t' → (a ≡ a') × (t ≡ t')
seat_once s (Ask.Leave sid) (Done None) (Done None) t t' n m h k = (refl, h ∙ sym k)
seat_once s (Ask.Attached sid) (Done None) (Done None) t t' n m h k = (refl, h.1 ∙ sym k.1)
seat_once s (Ask.Attached sid) Missed Missed t t' n m h k = (refl, h.1 ∙ sym k.1)
seat_once s (Ask.Attached sid) (Done None) Missed t t' n m h k = absurd (true_false (seat_of s sid.number).attached h.0 k.0)
seat_once s (Ask.Attached sid) Missed (Done None) t t' n m h k = absurd (true_false (seat_of s sid.number).attached k.0 h.0)
seat_once s (Ask.Size sid x) (Done None) (Done None) t t' n m h k = (refl, h ∙ sym k)
seat_once s (Ask.MaxSize sid) (Max x) (Max y) t t' n m h k = (ap Max (h.0 ∙ sym k.0), h.1 ∙ sym k.1)
seat_once s (Ask.Clear sid) (Done None) (Done None) t t' n m h k = (refl, h ∙ sym k)
seat_once s (Ask.Cleared sid) (Done None) (Done None) t t' n m h k = (refl, h ∙ sym k)
seat_once s (Ask.Lock sid key) a a' t t' n m h k = lock_once s sid key a a' t t' n m h k
seat_once s (Ask.Release sid) (Lock x) (Lock y) t t' n m h k = (ap Lock (h.0 ∙ sym k.0), h.1 ∙ sym k.1)
seat_once s (Ask.LockInfo sid) (Info e x) (Info e' y) t t' n m h k = (ap (λ b. Info b x) (h.0 ∙ sym k.0) ∙ ap (Info e') (h.1 ∙ sym k.1), h.2 ∙ sym k.2)
seat_once s ask a a' t t' n m h k = absurd (assumption (h, k))
