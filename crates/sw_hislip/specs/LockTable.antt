-- The table of the sessions' locks, and the rules by which the server grants them (IVI-6.1 HiSLIP, lock transaction; a
-- rule marked own is this project's choice).
use Rattle.std.specs.Prelude.{◌≡◌, ℕ, zero, suc, ◌+◌, ◌-◌, Bool, true, false, not, ◌==◌, ◌&&◌, ◌||◌, nat_lt, List, []}
use Rattle.std.specs.Prelude.{◌∷◌, length, replicate, slice_set, slice_index_or, Option, None, Some, is_some, is_none}
use Rattle.std.specs.Prelude.{if◌then◌else◌}
use Rattle.std.specs.List.{list_all}
use Rattle.std.specs.Str.{bytes_eq}
use Rattle.sw_base.specs.Limits.{most_sessions}
use Rattle.sw_hislip.specs.declared.locks.LockReply.{LockReply}
use Rattle.sw_hislip.specs.declared.locks.LockReply.TheVariants.{Granted, NotNow, Wrong}
use Rattle.sw_hislip.specs.declared.locks.Released.{Released}
use Rattle.sw_hislip.specs.declared.locks.Released.TheVariants.{Exclusive, Shared, Nothing}

-- the session that holds the exclusive lock, and of each session from 1 to 16 the key by which it shares one
pub record LockTable : Type 0 where
  pub exclusive : Option ℕ
  pub keys : List (Option (List ℕ))

abbrev pub no_locks : LockTable
no_locks = record { exclusive = None; keys = replicate most_sessions None }

-- ---- the locks that each session holds

-- the key by which the session shares a lock
abbrev pub key_of : LockTable → ℕ → Option (List ℕ)
key_of l sid = slice_index_or l.keys (sid - 1) None

abbrev pub shares : LockTable → ℕ → Bool
shares l sid = is_some (key_of l sid)

abbrev pub is_holder : ℕ → Option ℕ → Bool
is_holder sid None = false
is_holder sid (Some holder) = holder == sid

abbrev pub excludes : LockTable → ℕ → Bool
excludes l sid = is_holder sid l.exclusive

-- another session holds the exclusive lock
abbrev pub other_excludes : LockTable → ℕ → Bool
other_excludes l sid = is_some l.exclusive && not (excludes l sid)

abbrev pub nobody_shares : LockTable → Bool
nobody_shares l = list_all is_none l.keys

-- this is the key, where there is one
abbrev pub agrees : List ℕ → Option (List ℕ) → Bool
agrees key None = true
agrees key (Some held) = bytes_eq held key

-- all sessions that share a lock have this key
abbrev pub one_key : LockTable → List ℕ → Bool
one_key l key = list_all (agrees key) l.keys

-- the session holds a lock
abbrev pub holds : LockTable → ℕ → Bool
holds l sid = excludes l sid || shares l sid

-- how many of the sessions from 1 to n hold a lock
unfoldable pub holders : LockTable → ℕ → ℕ
holders l zero = 0
holders l (suc n) = holders l n + (if holds l (suc n) then 1 else 0)

-- ---- the rules

-- The table admits the session: no other holds the exclusive lock, and no session shares a lock or this one does.
abbrev pub admits : LockTable → ℕ → Bool
admits l sid = not (other_excludes l sid) && (nobody_shares l || shares l sid)

-- the shared lock is granted: no other session holds the exclusive one, and all that share one have the same key
abbrev pub grants_shared : LockTable → ℕ → List ℕ → Bool
grants_shared l sid key = not (other_excludes l sid) && one_key l key

-- A lock is granted, by an empty key the exclusive one: where the session is admitted.
abbrev pub grants : LockTable → ℕ → List ℕ → Bool
grants l sid [] = admits l sid
grants l sid (b ∷ key) = grants_shared l sid (b ∷ key)

-- the key has more than 256 bytes, or the session shares a lock already
abbrev pub is_wrong_key : LockTable → ℕ → List ℕ → Bool
is_wrong_key l sid key = nat_lt 256 (length key) || shares l sid

-- the ask is an error
abbrev pub is_wrong : LockTable → ℕ → List ℕ → Bool
is_wrong l sid [] = excludes l sid
is_wrong l sid (b ∷ key) = is_wrong_key l sid (b ∷ key)

abbrev pub with_key : LockTable → ℕ → Option (List ℕ) → LockTable
with_key l sid key = record { exclusive = l.exclusive; keys = slice_set l.keys (sid - 1) key }

-- once the lock was granted
abbrev pub granted : LockTable → ℕ → List ℕ → LockTable
granted l sid [] = record { exclusive = Some sid; keys = l.keys }
granted l sid (b ∷ key) = with_key l sid (Some (b ∷ key))

-- The answer to an ask that is an error or not, and that is due or not; the locks before it, once it is granted, and
-- after it. An error has precedence over a lock that is not due.
abbrev pub RepliesBy : Bool → Bool → LockTable → LockTable → LockReply → LockTable → Type 0
RepliesBy wrong due old after Granted new = (wrong ≡ false) × (due ≡ true) × (new ≡ after)
RepliesBy wrong due old after NotNow new = (wrong ≡ false) × (due ≡ false) × (new ≡ old)
RepliesBy wrong due old after Wrong new = (wrong ≡ true) × (new ≡ old)

-- The answer to an ask, and the locks after it.
abbrev pub Replies : LockTable → ℕ → List ℕ → LockReply → LockTable → Type 0
Replies old sid key reply new =
    RepliesBy (is_wrong old sid key) (grants old sid key) old (granted old sid key) reply new

-- A shared lock is due, and its key may find no memory. An exclusive lock needs none.
abbrev pub MayLackMemory : LockTable → ℕ → List ℕ → Type 0
MayLackMemory l sid [] = ⊥
MayLackMemory l sid (b ∷ key) = (is_wrong l sid (b ∷ key) ≡ false) × (grants l sid (b ∷ key) ≡ true)

-- ---- freeing

abbrev pub without_exclusive : LockTable → LockTable
without_exclusive l = record { exclusive = None; keys = l.keys }

-- what a release frees: the exclusive lock first
abbrev pub freed : LockTable → ℕ → Released
freed l sid = if excludes l sid then Exclusive else (if shares l sid then Shared else Nothing)

abbrev pub released : LockTable → ℕ → LockTable
released l sid = if excludes l sid then without_exclusive l else (if shares l sid then with_key l sid None else l)

-- a session that leaves frees both
abbrev pub without_session : LockTable → ℕ → LockTable
without_session l sid = with_key (if excludes l sid then without_exclusive l else l) sid None
