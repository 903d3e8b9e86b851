-- The rules of locks in terms of the other sessions, and what holds of the locks at all times.
use Rattle.std.specs.Prelude.{◌≡◌, ◌≢◌, ◌≤◌, ℕ, true, ◌⊎◌, ◌↔◌, List, [], ◌∷◌, length, None, Some}
use Rattle.sw_base.specs.Limits.{most_sessions}
use Rattle.sw_hislip.specs.declared.locks.LockReply.{LockReply}
use Rattle.sw_hislip.specs.LockTable.{LockTable, key_of, shares, admits, grants, Replies, released, without_session}

abbrev pub IsSession : ℕ → Type 0
IsSession sid = (1 ≤ sid) × (sid ≤ most_sessions)

abbrev pub NoOtherExcludes : LockTable → ℕ → Type 0
NoOtherExcludes l sid = (other : ℕ) → l.exclusive ≡ Some other → other ≡ sid

abbrev pub NobodyShares : LockTable → Type 0
NobodyShares l = (other : ℕ) → IsSession other → key_of l other ≡ None

abbrev pub NoOtherShares : LockTable → ℕ → Type 0
NoOtherShares l sid = (other : ℕ) → IsSession other → other ≢ sid → key_of l other ≡ None

-- each session that shares a lock has this key
abbrev pub AllHaveKey : LockTable → List ℕ → Type 0
AllHaveKey l key = (other : ℕ) (held : List ℕ) → IsSession other → key_of l other ≡ Some held → held ≡ key

-- The table admits a session where no other holds the exclusive lock, and no session shares a lock or this one does.
abbrev pub Admits : LockTable → ℕ → Type 0
Admits l sid = NoOtherExcludes l sid × (NobodyShares l ⊎ (shares l sid ≡ true))

-- The exclusive lock is granted where no other session holds it, and no other shares one or the asker does; the shared
-- one where no other holds the exclusive one, and all that share one have the same key.
abbrev pub Grants : LockTable → ℕ → List ℕ → Type 0
Grants l sid [] = NoOtherExcludes l sid × (NoOtherShares l sid ⊎ (shares l sid ≡ true))
Grants l sid (b ∷ key) = NoOtherExcludes l sid × AllHaveKey l (b ∷ key)

-- the tests of the code are these rules
pub record AreRules (l : LockTable) (sid : ℕ) : Type 0 where
  pub admitted : (admits l sid ≡ true) ↔ Admits l sid
  pub granted : (key : List ℕ) → (grants l sid key ≡ true) ↔ Grants l sid key

-- ---- order

-- What holds at all times: the holder of the exclusive lock is a session; all sessions that share a lock have one key;
-- and beside the exclusive lock only sessions share one with which its holder shares it.
pub record IsOrderly (l : LockTable) : Type 0 where
  pub sessions : length l.keys ≡ most_sessions
  pub holder : (sid : ℕ) → l.exclusive ≡ Some sid → IsSession sid
  pub one_key : (a b : ℕ) (j k : List ℕ) → IsSession a → IsSession b → key_of l a ≡ Some j → key_of l b ≡ Some k → j ≡ k
  pub beside : (holder other : ℕ) (k : List ℕ) → l.exclusive ≡ Some holder → IsSession other
      → key_of l other ≡ Some k → key_of l holder ≡ Some k

-- what a session does: it asks by a key and gets this answer, releases, or leaves
pub data LockTurn : Type 0 where
  asks : ℕ → List ℕ → LockReply → LockTurn
  releases : ℕ → LockTurn
  leaves : ℕ → LockTurn

-- The turn leads from one table to the other. An ask that found no memory changes nothing, and is none.
abbrev pub LockStep : LockTable → LockTurn → LockTable → Type 0
LockStep old (asks sid key reply) new = IsSession sid × Replies old sid key reply new
LockStep old (releases sid) new = IsSession sid × (new ≡ released old sid)
LockStep old (leaves sid) new = IsSession sid × (new ≡ without_session old sid)

abbrev pub KeepsOrder : LockTable → LockTurn → LockTable → Type 0
KeepsOrder old turn new = IsOrderly old → LockStep old turn new → IsOrderly new
