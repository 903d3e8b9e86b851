-- What holds of the locks at all times.
use Rattle.std.proofs.Common.{◌≡◌, ℕ, ◌-◌, true, false, cond, is_some, is_none, List, [], ◌∷◌, length, Option, Some, None, refl}
use Rattle.std.proofs.Common.{sym, ap, ◌∙◌, arith, inl, inr, subst}
use Rattle.std.proofs.lemmas.Bool.{cases_eq, cases_Bool, eq-eqb, and_parts, both_ways, cond-true, cond-false}
use Rattle.std.proofs.lemmas.List.{get_or-set_same, get_or-set_other, length-set}
use Rattle.std.proofs.lemmas.List.Folds.{list_all_at}
use Rattle.std.specs.List.{list_all}
use Rattle.sw_hislip.specs.declared.locks.LockReply.TheVariants.{Granted, NotNow, Wrong}
use Rattle.sw_hislip.specs.LockTable.{LockTable, no_locks, key_of, shares, excludes, is_holder, with_key, without_exclusive, released, without_session, granted}
use Rattle.sw_hislip.specs.LockTable.{grants, grants_shared}
use Rattle.sw_hislip.specs.LockRules.{IsSession, NoOtherExcludes, AllHaveKey, Grants, IsOrderly, LockTurn, asks, releases, leaves, KeepsOrder}
use Rattle.sw_hislip.proofs.LockProofs.{alone, all_have, are_rules, none_at}

some_is : (x : Option (List ℕ)) → is_some x ≡ true → (k : List ℕ) × (x ≡ Some k)
some_is None h = absurd cc
some_is (Some k) h = (k, refl)

not_none : (x : Option (List ℕ)) (k : List ℕ) → x ≡ None → x ≡ Some k → ⊥
not_none None k h e = absurd cc
not_none (Some j) k h e = absurd cc

same_some : (x : Option (List ℕ)) (j k : List ℕ) → x ≡ Some j → x ≡ Some k → j ≡ k
same_some None j k p q = absurd cc
same_some (Some i) j k p q = cc

same_holder : (e : Option ℕ) (m n : ℕ) → e ≡ Some m → e ≡ Some n → m ≡ n
same_holder None m n p q = absurd cc
same_holder (Some i) m n p q = cc

-- ---- the key of a session after another one's changed

key_same : (l : LockTable) (sid : ℕ) (k : Option (List ℕ)) → length l.keys ≡ 16 → IsSession sid → key_of (with_key l sid k) sid ≡ k
key_same l sid k n s = get_or-set_same l.keys (sid - 1) k None (omega (arith, n, s.0, s.1))

key_other : (l : LockTable) (sid other : ℕ) (k : Option (List ℕ)) → IsSession sid → IsSession other → (other ≡ sid → ⊥)
    → key_of (with_key l sid k) other ≡ key_of l other
key_other l sid other k s t differ = get_or-set_other l.keys (sid - 1) (other - 1) k None (λ e. differ (omega (arith, e, s.0, t.0)))

-- once a session shares a lock, some key is held
pub one_held : (l : LockTable) (sid : ℕ) (key : List ℕ) → length l.keys ≡ 16 → IsSession sid → list_all is_none (with_key l sid (Some key)).keys ≡ false
one_held l sid key n s =
    let new = with_key l sid (Some key) in
    let many : length new.keys ≡ 16 = length-set l.keys (sid - 1) (Some key) ∙ n in
    list_all_at is_none new.keys (sid - 1) None (omega (arith, many, s.0, s.1)) (ap is_none (key_same l sid (Some key) n s))

-- ---- a grant

grants_exclusive : (l : LockTable) (sid : ℕ) → IsSession sid → IsOrderly l → Grants l sid [] → IsOrderly (granted l sid [])
grants_exclusive l sid s o g = record {
  sessions = o.sessions;
  holder = λ other e. subst IsSession (same_holder (Some sid) sid other refl e) s;
  one_key = o.one_key;
  beside = λ holder other k e t own.
      let same : sid ≡ holder = same_holder (Some sid) sid holder refl e in
      let here : key_of l sid ≡ Some k =
      elim (cases_eq other sid) [
        | inl one ↦ sym (ap (key_of l) one) ∙ own
        | inr differ ↦ elim g.1 [
          | inl none ↦ absurd (not_none (key_of l other) k (none other t differ) own)
          | inr shared ↦
              let held = some_is (key_of l sid) shared in
              held.1 ∙ ap Some (o.one_key sid other held.0 k s t held.1 own)
        ]
      ] in
      sym (ap (key_of l) same) ∙ here;
}

grants_key : (l : LockTable) (sid : ℕ) (key : List ℕ) → IsSession sid → IsOrderly l → NoOtherExcludes l sid → AllHaveKey l key
    → IsOrderly (with_key l sid (Some key))
grants_key l sid key s o alone all =
    let new = with_key l sid (Some key) in
    let has : (other : ℕ) (k : List ℕ) → IsSession other → key_of new other ≡ Some k → k ≡ key = λ other k t own.
    elim (cases_eq other sid) [
      | inl one ↦ same_some (key_of new sid) k key (sym (ap (key_of new) one) ∙ own) (key_same l sid (Some key) o.sessions s)
      | inr differ ↦ all other k t (sym (key_other l sid other (Some key) s t differ) ∙ own)
    ] in
    record {
      sessions = length-set l.keys (sid - 1) (Some key) ∙ o.sessions;
      holder = o.holder;
      one_key = λ a b j k s' t p q. has a j s' p ∙ sym (has b k t q);
      beside = λ holder other k e t own.
          ap (key_of new) (alone holder e) ∙ key_same l sid (Some key) o.sessions s ∙ ap Some (sym (has other k t own));
    }

pub shares_orderly : (l : LockTable) (sid : ℕ) (key : List ℕ) → IsSession sid → IsOrderly l → grants_shared l sid key ≡ true
    → IsOrderly (with_key l sid (Some key))
shares_orderly l sid key s o g =
    let both = and_parts _ _ g in
    grants_key l sid key s o ((alone l.exclusive sid).0 both.0) ((all_have l key o.sessions).0 both.1)

grants_orderly : (l : LockTable) (sid : ℕ) (key : List ℕ) → IsSession sid → IsOrderly l → grants l sid key ≡ true → IsOrderly (granted l sid key)
grants_orderly l sid [] s o g = grants_exclusive l sid s o (((are_rules l sid o.sessions).granted []).0 g)
grants_orderly l sid (b ∷ key) s o g = shares_orderly l sid (b ∷ key) s o g

-- ---- a lock is freed

frees_exclusive : (l : LockTable) → IsOrderly l → IsOrderly (without_exclusive l)
frees_exclusive l o = record {
  sessions = o.sessions;
  holder = λ other e. absurd cc;
  one_key = o.one_key;
  beside = λ holder other k e t own. absurd cc;
}

frees_key : (l : LockTable) (sid : ℕ) → IsSession sid → IsOrderly l → excludes l sid ≡ false → IsOrderly (with_key l sid None)
frees_key l sid s o not_holder =
    let new = with_key l sid None in
    let had : (other : ℕ) (k : List ℕ) → IsSession other → key_of new other ≡ Some k → key_of l other ≡ Some k = λ other k t own.
    elim (cases_eq other sid) [
      | inl one ↦ absurd (not_none (key_of new sid) k (key_same l sid None o.sessions s) (sym (ap (key_of new) one) ∙ own))
      | inr differ ↦ sym (key_other l sid other None s t differ) ∙ own
    ] in
    record {
      sessions = length-set l.keys (sid - 1) None ∙ o.sessions;
      holder = o.holder;
      one_key = λ a b j k s' t p q. o.one_key a b j k s' t (had a j s' p) (had b k t q);
      beside = λ holder other k e t own.
          let apart : holder ≡ sid → ⊥ = λ one. both_ways (excludes l sid) not_holder (ap (is_holder sid) e ∙ eq-eqb holder sid one) in
          key_other l sid holder None s (o.holder holder e) apart ∙ o.beside holder other k e t (had other k t own);
    }

release_orderly : (l : LockTable) (sid : ℕ) → IsSession sid → IsOrderly l → IsOrderly (released l sid)
release_orderly l sid s o =
    let rest = cond (shares l sid) (with_key l sid None) l in
    elim (cases_Bool (excludes l sid)) [
      | inl own ↦ subst IsOrderly (sym (cond-true (excludes l sid) (without_exclusive l) rest own)) (frees_exclusive l o)
      | inr not_own ↦ subst IsOrderly (sym (cond-false (excludes l sid) (without_exclusive l) rest not_own))
          (elim (cases_Bool (shares l sid)) [
            | inl shared ↦ subst IsOrderly (sym (cond-true (shares l sid) (with_key l sid None) l shared)) (frees_key l sid s o not_own)
            | inr none ↦ subst IsOrderly (sym (cond-false (shares l sid) (with_key l sid None) l none)) o
          ])
    ]

leave_orderly : (l : LockTable) (sid : ℕ) → IsSession sid → IsOrderly l → IsOrderly (without_session l sid)
leave_orderly l sid s o =
    elim (cases_Bool (excludes l sid)) [
      | inl own ↦ subst (λ (x : LockTable). IsOrderly (with_key x sid None)) (sym (cond-true (excludes l sid) (without_exclusive l) l own))
          (frees_key (without_exclusive l) sid s (frees_exclusive l o) refl)
      | inr not_own ↦ subst (λ (x : LockTable). IsOrderly (with_key x sid None)) (sym (cond-false (excludes l sid) (without_exclusive l) l not_own))
          (frees_key l sid s o not_own)
    ]

-- ---- one step

pub step_orderly : (old new : LockTable) (turn : LockTurn) → KeepsOrder old turn new
step_orderly old new (asks sid key Granted) o (s, (right, grant, same)) = subst IsOrderly (sym same) (grants_orderly old sid key s o grant)
step_orderly old new (asks sid key NotNow) o (s, (right, not_now, same)) = subst IsOrderly (sym same) o
step_orderly old new (asks sid key Wrong) o (s, (why, same)) = subst IsOrderly (sym same) o
step_orderly old new (releases sid) o (s, same) = subst IsOrderly (sym same) (release_orderly old sid s o)
step_orderly old new (leaves sid) o (s, same) = subst IsOrderly (sym same) (leave_orderly old sid s o)

pub first_orderly : IsOrderly no_locks
first_orderly = record {
  sessions = refl;
  holder = λ sid e. absurd cc;
  one_key = λ a b j k s t p q. absurd (not_none (key_of no_locks a) j (none_at no_locks.keys (a - 1) refl) p);
  beside = λ holder other k e t own. absurd cc;
}
