-- Messages that are handed over one after another.
use Rattle.std.proofs.Common.{◌≡◌, ◌≢◌, Result, Ok, Err, Some, ℕ, List, [], ◌∷◌, ◌++◌, refl, sym, ap, ◌∙◌, append_assoc, append-nil, subst, flat_map, Option}
use Rattle.std.proofs.lemmas.List.Concat.{flat_map-append}
use Rattle.std.specs.Io.KnownBytes.{Appends}
use Rattle.sw_channels.specs.declared.step.Sent.{Sent}
use Rattle.sw_session.specs.declared.fault.ServeFault.{ServeFault}
use Rattle.sw_session.specs.declared.fault.ServeFault.TheVariants as Fault
use Rattle.sw_channels.specs.InParts.{GivesFirst}
use Rattle.sw_talk.specs.Trace.{Entry, Leads}
use Rattle.sw_session.specs.ServeWrite.{wire_on, wire_off}
use Rattle.sw_session.specs.ServePoint.{Voice, Point}
use Rattle.sw_session.specs.ServeHand.{notes_before, availability_notes, HandsOver, HandsOne, HandsUpTo, FailsAt}
use Rattle.sw_session.proofs.ServeKnownLemmas.{appends-nothing, appends-more}
use Rattle.sw_session.proofs.ServePartsLemmas.{onward}

pub record Handing {E D : Type 0} (u : Voice E D) (all left : List Sent) (a b : Point E D) : Type 0 where
  pub done : List Sent
  pub parts : all ≡ done ++ left
  pub hands : HandsOver u a b done

pub handing-start : {E D : Type 0} (u : Voice E D) (all : List Sent) (a : Point E D) → Handing u all all a a
handing-start u all a = record {
  done = [];
  parts = refl;
  hands = record { engine = refl; notes = refl; main = appends-nothing a.main; side = appends-nothing a.side };
}

-- what comes of one more
one-more : {A : Type 0} (f : Sent → List A) (done : List Sent) (x : Sent) → flat_map f done ++ f x ≡ flat_map f (done ++ x ∷ [])
one-more f done x = sym (flat_map-append f done (x ∷ []) ∙ ap (λ l. flat_map f done ++ l) (append-nil (f x)))

more-bytes : (f : Sent → List ℕ) (a b c : Option (List ℕ)) (done : List Sent) (x : Sent) → Appends a b (flat_map f done) → Appends b c (f x)
    → Appends a c (flat_map f (done ++ x ∷ []))
more-bytes f a b c done x p q = subst (λ (l : List ℕ). Appends a c l) (one-more f done x) (appends-more a b c (flat_map f done) (f x) p q)

more-handed : {E D F : Type 0} (u : Voice E D) (a b c : Point E D) (done : List Sent) (x : Sent) → HandsOver u a b done
    → HandsOne {F = F} u b c x (Ok tt) → HandsOver u a c (done ++ x ∷ [])
more-handed u a b c done x h k = record {
  engine = k.engine ∙ h.engine;
  notes = subst (λ (l : List Entry). Leads u.passes a.desk l c.desk) (one-more (notes_before (u.protocol.session a.engine)) done x)
      (onward u.passes a.desk b.desk c.desk (availability_notes (u.protocol.session a.engine) done) (notes_before (u.protocol.session a.engine) x) h.notes
      (subst (λ e. Leads u.passes b.desk (notes_before (u.protocol.session e) x) c.desk) h.engine k.notes));
  main = more-bytes (wire_on u.own) a.main b.main c.main done x h.main k.main;
  side = more-bytes (wire_off u.own) a.side b.side c.side done x h.side k.side;
}

pub handing-on : {E D F : Type 0} (u : Voice E D) (all left rest : List Sent) (x : Sent) (a b c : Point E D) → left ≡ x ∷ rest → Handing u all left a b
    → HandsOne {F = F} u b c x (Ok tt) → Handing u all rest a c
handing-on {F = F} u all left rest x a b c e h k = record {
  done = h.done ++ x ∷ [];
  parts = h.parts ∙ ap (λ (l : List Sent). h.done ++ l) e ∙ sym (append_assoc h.done (x ∷ []) rest);
  hands = more-handed {F = F} u a b c h.done x h.hands k;
}

pub handing-all : {E D : Type 0} (u : Voice E D) (all left : List Sent) (a b : Point E D) → left ≡ [] → Handing u all left a b → HandsOver u a b all
handing-all u all left a b e h =
    subst (λ (l : List Sent). HandsOver u a b l) (sym (h.parts ∙ ap (λ (l : List Sent). h.done ++ l) e ∙ append-nil h.done)) h.hands

pub handing-cut : {E D : Type 0} (u : Voice E D) (all left rest : List Sent) (x : Sent) (a b c : Point E D) (fault : ServeFault) → left ≡ x ∷ rest
    → Handing u all left a b → FailsAt u b c x fault → HandsUpTo u a c all fault
handing-cut u all left rest x a b c fault e h f = record {
  whole = h.done;
  next = x;
  rest = rest;
  said_is = h.parts ∙ ap (λ (l : List Sent). h.done ++ l) e;
  mid = b;
  hands = h.hands;
  fails = f;
}

-- whatever its writer tells
pub part-handed : {E D F : Type 0} (u : Voice E D) (b c : Point E D) (x : Sent) (r : Result (Unit {0}) F) (why : F) → r ≡ Err why → HandsOne u b c x r
    → FailsAt u b c x Fault.Write
part-handed {F = F} u b c x r why e h =
    let k : HandsOne u b c x (Err why) = subst (λ (q : Result (Unit {0}) F). HandsOne u b c x q) e h in
    record { engine = k.engine; notes = k.notes; main = k.main; side = k.side }

pub all-handed : {E D F : Type 0} (u : Voice E D) (b c : Point E D) (x : Sent) (r : Result (Unit {0}) F) → r ≡ Ok tt → HandsOne u b c x r
    → HandsOne {F = F} u b c x (Ok tt)
all-handed {F = F} u b c x r e h = subst (λ (q : Result (Unit {0}) F). HandsOne u b c x q) e h

-- the next message is given, or there was no memory for it
pub gives-one : {E : Type 0} (old new : List Sent) (r : Result (Option Sent) E) (first : Sent) → r ≡ Ok (Some first) → GivesFirst old r new
    → old ≡ first ∷ new
gives-one {E} old new r first e g = subst (λ (t : Result (Option Sent) E). GivesFirst old t new) e g

pub handing-lost : {E D : Type 0} (u : Voice E D) (all left : List Sent) (a b : Point E D) → left ≢ [] → Handing u all left a b
    → HandsUpTo u a b all Fault.NoMemory
handing-lost u all [] a b some h = absurd (some refl)
handing-lost u all (x ∷ rest) a b some h = handing-cut u all (x ∷ rest) rest x a b b Fault.NoMemory refl h refl
