-- A channel's server from what was heard on.
use Rattle.std.proofs.Common.{◌≡◌, ◌⊎◌, inl, inr, ℕ, List, ◌++◌, length, Option, None, Some, Result, Ok, Err, OnOk, OnErr, ◌∙◌, refl}
use Rattle.std.proofs.Common.{subst, sym}
use Rattle.std.specs.Io.KnownBytes.{Consumes, IsAtEnd, prepend_known}
use Rattle.sw_channels.specs.declared.step.Channel.{Channel}
use Rattle.sw_channels.specs.declared.step.Channel.TheVariants.{Synchronous}
use Rattle.sw_session.specs.declared.fault.ServeFault.{ServeFault}
use Rattle.sw_session.specs.declared.fault.ServeFault.TheVariants.{Read, Write}
use Rattle.sw_talk.specs.Trace.{Entry}
use Rattle.sw_session.specs.ServeEngine.{Station, ServesChannel}
use Rattle.sw_session.specs.Beginning.{NamesChannel}
use Rattle.sw_connections.specs.Reads.{Waited}
use Rattle.sw_connections.specs.declared.connections.Unserved.{Unserved}
use Rattle.sw_workers.specs.Connected.{Mishaps, ConnectionSeen, beside, Fails, ServesFromHeader, RunsSession}

-- the same run, of an input that it consumed as well
serves-as : {D : Type 0} (passes : D → Entry → D → Type 0) (own : Channel) (turns : ℕ) (before after : Station D)
    (input : Option (List ℕ)) (result : Result (Unit {0}) ServeFault)
    → ((bs : List ℕ) → Consumes before.input after.input bs → Consumes input after.input bs)
    → ServesChannel passes own turns before after result → ServesChannel passes own turns (record before { input = input }) after result
serves-as passes own turns before after input result h s =
    let r = s.serves.runs in record {
      engine = s.engine;
      serves = record {
        desk = s.serves.desk;
        runs = record {
          read = r.read;
          lost = r.lost;
          reads = h (r.read ++ r.lost) r.reads;
          loses = r.loses;
          inputs = r.inputs;
          paused = r.paused;
          pending = r.pending;
          follows = r.follows;
          stream = r.stream;
          ends = r.ends;
        };
        leaves = s.serves.leaves;
      };
    }

-- what was read ahead and comes again is consumed once
consumed-again : (input rest left : Option (List ℕ)) (header bs : List ℕ) → Consumes input rest header → Consumes (prepend_known header rest) left bs
    → Consumes input left bs
consumed-again None rest left header bs p q = tt
consumed-again (Some xs) None left header bs p q = absurd p
consumed-again (Some xs) (Some ys) None header bs p q = absurd q
consumed-again (Some xs) (Some ys) (Some zs) header bs p q = p ∙ q

-- a header is whole, or the input ended or failed in it
pub whole-or : {A E : Type 0} (P Q F U : Type 0) (result : Result A E) → (F → U) → OnOk result (P ⊎ Q) → OnErr result F → P ⊎ Q ⊎ U
whole-or P Q F U (Ok x) f (inl p) e = inl p
whole-or P Q F U (Ok x) f (inr q) e = inr (inl q)
whole-or P Q F U (Err x) f o e = inr (inr (f e))

pub connects : {D : Type 0} (passes : D → Entry → D → Type 0) (m : Mishaps) (turns : ℕ) (before after : ConnectionSeen D) (rest : Option (List ℕ))
    (pauses : Option ℕ) (result : Result (Unit {0}) ServeFault) (header bytes : List ℕ) (channel own : Channel)
    → NamesChannel header channel → own ≡ channel → bytes ≡ header → Consumes before.input rest header
    → (length header ≡ 16) ⊎ IsAtEnd rest ⊎ m.unheard rest pauses → Waited before.pauses pauses
    → ((side : Option (List ℕ)) × (side' : Option (List ℕ))
    × ServesChannel passes channel turns (beside side (record before { input = prepend_known bytes rest; pauses = pauses })) (beside side' after) result)
    → (result ≡ Err Read → m.unread) → (result ≡ Err Write → m.unwritten ⊎ ((own ≡ Synchronous) × m.refused))
    → ServesFromHeader passes m turns before after result
connects passes m turns before after rest pauses result header bytes channel own names is same begins whole waited serves read write = record {
  header = header;
  rest = rest;
  begins = begins;
  whole = whole;
  pauses = pauses;
  waited = waited;
  channel = channel;
  names = names;
  side = serves.0;
  side' = serves.1;
  serves = serves-as passes channel turns (beside serves.0 (record before { input = prepend_known bytes rest; pauses = pauses })) (beside serves.1 after)
      before.input result
      (λ bs q. consumed-again before.input rest after.input header bs begins
      (subst (λ (front : List ℕ). Consumes (prepend_known front rest) after.input bs) same q)) serves.2;
  read = read;
  write = subst (λ (c : Channel). result ≡ Err Write → m.unwritten ⊎ ((c ≡ Synchronous) × m.refused)) is write;
}

-- a write of the first channel failed, or what it left to the second one was refused
pub of_first : {U S R : Type 0} → U ⊎ Fails (λ (old new : S). R) → U ⊎ ((Synchronous ≡ Synchronous) × R)
of_first (inl u) = inl u
of_first (inr f) = inr (refl, f.2)

-- a write of the second channel failed: it leaves nothing to the first one
pub of_second : {U S R : Type 0} → U ⊎ Fails (λ (old new : S). ⊥) → U ⊎ R
of_second (inl u) = inl u
of_second (inr f) = absurd f.2

-- one that is not turned away is served
pub is_served : {D : Type 0} (passes : D → Entry → D → Type 0) (m : Mishaps) (turned_away : Unserved → Type 0) (turns : ℕ)
    (before after : ConnectionSeen D) (unserved : Option Unserved) (result : Result (Unit {0}) ServeFault)
    → unserved ≡ None → ServesFromHeader passes m turns before after result
    → RunsSession passes m turned_away turns before after unserved result
is_served passes m turned_away turns before after unserved result none serves =
    subst (λ u. RunsSession passes m turned_away turns before after u result) (sym none) serves
