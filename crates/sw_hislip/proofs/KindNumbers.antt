-- A number is of one kind.
use Rattle.std.proofs.Common.{◌≡◌, ℕ, List, [], ◌∷◌, refl, sym, ap, ◌∙◌, get_or, if◌then◌else◌, nat_lt, arith}
use Rattle.std.proofs.lemmas.Bool.{lt-ltb, le-ltb}
use Rattle.sw_hislip.specs.declared.kind.Kind.{Kind}
use Rattle.sw_hislip.specs.declared.kind.Kind.TheVariants.{Initialize, InitializeResponse, FatalError, Error, AsyncLock, AsyncLockResponse, Data, DataEnd}
use Rattle.sw_hislip.specs.declared.kind.Kind.TheVariants.{DeviceClearComplete, DeviceClearAcknowledge, AsyncRemoteLocalControl, AsyncRemoteLocalResponse}
use Rattle.sw_hislip.specs.declared.kind.Kind.TheVariants.{Trigger, Interrupted, AsyncInterrupted, AsyncMaximumMessageSize, AsyncMaximumMessageSizeResponse}
use Rattle.sw_hislip.specs.declared.kind.Kind.TheVariants.{AsyncInitialize, AsyncInitializeResponse, AsyncDeviceClear, AsyncServiceRequest, AsyncStatusQuery}
use Rattle.sw_hislip.specs.declared.kind.Kind.TheVariants.{AsyncStatusResponse, AsyncDeviceClearAcknowledge, AsyncLockInfo, AsyncLockInfoResponse, Undefined}
use Rattle.sw_hislip.specs.declared.kind.Kind.TheVariants.{Vendor}
use Rattle.sw_hislip.specs.Kinds.{kind_number, IsKind}

-- the defined kinds in the order of their numbers
abbrev kinds : List Kind
kinds =
    Initialize ∷ InitializeResponse ∷ FatalError ∷ Error ∷ AsyncLock ∷ AsyncLockResponse ∷ Data ∷ DataEnd ∷ DeviceClearComplete ∷
    DeviceClearAcknowledge ∷ AsyncRemoteLocalControl ∷ AsyncRemoteLocalResponse ∷ Trigger ∷ Interrupted ∷ AsyncInterrupted ∷ AsyncMaximumMessageSize ∷
    AsyncMaximumMessageSizeResponse ∷ AsyncInitialize ∷ AsyncInitializeResponse ∷ AsyncDeviceClear ∷ AsyncServiceRequest ∷ AsyncStatusQuery ∷
    AsyncStatusResponse ∷ AsyncDeviceClearAcknowledge ∷ AsyncLockInfo ∷ AsyncLockInfoResponse ∷ []

abbrev kind_of : ℕ → Kind
kind_of n = if nat_lt n 26 then get_or kinds n Data else (if nat_lt n 128 then Undefined n else Vendor n)

kind_back : (k : Kind) → IsKind k → kind_of (kind_number k) ≡ k
kind_back Initialize h = refl
kind_back InitializeResponse h = refl
kind_back FatalError h = refl
kind_back Error h = refl
kind_back AsyncLock h = refl
kind_back AsyncLockResponse h = refl
kind_back Data h = refl
kind_back DataEnd h = refl
kind_back DeviceClearComplete h = refl
kind_back DeviceClearAcknowledge h = refl
kind_back AsyncRemoteLocalControl h = refl
kind_back AsyncRemoteLocalResponse h = refl
kind_back Trigger h = refl
kind_back Interrupted h = refl
kind_back AsyncInterrupted h = refl
kind_back AsyncMaximumMessageSize h = refl
kind_back AsyncMaximumMessageSizeResponse h = refl
kind_back AsyncInitialize h = refl
kind_back AsyncInitializeResponse h = refl
kind_back AsyncDeviceClear h = refl
kind_back AsyncServiceRequest h = refl
kind_back AsyncStatusQuery h = refl
kind_back AsyncStatusResponse h = refl
kind_back AsyncDeviceClearAcknowledge h = refl
kind_back AsyncLockInfo h = refl
kind_back AsyncLockInfoResponse h = refl
kind_back (Undefined n) h = rw (le-ltb n 26 h.0, lt-ltb n 128 h.1) refl
kind_back (Vendor n) h = rw (le-ltb n 26 (omega (arith, h.0)), le-ltb n 128 h.0) refl

pub kind_same : (k l : Kind) → IsKind k → IsKind l → kind_number k ≡ kind_number l → k ≡ l
kind_same k l p q e = sym (kind_back k p) ∙ ap kind_of e ∙ kind_back l q
