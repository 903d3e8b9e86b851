-- Numbers of the kinds of messages (IVI-6.1 HiSLIP, message type value definitions).
use Rattle.std.specs.Prelude.{ℕ, ◌<◌, ◌≤◌}
use Rattle.sw_hislip.specs.declared.kind.Kind.{Kind}
use Rattle.sw_hislip.specs.declared.kind.Kind.TheVariants.{Initialize, InitializeResponse, FatalError, Error, AsyncLock}
use Rattle.sw_hislip.specs.declared.kind.Kind.TheVariants.{AsyncLockResponse, Data, DataEnd, DeviceClearComplete}
use Rattle.sw_hislip.specs.declared.kind.Kind.TheVariants.{DeviceClearAcknowledge, AsyncRemoteLocalControl}
use Rattle.sw_hislip.specs.declared.kind.Kind.TheVariants.{AsyncRemoteLocalResponse, Trigger, Interrupted}
use Rattle.sw_hislip.specs.declared.kind.Kind.TheVariants.{AsyncInterrupted, AsyncMaximumMessageSize}
use Rattle.sw_hislip.specs.declared.kind.Kind.TheVariants.{AsyncMaximumMessageSizeResponse, AsyncInitialize}
use Rattle.sw_hislip.specs.declared.kind.Kind.TheVariants.{AsyncInitializeResponse, AsyncDeviceClear}
use Rattle.sw_hislip.specs.declared.kind.Kind.TheVariants.{AsyncServiceRequest, AsyncStatusQuery, AsyncStatusResponse}
use Rattle.sw_hislip.specs.declared.kind.Kind.TheVariants.{AsyncDeviceClearAcknowledge, AsyncLockInfo}
use Rattle.sw_hislip.specs.declared.kind.Kind.TheVariants.{AsyncLockInfoResponse, Undefined, Vendor}

-- the number in the header
abbrev pub kind_number : Kind → ℕ
kind_number Initialize = 0
kind_number InitializeResponse = 1
kind_number FatalError = 2
kind_number Error = 3
kind_number AsyncLock = 4
kind_number AsyncLockResponse = 5
kind_number Data = 6
kind_number DataEnd = 7
kind_number DeviceClearComplete = 8
kind_number DeviceClearAcknowledge = 9
kind_number AsyncRemoteLocalControl = 10
kind_number AsyncRemoteLocalResponse = 11
kind_number Trigger = 12
kind_number Interrupted = 13
kind_number AsyncInterrupted = 14
kind_number AsyncMaximumMessageSize = 15
kind_number AsyncMaximumMessageSizeResponse = 16
kind_number AsyncInitialize = 17
kind_number AsyncInitializeResponse = 18
kind_number AsyncDeviceClear = 19
kind_number AsyncServiceRequest = 20
kind_number AsyncStatusQuery = 21
kind_number AsyncStatusResponse = 22
kind_number AsyncDeviceClearAcknowledge = 23
kind_number AsyncLockInfo = 24
kind_number AsyncLockInfoResponse = 25
kind_number (Undefined n) = n
kind_number (Vendor n) = n

-- the number in a kind is in that kind's range, so that each number from 0 to 255 is of one kind
abbrev pub IsKind : Kind → Type 0
IsKind (Undefined n) = (26 ≤ n) × (n < 128)
IsKind (Vendor n) = (128 ≤ n) × (n < 256)
IsKind kind = Unit {0}
