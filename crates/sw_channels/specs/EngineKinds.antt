-- What a message asks for on each of the two channels, by its kind (IVI-6.1 HiSLIP, message type value definitions).
use Rattle.sw_hislip.specs.declared.kind.Kind.{Kind}
use Rattle.sw_channels.specs.declared.requests.SyncRequest.{SyncRequest}
use Rattle.sw_channels.specs.declared.requests.SyncRequest.TheVariants as Sync
use Rattle.sw_channels.specs.declared.requests.AsyncRequest.{AsyncRequest}
use Rattle.sw_channels.specs.declared.requests.AsyncRequest.TheVariants as Async

-- the synchronous channel serves these; what belongs to the other one, what only an instrument sends and what version
-- 1.0 gives no meaning is misplaced
abbrev pub sync_request : Kind → SyncRequest
sync_request Kind.Data = Sync.Part
sync_request Kind.DataEnd = Sync.End
sync_request Kind.Trigger = Sync.Trigger
sync_request Kind.DeviceClearComplete = Sync.ClearComplete
sync_request Kind.FatalError = Sync.Leave
sync_request Kind.Error = Sync.Nothing
sync_request Kind.Initialize = Sync.Initialize
sync_request Kind.AsyncInitialize = Sync.Initialize
sync_request (Kind.Vendor n) = Sync.Vendor
sync_request kind = Sync.Misplaced

-- the asynchronous channel serves these
abbrev pub async_request : Kind → AsyncRequest
async_request Kind.AsyncMaximumMessageSize = Async.Size
async_request Kind.AsyncLock = Async.Lock
async_request Kind.AsyncLockInfo = Async.LockInfo
async_request Kind.AsyncRemoteLocalControl = Async.RemoteLocal
async_request Kind.AsyncStatusQuery = Async.Status
async_request Kind.AsyncDeviceClear = Async.Clear
async_request Kind.FatalError = Async.Leave
async_request Kind.Error = Async.Nothing
async_request Kind.Initialize = Async.Initialize
async_request Kind.AsyncInitialize = Async.Initialize
async_request (Kind.Vendor n) = Async.Vendor
async_request kind = Async.Misplaced
