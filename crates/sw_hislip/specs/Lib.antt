pub mod Kinds
pub mod Wire
pub mod Pending
pub mod Stream
pub mod LockTable
pub mod LockRules
