pub mod Marks
pub mod Items
pub mod Parts
pub mod Judging
pub mod Printed
pub mod Joining
pub mod PositionJudging
pub mod Joined
