pub mod SlotChangeLemmas
pub mod ChannelCallLemmas
pub mod ClosedListLemmas
mod ComparedListLemmas
pub mod ClaimLemmas
pub mod ExclusionLemmas
mod OneSlotLemmas
mod SharedLemmas
pub mod CardLemmas
mod ClaimedLemmas
pub mod MaskLemmas
pub mod StepLemmas
pub mod PlaceLemmas
pub mod LayoutLemmas
pub mod KeptLemmas
pub mod MoveLemmas
pub mod UnderwayLemmas
pub mod AdvanceLemmas
pub mod ClosedMemberLemmas
pub mod HappeningLemmas
pub mod ExclusiveScanLemmas
pub mod FailureLemmas
pub mod MovesLemmas
