pub mod LedLemmas
pub mod LinesLemmas
pub mod QuotedLemmas
pub mod TalksLemmas
pub mod BeginsLemmas
pub mod NearerLemmas
pub mod KeepingLemmas
pub mod HandedBackLemmas
pub mod ActedLemmas
pub mod DeterminedLemmas
pub mod CoreTalkLemmas
mod OrderLemmas
pub mod DeskRunsLemmas
mod NotingLemmas
