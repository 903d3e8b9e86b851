mod SlotCardsLemmas
mod ClosingLemmas
pub mod FittingLemmas
