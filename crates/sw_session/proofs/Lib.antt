pub mod ServeKnownLemmas
pub mod ServePartsLemmas
pub mod ServeHandsLemmas
pub mod ServeWaysLemmas
pub mod ServeTurnsLemmas
pub mod HeardLemmas
pub mod ServeSpeaksLemmas
pub mod ServerLemmas
