mod CarriesLemmas
mod WorkedLemmas
pub mod EjectedLemmas
mod OpenedLemmas
mod AbortedLemmas
mod AskedLemmas
mod ServingLemmas
mod WaitedLemmas
mod HalvesLemmas
