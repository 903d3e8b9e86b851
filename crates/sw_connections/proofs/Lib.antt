mod AdmissionLemmas
mod SideLemmas
mod WaitedLemmas
