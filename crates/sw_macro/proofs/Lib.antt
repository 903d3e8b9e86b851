pub mod LabelsLemmas
pub mod TablesLemmas
pub mod FillingsLemmas
pub mod ExpansionsLemmas
pub mod CutsLemmas
pub mod LimitsKeptLemmas
