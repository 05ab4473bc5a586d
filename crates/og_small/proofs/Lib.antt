pub mod AcceptedLemmas
pub mod EquilibriumLemmas
pub mod MeaningLemmas
