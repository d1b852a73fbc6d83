pub mod BytesLemmas
pub mod LineLemmas
pub mod Digits
pub mod DecimalDigits
mod TrialLemmas
