pub mod WordLemmas
pub mod EndLemmas
pub mod InputLemmas
pub mod OneInput
