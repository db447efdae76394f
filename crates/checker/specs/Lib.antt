-- What the contracts of this crate cite beside the definitions of the crates below.
pub mod Followable
pub mod Raised
pub mod Stepped
pub mod Begun
pub mod LedByRound
