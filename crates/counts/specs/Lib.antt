-- What the contracts of this crate cite beside the definitions of `meaning`.
pub mod Halves
pub mod Words
