-- What the contracts of this crate cite beside the definitions of `meaning`, `counts` and `lists`.
pub mod Tops
pub mod Candidates
pub mod Held
