-- What the contracts of this crate cite beside the definitions of `meaning` and of the crates that it uses.
pub mod Engine
