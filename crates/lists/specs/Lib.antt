-- What the contracts of this crate cite beside the definitions of `meaning` and `counts`.
pub mod Members
pub mod Sorted
