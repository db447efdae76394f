-- The laws that the proofs of the functions cite: the checks of two tables, and the bytes of the joined one.
pub mod Paired
pub mod Appended
