-- The laws that the proofs of the functions cite: the rounds in lists.
pub mod Runs
pub mod Settles
pub mod First
