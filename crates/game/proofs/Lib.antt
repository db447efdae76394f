-- The laws that the proofs of the functions cite: the answer, and the order of the checks.
pub mod Finished
pub mod Listed
pub mod InOrder
pub mod Solved
pub mod Demands
