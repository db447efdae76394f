-- The laws that the proofs of the functions cite, and demand 3 for what the calls leave.
pub mod Pairs
pub mod Settles
pub mod Stages
pub mod Demands
