-- The laws that the proofs of the functions cite: what is written from a list of winners.
pub mod Chains
pub mod Stepped
pub mod Orders
pub mod Bytes
pub mod Rows
pub mod Blocks
