-- The laws that the proofs of the functions cite: half a round in masks, and a round in eight counts.
pub mod Halves
pub mod Stepped
