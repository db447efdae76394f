-- The laws that belong to no one function, each after those it cites.
pub mod Counts
pub mod Room
pub mod Raising
pub mod Leading
pub mod Stated
pub mod Stepping
pub mod Tracks
pub mod InOrder
pub mod Demands
