-- The laws that belong to no one function, each after those it cites.
pub mod Put
pub mod Insert
pub mod Sorted
pub mod Members
pub mod OneMore
pub mod Chains
