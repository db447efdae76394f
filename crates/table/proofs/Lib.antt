-- The laws that belong to no one function, each after those it cites.
pub mod Chains
pub mod Records
pub mod OneMore
pub mod Edges
pub mod Unpacked
pub mod Good
pub mod Judged
