-- The laws that belong to no one function, each after those it cites.
pub mod Widened
pub mod Letters
pub mod Rounded
pub mod Engine
pub mod Ordered
