-- The laws that belong to no one function, each after those it cites.
pub mod Cut
pub mod Reading
pub mod Marking
pub mod Placing
