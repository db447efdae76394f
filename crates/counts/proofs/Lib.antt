-- The laws that belong to no one function, each after those it cites.
pub mod Signed
pub mod Edges
pub mod Halves
pub mod Wide
pub mod Lesser
pub mod Bytes
pub mod Compared
pub mod Made
pub mod Packing
pub mod Bars
pub mod Charging
pub mod Spreads
