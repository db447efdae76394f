-- The laws that belong to no one function, each after those it cites.
pub mod Positions
pub mod Kept
pub mod Climb
pub mod Meets
pub mod ClimbPairs
pub mod SameTops
pub mod Thinned
pub mod Picked
pub mod Paired
pub mod United
pub mod Held
pub mod Collect
