-- What the public calls leave.
pub mod Called
