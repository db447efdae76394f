-- What the contracts of this program cite beside the definitions of `meaning`, `masks` and `counts`.
pub mod Shown
