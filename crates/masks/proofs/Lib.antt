-- The laws of masks, which every function that reads or sets a bit cites.
pub mod Masks
