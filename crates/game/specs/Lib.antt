-- How a stage ends, in code.
pub mod Finished
