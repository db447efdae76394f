-- How the rounds stand in code.
pub mod Rounds
