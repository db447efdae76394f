-- What everything means, in the order of document 01.
pub mod Lists
pub mod Records
pub mod Table
pub mod Counting
pub mod Compared
pub mod Signed
pub mod Rounds
pub mod Written
pub mod Join
pub mod Checks
pub mod Answers
pub mod Play
pub mod Controller
pub mod Calls
pub mod Demands
