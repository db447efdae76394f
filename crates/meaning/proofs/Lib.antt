-- The laws, in the order of the argument.
-- tests and lists
pub mod Tests
pub mod Lists
pub mod Searches
pub mod Sizes
pub mod Ascending
-- steps
pub mod Restated
pub mod Steps
pub mod Signed
-- positions and rounds
pub mod Compared
pub mod Positions
pub mod Rounds
pub mod Maximal
-- winning
pub mod Good
pub mod Winning
pub mod Realizes
-- rows
pub mod Lookups
pub mod Rows
-- records and checks
pub mod Records
pub mod Formed
pub mod Shape
pub mod Followed
pub mod Blocks
pub mod Checks
pub mod Codes
pub mod Answers
pub mod Sound
pub mod SameRecords
-- buffers
pub mod Stores
pub mod Buffers
pub mod Readings
-- joins: two tables side by side, their records, and what follows for the calls
pub mod Follows
pub mod Union
pub mod Parts
pub mod PairLists
pub mod Swap
pub mod Widths
pub mod Stands
pub mod Growing
pub mod JoinKinds
pub mod JoinUnion
pub mod JoinGood
pub mod JoinOrder
pub mod Join
-- the calls: what a caller is told, what a stage's answer means, FULL, and calls that agree
pub mod Told
pub mod Stages
pub mod Full
pub mod NotFull
pub mod Afresh
pub mod Alike
-- rows from elsewhere, and those that were written here
pub mod Checked
-- cases and demands
pub mod Cases
pub mod Demands
pub mod Own
