pub mod Accounts
pub mod Descriptions
pub mod Ends
pub mod Facts
pub mod Fresh
pub mod Holders
pub mod Lawful
pub mod Ledgers
pub mod Moves
pub mod Registers
pub mod Resets
mod Runs
pub mod TwoRuns
pub mod Views
pub mod Wipes
mod Wirings
pub mod Words
