pub mod Quarters
pub mod Orders
