pub mod Events
pub mod Changes
pub mod Histories
pub mod Outcomes
pub mod Laws
pub mod Parts
