pub mod Faults
pub mod Answers
pub mod Agreement
pub mod Events
