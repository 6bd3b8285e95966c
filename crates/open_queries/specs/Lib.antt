pub mod Table
pub mod Marks
pub mod View
pub mod Calls
