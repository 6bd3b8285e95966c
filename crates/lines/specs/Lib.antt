pub mod Message
pub mod MessageFaults
pub mod Meaning
pub mod Ring
pub mod Cell
pub mod Spool
