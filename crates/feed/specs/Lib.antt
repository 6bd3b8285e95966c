pub mod Bytes
pub mod Heading
pub mod Text
