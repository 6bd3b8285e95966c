pub mod Hilbert
pub mod Grid
pub mod Laws
