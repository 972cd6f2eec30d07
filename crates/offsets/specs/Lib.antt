pub mod Ends
pub mod Offsets
pub mod Readers
pub mod Possible
pub mod Members
pub mod Laws
pub mod Starts
