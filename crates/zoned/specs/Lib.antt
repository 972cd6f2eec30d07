pub mod Faults
pub mod Interpret
pub mod Right
