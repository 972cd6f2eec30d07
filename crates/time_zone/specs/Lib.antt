pub mod Faults
pub mod Instants
pub mod Right
