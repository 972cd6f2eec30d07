mod Readings
mod Wholes
pub mod Counts
