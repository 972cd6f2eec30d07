pub mod Kept
pub mod Negated
