pub mod Alike
pub mod Cutting
pub mod Digits
pub mod Fractions
