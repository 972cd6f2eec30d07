pub mod Rounding
pub mod Words
pub mod Pairs
pub mod Beside
