pub mod Clock
pub mod Instants
