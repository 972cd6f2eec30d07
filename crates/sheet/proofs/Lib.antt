mod Ranges
mod Rights
