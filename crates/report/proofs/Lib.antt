pub mod Hexed
pub mod Refused
