pub mod Commands
pub mod Readings
pub mod Statements
pub mod Tables
pub mod Told
pub mod Writings
