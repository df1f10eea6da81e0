pub mod Points
pub mod Placements
pub mod Titles
pub mod Rules
pub mod Members
