pub mod Lent
pub mod Answered
