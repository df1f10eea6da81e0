pub mod OneAnswer
pub mod Reading
pub mod Fitting
pub mod Closing
pub mod Writing
