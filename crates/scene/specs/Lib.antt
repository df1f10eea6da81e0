pub mod Refusals
pub mod Checks
pub mod Scenes
pub mod Laws
pub mod Marks
pub mod Layers
