pub mod Passing
pub mod Signs
pub mod Table
pub mod Standing
pub mod Sets
pub mod Members
