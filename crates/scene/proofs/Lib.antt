pub mod Positions
pub mod Pile
pub mod RowByRow
pub mod Marking
pub mod Owned
pub mod Firsts
pub mod Rows
