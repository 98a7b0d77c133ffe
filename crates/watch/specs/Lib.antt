pub mod Cells
pub mod Feeding
pub mod Lattices
pub mod Marking
pub mod Life
pub mod Verdict
pub mod Played
pub mod Windows
