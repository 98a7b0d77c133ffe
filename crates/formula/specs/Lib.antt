pub mod Formula
pub mod Grades
pub mod Published
pub mod Known
pub mod Sides
pub mod Laws
pub mod Neighbours
