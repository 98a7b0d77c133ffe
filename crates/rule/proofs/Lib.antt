pub mod Trees
pub mod Standing
pub mod Sides
pub mod Rules
