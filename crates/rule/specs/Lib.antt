pub mod Trees
pub mod Meaning
pub mod Laws
