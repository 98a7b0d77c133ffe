pub mod Forms
pub mod Numerals
pub mod Filled
