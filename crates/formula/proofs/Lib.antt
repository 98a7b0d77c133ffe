pub mod YesNo
pub mod Related
pub mod Carried
pub mod Order
pub mod Enclose
pub mod Known
pub mod Reached
pub mod Published
