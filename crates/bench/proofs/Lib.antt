pub mod Decoding
pub mod Taking
pub mod Telling
