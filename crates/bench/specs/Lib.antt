pub mod Words
pub mod Steps
pub mod Reading
pub mod Lines
