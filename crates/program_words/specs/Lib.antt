pub mod Lines
pub mod Plan
pub mod Words
