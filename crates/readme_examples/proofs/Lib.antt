-- Lemmas of this crate.
pub mod Behind
pub mod Firsts
pub mod Moves
pub mod Numbered
pub mod Ordered
pub mod Restocking
pub mod TakenOut
pub mod Times
