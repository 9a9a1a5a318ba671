-- What the contracts of this crate are stated in.
pub mod Agenda
pub mod Clock
pub mod Deadlines
pub mod Epochs
pub mod Lockers
pub mod Simulation
pub mod Workers
