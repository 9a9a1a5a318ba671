pub mod Waiters
pub mod Settled
pub mod Runs
