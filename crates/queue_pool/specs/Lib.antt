pub mod Shared
pub mod Pool
pub mod StillOpen
pub mod Calling
pub mod Waiting
