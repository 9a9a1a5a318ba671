pub mod History
pub mod Vain
pub mod Shut
