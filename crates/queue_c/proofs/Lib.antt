pub mod Copied
pub mod FineIds
pub mod Firsts
pub mod HandleFields
pub mod RawBoxes
pub mod Sent
pub mod Tested
