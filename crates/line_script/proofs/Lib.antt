pub mod Between
pub mod CutLines
pub mod LastLines
pub mod Pieces
