pub mod Stages
pub mod Advance
pub mod Smallest
pub mod Links
