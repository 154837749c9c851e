pub mod Handheld
