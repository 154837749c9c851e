pub mod Apart
pub mod Answers
pub mod ApartLaws
pub mod ApartMeans
pub mod Cases
