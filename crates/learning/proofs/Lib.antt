pub mod Demand2
pub mod Finished
pub mod LearnLaws
pub mod Outcomes
pub mod Leaving
