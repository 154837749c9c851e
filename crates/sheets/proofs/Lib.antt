pub mod CheckerLaws
pub mod SmallestSheets
pub mod Demand3
pub mod CheckerSteps
