pub mod Refusals
pub mod Lent
pub mod LentLaws
pub mod Linked
pub mod Answers
