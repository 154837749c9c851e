pub mod Report
pub mod ReportLaws
pub mod Reading
pub mod Desk
pub mod DeskAnswers
pub mod DeskLaws
pub mod Printed
pub mod Cases
