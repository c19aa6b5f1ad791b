-- The collection page.
pub mod Names
pub mod Failures
pub mod Page
pub mod PageLaws
pub mod Readings
pub mod Examples
