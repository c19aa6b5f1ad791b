pub mod NameLaws
pub mod FarmLaws
pub mod LineLaws
pub mod Rows
pub mod Judging
pub mod Shown
