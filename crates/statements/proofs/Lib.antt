-- Laws that the proofs of the statements share.
pub mod Forms
pub mod AssignmentLaws
pub mod Branches
pub mod CountingLaws
pub mod Lists
pub mod Starts
