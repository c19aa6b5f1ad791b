-- What a source compiles to, and its listing.
pub mod Compile
pub mod Listing
pub mod Computed
pub mod Examples
