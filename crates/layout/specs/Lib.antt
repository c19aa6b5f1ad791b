-- Which words a tree becomes, and where they stand.
pub mod Addresses
pub mod Words
pub mod Pool
pub mod Allocation
pub mod Limits
pub mod Map
pub mod Emission
pub mod Computed
pub mod Examples
