pub mod Bound
pub mod Matching
pub mod Pairs
pub mod Settled
pub mod SortTable
pub mod Terms
