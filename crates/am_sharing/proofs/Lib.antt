pub mod Compared
pub mod Matched
pub mod Nodes
pub mod Pairs
pub mod Settled
pub mod Sorted
pub mod Twice
pub mod Walks
