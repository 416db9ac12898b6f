pub mod Asked
pub mod Faults
pub mod Named
pub mod Sizes
pub mod Starts
pub mod Unmade
