pub mod Becoming
pub mod Grown
pub mod Heads
pub mod Solved
pub mod Standing
