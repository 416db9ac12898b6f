pub mod Built
pub mod EqualTrees
pub mod Push
pub mod Stays
pub mod Trees
