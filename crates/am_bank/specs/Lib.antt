pub mod Bank
pub mod Equal
pub mod Input
pub mod Node
pub mod Stands
pub mod Trees
