pub mod Matching
pub mod Mgu
pub mod Occurrence
pub mod Opening
pub mod Size
pub mod Substitution
pub mod Unifier
