pub mod Opening
pub mod Sides
pub mod Tables
pub mod Unifying
