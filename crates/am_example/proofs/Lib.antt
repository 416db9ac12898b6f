pub mod Modelled
pub mod Orphans
pub mod Ran
pub mod Telling
pub mod There
