pub mod Picks
pub mod Within
pub mod Laws
