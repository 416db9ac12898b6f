pub mod Cases
pub mod Closure
pub mod Order
pub mod Parts
pub mod Precedence
