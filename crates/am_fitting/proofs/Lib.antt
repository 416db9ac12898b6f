pub mod Bindings
pub mod FittingSteps
pub mod FittingStarts
