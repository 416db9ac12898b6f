pub mod Agreement
pub mod ClauseTruth
pub mod Holding
pub mod Interpretation
pub mod Questions
pub mod Truth
pub mod Value
