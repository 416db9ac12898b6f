pub mod ExampleSorts
pub mod ExampleSymbols
pub mod ExampleTheory
pub mod ExampleWorld
pub mod Laws
pub mod NearestPoint
pub mod Whole
