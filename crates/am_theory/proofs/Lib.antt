pub mod FormParts
mod Distinct
mod KindSteps
pub mod RunOf
mod AddSteps
mod Faultless
pub mod OfForm
pub mod Appends
pub mod Growing
pub mod Kinship
pub mod MoreCalled
pub mod MoreSymbols
pub mod NoFault
pub mod PlacedSort
pub mod SortNames
pub mod Sound
pub mod SoundAxiom
pub mod SoundLiteral
pub mod SoundRoutine
pub mod SoundSort
pub mod SoundSymbol
pub mod SoundValue
pub mod SymbolNumbers
pub mod WellFormedRead
mod ReadSteps
mod JoinedNames
