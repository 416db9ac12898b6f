mod LookSteps
mod NameSteps
mod ReadSteps
pub mod DiagramWellFormed
pub mod FaultlessDeclaration
pub mod FlawsMoved
pub mod GoalVariables
pub mod NamesPushed
pub mod ReadKeeps
pub mod ScopeMatches
pub mod SoundDeclared
pub mod SoundDraft
pub mod StandingViews
