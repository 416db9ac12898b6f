pub mod AnswerTests
pub mod Answers
pub mod Calls
pub mod Fingerprints
pub mod Laws
pub mod Names
pub mod Numbering
pub mod Plan
