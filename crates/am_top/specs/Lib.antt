pub mod Answers
pub mod Clauses
pub mod Codes
pub mod Commands
pub mod Messages
pub mod Steps
pub mod Words
