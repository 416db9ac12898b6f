pub mod Bytes
pub mod Atoms
pub mod Answers
pub mod Scan
pub mod Grammar
pub mod Spelling
pub mod Laws
