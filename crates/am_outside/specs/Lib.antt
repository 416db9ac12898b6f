pub mod Calls
pub mod Causes
pub mod Files
pub mod Growth
pub mod Pages
