pub mod Grammar
pub mod Numbers
pub mod Commands
pub mod Laws
pub mod Slots
pub mod Told
