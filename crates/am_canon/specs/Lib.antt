pub mod CanonicalText
pub mod DeclarationLaws
pub mod Spellable
pub mod RoundTrip
