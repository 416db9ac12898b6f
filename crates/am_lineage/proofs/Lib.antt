pub mod Lineage
pub mod OneLineage
