-- Linked starts: what `link` and the rules of accepted parts give to the invariant, and that it holds at the
-- start.
pub mod ListFacts
pub mod PartFacts
pub mod RegionsApart
pub mod LayoutFacts
pub mod LinkedFacts
pub mod NameFacts
pub mod StartSafe
pub mod OneOverlay
pub mod Linking
pub mod StartInvariant
pub mod StartInstance
