pub mod Audited
pub mod Items
pub mod Spelling
