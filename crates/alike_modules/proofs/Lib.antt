mod Steps
mod Leaves
mod Nesting
mod Exprs
mod Stmts
mod Items
mod Modules
mod Sound
mod Lines
mod Texts
mod PrintedPieces
mod Shallow
mod Whole
pub mod Lists
pub mod Counts
pub mod Names
pub mod Programs
pub mod Faults
pub mod Pieces
pub mod Rules
pub mod Sources
pub mod Same
