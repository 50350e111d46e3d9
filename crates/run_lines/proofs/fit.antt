-- Words, names and numbers of lines are those that there are.
pub mod NamesFit
pub mod LinesFitting
