pub mod Written
pub mod Reprint
pub mod Alike
