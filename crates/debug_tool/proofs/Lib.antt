pub mod Telling
pub mod Remembering
pub mod Rooms
