pub mod Blind
pub mod Secret
pub mod Callback
