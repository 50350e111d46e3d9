pub mod Alike
pub mod Brackets
pub mod Headline
pub mod OpenCalls
pub mod Secrecy
