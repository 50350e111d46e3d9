pub mod Confined
