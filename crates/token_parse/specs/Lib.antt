pub mod TokenTrees
pub mod Text
