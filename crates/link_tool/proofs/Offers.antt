-- What other crates may cite.
pub use Rattle.link_tool.proofs.FirstOf.{linked_is}
pub use Rattle.link_tool.proofs.Linking.{image_with, loaded_read, loaded_again}
