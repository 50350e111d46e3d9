-- What the crates above cite: lemmas over the definitions of `specs/`, by what they are of.

-- lists that are read one item after another, each told the one before it, and lists that are written so
pub use Rattle.component_file.proofs.Lists.{get_pushed, inside, one_more}
-- the readers of a component's fields
pub use Rattle.component_file.proofs.FieldLaws.{flag_reads, four_read}
-- a component is read where it is spelled, and spelled where it was read
pub use Rattle.component_file.proofs.ComponentLaws.{found_whole, read_whole}
-- a component's spelling is so short that it can be decoded
pub use Rattle.component_file.proofs.Lengths.{spelling_length}
