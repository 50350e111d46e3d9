-- What the crates above cite: lemmas over the definitions of `specs/`, by what they are of.

-- readers of bytes that take just what a spelling has
pub use Rattle.cap_words.proofs.ByteReads.{IsBytes, Reads, Took}
-- the readers of numbers and of what numbers mean
pub use Rattle.cap_words.proofs.Fields.{byte_reads, bytes_again, bytes_cut, bytes_take, meant_reads}
pub use Rattle.cap_words.proofs.Fields.{number_reads, within_reads}
-- a word is read where it is spelled, and spelled where it was read
pub use Rattle.cap_words.proofs.Words.{unsealed_reads}
-- a permission and a linearity are what their names are read as
pub use Rattle.cap_words.proofs.Texts.{perm_again, lin_again}
