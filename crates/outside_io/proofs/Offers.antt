-- What the crates above cite: lemmas over the definitions of `specs/`, by what they are of.

-- a sink of a fixed room
pub use Rattle.outside_io.proofs.Filling.{failed_text_fills}
-- texts written one after the other
pub use Rattle.outside_io.proofs.Writing.{fail_more, failed_writes, fails_upto, one_write, pieces_fail}
pub use Rattle.outside_io.proofs.Writing.{pieces_none, pieces_then, text_failed, writes_behind}
