-- What the crates above cite: lemmas over the definitions of `specs/`, by what they are of.

-- what a fault says where memory may be refused
pub use Rattle.readers.proofs.Faults.{fails_with, still_fails, telling_fails, telling_read, told_ok}
-- readers that take just what a spelling has, put together from readers of its parts
pub use Rattle.readers.proofs.Grammar.{All, IsCut, Reads, Took, after, before, cut_goes_on, given_ok}
pub use Rattle.readers.proofs.Grammar.{goes_on_ok, ok_value, one_text, reads_as, reads_case, reads_done}
pub use Rattle.readers.proofs.Grammar.{reads_holds, reads_if, reads_known, reads_last, reads_learned}
pub use Rattle.readers.proofs.Grammar.{reads_meaning, reads_none, reads_placed, reads_telling, reads_tells}
pub use Rattle.readers.proofs.Grammar.{reads_text, reads_then, some_ok, took_nothing}
-- texts that are read whole
pub use Rattle.readers.proofs.Wholes.{again_whole, cut_whole, found_whole, one_whole, past_whole}
pub use Rattle.readers.proofs.Wholes.{refused_whole}
-- items that are read one after another, and a loop that reads them
pub use Rattle.readers.proofs.Items.{begins, items_read, read_all, read_none, read_one, with_front}
-- pieces that are written one after another
pub use Rattle.readers.proofs.Pieces.{all_after, glued}
