-- What the crates above cite: lemmas over the definitions of `specs/`, by what they are of.

-- which module is which trusted part, and how the modules' names lead to it
pub use Rattle.source_starts.proofs.Worlds.{NamesApart, aligned, home_of, names_apart}
pub use Rattle.source_starts.proofs.Worlds.{names_same, same_names}
-- one part alone has main
pub use Rattle.source_starts.proofs.Mains.{one_main}
-- where a plain run has ended, the overlay's step at the greatest matched point ends so
pub use Rattle.source_starts.proofs.RunEnds.{fails_there, halts_there}
-- the exports of a compiled module are its procedures, each at its offset
pub use Rattle.source_starts.proofs.Exports.{one_offset}
-- what imports name among linked parts, whose names differ
pub use Rattle.source_starts.proofs.Linking.{Names, imported_names, same_part}
-- what the overlay of a linked start of sources has in its cells
pub use Rattle.source_starts.proofs.StartWords.{data_in, held_at}
-- where the names of shared procedures lead, and the names of imports
pub use Rattle.source_starts.proofs.Targets.{proc_of}
-- pairs of sealed words of linked parts
pub use Rattle.source_starts.proofs.Halves.{closure_foreign, open_foreign}
-- the slots of linked sources hold the pairs that they name
pub use Rattle.source_starts.proofs.SlotPairs.{import_words, own_words}
