-- What the crates above cite: lemmas over the definitions of `specs/`, by what they are of.

-- the meaning that carries words
pub use Rattle.source_laws.proofs.Refined.{Comp, Registers, Report, Then, Wait, World, finish, left_by}
pub use Rattle.source_laws.proofs.Refined.{meaning, no_registers, part_of, proc_at, proc_of, recursive}
pub use Rattle.source_laws.proofs.Refined.{registers_fed, starts, whole}
-- what is forgotten of a run and of the refined meaning leaves the run's lines and the meaning
pub use Rattle.source_laws.proofs.Forgets.{map-both, outs_line, things_item, whence_same, whence_told}
-- the outer induction, on the number of steps of the overlay
pub use Rattle.source_laws.proofs.All.{in_main, outside_main}
-- where the calls of a body stand
pub use Rattle.source_laws.proofs.CallSites.{block_count, checks_count, count_both, push_count}
-- from what a component carries to what stands in its part
pub use Rattle.source_laws.proofs.Placings.{stand_of}
-- a call of any pair, from its site on, once the arguments stand in their registers
pub use Rattle.source_laws.proofs.Callings.{FailsBy, IsCalled, IsPair, MeantBy, Sealing}
-- where the globals and the pairs of a procedure at work stand
pub use Rattle.source_laws.proofs.AtWork.{DataPair, Globals, Half, Slotted}
-- the checks of a procedure's parameters, over the whole list
pub use Rattle.source_laws.proofs.Parameters.{PairIs, RegsAre, RegsFrom, nothing_more}
-- a procedure of the modules does what it means, given where its compiled code stands and what its names lead
-- to
pub use Rattle.source_laws.proofs.Compiled.{PartIn, Stands}
-- the theorem of sources
pub use Rattle.source_laws.proofs.StandIn.{StandIn, StartsIn, leave_nothing, sources_mean, wiped_told}
pub use Rattle.source_laws.proofs.StandIn.{words_meant}
-- from what runs of every number of steps wipe to the cells at each point at which trusted code lets go
pub use Rattle.source_laws.proofs.Wiped.{low_same, tells_of}
