-- What the crates above cite: lemmas over the definitions of `specs/`, by what they are of.

-- the program of a module keeps the limits of programs
pub use Rattle.proc_program.proofs.Kept.{count_same, globals-length, part_fits, procs-length, row_within}
-- a program has as many calls as its module
pub use Rattle.proc_program.proofs.Counted.{among, block_kept, calls_kept, exp_calls, stmt_kept}
-- a program with callbacks
unfoldable pub use Rattle.proc_program.proofs.Example.{callbacks}
