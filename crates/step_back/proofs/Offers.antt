-- What the crates above cite: lemmas over the definitions of `specs/`, by what they are of.

-- each call keeps what a debugger remembers
pub use Rattle.step_back.proofs.Remembered.{calls_remember}
