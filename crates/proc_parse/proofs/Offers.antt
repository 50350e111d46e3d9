-- What the crates above cite: lemmas over the definitions of `specs/`, by what they are of.

-- one item more, in loops that read lists
pub use Rattle.proc_parse.proofs.Steps.{full_is}
-- the tokens of a text that end no line, and what is read of them
pub use Rattle.proc_parse.proofs.Texts.{lexemes_few}
