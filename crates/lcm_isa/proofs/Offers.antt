-- What the crates above cite: lemmas over the definitions of `specs/`, by what they are of.

-- the number of an instruction leads back to it
pub use Rattle.lcm_isa.proofs.NumberLemmas.{decode_of-fits, decode_of-number_of, number_below}
pub use Rattle.lcm_isa.proofs.NumberLemmas.{number_of-decode_of, reg_back}
-- a name leads to the register that has it
pub use Rattle.lcm_isa.proofs.NameLemmas.{first_named-reg_name, named_found}
unfoldable pub use Rattle.lcm_isa.proofs.NameLemmas.{first_named}
-- the text of an instruction, piece by piece
pub use Rattle.lcm_isa.proofs.TextLemmas.{few}
