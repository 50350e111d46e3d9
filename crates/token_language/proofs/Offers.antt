-- What the crates above cite: lemmas over the definitions of `specs/`, by what they are of.

-- without its tokens a resolved module is resolved
pub use Rattle.token_language.proofs.ErasedLemmas.{erased_resolved}
-- blocks and their statements
pub use Rattle.token_language.proofs.Blocks.{block_of-stmts_in, stmts_in-block_of}
-- some arguments are no larger than all
pub use Rattle.token_language.proofs.Sizes.{rest_le}
