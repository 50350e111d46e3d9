-- What the crates above cite: lemmas over the definitions of `specs/`, by what they are of.

-- what comes of plans that are joined
pub use Rattle.command_words.proofs.Offers.{comes_bind, comes_made, comes_quiet, comes_same, follows_bind}
pub use Rattle.command_words.proofs.Offers.{follows_meets, meets_bind, meets_end, meets_follows, only_again}
pub use Rattle.command_words.proofs.Offers.{only_same}
pub use Rattle.file_plans.proofs.Follow.{follows_end, unless_ended, unless_gave, unless_made}
-- a loop over the words of parts
pub use Rattle.file_plans.proofs.Each.{SoFar, so_all, so_end, so_first, so_more, so_none}
