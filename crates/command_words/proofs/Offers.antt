-- What the crates above cite: lemmas over the definitions of `specs/`, by what they are of.

-- what comes of plans that are joined
pub use Rattle.command_words.proofs.Follow.{comes_as, comes_bind, comes_end, comes_left, comes_made}
pub use Rattle.command_words.proofs.Follow.{comes_map, comes_quiet, comes_same, follows_bind, follows_end}
pub use Rattle.command_words.proofs.Follow.{follows_meets, meets_bind, meets_end, meets_follows, only_again}
pub use Rattle.command_words.proofs.Follow.{only_same, read_meets}
-- what a plan leaves of the files, and an answer that is given
pub use Rattle.command_words.proofs.Settled.{comes_contents, complete, ends_as, keeps_from}
pub use Rattle.command_words.proofs.Settled.{puts_rose, stay_but}
