-- What the crates above cite: lemmas over the definitions of `specs/`, by what they are of.

-- readers that read just what a phrase spells, put together as readers and phrases are
pub use Rattle.phrases.proofs.Readers.{Any, Distinct, Reads, at_end, ok_value, reads_as, reads_before}
pub use Rattle.phrases.proofs.Readers.{reads_case, reads_done, reads_holds, reads_next, reads_none, reads_one}
pub use Rattle.phrases.proofs.Readers.{reads_then}
-- readers of any number of items
pub use Rattle.phrases.proofs.Repeats.{Begins, Ends, many_go, many_stop, reads_many}
unfoldable pub use Rattle.phrases.proofs.Repeats.{more_behind}
-- how phrases begin
pub use Rattle.phrases.proofs.Heads.{Head, Heads, Is, Lacks, began, begins_head, head_ahead, head_as}
pub use Rattle.phrases.proofs.Heads.{head_more, heads_as, heads_many, heads_one, heads_optional, heads_or}
pub use Rattle.phrases.proofs.Heads.{heads_then, many_ahead, map_ahead, none_there, only_ahead, or_ahead}
pub use Rattle.phrases.proofs.Heads.{reads_map, reads_up_to, then_ahead}
-- a reader that passes limits over reads what the other reads, and expects what the other expects
pub use Rattle.phrases.proofs.Loose.{Looser, loose_case, loose_holds, loose_many, loose_same, loose_then}
-- where the faults of a reader stand
pub use Rattle.phrases.proofs.Blames.{Blames, IsToken, blames_as, blames_case, blames_done, blames_either}
pub use Rattle.phrases.proofs.Blames.{blames_holds, blames_known, blames_many, blames_map, blames_none}
pub use Rattle.phrases.proofs.Blames.{blames_one, blames_then, blames_token, is_tested, is_token}
-- what holds of all that a phrase spells, put together as phrases are
pub use Rattle.phrases.proofs.Gives.{Gives, gives_as, gives_many, gives_next, gives_nothing, gives_one}
pub use Rattle.phrases.proofs.Gives.{gives_only, gives_or, gives_test, gives_then}
