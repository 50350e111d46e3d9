-- What the crates above cite: lemmas over the definitions of `specs/`, by what they are of.

-- what one computation comes to
pub use Rattle.same_meanings.proofs.Comes.{tick, comes_once, comes_ticked, unticked, comes_deeper}
pub use Rattle.same_meanings.proofs.Comes.{comes_higher}
-- two computations that tell the same: bounds, levels, ticks, ends, wipes, events, items
pub use Rattle.same_meanings.proofs.Steps.{fewer, of_none, same_as, both_deeper, both_higher, ticks, both_end}
pub use Rattle.same_meanings.proofs.Steps.{both_fail, both_halt, both_wipe, both_call, both_leave, both_take}
pub use Rattle.same_meanings.proofs.Steps.{both_number, both_place, both_choose}
-- where the feed is asked, and the whole
pub use Rattle.same_meanings.proofs.Waits.{all_waits, starts_without, procedures_decide, any_feed}
-- code without calls and loops tells what its outcome tells, whatever ticks it takes
pub use Rattle.same_meanings.proofs.Straight.{went, expr_tells, stmt_tells, block_tells, body_tells}
pub use Rattle.same_meanings.proofs.Bodies.{behind_same, bodies_same, straight_same, fed_same}
pub use Rattle.same_meanings.proofs.Bodies.{straight_decide}
pub use Rattle.same_meanings.proofs.Bodies.{SameRegister, SameRegisters, no_registers, and_register}
pub use Rattle.same_meanings.proofs.Bodies.{value_register}
-- two modules with one procedure each
pub use Rattle.same_meanings.proofs.Single.{head_of, it, Both, of_both, IsSingle, both_found, EnterSame}
pub use Rattle.same_meanings.proofs.Single.{HopSame}
pub use Rattle.same_meanings.proofs.Single.{StartSame, single_decides}
-- under more fuel the same is told, or more
pub use Rattle.same_meanings.proofs.Fuels.{end_later, event_later, in_front}
-- calls by their numbers, and what a fuel is enough for on each feed
pub use Rattle.same_meanings.proofs.Settled.{numbers_apart, one_feed, settled_mean, settled_ends}
