-- What the crates above cite: lemmas over the definitions of `specs/`, by what they are of.

-- the walk over what templates are made of
pub use Rattle.proc_templates.proofs.Onwards.{AtMostLabel, Stands}
-- items that stand in a component, and the walk over them
pub use Rattle.proc_templates.proofs.Carried.{Carries, Here, Run, Starts}
-- what is written stands in the component that has it
pub use Rattle.proc_templates.proofs.Laying.{Rest, Sound, get-left, get-right, has_it, lay-length, put-length}
pub use Rattle.proc_templates.proofs.Laying.{rest_lay}
-- items that were laid stand in the component
pub use Rattle.proc_templates.proofs.Standing.{carries}
-- the sizes of the templates are how many words they have
pub use Rattle.proc_templates.proofs.Sizes.{Long, args-split, block-size, code-size}
-- the walk over a procedure
pub use Rattle.proc_templates.proofs.Procs.{FrameFits, proc-size}
-- the walk over the whole code
pub use Rattle.proc_templates.proofs.Whole.{AllReady, ProcReady, head_sound, laid-length, proc_laid}
pub use Rattle.proc_templates.proofs.Whole.{procs-length, rest_procs, sound_proc, spot_of}
-- where entries, sites and declared rows of the component stand
pub use Rattle.proc_templates.proofs.Entries.{any_into, rest_whole}
-- the component keeps the rules of its own slots, exports and words
pub use Rattle.proc_templates.proofs.OwnRules.{imports_length, own_length}
-- the procedures of a module whose words aren't too many are ready
pub use Rattle.proc_templates.proofs.Readies.{block_bound, code-length, keeps_flow, keeps_own, ready}
-- names of modules are names of components, and exports ascend where no name stands twice
pub use Rattle.proc_templates.proofs.Apart.{left_none, names_differ, once, right_none}
-- the component of a module that fits, and in which no name stands twice, keeps the limits
pub use Rattle.proc_templates.proofs.Limited.{data-length, limits_kept}
