-- The invariant of linked parts: what linking gives, which step comes next and what it needs, and that each
-- kind of step keeps it.
pub mod Facts
pub mod Targets
pub mod FrameFacts
pub mod View
pub mod Glue
pub mod SafeClosed
pub mod Crossing
pub mod HeldFlat
pub mod Ready
pub mod Standing
pub mod OtherKept
pub mod Clean
pub mod Popped
pub mod FramesKept
pub mod EntryKept
pub mod ReturnKept
pub mod CallKept
pub mod Kept
pub mod StepKept
pub mod SequencesLacking
pub mod StepQuiet
pub mod FramePrivate
pub mod Covered
pub mod Bracketed
pub mod MarksPrivate
