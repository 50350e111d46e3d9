-- No instruction touches the range of a call that its lines leave open, but the two of the call's own return:
-- which instructions of a call, an entry and a return touch the stack, whether they go or fail; so of a step,
-- and of a run.
pub mod TouchAt
pub mod SequencesSpare
pub mod OwnReturn
pub mod StepSpares
pub mod CallTail
pub mod ReturnTail
pub mod StepOwn
pub mod FramesTold
pub mod OpenLemmas
pub mod OpenCalls
pub mod UsesFirst
pub mod UseInstance
