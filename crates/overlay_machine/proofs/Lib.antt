mod CellLemmas
mod TakeLemmas
mod GiveLemmas
mod FrameLemmas
mod RoomLemmas
pub mod OutLemmas
mod JumpLemmas
mod CallLemmas
mod FitsLemmas
mod HeadLemmas
mod CopyLemmas
mod Mapping
mod StepLemmas
pub mod FlatLemmas
mod Flattened
pub mod FrameWords
pub mod PairsOpened
pub mod OwnStack
mod CallFlat
pub mod CallAgrees
pub mod WholeCall
mod ReturnFlat
pub mod ReturnAgrees
mod EntryAgrees
pub mod OtherAgrees
pub mod OneStep
pub mod RunsAgree
pub mod BracketLemmas
pub mod Marks
pub mod invariant
pub mod starts
mod FramedLemmas
pub mod Offers
