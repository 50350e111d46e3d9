mod Followed
mod Spelled
mod EndsRead
mod Passing
mod Taken
mod Spelling
mod EndsSpelled
mod AllSpelled
mod High
mod Spaced
mod FieldsRead
mod LinesSeen
mod EndLinesSeen
mod Feeding
mod TraceEnds
pub mod Offers
