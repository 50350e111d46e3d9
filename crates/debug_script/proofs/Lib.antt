pub mod CommandLemmas
pub mod ScriptLemmas
pub mod ScriptLaws
