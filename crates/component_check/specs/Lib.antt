pub mod Places
pub mod Verdict
pub mod RuleText
pub mod Areas
pub mod Rules
pub mod Marks
