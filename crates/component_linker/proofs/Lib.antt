pub mod RuleTests
pub mod SitesInOrder
pub mod LaidOut
