pub mod LinkRules
