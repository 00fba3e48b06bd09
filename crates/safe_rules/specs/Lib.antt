pub mod BlockScope
pub mod Named
pub mod Numbers
pub mod SafeRules
