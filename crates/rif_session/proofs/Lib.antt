pub mod BudgetLemmas
pub mod CoreLemmas
pub mod FrontLemmas
pub mod ListLemmas
pub mod PassLemmas
