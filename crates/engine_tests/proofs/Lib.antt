pub mod EnteringLemmas
