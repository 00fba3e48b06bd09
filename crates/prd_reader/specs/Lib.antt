pub mod FactForm
