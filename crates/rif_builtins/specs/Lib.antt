pub mod BuiltinLaws
pub mod Builtins
pub mod ExtensionLaws
pub mod Extensions
pub mod Truth
pub mod Values
