-- What crates above may cite of this crate's proofs.
--     evaluation_binds ..       the laws, those on truth at the end
--     free_holds                what is free in a formula in scope holds around it
--     through_and ..            what a formula does to rows, form by form
--     matched_has               which rows a pattern gives
--     extends_itself ..         rows that extend others
--     variable_value, kept_value       the value of a variable, and of a term under a row that extends another
pub use Rattle.rif_builtins.proofs.BindingLemmas.{evaluation_binds, free_holds}
pub use Rattle.rif_builtins.proofs.EqualLemmas.{equality_exact}
pub use Rattle.rif_builtins.proofs.FormLemmas.{goes_by_form, is_one_by_one, is_of_both, is_set_of_extensions}
pub use Rattle.rif_builtins.proofs.FormLemmas.{through_and, through_or, through_not, through_exists, through_equal}
pub use Rattle.rif_builtins.proofs.FormLemmas.{through_member, through_frame, through_atom, through_holds}
pub use Rattle.rif_builtins.proofs.FormLemmas.{matched_has}
pub use Rattle.rif_builtins.proofs.PatternLemmas.{matching_exact, match_fact_is, variable_value, kept_value}
pub use Rattle.rif_builtins.proofs.RowLemmas.{value_has, value_bound, same_rows}
pub use Rattle.rif_builtins.proofs.RowLemmas.{extends_itself, extends_same, extends_on, same_extension}
pub use Rattle.rif_builtins.proofs.TruthLawLemmas.{extension_true, settled_by_truth, order_free}
