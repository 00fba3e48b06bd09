use Rattle.std.proofs.Common.{◌≡◌, ◌<◌, ◌≤◌, ◌^◌, ◌∙◌, ℕ, List, length, Some, ap, sym, subst, arith, rules, pos, w64}
use Rattle.std.proofs.lemmas.Int.{to_z_pos}
use Rattle.std.proofs.lemmas.Str.{chars_from_encodes, encodes-chars, length-le-encodes}
use Rattle.std.specs.Option.{option_and_then}
use Rattle.std.specs.Str.{chars}
use Rattle.rif_values.specs.declared.constant.Const.TheVariants.{Int}
use Rattle.rif_builtins.proofs.strings.string_length.Goals as goal

pub returns-in-Some : goal.returns-in-Some
returns-in-Some c =
    let bytes = c.as_str.result.now in
    let count : c.count.result ≡ length (chars bytes) = search (rules, chars_from_encodes) in
    let fewer : length (chars bytes) ≤ length bytes = subst (λ (bs : List ℕ). length (chars bytes) ≤ length bs)
    (encodes-chars bytes c.as_str.utf8) (length-le-encodes (chars bytes)) in
    let small : c.count.result < 2 ^ 63 = omega (arith, count, fewer, c.as_str.type_inv.1) in
    let value : List ℕ → _ = λ text. Some (Int (pos (length (chars text)))) in
    ap (λ n. Some (Int n)) (to_z_pos w64 c.count.result small ∙ ap pos count)
    ∙ ap value c.as_str.ensures ∙ ap (option_and_then value) (sym c.in-Some.ensures)
