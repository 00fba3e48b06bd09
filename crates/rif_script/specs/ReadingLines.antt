-- Reading a script as functions: what is given, or what refuses it. No public clause cites this module.
--     line_at prefixes line           what a line is, or nothing where it has none of the forms
--     with_line prefixes at s line    a script with a line of this number, or the line's refusal
--     with_lines                      the same with several, of which the first has the number
use Rattle.std.specs.Prelude.{ℕ, ◌+◌, ◌==◌, ◌&&◌, not, nat_le, nat_lt, if◌then◌else◌, List, [], ◌∷◌, ◌++◌, Option}
use Rattle.std.specs.Prelude.{Some, None, Ok, Err, length, map, suc}
use Rattle.std.specs.declared.result.Result.{Result}
use Rattle.rif_refusals.specs.Limits.{most_clients, most_items, most_budgets}
use Rattle.rif_refusals.specs.declared.refusal.Refusal.{Refusal}
use Rattle.rif_refusals.specs.declared.refusal.Refusal.TheVariants.{BadLine, BudgetTooLarge, TooManyItems}
use Rattle.rif_refusals.specs.declared.refusal.Refusal.TheVariants.{TooManyClients}
use Rattle.rif_lex.specs.declared.token.Token.{Token}
use Rattle.rif_lex.specs.Lexing.{lexed}
use Rattle.rif_lex.specs.Spelling.{written}
use Rattle.prd_grammar.specs.Prefixes.{Prefixes}
use Rattle.prd_grammar.specs.Values.{has_name, place_of, with_name}
use Rattle.session_states.specs.declared.item.Item.{Item}
use Rattle.rif_script.specs.declared.script.Script.{Script}
use Rattle.rif_script.specs.Jobs.{budget_of, is_comment}
use Rattle.rif_script.specs.ReadingItems.{◌>>=◌, given_from}

-- how many bytes the first line of a text has, with its line feed
abbrev pub line_length : List ℕ → ℕ
line_length [] = 0
line_length (b ∷ bs) = if b == 10 then 1 else suc (line_length bs)

abbrev pub given_tokens : Result (List Token) Refusal → Option (List Token)
given_tokens (Ok ts) = Some ts
given_tokens (Err refusal) = None

unfoldable pub line_at : Prefixes → List ℕ → Option (Option (List ℕ × Item))
line_at prefixes line =
    if is_comment line then Some None
    else (given_tokens (lexed line) >>= λ tokens. given_from prefixes (map (written line) tokens))

-- the script with one item more
abbrev pub script_with : Script → List ℕ × Item → Script
script_with s one = record {
  names = with_name s.names one.0;
  items = s.items ++ (place_of s.names one.0, one.1) ∷ [];
  budgets = s.budgets + budget_of one.1;
}

-- the script with one item more, or the least limit that is passed with it
unfoldable pub with_sent : ℕ → Script → List ℕ × Item → Result Script Refusal
with_sent at s one =
    if nat_lt most_budgets (s.budgets + budget_of one.1) then Err (BudgetTooLarge at)
    else (if nat_le most_items (length s.items) then Err (TooManyItems at)
    else (if not (has_name s.names one.0) && nat_le most_clients (length s.names) then Err (TooManyClients at)
    else Ok (script_with s one)))

abbrev pub with_given : ℕ → Script → Option (Option (List ℕ × Item)) → Result Script Refusal
with_given at s None = Err (BadLine at)
with_given at s (Some None) = Ok s
with_given at s (Some (Some one)) = with_sent at s one

unfoldable pub with_line : Prefixes → ℕ → Script → List ℕ → Result Script Refusal
with_line prefixes at s line = with_given at s (line_at prefixes line)

abbrev pub and_then : {A B : Type 0} → Result A Refusal → (A → Result B Refusal) → Result B Refusal
and_then (Ok x) f = f x
and_then (Err refusal) f = Err refusal

abbrev pub with_lines : Prefixes → ℕ → Script → List (List ℕ) → Result Script Refusal
with_lines prefixes at s [] = Ok s
with_lines prefixes at s (line ∷ lines) =
    and_then (with_line prefixes at s line) (λ next. with_lines prefixes (suc at) next lines)

abbrev pub no_lines : Script
no_lines = record { names = []; items = []; budgets = 0 }
