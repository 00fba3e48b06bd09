-- Which job an input is, or what refuses it.
--     lines_of text               a text's lines, each with the line feed that ends it; the last may have none
--     document_text bytes         the bytes before the first line that is `%%`
--     script_lines bytes          the lines behind it
--     first_script_line bytes     the number of the first of these, counted from 1 over the whole input
--     IsItemForm prefixes ws item  tokens behind a client's name are this item
--     IsLine prefixes line given  what a line of a script is: a client's name and its item, or nothing
--     IsScript                    the clients and items of the lines of a script
--     IsScriptRefusal             the first line that makes lines no script, and its least refusal
--     IsJobOf bytes doc job       an input is this job, made of this document, which is the one that was read
--     IsJob bytes job             the same, of some document
--     IsRefused bytes refusal     an input has this refusal
--     OneOutcome                  law: an input is one of these, and has one value of it
-- Source: the project's own (docs/FORMATS.md, "Jobs" and "Refusals").
use Rattle.std.specs.Prelude.{◌≡◌, ◌≤◌, ◌<◌, ◌⊎◌, ℕ, ◌+◌, ◌==◌, ◌||◌, ◌&&◌, nat_le, suc, Bool, true, false}
use Rattle.std.specs.Prelude.{if◌then◌else◌, List, [], ◌∷◌, ◌++◌, Option, Some, None, Ok, Err, IsUtf8, codes}
use Rattle.std.specs.Prelude.{bytes_eq, length, map}
use Rattle.std.specs.List.{list_all}
use Rattle.std.specs.Str.{IsValidUpTo}
use Rattle.rif_refusals.specs.Limits.{most_input_bytes, most_clients, most_items, most_budgets}
use Rattle.rif_refusals.specs.Limits.{most_name_characters}
use Rattle.rif_values.specs.declared.change.Change.TheVariants.{Assert, Retract, RetractSlot, RetractObject, Modify}
use Rattle.rif_values.specs.declared.fact.Fact.TheVariants.{Frame}
use Rattle.rif_refusals.specs.declared.refusal.Refusal.{Refusal}
use Rattle.rif_refusals.specs.declared.refusal.Refusal.TheVariants.{InputTooLong, NotUtf8, BadLine, BudgetTooLarge}
use Rattle.rif_refusals.specs.declared.refusal.Refusal.TheVariants.{TooManyItems, TooManyClients}
use Rattle.rif_refusals.specs.declared.fault.Fault.{Fault}
use Rattle.rif_refusals.specs.declared.fault.Fault.TheVariants.{Refused, OutOfMemory}
use Rattle.rif_tree.specs.declared.rule.Doc.{Doc}
use Rattle.safe_rules.specs.declared.safe_rule.SafeRule.{SafeRule}
use Rattle.rif_safe.specs.Safeness.{safe_rules_of}
use Rattle.rif_lex.specs.declared.token.Kind.TheVariants.{Word}
use Rattle.rif_lex.specs.declared.token.Token.{Token}
use Rattle.rif_lex.specs.Characters.{begins, is_between}
use Rattle.rif_lex.specs.Lexing.{lexed}
use Rattle.rif_lex.specs.Spelling.{Written, written}
use Rattle.prd_grammar.specs.declared.leaf.Leaf.{Leaf}
use Rattle.prd_leaves.specs.Documents.{IsRead, IsRefused as IsDocumentRefused}
use Rattle.prd_reader.specs.FactForm.{IsConstForm, IsConstsForm, IsFactForm, IsNumberForm}
use Rattle.prd_leaves.specs.Leaves.{leaves_from}
use Rattle.prd_grammar.specs.Prefixes.{Prefixes}
use Rattle.prd_grammar.specs.Values.{place_of}
use Rattle.session_states.specs.declared.item.Item.{Item}
use Rattle.session_states.specs.declared.item.Item.TheVariants.{Change, Fire, Until, Halt, Dispose}
use Rattle.rif_script.specs.declared.job.Job.{Job}

abbrev pub with_byte : ℕ → List (List ℕ) → List (List ℕ)
with_byte b [] = (b ∷ []) ∷ []
with_byte b (line ∷ lines) = (b ∷ line) ∷ lines

abbrev pub lines_of : List ℕ → List (List ℕ)
lines_of [] = []
lines_of (b ∷ bs) = if b == 10 then (b ∷ []) ∷ lines_of bs else with_byte b (lines_of bs)

-- a line that is exactly `%%`, which one carriage return may end
abbrev pub is_separator : List ℕ → Bool
is_separator line =
    bytes_eq line (codes "%%\n")
    || (bytes_eq line (codes "%%\r\n")
    || (bytes_eq line (codes "%%") || bytes_eq line (codes "%%\r")))

abbrev pub joined_before : List (List ℕ) → List ℕ
joined_before [] = []
joined_before (line ∷ lines) = if is_separator line then [] else line ++ joined_before lines

abbrev pub lines_behind : List (List ℕ) → List (List ℕ)
lines_behind [] = []
lines_behind (line ∷ lines) = if is_separator line then lines else lines_behind lines

abbrev pub document_text : List ℕ → List ℕ
document_text bytes = joined_before (lines_of bytes)

abbrev pub script_lines : List ℕ → List (List ℕ)
script_lines bytes = lines_behind (lines_of bytes)

-- how many lines stand before the first that is `%%`
abbrev pub lines_before : List (List ℕ) → ℕ
lines_before [] = 0
lines_before (line ∷ lines) = if is_separator line then 0 else suc (lines_before lines)

abbrev pub first_script_line : List ℕ → ℕ
first_script_line bytes = lines_before (lines_of bytes) + 2

abbrev pub is_comment : List ℕ → Bool
is_comment line = begins 35 line

-- a lowercase letter, a digit or `_`
abbrev pub is_client_character : ℕ → Bool
is_client_character b = is_between 97 122 b || (is_between 48 57 b || b == 95)

-- whether a word may be a client's name
abbrev pub is_client_name : List ℕ → Bool
is_client_name text = nat_le (length text) most_name_characters && list_all is_client_character text

-- a WORD of this text
abbrev pub word : List ℕ → Written
word text = record { kind = Word; text = text }

-- the leaves of tokens behind an item's word, with a document's prefixes
abbrev pub sent_leaves : Prefixes → List Written → List Leaf
sent_leaves prefixes ws = leaves_from prefixes [] ws

-- The tokens begin with this word, and what stands behind it has the form.
abbrev pub BehindWord : List ℕ → List Written → (List Written → Type 0) → Type 0
BehindWord text ws Form = (more : List Written) × (ws ≡ word text ∷ more) × Form more

-- what may stand behind a client's name
abbrev pub IsItemForm : Prefixes → List Written → Item → Type 0
IsItemForm prefixes ws (Change (Assert fact)) =
    BehindWord (codes "assert") ws (λ more. IsFactForm (sent_leaves prefixes more) fact)
IsItemForm prefixes ws (Change (Retract fact)) =
    BehindWord (codes "retract") ws (λ more. IsFactForm (sent_leaves prefixes more) fact)
IsItemForm prefixes ws (Change (RetractSlot o s)) =
    BehindWord (codes "retract") ws (λ more. IsConstsForm (sent_leaves prefixes more) o s)
IsItemForm prefixes ws (Change (RetractObject o)) =
    BehindWord (codes "retract") ws (λ more. IsConstForm (sent_leaves prefixes more) o)
IsItemForm prefixes ws (Change (Modify o s v)) =
    BehindWord (codes "modify") ws (λ more. IsFactForm (sent_leaves prefixes more) (Frame o s v))
IsItemForm prefixes ws (Fire budget) =
    BehindWord (codes "fire") ws (λ more. IsNumberForm (sent_leaves prefixes more) budget)
IsItemForm prefixes ws (Until budget) =
    BehindWord (codes "until") ws (λ more. IsNumberForm (sent_leaves prefixes more) budget)
IsItemForm prefixes ws Halt = BehindWord (codes "halt") ws (λ more. more ≡ [])
IsItemForm prefixes ws Dispose = BehindWord (codes "dispose") ws (λ more. more ≡ [])

-- a client's name and its item
pub record IsSentForm (prefixes : Prefixes) (ws : List Written) (sent : List ℕ × Item) : Type 0 where
  pub rest : List Written
  pub front : ws ≡ word sent.0 ∷ rest
  pub name : is_client_name sent.0 ≡ true
  pub item : IsItemForm prefixes rest sent.1

-- a line that can be read, which sends this
pub record IsSentLine (prefixes : Prefixes) (line : List ℕ) (sent : List ℕ × Item) : Type 0 where
  pub tokens : List Token
  pub lexed : lexed line ≡ Ok tokens
  pub form : IsSentForm prefixes (map (written line) tokens) sent

-- nothing is sent by a comment, by white space or by nothing at all
abbrev pub IsLine : Prefixes → List ℕ → Option (List ℕ × Item) → Type 0
IsLine prefixes line None = (is_comment line ≡ true) ⊎ (lexed line ≡ Ok [])
IsLine prefixes line (Some sent) = (is_comment line ≡ false) × IsSentLine prefixes line sent

-- what each line is
abbrev pub AreLines : Prefixes → List (List ℕ) → List (Option (List ℕ × Item)) → Type 0
AreLines prefixes [] [] = Unit {0}
AreLines prefixes (line ∷ lines) (given ∷ more) = IsLine prefixes line given × AreLines prefixes lines more
AreLines prefixes [] (given ∷ more) = ⊥
AreLines prefixes (line ∷ lines) [] = ⊥

-- what the lines that send something send, in order
abbrev pub sent_by : List (Option (List ℕ × Item)) → List (List ℕ × Item)
sent_by [] = []
sent_by (None ∷ more) = sent_by more
sent_by (Some sent ∷ more) = sent ∷ sent_by more

-- names without one
abbrev pub names_without : List ℕ → List (List ℕ) → List (List ℕ)
names_without name [] = []
names_without name (other ∷ names) =
    if bytes_eq name other then names_without name names else other ∷ names_without name names

-- the clients' names, each once, in the order of their first lines
abbrev pub names_of : List (List ℕ × Item) → List (List ℕ)
names_of [] = []
names_of (sent ∷ more) = sent.0 ∷ names_without sent.0 (names_of more)

abbrev pub budget_of : Item → ℕ
budget_of (Change change) = 0
budget_of (Fire budget) = budget
budget_of (Until budget) = budget
budget_of Halt = 0
budget_of Dispose = 0

-- the budgets of all items together
abbrev pub budget_sum : List (List ℕ × Item) → ℕ
budget_sum [] = 0
budget_sum (sent ∷ more) = budget_of sent.1 + budget_sum more

-- each item with the number of its client, counted from 0
abbrev pub numbered_items : List (List ℕ) → List (List ℕ × Item) → List (ℕ × Item)
numbered_items names sent = map (λ (one : List ℕ × Item). (place_of names one.0, one.1)) sent

-- what is sent is within the limits
pub record IsWithinLimits (sent : List (List ℕ × Item)) : Type 0 where
  pub few_budgets : budget_sum sent ≤ most_budgets
  pub few_items : length sent ≤ most_items
  pub few_clients : length (names_of sent) ≤ most_clients

-- the lines are a script of these clients, in the order of their numbers, with these items, within the limits
pub record IsScript (prefixes : Prefixes) (lines : List (List ℕ)) (names : List (List ℕ))
    (items : List (ℕ × Item)) : Type 0 where
  pub given : List (Option (List ℕ × Item))
  pub lines_are : AreLines prefixes lines given
  pub clients : names ≡ names_of (sent_by given)
  pub sent : items ≡ numbered_items names (sent_by given)
  pub within : IsWithinLimits (sent_by given)

-- The line is a faulty one, where this was sent before it, and the refusal is the least that stands at it: it has
-- none of the forms; or with what it sends, the budgets are too large together, or else there are too many items, or
-- else too many clients.
abbrev pub IsFaulty : Prefixes → List (List ℕ × Item) → List ℕ → ℕ → Refusal → Type 0
IsFaulty prefixes before line number (BadLine at) =
    (at ≡ number) × ((given : Option (List ℕ × Item)) → IsLine prefixes line given → ⊥)
IsFaulty prefixes before line number (BudgetTooLarge at) =
    (at ≡ number) × (one : List ℕ × Item) × IsLine prefixes line (Some one)
    × (most_budgets < budget_sum (before ++ one ∷ []))
IsFaulty prefixes before line number (TooManyItems at) =
    (at ≡ number) × (one : List ℕ × Item) × IsLine prefixes line (Some one)
    × (budget_sum (before ++ one ∷ []) ≤ most_budgets) × (most_items < length (before ++ one ∷ []))
IsFaulty prefixes before line number (TooManyClients at) =
    (at ≡ number) × (one : List ℕ × Item) × IsLine prefixes line (Some one)
    × (budget_sum (before ++ one ∷ []) ≤ most_budgets) × (length (before ++ one ∷ []) ≤ most_items)
    × (most_clients < length (names_of (before ++ one ∷ [])))
IsFaulty prefixes before line number _ = ⊥

-- Lines, of which the first has this number, are no script: a line is faulty, and those before it are a script.
pub record IsScriptRefusal (prefixes : Prefixes) (lines : List (List ℕ)) (first : ℕ)
    (refusal : Refusal) : Type 0 where
  pub before : List (List ℕ)
  pub line : List ℕ
  pub behind : List (List ℕ)
  pub cut : lines ≡ before ++ line ∷ behind
  pub given : List (Option (List ℕ × Item))
  pub lines_are : AreLines prefixes before given
  pub within : IsWithinLimits (sent_by given)
  pub faulty : IsFaulty prefixes (sent_by given) line (first + length before) refusal

-- an input that isn't too long and is UTF-8
pub record IsText (bytes : List ℕ) : Type 0 where
  pub short : length bytes ≤ most_input_bytes
  pub utf8 : IsUtf8 bytes

-- the input's document, with its prefixes
pub record HasDocument (bytes : List ℕ) (doc : Doc) (prefixes : Prefixes) : Type 0 where
  pub tokens : List Token
  pub lexed : lexed (document_text bytes) ≡ Ok tokens
  pub read : IsRead tokens (document_text bytes) doc prefixes

-- The input is this job: the document was read of it, the job's rules are the document's, made safe, and its script
-- was read with the document's prefixes.
pub record IsJobOf (bytes : List ℕ) (doc : Doc) (job : Job) : Type 0 where
  pub text : IsText bytes
  pub prefixes : Prefixes
  pub document : HasDocument bytes doc prefixes
  pub safe : safe_rules_of doc ≡ Ok job.doc
  pub script : IsScript prefixes (script_lines bytes) job.names job.items

abbrev pub IsJob : List ℕ → Job → Type 0
IsJob bytes job = (doc : Doc) × IsJobOf bytes doc job

-- the tokens of the input's document have this refusal
pub record HasDocumentRefusal (bytes : List ℕ) (refusal : Refusal) : Type 0 where
  pub tokens : List Token
  pub lexed : lexed (document_text bytes) ≡ Ok tokens
  pub refused : IsDocumentRefused tokens (document_text bytes) refusal

-- it has a document, and one of its rules isn't safe: the refusal of the first that isn't
pub record HasRuleRefusal (bytes : List ℕ) (refusal : Refusal) : Type 0 where
  pub doc : Doc
  pub prefixes : Prefixes
  pub document : HasDocument bytes doc prefixes
  pub refused : safe_rules_of doc ≡ Err refusal

-- it has a document of safe rules, and its script has this refusal
pub record HasScriptRefusal (bytes : List ℕ) (refusal : Refusal) : Type 0 where
  pub doc : Doc
  pub prefixes : Prefixes
  pub document : HasDocument bytes doc prefixes
  pub rules : List SafeRule
  pub safe : safe_rules_of doc ≡ Ok rules
  pub refused : IsScriptRefusal prefixes (script_lines bytes) (first_script_line bytes) refusal

-- In this order: the input is too long; it isn't UTF-8; its document has a token that can't be read; the document's
-- tokens are refused; a rule of the document isn't safe; the script is refused.
abbrev pub IsRefused : List ℕ → Refusal → Type 0
IsRefused bytes refusal =
    ((refusal ≡ InputTooLong) × (most_input_bytes < length bytes))
    ⊎ (((at : ℕ) × (refusal ≡ NotUtf8 at) × (length bytes ≤ most_input_bytes) × IsValidUpTo bytes at)
    ⊎ (IsText bytes × ((lexed (document_text bytes) ≡ Err refusal)
    ⊎ (HasDocumentRefusal bytes refusal ⊎ (HasRuleRefusal bytes refusal ⊎ HasScriptRefusal bytes refusal)))))

-- a call that gives no job has no memory, or tells the refusal
abbrev pub RefusesJob : List ℕ → Fault → Type 0
RefusesJob bytes OutOfMemory = Unit {0}
RefusesJob bytes (Refused refusal) = IsRefused bytes refusal

-- Law: an input is one job at most, of one document, has one refusal at most, and not both.
pub record OneOutcome : Type 0 where
  pub one_job : (bytes : List ℕ) (doc other : Doc) (a b : Job) →
      IsJobOf bytes doc a → IsJobOf bytes other b → (doc ≡ other) × (a ≡ b)
  pub one_refusal : (bytes : List ℕ) (a b : Refusal) → IsRefused bytes a → IsRefused bytes b → a ≡ b
  pub not_both : (bytes : List ℕ) (job : Job) (refusal : Refusal) → IsJob bytes job → IsRefused bytes refusal → ⊥
