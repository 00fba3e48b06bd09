-- Lines of a script: what is read is of that form, and what is of that form is read.
use Rattle.std.proofs.Common.{◌≡◌, ◌∙◌, sym, subst, ap, refl, ℕ, Bool, true, false, ◌&&◌, cond, List, [], ◌∷◌, Option}
use Rattle.std.proofs.Common.{Some, None, ◌⊎◌, inl, inr}
use Rattle.std.specs.Prelude.{codes, bytes_eq, map, Ok, Err}
use Rattle.std.specs.declared.result.Result.{Result}
use Rattle.rif_values.specs.declared.change.Change.{Change}
use Rattle.rif_values.specs.declared.change.Change.TheVariants.{Assert, Retract, RetractSlot, RetractObject, Modify}
use Rattle.rif_refusals.specs.declared.refusal.Refusal.{Refusal}
use Rattle.rif_lex.specs.declared.token.Kind.{Kind}
use Rattle.rif_lex.specs.declared.token.Kind.TheVariants.{Word}
use Rattle.rif_lex.specs.declared.token.Token.{Token}
use Rattle.rif_lex.specs.Lexing.{lexed}
use Rattle.rif_lex.specs.Spelling.{Written, written}
use Rattle.prd_grammar.specs.Prefixes.{Prefixes}
use Rattle.session_states.specs.declared.item.Item.{Item}
use Rattle.session_states.specs.declared.item.Item.TheVariants.{Change as Changing, Fire, Until, Halt, Dispose}
use Rattle.rif_script.specs.Jobs.{IsItemForm, IsLine, IsSentForm, is_client_name, is_comment, sent_leaves, word}
use Rattle.rif_script.specs.ReadingItems.{◌>>=◌, asserted_from, fact_from, given_from, is_word_kind, item_from}
use Rattle.rif_script.specs.ReadingItems.{modified_from, name_of, number_from, retracted_from, sent_from, whole}
use Rattle.rif_script.specs.ReadingItems.{word_text}
use Rattle.rif_script.specs.ReadingLines.{given_tokens, line_at}
use Rattle.rif_script.proofs.ConstLemmas.{bind_some, either, nothing_left, some_same}
use Rattle.rif_script.proofs.FactLemmas.{IsRetractForm, fact_again, fact_read, modified_again, modified_read}
use Rattle.rif_script.proofs.FactLemmas.{number_again, number_read, retracted_again, retracted_read}
use Rattle.rif_script.proofs.NumberingLemmas.{same_bytes}

-- one of two, by a test of a text
chosen : (text name : List ℕ) (o p : Option Item) (x : Item) → cond (bytes_eq text name) o p ≡ Some x →
    ((text ≡ name) × (o ≡ Some x)) ⊎ (p ≡ Some x)
chosen text name o p x given = elim (either (bytes_eq text name)) [
  | inl is ↦ inl (same_bytes text name is, ap (λ (b : Bool). cond b o p) (sym is) ∙ given)
  | inr no_ ↦ inr (ap (λ (b : Bool). cond b o p) (sym no_) ∙ given)
]

change_is : (o : Option Change) (item : Item) → (o >>= λ c. Some (Changing c)) ≡ Some item →
    (c : Change) × (o ≡ Some c) × (Changing c ≡ item)
change_is o item given = let c = bind_some o _ item given in (c.0, c.1, some_same (Changing c.0) item c.2)

module _ (prefixes : Prefixes) (more : List Written) where
  -- the tokens with a word before them
  behind : (text name : List ℕ) → text ≡ name → word text ∷ more ≡ word name ∷ more
  behind text name is = ap (λ (t : List ℕ). word t ∷ more) is

  assert_read : (text : List ℕ) (item : Item) → text ≡ codes "assert" →
      (asserted_from (sent_leaves prefixes more) >>= λ c. Some (Changing c)) ≡ Some item →
      IsItemForm prefixes (word text ∷ more) item
  unfolding asserted_from
  assert_read text item is given =
      let c = change_is (asserted_from (sent_leaves prefixes more)) item given in
      let fact = bind_some (fact_from (sent_leaves prefixes more)) _ c.0 c.1 in
      subst (IsItemForm prefixes (word text ∷ more))
      (ap (λ (x : Change). Changing x) (some_same (Assert fact.0) c.0 fact.2) ∙ c.2)
      (more, behind text (codes "assert") is, fact_read (sent_leaves prefixes more) fact.0 fact.1)

  retract_form : (text : List ℕ) (change : Change) → text ≡ codes "retract" →
      IsRetractForm (sent_leaves prefixes more) change → IsItemForm prefixes (word text ∷ more) (Changing change)
  retract_form text (Assert fact) is form = absurd form
  retract_form text (Retract fact) is form = (more, behind text (codes "retract") is, form)
  retract_form text (RetractSlot o s) is form = (more, behind text (codes "retract") is, form)
  retract_form text (RetractObject o) is form = (more, behind text (codes "retract") is, form)
  retract_form text (Modify o s v) is form = absurd form

  retract_read : (text : List ℕ) (item : Item) → text ≡ codes "retract" →
      (retracted_from (sent_leaves prefixes more) >>= λ c. Some (Changing c)) ≡ Some item →
      IsItemForm prefixes (word text ∷ more) item
  retract_read text item is given =
      let c = change_is (retracted_from (sent_leaves prefixes more)) item given in
      subst (IsItemForm prefixes (word text ∷ more)) c.2
      (retract_form text c.0 is (retracted_read (sent_leaves prefixes more) c.0 c.1))

  modify_read : (text : List ℕ) (item : Item) → text ≡ codes "modify" →
      (modified_from (sent_leaves prefixes more) >>= λ c. Some (Changing c)) ≡ Some item →
      IsItemForm prefixes (word text ∷ more) item
  modify_read text item is given =
      let c = change_is (modified_from (sent_leaves prefixes more)) item given in
      let form = modified_read (sent_leaves prefixes more) c.0 c.1 in
      subst (IsItemForm prefixes (word text ∷ more)) (ap (λ (x : Change). Changing x) form.3 ∙ c.2)
      (more, behind text (codes "modify") is, form.4)

  fire_read : (text : List ℕ) (item : Item) → text ≡ codes "fire" →
      (number_from (sent_leaves prefixes more) >>= λ n. Some (Fire n)) ≡ Some item →
      IsItemForm prefixes (word text ∷ more) item
  fire_read text item is given =
      let n = bind_some (number_from (sent_leaves prefixes more)) _ item given in
      subst (IsItemForm prefixes (word text ∷ more)) (some_same (Fire n.0) item n.2)
      (more, behind text (codes "fire") is, number_read (sent_leaves prefixes more) n.0 n.1)

  until_read : (text : List ℕ) (item : Item) → text ≡ codes "until" →
      (number_from (sent_leaves prefixes more) >>= λ n. Some (Until n)) ≡ Some item →
      IsItemForm prefixes (word text ∷ more) item
  until_read text item is given =
      let n = bind_some (number_from (sent_leaves prefixes more)) _ item given in
      subst (IsItemForm prefixes (word text ∷ more)) (some_same (Until n.0) item n.2)
      (more, behind text (codes "until") is, number_read (sent_leaves prefixes more) n.0 n.1)

none_left : (prefixes : Prefixes) (more : List Written) → sent_leaves prefixes more ≡ [] → more ≡ []
none_left prefixes [] is = refl
none_left prefixes (w ∷ ws) is = absurd (cc)

halt_read : (prefixes : Prefixes) (more : List Written) (text : List ℕ) (item : Item) → text ≡ codes "halt" →
    whole (sent_leaves prefixes more) Halt ≡ Some item → IsItemForm prefixes (word text ∷ more) item
halt_read prefixes more text item is given =
    let end = nothing_left (sent_leaves prefixes more) Halt item given in
    subst (IsItemForm prefixes (word text ∷ more)) end.1
    (more, ap (λ (t : List ℕ). word t ∷ more) is, none_left prefixes more end.0)

dispose_read : (prefixes : Prefixes) (more : List Written) (text : List ℕ) (item : Item) → text ≡ codes "dispose" →
    whole (sent_leaves prefixes more) Dispose ≡ Some item → IsItemForm prefixes (word text ∷ more) item
dispose_read prefixes more text item is given =
    let end = nothing_left (sent_leaves prefixes more) Dispose item given in
    subst (IsItemForm prefixes (word text ∷ more)) end.1
    (more, ap (λ (t : List ℕ). word t ∷ more) is, none_left prefixes more end.0)

control_read : (prefixes : Prefixes) (more : List Written) (text : List ℕ) (item : Item) →
    cond (bytes_eq text (codes "fire")) (number_from (sent_leaves prefixes more) >>= λ n. Some (Fire n))
    (cond (bytes_eq text (codes "until")) (number_from (sent_leaves prefixes more) >>= λ n. Some (Until n))
    (cond (bytes_eq text (codes "halt")) (whole (sent_leaves prefixes more) Halt)
    (cond (bytes_eq text (codes "dispose")) (whole (sent_leaves prefixes more) Dispose) None))) ≡ Some item →
    IsItemForm prefixes (word text ∷ more) item
control_read prefixes more text item given = elim (chosen text (codes "fire") _ _ item given) [
  | inl here ↦ fire_read prefixes more text item here.0 here.1
  | inr other ↦ elim (chosen text (codes "until") _ _ item other) [
    | inl here ↦ until_read prefixes more text item here.0 here.1
    | inr other ↦ elim (chosen text (codes "halt") _ _ item other) [
      | inl here ↦ halt_read prefixes more text item here.0 here.1
      | inr other ↦ elim (chosen text (codes "dispose") _ _ item other) [
        | inl here ↦ dispose_read prefixes more text item here.0 here.1
        | inr none ↦ absurd (cc)
      ]
    ]
  ]
]

item_read : (prefixes : Prefixes) (more : List Written) (text : List ℕ) (item : Item) →
    item_from text (sent_leaves prefixes more) ≡ Some item → IsItemForm prefixes (word text ∷ more) item
unfolding item_from
item_read prefixes more text item given = elim (chosen text (codes "assert") _ _ item given) [
  | inl here ↦ assert_read prefixes more text item here.0 here.1
  | inr other ↦ elim (chosen text (codes "retract") _ _ item other) [
    | inl here ↦ retract_read prefixes more text item here.0 here.1
    | inr other ↦ elim (chosen text (codes "modify") _ _ item other) [
      | inl here ↦ modify_read prefixes more text item here.0 here.1
      | inr other ↦ control_read prefixes more text item other
    ]
  ]
]

-- tokens that are an item, as a word and what stands behind it
record IsItemAgain (prefixes : Prefixes) (ws : List Written) (item : Item) : Type 0 where
  text : List ℕ
  more : List Written
  front : ws ≡ word text ∷ more
  read : item_from text (sent_leaves prefixes more) ≡ Some item

item_again : (prefixes : Prefixes) (ws : List Written) (item : Item) → IsItemForm prefixes ws item →
    IsItemAgain prefixes ws item
unfolding item_from asserted_from
item_again prefixes ws (Changing (Assert fact)) form =
    record {
      text = codes "assert";
      more = form.0;
      front = form.1;
      read = rw (fact_again (sent_leaves prefixes form.0) fact form.2) refl;
    }
item_again prefixes ws (Changing (Retract fact)) form =
    record {
      text = codes "retract";
      more = form.0;
      front = form.1;
      read = rw (retracted_again (sent_leaves prefixes form.0) (Retract fact) form.2) refl;
    }
item_again prefixes ws (Changing (RetractSlot o s)) form =
    record {
      text = codes "retract";
      more = form.0;
      front = form.1;
      read = rw (retracted_again (sent_leaves prefixes form.0) (RetractSlot o s) form.2) refl;
    }
item_again prefixes ws (Changing (RetractObject o)) form =
    record {
      text = codes "retract";
      more = form.0;
      front = form.1;
      read = rw (retracted_again (sent_leaves prefixes form.0) (RetractObject o) form.2) refl;
    }
item_again prefixes ws (Changing (Modify o s v)) form =
    record {
      text = codes "modify";
      more = form.0;
      front = form.1;
      read = rw (modified_again (sent_leaves prefixes form.0) o s v form.2) refl;
    }
item_again prefixes ws (Fire n) form =
    record {
      text = codes "fire";
      more = form.0;
      front = form.1;
      read = rw (number_again (sent_leaves prefixes form.0) n form.2) refl;
    }
item_again prefixes ws (Until n) form =
    record {
      text = codes "until";
      more = form.0;
      front = form.1;
      read = rw (number_again (sent_leaves prefixes form.0) n form.2) refl;
    }
item_again prefixes ws Halt form =
    record {
      text = codes "halt";
      more = [];
      front = form.1 ∙ ap (λ (xs : List Written). word (codes "halt") ∷ xs) form.2;
      read = refl;
    }
item_again prefixes ws Dispose form =
    record {
      text = codes "dispose";
      more = [];
      front = form.1 ∙ ap (λ (xs : List Written). word (codes "dispose") ∷ xs) form.2;
      read = refl;
    }

word_kind : (k : Kind) → is_word_kind k ≡ true → k ≡ Word
word_kind Word is = refl
word_kind _ is = absurd (cc)

if_some : {A : Type 0} (b : Bool) (x y : A) → cond b (Some x) None ≡ Some y → (b ≡ true) × (x ≡ y)
if_some true x y given = (refl, some_same x y given)
if_some false x y given = absurd (cc)

and_both : (a b : Bool) → (a && b) ≡ true → (a ≡ true) × (b ≡ true)
and_both true b both = (refl, both)
and_both false b both = absurd (cc)

written_word : (w : Written) (text : List ℕ) → is_word_kind w.kind ≡ true → w.text ≡ text → w ≡ word text
written_word w text is same =
    ap (λ (k : Kind). record { kind = k; text = w.text }) (word_kind w.kind is) ∙ ap word same

name_read : (w : Written) (name : List ℕ) → name_of w ≡ Some name → (w ≡ word name) × (is_client_name name ≡ true)
unfolding name_of
name_read w name given =
    let parts = if_some (is_word_kind w.kind && is_client_name w.text) w.text name given in
    let both = and_both (is_word_kind w.kind) (is_client_name w.text) parts.0 in
    (written_word w name both.0 parts.1, subst (λ (t : List ℕ). is_client_name t ≡ true) parts.1 both.1)

text_read : (w : Written) (text : List ℕ) → word_text w ≡ Some text → w ≡ word text
text_read w text given =
    let parts = if_some (is_word_kind w.kind) w.text text given in written_word w text parts.0 parts.1

sent_read : (prefixes : Prefixes) (ws : List Written) (sent : List ℕ × Item) → sent_from prefixes ws ≡ Some sent →
    IsSentForm prefixes ws sent
unfolding sent_from
sent_read prefixes [] sent given = absurd (cc)
sent_read prefixes (n ∷ []) sent given = absurd (cc)
sent_read prefixes (n ∷ w ∷ ws) sent given =
    let name = bind_some (name_of n) _ sent given in
    let text = bind_some (word_text w) _ sent name.2 in
    let item = bind_some (item_from text.0 (sent_leaves prefixes ws)) _ sent text.2 in
    let front = name_read n name.0 name.1 in
    let form = item_read prefixes ws text.0 item.0 item.1 in
    subst (IsSentForm prefixes (n ∷ w ∷ ws)) (some_same (name.0, item.0) sent item.2) (record {
      rest = w ∷ ws;
      front = ap (λ (x : Written). x ∷ w ∷ ws) front.0;
      name = front.1;
      item = subst (λ (x : Written). IsItemForm prefixes (x ∷ ws) item.0) (sym (text_read w text.0 text.1)) form;
    })

name_again : (name : List ℕ) → is_client_name name ≡ true → name_of (word name) ≡ Some name
unfolding name_of
name_again name is = rw is refl

sent_front : (prefixes : Prefixes) (name text : List ℕ) (more : List Written) (item : Item) →
    is_client_name name ≡ true →
    item_from text (sent_leaves prefixes more) ≡ Some item →
    sent_from prefixes (word name ∷ word text ∷ more) ≡ Some (name, item)
unfolding sent_from
sent_front prefixes name text more item is read = rw (name_again name is, read) refl

sent_again : (prefixes : Prefixes) (ws : List Written) (sent : List ℕ × Item) → IsSentForm prefixes ws sent →
    (w : Written) × (more : List Written) × (ws ≡ w ∷ more) × (sent_from prefixes ws ≡ Some sent)
sent_again prefixes ws sent form =
    let item = item_again prefixes form.rest sent.1 form.item in
    let front = form.front ∙ ap (λ (xs : List Written). word sent.0 ∷ xs) item.front in (
      word sent.0,
      word item.text ∷ item.more,
      front,
      ap (sent_from prefixes) front ∙ sent_front prefixes sent.0 item.text item.more sent.1 form.name item.read,
    )

ok_given : (r : Result (List Token) Refusal) (ts : List Token) → given_tokens r ≡ Some ts → r ≡ Ok ts
ok_given (Ok us) ts given = ap Ok (some_same us ts given)
ok_given (Err refusal) ts given = absurd (cc)

no_tokens : {A B : Type 0} (f : A → B) (xs : List A) → map f xs ≡ [] → xs ≡ []
no_tokens f [] is = refl
no_tokens f (x ∷ xs) is = absurd (cc)

tokens_read : (prefixes : Prefixes) (line : List ℕ) (ts : List Token) (ws : List Written)
    (given : Option (List ℕ × Item)) →
    is_comment line ≡ false → lexed line ≡ Ok ts → map (written line) ts ≡ ws → given_from prefixes ws ≡ Some given →
    IsLine prefixes line given
tokens_read prefixes line ts [] None other is all read = inr (is ∙ ap Ok (no_tokens (written line) ts all))
tokens_read prefixes line ts [] (Some sent) other is all read = absurd (cc)
tokens_read prefixes line ts (w ∷ ws) given other is all read =
    let sent = bind_some (sent_from prefixes (w ∷ ws)) _ given read in
    let form = subst (λ (xs : List Written). IsSentForm prefixes xs sent.0) (sym all)
    (sent_read prefixes (w ∷ ws) sent.0 sent.1) in
    subst (IsLine prefixes line) (some_same (Some sent.0) given sent.2)
    (other, record { tokens = ts; lexed = is; form = form })

pub line_read : (prefixes : Prefixes) (line : List ℕ) (given : Option (List ℕ × Item)) →
    line_at prefixes line ≡ Some given →
    IsLine prefixes line given
unfolding line_at
line_read prefixes line given found = elim (either (is_comment line)) [
  | inl is ↦
      let step : line_at prefixes line ≡ Some None = rw is refl in
      subst (IsLine prefixes line) (some_same None given (sym step ∙ found)) (inl is)
  | inr other ↦
      let step : line_at prefixes line ≡
      (given_tokens (lexed line) >>= λ tokens. given_from prefixes (map (written line) tokens)) =
      rw other refl in
      let ts = bind_some (given_tokens (lexed line)) _ given (sym step ∙ found) in
      tokens_read prefixes line ts.0 (map (written line) ts.0) given other (ok_given (lexed line) ts.0 ts.1) refl ts.2
]

given_again : (prefixes : Prefixes) (ws more : List Written) (w : Written) (sent : List ℕ × Item) → ws ≡ w ∷ more →
    sent_from prefixes ws ≡ Some sent → given_from prefixes ws ≡ Some (Some sent)
given_again prefixes ws more w sent is read =
    let same = ap (sent_from prefixes) (sym is) ∙ read in
    ap (given_from prefixes) is ∙ rw same refl

pub line_again : (prefixes : Prefixes) (line : List ℕ) (given : Option (List ℕ × Item)) → IsLine prefixes line given →
    line_at prefixes line ≡ Some given
unfolding line_at
line_again prefixes line None (inl is) = rw is refl
line_again prefixes line None (inr is) = elim (either (is_comment line)) [
  | inl comment ↦ rw comment refl
  | inr other ↦ rw (other, is) refl
]
line_again prefixes line (Some sent) form =
    let ws = map (written line) form.1.tokens in
    let again = sent_again prefixes ws sent form.1.form in
    let all = given_again prefixes ws again.1 again.0 sent again.2 again.3 in
    rw (form.0, form.1.lexed, all) refl

-- a line of which nothing is read is none of the forms
pub no_line : (prefixes : Prefixes) (line : List ℕ) → line_at prefixes line ≡ None →
    (given : Option (List ℕ × Item)) →
    IsLine prefixes line given → ⊥
no_line prefixes line none given is = let again = line_again prefixes line given is in cc
