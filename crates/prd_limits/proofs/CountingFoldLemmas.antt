-- What the fold over a rule's leaves has counted where the rule ends.
use Rattle.std.proofs.Common.{◌≡◌, ◌+◌, ℕ, suc, zero, Bool, true, false, List, [], ◌∷◌, ◌++◌, refl, ap, ◌∙◌, sym}
use Rattle.std.proofs.Common.{subst, arith, length, Some, None, if◌then◌else◌, eq-eqb, ne_eqb}
use Rattle.std.specs.declared.option.Option.{Option}
use Rattle.prd_grammar.specs.declared.leaf.Keyword.TheVariants.{Do, Assert, Retract, Modify}
use Rattle.prd_grammar.specs.declared.leaf.Leaf.{Leaf}
use Rattle.prd_grammar.specs.declared.leaf.Leaf.TheVariants.{Key, Var, Open, Close, OpenSquare, CloseSquare}
use Rattle.prd_grammar.specs.declared.bracket.Bracket.{Bracket}
use Rattle.prd_grammar.specs.declared.bracket.Bracket.TheVariants.{Plain, Arguments}
use Rattle.prd_grammar.specs.Progress.{Counts, Progress, progress_with, progress_from, rule_at, ends_rule, closed}
use Rattle.prd_grammar.specs.Progress.{with_argument, takes_term, is_term, opened, brackets_with, head_with}
use Rattle.prd_grammar.specs.Progress.{named_with, is_sign_of_pattern}
use Rattle.prd_grammar.specs.Values.{names_with, names_from}
use Rattle.prd_limits.proofs.CountingFolds.{course, meets, falls, signs}

-- what has been counted of a rule
pub record Tally : Type 0 where
  pub names : List (List ℕ)
  pub patterns : ℕ
  pub actions : ℕ

abbrev pub tally : List (List ℕ) → ℕ → ℕ → Tally
tally names n a = record { names = names; patterns = n; actions = a }

abbrev pub tally_of : Counts → Tally
tally_of c = tally c.names c.patterns c.actions

-- that of the rule that ends at a leaf, and those of the rules that end among leaves
abbrev pub tally_ended : Progress → Leaf → List Tally
tally_ended p l = elim (rule_at p l) [
  | None ↦ []
  | Some c ↦ if ends_rule p.brackets c l then tally_of c ∷ [] else []
]

abbrev pub tallies : Progress → List Leaf → List Tally
tallies p [] = []
tallies p (l ∷ ls) = tally_ended p l ++ tallies (progress_with p l) ls

-- a rule is being read: the brackets, whether it is in its block, and its counts
abbrev pub counted : ℕ → Bool → List (List ℕ) → ℕ → ℕ → Counts
counted k b names n a = record { around = k; in_block = b; names = names; patterns = n; actions = a }

abbrev pub within : List Bracket → Leaf → Bool → Bool → ℕ → Option Counts → Progress
within bs last h m r c =
    record { brackets = bs; last = last; in_head = h; named = m; rules = r; rule = c }

-- the rule that is being read ends with these leaves
pub record Ends (p : Progress) (ls : List Leaf) (t : Tally) : Type 0 where
  pub reads : tallies p ls ≡ t ∷ []
  pub none : (progress_from p ls).rule ≡ None

length_closed : (bs : List Bracket) (d : ℕ) → length bs ≡ suc d → length (closed bs) ≡ d
length_closed [] d e = omega (arith, e)
length_closed (b ∷ bs) d e = omega (arith, e)

length_argument : (bs : List Bracket) → length (with_argument bs) ≡ length bs
length_argument [] = refl
length_argument (Plain ∷ bs) = refl
length_argument (Arguments b n ∷ bs) = refl

-- a leaf that is no bracket opens and closes none
length_kept : (bs : List Bracket) (is_one : Bool) (d : ℕ) → length bs ≡ d →
    length (if is_one then with_argument bs else bs) ≡ d
length_kept bs true d e = length_argument bs ∙ e
length_kept bs false d e = e

-- where a bracket closes in a block, the rule ends or goes on
abbrev behind_close : List Bracket → Bool → ℕ → Counts → Bool → Progress
behind_close bs h r c ended = within (closed bs) Close h false r (if ended then None else Some c)

close_last : (bs : List Bracket) (last : Leaf) (h m : Bool) (r k n a : ℕ) (names : List (List ℕ)) →
    length bs ≡ suc k → Ends (within bs last h m r (Some (counted k true names n a))) (Close ∷ []) (tally names n a)
close_last bs last h m r k n a names e =
    let ended = eq-eqb (length (closed bs)) k (length_closed bs k e) in
    record {
      reads = ap (λ (b : Bool). (if b then tally names n a ∷ [] else []) ++ []) ended;
      none = ap (λ (b : Bool). if b then None else Some (counted k true names n a)) ended;
    }

close_inner : (bs : List Bracket) (last : Leaf) (h m : Bool) (r k n a d : ℕ) (names : List (List ℕ))
    (ls : List Leaf) (t : Tally) → length bs ≡ suc (suc (k + d)) →
    Ends (within (closed bs) Close h false r (Some (counted k true names n a))) ls t →
    Ends (within bs last h m r (Some (counted k true names n a))) (Close ∷ ls) t
close_inner bs last h m r k n a d names ls t e x =
    let c = counted k true names n a in
    let goes = ne_eqb (length (closed bs)) k (λ same. omega (arith, same, length_closed bs (suc (k + d)) e)) in
    record {
      reads = subst (λ (b : Bool).
          (if b then tally names n a ∷ [] else []) ++ tallies (behind_close bs h r c b) ls ≡ t ∷ [])
          (sym goes) x.reads;
      none = subst (λ (b : Bool). (progress_from (behind_close bs h r c b) ls).rule ≡ None) (sym goes) x.none;
    }

-- In a block, the leaves up to the bracket that closes it.
pub block_ends : (ls : List Leaf) (bs : List Bracket) (last : Leaf) (h m : Bool) (r k n a d x : ℕ)
    (names : List (List ℕ)) → length bs ≡ suc (k + d) → course ls d a ≡ falls x [] →
    Ends (within bs last h m r (Some (counted k true names n a))) ls (tally (names_from names ls) n x)
block_ends [] bs last h m r k n a d x names e c = cc
block_ends (Open ∷ ls) bs last h m r k n a d x names e c =
    let g = block_ends ls (opened last ∷ bs) Open false false r k n a (suc d) x names (omega arith) c in
    record { reads = g.reads; none = g.none }
block_ends (OpenSquare ∷ ls) bs last h m r k n a d x names e c =
    let g = block_ends ls (Plain ∷ bs) OpenSquare h false r k n a (suc d) x names (omega arith) c in
    record { reads = g.reads; none = g.none }
block_ends (Close ∷ []) bs last h m r k n a zero x names e c =
    let same : a ≡ x = cc in
    subst (λ (y : ℕ). Ends (within bs last h m r (Some (counted k true names n a))) (Close ∷ [])
    (tally names n y)) same
    (close_last bs last h m r k n a names (omega (arith, e)))
block_ends (Close ∷ l ∷ ls) bs last h m r k n a zero x names e c = cc
block_ends (Close ∷ ls) bs last h m r k n a (suc d) x names e c =
    close_inner bs last h m r k n a d names ls _ (omega (arith, e))
    (block_ends ls (closed bs) Close h false r k n a d x names (length_closed bs (suc (k + d)) (omega (arith, e))) c)
block_ends (CloseSquare ∷ ls) bs last h m r k n a zero x names e c = cc
block_ends (CloseSquare ∷ ls) bs last h m r k n a (suc d) x names e c =
    let g = block_ends ls (closed bs) CloseSquare h false r k n a d x names
    (length_closed bs (suc (k + d)) (omega (arith, e))) c in
    record { reads = g.reads; none = g.none }
block_ends (Key Do ∷ ls) bs last h m r k n a d x names e c = cc
block_ends (Key Assert ∷ ls) bs last h m r k n a d x names e c =
    let g = block_ends ls bs (Key Assert) h false r k n (suc a) d x names e c in
    record { reads = g.reads; none = g.none }
block_ends (Key Retract ∷ ls) bs last h m r k n a d x names e c =
    let g = block_ends ls bs (Key Retract) h false r k n (suc a) d x names e c in
    record { reads = g.reads; none = g.none }
block_ends (Key Modify ∷ ls) bs last h m r k n a d x names e c =
    let g = block_ends ls bs (Key Modify) h false r k n (suc a) d x names e c in
    record { reads = g.reads; none = g.none }
block_ends (Var v ∷ ls) bs last h m r k n a d x names e c =
    let g = block_ends ls (with_argument bs) (Var v) h false r k n a d x (names_with names (Var v))
    (length_argument bs ∙ e) c in
    record { reads = g.reads; none = g.none }
block_ends (l ∷ ls) bs last h m r k n a d x names e c =
    let g = block_ends ls (brackets_with bs last l) l (head_with h l) (named_with (within bs last h m r None) l) r
    k n a d x names (length_kept bs (is_term l) _ e) c in
    record { reads = g.reads; none = g.none }

-- In a rule's conditions, the leaves up to the bracket that closes its block.
pub rule_ends : (ls more : List Leaf) (bs : List Bracket) (last : Leaf) (h m : Bool) (r k n a d x e b : ℕ)
    (names : List (List ℕ)) → length bs ≡ k + d →
    course ls d a ≡ meets e b (Open ∷ more) → course more e b ≡ falls x [] →
    Ends (within bs last h m r (Some (counted k false names n a))) ls
    (tally (names_from names ls) (signs (takes_term last) m n ls) x)
rule_ends [] more bs last h m r k n a d x e b names depth c f = cc
rule_ends (Key Do ∷ []) more bs last h m r k n a d x e b names depth c f = cc
rule_ends (Key Do ∷ Open ∷ ls) more bs last h m r k n a d x e b names depth c f =
    let falling : course ls d a ≡ falls x [] = cc in
    let g = block_ends ls (opened (Key Do) ∷ bs) Open false false r k n a d x names (omega (arith, depth)) falling in
    record { reads = g.reads; none = g.none }
rule_ends (Key Do ∷ l ∷ ls) more bs last h m r k n a d x e b names depth c f = cc
rule_ends (Open ∷ ls) more bs last h m r k n a d x e b names depth c f =
    let g = rule_ends ls more (opened last ∷ bs) Open false false r k (if m then suc n else n) a (suc d) x e b names
    (omega (arith, depth)) c f in
    record { reads = g.reads; none = g.none }
rule_ends (OpenSquare ∷ ls) more bs last h m r k n a d x e b names depth c f =
    let g = rule_ends ls more (Plain ∷ bs) OpenSquare h false r k n a (suc d) x e b names
    (omega (arith, depth)) c f in
    record { reads = g.reads; none = g.none }
rule_ends (Close ∷ ls) more bs last h m r k n a zero x e b names depth c f = cc
rule_ends (Close ∷ ls) more bs last h m r k n a (suc d) x e b names depth c f =
    let g = rule_ends ls more (closed bs) Close h false r k n a d x e b names
    (length_closed bs (k + d) (omega (arith, depth))) c f in
    record { reads = g.reads; none = g.none }
rule_ends (CloseSquare ∷ ls) more bs last h m r k n a zero x e b names depth c f = cc
rule_ends (CloseSquare ∷ ls) more bs last h m r k n a (suc d) x e b names depth c f =
    let g = rule_ends ls more (closed bs) CloseSquare h false r k n a d x e b names
    (length_closed bs (k + d) (omega (arith, depth))) c f in
    record { reads = g.reads; none = g.none }
rule_ends (Key Assert ∷ ls) more bs last h m r k n a d x e b names depth c f =
    let g = rule_ends ls more bs (Key Assert) h false r k n (suc a) d x e b names depth c f in
    record { reads = g.reads; none = g.none }
rule_ends (Key Retract ∷ ls) more bs last h m r k n a d x e b names depth c f =
    let g = rule_ends ls more bs (Key Retract) h false r k n (suc a) d x e b names depth c f in
    record { reads = g.reads; none = g.none }
rule_ends (Key Modify ∷ ls) more bs last h m r k n a d x e b names depth c f =
    let g = rule_ends ls more bs (Key Modify) h false r k n (suc a) d x e b names depth c f in
    record { reads = g.reads; none = g.none }
rule_ends (Var v ∷ ls) more bs last h m r k n a d x e b names depth c f =
    let g = rule_ends ls more (with_argument bs) (Var v) h false r k n a d x e b (names_with names (Var v))
    (length_argument bs ∙ depth) c f in
    record { reads = g.reads; none = g.none }
rule_ends (l ∷ ls) more bs last h m r k n a d x e b names depth c f =
    let g = rule_ends ls more (brackets_with bs last l) l (head_with h l) (named_with (within bs last h m r None) l) r
    k (if is_sign_of_pattern m l then suc n else n) a d x e b names (length_kept bs (is_term l) _ depth) c f in
    record { reads = g.reads; none = g.none }
