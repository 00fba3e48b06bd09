-- The text fixes the run: as far as both runs have the same batches, what stands before is the same text and cancels.
use Rattle.std.proofs.Common.{◌+◌, ◌<◌, Some, None, drop, zero, suc, cond, ◌≡◌, ◌==◌, ℕ, Bool, true, false, List, []}
use Rattle.std.proofs.Common.{◌∷◌, ◌++◌, IsSome, get_or, length, decimal, refl, sym, ap, ◌∙◌, append_assoc, count_by}
use Rattle.std.proofs.Common.{flat_map, subst, arith, slice_get, codes, eq-eqb, ◌&&◌}
use Rattle.std.specs.declared.option.Option.{Option}
use Rattle.std.specs.List.{sum_by}
use Rattle.std.proofs.lemmas.List.{append_cancel_left, append-nil}
use Rattle.std.proofs.lemmas.List.Sums.{sum_by-append}
use Rattle.session_states.specs.declared.item.Item.{Item}
use Rattle.session_states.specs.declared.item.Entry.{Entry}
use Rattle.session_states.specs.declared.turn.Act.{Act}
use Rattle.session_states.specs.declared.turn.Act.TheVariants.{Idle, Halted, Disposed, Fired, StoppedQuiet}
use Rattle.session_states.specs.declared.turn.Act.TheVariants.{StoppedLimit, Resting}
use Rattle.session_states.specs.declared.turn.Turn.{Turn}
use Rattle.rif_script.specs.declared.job.Job.{Job}
use Rattle.rif_tree.specs.Rules.{name_of}
use Rattle.session_states.specs.Batches.{joined}
use Rattle.session_states.specs.Clients.{CountUp, items_of, ranks_of, script_of}
use Rattle.rif_script.specs.JobClients.{HasClientNames}
use Rattle.rif_script.specs.Lines.{entry_line, item_text}
use Rattle.rif_script.specs.Trace.{act_text, act_word, effect_text, end_line, pick_text, run_text, turn_text}
use Rattle.rif_script.specs.Trace.{turns_text}
use Rattle.rif_script.specs.TraceLaws.{AreKnown, AreTurns, FollowsScripts, SameTextSameRun, turns_behind}
use Rattle.rif_script.proofs.ClientNameLemmas.{HasNoSpace, client_spaceless}

-- how many of the entries are a client's
abbrev count_of : ℕ → List Entry → ℕ
count_of client entries = count_by (λ (e : Entry). e.client == client) entries

-- the entries are the next ones of their clients' scripts, behind those before
abbrev Continue : Job → List Entry → List Entry → Type 0
Continue job before [] = Unit {0}
Continue job before (e ∷ es) =
    (e.client < length job.names) × (e.rank ≡ count_of e.client before) ×
    (slice_get (script_of e.client job.items) e.rank ≡ Some e.item) × Continue job (before ++ e ∷ []) es

same_name : (xs ys r q : List ℕ) → HasNoSpace xs → HasNoSpace ys → xs ++ 32 ∷ r ≡ ys ++ 32 ∷ q → xs ≡ ys
same_name [] [] r q h k e = refl
same_name [] (y ∷ ys) r q h k e = absurd (k.0 (cc))
same_name (x ∷ xs) [] r q h k e = absurd (h.0 (cc))
same_name (x ∷ xs) (y ∷ ys) r q h k e = let m = same_name xs ys r q h.1 k.1 (cc) in cc

abbrev entry_of : ℕ → ℕ → Item → Entry
entry_of c r i = record { client = c; rank = r; item = i }

same_parts : (c k r q : ℕ) (i j : Item) → c ≡ k → r ≡ q → i ≡ j → entry_of c r i ≡ entry_of k q j
same_parts c k r q i j e f g = cc

-- the rest of a line behind its word, and what stands behind it
abbrev line_rest : Job → Entry → List ℕ → List ℕ
line_rest job e rest = name_of job.names e.client ++ 32 ∷ (item_text e.item ++ 10 ∷ rest)

entry_line-rest : (word : List ℕ) (job : Job) (e : Entry) (rest : List ℕ) →
    entry_line word job.names e ++ rest ≡ word ++ 32 ∷ line_rest job e rest
entry_line-rest word job e rest = simp append_assoc

same_entry : (job : Job) (before : List Entry) (d e : Entry) (ds es : List Entry) (r q : List ℕ) →
    HasClientNames job → Continue job before (d ∷ ds) → Continue job before (e ∷ es) →
    line_rest job d r ≡ line_rest job e q → d ≡ e
same_entry job before d e ds es r q j h k same =
    let name = same_name (name_of job.names d.client) (name_of job.names e.client) _ _
    (client_spaceless (name_of job.names d.client) (j.formed d.client h.0))
    (client_spaceless (name_of job.names e.client) (j.formed e.client k.0)) same in
    let client : d.client ≡ e.client = j.distinct d.client e.client h.0 k.0 name in
    let counts : count_of d.client before ≡ count_of e.client before = ap (λ (c : ℕ). count_of c before) client in
    let rank : d.rank ≡ e.rank = cc in
    let at : slice_get (script_of d.client job.items) d.rank ≡ slice_get (script_of e.client job.items) e.rank = cc in
    let item : d.item ≡ e.item = cc in
    same_parts d.client e.client d.rank e.rank d.item e.item client rank item

-- Both lists of lines are of the same entries, up to what comes behind them.
same_lines : (word : List ℕ) (goes : List ℕ → Bool) (job : Job) (before xs ys after_xs after_ys : List Entry)
    (r q : List ℕ) → HasClientNames job →
    ((rest : List ℕ) → goes (word ++ 32 ∷ rest) ≡ true) → goes r ≡ false → goes q ≡ false →
    Continue job before (xs ++ after_xs) → Continue job before (ys ++ after_ys) →
    flat_map (entry_line word job.names) xs ++ r ≡ flat_map (entry_line word job.names) ys ++ q → (xs ≡ ys) × (r ≡ q)
same_lines word goes job before [] [] u v r q j g f f2 h k e = (refl, e)
same_lines word goes job before [] (y ∷ ys) u v r q j g f f2 h k e =
    let line = entry_line word job.names in
    let rest = flat_map line ys ++ q in
    let whole : r ≡ word ++ 32 ∷ line_rest job y rest =
    e ∙ (append_assoc (line y) (flat_map line ys) q ∙ entry_line-rest word job y rest) in
    let goes_on = g (line_rest job y rest) in
    absurd (cc)
same_lines word goes job before (x ∷ xs) [] u v r q j g f f2 h k e =
    let line = entry_line word job.names in
    let rest = flat_map line xs ++ r in
    let whole : q ≡ word ++ 32 ∷ line_rest job x rest =
    sym e ∙ (append_assoc (line x) (flat_map line xs) r ∙ entry_line-rest word job x rest) in
    let goes_on = g (line_rest job x rest) in
    absurd (cc)
same_lines word goes job before (x ∷ xs) (y ∷ ys) u v r q j g f f2 h k e =
    let line = entry_line word job.names in
    let a = append_assoc (line x) (flat_map line xs) r in
    let b = append_assoc (line y) (flat_map line ys) q in
    let whole : line x ++ (flat_map line xs ++ r) ≡ line y ++ (flat_map line ys ++ q) = sym a ∙ (e ∙ b) in
    let spelled : word ++ 32 ∷ line_rest job x (flat_map line xs ++ r) ≡
    word ++ 32 ∷ line_rest job y (flat_map line ys ++ q) =
    sym (entry_line-rest word job x (flat_map line xs ++ r))
    ∙ (whole ∙ entry_line-rest word job y (flat_map line ys ++ q)) in
    let behind = append_cancel_left word _ _ spelled in
    let inner = append_cancel_left (32 ∷ []) _ _ behind in
    let entry : x ≡ y = same_entry job before x y (xs ++ u) (ys ++ v) _ _ j h k inner in
    let rest : flat_map line xs ++ r ≡ flat_map line ys ++ q =
    append_cancel_left (line x) _ _ (whole ∙ ap (λ (z : Entry). line z ++ (flat_map line ys ++ q)) (sym entry)) in
    let k2 = subst (λ (z : Entry). Continue job (before ++ z ∷ []) (ys ++ v)) (sym entry) k.3 in
    let more = same_lines word goes job (before ++ x ∷ []) xs ys u v r q j g f f2 h.3 k2 rest in
    (cc, more.1)

continue_later : (job : Job) (before b rest : List Entry) → Continue job before (b ++ rest) →
    Continue job (before ++ b) rest
continue_later job before [] rest h = subst (λ (x : List Entry). Continue job x rest) (sym (append-nil before)) h
continue_later job before (e ∷ b) rest h =
    subst (λ (x : List Entry). Continue job x rest) (append_assoc before (e ∷ []) b)
    (continue_later job (before ++ e ∷ []) b rest h.3)

abbrev begins : ℕ → List ℕ → Bool
begins a [] = false
begins a (b ∷ bs) = b == a

-- whether a text begins as a line of an entry of a batch, or as one of an entry that is left
abbrev begins_in : List ℕ → Bool
begins_in [] = false
begins_in (a ∷ bs) = (a == 105) && begins 110 bs

abbrev begins_left : List ℕ → Bool
begins_left [] = false
begins_left (a ∷ bs) = a == 108

shown_otherwise : (act : Option Act) (pick line effect rest : List ℕ) → IsSome act →
    begins_in (act_word act ++ pick ++ line ++ effect ++ rest) ≡ false
shown_otherwise None pick line effect rest h = cc
shown_otherwise (Some Idle) pick line effect rest h = refl
shown_otherwise (Some Halted) pick line effect rest h = refl
shown_otherwise (Some Disposed) pick line effect rest h = refl
shown_otherwise (Some Fired) pick line effect rest h = refl
shown_otherwise (Some StoppedQuiet) pick line effect rest h = refl
shown_otherwise (Some StoppedLimit) pick line effect rest h = refl
shown_otherwise (Some Resting) pick line effect rest h = refl

-- the text from a turn on
abbrev text_from : Job → ℕ → List Turn → List Entry → List ℕ → List ℕ
text_from job k turns left ending =
    turns_text job k turns ++ (flat_map (entry_line (codes "left") job.names) left ++ 101 ∷ ending)

abbrev turn_line : ℕ → List ℕ
turn_line k = codes "turn " ++ decimal k ++ codes "\n"

text_from-cons : (job : Job) (k : ℕ) (turn : Turn) (turns : List Turn) (batch left : List Entry) (ending : List ℕ) →
    turn.batch ≡ batch →
    text_from job k (turn ∷ turns) left ending
    ≡ turn_line k ++
    (flat_map (entry_line (codes "in") job.names) batch ++
    (act_text job.doc turn ++ text_from job (suc k) turns left ending))
text_from-cons job k turn turns batch left ending takes =
    let lines = flat_map (entry_line (codes "in") job.names) in
    let more = flat_map (entry_line (codes "left") job.names) left ++ 101 ∷ ending in
    append_assoc (turn_text job k turn) (turns_text job (suc k) turns) more
    ∙ append_assoc (turn_line k ++ lines turn.batch) (act_text job.doc turn) (text_from job (suc k) turns left ending)
    ∙ append_assoc (turn_line k) (lines turn.batch) (act_text job.doc turn ++ text_from job (suc k) turns left ending)
    ∙ ap (λ (b : List Entry). turn_line k ++
    (lines b ++ (act_text job.doc turn ++ text_from job (suc k) turns left ending))) takes

same_from : (job : Job) (turn_of : List (List Entry) → List Entry → Turn) (k : ℕ) (done : List (List Entry))
    (before : List Entry) (bs cs : List (List Entry)) (left right : List Entry)
    (r q : List ℕ) → HasClientNames job → AreTurns turn_of → Continue job before (joined bs left) →
    Continue job before (joined cs right) →
    text_from job k (turns_behind turn_of done bs) left r ≡ text_from job k (turns_behind turn_of done cs) right q →
    (bs ≡ cs) × (left ≡ right)
same_from job turn_of k done before [] [] left right r q j a h k' e =
    let x = subst (λ (z : List Entry). Continue job before z) (sym (append-nil left)) h in
    let y = subst (λ (z : List Entry). Continue job before z) (sym (append-nil right)) k' in
    (refl, (same_lines (codes "left") begins_left job before left right [] [] _ _ j (λ rest. refl) refl refl x y e).0)
same_from job turn_of k done before [] (c ∷ cs) [] right r q j a h k' e =
    absurd (let f : 101 ≡ 116 = ap (λ (x : List ℕ). get_or x 0 0) e in omega arith)
same_from job turn_of k done before [] (c ∷ cs) (d ∷ left) right r q j a h k' e =
    absurd (let f : 108 ≡ 116 = ap (λ (x : List ℕ). get_or x 0 0) e in omega arith)
same_from job turn_of k done before (b ∷ bs) [] left [] r q j a h k' e =
    absurd (let f : 116 ≡ 101 = ap (λ (x : List ℕ). get_or x 0 0) e in omega arith)
same_from job turn_of k done before (b ∷ bs) [] left (d ∷ right) r q j a h k' e =
    absurd (let f : 116 ≡ 108 = ap (λ (x : List ℕ). get_or x 0 0) e in omega arith)
same_from job turn_of k done before (b ∷ bs) (c ∷ cs) left right r q j a h k' e =
    let turn = turn_of done b in
    let other = turn_of done c in
    let turns = turns_behind turn_of (done ++ b ∷ []) bs in
    let others = turns_behind turn_of (done ++ c ∷ []) cs in
    let first = text_from-cons job k turn turns b left r (a.takes done b) in
    let second = text_from-cons job k other others c right q (a.takes done c) in
    let lines = append_cancel_left (turn_line k) _ _ (sym first ∙ (e ∙ second)) in
    let shown : begins_in (act_text job.doc turn ++ text_from job (suc k) turns left r) ≡ false =
    shown_otherwise turn.act (pick_text job.doc turn.pick) (codes "\n") (effect_text turn.effect)
    (text_from job (suc k) turns left r) (a.settled done b) in
    let shown2 : begins_in (act_text job.doc other ++ text_from job (suc k) others right q) ≡ false =
    shown_otherwise other.act (pick_text job.doc other.pick) (codes "\n") (effect_text other.effect)
    (text_from job (suc k) others right q) (a.settled done c) in
    let split = same_lines (codes "in") begins_in job before b c (joined bs left) (joined cs right) _ _ j
    (λ rest. refl) shown shown2 h k' lines in
    let batch : b ≡ c = split.0 in
    let acts : act_text job.doc turn ++ text_from job (suc k) turns left r
    ≡ act_text job.doc turn ++ text_from job (suc k) (turns_behind turn_of (done ++ b ∷ []) cs) right q =
    split.1 ∙ ap (λ (x : List Entry). act_text job.doc (turn_of done x) ++
    text_from job (suc k) (turns_behind turn_of (done ++ x ∷ []) cs) right q) (sym batch) in
    let rest = append_cancel_left (act_text job.doc turn) _ _ acts in
    let h2 = continue_later job before b (joined bs left) h in
    let k2 = continue_later job before b (joined cs right)
    (subst (λ (x : List Entry). Continue job before (x ++ joined cs right)) (sym batch) k') in
    let more = same_from job turn_of (suc k) (done ++ b ∷ []) (before ++ b) bs cs left right r q j a h2 k2 rest in
    (cc, more.1)

first_of_drop : (n : ℕ) (xs : List Item) (y : Item) (ys : List Item) → y ∷ ys ≡ drop n xs →
    (slice_get xs n ≡ Some y) × (ys ≡ drop (suc n) xs)
first_of_drop zero [] y ys e = cc
first_of_drop (suc n) [] y ys e = cc
first_of_drop zero (x ∷ xs) y ys e = (cc, cc)
first_of_drop (suc n) (x ∷ xs) y ys e = first_of_drop n xs y ys e

count_of-own : (c : ℕ) (before : List Entry) (e : Entry) → e.client == c ≡ true →
    count_of c (before ++ e ∷ []) ≡ suc (count_of c before)
count_of-own c before e own =
    let parts = sum_by-append (λ (x : Entry). cond (x.client == c) 1 0) before (e ∷ []) in
    let one : sum_by (λ (x : Entry). cond (x.client == c) 1 0) (e ∷ []) ≡ 1 = ap (λ (b : Bool). 0 + cond b 1 0) own in
    omega (arith, parts, one)

count_of-other : (c : ℕ) (before : List Entry) (e : Entry) → e.client == c ≡ false →
    count_of c (before ++ e ∷ []) ≡ count_of c before
count_of-other c before e other =
    let parts = sum_by-append (λ (x : Entry). cond (x.client == c) 1 0) before (e ∷ []) in
    let none : sum_by (λ (x : Entry). cond (x.client == c) 1 0) (e ∷ []) ≡ 0 =
    ap (λ (b : Bool). 0 + cond b 1 0) other in
    omega (arith, parts, none)

-- the entries go on where the scripts are behind those before
record GoesOn (job : Job) (before es : List Entry) : Type 0 where
  known : AreKnown job es
  items : (c : ℕ) → (more : List Item) × (items_of c es ++ more ≡ drop (count_of c before) (script_of c job.items))
  ranks : (c : ℕ) → CountUp (count_of c before) (ranks_of c es)

-- the client's items from its next one on, where an entry is its own
own_items : (job : Job) (before es : List Entry) (e : Entry) (c : ℕ) → e.client == c ≡ true →
    (g : GoesOn job before (e ∷ es)) →
    e.item ∷ (items_of c es ++ (g.items c).0) ≡ drop (count_of c before) (script_of c job.items)
own_items job before es e c own g =
    ap (λ (b : Bool). cond b (e.item ∷ items_of c es) (items_of c es) ++ (g.items c).0)
    (sym own) ∙ (g.items c).1

later_items : (job : Job) (before es : List Entry) (e : Entry) (c : ℕ) (is : Bool) → e.client == c ≡ is →
    GoesOn job before (e ∷ es) →
    (more : List Item) × (items_of c es ++ more ≡ drop (count_of c (before ++ e ∷ [])) (script_of c job.items))
later_items job before es e c true own g =
    let rest = first_of_drop (count_of c before) (script_of c job.items) e.item (items_of c es ++ (g.items c).0)
    (own_items job before es e c own g) in
    ((g.items c).0, rest.1 ∙ ap (λ (k : ℕ). drop k (script_of c job.items)) (sym (count_of-own c before e own)))
later_items job before es e c false other g =
    let i = g.items c in
    let same : items_of c es ++ i.0 ≡ drop (count_of c before) (script_of c job.items) =
    ap (λ (b : Bool). cond b (e.item ∷ items_of c es) (items_of c es) ++ i.0) (sym other) ∙ i.1 in
    (i.0, same ∙ ap (λ (k : ℕ). drop k (script_of c job.items)) (sym (count_of-other c before e other)))

later_ranks : (job : Job) (before es : List Entry) (e : Entry) (c : ℕ) (is : Bool) → e.client == c ≡ is →
    GoesOn job before (e ∷ es) →
    CountUp (count_of c (before ++ e ∷ [])) (ranks_of c es)
later_ranks job before es e c true own g =
    let r = subst (λ (b : Bool). CountUp (count_of c before) (cond b (e.rank ∷ ranks_of c es) (ranks_of c es)))
    own (g.ranks c) in
    subst (λ (k : ℕ). CountUp k (ranks_of c es)) (sym (count_of-own c before e own)) r.1
later_ranks job before es e c false other g =
    let r = subst (λ (b : Bool). CountUp (count_of c before) (cond b (e.rank ∷ ranks_of c es) (ranks_of c es)))
    other (g.ranks c) in
    subst (λ (k : ℕ). CountUp k (ranks_of c es)) (sym (count_of-other c before e other)) r

its_own : (e : Entry) → e.client == e.client ≡ true
its_own e = eq-eqb e.client e.client refl

goes_on : (job : Job) (before es : List Entry) → GoesOn job before es → Continue job before es
goes_on job before [] g = tt
goes_on job before (e ∷ es) g =
    let c = e.client in
    let at = first_of_drop (count_of c before) (script_of c job.items) e.item (items_of c es ++ (g.items c).0)
    (own_items job before es e c (its_own e) g) in
    let r = subst (λ (b : Bool). CountUp (count_of c before) (cond b (e.rank ∷ ranks_of c es) (ranks_of c es)))
    (its_own e) (g.ranks c) in
    let rank : e.rank ≡ count_of c before = r.0 in (
      g.known.0,
      rank,
      subst (λ (k : ℕ). slice_get (script_of c job.items) k ≡ Some e.item) (sym rank) at.0,
      goes_on job (before ++ e ∷ []) es
          (record {
            known = g.known.1;
            items = λ d. later_items job before es e d (e.client == d) refl g;
            ranks = λ d. later_ranks job before es e d (e.client == d) refl g;
          }),
    )

scripts_go_on : (job : Job) (es : List Entry) → FollowsScripts job es → Continue job [] es
scripts_go_on job es f = goes_on job [] es (record { known = f.known; items = f.items; ranks = f.ranks })

run_text-from : (job : Job) (turns : List Turn) (left : List Entry) (facts : ℕ) →
    run_text job turns left facts ≡ text_from job 1 turns left (drop 1 (end_line turns facts))
run_text-from job turns left facts = append_assoc (turns_text job 1 turns)
    (flat_map (entry_line (codes "left") job.names) left) (end_line turns facts)

pub same_text_same_run : SameTextSameRun
same_text_same_run job turn_of bs cs left right m n j a h k e =
    let turns = turns_behind turn_of [] bs in
    let others = turns_behind turn_of [] cs in
    same_from job turn_of 1 [] [] bs cs left right (drop 1 (end_line turns m)) (drop 1 (end_line others n)) j a
    (scripts_go_on job (joined bs left) h) (scripts_go_on job (joined cs right) k)
    (sym (run_text-from job turns left m) ∙ (e ∙ run_text-from job others right n))
