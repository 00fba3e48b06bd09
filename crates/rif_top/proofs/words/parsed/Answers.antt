use Rattle.std.proofs.Common.{◌≡◌, ◌∙◌, List, map, rules, subst, sym, true, ℕ}
use Rattle.clap.specs.Words.{App, HasMatchesOf, takes}
use Rattle.rif_top.proofs.WordLemmas.{are_taken, has_name, is_told}
use Rattle.rif_top.proofs.words.parsed.Goals.{in-Some, in-None}
use Rattle.rif_top.proofs.words.parsed.Goals as goal

pub returns-in_err-matches-clause-err : goal.returns-in_err-matches-clause-err
returns-in_err-matches-clause-err over =
    let words : List (List ℕ) = map (λ word. word.now) over.args.words.now in
    let taken = subst (λ (a : App). takes a words ≡ true) (sym over.in_ok-commands.ensures)
    (are_taken words over.requires) in
    let memory = over.in_err-matches.ensures.passes taken in
    search (rules, memory)

pub returns : goal.returns
returns c =
    let words : List (List ℕ) = map (λ word. word.now) c.args.words.now in
    let matches = c.in_ok-matches.matches in
    let has = subst (λ (a : App). HasMatchesOf a words matches) c.in_ok-commands.ensures
    c.in_ok-matches.ensures.matches in
    let told = is_told words matches c.requires has in
    let named = has_name words matches c.requires has in
    elim c.match-subcommand_name.branch [
      | in-Some w ↦ record {
        ok = w.result-is ∙ w.named.ensures ∙ told w.in-Some.name.now w.in-Some.ensures;
        err = tt;
      }
      | in-None w ↦ absurd (named w.in-None.ensures)
    ]
