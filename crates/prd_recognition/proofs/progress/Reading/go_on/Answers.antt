use Rattle.std.proofs.Common.{◌≡◌, ◌∙◌, ap, ℕ, Bool, length, suc, pred}
use Rattle.std.specs.Prelude.{if◌then◌else◌}
use Rattle.prd_grammar.specs.Progress.{Progress}
use Rattle.prd_recognition.specs.Reached.{names_given, progress_seen, rule_from, rule_kept}
use Rattle.prd_recognition.proofs.ProgressLemmas.{made_is, names_ended_is}
use Rattle.prd_recognition.proofs.progress.Reading.go_on.Goals as goal

pub returns : goal.returns
returns c =
    let p : Progress = progress_seen c.args.self.now in
    let l = c.args.leaf.now in
    let depth : c.depth_of-depth.result ≡ length p.brackets = c.depth_of-depth.ensures in
    let new = ap (λ (b : Bool). if b then suc p.rules else p.rules) c.is_new_rule-is_new.ensures in
    let rule = ap (λ (n : ℕ). rule_kept (pred n) p.named (rule_from p.rule n l) l) depth in
    let names = ap (λ (n : ℕ). names_given (pred n) (rule_from p.rule n l) l) depth in (
      made_is p l _ _ _ _ _ c.in_ok-put_bracket.ensures c.head_with-self.ensures c.named_with-self.ensures
          (c.rules_with-self.ensures ∙ new) (c.in_ok-ended.ensures.0 ∙ rule),
      c.in_ok-ended.ensures.1 ∙ (names ∙ names_ended_is p l),
    )
