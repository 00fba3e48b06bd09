use Rattle.std.proofs.Common.{◌∙◌, ◌+◌, arith, sym, ap, ℕ, drop, take, length, List, ◌++◌}
use Rattle.std.proofs.lemmas.List.{append-nil, drop-drop}
use Rattle.rif_script.specs.Jobs.{is_separator, lines_of}
use Rattle.rif_script.specs.ReadingLines.{line_length}
use Rattle.rif_script.proofs.TextLineLemmas.{behind_of, count_so_far, line_grows, no_lines_before, document_ends}
use Rattle.rif_script.proofs.TextLineLemmas.{document_so_far, line_fits, line_is_long, line_of, script_begins}
use Rattle.rif_script.proofs.TextLineLemmas.{script_so_far, some_left}
use Rattle.rif_script.proofs.document_part.parts_of.Goals as goal

pub returns-then-is_separator : goal.returns-then-is_separator
returns-then-is_separator c =
    let at = c.loop-at.at in
    let text = c.args.bytes.now in
    let some_ = some_left at text c.loop-at-test.true in
    let line = line_of at text c.first_line.result.0.now c.first_line.ensures.line in
    let behind = behind_of at text c.first_line.result.1.now c.first_line.ensures.behind in
    let test = ap is_separator (sym line) ∙ (sym c.is_separator.ensures ∙ c.if-is_separator.true) in
    let front = take at text in
    record {
      document = sym
          (c.loop-at.invariant.document
          ∙ (ap (λ (xs : List ℕ). front ++ xs) (document_ends (drop at text) some_ test) ∙ append-nil front));
      script = ap lines_of behind ∙ (sym (script_begins (drop at text) some_ test) ∙ sym c.loop-at.invariant.script);
      first = (let none = no_lines_before (drop at text) some_ test in let so_far = c.loop-at.invariant.counted in
          omega (arith, none, so_far));
      last = (at + line_length (drop at text), behind ∙ drop-drop (line_length (drop at text)) at text);
    }

pub loop-at-preserved : goal.loop-at-preserved
loop-at-preserved c =
    let at = c.loop-at.at in
    let text = c.args.bytes.now in
    let some_ = some_left at text c.loop-at-test.true in
    let line = line_of at text c.first_line.result.0.now c.first_line.ensures.line in
    let test = ap is_separator (sym line) ∙ (sym c.is_separator.ensures ∙ c.if-is_separator.false) in
    let size = ap length line ∙ line_is_long (drop at text) in
    record {
      within = line_fits at _ text c.loop-at-test.true size;
      document = document_so_far at _ text size some_ test c.loop-at.invariant.document;
      counted = count_so_far at _ c.loop-at.lines text size some_ test c.loop-at.invariant.counted;
      few = (let before = c.loop-at.invariant.few in let grow = line_grows (drop at text) some_ in
          omega (arith, before, grow, size));
      script = script_so_far at _ text size some_ test c.loop-at.invariant.script;
    }
