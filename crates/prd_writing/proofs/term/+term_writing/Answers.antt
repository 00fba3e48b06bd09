use Rattle.std.proofs.Common.{◌++◌, ◌∙◌, ◌∷◌}
use Rattle.rif_lex.specs.Spelling.{spelled_text, gap_text, joined}
use Rattle.prd_writing.specs.Canonical.{term_spelling, closing}
use Rattle.prd_writing.proofs.FoldLemmas.{call_written}
use Rattle.prd_writing.proofs.WritingLemmas.{item_written, items_written}
use Rattle.prd_writing.proofs.term.+term_writing.Goals as goal

pub push_terms-loop-term-preserved : goal.push_terms-loop-term-preserved
push_terms-loop-term-preserved t c =
    λ rest. item_written (term_spelling c.args.names.now) c.args.terms.now c.loop-term.term-index c.term-item.result
    c.loop-term.is_first c.loop-term.out.items c.push_space.new.out.items c.push_term.new.out.items
    c.loop-term-test.true c.term-item.is c.in_ok-push_space.ensures c.in_ok-push_term.ensures rest
    ∙ c.loop-term.invariant rest

pub push_terms-returns : goal.push_terms-returns
push_terms-returns t c =
    λ rest. items_written
    (term_spelling c.args.names.now) c.args.terms.now c.loop-term.term-index c.loop-term.is_first c.args.out.now.items
    c.loop-term.out.items c.loop-term-test.false rest (c.loop-term.invariant rest)

pub push_call-returns : goal.push_call-returns
push_call-returns t c = λ gap rest. c.in_ok-push_bytes-3.ensures (gap_text gap ++ spelled_text rest)
    ∙ (c.in_ok-push_terms.ensures (closing joined ∷ closing gap ∷ rest)
    ∙ (c.in_ok-push_bytes-2.ensures _ ∙ (c.in_ok-push_func.ensures _ ∙ c.in_ok-push_bytes.ensures _)))

pub push_term-returns-in_ok-push_call-in-Call : goal.push_term-returns-in_ok-push_call-in-Call
push_term-returns-in_ok-push_call-in-Call t c =
    call_written c.args.names.now c.args.term.now c.in-Call.func c.in-Call.arguments c.as_slice.result.now
    c.args.out.now.items c.push_call.new.out.items c.in-Call.is c.as_slice.ensures c.in_ok-push_call-in-Call.ensures
