use Rattle.std.proofs.Common.{◌∙◌}
use Rattle.prd_writing.specs.Canonical.{decl_spelling}
use Rattle.prd_writing.proofs.WritingLemmas.{spaced_written, all_spaced_written}
use Rattle.prd_writing.proofs.action.push_decls.Goals as goal

pub loop-decl-preserved : goal.loop-decl-preserved
loop-decl-preserved c = λ rest.
    spaced_written (decl_spelling c.args.names.now) c.args.decls.now c.loop-decl.decl-index c.decl-item.result
    c.decl-item.result
    c.loop-decl.out.items c.push_decl.new.out.items c.push_bytes.new.out.items c.loop-decl-test.true c.decl-item.is
    c.in_ok-push_decl.ensures c.in_ok-push_bytes.ensures rest
    ∙ c.loop-decl.invariant rest

pub returns : goal.returns
returns c = λ rest.
    all_spaced_written (decl_spelling c.args.names.now) c.args.decls.now c.loop-decl.decl-index
    c.args.out.now.items c.loop-decl.out.items c.loop-decl-test.false rest (c.loop-decl.invariant rest)
