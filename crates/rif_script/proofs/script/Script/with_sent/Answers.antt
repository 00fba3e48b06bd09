use Rattle.std.proofs.lemmas.Result.{err_from_is_err_and}
use Rattle.rif_script.proofs.ClientLemmas.{answers_steps, no_room}
use Rattle.rif_script.proofs.script.Script.with_sent.Goals as goal

pub returns-in_err-budgets-clause-is : goal.returns-in_err-budgets-clause-is
returns-in_err-budgets-clause-is c =
    let p = err_from_is_err_and c.from_residual.result c.from_residual.ensures.1 in
    rw (p.1, p.2) (no_room c.in_err-budgets.field-0.0 c.args.number c.args.self (c.args.name.now, c.args.item)
    c.in_err-budgets.ensures)

pub returns-clause-is : goal.returns-clause-is
returns-clause-is c =
    answers_steps c.with_room.result c.args.number c.args.self (c.args.name.now, c.args.item) c.in_ok-budgets.budgets
    c.in_ok-budgets.ensures c.with_room.ensures.is
