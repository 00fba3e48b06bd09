use Rattle.std.proofs.lemmas.Result.{err_from_is_err_and}
use Rattle.rif_script.proofs.ClientLemmas.{no_client, with_room_is}
use Rattle.rif_script.proofs.script.Script.with_room.Goals as goal

pub returns-in_err-client-clause-is : goal.returns-in_err-client-clause-is
returns-in_err-client-clause-is c =
    let p = err_from_is_err_and c.from_residual.result c.from_residual.ensures.1 in
    rw (p.1, p.2) (no_client c.in_err-client.field-0.0 c.args.number c.args.self (c.args.name.now, c.args.item)
    c.args.budgets c.in_err-client.ensures.is)

pub returns-clause-is : goal.returns-clause-is
returns-clause-is c =
    with_room_is c.args.number c.args.self (c.args.name.now, c.args.item) c.args.budgets c.in_ok-client.client
    c.in_ok-client.names c.in_ok-items.items c.in_ok-client.ensures.is c.in_ok-items.ensures
