use Rattle.rif_sets.proofs.SetsSearch.{searched}
use Rattle.rif_sets.proofs.sets.find_in_set.Goals as goal

pub returns-clause-found : goal.returns-clause-found
returns-clause-found g c =
    let search = c.binary_search.ensures in
    (searched g.met.K.Ord.total c.args.set.now c.args.item.now c.binary_search.result c.requires search.bound
    search.position).found

pub returns-clause-absent : goal.returns-clause-absent
returns-clause-absent g c =
    let search = c.binary_search.ensures in
    (searched g.met.K.Ord.total c.args.set.now c.args.item.now c.binary_search.result c.requires search.bound
    search.position).absent

pub returns-clause-place : goal.returns-clause-place
returns-clause-place g c =
    let search = c.binary_search.ensures in
    (searched g.met.K.Ord.total c.args.set.now c.args.item.now c.binary_search.result c.requires search.bound
    search.position).place
