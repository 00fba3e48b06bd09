use Rattle.rif_facts.proofs.FatesLemmas.{retracted_now}
use Rattle.rif_facts.proofs.fates.Fates.retract.Goals as goal

pub returns : goal.returns
returns c =
    retracted_now c.args.self.now.own.entries c.args.self.now.retracted.keys c.insert.new.self.keys c.args.retraction
    c.in_ok-insert.ensures.keys
