use Rattle.std.proofs.Common.{◌∙◌, ◌⊎◌}
use Rattle.rif_session.proofs.CoreLemmas.{Entered, Kept, entered_or, known_on, lawful_on, free_on, same_on, shut_on}
use Rattle.rif_session.proofs.FrontLemmas.{DisposeLaws}
use Rattle.rif_session.proofs.session_core.Core.enter.Goals as goal

pub invariant_of-self : goal.invariant_of-self
invariant_of-self g c =
    let core = c.args.self.now in
    let run = core.engine in
    let held = core.held.entries in
    let laws : DisposeLaws = record {
      by = c.a_dispose_disposes.ensures;
      only = c.a_session_is_disposed_by_a_dispose.ensures;
      stops = c.turns_stop_where_they_must.ensures;
    } in
    let run' = c.enter.new.engine in
    let held' = c.enter.new.held.entries in
    let cases : Entered run run' held held' ⊎ Kept run run' held held' =
    entered_or run run' held held' c.enter.result c.enter.ensures.ok c.enter.ensures.none_held c.enter.ensures.err
    c.enter.ensures.held in record {
      known = known_on run run' held held' cases ∙ core.known;
      tied = core.tied;
      same = same_on run run' held held' (g.L.Propagation.taken core.taker) c.requires.may.settled cases core.same;
      lawful = lawful_on laws run run' held held' c.requires.may c.requires.lawful cases core.lawful;
      shut = shut_on laws run run' held held' (g.L.Propagation.has_shut core.taker) c.requires.may cases core.lawful
          core.shut;
      free = free_on run run' held held' c.requires.may cases;
    }
