use Rattle.std.proofs.Common.{◌-◌, length, drop, ◌∙◌, arith, length-drop}
use Rattle.std.proofs.lemmas.List.{length-take}
use Rattle.rif_top.proofs.WritingLemmas.{appends_both, front_grows}
use Rattle.rif_top.proofs.writing.write_text.Goals as goal

pub loop-at-preserved : goal.loop-at-preserved
loop-at-preserved g c =
    let at = c.loop-at.at in
    let text = c.args.text.now in
    let given = c.in_ok-count.ensures in
    let piece_length = length-take (length text - at) (drop at text) in
    record {
      within = omega (arith, piece_length, length-drop at text, given.bound);
      count_stands = given.cause.stays ∙ c.loop-at.invariant.count_stands;
      wrote_front = rw front_grows (appends_both _ _ _ _ _ c.loop-at.invariant.wrote_front given.bytes);
    }
