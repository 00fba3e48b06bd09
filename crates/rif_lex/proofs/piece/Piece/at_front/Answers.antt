use Rattle.rif_lex.proofs.FitLemmas.{first_fits}
use Rattle.rif_lex.proofs.piece.Piece.at_front.Goals as goal

pub returns-clause-fits : goal.returns-clause-fits
returns-clause-fits c = rw (c.of_class.ensures, c.class_of.ensures) (first_fits c.args.text.now c.requires)
