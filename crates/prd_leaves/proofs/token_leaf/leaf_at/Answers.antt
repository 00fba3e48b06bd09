use Rattle.rif_lex.specs.Spelling.{written}
use Rattle.prd_leaves.proofs.TokenLemmas.{int_digits, local_utf8, var_utf8, str_utf8, iri_utf8}
use Rattle.prd_leaves.proofs.token_leaf.leaf_at.Goals as goal

pub text-requires : goal.text-requires
text-requires c =
    rw (c.behind_sign.ensures, c.text_of-text.ensures)
    (local_utf8 (written c.args.bytes.now c.args.token) c.requires.form c.in-Local.is c.requires.utf8)

pub text-requires-in-Var : goal.text-requires-in-Var
text-requires-in-Var c =
    rw (c.behind_sign-in-Var.ensures, c.text_of-text.ensures)
    (var_utf8 (written c.args.bytes.now c.args.token) c.requires.form c.in-Var.is c.requires.utf8)

pub integer_of-requires-clause-digits : goal.integer_of-requires-clause-digits
integer_of-requires-clause-digits c =
    rw c.text_of-text.ensures (int_digits (written c.args.bytes.now c.args.token) c.requires.form c.in-Int.is)

pub unescaped-requires : goal.unescaped-requires
unescaped-requires c =
    rw (c.inner.ensures, c.text_of-text.ensures)
    (str_utf8 (written c.args.bytes.now c.args.token) c.requires.form c.in-Str.is c.requires.utf8)

pub iri_leaf-requires : goal.iri_leaf-requires
iri_leaf-requires c =
    rw (c.inner-in-Iri.ensures, c.text_of-text.ensures)
    (iri_utf8 (written c.args.bytes.now c.args.token) c.requires.form c.in-Iri.is c.requires.utf8)
