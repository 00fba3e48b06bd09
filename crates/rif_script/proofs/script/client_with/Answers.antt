use Rattle.std.proofs.Common.{ℕ, List, [], ◌∷◌, ◌++◌, ◌∙◌, ap}
use Rattle.prd_grammar.specs.Values.{place_of}
use Rattle.rif_script.proofs.ClientLemmas.{known_client, new_client, one_too_many}
use Rattle.rif_script.proofs.script.client_with.Goals as goal

pub returns-then-place-len-clause-is : goal.returns-then-place-len-clause-is
returns-then-place-len-clause-is c =
    known_client c.args.number c.place_of-place.result c.args.names c.args.name.now
    (c.place_of-place.ensures.is ∙ ap (λ (ns : List (List ℕ)). place_of ns c.args.name.now) c.as_slice.ensures)
    (rw c.len.ensures at c.if-place-len.true)

pub returns-then-place-ge-MOST_CLIENTS-clause-is : goal.returns-then-place-ge-MOST_CLIENTS-clause-is
returns-then-place-ge-MOST_CLIENTS-clause-is c =
    one_too_many c.args.number c.place_of-place.result c.args.names c.args.name.now
    (c.place_of-place.ensures.is ∙ ap (λ (ns : List (List ℕ)). place_of ns c.args.name.now) c.as_slice.ensures)
    (rw c.len.ensures at c.if-place-len.false) c.if-place-ge-MOST_CLIENTS.true

pub returns-clause-is : goal.returns-clause-is
returns-clause-is c =
    new_client c.args.number c.place_of-place.result c.args.names c.push.new.self c.args.name.now
    (c.place_of-place.ensures.is ∙ ap (λ (ns : List (List ℕ)). place_of ns c.args.name.now) c.as_slice.ensures)
    (rw c.len.ensures at c.if-place-len.false) c.if-place-ge-MOST_CLIENTS.false
    (c.in_ok-push.ensures.ok ∙ ap (λ (v : List ℕ). c.args.names ++ v ∷ []) c.in_ok-from_bytes.ensures)
