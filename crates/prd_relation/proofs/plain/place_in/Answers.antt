use Rattle.std.proofs.Common.{◌≡◌, subst}
use Rattle.std.specs.List.{HoldsAt}
use Rattle.std.specs.declared.cmp.Ordering.{Ordering}
use Rattle.std.specs.declared.cmp.Ordering.TheVariants.{Equal}
use Rattle.rif_values.specs.declared.instance.Instance.{Instance}
use Rattle.rif_values.proofs.CallerLemmas.{instance_order_is}
use Rattle.prd_relation.proofs.PlainLemmas.{found_at}
use Rattle.prd_relation.proofs.plain.place_in.Goals as goal

pub find_in_set-requires : goal.find_in_set-requires
find_in_set-requires c = rw instance_order_is c.requires

pub returns-in-Ok-clause-some : goal.returns-in-Ok-clause-some
returns-in-Ok-clause-some c =
    found_at c.args.instances.now c.in-Ok.place c.args.instance.now c.in-Ok.ensures.bound
    (subst (λ (cmp : Instance → Instance → Ordering).
    HoldsAt (λ x. cmp x c.args.instance.now ≡ Equal) c.args.instances.now c.in-Ok.place)
    instance_order_is c.in-Ok.ensures.stands)

pub returns-in-Err-clause-none : goal.returns-in-Err-clause-none
returns-in-Err-clause-none c = rw (← instance_order_is) c.in-Err.ensures.absent
