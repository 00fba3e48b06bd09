-- How conjuncts are put into a ready order: the first one left that is ready is taken, again and again.
--     piece_of f                 a conjunct that is to be arranged: its free variables, all that occur in it, and,
--                                where these variables are bound, how it stands once it is arranged within, if it is
--                                ready. A conjunct that is taken binds its free variables
--     first_ready bound pieces   the first that is ready is taken, with what it binds, and the others are left
--     arrangement bound pieces   what was taken, in order, what is left when none of it is ready, and what is bound
--                                then
--     arranged bound f           the formula, arranged within, where it can be arranged
--     arrangement_of f           the arrangement of a condition's conjuncts, none of its variables bound before
--     occurring_in_pieces ps     the variables that occur in what is left
--     least_of vs                the least of some numbers
--     least_unbound a            the least variable that occurs in what an arrangement leaves and isn't bound
-- An `And` can be arranged where nothing of it is left. An `Or` can be where each branch can, and then binds, or
-- finds bound, every free variable of the whole `Or`. A `Not` can be where all its free variables are bound and its
-- formula can be arranged, and an `Exists` where its formula can.
-- Source: RIF-PRD, "Safeness"; that the order is found by taking the first is our own (docs/PROFILE.md, "Ready
-- order").
use Rattle.std.specs.Prelude.{ℕ, zero, suc, Bool, List, [], ◌∷◌, ◌++◌, map, length, min, Some, None, if◌then◌else◌}
use Rattle.std.specs.List.{flat_map}
use Rattle.std.specs.Option.{option_map}
use Rattle.std.specs.declared.option.Option.{Option}
use Rattle.rif_tree.specs.declared.tree.Formula.{Formula}
use Rattle.rif_tree.specs.declared.tree.Formula.TheVariants.{And, Or, Not, Exists, Equal, Member, Frame, Atom, Holds}
use Rattle.rif_tree.specs.declared.tree.Formula.TheOpen.{Formula-F, And as AndLayer, Or as OrLayer, Not as NotLayer}
use Rattle.rif_tree.specs.declared.tree.Formula.TheOpen.{Exists as ExistsLayer, Equal as EqualLayer}
use Rattle.rif_tree.specs.declared.tree.Formula.TheOpen.{Member as MemberLayer, Frame as FrameLayer}
use Rattle.rif_tree.specs.declared.tree.Formula.TheOpen.{Atom as AtomLayer, Holds as HoldsLayer}
use Rattle.rif_tree.specs.declared.tree.Formula.TheFolds.{fold-Formula}
use Rattle.rif_tree.specs.Ready.{pattern_ready, equal_ready, slots_ready}
use Rattle.rif_tree.specs.Variables.{has_all, without, variables_of, slots_free}
use Rattle.ready_order.specs.Conjuncts.{conjuncts_of}

pub record Piece : Type 0 where
  pub free : List ℕ
  pub occurring : List ℕ
  pub at : List ℕ → Option Formula

abbrev pub free_in_pieces : List Piece → List ℕ
free_in_pieces pieces = flat_map Piece.free pieces

abbrev pub occurring_in_pieces : List Piece → List ℕ
occurring_in_pieces pieces = flat_map Piece.occurring pieces

-- the conjunct that is taken, arranged within, what it binds, and what is left
pub record Taking : Type 0 where
  pub taken : Formula
  pub binds : List ℕ
  pub left : List Piece

-- what stands before the one that is taken is left too
abbrev pub left_before : List Piece → Taking → Taking
left_before before taking = record { taken = taking.taken; binds = taking.binds; left = before ++ taking.left }

-- the first of these is taken where it is ready, and else one behind it
abbrev pub taken_or : Piece → List Piece → Option Formula → Option Taking → Option Taking
taken_or piece behind (Some f) later = Some (record { taken = f; binds = piece.free; left = behind })
taken_or piece behind None later = option_map (left_before (piece ∷ [])) later

abbrev pub first_ready : List ℕ → List Piece → Option Taking
first_ready bound [] = None
first_ready bound (piece ∷ behind) = taken_or piece behind (piece.at bound) (first_ready bound behind)

pub record Arrangement : Type 0 where
  pub taken : List Formula
  pub left : List Piece
  pub bound : List ℕ

-- nothing more is taken where none is ready; else the others are arranged behind the one that is taken
abbrev pub taking_on : (List ℕ → List Piece → Arrangement) → List ℕ → List Piece → Option Taking → Arrangement
taking_on others bound pieces None = record { taken = []; left = pieces; bound = bound }
taking_on others bound pieces (Some taking) =
    let more = others (bound ++ taking.binds) taking.left in
    record { taken = taking.taken ∷ more.taken; left = more.left; bound = more.bound }

-- this many are taken at most
abbrev pub taking_up_to : ℕ → List ℕ → List Piece → Arrangement
taking_up_to zero bound pieces = record { taken = []; left = pieces; bound = bound }
taking_up_to (suc most) bound pieces = taking_on (taking_up_to most) bound pieces (first_ready bound pieces)

-- and so all that can be
abbrev pub arrangement : List ℕ → List Piece → Arrangement
arrangement bound pieces = taking_up_to (length pieces) bound pieces

abbrev pub where_none_left : List Piece → List Formula → Option (List Formula)
where_none_left [] taken = Some taken
where_none_left (piece ∷ pieces) taken = None

-- the members of an `And`, in the order in which they are taken, where none is left
abbrev pub members_at : List ℕ → List Piece → Option (List Formula)
members_at bound members = where_none_left (arrangement bound members).left (arrangement bound members).taken

-- one more in front, where there are both
abbrev pub both_at : Option Formula → Option (List Formula) → Option (List Formula)
both_at None more = None
both_at (Some f) more = option_map (λ fs. f ∷ fs) more

-- a branch, where it can be arranged and all these variables are bound behind it
abbrev pub branch_at : List ℕ → List ℕ → Piece → Option Formula
branch_at bound all branch = if has_all (bound ++ branch.free) all then branch.at bound else None

-- the branches of an `Or`, where that is so of each
abbrev pub branches_at : List ℕ → List ℕ → List Piece → Option (List Formula)
branches_at bound all [] = Some []
branches_at bound all (branch ∷ branches) = both_at (branch_at bound all branch) (branches_at bound all branches)

-- a conjunct without formulas inside it stands as it is
abbrev pub whole_piece : List ℕ → (List ℕ → Bool) → Formula → Piece
whole_piece vs is_ready f =
    record { free = vs; occurring = vs; at = λ bound. if is_ready bound then Some f else None }

abbrev pub piece_step : Formula-F Piece → Piece
piece_step (AndLayer members) = record {
  free = free_in_pieces members;
  occurring = occurring_in_pieces members;
  at = λ bound. option_map (λ fs. And fs) (members_at bound members);
}
piece_step (OrLayer branches) = record {
  free = free_in_pieces branches;
  occurring = occurring_in_pieces branches;
  at = λ bound. option_map (λ fs. Or fs) (branches_at bound (free_in_pieces branches) branches);
}
piece_step (NotLayer inner) = record {
  free = inner.free;
  occurring = inner.occurring;
  at = λ bound. if has_all bound inner.free then option_map (λ f. Not f) (inner.at bound) else None;
}
piece_step (ExistsLayer vs inner) = record {
  free = without vs inner.free;
  occurring = inner.occurring;
  at = λ bound. option_map (λ f. Exists vs f) (inner.at bound);
}
piece_step (EqualLayer a b) =
    whole_piece (variables_of a ++ variables_of b) (λ bound. equal_ready bound a b) (Equal a b)
piece_step (MemberLayer o c) =
    whole_piece (variables_of o ++ variables_of c) (λ bound. pattern_ready bound (o ∷ c ∷ [])) (Member o c)
piece_step (FrameLayer o pairs) = whole_piece (slots_free o pairs) (slots_ready o pairs) (Frame o pairs)
piece_step (AtomLayer p ts) =
    whole_piece (flat_map variables_of ts) (λ bound. pattern_ready bound ts) (Atom p ts)
piece_step (HoldsLayer pred ts) =
    whole_piece (flat_map variables_of ts) (λ bound. has_all bound (flat_map variables_of ts)) (Holds pred ts)

abbrev pub piece_of : Formula → Piece
piece_of = fold-Formula Piece piece_step

abbrev pub arranged : List ℕ → Formula → Option Formula
arranged bound f = (piece_of f).at bound

abbrev pub arrangement_of : Formula → Arrangement
arrangement_of f = arrangement [] (map piece_of (conjuncts_of f))

abbrev pub least_with : ℕ → Option ℕ → ℕ
least_with v None = v
least_with v (Some least) = min v least

abbrev pub least_of : List ℕ → Option ℕ
least_of [] = None
least_of (v ∷ vs) = Some (least_with v (least_of vs))

abbrev pub least_unbound : Arrangement → Option ℕ
least_unbound a = least_of (without a.bound (occurring_in_pieces a.left))
