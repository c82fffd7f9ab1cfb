use Rattle.std.proofs.Common.{pos, [], ◌∷◌, Some, None, inl, inr, refl, arith}
use Rattle.yd_any.specs.Tree.{whole, no_trees, tree}
use Rattle.yd_ops.specs.declared.kinds.Kind.TheVariants.{Array}
use Rattle.yd_ops.specs.Value.{any}
use Rattle.yd_ops.specs.Operation.{nested_type, Operation}
use Rattle.yd_meaning.specs.Held.{held_set}
use Rattle.yd_meaning.specs.Order.{AreHonest}
use Rattle.yd_meaning.specs.Example.{first_id, in_array}
use Rattle.yd_meaning.specs.Collected.{origin_gone, array_made, five_gone, six_put}
use Rattle.yd_ops.proofs.AgreementLemmas.{received_written}
use Rattle.yd_meaning.proofs.VectorLemmas.{held_written}
use Rattle.yd_meaning.proofs.ExampleLemmas.{lone_honest, first_is_id, first_valid, gone_valid}
use Rattle.yd_meaning.proofs.example.origin_gone.Goals as goal

-- what the array's update has
abbrev array : Operation
array = record { id = first_id 1; left_origin = None; right_origin = None; list = Some in_array; content = nested_type Array }

-- the array alone stands, and needs nothing
honest : AreHonest (held_set origin_gone.operations)
honest = lone_honest (held_set origin_gone.operations) (held_written origin_gone.operations (received_written (array_made ∷ five_gone ∷ six_put ∷ []))) array (inr (inr (inl refl))) (λ x i. i) refl

pub returns : goal.returns
returns c = record {
  valid = (
    first_valid 3 (Some (first_id 2)) None (any (tree (whole (pos 6)) no_trees)) (omega arith) (first_is_id 2 (omega arith)) tt refl (refl, tt),
    gone_valid 3 [] (omega arith) tt,
  );
  six_first = refl;
  gone_first = refl;
  full_first = refl;
  full_last = refl;
  held = refl;
  waiting = refl;
  all_deleted = refl;
  one_list = refl;
  honest = honest;
  held_still = refl;
  deleted_still = refl;
  one_list_still = refl;
}
