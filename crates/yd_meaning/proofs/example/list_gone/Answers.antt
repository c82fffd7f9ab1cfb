use Rattle.std.proofs.Common.{pos, [], ◌∷◌, Some, None, inl, inr, refl, arith}
use Rattle.yd_any.specs.Tree.{whole, no_trees, tree}
use Rattle.yd_ops.specs.declared.kinds.Kind.TheVariants.{Array}
use Rattle.yd_ops.specs.declared.lists.Parent.TheVariants.{Item}
use Rattle.yd_ops.specs.Value.{nested, any}
use Rattle.yd_ops.specs.Operation.{nested_type, Operation}
use Rattle.yd_meaning.specs.Held.{held_set}
use Rattle.yd_meaning.specs.Order.{AreHonest}
use Rattle.yd_meaning.specs.Example.{first_id, in_array}
use Rattle.yd_meaning.specs.Collected.{span_of, list_gone, array_made, five_gone}
use Rattle.yd_ops.proofs.AgreementLemmas.{received_written}
use Rattle.yd_meaning.proofs.VectorLemmas.{held_written}
use Rattle.yd_meaning.proofs.ExampleLemmas.{lone_honest, first_is_id, first_valid, gone_valid}
use Rattle.yd_meaning.proofs.example.list_gone.Goals as goal

-- what the array's update has
abbrev array : Operation
array = record { id = first_id 1; left_origin = None; right_origin = None; list = Some in_array; content = nested_type Array }

-- the array alone stands, and needs nothing
honest : AreHonest (held_set list_gone.operations)
honest = lone_honest (held_set list_gone.operations) (held_written list_gone.operations (received_written (array_made ∷ five_gone ∷ []))) array (inr (inl refl)) (λ x i. i) refl

pub returns : goal.returns
returns c = record {
  valid = (
    first_valid 1 None (Some in_array) (nested Array) (omega arith) tt tt refl tt,
    first_valid 2 None (Some (record { parent = Item (first_id 1); key = None })) (any (tree (whole (pos 5)) no_trees)) (omega arith) tt (first_is_id 1 (omega arith)) refl (refl, tt),
    gone_valid 2 (span_of 1 0 1 ∷ []) (omega arith) (record { client = omega arith; end = omega arith }, omega arith, tt, tt),
  );
  full_first = refl;
  gone_between = refl;
  full_then_array = refl;
  array_last = refl;
  gone_first = refl;
  gone_then_full = refl;
  held = refl;
  all_deleted = refl;
  one_list = refl;
  list = refl;
  live = refl;
  honest = honest;
  vector = (refl, refl);
}
