use Rattle.std.proofs.Common.{◌≡◌, ℕ, Bool, true, false, List, Option, Some, None, refl, sym, ap, ◌∙◌, subst}
use Rattle.std.specs.Prelude.{if◌then◌else◌}
use Rattle.yd_any.specs.Tree.{AnyTree}
use Rattle.yd_any.specs.Keys.{first_at}
use Rattle.yd_ops.specs.declared.lists.Parent.{Parent}
use Rattle.yd_ops.specs.Operation.{Operation}
use Rattle.yd_ops.specs.Received.{Received}
use Rattle.yd_meaning.specs.Held.{held_set, standing}
use Rattle.yd_meaning.specs.Document.{Document}
use Rattle.yd_meaning.specs.Replica.{IsReplicaDocument}
use Rattle.yd_shown.specs.Shown.{key_list, last_unit, value_under, fields_under, map_fields}
use Rattle.yd_shown.specs.Law.{is_among, FieldsAscend}
use Rattle.yd_shown.proofs.KeyLemmas.{has_key_there}
use Rattle.yd_shown.proofs.MapLemmas.{fields_of_keys, keys_left_out, last_is_one}
use Rattle.yd_shown.proofs.ReceivedLists.{in_list}
use Rattle.yd_shown.proofs.AscendLemmas.{map_ascends}
use Rattle.yd_shown.proofs.law.maps_show_last.Goals as goal

module _ (show : Operation → AnyTree) (r : Received) (document : Document) (of_r : IsReplicaDocument document r) where
  -- a key that is not there has no unit in its list
  nothing_under : (p : Parent) (k : List ℕ) (last : Option Operation) → last_unit (document.units (key_list p k)) ≡ last → (t : Bool) → is_among k (document.keys p) ≡ t →
      (if t then value_under show document p k else None) ≡ value_under show document p k
  nothing_under p k last e true f = refl
  nothing_under p k None e false f = rw e refl
  nothing_under p k (Some o) e false f =
      let (is, of_list) = in_list r document of_r (key_list p k) o (last_is_one (document.units (key_list p k)) o e) in
      let there : is_among k (document.keys p) ≡ true = ap (is_among k) (of_r.keys p) ∙ has_key_there (standing (held_set r.operations)) p k o is of_list in
      absurd (cc (there, f))

  -- so it is under every key
  under_each : (p : Parent) (k : List ℕ) → first_at k (map_fields show document p) ≡ value_under show document p k
  under_each p k = fields_of_keys show document p k
      ∙ nothing_under p k (last_unit (document.units (key_list p k))) refl (is_among k (document.keys p)) refl

  all_ascend : (p : Parent) → FieldsAscend (map_fields show document p)
  all_ascend p = subst (λ (keys : List (List ℕ)). FieldsAscend (fields_under show document p keys)) (sym (of_r.keys p))
      (map_ascends show document p (standing (held_set r.operations)) (standing (held_set r.operations)))

pub returns : goal.returns
returns c = record {
  under_keys = λ show document p k. fields_of_keys show document p k;
  left_out = λ show document p test none. keys_left_out show document p test none (document.keys p);
  received = under_each;
  ascend = all_ascend;
}
