use Rattle.std.proofs.Common.{ℕ, List, sym, ap, ◌∙◌, subst}
use Rattle.yd_ops.specs.Received.{Received}
use Rattle.yd_meaning.specs.Held.{held_set, standing}
use Rattle.yd_meaning.specs.Document.{Document}
use Rattle.yd_meaning.specs.Replica.{IsReplicaDocument}
use Rattle.yd_shown.specs.Law.{is_among, KeysAscend, HasKeysOfUnits}
use Rattle.yd_shown.specs.Shown.{key_list}
use Rattle.yd_shown.proofs.AscendLemmas.{keys_ascend}
use Rattle.yd_shown.proofs.KeyLemmas.{key_from, has_key_there}
use Rattle.yd_shown.proofs.ReceivedLists.{in_list, has_unit}
use Rattle.yd_shown.proofs.law.keys_have_units.Goals as goal

keys_of_units : (r : Received) (document : Document) → IsReplicaDocument document r → HasKeysOfUnits document
keys_of_units r document of_r = record {
  units = λ p k. (
    (λ e. let (o, i, of_list) = key_from (standing (held_set r.operations)) (standing (held_set r.operations)) p k (sym (ap (is_among k) (of_r.keys p)) ∙ e) in
        has_unit r document of_r (key_list p k) o i of_list),
    (λ unit. let (stands, of_list) = in_list r document of_r (key_list p k) unit.0 unit.1 in
        ap (is_among k) (of_r.keys p) ∙ has_key_there (standing (held_set r.operations)) p k unit.0 stands of_list),
  );
  ascend = λ p. subst (λ (keys : List (List ℕ)). KeysAscend keys) (sym (of_r.keys p)) (keys_ascend (standing (held_set r.operations)) (standing (held_set r.operations)) p);
}

pub returns : goal.returns
returns c = keys_of_units
