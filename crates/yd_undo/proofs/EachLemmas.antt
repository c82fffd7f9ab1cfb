-- What holds of each step that makes something again, group by group and list by list.
use Rattle.std.proofs.Common.{ℕ, zero, suc, ◌-◌, List, [], ◌∷◌, length, Option, Some, None}
use Rattle.yd_words.specs.Each.{Each}
use Rattle.yd_words.proofs.EachLemmas.{each_append}
use Rattle.yd_ids.specs.declared.id.Id.{Id}
use Rattle.yd_ids.specs.declared.id.Span.{Span}
use Rattle.yd_ops.specs.declared.lists.List.{List as DocList}
use Rattle.yd_ops.specs.Operation.{later_id}
use Rattle.yd_editing.specs.Step.{Step}
use Rattle.yd_subsets.specs.Below.{span_below}
use Rattle.yd_undo.specs.Remade.{Seen, group_in, step_of_group, steps_from, steps_of_groups, step_of_key, key_steps_from, steps_of_keys, remade_steps}

module _ (P : Step → Type 0) (seen : Seen) (of_group : (name : DocList) (x : Id) (most : ℕ) → Each P (step_of_group seen (Some name) x (group_in seen (Some name) x most))) where
  of_groups : (name : Option DocList) (x : Id) (most : ℕ) → Each P (step_of_group seen name x (group_in seen name x most))
  of_groups None x most = tt
  of_groups (Some name) x most = of_group name x most

  from : (x : Id) (taken len : ℕ) → Each P (steps_from seen x taken len)
  from x taken zero = tt
  from x (suc taken) (suc len) = from (later_id x 1) taken len
  from x zero (suc len) = each_append P (step_of_group seen (seen.list_of x) x (group_in seen (seen.list_of x) x (suc len)))
      (steps_from seen (later_id x 1) (length (group_in seen (seen.list_of x) x (suc len)) - 1) len)
      (of_groups (seen.list_of x) x (suc len)) (from (later_id x 1) (length (group_in seen (seen.list_of x) x (suc len)) - 1) len)

  -- so it holds of all that is made in lists without a key
  pub groups_each : (spans : List Span) → Each P (steps_of_groups seen spans)
  groups_each [] = tt
  groups_each (span ∷ spans) = each_append P (steps_from seen (record { client = span.client; clock = span.clock }) 0 (span_below seen.basis.vector span).len) (steps_of_groups seen spans)
      (from (record { client = span.client; clock = span.clock }) 0 (span_below seen.basis.vector span).len) (groups_each spans)

module _ (P : Step → Type 0) (seen : Seen) (of_key : (deleted : List Span) (name : DocList) (x : Id) → Each P (step_of_key seen deleted (Some name) x)) where
  of_keys : (deleted : List Span) (name : Option DocList) (x : Id) → Each P (step_of_key seen deleted name x)
  of_keys deleted None x = tt
  of_keys deleted (Some name) x = of_key deleted name x

  keys_from : (deleted : List Span) (x : Id) (len : ℕ) → Each P (key_steps_from seen deleted x len)
  keys_from deleted x zero = tt
  keys_from deleted x (suc len) = each_append P (step_of_key seen deleted (seen.list_of x) x) (key_steps_from seen deleted (later_id x 1) len)
      (of_keys deleted (seen.list_of x) x) (keys_from deleted (later_id x 1) len)

  -- so it holds of all that is made in lists with a key
  pub keys_each : (deleted spans : List Span) → Each P (steps_of_keys seen deleted spans)
  keys_each deleted [] = tt
  keys_each deleted (span ∷ spans) =
      each_append P (key_steps_from seen deleted (record { client = span.client; clock = span.clock }) (span_below seen.basis.vector span).len) (steps_of_keys seen deleted spans)
      (keys_from deleted (record { client = span.client; clock = span.clock }) (span_below seen.basis.vector span).len) (keys_each deleted spans)

-- so it holds of all of them
pub remade_each : (P : Step → Type 0) (seen : Seen) → ((name : DocList) (x : Id) (most : ℕ) → Each P (step_of_group seen (Some name) x (group_in seen (Some name) x most))) →
    ((deleted : List Span) (name : DocList) (x : Id) → Each P (step_of_key seen deleted (Some name) x)) → (deleted : List Span) → Each P (remade_steps seen deleted)
remade_each P seen of_group of_key deleted = each_append P (steps_of_groups seen deleted) (steps_of_keys seen deleted deleted) (groups_each P seen of_group deleted)
    (keys_each P seen of_key deleted deleted)
