-- What is all held and honest: its lists, what it needs, its clocks, and the units of its lists, which stand and are of them.
use Rattle.std.proofs.Common.{◌≡◌, ◌↔◌, true, List, map, ◌<◌, ℕ, subst}
use Rattle.yd_words.specs.Member.{IsIn}
use Rattle.yd_ids.specs.declared.id.Id.{Id}
use Rattle.yd_ids.specs.declared.id.Client.{Client}
use Rattle.yd_ops.specs.declared.lists.List.{List as DocList}
use Rattle.yd_ops.specs.Operation.{Operation}
use Rattle.yd_origins.specs.Table.{IsTable}
use Rattle.yd_ops.specs.Received.{has_operation, IsWritten}
use Rattle.yd_ops.proofs.OneOfLemmas.{ids_stay}
use Rattle.yd_meaning.specs.Held.{standing, needs, held_clock}
use Rattle.yd_meaning.specs.Order.{rows_of, list_of, order_of, AreHonest}
use Rattle.yd_meaning.proofs.HeldListLemmas.{in_order_of}
use Rattle.yd_meaning.proofs.DocumentLemmas.{operations_held}
use Rattle.yd_meaning.proofs.StandingLemmas.{standing_in}
use Rattle.yd_meaning.proofs.StandingTableLemmas.{standing_table}
use Rattle.yd_meaning.specs.Law.{IsHonestList}
use Rattle.yd_meaning.proofs.HeldLemmas.{held_needs}
use Rattle.yd_meaning.proofs.VectorLemmas.{held_below}
use Rattle.yd_meaning.proofs.HonestListLemmas.{honest_list}
use Rattle.yd_editing.specs.Law.{IsHonestHeld, units_of}

-- each list of an honest held set is a table that fits
pub list_fits : (held : List Operation) → IsHonestHeld held → (list : DocList) → IsHonestList held list
list_fits held is list = subst (λ h. AreHonest h → IsHonestList h list) is.whole (λ honest. honest_list held is.written honest list) is.honest

-- what is held has what it needs
pub needs_there : (held : List Operation) → IsHonestHeld held → (o : Operation) → IsIn o held → (x : Id) → IsIn x (needs o) → has_operation held x ≡ true
needs_there held is o i x j = subst (λ h. IsIn o h → has_operation h x ≡ true) is.whole (λ k. held_needs held o k x j) i

-- the held clocks of a client are those below its clock
pub clocks_below : (held : List Operation) → IsHonestHeld held → (client : Client) (clock : ℕ) →
    has_operation held (record { client = client; clock = clock }) ≡ true ↔ clock < held_clock held client.0
clocks_below held is client clock = subst (λ h. has_operation h (record { client = client; clock = clock }) ≡ true ↔ clock < held_clock h client.0) is.whole
    (held_below held is.written client clock)

-- ---- the units of a list

-- of operations in the order of writing, whether they keep the edit rules or not
module _ (held : List Operation) (w : IsWritten held) where
  pub written_table : IsTable (rows_of (standing held))
  written_table = standing_table held w

  pub written_in_list : (name : DocList) (x : Id) → IsIn x (order_of (standing held) name) ↔ (has_operation (standing held) x ≡ true) × (list_of (standing held) x ≡ name)
  written_in_list name x = in_order_of (standing held) written_table name x

  units_held : (name : DocList) → (map (λ (o : Operation). o.id) (units_of held name) ≡ order_of (standing held) name)
      × ((o : Operation) → IsIn o (units_of held name) → IsIn o (standing held))
  units_held name = operations_held (standing held) written_table.distinct (order_of (standing held) name) (λ x i. ((written_in_list name x).0 i).0)

  pub written_unit_ids : (name : DocList) → map (λ (o : Operation). o.id) (units_of held name) ≡ order_of (standing held) name
  written_unit_ids name = (units_held name).0

  pub written_units_stand : (name : DocList) (o : Operation) → IsIn o (units_of held name) → IsIn o (standing held)
  written_units_stand name = (units_held name).1

  pub written_held_id : (y : Id) → has_operation (standing held) y ≡ true → has_operation held y ≡ true
  written_held_id y e = ids_stay (standing held) held y (λ o i. (standing_in held w o i).0) e

module _ (held : List Operation) (is : IsHonestHeld held) where
  pub standing_is_table : IsTable (rows_of (standing held))
  standing_is_table = written_table held is.written

  -- what a list has: the standing operations that are of it
  pub in_list : (name : DocList) (x : Id) → IsIn x (order_of (standing held) name) ↔ (has_operation (standing held) x ≡ true) × (list_of (standing held) x ≡ name)
  in_list = written_in_list held is.written

  pub unit_ids : (name : DocList) → map (λ (o : Operation). o.id) (units_of held name) ≡ order_of (standing held) name
  unit_ids = written_unit_ids held is.written

  pub units_stand : (name : DocList) (o : Operation) → IsIn o (units_of held name) → IsIn o (standing held)
  units_stand = written_units_stand held is.written

  pub held_id : (y : Id) → has_operation (standing held) y ≡ true → has_operation held y ≡ true
  held_id = written_held_id held is.written
