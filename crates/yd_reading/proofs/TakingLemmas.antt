-- Structs and blocks that were taken so far.
use Rattle.std.proofs.Common.{◌≡◌, ℕ, ◌+◌, ◌-◌, ◌<◌, ◌≤◌, List, [], ◌∷◌, ◌++◌, length, Option, Ok, Err, refl, sym, ap, ◌∙◌, subst, length-append, arith}
use Rattle.yd_ids.specs.declared.id.Client.{Client}
use Rattle.yd_ids.specs.declared.id.Id.{Id}
use Rattle.yd_ops.specs.Value as ops
use Rattle.yd_parts.specs.Fault.{Fault}
use Rattle.yd_parts.specs.Plan.{read_by, repeated}
use Rattle.yd_parts.specs.declared.fault.Spot.{Spot}
use Rattle.yd_parts.proofs.PlanLemmas.{repeated_more, repeated_fails, repeated_done}
use Rattle.yd_fields.specs.StructPlan.{struct_plan}
use Rattle.yd_fields.specs.UpdatePlan.{blocks_step, structs_step}
use Rattle.yd_reading.specs.ReadView.{no_blocks, no_structs}
use Rattle.yd_reading.specs.Taking.{FieldsAt, Section, TakesBlocks, TakesMore, TakesNextBlock, TakesStruct, TakesStructs, placed, sections_of_block, sections_of_blocks, sections_of_structs}
use Rattle.yd_reading.proofs.BlockPlanLemmas.{read_structs_step}
use Rattle.yd_reading.proofs.SectionLemmas.{clock_behind, clock_behind-last, sections-block, sections-struct, taken_then}

-- ---- structs

-- so many of the structs were taken, and the next begins at a clock
pub record StructsSoFar {S : Type 0} (at : FieldsAt S) (spot_of : S → Spot) (id : Id) (count counter clock : ℕ) (from now : S) (Took TookNow : List Section → Type 0) : Type 0 where
  pub structs : List ops.StructValue
  pub rest : read_by at spot_of (repeated (structs_step id.client) (count - counter) (record { clock = clock; structs = structs })) now ≡ read_by at spot_of (repeated (structs_step id.client) count (no_structs id.clock)) from
  pub taken : TakesMore Took TookNow (sections_of_structs id.client id.clock structs)
  pub ends : clock ≡ clock_behind id.clock structs
  pub len : length structs ≡ counter
  pub some_left : counter ≤ count

-- one struct more, behind those so far
one_struct : {S : Type 0} {at : FieldsAt S} {spot_of : S → Spot} {client : Client} {clock : ℕ} {from to : S} {Took TookNow : List Section → Type 0} {end : ℕ} (structs : List ops.StructValue) →
    (takes : TakesStruct at spot_of (record { client = client; clock = clock }) from to Took TookNow end) →
    read_by at spot_of (structs_step client (record { clock = clock; structs = structs })) from ≡ Ok (record { clock = end; structs = structs ++ takes.entry ∷ [] }, to)
one_struct {at = at} {spot_of} {client} {clock} {from} structs takes = rw (read_structs_step at spot_of client (record { clock = clock; structs = structs }) from, takes.is_read, takes.ends) refl

-- its section, behind theirs
one_section : (Took TookThen TookNow : List Section → Type 0) (id : Id) (clock : ℕ) (structs : List ops.StructValue) (s : ops.StructValue) → clock ≡ clock_behind id.clock structs →
    TakesMore Took TookThen (sections_of_structs id.client id.clock structs) → TakesMore TookThen TookNow (placed (record { client = id.client; clock = clock }) s ∷ []) →
    TakesMore Took TookNow (sections_of_structs id.client id.clock (structs ++ s ∷ []))
one_section Took TookThen TookNow id clock structs s ends before one =
    subst (λ (sections : List Section). TakesMore Took TookNow sections) (sections-struct id.client id.clock structs s)
    (taken_then Took TookThen TookNow (sections_of_structs id.client id.clock structs) (placed (record { client = id.client; clock = clock_behind id.clock structs }) s ∷ []) before
    (subst (λ (n : ℕ). TakesMore TookThen TookNow (placed (record { client = id.client; clock = n }) s ∷ [])) ends one))

pub struct_more : {S : Type 0} {at : FieldsAt S} {spot_of : S → Spot} {id : Id} {count counter clock : ℕ} {from now next : S} {Took TookThen TookNow : List Section → Type 0} {end : ℕ} → counter < count →
    StructsSoFar at spot_of id count counter clock from now Took TookThen →
    TakesStruct at spot_of (record { client = id.client; clock = clock }) now next TookThen TookNow end →
    StructsSoFar at spot_of id count (counter + 1) end from next Took TookNow
struct_more {at = at} {spot_of} {id} {count} {counter} {clock} {now = now} {next} {Took} {TookThen} {TookNow} {end} lt so takes = record {
  structs = so.structs ++ takes.entry ∷ [];
  rest = sym (repeated_more at spot_of (structs_step id.client) count counter (record { clock = clock; structs = so.structs }) (record { clock = end; structs = so.structs ++ takes.entry ∷ [] }) now next lt (one_struct so.structs takes)) ∙ so.rest;
  taken = one_section Took TookThen TookNow id clock so.structs takes.entry so.ends so.taken takes.taken;
  ends = takes.ends ∙ ap (λ (n : ℕ). n + ops.clocks_of takes.entry) so.ends ∙ sym (clock_behind-last id.clock so.structs takes.entry);
  len = omega (arith, length-append so.structs (takes.entry ∷ []), so.len);
  some_left = omega (arith, lt);
}

-- the fault of a struct is the one of all
pub struct_fails : {S : Type 0} {at : FieldsAt S} {spot_of : S → Spot} {id : Id} {count counter clock : ℕ} {from now : S} {Took TookNow : List Section → Type 0} → counter < count →
    StructsSoFar at spot_of id count counter clock from now Took TookNow → (fault : Fault) →
    read_by at spot_of (struct_plan id.client clock) now ≡ Err fault →
    read_by at spot_of (repeated (structs_step id.client) count (no_structs id.clock)) from ≡ Err fault
struct_fails {at = at} {spot_of} {id} {count} {counter} {clock} {now = now} lt so fault fails =
    sym so.rest ∙ repeated_fails at spot_of (structs_step id.client) count counter (record { clock = clock; structs = so.structs }) now fault lt
    (rw (read_structs_step at spot_of id.client (record { clock = clock; structs = so.structs }) now, fails) refl)

pub structs_done : {S : Type 0} {at : FieldsAt S} {spot_of : S → Spot} {id : Id} {count counter clock : ℕ} {from now : S} {Took TookNow : List Section → Type 0} → count ≤ counter →
    StructsSoFar at spot_of id count counter clock from now Took TookNow →
    TakesStructs at spot_of id count from now Took TookNow
structs_done {at = at} {spot_of} {id} {count} {counter} {clock} {now = now} le so = record {
  end = clock;
  structs = so.structs;
  is_read = sym so.rest ∙ repeated_done at spot_of (structs_step id.client) count counter (record { clock = clock; structs = so.structs }) now le;
  taken = so.taken;
  len = omega (arith, so.len, so.some_left, le);
}

-- ---- blocks

-- so many of the blocks were taken, and so many structs may be declared still
pub record BlocksSoFar {S : Type 0} (at : FieldsAt S) (spot_of : S → Spot) (count counter : ℕ) (most still : Option ℕ) (from now : S) (Took TookNow : List Section → Type 0) : Type 0 where
  pub blocks : List ops.BlockValue
  pub rest : read_by at spot_of (repeated blocks_step (count - counter) (record { most = still; blocks = blocks })) now ≡ read_by at spot_of (repeated blocks_step count (no_blocks most)) from
  pub taken : TakesMore Took TookNow (sections_of_blocks blocks)
  pub len : length blocks ≡ counter
  pub some_left : counter ≤ count

pub block_more : {S : Type 0} {at : FieldsAt S} {spot_of : S → Spot} {count counter : ℕ} {most now_most still : Option ℕ} {from now next : S} {Took TookThen TookNow : List Section → Type 0} → counter < count →
    BlocksSoFar at spot_of count counter most now_most from now Took TookThen →
    TakesNextBlock at spot_of now_most now next TookThen TookNow still →
    BlocksSoFar at spot_of count (counter + 1) most still from next Took TookNow
block_more {at = at} {spot_of} {count} {counter} {now_most = now_most} {still} {now = now} {next} {Took} {TookThen} {TookNow} lt so takes = record {
  blocks = so.blocks ++ takes.block ∷ [];
  rest = sym (repeated_more at spot_of blocks_step count counter (record { most = now_most; blocks = so.blocks }) (record { most = still; blocks = so.blocks ++ takes.block ∷ [] }) now next lt (takes.is_read so.blocks)) ∙ so.rest;
  taken = subst (λ (sections : List Section). TakesMore Took TookNow sections) (sections-block so.blocks takes.block) (taken_then Took TookThen TookNow (sections_of_blocks so.blocks) (sections_of_block takes.block) so.taken takes.taken);
  len = omega (arith, length-append so.blocks (takes.block ∷ []), so.len);
  some_left = omega (arith, lt);
}

-- the fault of a block is the one of all
pub block_fails : {S : Type 0} {at : FieldsAt S} {spot_of : S → Spot} {count counter : ℕ} {most still : Option ℕ} {from now : S} {Took TookNow : List Section → Type 0} → counter < count →
    (so : BlocksSoFar at spot_of count counter most still from now Took TookNow) → (fault : Fault) →
    read_by at spot_of (blocks_step (record { most = still; blocks = so.blocks })) now ≡ Err fault →
    read_by at spot_of (repeated blocks_step count (no_blocks most)) from ≡ Err fault
block_fails {at = at} {spot_of} {count} {counter} {still = still} {now = now} lt so fault fails =
    sym so.rest ∙ repeated_fails at spot_of blocks_step count counter (record { most = still; blocks = so.blocks }) now fault lt fails

pub blocks_done : {S : Type 0} {at : FieldsAt S} {spot_of : S → Spot} {count counter : ℕ} {most still : Option ℕ} {from now : S} {Took TookNow : List Section → Type 0} → count ≤ counter →
    BlocksSoFar at spot_of count counter most still from now Took TookNow →
    TakesBlocks at spot_of count most from now Took TookNow
blocks_done {at = at} {spot_of} {count} {counter} {still = still} {now = now} le so = record {
  still = still;
  blocks = so.blocks;
  is_read = sym so.rest ∙ repeated_done at spot_of blocks_step count counter (record { most = still; blocks = so.blocks }) now le;
  taken = so.taken;
  len = omega (arith, so.len, so.some_left, le);
}
