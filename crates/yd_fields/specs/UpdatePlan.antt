-- How updates and state vectors are read (Yjs 13, decodeUpdate, readDeleteSet and readStateVector): blocks of structs, and deletions.
use Rattle.std.specs.Prelude.{ℕ, ◌+◌, ◌-◌, ◌≤◌, List, [], ◌∷◌, ◌++◌, length, Bool, true, Option, Some, None, nat_le, if◌then◌else◌}
use Rattle.yd_ids.specs.Set.{set_of}
use Rattle.yd_ids.specs.Vector.{vector_of_entries}
use Rattle.yd_ids.specs.declared.id.Client.{Client}
use Rattle.yd_ids.specs.declared.id.Span.{Span}
use Rattle.yd_ops.specs.Value as ops
use Rattle.yd_fields.specs.Field.{FieldPlan}
use Rattle.yd_fields.specs.Field as field
use Rattle.yd_parts.specs.Plan.{give, refuse, want, ◌>>=◌, repeated}
use Rattle.yd_fields.specs.StructPlan.{struct_plan}
use Rattle.yd_parts.specs.declared.fault.Cause.TheVariants as causes

-- ---- blocks

-- structs that were read, and the clock behind them
pub record StructsRead : Type 0 where
  pub clock : ℕ
  pub structs : List ops.StructValue

-- one more struct of a client
unfoldable pub structs_step : Client → StructsRead → FieldPlan StructsRead
structs_step client read = do
  s ← struct_plan client read.clock
  give (record { clock = read.clock + ops.clocks_of s; structs = read.structs ++ s ∷ [] })

-- a block of so many structs: its client, its first clock, and the structs
unfoldable pub block_plan : ℕ → FieldPlan ops.BlockValue
block_plan count = want field.client (λ client spot. want field.number (λ clock at. do
  read ← repeated (structs_step (record { 0 = client })) count (record { clock = clock; structs = [] })
  give (record { client = record { 0 = client }; clock = clock; structs = read.structs })))

-- so many structs may be declared, where there is a limit
abbrev pub may_declare : Option ℕ → ℕ → Bool
may_declare None count = true
may_declare (Some most) count = nat_le count most

-- how many may be declared still
abbrev pub still_declared : Option ℕ → ℕ → Option ℕ
still_declared None count = None
still_declared (Some most) count = Some (most - count)

-- how many structs blocks have
abbrev pub structs_in : List ops.BlockValue → ℕ
structs_in [] = 0
structs_in (block ∷ blocks) = length block.structs + structs_in blocks

-- a limit allows so many structs, where there is one
abbrev pub AllowsStructs : Option ℕ → ℕ → Type 0
AllowsStructs None count = Unit {0}
AllowsStructs (Some most) count = count ≤ most

-- blocks that were read, and how many structs may be declared still, where there is a limit
pub record BlocksRead : Type 0 where
  pub most : Option ℕ
  pub blocks : List ops.BlockValue

-- one more block: how many structs it has, and the block
unfoldable pub blocks_step : BlocksRead → FieldPlan BlocksRead
blocks_step read = want field.number (λ count spot. if may_declare read.most count then (do
  block ← block_plan count
  give (record { most = still_declared read.most count; blocks = read.blocks ++ block ∷ [] }))
    else refuse causes.TooManyStructs spot)

-- ---- deletions

-- ranges of a client that were read, as spans, and where the last of them ends
pub record RangesRead : Type 0 where
  pub end : ℕ
  pub spans : List Span

-- one more range of a client
unfoldable pub ranges_step : Client → RangesRead → FieldPlan RangesRead
ranges_step client read = want (field.range read.end) (λ r spot.
    give (record { end = r.0 + r.1; spans = read.spans ++ record { client = client; clock = r.0; len = r.1 } ∷ [] }))

-- the ranges of one more client: its number, how many there are, and these
unfoldable pub clients_step : List Span → FieldPlan (List Span)
clients_step found = want field.number (λ client spot. want field.number (λ count at. do
  read ← repeated (ranges_step (record { 0 = client })) count (record { end = 0; spans = found })
  give read.spans))

-- a delete set: how many clients there are, and the ranges of each
unfoldable pub deletes_plan : FieldPlan (List Span)
deletes_plan = want field.number (λ count spot. do
  spans ← repeated clients_step count []
  give (set_of spans))

-- ---- updates

-- an update: how many blocks there are, these, and a delete set; structs up to a limit, where there is one
unfoldable pub update_plan : Option ℕ → FieldPlan ops.UpdateValue
update_plan most = want field.number (λ count spot. do
  read ← repeated blocks_step count (record { most = most; blocks = [] })
  deletes ← deletes_plan
  give (record { blocks = read.blocks; deletes = deletes }))

-- ---- state vectors

-- one more client with its clock
unfoldable pub entries_step : List (Client × ℕ) → FieldPlan (List (Client × ℕ))
entries_step found = want field.number (λ client spot. want field.number (λ clock at. give (found ++ (record { 0 = client }, clock) ∷ [])))

-- a state vector: how many clients there are, and each with its clock
unfoldable pub vector_plan : FieldPlan (List (Client × ℕ))
vector_plan = want field.number (λ count spot. do
  entries ← repeated entries_step count []
  give (vector_of_entries entries))
