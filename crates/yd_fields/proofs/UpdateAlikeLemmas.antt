-- The plan of an update wants the same fields, wherever these stand.
use Rattle.std.proofs.Common.{◌+◌, ◌++◌, [], ◌∷◌, ℕ, List, Option}
use Rattle.yd_ids.specs.Set.{set_of}
use Rattle.yd_ids.specs.declared.id.Client.{Client}
use Rattle.yd_ids.specs.declared.id.Span.{Span}
use Rattle.yd_ops.specs.Value as ops
use Rattle.yd_parts.specs.Plan.{Expects, Found, give, LeadsTo, things_in}
use Rattle.yd_fields.specs.Field.{FieldValue}
use Rattle.yd_fields.specs.UpdatePlan.{BlocksRead, RangesRead, StructsRead, block_plan, blocks_step, clients_step, deletes_plan, may_declare, ranges_step, still_declared, structs_step, update_plan}
use Rattle.yd_parts.proofs.AlikeLemmas.{AreAlike, alike_bind, alike_give, alike_if, alike_refuse, alike_repeated, alike_want}
use Rattle.yd_fields.proofs.StructAlikeLemmas.{struct_alike}

-- ---- blocks

-- one more struct
structs_alike : (client : Client) (read : StructsRead) → AreAlike (structs_step client read) (structs_step client read)
unfolding structs_step
structs_alike client read = alike_bind (struct_alike client read.clock) (λ s. alike_give (record { clock = read.clock + ops.clocks_of s; structs = read.structs ++ s ∷ [] }))

-- a block
block_alike : (count : ℕ) → AreAlike (block_plan count) (block_plan count)
unfolding block_plan
block_alike count =
    alike_want (λ client spot place. alike_want (λ clock at there.
    alike_bind (alike_repeated (structs_alike (record { 0 = client })) count (record { clock = clock; structs = [] }))
    (λ read. alike_give (record { client = record { 0 = client }; clock = clock; structs = read.structs }))))

-- one more block
blocks_alike : (read : BlocksRead) → AreAlike (blocks_step read) (blocks_step read)
unfolding blocks_step
blocks_alike read =
    alike_want (λ count spot place. alike_if (may_declare read.most count)
    (alike_bind (block_alike count) (λ block. alike_give (record { most = still_declared read.most count; blocks = read.blocks ++ block ∷ [] }))) alike_refuse)

-- ---- deletions

-- one more range
ranges_alike : (client : Client) (read : RangesRead) → AreAlike (ranges_step client read) (ranges_step client read)
unfolding ranges_step
ranges_alike client read = alike_want (λ r spot place. alike_give (record { end = r.0 + r.1; spans = read.spans ++ record { client = client; clock = r.0; len = r.1 } ∷ [] }))

-- the ranges of one more client
clients_alike : (found : List Span) → AreAlike (clients_step found) (clients_step found)
unfolding clients_step
clients_alike found =
    alike_want (λ client spot place. alike_want (λ count at there.
    alike_bind (alike_repeated (ranges_alike (record { 0 = client })) count (record { end = 0; spans = found })) (λ read. alike_give read.spans)))

-- a delete set
deletes_alike : AreAlike deletes_plan deletes_plan
unfolding deletes_plan
deletes_alike = alike_want (λ count spot place. alike_bind (alike_repeated clients_alike count []) (λ spans. alike_give (set_of spans)))

-- ---- updates

-- an update
update_alike : (most : Option ℕ) → AreAlike (update_plan most) (update_plan most)
unfolding update_plan
update_alike most =
    alike_want (λ count spot place. alike_bind (alike_repeated blocks_alike count (record { most = most; blocks = [] }))
    (λ read. alike_bind deletes_alike (λ deletes. alike_give (record { blocks = read.blocks; deletes = deletes }))))

-- ---- lemmas for callers

-- fields that lead to an update are those that reading wants for it, wherever they stand
pub update_wants : (most : Option ℕ) (found : List (Found FieldValue)) (u : ops.UpdateValue) → LeadsTo (update_plan most) found (give u) → Expects (update_plan most) (things_in found) u
update_wants most found u leads = (update_alike most).expected found u leads
