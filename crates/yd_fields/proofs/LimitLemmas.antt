-- An update that is read under a limit has at most so many structs in all its blocks.
use Rattle.std.proofs.Common.{◌≡◌, ◌+◌, ◌-◌, ◌++◌, ◌≤◌, [], ◌∷◌, ℕ, zero, suc, Bool, true, false, List, Option, Some, None, length, if◌then◌else◌, refl, ap, subst, arith}
use Rattle.std.proofs.lemmas.Bool.Decides.{nat_tests}
use Rattle.yd_ids.specs.declared.id.Client.{Client}
use Rattle.yd_ops.specs.Value as ops
use Rattle.yd_parts.proofs.GivenLemmas.{GivesOnly, gives_only_bind, gives_only_repeated, leads_only}
use Rattle.yd_parts.specs.Plan.{Found, LeadsTo, give, refuse, repeated, want, ◌>>=◌}
use Rattle.yd_parts.specs.declared.fault.Cause.TheVariants as causes
use Rattle.yd_parts.specs.declared.fault.Spot.{Spot}
use Rattle.yd_fields.specs.Field.{FieldPlan, FieldType, FieldValue}
use Rattle.yd_fields.specs.StructPlan.{struct_plan}
use Rattle.yd_fields.specs.UpdatePlan.{BlocksRead, StructsRead, block_plan, blocks_step, deletes_plan, may_declare, still_declared, structs_in, structs_step, update_plan}

-- whatever is read, the plan gives only what has P
abbrev Gives : {X : Type 0} → (X → Type 0) → FieldPlan X → Type 0
Gives P plan = GivesOnly (λ (t : FieldType) (v : FieldValue t). Unit {0}) P plan

-- of any plan nothing is said
anything : {X : Type 0} (plan : FieldPlan X) → Gives (λ x. Unit {0}) plan
anything (give x) = tt
anything (refuse cause spot) = tt
anything (want t next) = λ v spot fits. anything (next v spot)

-- ---- one block

-- one more at the end of a list
length_last : {X : Type 0} (xs : List X) (x : X) → length (xs ++ x ∷ []) ≡ suc (length xs)
length_last [] x = refl
length_last (y ∷ xs) x = ap suc (length_last xs x)

-- one more struct
struct_given : (client : Client) (read : StructsRead) → Gives (λ more. length more.structs ≡ suc (length read.structs)) (structs_step client read)
unfolding structs_step
struct_given client read =
    gives_only_bind (λ (t : FieldType) (v : FieldValue t). Unit {0}) (λ s. Unit {0}) (λ (more : StructsRead). length more.structs ≡ suc (length read.structs)) (struct_plan client read.clock)
    (λ s. give (record { clock = read.clock + ops.clocks_of s; structs = read.structs ++ s ∷ [] })) (anything (struct_plan client read.clock)) (λ s none. length_last read.structs s)

-- so many structs more
structs_given : (client : Client) (count : ℕ) (read : StructsRead) → Gives (λ more. length more.structs ≡ length read.structs + count) (repeated (structs_step client) count read)
unfolding repeated
structs_given client zero read = omega arith
structs_given client (suc count) read =
    gives_only_bind (λ (t : FieldType) (v : FieldValue t). Unit {0}) (λ (more : StructsRead). length more.structs ≡ suc (length read.structs)) (λ (more : StructsRead). length more.structs ≡ length read.structs + suc count)
    (structs_step client read) (λ more. repeated (structs_step client) count more) (struct_given client read)
    (λ more is. subst (λ n. Gives (λ (last : StructsRead). length last.structs ≡ n) (repeated (structs_step client) count more)) (omega (arith, is)) (structs_given client count more))

-- a block has as many structs as it declares
block_given : (count : ℕ) → Gives (λ block. length block.structs ≡ count) (block_plan count)
unfolding block_plan
block_given count = λ client spot fits clock at fit.
    gives_only_bind (λ (t : FieldType) (v : FieldValue t). Unit {0}) (λ (read : StructsRead). length read.structs ≡ 0 + count) (λ (block : ops.BlockValue). length block.structs ≡ count)
    (repeated (structs_step (record { 0 = client })) count (record { clock = clock; structs = [] })) (λ read. give (record { client = record { 0 = client }; clock = clock; structs = read.structs }))
    (structs_given (record { 0 = client }) count (record { clock = clock; structs = [] })) (λ read is. omega (arith, is))

-- ---- all blocks

-- one more block at the end
structs_in_last : (blocks : List ops.BlockValue) (block : ops.BlockValue) → structs_in (blocks ++ block ∷ []) ≡ structs_in blocks + length block.structs
structs_in_last [] block = omega arith
structs_in_last (first ∷ blocks) block = omega (arith, structs_in_last blocks block)

-- the structs that were read, and those that may be declared still, are within the limit
record AreWithin (most : ℕ) (read : BlocksRead) : Type 0 where
  still : ℕ
  still_is : read.most ≡ Some still
  within : structs_in read.blocks + still ≤ most

-- one more block
block_within : (most : ℕ) (read : BlocksRead) → AreWithin most read → Gives (AreWithin most) (blocks_step read)
unfolding blocks_step
block_within most read before = λ count spot fits. by_limit count spot read.most before.still_is (may_declare read.most count) refl
  where
    by_limit : (count : ℕ) (spot : Spot) (limit : Option ℕ) → limit ≡ Some before.still → (may : Bool) → may_declare limit count ≡ may →
        Gives (AreWithin most) (if may then (block_plan count >>= λ block. give (record { most = still_declared limit count; blocks = read.blocks ++ block ∷ [] })) else refuse causes.TooManyStructs spot)
    by_limit count spot None is may allowed = absurd cc
    by_limit count spot (Some still) is true allowed =
        let same : still ≡ before.still = cc in
        let fits : count ≤ still = grind (arith, nat_tests) in
        gives_only_bind (λ (t : FieldType) (v : FieldValue t). Unit {0}) (λ (block : ops.BlockValue). length block.structs ≡ count) (AreWithin most) (block_plan count)
        (λ block. give (record { most = Some (still - count); blocks = read.blocks ++ block ∷ [] })) (block_given count)
        (λ block counted. record { still = still - count; still_is = refl; within = omega (arith, structs_in_last read.blocks block, counted, fits, same, before.within) })
    by_limit count spot (Some still) is false allowed = tt

-- an update
update_within : (most : ℕ) → Gives (λ u. structs_in u.blocks ≤ most) (update_plan (Some most))
unfolding update_plan
update_within most = λ count spot fits.
    gives_only_bind (λ (t : FieldType) (v : FieldValue t). Unit {0}) (AreWithin most) (λ (u : ops.UpdateValue). structs_in u.blocks ≤ most) (repeated blocks_step count (record { most = Some most; blocks = [] })) _
    (gives_only_repeated (λ (t : FieldType) (v : FieldValue t). Unit {0}) (AreWithin most) blocks_step count (record { most = Some most; blocks = [] })
    (record { still = most; still_is = refl; within = omega arith }) (block_within most))
    (λ read are. gives_only_bind (λ (t : FieldType) (v : FieldValue t). Unit {0}) (λ spans. Unit {0}) (λ (u : ops.UpdateValue). structs_in u.blocks ≤ most) deletes_plan
    (λ deletes. give (record { blocks = read.blocks; deletes = deletes })) (anything deletes_plan) (λ deletes none. omega (arith, are.within)))

-- ---- lemmas for callers

-- fields that lead to an update under a limit make one of at most so many structs
pub update_limited : (most : ℕ) (found : List (Found FieldValue)) (u : ops.UpdateValue) → LeadsTo (update_plan (Some most)) found (give u) → structs_in u.blocks ≤ most
update_limited most found u leads = leads_only (λ (v : ops.UpdateValue). structs_in v.blocks ≤ most) (update_plan (Some most)) found u (update_within most) leads
