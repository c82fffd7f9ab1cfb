-- What reading an update gives is valid.
use Rattle.std.proofs.Common.{◌≡◌, ◌+◌, ◌++◌, [], ◌∷◌, ℕ, Bool, true, false, List, Option, Result, Ok, if◌then◌else◌, subst, arith}
use Rattle.yd_words.specs.Each.{Each}
use Rattle.yd_ids.specs.Id.{IsSpan}
use Rattle.yd_ids.specs.Set.{AreMaximal, set_of}
use Rattle.yd_ids.specs.declared.id.Client.{Client}
use Rattle.yd_ids.proofs.SetOfLemmas.{set_of_maximal}
use Rattle.yd_ops.specs.Value as ops
use Rattle.yd_ops.specs.Valid.{AreStructsFrom, IsValidBlock, IsValidUpdate}
use Rattle.yd_parts.specs.Fault.{Fault}
use Rattle.yd_fields.specs.Field.{FieldType, FieldValue, Fits, ReadsFit}
use Rattle.yd_parts.specs.Plan.{give, refuse, read_by, repeated, ◌>>=◌}
use Rattle.yd_fields.specs.StructPlan.{struct_plan}
use Rattle.yd_fields.specs.UpdatePlan.{BlocksRead, StructsRead, block_plan, blocks_step, clients_step, deletes_plan, may_declare, still_declared, structs_step, update_plan}
use Rattle.yd_parts.specs.declared.fault.Cause.TheVariants as causes
use Rattle.yd_parts.specs.declared.fault.Spot.{Spot}
use Rattle.yd_reading.proofs.DeletesFitLemmas.{clients_fit, each-last}
use Rattle.yd_parts.proofs.GivenLemmas.{GivesOnly, given, gives_only_bind, gives_only_repeated}
use Rattle.yd_reading.proofs.StructFitLemmas.{EndsAtClock, struct_fits}

-- ---- structs of one client

-- how many clocks structs in a row take
abbrev clocks_of_all : List ops.StructValue → ℕ
clocks_of_all [] = 0
clocks_of_all (s ∷ ss) = ops.clocks_of s + clocks_of_all ss

-- one struct more takes its clocks more
clocks-last : (ss : List ops.StructValue) (s : ops.StructValue) → clocks_of_all (ss ++ s ∷ []) ≡ clocks_of_all ss + ops.clocks_of s
clocks-last [] s = omega arith
clocks-last (t ∷ ts) s = omega (arith, clocks-last ts s)

-- one struct more, at the clock behind those before it
structs-last : (client : Client) (clock end : ℕ) (ss : List ops.StructValue) (s : ops.StructValue) → clock + clocks_of_all ss ≡ end → AreStructsFrom client clock ss → EndsAtClock client end s → AreStructsFrom client clock (ss ++ s ∷ [])
structs-last client clock end [] s ends before last =
    let here : EndsAtClock client clock s = subst (λ now. EndsAtClock client now s) (omega arith) last in
    (here.0, here.1, tt)
structs-last client clock end (t ∷ ts) s ends before last =
    (before.0, before.1, structs-last client (clock + ops.clocks_of t) end ts s (omega arith) before.2 last)

-- structs of a client from a clock on, and the clock behind them
record FollowFrom (client : Client) (clock : ℕ) (read : StructsRead) : Type 0 where
  structs : AreStructsFrom client clock read.structs
  ends : clock + clocks_of_all read.structs ≡ read.clock

-- one more struct
structs_step_fits : (client : Client) (clock : ℕ) (read : StructsRead) → FollowFrom client clock read → GivesOnly Fits (FollowFrom client clock) (structs_step client read)
unfolding structs_step
structs_step_fits client clock read before =
    gives_only_bind Fits (EndsAtClock client read.clock) (FollowFrom client clock) (struct_plan client read.clock)
    (λ s. give (record { clock = read.clock + ops.clocks_of s; structs = read.structs ++ s ∷ [] }))
    (struct_fits client read.clock)
    (λ s last. record {
      structs = structs-last client clock read.clock read.structs s before.ends before.structs last;
      ends = omega (arith, clocks-last read.structs s, before.ends);
    })

-- ---- blocks

-- a block of so many structs
block_fits : (count : ℕ) → GivesOnly Fits IsValidBlock (block_plan count)
unfolding block_plan
block_fits count = λ client spot is_client clock at is_clock.
    gives_only_bind Fits (FollowFrom (record { 0 = client }) clock) IsValidBlock
    (repeated (structs_step (record { 0 = client })) count (record { clock = clock; structs = [] }))
    (λ read. give (record { client = record { 0 = client }; clock = clock; structs = read.structs }))
    (gives_only_repeated Fits (FollowFrom (record { 0 = client }) clock) (structs_step (record { 0 = client })) count (record { clock = clock; structs = [] })
    (record { structs = tt; ends = omega arith }) (structs_step_fits (record { 0 = client }) clock))
    (λ read follow. record { client = is_client; clock = is_clock; structs = follow.structs })

-- the blocks read so far are valid
abbrev AreBlocksRead : BlocksRead → Type 0
AreBlocksRead read = Each IsValidBlock read.blocks

-- one more block
blocks_step_fits : (read : BlocksRead) → AreBlocksRead read → GivesOnly Fits AreBlocksRead (blocks_step read)
unfolding blocks_step
blocks_step_fits read before = λ count spot is_count. by_test count spot (may_declare read.most count)
  where
    by_test : (count : ℕ) (spot : Spot) (allowed : Bool) → GivesOnly Fits AreBlocksRead
        (if allowed then (block_plan count >>= λ block. give (record { most = still_declared read.most count; blocks = read.blocks ++ block ∷ [] })) else refuse causes.TooManyStructs spot)
    by_test count spot true =
        gives_only_bind Fits IsValidBlock AreBlocksRead (block_plan count) (λ block. give (record { most = still_declared read.most count; blocks = read.blocks ++ block ∷ [] }))
        (block_fits count) (λ block valid. each-last IsValidBlock read.blocks block before valid)
    by_test count spot false = tt

-- ---- updates

-- deletions
deletes_fit : GivesOnly Fits AreMaximal deletes_plan
unfolding deletes_plan
deletes_fit = λ count spot is_count.
    gives_only_bind Fits (Each IsSpan) AreMaximal (repeated clients_step count []) (λ spans. give (set_of spans)) (clients_fit count) set_of_maximal

-- an update
update_fits : (most : Option ℕ) → GivesOnly Fits IsValidUpdate (update_plan most)
unfolding update_plan
update_fits most = λ count spot is_count.
    gives_only_bind Fits AreBlocksRead IsValidUpdate (repeated blocks_step count (record { most = most; blocks = [] })) _
    (gives_only_repeated Fits AreBlocksRead blocks_step count (record { most = most; blocks = [] }) tt blocks_step_fits)
    (λ read blocks. gives_only_bind Fits AreMaximal IsValidUpdate deletes_plan (λ deletes. give (record { blocks = read.blocks; deletes = deletes }))
    deletes_fit (λ deletes maximal. record { blocks = blocks; deletes = maximal }))

-- what reading an update gives is a valid update
pub update_read_valid : {S : Type 0} (at : (t : FieldType) → S → Result (FieldValue t × S) Fault) (spot_of : S → Spot) (IsSound : S → Type 0) (most : Option ℕ) (s : S) (u : ops.UpdateValue) (left : S) →
    ReadsFit at IsSound → IsSound s → read_by at spot_of (update_plan most) s ≡ Ok (u, left) → IsValidUpdate u
update_read_valid at spot_of IsSound most s u left fits sound read = given at spot_of Fits IsSound IsValidUpdate (update_plan most) s u left fits (update_fits most) sound read
