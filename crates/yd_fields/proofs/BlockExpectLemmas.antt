-- The fields of blocks are what their plans want.
use Rattle.std.proofs.Common.{◌≡◌, ◌+◌, ◌-◌, ◌++◌, [], ◌∷◌, ℕ, true, List, Option, Some, None, length, refl, sym, ap, arith, append_assoc, append-nil}
use Rattle.std.proofs.lemmas.Bool.{le-leb}
use Rattle.yd_words.specs.Each.{Each}
use Rattle.yd_ids.specs.declared.id.Client.{Client}
use Rattle.yd_ops.specs.Value as ops
use Rattle.yd_ops.specs.Valid.{AreStructsFrom, IsStructAt, IsValidBlock}
use Rattle.yd_ids.specs.Id.{IsClock}
use Rattle.yd_fields.specs.Field as field
use Rattle.yd_parts.specs.Plan.{give, Expects, repeated}
use Rattle.yd_fields.specs.StructPlan.{struct_plan}
use Rattle.yd_fields.specs.UpdateFields.{fields_of_block, fields_of_blocks, fields_of_struct, fields_of_structs}
use Rattle.yd_fields.specs.UpdatePlan.{AllowsStructs, block_plan, blocks_step, may_declare, still_declared, structs_in, structs_step}
use Rattle.yd_parts.proofs.ExpectLemmas.{expects_last, expects_none, expects_step}
use Rattle.yd_fields.proofs.StructExpectLemmas.{struct_expects}

-- ---- structs

-- the clock behind structs
abbrev clock_behind : ℕ → List ops.StructValue → ℕ
clock_behind clock [] = clock
clock_behind clock (s ∷ ss) = clock_behind (clock + ops.clocks_of s) ss

-- one more struct
step_expects : (client : Client) (clock : ℕ) (s : ops.StructValue) (found : List ops.StructValue) → IsStructAt client clock s → IsClock (clock + ops.clocks_of s) →
    Expects (structs_step client (record { clock = clock; structs = found })) (fields_of_struct s) (record { clock = clock + ops.clocks_of s; structs = found ++ s ∷ [] })
unfolding structs_step
step_expects client clock s found is ends =
    expects_last (struct_plan client clock) (λ s. give (record { clock = clock + ops.clocks_of s; structs = found ++ s ∷ [] })) (fields_of_struct s) s (record { clock = clock + ops.clocks_of s; structs = found ++ s ∷ [] })
    (struct_expects client clock s is ends) refl

-- structs that follow one another
structs_expect : (client : Client) (clock : ℕ) (ss found : List ops.StructValue) → AreStructsFrom client clock ss →
    Expects (repeated (structs_step client) (length ss) (record { clock = clock; structs = found })) (fields_of_structs ss) (record { clock = clock_behind clock ss; structs = found ++ ss })
structs_expect client clock [] found are = expects_none (structs_step client) (record { clock = clock; structs = found }) (record { clock = clock; structs = found ++ [] }) (ap (λ structs. record { clock = clock; structs = structs }) (sym (append-nil found)))
structs_expect client clock (s ∷ ss) found are =
    let rest = structs_expect client (clock + ops.clocks_of s) ss (found ++ s ∷ []) are.2 in
    expects_step (structs_step client) (length ss) (record { clock = clock; structs = found }) (record { clock = clock + ops.clocks_of s; structs = found ++ s ∷ [] }) (record { clock = clock_behind (clock + ops.clocks_of s) ss; structs = found ++ s ∷ ss })
    (fields_of_struct s) (fields_of_structs ss) (step_expects client clock s found are.0 are.1) (rw append_assoc at rest)

-- ---- blocks

-- a block behind the number of its structs
block_expects : (block : ops.BlockValue) → IsValidBlock block → Expects (block_plan (length block.structs)) ((field.client, block.client.0) ∷ (field.number, block.clock) ∷ fields_of_structs block.structs) block
unfolding block_plan
block_expects block is = (
  block.client.0,
  refl,
  λ spot. (
    block.clock,
    refl,
    λ at.
        expects_last (repeated (structs_step block.client) (length block.structs) (record { clock = block.clock; structs = [] })) (λ read. give (record { client = block.client; clock = block.clock; structs = read.structs }))
        (fields_of_structs block.structs) (record { clock = clock_behind block.clock block.structs; structs = block.structs }) block (structs_expect block.client block.clock block.structs [] is.structs) refl,
  ),
)

-- a limit that allows more structs allows the first of them
may_declare-first : (most : Option ℕ) (count others : ℕ) → AllowsStructs most (count + others) → may_declare most count ≡ true
may_declare-first None count others allows = refl
may_declare-first (Some most) count others allows = le-leb count most (omega arith)

-- the others are allowed behind the first
allows_behind : (most : Option ℕ) (count others : ℕ) → AllowsStructs most (count + others) → AllowsStructs (still_declared most count) others
allows_behind None count others allows = tt
allows_behind (Some most) count others allows = omega arith

-- how many structs may be declared still, one count after another
still_declared-twice : (most : Option ℕ) (count others : ℕ) → still_declared (still_declared most count) others ≡ still_declared most (count + others)
still_declared-twice None count others = refl
still_declared-twice (Some most) count others = let same : most - count - others ≡ most - (count + others) = omega arith in ap Some same

-- no struct leaves as many
still_declared-none : (most : Option ℕ) → still_declared most 0 ≡ most
still_declared-none None = refl
still_declared-none (Some most) = let same : most - 0 ≡ most = omega arith in ap Some same

-- one more block
blocks_step_expects : (most : Option ℕ) (block : ops.BlockValue) (found : List ops.BlockValue) → IsValidBlock block → may_declare most (length block.structs) ≡ true →
    Expects (blocks_step (record { most = most; blocks = found })) (fields_of_block block) (record { most = still_declared most (length block.structs); blocks = found ++ block ∷ [] })
unfolding blocks_step
blocks_step_expects most block found is may = (
  length block.structs,
  refl,
  λ spot. rw may
      (expects_last (block_plan (length block.structs)) (λ block_read. give (record { most = still_declared most (length block.structs); blocks = found ++ block_read ∷ [] }))
      ((field.client, block.client.0) ∷ (field.number, block.clock) ∷ fields_of_structs block.structs) block (record { most = still_declared most (length block.structs); blocks = found ++ block ∷ [] }) (block_expects block is) refl),
)

-- the fields of blocks are what their plan wants, where their structs are allowed
pub blocks_expect : (most : Option ℕ) (blocks found : List ops.BlockValue) → Each IsValidBlock blocks → AllowsStructs most (structs_in blocks) →
    Expects (repeated blocks_step (length blocks) (record { most = most; blocks = found })) (fields_of_blocks blocks) (record { most = still_declared most (structs_in blocks); blocks = found ++ blocks })
blocks_expect most [] found are allows =
    expects_none blocks_step (record { most = most; blocks = found }) (record { most = still_declared most 0; blocks = found ++ [] }) (rw (still_declared-none most, append-nil found) refl)
blocks_expect most (block ∷ blocks) found are allows =
    let count = length block.structs in
    let rest = blocks_expect (still_declared most count) blocks (found ++ block ∷ []) are.1 (allows_behind most count (structs_in blocks) allows) in
    expects_step blocks_step (length blocks) (record { most = most; blocks = found }) (record { most = still_declared most count; blocks = found ++ block ∷ [] }) (record { most = still_declared most (count + structs_in blocks); blocks = found ++ block ∷ blocks })
    (fields_of_block block) (fields_of_blocks blocks) (blocks_step_expects most block found are.0 (may_declare-first most count (structs_in blocks) allows)) (rw (append_assoc, still_declared-twice) at rest)
