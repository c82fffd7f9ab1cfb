-- What one struct has: its group, as it is lent, and what of that is in a cut.
use Rattle.std.specs.Prelude.{nat_le, nat_lt, if◌then◌else◌}
use denote.Ref.{Bor}
use Rattle.std.proofs.Common.{◌≡◌, ℕ, ◌+◌, ◌-◌, ◌<◌, ◌≤◌, true, false, List, [], ◌∷◌, ◌++◌, Option, Some, None, map, refl, sym, ap, ap₂, ◌∙◌, subst, arith, tests}
use Rattle.std.specs.List.Sorted.{IsPermutation}
use Rattle.std.proofs.lemmas.List.Sorted.{IsPermutation-refl}
use Rattle.yd_ids.specs.Id.{IsClient, IsClock}
use Rattle.yd_ids.specs.declared.id.Id.{Id}
use Rattle.yd_ids.specs.declared.id.Span.{Span}
use Rattle.yd_ops.specs.Cutting.{content_before}
use Rattle.yd_ops.specs.Operation.{later_id}
use Rattle.yd_ops.specs.Received.{received_set}
use Rattle.yd_ops.specs.Valid.{IsRunAt, IsValidBlock, IsValidUpdate}
use Rattle.yd_ops.specs.Value.{StructValue, UpdateValue, clocks_of, gone, item, len_of, skip}
use Rattle.yd_ops.specs.View.{content_value, run_value}
use Rattle.yd_ops.specs.declared.runs.Run.{Run}
use Rattle.yd_ops.specs.declared.updates.Struct.TheVariants.{Gone, Item, Skip}
use Rattle.yd_ops.proofs.OperationLemmas.{later_none}
use Rattle.yd_grouping.specs.Building.{Built, all_pushed, nothing_built}
use Rattle.yd_grouping.specs.Grouped.{block_of}
use Rattle.yd_grouping.specs.Groups.{Group, of_gone, of_run, size_of, start_of, struct_of}
use Rattle.yd_grouping.specs.Merged.{cut_update}
use Rattle.yd_grouping.proofs.BlockLemmas.{struct-clocks}
use Rattle.yd_grouping.proofs.CutLemmas.{cut_valid}
use Rattle.yd_entries.specs.Entries.{IsTakenOf}
use Rattle.yd_entries.specs.declared.entry.Entry.{Entry}
use Rattle.yd_fields.specs.Lent.{lent_struct}
use Rattle.yd_fields.specs.declared.lent.LentStruct.{LentStruct}
use Rattle.yd_fields.specs.declared.lent.LentStruct.TheVariants.{Made, Text}
use Rattle.yd_merge.specs.Cutting.{behind, cut_entry, cut_gone, cut_in, cut_lent, cut_lents, left_out, parts_behind, whole_entry}
use Rattle.yd_merge.specs.Lending.{IsLent, IsOfUpdate, blocks_groups, group_in, lent_group}
use Rattle.yd_merge.specs.Told.{group_of_entry}
use Rattle.yd_merge.specs.declared.lending.Lent.{Lent}
use Rattle.yd_merge.proofs.ContentLemmas.{before_all, behind_none}
use Rattle.yd_merge.proofs.CutEntriesLemmas.{part_taken}
use Rattle.yd_merge.proofs.LentCutLemmas.{all_lent_cut, run_taken, turn_cut}
use Rattle.yd_merge.proofs.TurnLemmas.{have_unit}
use Rattle.yd_reading.specs.Taking.{IsPlaced}
use Rattle.yd_skimming.specs.BlockWriting.{IsGroupAt}
use Rattle.yd_skimming.specs.Parting.{group_at, is_skip, lent_at, run_lent}
use Rattle.yd_skimming.specs.Tails.{id_behind}

-- ---- the group of a struct

pub group_placed : (id : Id) (s : StructValue) → IsPlaced id s → is_skip s ≡ false → IsGroupAt id s (group_at id s)
group_placed id (item run) is units = record { starts = is.is_struct.begins; struct = refl }
group_placed id (skip count) is units = absurd cc
group_placed id (gone count) is units = record { starts = refl; struct = refl }

pub group_valid : (id : Id) (s : StructValue) → IsPlaced id s → is_skip s ≡ false → IsOfUpdate (group_at id s)
group_valid id (item run) is units = let begins = is.is_struct.begins in record {
  client = subst (λ (x : Id). IsClient x.client) (sym begins) is.client;
  struct = subst (λ (x : Id). IsRunAt x.client x.clock run) (sym begins) is.is_struct;
  end = subst (λ (x : Id). IsClock (x.clock + len_of run.content)) (sym begins) is.end;
}
group_valid id (skip count) is units = absurd cc
group_valid id (gone count) is units = record { client = is.client; struct = is.is_struct; end = is.end }

pub group_behind : (id : Id) (s : StructValue) → IsPlaced id s → is_skip s ≡ false → id_behind (group_at id s) ≡ record { client = id.client; clock = id.clock + clocks_of s }
group_behind id (item run) is units = ap (λ (x : Id). later_id x (len_of run.content)) is.is_struct.begins
group_behind id (skip count) is units = absurd cc
group_behind id (gone count) is units = refl

-- ---- it is lent

pub lent_at-group : (id : Id) (s : LentStruct) → lent_group (lent_at id s) ≡ group_at id (lent_struct s)
lent_at-group id (Text run) = refl
lent_at-group id (Made (Item run)) = refl
lent_at-group id (Made (Skip count)) = refl
lent_at-group id (Made (Gone count)) = refl

pub lent_at-id : (id : Id) (s : LentStruct) → (lent_at id s).id ≡ id
lent_at-id id (Text run) = refl
lent_at-id id (Made (Item run)) = refl
lent_at-id id (Made (Skip count)) = refl
lent_at-id id (Made (Gone count)) = refl

lent_at-len : (id : Id) (s : LentStruct) → size_of (lent_group (lent_at id s)) ≡ (lent_at id s).len
lent_at-len id (Text run) = refl
lent_at-len id (Made (Item run)) = refl
lent_at-len id (Made (Skip count)) = refl
lent_at-len id (Made (Gone count)) = refl

pub lent_at-clocks : (id : Id) (s : LentStruct) → (lent_at id s).len ≡ clocks_of (lent_struct s)
lent_at-clocks id (Text run) = refl
lent_at-clocks id (Made (Item run)) = refl
lent_at-clocks id (Made (Skip count)) = refl
lent_at-clocks id (Made (Gone count)) = refl

pub lent_is : (id : Id) (s : LentStruct) → IsPlaced id (lent_struct s) → is_skip (lent_struct s) ≡ false → IsLent (lent_at id s)
lent_is id s is units = record {
  id = ap start_of (lent_at-group id s) ∙ (group_placed id (lent_struct s) is units).starts ∙ sym (lent_at-id id s);
  len = lent_at-len id s;
  valid = subst IsOfUpdate (sym (lent_at-group id s)) (group_valid id (lent_struct s) is units);
}

-- ---- what is wholly in the cut, and wholly below it

entry_ahead : (runs : List Run) (clock : ℕ) (t : Entry) → 0 < t.len → clock ≤ t.id.clock → cut_entry runs clock t ≡ t ∷ []
entry_ahead runs clock t some le = ap (parts_behind t) none ∙ all
  where
    at : nat_le clock t.id.clock ≡ true
    at = grind (arith, tests)

    none : left_out runs clock t ≡ 0
    none = rw at refl

    units : nat_lt 0 t.len ≡ true
    units = grind (arith, tests)

    all : parts_behind t 0 ≡ t ∷ []
    all = rw units refl

entry_below : (runs : List Run) (clock : ℕ) (t : Entry) → 0 < t.len → t.id.clock + t.len ≤ clock → cut_entry runs clock t ≡ []
entry_below runs clock t some le = ap (parts_behind t) all ∙ none
  where
    above : nat_le clock t.id.clock ≡ false
    above = grind (arith, tests)

    ends : nat_le (t.id.clock + t.len) clock ≡ true
    ends = grind (arith, tests)

    all : left_out runs clock t ≡ t.len
    all = rw (above, ends) refl

    units : nat_lt t.len t.len ≡ false
    units = grind (arith, tests)

    none : parts_behind t t.len ≡ []
    none = rw units refl

whole_group : (run : Run) → group_of_entry (run ∷ []) (whole_entry run) ≡ of_run (run_value run)
whole_group run = ap (λ content. of_run (record { id = run.id; left = run.left; right = run.right; list = run.list; content = content }))
    (sym (before_all (content_value run.content) ∙ ap (content_before (len_of (content_value run.content))) (behind_none (content_value run.content))))

in_ahead : (clock : ℕ) (run : Option (Bor Run)) (id : Id) (len : ℕ) → start_of (group_in run id len) ≡ id → 0 < size_of (group_in run id len) → clock ≤ id.clock →
    cut_in clock run id len ≡ group_in run id len ∷ []
in_ahead clock None id len is some le = ap (λ n. if nat_lt n len then of_gone (later_id id n) (len - n) ∷ [] else []) none ∙ rest
  where
    none : clock - id.clock ≡ 0
    none = omega (arith, le)

    units : nat_lt 0 len ≡ true
    units = grind (arith, tests)

    rest : (if nat_lt 0 len then of_gone (later_id id 0) (len - 0) ∷ [] else []) ≡ of_gone id len ∷ []
    rest = rw units (ap₂ (λ x n. of_gone x n ∷ []) (later_none id) (omega arith))
in_ahead clock (Some run) id len is some le =
    ap (map (group_of_entry (run.now ∷ []))) (entry_ahead (run.now ∷ []) clock (whole_entry run.now) some (omega (arith, le, ap (λ (x : Id). x.clock) is)))
    ∙ ap (λ g. g ∷ []) (whole_group run.now)

in_below : (clock : ℕ) (run : Option (Bor Run)) (id : Id) (len : ℕ) → start_of (group_in run id len) ≡ id → 0 < size_of (group_in run id len) →
    id.clock + size_of (group_in run id len) ≤ clock → cut_in clock run id len ≡ []
in_below clock None id len is some le = rw out refl
  where
    out : nat_lt (clock - id.clock) len ≡ false
    out = grind (arith, tests)
in_below clock (Some run) id len is some le =
    ap (map (group_of_entry (run.now ∷ []))) (entry_below (run.now ∷ []) clock (whole_entry run.now) some (omega (arith, le, ap (λ (x : Id). x.clock) is)))

pub lent_ahead : (clock : ℕ) (lent : Lent) → IsLent lent → clock ≤ lent.id.clock → cut_lent clock lent ≡ lent_group lent ∷ []
lent_ahead clock lent is le = in_ahead clock lent.run lent.id lent.len is.id (have_unit (lent_group lent) is.valid) le

pub lent_below : (clock : ℕ) (lent : Lent) → IsLent lent → lent.id.clock + lent.len ≤ clock → cut_lent clock lent ≡ []
lent_below clock lent is le = in_below clock lent.run lent.id lent.len is.id (have_unit (lent_group lent) is.valid) (omega (arith, le, is.len))

-- ---- a part of it

-- what is behind the first units of a run, where these are not in the cut
pub run_part : (run : Run) (clock n : ℕ) (entry : Entry) (runs : List Run) (group : Group) → runs ≡ run ∷ [] → n ≡ left_out (run ∷ []) clock (whole_entry run) →
    n < len_of (content_value run.content) → entry ≡ behind (whole_entry run) n → group ≡ group_of_entry runs entry →
    map (group_of_entry (run ∷ [])) (cut_entry (run ∷ []) clock (whole_entry run)) ≡ group ∷ []
run_part run clock n entry runs group same out lt is gives =
    ap (map (group_of_entry (run ∷ []))) (ap (parts_behind (whole_entry run)) (sym out) ∙ some) ∙ ap (λ g. g ∷ []) (ap₂ group_of_entry (sym same) (sym is) ∙ sym gives)
  where
    fewer : nat_lt n (len_of (content_value run.content)) ≡ true
    fewer = grind (arith, tests)

    some : parts_behind (whole_entry run) n ≡ behind (whole_entry run) n ∷ []
    some = rw fewer refl

pub run_part_taken : (run : Run) (clock n : ℕ) (entry : Entry) (runs : List Run) → runs ≡ run ∷ [] → IsTakenOf (run ∷ []) (whole_entry run) →
    n ≡ left_out (run ∷ []) clock (whole_entry run) → n < len_of (content_value run.content) → entry ≡ behind (whole_entry run) n → IsTakenOf runs entry
run_part_taken run clock n entry runs same taken out lt is = subst (λ rs. IsTakenOf rs entry) (sym same) (part_taken (run ∷ []) clock (whole_entry run) entry n taken out lt is)

-- a run that is placed can be taken of itself
pub placed_taken : (id : Id) (s : LentStruct) (run : Run) → IsPlaced id (lent_struct s) → is_skip (lent_struct s) ≡ false → lent_at id s ≡ run_lent id run → IsTakenOf (run ∷ []) (whole_entry run)
placed_taken id s run is units same = run_taken (run_lent id run) (record { ref_ptr = (0, 0); now = run }) (subst IsLent same (lent_is id s is units)) refl

-- those of gone units from a clock on
pub gone_part : (clock : ℕ) (id : Id) (count : ℕ) → id.clock < clock → clock < id.clock + count →
    cut_gone clock id count ≡ of_gone (record { client = id.client; clock = clock }) (count - (clock - id.clock)) ∷ []
gone_part clock id count begins ends = rw fewer (ap (λ c. of_gone (record { client = id.client; clock = c }) (count - (clock - id.clock)) ∷ []) first)
  where
    fewer : nat_lt (clock - id.clock) count ≡ true
    fewer = grind (arith, tests)

    first : id.clock + (clock - id.clock) ≡ clock
    first = omega (arith, begins)

-- a part that is in a cut is a struct of a valid update too: it is the cut of an update of one struct
one_group : (group : Group) → blocks_groups (block_of group ∷ []) ≡ group ∷ []
one_group (of_run run) = refl
one_group (of_gone id count) = refl

one_valid : (group : Group) → IsOfUpdate group → IsValidUpdate (record { blocks = block_of group ∷ []; deletes = [] })
one_valid group is = record { blocks = (record { client = is.client; clock = omega (arith, is.end); structs = (is.struct, clocks, tt) }, tt); deletes = tt }
  where
    clocks : IsClock ((start_of group).clock + clocks_of (struct_of group))
    clocks = omega (arith, is.end, struct-clocks group)

pub part_placed : (clock : ℕ) (lent : Lent) (part : Group) → IsLent lent → cut_lent clock lent ≡ part ∷ [] → IsPlaced (start_of part) (struct_of part)
part_placed clock lent part is all = record { client = block.client; is_struct = block.structs.0; end = block.structs.1 }
  where
    vector : ℕ → ℕ
    vector client = clock

    update : UpdateValue
    update = record { blocks = block_of (lent_group lent) ∷ []; deletes = [] }

    named : List Span
    named = (received_set (update ∷ [])).deletes

    built : Built
    built = record { blocks = []; last = Some part }

    pushed : all_pushed nothing_built (cut_lents vector (lent ∷ [])) ≡ built
    pushed = ap (λ gs. all_pushed nothing_built (gs ++ [])) all

    perm : IsPermutation (blocks_groups update.blocks) (lent_group lent ∷ [])
    perm = subst (λ gs. IsPermutation gs (lent_group lent ∷ [])) (sym (one_group (lent_group lent))) (IsPermutation-refl (lent_group lent ∷ []))

    whole : record { blocks = block_of part ∷ []; deletes = named } ≡ cut_update update vector
    whole = all_lent_cut vector (lent ∷ []) 1 built named (is, tt) tt (omega arith) (sym pushed)
        ∙ turn_cut update (lent_group lent ∷ []) vector named (one_valid (lent_group lent) is.valid) (is.valid, tt) perm tt refl

    block : IsValidBlock (block_of part)
    block = (subst IsValidUpdate (sym whole) (cut_valid update vector (one_valid (lent_group lent) is.valid))).blocks.0
