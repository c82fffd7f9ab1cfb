-- What a writer of blocks has written grows by one struct after another.
use Rattle.std.proofs.Common.{◌≡◌, ◌≢◌, ℕ, zero, suc, ◌+◌, ◌-◌, ◌<◌, ◌≤◌, max, List, [], ◌∷◌, ◌++◌, length, refl, sym, ap, ◌∙◌, subst, arith, tests, append_assoc, append-nil, length-append, ap₂, None, Some, Option}
use Rattle.std.specs.Prelude.{nat_eq, true, false}
use Rattle.yd_ids.specs.declared.id.Id.{Id}
use Rattle.yd_ops.specs.Valid.{IsValidUpdate}
use Rattle.yd_ops.specs.Value.{BlockValue, StructValue, UpdateValue, clocks_of, skip}
use Rattle.yd_grouping.specs.Building.{block_and, block_end, blocks_and}
use Rattle.yd_grouping.specs.Grouped.{block_of, with_gap}
use Rattle.yd_grouping.specs.Groups.{Group, start_of, struct_of}
use Rattle.yd_grouping.proofs.BuildingLemmas.{clocks-append, gap-clocks}
use Rattle.yd_fields.specs.Field as field
use Rattle.yd_fields.specs.Field.{Field}
use Rattle.yd_fields.specs.UpdateFields.{fields_of_block, fields_of_blocks, fields_of_struct, fields_of_structs, fields_of_update}
use Rattle.yd_fields.specs.UpdatePlan.{update_plan}
use Rattle.yd_fields.proofs.UpdateExpectLemmas.{update_expects}
use Rattle.yd_fields.proofs.WritesLemmas.{writes_more, writes_then}
use Rattle.yd_v1.specs.Bytes.{V1Spells, v1_bytes, v1_bytes_of_all}
use Rattle.yd_v1.proofs.WrittenLemmas.{with_v1_bytes, written_fills}
use Rattle.yd_skimming.specs.declared.block_writing.BlockWriter.{BlockWriter}
use Rattle.yd_skimming.specs.declared.block_writing.LastBlock.{LastBlock}
use Rattle.yd_skimming.specs.BlockWriting.{Appends, EndsWith, GrowsBy, HasWritten, Holds, IsGroupAt, IsLastBlock, IsReadyFor, IsWrittenAs, block_at, fields_of_body, fields_of_counted}

-- ---- fields behind fields

fields-blocks : (blocks : List BlockValue) (block : BlockValue) → fields_of_blocks blocks ++ fields_of_block block ≡ fields_of_blocks (blocks ++ block ∷ [])
fields-blocks [] block = sym (append-nil (fields_of_block block))
fields-blocks (b ∷ blocks) block = append_assoc (fields_of_block b) (fields_of_blocks blocks) (fields_of_block block) ∙ ap (λ fs. fields_of_block b ++ fs) (fields-blocks blocks block)

fields-structs : (structs others : List StructValue) → fields_of_structs structs ++ fields_of_structs others ≡ fields_of_structs (structs ++ others)
fields-structs [] others = refl
fields-structs (s ∷ structs) others = append_assoc (fields_of_struct s) (fields_of_structs structs) (fields_of_structs others) ∙ ap (λ fs. fields_of_struct s ++ fs) (fields-structs structs others)

-- bytes that hold fields, behind others
held_behind : (fields : List Field) (held old new : List ℕ) → Holds fields held → new ≡ old ++ held → Appends fields old new
held_behind fields held old new holds e = record {
  written = e ∙ ap (λ bytes. old ++ bytes) (holds.written ∙ with_v1_bytes fields []) ∙ sym (with_v1_bytes fields old);
  spelled = holds.spelled;
}

-- no field
nothing_more : (bytes : List ℕ) → Appends [] bytes bytes
nothing_more bytes = record { written = refl; spelled = tt }

-- ---- a group at the back of blocks

-- into the last block, where that is its client's
and_same : (bs : List BlockValue) (b : BlockValue) (g : Group) → nat_eq b.client.0 (start_of g).client.0 ≡ true → blocks_and (bs ++ b ∷ []) g ≡ bs ++ block_and b g ∷ []
and_same [] b g e = rw e refl
and_same (c ∷ []) b g e = ap (λ rest. c ∷ rest) (and_same [] b g e)
and_same (c ∷ d ∷ bs) b g e = ap (λ rest. c ∷ rest) (and_same (d ∷ bs) b g e)

-- and else behind it
and_other : (bs : List BlockValue) (b : BlockValue) (g : Group) → nat_eq b.client.0 (start_of g).client.0 ≡ false → blocks_and (bs ++ b ∷ []) g ≡ (bs ++ b ∷ []) ++ block_of g ∷ []
and_other [] b g e = rw e refl
and_other (c ∷ []) b g e = ap (λ rest. c ∷ rest) (and_other [] b g e)
and_other (c ∷ d ∷ bs) b g e = ap (λ rest. c ∷ rest) (and_other (d ∷ bs) b g e)

-- a block of a group alone is one of no struct that grew
begun : (id : Id) (group : Group) → start_of group ≡ id → block_of group ≡ block_and (block_at id) group
begun id group starts = subst (λ (at : Id). block_of group ≡ block_and (block_at at) group) starts
    (ap (λ (gap : ℕ). record { client = (start_of group).client; clock = (start_of group).clock; structs = with_gap gap (struct_of group ∷ []) }) no_gap)
  where
    no_gap : 0 ≡ (start_of group).clock - ((start_of group).clock + 0)
    no_gap = omega arith

-- ---- lemmas for callers

-- a struct behind a gap is written behind a skip, and else alone
pub behind_gap : (gap : ℕ) (s : StructValue) (old mid new : List ℕ) → 0 < gap → Appends (fields_of_struct (skip gap)) old mid → Appends (fields_of_struct s) mid new → Appends (fields_of_structs (with_gap gap (s ∷ []))) old new
behind_gap zero s old mid new some skips puts = absurd (omega arith)
behind_gap (suc gap) s old mid new some skips puts = writes_then skips (writes_then puts (nothing_more new))

pub behind_none : (gap : ℕ) (s : StructValue) (old new : List ℕ) → gap ≤ 0 → Appends (fields_of_struct s) old new → Appends (fields_of_structs (with_gap gap (s ∷ []))) old new
behind_none zero s old new none puts = writes_then puts (nothing_more new)
behind_none (suc gap) s old new none puts = absurd (omega arith)

-- ---- the next struct

is_one : (m n : ℕ) → m ≡ n → nat_eq m n ≡ true
is_one m n e = grind (arith, tests)

is_other : (m n : ℕ) → m ≢ n → nat_eq m n ≡ false
is_other m n e = grind (arith, tests)

-- it goes into the last block
pub ready_same : (w : BlockWriter) (last : LastBlock) (id : Id) (blocks : List BlockValue) → w.last ≡ Some last → last.client.0 ≡ id.client.0 → HasWritten w blocks → IsReadyFor id blocks w last
ready_same w last id blocks is same written = go (subst (λ (o : Option LastBlock). EndsWith o w.body written.front blocks) is written.last)
  where
    go : EndsWith (Some last) w.body written.front blocks → IsReadyFor id blocks w last
    go ends = record {
      front = written.front;
      done = written.done;
      block = ends.0;
      is_last = ends.1;
      grows = λ group starts. ap (λ bs. blocks_and bs group) ends.2
          ∙ and_same written.front ends.0 group (is_one _ _ (sym (ap (λ c. c.0) ends.1.client) ∙ same ∙ ap (λ i. i.client.0) (sym starts)));
    }

-- it is the first
pub ready_first : (w new : BlockWriter) (last : LastBlock) (id : Id) (blocks : List BlockValue) → w.last ≡ None → new.done ≡ w.done → new.count ≡ w.count →
    IsLastBlock last new.body (block_at id) → HasWritten w blocks → IsReadyFor id blocks new last
ready_first w new last id blocks is done count begun_last written = go (subst (λ (o : Option LastBlock). EndsWith o w.body written.front blocks) is written.last)
  where
    go : EndsWith None w.body written.front blocks → IsReadyFor id blocks new last
    go ends = record {
      front = written.front;
      done = record { written = rw done written.done.written; len = count ∙ written.done.len };
      block = block_at id;
      is_last = begun_last;
      grows = λ group starts. rw (ends.0, ends.1) (ap (λ b. b ∷ []) (begun id group starts));
    }

-- it goes into another block; the last one is done
pub ready_other : (w new : BlockWriter) (before last : LastBlock) (id : Id) (blocks : List BlockValue) → w.last ≡ Some before → before.client.0 ≢ id.client.0 →
    ((block : BlockValue) → before.count ≡ length block.structs → Holds (fields_of_body block) w.body → Appends (fields_of_block block) w.done new.done) →
    new.count ≡ w.count + 1 → IsLastBlock last new.body (block_at id) → HasWritten w blocks → IsReadyFor id blocks new last
ready_other w new before last id blocks is other puts count begun_last written = go (subst (λ (o : Option LastBlock). EndsWith o w.body written.front blocks) is written.last)
  where
    go : EndsWith (Some before) w.body written.front blocks → IsReadyFor id blocks new last
    go ends = record {
      front = written.front ++ ends.0 ∷ [];
      done = record {
        written = subst (λ (fs : List Field). Holds fs new.done) (fields-blocks written.front ends.0) (writes_then written.done.written (puts ends.0 ends.1.count ends.1.written));
        len = omega (arith, count, written.done.len, length-append written.front (ends.0 ∷ []));
      };
      block = block_at id;
      is_last = begun_last;
      grows = λ group starts. ap (λ bs. blocks_and bs group) ends.2
          ∙ and_other written.front ends.0 group (is_other _ _ (λ same. other (ap (λ c. c.0) ends.1.client ∙ same ∙ ap (λ i. i.client.0) starts)))
          ∙ ap (λ b. (written.front ++ ends.0 ∷ []) ++ b ∷ []) (begun id group starts);
    }

-- a block with it
pub grown_last : (last grown : LastBlock) (old new : List ℕ) (id : Id) (s : StructValue) (gap len : ℕ) (block : BlockValue) (group : Group) →
    gap ≡ max id.clock last.end - last.end → len ≡ clocks_of s → GrowsBy gap len last grown → Appends (fields_of_structs (with_gap gap (s ∷ []))) old new →
    IsGroupAt id s group → IsLastBlock last old block → IsLastBlock grown new (block_and block group)
grown_last last grown old new id s gap len block group skips long grows puts at is = record {
  client = grows.client ∙ is.client;
  end = omega (
    arith,
    grows.end,
    is.end,
    long,
    clocks-append block.structs (with_gap here (struct_of group ∷ [])),
    gap-clocks here (struct_of group ∷ []),
    same_gap,
    ap clocks_of at.struct,
  );
  count = omega (arith, grows.count s, is.count, length-append block.structs (with_gap here (struct_of group ∷ [])), ap length same_structs);
  written = subst (λ (fs : List Field). Holds ((field.client, block.client.0) ∷ (field.number, block.clock) ∷ fs) new)
      (ap (λ ss. fields_of_structs block.structs ++ fields_of_structs ss) same_structs ∙ fields-structs block.structs (with_gap here (struct_of group ∷ [])))
      (writes_then is.written puts);
}
  where
    here : ℕ
    here = (start_of group).clock - block_end block

    same_gap : gap ≡ here
    same_gap = omega (arith, skips, is.end, ap (λ i. i.clock) at.starts)

    same_structs : with_gap gap (s ∷ []) ≡ with_gap here (struct_of group ∷ [])
    same_structs = ap₂ (λ n x. with_gap n (x ∷ [])) same_gap (sym at.struct)

-- ---- the whole

-- there is no block
pub counted_none : (w : BlockWriter) (blocks : List BlockValue) (old new : List ℕ) → w.last ≡ None → new ≡ old ++ v1_bytes (field.number, 0) → V1Spells (field.number, 0) →
    HasWritten w blocks → Appends (fields_of_counted blocks) old new
counted_none w blocks old new is put spelled written = go (subst (λ (o : Option LastBlock). EndsWith o w.body written.front blocks) is written.last)
  where
    go : EndsWith None w.body written.front blocks → Appends (fields_of_counted blocks) old new
    go ends = rw ends.1 (writes_more (field.number, 0) old put spelled (nothing_more new))

-- there are some
pub counted_all : (w : BlockWriter) (last : LastBlock) (blocks : List BlockValue) (count : ℕ) (old mid front new : List ℕ) → w.last ≡ Some last → count ≡ w.count + 1 →
    mid ≡ old ++ v1_bytes (field.number, count) → V1Spells (field.number, count) → front ≡ mid ++ w.done →
    ((block : BlockValue) → last.count ≡ length block.structs → Holds (fields_of_body block) w.body → Appends (fields_of_block block) front new) →
    HasWritten w blocks → Appends (fields_of_counted blocks) old new
counted_all w last blocks count old mid front new is more put spelled behind puts written = go (subst (λ (o : Option LastBlock). EndsWith o w.body written.front blocks) is written.last)
  where
    go : EndsWith (Some last) w.body written.front blocks → Appends (fields_of_counted blocks) old new
    go ends = rw ends.2 (subst (λ (n : ℕ). Appends ((field.number, n) ∷ fields_of_blocks (written.front ++ ends.0 ∷ [])) old new)
        (omega (arith, more, written.done.len, length-append written.front (ends.0 ∷ [])))
        (subst (λ (fs : List Field). Appends ((field.number, count) ∷ fs) old new) (fields-blocks written.front ends.0)
        (writes_more (field.number, count) old put spelled (writes_then (held_behind _ w.done mid front written.done.written behind) (puts ends.0 ends.1.count ends.1.written)))))

-- the bytes of a block
pub block_written : (block : BlockValue) (count : ℕ) (body old mid new : List ℕ) → count ≡ length block.structs → mid ≡ old ++ v1_bytes (field.number, count) → V1Spells (field.number, count) →
    new ≡ mid ++ body → Holds (fields_of_body block) body → Appends (fields_of_block block) old new
block_written block count body old mid new is put spelled behind holds = subst (λ (n : ℕ). Appends ((field.number, n) ∷ fields_of_body block) old new) is
    (writes_more (field.number, count) old put spelled (held_behind (fields_of_body block) body mid new holds behind))

-- what holds the fields of a valid update stands for it
pub written_as : (u : UpdateValue) (bytes : List ℕ) → Holds (fields_of_update u) bytes → IsValidUpdate u → IsWrittenAs bytes u
written_as u bytes holds valid =
    let is : bytes ≡ v1_bytes_of_all (fields_of_update u) = holds.written ∙ with_v1_bytes (fields_of_update u) [] in
    record {
      written = is;
      again = rw is (written_fills (fields_of_update u) (update_plan None) u (update_expects u valid) holds.spelled);
    }
