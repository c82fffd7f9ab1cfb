-- An any-value that was written is read as that value.
use Rattle.std.proofs.Common.{◌≡◌, ℕ, zero, suc, ◌^◌, ◌<◌, ◌≤◌, ℤ, pos, negsuc, true, false, List, [], ◌∷◌, ◌++◌, Some, Ok, refl, sym, ap, ◌∙◌, subst, arith}
use Rattle.std.specs.Prelude.{unsigned_abs, nat_lt, FitsSigned, if◌then◌else◌}
use Rattle.std.specs.Int.{w64, cast_signed, cast_unsigned, from_be_bytes, to_be_bytes}
use Rattle.std.proofs.lemmas.Bool.{lt-ltb}
use Rattle.std.proofs.lemmas.Int.{to_z-of_z}
use Rattle.std.proofs.lemmas.Nat.{from_be_bytes-to_be_bytes_8}
use Rattle.yd_any.specs.Tree.{AnyTree, AnyTrees, AnyFields, undefined, null, flag, whole, raw4, raw8, big, str, list, pairs, blob as bytes, no_trees, tree, no_fields, field, depth, depth_of_trees, depth_of_fields, with_last, with_last_field}
use Rattle.yd_num.specs.Number.{byte_at}
use Rattle.yd_num.specs.Writing.{shortest, shortest_blob, shortest_signed}
use Rattle.yd_ops.specs.Value.{count_of}
use Rattle.yd_parts.specs.AnyBytes.{signed_of, bytes_of_any, bytes_of_trees, bytes_of_fields, count_of_fields, IsWritableText, IsWritable, AreWritable, FieldsAreWritable}
use Rattle.yd_parts.specs.AnyPlan.{any_plan, byte_of_tag, field_step, inner_plan, list_plan, pairs_plan, tag_of_byte, tagged_plan, tree_step, whole_number, whole_plan}
use Rattle.yd_parts.specs.Part.{PartPlan, Unread, behind, last_spot, part_at, placed}
use Rattle.yd_parts.specs.Part as part
use Rattle.yd_parts.specs.Plan.{give, refuse, ◌>>=◌, repeated}
use Rattle.yd_parts.specs.declared.fault.Cause.TheVariants.{NumberTooLarge}
use Rattle.yd_parts.specs.declared.fault.Spot.{Spot}
use Rattle.yd_parts.specs.declared.tag.Tag.{Tag}
use Rattle.yd_parts.specs.declared.tag.Tag.TheVariants.{Undefined, Null, Whole, Raw4, Raw8, Big, False, True, Str, Pairs, List as Listed, Blob}
use Rattle.yd_parts.proofs.AnyPlanLemmas.{tagged_given}
use Rattle.yd_parts.proofs.ReadsLemmas.{ReadsAs, part_blob, part_raw, part_signed, part_text, part_unsigned, reads_bind, reads_give, reads_last, reads_map, reads_want}

-- ---- tags

-- a tag is known by its byte
tag_known : (tag : Tag) → tag_of_byte (byte_of_tag tag) ≡ Some tag
tag_known Undefined = refl
tag_known Null = refl
tag_known Whole = refl
tag_known Raw4 = refl
tag_known Raw8 = refl
tag_known Big = refl
tag_known False = refl
tag_known True = refl
tag_known Str = refl
tag_known Pairs = refl
tag_known Listed = refl
tag_known Blob = refl

-- a tag, and what it announces
reads_tagged : (most : ℕ) (tag : Tag) (body : List ℕ) (t : AnyTree) → ((spot : Spot) → ReadsAs (tagged_plan (inner_plan most) spot (Some tag)) body t) → ReadsAs (any_plan most) (byte_of_tag tag ∷ body) t
reads_tagged most tag body t later = λ s rest e.
    let left = behind s (body ++ rest) in
    let got : part_at part.byte s ≡ Ok (byte_of_tag tag, left) = ap (λ (bs : List ℕ). placed s (byte_at bs)) e in
    let more = later (last_spot left) left rest refl in
    (more.0, tagged_given most (byte_of_tag tag) tag s left got (tag_known tag) ∙ more.1, more.2)

-- ---- numbers

-- a whole number is that of its sign and size
number_known : (n : ℤ) → whole_number (signed_of n) ≡ n
number_known (pos n) = refl
number_known (negsuc n) = refl

size_known : (n : ℤ) → (signed_of n).size ≡ unsigned_abs n
size_known (pos n) = refl
size_known (negsuc n) = refl

reads_whole : (n : ℤ) → unsigned_abs n < 2 ^ 53 → ReadsAs whole_plan (shortest_signed (signed_of n)) (whole n)
unfolding whole_plan
reads_whole n lt =
    let small : (signed_of n).size < 2 ^ 53 = subst (λ (m : ℕ). m < 2 ^ 53) (sym (size_known n)) lt in
    reads_last part.signed (λ m spot. if nat_lt m.size (2 ^ 53) then give (whole (whole_number m)) else refuse NumberTooLarge spot) (shortest_signed (signed_of n)) (signed_of n) (whole n) (part_signed (signed_of n) (omega arith))
    (λ spot. rw (lt-ltb (signed_of n).size (2 ^ 53) small, number_known n) refl)

-- the 64 bits of a number
bits_fit : (n : ℤ) → FitsSigned w64 n → cast_unsigned w64 n < 2 ^ 64
bits_fit (pos n) fits = omega arith
bits_fit (negsuc n) fits = omega arith

-- are known by their eight bytes
bits_known : (n : ℤ) → FitsSigned w64 n → cast_signed w64 (from_be_bytes w64 (to_be_bytes w64 (cast_unsigned w64 n))) ≡ n
bits_known n fits = ap (cast_signed w64) (from_be_bytes-to_be_bytes_8 (cast_unsigned w64 n) (bits_fit n fits)) ∙ to_z-of_z w64 n fits

-- ---- rows

-- values behind values
abbrev behind_trees : AnyTrees → AnyTrees → AnyTrees
behind_trees found no_trees = found
behind_trees found (tree t ts) = behind_trees (with_last found t) ts

behind_first : (t : AnyTree) (found ts : AnyTrees) → behind_trees (tree t found) ts ≡ tree t (behind_trees found ts)
behind_first t found no_trees = refl
behind_first t found (tree u us) = behind_first t (with_last found u) us

behind_none : (ts : AnyTrees) → behind_trees no_trees ts ≡ ts
behind_none no_trees = refl
behind_none (tree t ts) = behind_first t no_trees ts ∙ ap (tree t) (behind_none ts)

-- pairs behind pairs
abbrev behind_fields : AnyFields → AnyFields → AnyFields
behind_fields found no_fields = found
behind_fields found (field key t fs) = behind_fields (with_last_field found key t) fs

behind_first_field : (key : List ℕ) (t : AnyTree) (found fs : AnyFields) → behind_fields (field key t found) fs ≡ field key t (behind_fields found fs)
behind_first_field key t found no_fields = refl
behind_first_field key t found (field l u us) = behind_first_field key t (with_last_field found l u) us

behind_no_field : (fs : AnyFields) → behind_fields no_fields fs ≡ fs
behind_no_field no_fields = refl
behind_no_field (field key t fs) = behind_first_field key t no_fields fs ∙ ap (field key t) (behind_no_field fs)

-- one more value
reads_tree_step : (inner : PartPlan AnyTree) (found : AnyTrees) (front : List ℕ) (t : AnyTree) → ReadsAs inner front t → ReadsAs (tree_step inner found) front (with_last found t)
unfolding tree_step
reads_tree_step inner found front t first = reads_map inner (λ u. give (with_last found u)) front t (with_last found t) first refl

-- one more pair
reads_field_step : (inner : PartPlan AnyTree) (found : AnyFields) (key front : List ℕ) (t : AnyTree) → IsWritableText key → ReadsAs inner front t → ReadsAs (field_step inner found) (shortest_blob key ++ front) (with_last_field found key t)
unfolding field_step
reads_field_step inner found key front t text first =
    reads_want part.text (λ k spot. inner >>= λ u. give (with_last_field found k u)) (shortest_blob key) front key (with_last_field found key t) (part_text key text)
    (λ spot. reads_map inner (λ u. give (with_last_field found key u)) front t (with_last_field found key t) first refl)

-- a list that may open
reads_listed : (most : ℕ) (ts : AnyTrees) (spot : Spot) → count_of ts < 2 ^ 53 → ReadsAs (repeated (tree_step (any_plan most)) (count_of ts) no_trees) (bytes_of_trees ts) (behind_trees no_trees ts) → ReadsAs (tagged_plan (inner_plan (suc most)) spot (Some Listed)) (shortest (count_of ts) ++ bytes_of_trees ts) (list ts)
unfolding list_plan
reads_listed most ts spot lt rows =
    reads_map (list_plan (Some (any_plan most)) spot) (λ us. give (list us)) (shortest (count_of ts) ++ bytes_of_trees ts) ts (list ts)
    (reads_want part.unsigned (λ count at. repeated (tree_step (any_plan most)) count no_trees) (shortest (count_of ts)) (bytes_of_trees ts) (count_of ts) ts (part_unsigned (count_of ts) lt)
    (λ at. subst (ReadsAs (repeated (tree_step (any_plan most)) (count_of ts) no_trees) (bytes_of_trees ts)) (behind_none ts) rows))
    refl

-- an object that may open
reads_paired : (most : ℕ) (fs : AnyFields) (spot : Spot) → count_of_fields fs < 2 ^ 53 → ReadsAs (repeated (field_step (any_plan most)) (count_of_fields fs) no_fields) (bytes_of_fields fs) (behind_fields no_fields fs) → ReadsAs (tagged_plan (inner_plan (suc most)) spot (Some Pairs)) (shortest (count_of_fields fs) ++ bytes_of_fields fs) (pairs fs)
unfolding pairs_plan
reads_paired most fs spot lt rows =
    reads_map (pairs_plan (Some (any_plan most)) spot) (λ gs. give (pairs gs)) (shortest (count_of_fields fs) ++ bytes_of_fields fs) fs (pairs fs)
    (reads_want part.unsigned (λ count at. repeated (field_step (any_plan most)) count no_fields) (shortest (count_of_fields fs)) (bytes_of_fields fs) (count_of_fields fs) fs (part_unsigned (count_of_fields fs) lt)
    (λ at. subst (ReadsAs (repeated (field_step (any_plan most)) (count_of_fields fs) no_fields) (bytes_of_fields fs)) (behind_no_field fs) rows))
    refl

-- no row
reads_none : {A : Type 0} (step : A → PartPlan A) (found : A) → ReadsAs (repeated step zero found) [] found
unfolding repeated
reads_none step found = reads_give found

-- one more of a row, and the others
reads_more : {A : Type 0} (step : A → PartPlan A) (count : ℕ) (front back : List ℕ) (found more all : A) → ReadsAs (step found) front more → ReadsAs (repeated step count more) back all → ReadsAs (repeated step (suc count) found) (front ++ back) all
unfolding repeated
reads_more step count front back found more all first later = reads_bind (step found) (λ a. repeated step count a) front back more all first later

-- ---- values

mutual
  -- a value that nests at most so deep
  pub any_reads : (t : AnyTree) (most : ℕ) → depth t ≤ most → IsWritable t → ReadsAs (any_plan most) (bytes_of_any t) t
  any_reads undefined most within fits = reads_tagged most Undefined [] undefined (λ spot. reads_give undefined)
  any_reads null most within fits = reads_tagged most Null [] null (λ spot. reads_give null)
  any_reads (flag false) most within fits = reads_tagged most False [] (flag false) (λ spot. reads_give (flag false))
  any_reads (flag true) most within fits = reads_tagged most True [] (flag true) (λ spot. reads_give (flag true))
  any_reads (whole n) most within fits = reads_tagged most Whole (shortest_signed (signed_of n)) (whole n) (λ spot. reads_whole n fits)
  any_reads (raw4 bs) most within fits = reads_tagged most Raw4 bs (raw4 bs) (λ spot. reads_last (part.raw 4) (λ cs at. give (raw4 cs)) bs bs (raw4 bs) (part_raw 4 bs fits) (λ at. refl))
  any_reads (raw8 bs) most within fits = reads_tagged most Raw8 bs (raw8 bs) (λ spot. reads_last (part.raw 8) (λ cs at. give (raw8 cs)) bs bs (raw8 bs) (part_raw 8 bs fits) (λ at. refl))
  any_reads (big n) most within fits =
      let bs = to_be_bytes w64 (cast_unsigned w64 n) in
      reads_tagged most Big bs (big n) (λ spot. reads_last (part.raw 8) (λ cs at. give (big (cast_signed w64 (from_be_bytes w64 cs)))) bs bs (big n) (part_raw 8 bs refl) (λ at. ap (λ (m : ℤ). give (big m)) (bits_known n fits)))
  any_reads (str text) most within fits = reads_tagged most Str (shortest_blob text) (str text) (λ spot. reads_last part.text (λ u at. give (str u)) (shortest_blob text) text (str text) (part_text text fits) (λ at. refl))
  any_reads (list ts) zero within fits = absurd (omega arith)
  any_reads (list ts) (suc most) within fits = reads_tagged (suc most) Listed (shortest (count_of ts) ++ bytes_of_trees ts) (list ts) (λ spot. reads_listed most ts spot fits.0 (trees_read ts most no_trees (omega arith) fits.1))
  any_reads (pairs fs) zero within fits = absurd (omega arith)
  any_reads (pairs fs) (suc most) within fits = reads_tagged (suc most) Pairs (shortest (count_of_fields fs) ++ bytes_of_fields fs) (pairs fs) (λ spot. reads_paired most fs spot fits.0 (fields_read fs most no_fields (omega arith) fits.1))
  any_reads (bytes bs) most within fits = reads_tagged most Blob (shortest_blob bs) (bytes bs) (λ spot. reads_last part.blob (λ cs at. give (bytes cs)) (shortest_blob bs) bs (bytes bs) (part_blob bs fits) (λ at. refl))

  -- values in a row, behind others
  trees_read : (ts : AnyTrees) (most : ℕ) (found : AnyTrees) → depth_of_trees ts ≤ most → AreWritable ts → ReadsAs (repeated (tree_step (any_plan most)) (count_of ts) found) (bytes_of_trees ts) (behind_trees found ts)
  trees_read no_trees most found within fits = reads_none (tree_step (any_plan most)) found
  trees_read (tree t ts) most found within fits =
      reads_more (tree_step (any_plan most)) (count_of ts) (bytes_of_any t) (bytes_of_trees ts) found (with_last found t) (behind_trees (with_last found t) ts)
      (reads_tree_step (any_plan most) found (bytes_of_any t) t (any_reads t most (omega arith) fits.0)) (trees_read ts most (with_last found t) (omega arith) fits.1)

  -- pairs in a row, behind others
  fields_read : (fs : AnyFields) (most : ℕ) (found : AnyFields) → depth_of_fields fs ≤ most → FieldsAreWritable fs → ReadsAs (repeated (field_step (any_plan most)) (count_of_fields fs) found) (bytes_of_fields fs) (behind_fields found fs)
  fields_read no_fields most found within fits = reads_none (field_step (any_plan most)) found
  fields_read (field key t fs) most found within fits =
      reads_more (field_step (any_plan most)) (count_of_fields fs) (shortest_blob key ++ bytes_of_any t) (bytes_of_fields fs) found (with_last_field found key t) (behind_fields (with_last_field found key t) fs)
      (reads_field_step (any_plan most) found key (bytes_of_any t) t fits.0 (any_reads t most (omega arith) fits.1)) (fields_read fs most (with_last_field found key t) (omega arith) fits.2)
