-- A piece of a run: which of its halves are torn, and what is taken of it.
use Rattle.std.proofs.Common.{◌≡◌, ◌↔◌, ℕ, zero, suc, ◌+◌, ◌-◌, ◌<◌, ◌≤◌, Bool, true, false, List, [], ◌∷◌, length, take, drop, Option, Some, ◌⊎◌, inl, inr, refl, sym, ap, ◌∙◌, subst, arith, length-drop, length-take}
use Rattle.std.specs.Prelude.{slice_get}
use Rattle.std.proofs.lemmas.Bool.{cases_lt, cases_Bool, true≢false}
use Rattle.yd_words.specs.Member.{IsIn}
use Rattle.yd_ids.specs.declared.id.Id.{Id}
use Rattle.yd_ops.specs.declared.lists.List.{List as DocList}
use Rattle.yd_ops.specs.Operation.{UnitContent, Operation, later_id, units_of_content, operations_from, operations_of_run, IsHighUnit, IsLowUnit}
use Rattle.yd_ops.specs.Value.{RunValue, len_of}
use Rattle.yd_ops.specs.Valid.{IsValidContent}
use Rattle.yd_ops.proofs.OperationLemmas.{length-units_of_content}
use Rattle.yd_ops.specs.Pairs.{is_high, is_low, is_text_and, as_torn}
use Rattle.yd_ops.specs.Received.{has_operation}
use Rattle.yd_ops.proofs.PartnerLemmas.{high_unit, low_unit}
use Rattle.yd_ops.proofs.AddingLemmas.{is_torn, high_torn, low_torn, other_torn}
use Rattle.yd_ops.proofs.RunLemmas.{run_partners}
use Rattle.yd_entries.specs.Entries.{PartsPair}
use Rattle.yd_entries.specs.Taking.{left_at, list_from, IsPiece, operations_from_run, operations_of_piece}
use Rattle.yd_entries.proofs.CutLemmas.{cut_inside, cut_low, cut_high, low_cut, high_cut}
use Rattle.yd_ops.proofs.OperationLemmas.{later_later}
use Rattle.yd_entries.proofs.UnitLemmas.{later_same, part_from, from_unit, one_of_take, one_of_drop, gone_part, from_gone}

-- ---- units of a run by their places

pub get_in_take : {X : Type 0} (n : ℕ) (xs : List X) (i : ℕ) (x : X) → slice_get (take n xs) i ≡ Some x → slice_get xs i ≡ Some x
get_in_take zero xs i x e = absurd cc
get_in_take (suc n) [] i x e = absurd cc
get_in_take (suc n) (y ∷ ys) zero x e = e
get_in_take (suc n) (y ∷ ys) (suc i) x e = get_in_take n ys i x e

pub get_in_drop : {X : Type 0} (n : ℕ) (xs : List X) (i : ℕ) → slice_get (drop n xs) i ≡ slice_get xs (n + i)
get_in_drop zero xs i = ap (λ k. slice_get xs k) (omega arith)
get_in_drop (suc n) [] i = refl
get_in_drop (suc n) (y ∷ ys) i = get_in_drop n ys i ∙ sym (ap (λ k. slice_get (y ∷ ys) k) next)
  where
    next : suc n + i ≡ suc (n + i)
    next = omega arith

-- an operation of so many from unit n on is that of one of these units
pub part_unit : (run : RunValue) (n count : ℕ) (o : Operation) → IsIn o (take count (drop n (operations_of_run run))) →
    (i : ℕ) × (i < count) × (o.id ≡ later_id run.id (n + i)) × (slice_get (units_of_content run.content) (n + i) ≡ Some o.content)
part_unit run n count o j =
    let (i, lt, e, u) = from_unit (later_id run.id n) (left_at run.id run.left n) run.right (list_from run.list n) (take count (drop n (units_of_content run.content))) o
    (subst (IsIn o) (part_from n count run.id run.left run.right run.list (units_of_content run.content)) j) in (
      i,
      omega (arith, length-take count (drop n (units_of_content run.content))),
      e ∙ later_later run.id n i,
      sym (get_in_drop n (units_of_content run.content) i) ∙ get_in_take count (drop n (units_of_content run.content)) i o.content u,
    )

-- so it is of units that are gone
pub part_id : (is_gone : Bool) (run : RunValue) (n count : ℕ) (o : Operation) → n + count ≤ len_of run.content → IsIn o (take count (drop n (operations_from_run is_gone run))) →
    (i : ℕ) × (i < count) × (o.id ≡ later_id run.id (n + i))
part_id true run n count o le j =
    let (i, lt, e) = from_gone (later_id run.id n) count o (subst (IsIn o) (gone_part n count run.id (len_of run.content) le) j) in
    (i, lt, ap (λ (q : Operation). q.id) e ∙ later_later run.id n i)
part_id false run n count o le j = let (i, lt, e, u) = part_unit run n count o j in (i, lt, e)

pub part_in_run : (run : RunValue) (n count : ℕ) (o : Operation) → IsIn o (take count (drop n (operations_of_run run))) → IsIn o (operations_of_run run)
part_in_run run n count o j = one_of_drop n (operations_of_run run) o (one_of_take count (drop n (operations_of_run run)) o j)

-- ---- torn halves

module _ (run : RunValue) (old : List Operation) (valid : IsValidContent run.content) (from new count : ℕ)
    (free : (i : ℕ) → i < new → has_operation old (later_id run.id (from + i)) ≡ false) where
  -- the operations of the run, and that one holds what unit n holds
  abbrev whole : List Operation
  whole = operations_of_run run

  abbrev IsUnit : ℕ → Operation → Type 0
  IsUnit n o = slice_get (units_of_content run.content) n ≡ Some o.content

  -- none of whole pairs is torn
  pub whole_not_torn : IsPiece run.content from (from + new) count false → (o : Operation) → IsIn o (take count (drop from whole)) →
      is_torn whole old o ≡ false
  whole_not_torn piece o j =
      let (i, lt, e, u) = part_unit run from count o j in
      by_unit i lt e u (cases_Bool _) (cases_Bool _)
    where
      high : (i : ℕ) → i < count → o.id ≡ later_id run.id (from + i) → IsUnit (from + i) o → IsHighUnit o.content → has_operation old (later_id o.id 1) ≡ false
      high i lt e u h = elim (cases_lt (i + 1) new) [
        | inl less ↦ subst (λ x. has_operation old x ≡ false) (later_same run.id (from + (i + 1)) (from + i + 1) (omega arith) ∙ sym (later_later run.id (from + i) 1) ∙ ap (λ x. later_id x 1) (sym e)) (free (i + 1) less)
        | inr all ↦ absurd ((piece.whole refl).1 (omega (arith, piece.bound.1)) (subst (PartsPair run.content) (omega (arith, piece.bound.1)) (high_cut run.content (from + i) o.content valid u h)))
      ]

      low : (i : ℕ) → i < count → o.id ≡ later_id run.id (from + i) → IsUnit (from + i) o → IsLowUnit o.content → is_torn whole old o ≡ false
      low zero lt e u l = absurd ((piece.whole refl).0 (subst (PartsPair run.content) (omega arith) (low_cut run.content (from + 0) o.content valid u l)))
      low (suc m) lt e u l =
          low_torn whole old o (later_id run.id (from + m)) (run_partners run valid) (part_in_run run from count o j) l
          (e ∙ later_same run.id (from + suc m) (from + m + 1) (omega arith) ∙ sym (later_later run.id (from + m) 1))
          ∙ free m (omega (arith, piece.bound.1))

      by_unit : (i : ℕ) → i < count → o.id ≡ later_id run.id (from + i) → IsUnit (from + i) o →
          (is_text_and is_high o.content ≡ true) ⊎ (is_text_and is_high o.content ≡ false) →
          (is_text_and is_low o.content ≡ true) ⊎ (is_text_and is_low o.content ≡ false) →
          is_torn whole old o ≡ false
      by_unit i lt e u (inl h) l = high_torn whole old o (run_partners run valid) (part_in_run run from count o j) ((high_unit o.content).0 h) ∙ high i lt e u ((high_unit o.content).0 h)
      by_unit i lt e u (inr h) (inl l) = low i lt e u ((low_unit o.content).0 l)
      by_unit i lt e u (inr h) (inr l) = other_torn whole old o (λ half. elim half [
        | inl is ↦ true≢false (sym ((high_unit o.content).1 is) ∙ h)
        | inr is ↦ true≢false (sym ((low_unit o.content).1 is) ∙ l)
      ])

  -- a half whose other half came before is torn
  pub half_is_torn : IsPiece run.content from (from + new) count true →
      (PartsPair run.content from → (k : ℕ) → from ≡ k + 1 → has_operation old (later_id run.id k) ≡ true) →
      (from + new < len_of run.content → has_operation old (later_id run.id (from + new)) ≡ true) →
      (o : Operation) → IsIn o (take count (drop from whole)) → is_torn whole old o ≡ true
  half_is_torn piece before behind o j =
      let (i, lt, e, u) = part_unit run from count o j in
      let first : i ≡ 0 = omega (arith, (piece.torn refl).0) in
      by_side (e ∙ later_same run.id (from + i) from (omega arith)) (sym (ap (λ k. slice_get (units_of_content run.content) k) (omega arith)) ∙ u) (piece.torn refl).1
    where
      low : (k : ℕ) → from ≡ k + 1 → PartsPair run.content from → o.id ≡ later_id run.id from → IsUnit from o → is_torn whole old o ≡ true
      low k next cut e u =
          low_torn whole old o (later_id run.id k) (run_partners run valid) (part_in_run run from count o j) (cut_low run.content from o.content cut u)
          (e ∙ later_same run.id from (k + 1) next ∙ sym (later_later run.id k 1))
          ∙ before cut k next

      by_side : o.id ≡ later_id run.id from → IsUnit from o → PartsPair run.content from ⊎ (PartsPair run.content (from + new) × (from + 1 ≡ from + new)) →
          is_torn whole old o ≡ true
      by_side e u (inl cut) = low (from - 1) (omega (arith, (cut_inside run.content from cut).0)) cut e u
      by_side e u (inr (cut, last)) =
          high_torn whole old o (run_partners run valid) (part_in_run run from count o j) (cut_high run.content from o.content (subst (PartsPair run.content) (sym last) cut) u)
          ∙ subst (λ x. has_operation old x ≡ true) (later_same run.id (from + new) (from + 1) (sym last) ∙ sym (later_later run.id from 1) ∙ ap (λ x. later_id x 1) (sym e))
          (behind (omega (arith, (cut_inside run.content (from + new) cut).1, length-units_of_content run.content)))

-- ---- what is taken

one_as_half : (id : Id) (left right : Option Id) (list : Option DocList) (units : List UnitContent) (half : UnitContent) → 0 < length units → (q : Operation) →
    IsIn q (record { id = id; left_origin = left; right_origin = right; list = list; content = half } ∷ []) →
    (o : Operation) × IsIn o (operations_from id left right list (take 1 units)) × (q ≡ record { id = o.id; left_origin = o.left_origin; right_origin = o.right_origin; list = o.list; content = half })
one_as_half id left right list [] half some q i = absurd (omega arith)
one_as_half id left right list (unit ∷ units) half some q (inl e) = (record { id = id; left_origin = left; right_origin = right; list = list; content = unit }, inl refl, e)
one_as_half id left right list (unit ∷ units) half some q (inr i) = absurd i

half_as_one : (id : Id) (left right : Option Id) (list : Option DocList) (units : List UnitContent) (half : UnitContent) (o : Operation) →
    IsIn o (operations_from id left right list (take 1 units)) →
    IsIn {X = Operation} (record { id = o.id; left_origin = o.left_origin; right_origin = o.right_origin; list = o.list; content = half }) (record { id = id; left_origin = left; right_origin = right; list = list; content = half } ∷ [])
half_as_one id left right list [] half o i = absurd i
half_as_one id left right list (unit ∷ units) half o (inl e) = inl (ap (λ (p : Operation). record { id = p.id; left_origin = p.left_origin; right_origin = p.right_origin; list = p.list; content = half }) e)
half_as_one id left right list (unit ∷ units) half o (inr i) = absurd i

-- the operations of a piece are those of the run, or the half torn
pub piece_taken : (run : RunValue) (from count : ℕ) (torn : Bool) → (torn ≡ true → count ≡ 1) → from < len_of run.content → (q : Operation) →
    IsIn q (operations_of_piece false run from count torn) ↔ ((o : Operation) × IsIn o (take count (drop from (operations_of_run run))) × (q ≡ as_torn torn o))
piece_taken run from count false one lt q = ((λ i. (q, i, refl)), (λ found. let (o, i, e) = found in subst (λ p. IsIn p (take count (drop from (operations_of_run run)))) (sym e) i))
piece_taken run from count true one lt q = (there, back)
  where
    some : 0 < length (drop from (units_of_content run.content))
    some = omega (arith, length-drop from (units_of_content run.content), length-units_of_content run.content)

    part : take count (drop from (operations_of_run run)) ≡ operations_from (later_id run.id from) (left_at run.id run.left from) run.right (list_from run.list from)
        (take 1 (drop from (units_of_content run.content)))
    part = ap (λ n. take n (drop from (operations_of_run run))) (one refl) ∙ part_from from 1 run.id run.left run.right run.list (units_of_content run.content)

    there : IsIn q (operations_of_piece false run from count true) → (o : Operation) × IsIn o (take count (drop from (operations_of_run run))) × (q ≡ as_torn true o)
    there i =
        let (o, j, e) = one_as_half (later_id run.id from) (left_at run.id run.left from) run.right (list_from run.list from) (drop from (units_of_content run.content)) _ some q i in
        (o, subst (IsIn o) (sym part) j, e)

    back : (o : Operation) × IsIn o (take count (drop from (operations_of_run run))) × (q ≡ as_torn true o) → IsIn q (operations_of_piece false run from count true)
    back (o, j, e) = subst (λ p. IsIn p (operations_of_piece false run from count true)) (sym e)
        (half_as_one (later_id run.id from) (left_at run.id run.left from) run.right (list_from run.list from) (drop from (units_of_content run.content)) _ o (subst (IsIn o) part j))
