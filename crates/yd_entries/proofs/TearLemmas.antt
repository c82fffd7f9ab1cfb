-- The two units of a pair are torn, in a run of their own, and then split.
use Rattle.std.proofs.Common.{◌≡◌, ℕ, zero, suc, ◌+◌, ◌≤◌, List, [], ◌∷◌, length, take, drop, map, set, Some, None, inl, inr, refl, sym, ap, ap₂, ◌∙◌, subst, arith}
use Rattle.std.specs.Prelude.{slice_get, slice_index, Option}
use Rattle.yd_words.specs.Each.{Each}
use Rattle.yd_words.specs.Member.{IsIn}
use Rattle.yd_words.proofs.MemberLemmas.{each_in}
use Rattle.yd_words.proofs.OptionLemmas.{some_is}
use Rattle.yd_ids.specs.declared.id.Id.{Id}
use Rattle.yd_units.specs.Half.{AreUnits}
use Rattle.yd_ops.specs.declared.lists.List.{List as DocList}
use Rattle.yd_ops.specs.declared.runs.Run.{Run}
use Rattle.yd_ops.specs.Operation.{UnitContent, text_unit, units_of_content, Operation, later_id, operations_from}
use Rattle.yd_ops.specs.Value.{RunValue}
use Rattle.yd_ops.specs.Valid.{IsValidContent}
use Rattle.yd_ops.specs.View.{run_value, content_value}
use Rattle.yd_ops.proofs.PartnerLemmas.{IsHalf}
use Rattle.yd_entries.specs.declared.entry.Entry.{Entry}
use Rattle.yd_entries.specs.Entries.{units_of, list_at, PartsPair, operations_of_taken, operations_in, IsTakenOf, AreInOrder}
use Rattle.yd_entries.specs.Lowering.{torn_at, IsBeside, with_run, own_run}
use Rattle.yd_entries.specs.Splitting.{IsSplittable, split_in, PartsPairOf, Recuts, two_torn, Tears}
use Rattle.yd_entries.specs.Staying.{IsLess, KeepsPlaces}
use Rattle.yd_entries.proofs.BorderLemmas.{torn_none}
use Rattle.yd_entries.proofs.ChangeLemmas.{entry_got, set_has_at}
use Rattle.yd_entries.proofs.OwnLemmas.{told_operations, own_operations, own_taken, last_run}
use Rattle.yd_entries.proofs.PairLemmas.{HasHalves, two_halves, splittable, IsFront}
use Rattle.yd_entries.proofs.SetLemmas.{order_set, others_set, taken_set, map_set}
use Rattle.yd_entries.proofs.SplitLemmas.{split_order, split_others, split_beside, split_operations, split_taken}
use Rattle.yd_entries.proofs.StayingLemmas.{stays_more, stays_set, stays_split}
use Rattle.yd_entries.proofs.TakenLemmas.{grow_none}
use Rattle.yd_entries.proofs.TornLemmas.{border_half, torn_at_border, torn_at_other}

-- ---- two units that are U+FFFD

no_half : (unit : ℕ) → unit ≡ 0xFFFD → IsHalf (text_unit unit) → ⊥
no_half unit e (inl high) = absurd (omega (arith, e, high.1))
no_half unit e (inr low) = absurd (omega (arith, e, low.1))

torn_valid : IsValidContent two_torn
torn_valid = (units, record { highs = λ i high. absurd (none i high.0 high.1); lows = λ i low. absurd (none_low i low.0 low.1) })
  where
    units : AreUnits (0xFFFD ∷ 0xFFFD ∷ [])
    units zero = omega arith
    units (suc zero) = omega arith
    units (suc (suc i)) = omega arith

    none : (i : ℕ) → 0xD800 ≤ slice_index (0xFFFD ∷ 0xFFFD ∷ []) i → slice_index (0xFFFD ∷ 0xFFFD ∷ []) i ≤ 0xDBFF → ⊥
    none zero low high = absurd (omega (arith, high))
    none (suc zero) low high = absurd (omega (arith, high))
    none (suc (suc i)) low high = absurd (omega (arith, low))

    none_low : (i : ℕ) → 0xDC00 ≤ slice_index (0xFFFD ∷ 0xFFFD ∷ []) i → slice_index (0xFFFD ∷ 0xFFFD ∷ []) i ≤ 0xDFFF → ⊥
    none_low zero low high = absurd (omega (arith, high))
    none_low (suc zero) low high = absurd (omega (arith, high))
    none_low (suc (suc i)) low high = absurd (omega (arith, low))

-- ---- what tearing makes of the two

module _ (id : Id) (left right : Option Id) (list : Option DocList) where
  -- the two operations, with what they hold
  abbrev one : ℕ → Operation
  one unit = record { id = id; left_origin = left; right_origin = right; list = list; content = text_unit unit }

  abbrev other : ℕ → Operation
  other unit = record { id = later_id id 1; left_origin = Some id; right_origin = right; list = None; content = text_unit unit }

  torn_pair : (units : List UnitContent) → HasHalves units →
      map (torn_at (later_id id 1)) (operations_from id left right list units) ≡ operations_from id left right list (text_unit 0xFFFD ∷ text_unit 0xFFFD ∷ [])
  torn_pair units halves = ap (λ us. map (torn_at (later_id id 1)) (operations_from id left right list us)) halves.are
      ∙ ap₂ (λ o p. o ∷ p ∷ []) (torn_at_border (later_id id 1) (one halves.first) (inl (halves.is_high, refl)))
      (torn_at_border (later_id id 1) (other halves.second) (inr (halves.is_low, refl)))

  torn_again : (x : Id) → map (torn_at x) (operations_from id left right list (text_unit 0xFFFD ∷ text_unit 0xFFFD ∷ [])) ≡ operations_from id left right list
      (text_unit 0xFFFD ∷ text_unit 0xFFFD ∷ [])
  torn_again x = ap₂ (λ o p. o ∷ p ∷ []) (torn_at_other x (one 0xFFFD) (λ border. no_half 0xFFFD refl (border_half x (one 0xFFFD) border)))
      (torn_at_other x (other 0xFFFD) (λ border. no_half 0xFFFD refl (border_half x (other 0xFFFD) border)))

-- ---- the pair, torn and split

module _ (old_runs : List Run) (old ts : List Entry) (p : ℕ) (x : Id) (front : IsFront old_runs old ts p x)
    (two : front.entry.len ≡ 2) (runs : List Run) (torn : List Entry) (tears : Tears old_runs ts runs torn p) where
  is : IsTakenOf old_runs front.entry
  is = each_in (IsTakenOf old_runs) ts front.each front.entry (entry_got ts p front.entry front.there)

  entry_is : tears.entry ≡ front.entry
  entry_is = some_is tears.entry front.entry (sym tears.there ∙ front.there)

  own : run_value tears.run ≡ own_run old_runs front.entry two_torn
  own = tears.own ∙ ap (λ (s : Entry). own_run old_runs s two_torn) entry_is

  placed : torn ≡ set ts p (with_run front.entry (length old_runs) 0)
  placed = tears.placed ∙ ap (λ (s : Entry). set ts p (with_run s (length old_runs) 0)) entry_is

  long : length (units_of_content two_torn) ≡ front.entry.len
  long = sym two

  abbrev new : Entry
  new = with_run front.entry (length old_runs) 0

  ops : operations_of_taken runs new ≡ operations_from front.entry.id front.entry.left front.entry.right (list_at (slice_get old_runs front.entry.run) front.entry.offset)
      (text_unit 0xFFFD ∷ text_unit 0xFFFD ∷ [])
  ops = own_operations old_runs front.entry is front.parts.0 runs tears.run two_torn tears.runs_are own long

  new_is : IsTakenOf runs new
  new_is = own_taken old_runs front.entry is front.parts.0 runs tears.run two_torn tears.runs_are own long torn_valid (λ cut. absurd (omega (arith, cut.inside.0)))
      (λ cut. absurd (omega (arith, cut.inside.1, two)))

  halves : HasHalves (take front.entry.len (drop front.entry.offset (units_of (slice_get old_runs front.entry.run))))
  halves = rw (two, front.parts.1.1) (two_halves (content_value front.parts.1.0.content) front.entry.offset (front.entry.offset + 1) front.parts.1.2 refl)

  same_torn : map (torn_at x) (operations_of_taken runs new) ≡ map (torn_at x) (operations_of_taken old_runs front.entry)
  same_torn =
      ap (λ os. map (torn_at x) os) ops
      ∙ torn_again front.entry.id front.entry.left front.entry.right (list_at (slice_get old_runs front.entry.run) front.entry.offset) x
      ∙ sym (torn_pair front.entry.id front.entry.left front.entry.right (list_at (slice_get old_runs front.entry.run) front.entry.offset)
      (take front.entry.len (drop front.entry.offset (units_of (slice_get old_runs front.entry.run)))) halves)
      ∙ ap (λ y. map (torn_at y) (operations_from front.entry.id front.entry.left front.entry.right (list_at (slice_get old_runs front.entry.run) front.entry.offset)
      (take front.entry.len (drop front.entry.offset (units_of (slice_get old_runs front.entry.run)))))) (sym front.behind)
      ∙ ap (λ os. map (torn_at x) os) (sym (told_operations old_runs front.entry front.parts.0))

  new_less : (o : Operation) → IsIn o (operations_of_taken runs new) → IsLess o
  new_less o i = go (subst (IsIn o) ops i)
    where
      go : IsIn o (operations_from front.entry.id front.entry.left front.entry.right (list_at (slice_get old_runs front.entry.run) front.entry.offset)
          (text_unit 0xFFFD ∷ text_unit 0xFFFD ∷ [])) →
          IsLess o
      go (inl e) = inr (ap (λ (p : Operation). p.content) e)
      go (inr (inl e)) = inr (ap (λ (p : Operation). p.content) e)
      go (inr (inr j)) = absurd j

  whole : PartsPairOf runs new 1 → ⊥
  whole (e, (run, there, cut)) =
      let same : run ≡ tears.run = some_is run tears.run (sym there ∙ last_run old_runs runs tears.run tears.runs_are) in
      let content : content_value run.content ≡ two_torn = ap (λ (r : Run). content_value r.content) same ∙ ap (λ (r : RunValue). r.content) own in
      let parted : PartsPair two_torn (0 + 1) = subst (λ c. PartsPair c (0 + 1)) content cut in
      absurd (omega (arith, parted.high.1))

  there_torn : slice_get torn p ≡ Some new
  there_torn = ap (λ us. slice_get us p) placed ∙ set_has_at front.entry new ts p front.there

  each : Each (IsTakenOf runs) torn
  each = subst (Each (IsTakenOf runs)) (sym placed) (taken_set front.entry new refl refl old_runs runs (tears.run ∷ [], tears.runs_are) ts p front.each new_is)

  order : AreInOrder torn
  order = subst AreInOrder (sym placed) (order_set front.entry new refl refl ts p front.there front.in_order)

  can : IsSplittable new 1
  can = splittable runs new 1 new_is (omega arith) (omega (arith, two))

  -- they stay at their places while they are torn, and while they are split
  places : KeepsPlaces old_runs old runs (split_in p 1 torn)
  places =
      stays_more old_runs runs runs old torn (split_in p 1 torn) (tears.run ∷ [], tears.runs_are)
      (stays_more old_runs old_runs runs old ts torn (grow_none old_runs) front.places (subst (λ us. KeepsPlaces old_runs ts runs us) (sym placed)
      (stays_set front.entry new refl refl refl old_runs runs (tears.run ∷ [], tears.runs_are) ts p front.there front.each (inr (inr (omega arith, new_less))))))
      (stays_split new 1 can runs new_is torn p there_torn)

  pub pair_splittable : IsSplittable (with_run front.entry (length old_runs) 0) 1
  pair_splittable = can

  pub pair_there : slice_get torn p ≡ Some (with_run front.entry (length old_runs) 0)
  pair_there = there_torn

  each_split : Each (IsTakenOf runs) (split_in p 1 torn)
  each_split = split_taken new 1 can runs new_is whole torn p there_torn each

  beside_split : Each (IsBeside x) (split_in p 1 torn)
  beside_split = subst (λ y. Each (IsBeside y) (split_in p 1 torn)) (sym front.behind) (split_beside new 1 can torn p there_torn order)

  operations : operations_in runs (split_in p 1 torn) ≡ map (torn_at x) (operations_in old_runs old)
  operations =
      sym (torn_none runs (split_in p 1 torn) x each_split beside_split)
      ∙ ap (λ os. map (torn_at x) os) (split_operations new 1 can runs new_is torn p there_torn ∙ ap (λ us. operations_in runs us) placed)
      ∙ map_set front.entry new refl refl old_runs runs (tears.run ∷ [], tears.runs_are) (torn_at x) same_torn ts p front.there front.each
      ∙ ap (λ os. map (torn_at x) os) front.same

  pub pair_recuts : Recuts old_runs old runs (split_in p 1 torn) (torn_at x)
  pair_recuts = record {
    operations = operations;
    each = each_split;
    in_order = split_order new 1 can torn p there_torn order;
    others = λ y e. split_others new 1 can y torn p there_torn
        (subst (Each (IsBeside y)) (sym placed) (others_set front.entry new refl refl y ts p front.there (front.others y e)));
    places = places;
  }

  pub pair_beside : Each (IsBeside x) (split_in p 1 torn)
  pair_beside = beside_split
