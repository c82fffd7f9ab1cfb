-- One entry more, at its place: what it adds, and what stays.
use Rattle.std.proofs.Common.{◌≡◌, ℕ, zero, suc, ◌+◌, ◌<◌, ◌≤◌, Bool, true, false, List, [], ◌∷◌, ◌++◌, length, take, drop, Some, ◌⊎◌, inl, inr, refl, sym, ap, ◌∙◌, subst, arith}
use Rattle.std.specs.Prelude.{slice_get, slice_index, filter, IfSome}
use Rattle.std.proofs.lemmas.List.{take-append-drop}
use Rattle.std.proofs.lemmas.List.Elements.{filter-append}
use Rattle.std.proofs.lemmas.Option.{slice_get_within}
use Rattle.yd_words.specs.Each.{Each}
use Rattle.yd_words.specs.Member.{IsIn}
use Rattle.yd_words.proofs.EachLemmas.{each_append}
use Rattle.yd_words.proofs.MemberLemmas.{in_left_part, in_right_part, in_parts}
use Rattle.yd_ids.specs.Id.{IsId, IsClock}
use Rattle.yd_units.specs.Half.{AreUnits}
use Rattle.yd_ops.specs.declared.runs.Run.{Run}
use Rattle.yd_ops.specs.Operation.{UnitContent, Operation, later_id, units_of_content, operations_from}
use Rattle.yd_ops.specs.Value.{ContentValue, string, RunValue, len_of}
use Rattle.yd_ops.specs.Valid.{CarriesList, IsValidContent}
use Rattle.yd_ops.specs.View.{run_value, content_value}
use Rattle.yd_ops.proofs.OperationLemmas.{length-units_of_content}
use Rattle.yd_entries.specs.declared.entry.Entry.{Entry}
use Rattle.yd_entries.specs.Entries.{units_of, list_at, PartsPair, operations_of_taken, operations_in, IsTakenOf, StandsBefore, AreInOrder}
use Rattle.yd_entries.specs.Taking.{left_at, list_from, half_at, entry_of, gone_entry, entry_from, IsPiece, IsRun, IsKept, Adds, operations_of_piece, IsRoom}
use Rattle.yd_entries.proofs.TakenLemmas.{operations_in-append, grow_none}
use Rattle.yd_entries.proofs.UnitLemmas.{part_from, gone_part}

-- ---- an entry between others

each_parts : {X : Type 0} (P : X → Type 0) (xs ys : List X) → Each P (xs ++ ys) → Each P xs × Each P ys
each_parts P [] ys e = (tt, e)
each_parts P (x ∷ xs) ys e = let (front, back) = each_parts P xs ys e.1 in ((e.0, front), back)

-- what holds of each entry and of one more holds of each with it
pub each_with : (P : Entry → Type 0) (ts : List Entry) (at : ℕ) (t : Entry) → Each P ts → P t → Each P (take at ts ++ t ∷ drop at ts)
each_with P ts at t each here =
    let (front, back) = each_parts P (take at ts) (drop at ts) (subst (Each P) (sym (take-append-drop at ts)) each) in
    each_append P (take at ts) (t ∷ drop at ts) front (here, back)

order_with : (ts : List Entry) (at : ℕ) (t : Entry) → AreInOrder ts → Each (λ s. StandsBefore s t) (take at ts) → Each (StandsBefore t) (drop at ts) →
    AreInOrder (take at ts ++ t ∷ drop at ts)
order_with ts zero t order before behind = (behind, order)
order_with [] (suc at) t order before behind = (behind, tt)
order_with (s ∷ ts) (suc at) t order before behind = (each_with (StandsBefore s) ts at t order.0 before.0, order_with ts at t order.1 before.1 behind)

-- one that goes into its room keeps the order
pub room_order : (ts : List Entry) (at : ℕ) (t : Entry) → AreInOrder ts → IsRoom ts at t.id t.len → AreInOrder (take at ts ++ t ∷ drop at ts)
room_order ts at t order room = order_with ts at t order room.before room.behind

-- one that fails a test changes nothing of what passes it
pub filter_with : (test : Entry → Bool) (ts : List Entry) (at : ℕ) (t : Entry) → test t ≡ false → filter test (take at ts ++ t ∷ drop at ts) ≡ filter test ts
filter_with test ts at t fails =
    filter-append test (take at ts) (t ∷ drop at ts)
    ∙ ap (λ us. filter test (take at ts) ++ us) (rw fails refl)
    ∙ sym (filter-append test (take at ts) (drop at ts))
    ∙ ap (λ us. filter test us) (take-append-drop at ts)

-- the operations with one more are those and its own
pub one_with : (runs : List Run) (ts : List Entry) (at : ℕ) (t : Entry) (o : Operation) → IsIn o (operations_in runs (take at ts ++ t ∷ drop at ts)) →
    IsIn o (operations_in runs ts) ⊎ IsIn o (operations_of_taken runs t)
one_with runs ts at t o i = elim (in_parts o front (operations_of_taken runs t ++ back) (subst (IsIn o) (operations_in-append runs (take at ts) (t ∷ drop at ts)) i)) [
  | inl j ↦ inl (whole (in_left_part o front back j))
  | inr j ↦ elim (in_parts o (operations_of_taken runs t) back j) [ inl k ↦ inr k | inr k ↦ inl (whole (in_right_part o front back k)) ]
]
  where
    front : List Operation
    front = operations_in runs (take at ts)

    back : List Operation
    back = operations_in runs (drop at ts)

    whole : IsIn o (front ++ back) → IsIn o (operations_in runs ts)
    whole j = subst (λ us. IsIn o (operations_in runs us)) (take-append-drop at ts) (subst (IsIn o) (sym (operations_in-append runs (take at ts) (drop at ts))) j)

pub one_stays : (runs : List Run) (ts : List Entry) (at : ℕ) (t : Entry) (o : Operation) → IsIn o (operations_in runs ts) →
    IsIn o (operations_in runs (take at ts ++ t ∷ drop at ts))
one_stays runs ts at t o i = subst (IsIn o) (sym (operations_in-append runs (take at ts) (t ∷ drop at ts))) (elim (in_parts o front back parts) [
  | inl j ↦ in_left_part o front (operations_of_taken runs t ++ back) j
  | inr j ↦ in_right_part o front (operations_of_taken runs t ++ back) (in_right_part o (operations_of_taken runs t) back j)
])
  where
    front : List Operation
    front = operations_in runs (take at ts)

    back : List Operation
    back = operations_in runs (drop at ts)

    parts : IsIn o (front ++ back)
    parts = subst (IsIn o) (operations_in-append runs (take at ts) (drop at ts)) (subst (λ us. IsIn o (operations_in runs us)) (sym (take-append-drop at ts)) i)

pub one_new : (runs : List Run) (ts : List Entry) (at : ℕ) (t : Entry) (o : Operation) → IsIn o (operations_of_taken runs t) →
    IsIn o (operations_in runs (take at ts ++ t ∷ drop at ts))
one_new runs ts at t o i = subst (IsIn o) (sym (operations_in-append runs (take at ts) (t ∷ drop at ts)))
    (in_right_part o (operations_in runs (take at ts)) (operations_of_taken runs t ++ operations_in runs (drop at ts)) (in_left_part o (operations_of_taken runs t) (operations_in runs (drop at ts)) i))

-- ---- units of a run

list_kept : (kept : Run) (n : ℕ) → list_at (Some kept) n ≡ list_from kept.list n
list_kept kept zero = refl
list_kept kept (suc n) = refl

left_in_range : (run : RunValue) (n : ℕ) → IsRun false run → n < len_of run.content → IfSome (left_at run.id run.left n) IsId
left_in_range run zero is lt = is.origins.0
left_in_range run (suc n) is lt = record { client = is.client; clock = omega (arith, is.end) }

list_carried : (run : RunValue) (n : ℕ) → IsRun false run → CarriesList (left_at run.id run.left n) run.right (list_from run.list n)
list_carried run zero is = is.origins.2
list_carried run (suc n) is = tt

-- units of a content from an offset on, in whole pairs
record IsWholePart (content : ContentValue) (offset count : ℕ) : Type 0 where
  within : offset + count ≤ length (units_of_content content)
  fits : IsClock (offset + count)
  valid : IsValidContent content
  begins : PartsPair content offset → ⊥
  ends : PartsPair content (offset + count) → ⊥

-- an entry of units of a run that is kept
entry_is : (runs : List Run) (run : RunValue) (n index offset count : ℕ) (kept : Run) → IsRun false run → slice_get runs index ≡ Some kept → 0 < count →
    n + count ≤ len_of run.content →
    IsWholePart (content_value kept.content) offset count → kept.id.client ≡ run.id.client → list_from kept.list offset ≡ list_from run.list n →
    IsTakenOf runs (entry_of run n index offset count)
entry_is runs run n index offset count kept is there some le part client list = record {
  run_there = slice_get_within runs index kept there;
  client = subst (λ r. IfSome r (λ (s : Run). s.id.client ≡ run.id.client)) (sym there) client;
  has_units = some;
  id = record { client = is.client; clock = omega (arith, is.end) };
  end = omega (arith, is.end);
  left = left_in_range run n is (omega arith);
  right = is.origins.1;
  told = record {
    within = subst (λ r. offset + count ≤ length (units_of r)) (sym there) part.within;
    fits = part.fits;
    list = subst (λ r. CarriesList (left_at run.id run.left n) run.right (list_at r offset)) (sym there)
        (subst (CarriesList (left_at run.id run.left n) run.right) (sym (list_kept kept offset ∙ list)) (list_carried run n is));
    content = subst (λ r. IfSome r (λ (s : Run). IsValidContent (content_value s.content))) (sym there) part.valid;
    begins_whole = subst (λ r. IfSome r (λ (s : Run). PartsPair (content_value s.content) offset → ⊥)) (sym there) part.begins;
    ends_whole = subst (λ r. IfSome r (λ (s : Run). PartsPair (content_value s.content) (offset + count) → ⊥)) (sym there) part.ends;
  };
}

entry_operations : (runs : List Run) (run : RunValue) (n index offset count : ℕ) (kept : Run) (units : List UnitContent) → slice_get runs index ≡ Some kept →
    take count (drop offset (units_of_content (content_value kept.content))) ≡ units → list_from kept.list offset ≡ list_from run.list n →
    operations_of_taken runs (entry_of run n index offset count) ≡ operations_from (later_id run.id n) (left_at run.id run.left n) run.right (list_from run.list n) units
entry_operations runs run n index offset count kept units there same list =
    ap (λ r. operations_from (later_id run.id n) (left_at run.id run.left n) run.right (list_at r offset) (take count (drop offset (units_of r)))) there
    ∙ ap (λ us. operations_from (later_id run.id n) (left_at run.id run.left n) run.right (list_at (Some kept) offset) us) same
    ∙ ap (λ l. operations_from (later_id run.id n) (left_at run.id run.left n) run.right l units) (list_kept kept offset ∙ list)

-- an entry of units that are gone
gone_is : (runs : List Run) (run : RunValue) (n index count : ℕ) (kept : Run) → IsRun true run → slice_get runs index ≡ Some kept → 0 < count → n + count ≤ len_of run.content →
    kept.id.client ≡ run.id.client → IsTakenOf runs (gone_entry (later_id run.id n) index count)
gone_is runs run n index count kept is there some le client = record {
  run_there = slice_get_within runs index kept there;
  client = subst (λ r. IfSome r (λ (s : Run). s.id.client ≡ run.id.client)) (sym there) client;
  has_units = some;
  id = record { client = is.client; clock = omega (arith, is.end) };
  end = omega (arith, is.end);
  left = tt;
  right = tt;
  told = record { left = refl; right = refl };
}

-- ---- one half

half_valid : IsValidContent (string (0xFFFD ∷ []))
half_valid = (units, record { highs = λ i high. absurd (none i high.0 high.1); lows = λ i low. absurd (none_low i low.0 low.1) })
  where
    units : AreUnits (0xFFFD ∷ [])
    units zero = omega arith
    units (suc i) = omega arith

    none : (i : ℕ) → 0xD800 ≤ slice_index (0xFFFD ∷ []) i → slice_index (0xFFFD ∷ []) i ≤ 0xDBFF → ⊥
    none zero low high = absurd (omega (arith, high))
    none (suc i) low high = absurd (omega (arith, low))

    none_low : (i : ℕ) → 0xDC00 ≤ slice_index (0xFFFD ∷ []) i → slice_index (0xFFFD ∷ []) i ≤ 0xDFFF → ⊥
    none_low zero low high = absurd (omega (arith, high))
    none_low (suc i) low high = absurd (omega (arith, low))

half_whole : (content : ContentValue) → content ≡ string (0xFFFD ∷ []) → IsWholePart content 0 1
half_whole content e = subst (λ c. IsWholePart c 0 1) (sym e) (record {
  within = omega arith;
  fits = omega arith;
  valid = half_valid;
  begins = λ cut. absurd (omega (arith, cut.inside.0));
  ends = λ cut. absurd (omega (arith, cut.inside.1));
})

-- ---- lemmas for callers: what a piece adds

piece_part : (content kept : ContentValue) (from to count : ℕ) → kept ≡ content → IsValidContent content → IsClock (len_of content) → from + count ≤ len_of content →
    IsPiece content from to count false →
    IsWholePart kept from count
piece_part content kept from to count same valid fits le piece = subst (λ c. IsWholePart c from count) (sym same) (record {
  within = omega (arith, length-units_of_content content);
  fits = omega (arith, fits, le);
  valid = valid;
  begins = (piece.whole refl).0;
  ends = λ cut. (piece.whole refl).1 (piece.rest cut) (subst (PartsPair content) (piece.rest cut) cut);
})

module _ (runs : List Run) (ts : List Entry) (run : RunValue) (at from : ℕ) where
  pub whole_adds : (is_gone : Bool) → IsRun is_gone run → (index count to : ℕ) (new : List Entry) → IsKept runs index run → IsPiece run.content from to count false →
      from + count ≤ len_of run.content →
      new ≡ take at ts ++ entry_from is_gone run from index count ∷ drop at ts → Adds runs ts runs new at (later_id run.id from) count (operations_of_piece is_gone run from count false)
  whole_adds true is index count to new kept piece le placed = record {
    grows = grow_none runs;
    entry = gone_entry (later_id run.id from) index count;
    placed = placed;
    of_run = gone_is runs run from index count kept.kept is kept.there piece.bound.0 le (ap (λ (r : RunValue). r.id.client) kept.same);
    first = refl;
    as_many = refl;
    operations = sym (gone_part from count run.id (len_of run.content) le);
  }
  whole_adds false is index count to new kept piece le placed =
      let content : content_value kept.kept.content ≡ run.content = ap (λ (r : RunValue). r.content) kept.same in
      let list : list_from kept.kept.list from ≡ list_from run.list from = ap (λ (r : RunValue). list_from r.list from) kept.same in
      record {
        grows = grow_none runs;
        entry = entry_of run from index from count;
        placed = placed;
        of_run = entry_is runs run from index from count kept.kept is kept.there piece.bound.0 le
            (piece_part run.content (content_value kept.kept.content) from to count content is.content (omega (arith, is.end)) le piece) (ap (λ (r : RunValue). r.id.client) kept.same) list;
        first = refl;
        as_many = refl;
        operations = entry_operations runs run from index from count kept.kept (take count (drop from (units_of_content run.content))) kept.there
            (ap (λ c. take count (drop from (units_of_content c))) content) list
            ∙ sym (part_from from count run.id run.left run.right run.list (units_of_content run.content));
      }

  get_last : (more : Run) → slice_get (runs ++ more ∷ []) (length runs) ≡ Some more
  get_last more = go runs
    where
      go : (rs : List Run) → slice_get (rs ++ more ∷ []) (length rs) ≡ Some more
      go [] = refl
      go (r ∷ rs) = go rs

  pub half_adds : (is_gone : Bool) → IsRun is_gone run → (to count : ℕ) (half : Run) (all : List Run) (new : List Entry) → IsPiece run.content from to count true →
      from < len_of run.content → all ≡ runs ++ half ∷ [] → run_value half ≡ half_at run from →
      new ≡ take at ts ++ entry_of run from (length runs) 0 1 ∷ drop at ts → Adds runs ts all new at (later_id run.id from) 1 (operations_of_piece is_gone run from 1 true)
  half_adds true is to count half all new piece lt grown same placed = absurd (elim (subst (λ c. PartsPair c from ⊎ (PartsPair c to × (from + 1 ≡ to))) is.origins (piece.torn refl).1) [ inl i ↦ i | inr i ↦ i.0 ])
  half_adds false is to count half all new piece lt grown same placed =
      let content : content_value half.content ≡ (half_at run from).content = ap (λ (r : RunValue). r.content) same in
      let list : list_from half.list 0 ≡ list_from run.list from = ap (λ (r : RunValue). r.list) same in
      let there : slice_get all (length runs) ≡ Some half = ap (λ rs. slice_get rs (length runs)) grown ∙ get_last half in
      record {
        grows = (half ∷ [], grown);
        entry = entry_of run from (length runs) 0 1;
        placed = placed;
        of_run = entry_is all run from (length runs) 0 1 half is there (omega arith) (omega arith)
            (half_whole (content_value half.content) content) (ap (λ (r : RunValue). r.id.client) same) list;
        first = refl;
        as_many = refl;
        operations = entry_operations all run from (length runs) 0 1 half (units_of_content (half_at run from).content) there
            (ap (λ c. take 1 (units_of_content c)) content) list;
      }
