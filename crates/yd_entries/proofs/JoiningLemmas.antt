-- An entry that is joined to the one before it: all tell the same, in the same order, with whole pairs.
use Rattle.std.proofs.Common.{◌≡◌, ℕ, zero, suc, ◌+◌, ◌-◌, ◌<◌, Bool, true, false, List, [], ◌∷◌, ◌++◌, length, take, drop, set, Option, Some, None, inl, inr, refl, sym, ap, ap₂, ◌∙◌, subst, arith, append_assoc, length-append}
use Rattle.std.specs.Prelude.{slice_get, filter, IfSome, if◌then◌else◌}
use Rattle.std.proofs.lemmas.List.{map-append, length-take-le}
use Rattle.yd_words.specs.Each.{Each}
use Rattle.yd_words.specs.Member.{IsIn}
use Rattle.yd_words.proofs.EachLemmas.{each_weaker, each_append}
use Rattle.yd_words.proofs.FilterLemmas.{filter-all}
use Rattle.yd_words.proofs.MemberLemmas.{each_in, in_each, in_left_part, in_right_part, in_parts}
use Rattle.yd_words.proofs.OptionLemmas.{some_is}
use Rattle.yd_ids.specs.declared.id.Id.{Id}
use Rattle.yd_ops.specs.declared.lists.List.{List as DocList}
use Rattle.yd_ops.specs.declared.runs.Run.{Run}
use Rattle.yd_ops.specs.Operation.{text_unit, later_id, units_of_content, operations_from}
use Rattle.yd_ops.specs.ReceivedLaw.{ArePaired}
use Rattle.yd_ops.specs.Received.{has_operation}
use Rattle.yd_ops.specs.Value.{string}
use Rattle.yd_ops.specs.Valid.{CarriesList, IsValidContent}
use Rattle.yd_ops.specs.View.{content_value}
use Rattle.yd_entries.specs.declared.entry.Entry.{Entry}
use Rattle.yd_entries.specs.declared.place.Place.{Place}
use Rattle.yd_entries.specs.declared.place.Place.TheVariants.{Waits, Lost, In}
use Rattle.yd_entries.specs.Entries.{units_of, list_at, carried_of, PartsPair, operations_told, operations_of_taken, operations_in, is_held, is_held_at, is_listed, is_listed_at, IsTold, TellsRight, IsTakenOf, StandsBefore, AreInOrder, AreTaken}
use Rattle.yd_entries.specs.Joining.{IsOfOther, IsSingle, GoesOn, AreAtEnds, MovesText, joined_entry, Joins, TellSame}
use Rattle.yd_entries.specs.Splitting.{IsSplittable, back_told, back_of}
use Rattle.yd_entries.proofs.CutLemmas.{cut_inside}
use Rattle.yd_entries.proofs.LongerLemmas.{IsLonger, run_longer, runs_fewer, run_stays, moves_longer, longer_operations, longer_carried, longer_taken}
use Rattle.yd_entries.proofs.OwnLemmas.{last_run, told_of, told_operations}
use Rattle.yd_entries.proofs.PartLemmas.{list_none, both_operations}
use Rattle.yd_entries.proofs.TakenLemmas.{has_covered}

-- ---- two entries in a row that become one

module _ (front back joined : Entry) where
  pub each_joined : (P : Entry → Type 0) → (P front → P joined) → (before behind : List Entry) → Each P (before ++ front ∷ back ∷ behind) → Each P (before ++ joined ∷ behind)
  each_joined P to [] behind each = (to each.0, each.1.1)
  each_joined P to (t ∷ ts) behind each = (each.0, each_joined P to ts behind each.1)

  pub order_joined : ((t : Entry) → StandsBefore t front → StandsBefore t joined) → ((t : Entry) → StandsBefore back t → StandsBefore joined t) →
      (before behind : List Entry) → AreInOrder (before ++ front ∷ back ∷ behind) → AreInOrder (before ++ joined ∷ behind)
  order_joined above below [] behind order = (each_weaker (StandsBefore back) (StandsBefore joined) below behind order.1.0, order.1.1)
  order_joined above below (t ∷ ts) behind order = (each_joined (StandsBefore t) (above t) ts behind order.0, order_joined above below ts behind order.1)

  module _ (old new : List Run) (both : operations_of_taken new joined ≡ operations_of_taken old front ++ operations_of_taken old back) where
    pub operations_joined : (test : Entry → Bool) → test front ≡ true → test back ≡ true → test joined ≡ true → (before behind : List Entry) →
        Each (λ (t : Entry). operations_of_taken new t ≡ operations_of_taken old t) (before ++ behind) →
        operations_in new (filter test (before ++ joined ∷ behind)) ≡ operations_in old (filter test (before ++ front ∷ back ∷ behind))
    operations_joined test a b c [] behind same = rw (a, b, c) (
        ap₂ (λ os ps. os ++ ps) both (rest behind same) ∙ append_assoc (operations_of_taken old front) (operations_of_taken old back) (operations_in old (filter test behind)))
      where
        rest : (ts : List Entry) → Each (λ (t : Entry). operations_of_taken new t ≡ operations_of_taken old t) ts → operations_in new (filter test ts) ≡ operations_in old (filter test ts)
        rest [] same = refl
        rest (t ∷ ts) same = go (test t) (rest ts same.1)
          where
            go : (kept : Bool) → operations_in new (filter test ts) ≡ operations_in old (filter test ts) →
                operations_in new (if kept then t ∷ filter test ts else filter test ts) ≡ operations_in old (if kept then t ∷ filter test ts else filter test ts)
            go true e = ap₂ (λ os ps. os ++ ps) same.0 e
            go false e = e
    operations_joined test a b c (t ∷ ts) behind same = go (test t) (operations_joined test a b c ts behind same.1)
      where
        go : (kept : Bool) → operations_in new (filter test (ts ++ joined ∷ behind)) ≡ operations_in old (filter test (ts ++ front ∷ back ∷ behind)) →
            operations_in new (if kept then t ∷ filter test (ts ++ joined ∷ behind) else filter test (ts ++ joined ∷ behind))
            ≡ operations_in old (if kept then t ∷ filter test (ts ++ front ∷ back ∷ behind) else filter test (ts ++ front ∷ back ∷ behind))
        go true e = ap₂ (λ os ps. os ++ ps) same.0 e
        go false e = e

each_between : (P : Entry → Type 0) (before behind : List Entry) (t : Entry) → Each P (before ++ behind) → P t → Each P (before ++ t ∷ behind)
each_between P [] behind t each is = (is, each)
each_between P (s ∷ ss) behind t each is = (each.0, each_between P ss behind t each.1 is)

-- ---- both as one entry

module _ (old new : List Run) (front back : Entry) (is : IsTakenOf old front) (also : IsTakenOf old back) (goes : GoesOn front back) (ends : AreAtEnds old front back)
    (moves : MovesText old new front.run) (other : suc front.run < length old) where
  abbrev joined : Entry
  joined = joined_entry front back

  there : slice_get old front.run ≡ Some moves.run
  there = run_stays old new front.run moves front.run other ∙ moves.there

  last_there : slice_get old back.run ≡ Some moves.last
  last_there = ap (λ i. slice_get old i) (omega (arith, ends.last, ap length moves.was, length-append moves.others (moves.last ∷ []))) ∙ last_run moves.others old moves.last moves.was

  told : IsTold old front
  told = told_of old front is ends.front_told

  also_told : IsTold old back
  also_told = told_of old back also ends.back_told

  pub run_is_longer : IsLonger (Some moves.run) (Some moves.longer)
  run_is_longer = run_longer moves.run moves.last moves.longer moves.appends
      (subst (λ z. IfSome z (λ (run : Run). IsValidContent (content_value run.content))) there told.content)
      (subst (λ z. IfSome z (λ (run : Run). IsValidContent (content_value run.content))) last_there also_told.content)

  front_longer : IsLonger (slice_get old front.run) (slice_get new front.run)
  front_longer = moves_longer old new front.run moves run_is_longer front.run other

  -- ---- its units

  abbrev units : List ℕ
  units = moves.appends.units

  abbrev more : List ℕ
  more = moves.appends.more

  longer_there : slice_get new front.run ≡ Some moves.longer
  longer_there = ap (λ runs. slice_get runs front.run) moves.moved ∙ set_there moves.others front.run moves.run moves.longer moves.there
    where
      set_there : (runs : List Run) (i : ℕ) (run longer : Run) → slice_get runs i ≡ Some run → slice_get (set runs i longer) i ≡ Some longer
      set_there [] i run longer e = absurd cc
      set_there (r ∷ rs) zero run longer e = refl
      set_there (r ∷ rs) (suc i) run longer e = set_there rs i run longer e

  longer_content : content_value moves.longer.content ≡ string (units ++ more)
  longer_content = ap (λ (r : Run). content_value r.content) moves.appends.appended

  longer_units : units_of (slice_get new front.run) ≡ units_of (slice_get old front.run) ++ units_of (slice_get old back.run)
  longer_units = ap units_of longer_there ∙ ap units_of_content longer_content ∙ map-append text_unit units more
      ∙ ap₂ (λ us vs. us ++ vs) (sym (ap units_of there ∙ ap (λ c. units_of_content (content_value c)) moves.appends.text))
      (sym (ap units_of last_there ∙ ap (λ c. units_of_content (content_value c)) moves.appends.other_text))

  size : length (units_of (slice_get new front.run)) ≡ front.offset + (front.len + back.len)
  size = ap length longer_units ∙ omega (arith, length-append (units_of (slice_get old front.run)) (units_of (slice_get old back.run)), ends.front_ends, ends.back_ends, ends.back_begins)

  -- ---- it is taken of the run

  pub joined_taken : IsTakenOf new joined
  joined_taken = record {
    run_there = omega (arith, other, runs_fewer old new front.run moves);
    client = front_longer.client front.id.client is.client;
    has_units = omega (arith, is.has_units);
    id = is.id;
    end = omega (arith, goes.clock, also.end);
    left = is.left;
    right = is.right;
    told = subst (λ b. TellsRight b new joined) (sym ends.front_told) (record {
      within = omega (arith, size);
      fits = omega (arith, ends.fits, goes.clock, also.end);
      list = subst (CarriesList front.left front.right) (sym (front_longer.list front.offset)) told.list;
      content = front_longer.content told.content;
      begins_whole = front_longer.whole front.offset (omega (arith, told.within)) told.begins_whole;
      ends_whole = subst (λ z. IfSome z (λ (run : Run). PartsPair (content_value run.content) (front.offset + (front.len + back.len)) → ⊥)) (sym longer_there)
          (λ cut. absurd (omega (arith, (cut_inside (content_value moves.longer.content) (front.offset + (front.len + back.len)) cut).1, size, ap (λ z. length (units_of z)) longer_there)));
    });
  }

  -- ---- it tells what both did

  can : IsSplittable joined front.len
  can = record {
    some = is.has_units;
    fewer = omega (arith, also.has_units);
    end = joined_taken.end;
    fits = λ e. (told_of new joined joined_taken ends.front_told).fits;
  }

  drop_first : {X : Type 0} (n : ℕ) (xs ys : List X) → n ≡ length xs → drop n (xs ++ ys) ≡ ys
  drop_first n [] ys e = ap (λ k. drop k ys) e
  drop_first zero (x ∷ xs) ys e = absurd (omega (arith, e))
  drop_first (suc n) (x ∷ xs) ys e = drop_first n xs ys (omega (arith, e))

  list_absent : (list : Option DocList) → CarriesList back.left back.right list → list ≡ None
  list_absent list carries = go list (subst (λ left. CarriesList left back.right list) goes.left carries)
    where
      go : (z : Option DocList) → CarriesList (Some (later_id front.id (front.len - 1))) back.right z → z ≡ None
      go None c = refl
      go (Some l) c = absurd c

  back_units : take (front.len + back.len - front.len) (drop (front.offset + front.len) (units_of (slice_get new front.run)))
      ≡ take back.len (drop back.offset (units_of (slice_get old back.run)))
  back_units = ap₂ (λ n us. take n us) (omega arith)
      (ap (λ us. drop (front.offset + front.len) us) longer_units ∙ drop_first (front.offset + front.len) (units_of (slice_get old front.run)) (units_of (slice_get old back.run)) ends.front_ends
      ∙ ap (λ n. drop n (units_of (slice_get old back.run))) (sym ends.back_begins))

  back_list : list_at (slice_get new front.run) (front.offset + front.len) ≡ list_at (slice_get old back.run) back.offset
  back_list = list_none (slice_get new front.run) (front.offset + front.len) (omega (arith, is.has_units)) ∙ sym (list_absent (list_at (slice_get old back.run) back.offset) also_told.list)

  back_id : later_id front.id front.len ≡ back.id
  back_id = go (later_id front.id front.len) back.id (sym goes.client) (sym goes.clock)
    where
      go : (x y : Id) → x.client ≡ y.client → x.clock ≡ y.clock → x ≡ y
      go x y e f = λ i. record { client = e i; clock = f i }

  back_same : operations_of_taken new (back_of joined front.len) ≡ operations_of_taken old back
  back_same =
      ap (λ b. operations_of_taken new (back_told b joined front.len)) ends.front_told
      ∙ ap (λ b. operations_told b new (back_told false joined front.len)) ends.front_told
      ∙ ap₂ (λ list us. operations_from (later_id front.id front.len) (Some (later_id front.id (front.len - 1))) front.right list us) back_list back_units
      ∙ ap₂ (λ id left. operations_from id left front.right (list_at (slice_get old back.run) back.offset) (take back.len (drop back.offset (units_of (slice_get old back.run)))))
      back_id (sym goes.left)
      ∙ ap (λ right. operations_from back.id back.left right (list_at (slice_get old back.run) back.offset) (take back.len (drop back.offset (units_of (slice_get old back.run)))))
      (sym goes.right)
      ∙ sym (told_operations old back ends.back_told)

  pub joined_operations : operations_of_taken new joined ≡ operations_of_taken old front ++ operations_of_taken old back
  joined_operations = sym (both_operations new joined front.len joined_taken can)
      ∙ ap₂ (λ os ps. os ++ ps) (longer_operations old new front is front_longer) back_same

  pub joined_carried : carried_of new joined ≡ carried_of old front
  joined_carried = longer_carried old new front is front_longer

  -- ---- where it stands

  pub joined_behind : (t : Entry) → StandsBefore back t → StandsBefore joined t
  joined_behind t (inl lt) = inl (subst (λ c. t.id.client.0 < c.0) goes.client lt)
  joined_behind t (inr (same, le)) = inr (sym goes.client ∙ same, omega (arith, le, goes.clock))

  pub joined_listed : is_listed back ≡ true
  joined_listed = subst (λ p. is_listed_at p ≡ true) (sym goes.place) goes.listed

-- ---- in a list

module _ (old new : List Run) (before behind : List Entry) (front back : Entry) (taken : AreTaken old (before ++ front ∷ back ∷ behind))
    (others : Each (IsOfOther old) (before ++ behind)) (other : IsOfOther old front) (goes : GoesOn front back) (ends : AreAtEnds old front back)
    (moves : MovesText old new front.run) where
  abbrev olds : List Entry
  olds = before ++ front ∷ back ∷ behind

  abbrev news : List Entry
  news = before ++ joined_entry front back ∷ behind

  front_in : IsIn front olds
  front_in = in_right_part front before (front ∷ back ∷ behind) (inl refl)

  is : IsTakenOf old front
  is = each_in (IsTakenOf old) olds taken.each front front_in

  also : IsTakenOf old back
  also = each_in (IsTakenOf old) olds taken.each back (in_right_part back before (front ∷ back ∷ behind) (inr (inl refl)))

  longer : IsLonger (Some moves.run) (Some moves.longer)
  longer = run_is_longer old new front back is also goes ends moves other

  at_other : (t : Entry) → IsOfOther old t → IsLonger (slice_get old t.run) (slice_get new t.run)
  at_other t o = moves_longer old new front.run moves longer t.run o

  other_in : (t : Entry) → IsIn t (before ++ behind) → IsIn t olds
  other_in t i = elim (in_parts t before behind i) [
    | inl j ↦ in_left_part t before (front ∷ back ∷ behind) j
    | inr j ↦ in_right_part t before (front ∷ back ∷ behind) (inr (inr j))
  ]

  other_taken : (t : Entry) → IsIn t (before ++ behind) → IsTakenOf old t
  other_taken t i = each_in (IsTakenOf old) olds taken.each t (other_in t i)

  other_is : (t : Entry) → IsIn t (before ++ behind) → IsOfOther old t
  other_is t i = each_in (IsOfOther old) (before ++ behind) others t i

  same : Each (λ (t : Entry). operations_of_taken new t ≡ operations_of_taken old t) (before ++ behind)
  same = in_each (λ (t : Entry). operations_of_taken new t ≡ operations_of_taken old t) (before ++ behind)
      (λ t i. longer_operations old new t (other_taken t i) (at_other t (other_is t i)))

  each : Each (IsTakenOf new) news
  each = each_between (IsTakenOf new) before behind (joined_entry front back)
      (in_each (IsTakenOf new) (before ++ behind)
      (λ t i. longer_taken old new t (other_taken t i) (at_other t (other_is t i)) (omega (arith, other_is t i, runs_fewer old new front.run moves))))
      (joined_taken old new front back is also goes ends moves other)

  all_of : (test : Entry → Bool) → test front ≡ true → test back ≡ true → test (joined_entry front back) ≡ true →
      operations_in new (filter test news) ≡ operations_in old (filter test olds)
  all_of test a b c = operations_joined front back (joined_entry front back) old new (joined_operations old new front back is also goes ends moves other) test a b c before behind same

  operations : operations_in new news ≡ operations_in old olds
  operations = ap (λ ts. operations_in new ts) (sym (filter-all (λ (t : Entry). true) news (λ t i. refl))) ∙ all_of (λ t. true) refl refl refl
      ∙ ap (λ ts. operations_in old ts) (filter-all (λ (t : Entry). true) olds (λ t i. refl))

  held_too : (t : Entry) → is_listed t ≡ true → is_held t ≡ true
  held_too t e = go t.place e
    where
      go : (place : Place) → is_listed_at place ≡ true → is_held_at place ≡ true
      go Waits e = e
      go Lost e = refl
      go (In n) e = refl

  back_listed : is_listed back ≡ true
  back_listed = joined_listed old new front back is also goes ends moves other

  pub joined_same : TellSame old olds new news
  joined_same = record {
    operations = operations;
    held = all_of is_held (held_too front goes.listed) (held_too back back_listed) (held_too front goes.listed);
    standing = all_of is_listed goes.listed back_listed goes.listed;
    covered = λ x. sym (has_covered new news x each) ∙ ap (λ os. has_operation os x) operations ∙ has_covered old olds x taken.each;
    kept = record {
      each = each;
      in_order = order_joined front back (joined_entry front back) (λ t b. b) (joined_behind old new front back is also goes ends moves other) before behind taken.in_order;
      paired = subst ArePaired (sym operations) taken.paired;
    };
  }

  pub joined_carry : Each (λ (t : Entry). carried_of new t ≡ carried_of old t) (before ++ front ∷ behind)
  joined_carry = each_between (λ (t : Entry). carried_of new t ≡ carried_of old t) before behind front
      (in_each (λ (t : Entry). carried_of new t ≡ carried_of old t) (before ++ behind) (λ t i. longer_carried old new t (other_taken t i) (at_other t (other_is t i))))
      (joined_carried old new front back is also goes ends moves other)

-- ---- by their numbers

two_parts : (ts : List Entry) (n : ℕ) (front back : Entry) → slice_get ts n ≡ Some front → slice_get ts (suc n) ≡ Some back →
    ts ≡ take n ts ++ front ∷ back ∷ drop (suc (suc n)) ts
two_parts [] n front back e f = absurd cc
two_parts (t ∷ []) zero front back e f = absurd cc
two_parts (t ∷ u ∷ us) zero front back e f = ap₂ (λ r s. r ∷ s ∷ us) (some_is t front e) (some_is u back f)
two_parts (t ∷ ts) (suc n) front back e f = ap (λ rs. t ∷ rs) (two_parts ts n front back e f)

one_less : (ts : List Entry) (n : ℕ) (front back joined : Entry) → slice_get ts n ≡ Some front → slice_get ts (suc n) ≡ Some back →
    take (suc n) (set ts n joined) ++ drop (suc (suc n)) (set ts n joined) ≡ take n ts ++ joined ∷ drop (suc (suc n)) ts
one_less [] n front back joined e f = absurd cc
one_less (t ∷ ts) zero front back joined e f = refl
one_less (t ∷ ts) (suc n) front back joined e f = ap (λ rs. t ∷ rs) (one_less ts n front back joined e f)

each_last : (P : Entry → Type 0) (ts : List Entry) (n : ℕ) (front : Entry) → slice_get ts n ≡ Some front → Each P (take (suc n) ts) → Each P (take n ts) × P front
each_last P [] n front e each = absurd cc
each_last P (t ∷ ts) zero front e each = (tt, subst P (some_is t front e) each.0)
each_last P (t ∷ ts) (suc n) front e each = let (rest, last) = each_last P ts n front e each.1 in ((each.0, rest), last)

module _ (old new : List Run) (ts rest : List Entry) (at : ℕ) (front back : Entry) (taken : AreTaken old ts) (single : IsSingle old ts at) (some : 0 < at)
    (there : slice_get ts (at - 1) ≡ Some front) (next : slice_get ts at ≡ Some back) (goes : GoesOn front back) (ends : AreAtEnds old front back)
    (moves : MovesText old new front.run)
    (left : rest ≡ take at (set ts (at - 1) (joined_entry front back)) ++ drop (at + 1) (set ts (at - 1) (joined_entry front back))) where
  abbrev n : ℕ
  n = at - 1

  place : at ≡ suc n
  place = omega (arith, some)

  last : slice_get ts (suc n) ≡ Some back
  last = ap (λ i. slice_get ts i) (sym place) ∙ next

  behind : at + 1 ≡ suc (suc n)
  behind = omega (arith, some)

  was : ts ≡ take n ts ++ front ∷ back ∷ drop (suc (suc n)) ts
  was = two_parts ts n front back there last

  joined_is : rest ≡ take n ts ++ joined_entry front back ∷ drop (suc (suc n)) ts
  joined_is = left
      ∙ ap₂ (λ i j. take i (set ts n (joined_entry front back)) ++ drop j (set ts n (joined_entry front back))) place behind
      ∙ one_less ts n front back (joined_entry front back) there last

  first : Each (IsOfOther old) (take n ts) × IsOfOther old front
  first = each_last (IsOfOther old) ts n front there (subst (λ i. Each (IsOfOther old) (take i ts)) place single.before)

  others : Each (IsOfOther old) (take n ts ++ drop (suc (suc n)) ts)
  others = each_append (IsOfOther old) (take n ts) (drop (suc (suc n)) ts) first.0 (subst (λ i. Each (IsOfOther old) (drop i ts)) behind single.behind)

  taken_was : AreTaken old (take n ts ++ front ∷ back ∷ drop (suc (suc n)) ts)
  taken_was = subst (AreTaken old) was taken

  pub joins_same : TellSame old ts new rest
  joins_same = subst (λ us. TellSame old us new rest) (sym was) (subst (TellSame old (take n ts ++ front ∷ back ∷ drop (suc (suc n)) ts) new) (sym joined_is)
      (joined_same old new (take n ts) (drop (suc (suc n)) ts) front back taken_was others first.1 goes ends moves))

  pub joins_one : Joins old ts new rest at
  joins_one = record {
    before = take n ts;
    front = front;
    back = back;
    behind = drop (suc (suc n)) ts;
    place = place ∙ ap suc (sym (length-take-le n ts (omega (arith, some, single.inside))));
    was = was;
    joined = joined_is;
    goes_on = goes;
    carried = joined_carry old new (take n ts) (drop (suc (suc n)) ts) front back taken_was others first.1 goes ends moves;
  }
