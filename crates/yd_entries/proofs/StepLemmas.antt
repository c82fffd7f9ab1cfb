-- The walk over the units of a run: a piece is taken, and how the walk begins and ends.
use Rattle.std.proofs.Common.{◌≡◌, ◌↔◌, ℕ, zero, suc, ◌+◌, ◌-◌, ◌<◌, ◌≤◌, Bool, true, false, List, length, take, drop, ◌⊎◌, inl, inr, refl, sym, ap, ◌∙◌, subst, arith}
use Rattle.std.proofs.lemmas.Bool.{true≢false, false_from_ne_true}
use Rattle.std.proofs.lemmas.List.{take_all}
use Rattle.std.proofs.lemmas.Option.{slice_get_within}
use Rattle.yd_words.specs.Each.{Each}
use Rattle.yd_words.specs.Member.{IsIn}
use Rattle.yd_words.proofs.EachLemmas.{each_weaker}
use Rattle.yd_ids.specs.declared.id.Id.{Id}
use Rattle.yd_ops.specs.declared.runs.Run.{Run}
use Rattle.yd_ops.specs.Operation.{Operation, later_id, gone_operation}
use Rattle.yd_ops.specs.Value.{ContentValue, deleted, RunValue, len_of}
use Rattle.yd_ops.proofs.OperationLemmas.{length-units_of_content, length-operations_of_run, later_none, later_later}
use Rattle.yd_ops.specs.Pairs.{as_torn}
use Rattle.yd_ops.specs.Received.{has_operation}
use Rattle.yd_ops.proofs.PartnerLemmas.{IsHalf}
use Rattle.yd_ops.proofs.TakingLemmas.{pair_is, is_pair}
use Rattle.yd_ops.proofs.AddingLemmas.{is_torn, torn_decides, other_torn, IsAddedOf}
use Rattle.yd_entries.specs.declared.entry.Entry.{Entry}
use Rattle.yd_entries.specs.Entries.{IsTakenOf, AreInOrder, AreTaken, operations_in, PartsPair, GrowBy}
use Rattle.yd_entries.specs.Taking.{is_covered, AreCovered, BeginsBehind, IsRoom, IsPiece, IsRun, IsKept, operations_from_run, operations_of_piece, IsPassed, IsTakenNext, IsAddedAs, IsAdded, AddsGroup}
use Rattle.yd_entries.proofs.AddingLemmas.{each_with, room_order, one_with, one_stays, one_new}
use Rattle.yd_entries.proofs.CutLemmas.{cut_inside}
use Rattle.yd_entries.proofs.EntryLemmas.{room_is_free}
use Rattle.yd_entries.proofs.PieceLemmas.{part_id, whole_not_torn, half_is_torn, piece_taken}
use Rattle.yd_entries.proofs.TakenLemmas.{grown_get, grown_each, grown_in, grow_none, grow_more}
use Rattle.yd_entries.proofs.UnitLemmas.{later_same, length-gone_from, from_gone, one_of_take, one_of_drop}
use Rattle.yd_entries.proofs.WalkLemmas.{IsWalked, covered_known, free_unknown, front_more, part_more, parts_of, walk_passed}

deleted_whole : (content : ContentValue) (count m n k : ℕ) → content ≡ deleted count → PartsPair content m ⊎ (PartsPair content n × (k ≡ n)) → ⊥
deleted_whole content count m n k e parts = elim (subst (λ c. PartsPair c m ⊎ (PartsPair c n × (k ≡ n))) e parts) [ inl i ↦ i | inr i ↦ i.0 ]

pub gone_no_half : (id : Id) → IsHalf (gone_operation id).content → ⊥
gone_no_half id half = elim half [ inl i ↦ i | inr i ↦ i ]

pub length-operations : (is_gone : Bool) (run : RunValue) → length (operations_from_run is_gone run) ≡ len_of run.content
length-operations true run = length-gone_from run.id (len_of run.content)
length-operations false run = length-operations_of_run run

room_less : (taken : List Entry) (at : ℕ) (id : Id) (count new : ℕ) → count ≤ new → IsRoom taken at id new → IsRoom taken at id count
room_less taken at id count new le room = record {
  bound = room.bound;
  before = room.before;
  behind = each_weaker (BeginsBehind id new) (BeginsBehind id count) (λ t b. elim b [ inl less ↦ inl less | inr (one, more) ↦ inr (one, omega arith) ]) (drop at taken) room.behind;
}

-- ---- a piece is taken

module _ (is_gone : Bool) (run : RunValue) (old_runs : List Run) (old_taken : List Entry) (runs : List Run) (taken : List Entry) (from count : ℕ) (is : IsRun is_gone run)
    (walked : IsWalked is_gone run old_runs old_taken runs taken from) (lt : from < len_of run.content) (le : from + count ≤ len_of run.content)
    (new_runs : List Run) (new_taken : List Entry) (next : IsTakenNext is_gone runs taken new_runs new_taken run from count) where
  -- the operations that were there before the run, and those of the run
  abbrev old : List Operation
  old = operations_in old_runs old_taken

  abbrev whole : List Operation
  whole = operations_from_run is_gone run

  free : (i : ℕ) → i < next.new → has_operation old (later_id run.id (from + i)) ≡ false
  free i less = free_unknown is_gone run old_runs old_taken runs taken from walked (later_id run.id (from + i))
      (subst (λ x. is_covered taken x ≡ false) (later_later run.id from i) (room_is_free taken next.at (later_id run.id from) next.new i next.gap.room less))

  -- the id behind those that are new was there before the run
  behind : from + next.new < len_of run.content → has_operation old (later_id run.id (from + next.new)) ≡ true
  behind less = covered_known is_gone run old_runs old_taken runs taken from walked (from + next.new) (omega arith)
      (subst (λ x. is_covered taken x ≡ true) (later_later run.id from next.new) (next.gap.ends (omega arith)))

  not_gone : (gone : Bool) → IsRun gone run → (torn : Bool) → IsPiece run.content from (from + next.new) count torn → (o : Operation) →
      IsIn o (take count (drop from (operations_from_run gone run))) → is_torn (operations_from_run gone run) old o ≡ torn
  not_gone true is true piece o i = absurd (deleted_whole run.content (len_of run.content) from (from + next.new) (from + 1) is.origins (piece.torn refl).1)
  not_gone true is false piece o i = other_torn (operations_from_run true run) old o (λ half.
      let (k, lt, e) = from_gone run.id (len_of run.content) o (one_of_drop from (operations_from_run true run) o (one_of_take count (drop from (operations_from_run true run)) o i)) in
      gone_no_half (later_id run.id k) (subst (λ (q : Operation). IsHalf q.content) e half))
  not_gone false is true piece o i = half_is_torn run old is.content from next.new count free piece (λ cut k e. walked.cut cut none k e) behind o i
    where
      none : has_operation old (later_id run.id from) ≡ false
      none = subst (λ x. has_operation old x ≡ false) (later_same run.id (from + 0) from (omega arith)) (free 0 (omega (arith, piece.bound.0, piece.bound.1)))
  not_gone false is false piece o i = whole_not_torn run old is.content from next.new count free piece o i

  torn_alike : (torn : Bool) → IsPiece run.content from (from + next.new) count torn → (o : Operation) → IsIn o (take count (drop from whole)) →
      is_torn whole old o ≡ torn
  torn_alike torn piece o i = not_gone is_gone is torn piece o i

  piece_of : (gone : Bool) → IsRun gone run → (torn : Bool) → IsPiece run.content from (from + next.new) count torn → (q : Operation) →
      IsIn q (operations_of_piece gone run from count torn) ↔ ((o : Operation) × IsIn o (take count (drop from (operations_from_run gone run))) × (q ≡ as_torn torn o))
  piece_of true is true piece q = absurd (deleted_whole run.content (len_of run.content) from (from + next.new) (from + 1) is.origins (piece.torn refl).1)
  piece_of true is false piece q = (
    (λ i. (q, i, refl)),
    (λ found. let (o, i, e) = found in subst (λ p. IsIn p (take count (drop from (operations_from_run true run)))) (sym e) i),
  )
  piece_of false is torn piece q = piece_taken run from count torn (λ e. (piece.torn e).0) lt q

  -- what is taken of the piece
  piece_is : (q : Operation) → IsIn q (operations_of_piece is_gone run from count next.torn) → IsAddedOf whole old (take (from + count) whole) q
  piece_is q i =
      let (o, j, e) = (piece_of is_gone is next.torn next.piece q).0 i in
      let (k, less, x) = part_id is_gone run from count o le j in (
        o,
        part_more is_gone run old_runs old_taken runs taken from walked count o j,
        subst (λ y. has_operation old y ≡ false) (sym x) (free k (omega (arith, next.piece.bound.1))),
        e ∙ ap (λ t. as_torn t o) (sym (torn_alike next.torn next.piece o j)),
      )

  is_piece : (o q : Operation) → IsIn o (take count (drop from whole)) → q ≡ as_torn (is_torn whole old o) o →
      IsIn q (operations_of_piece is_gone run from count next.torn)
  is_piece o q j e = (piece_of is_gone is next.torn next.piece q).1 (o, j, e ∙ ap (λ t. as_torn t o) (torn_alike next.torn next.piece o j))

  there : (q : Operation) → IsIn q (operations_in new_runs new_taken) →
      IsIn q old ⊎ IsAddedOf whole old (take (from + count) whole) q
  there q i = elim (one_with new_runs taken next.at next.adds.entry q (subst (λ ts. IsIn q (operations_in new_runs ts)) next.adds.placed i)) [
    | inl j ↦ elim ((walked.operations q).0 (subst (IsIn q) (grown_in runs new_runs taken next.adds.grows walked.each) j)) [
      | inl k ↦ inl k
      | inr (o, k, none, e) ↦ inr (o, front_more is_gone run old_runs old_taken runs taken from walked count o k, none, e)
    ]
    | inr j ↦ inr (piece_is q (subst (IsIn q) next.adds.operations j))
  ]

  stays : (q : Operation) → IsIn q (operations_in runs taken) → IsIn q (operations_in new_runs new_taken)
  stays q i = subst (λ ts. IsIn q (operations_in new_runs ts)) (sym next.adds.placed)
      (one_stays new_runs taken next.at next.adds.entry q (subst (IsIn q) (sym (grown_in runs new_runs taken next.adds.grows walked.each)) i))

  back : (q : Operation) → IsIn q old ⊎ IsAddedOf whole old (take (from + count) whole) q →
      IsIn q (operations_in new_runs new_taken)
  back q (inl i) = stays q ((walked.operations q).1 (inl i))
  back q (inr (o, i, none, e)) = elim (parts_of is_gone run old_runs old_taken runs taken from walked count o i) [
    | inl j ↦ stays q ((walked.operations q).1 (inr (o, j, none, e)))
    | inr j ↦ subst (λ ts. IsIn q (operations_in new_runs ts)) (sym next.adds.placed)
        (one_new new_runs taken next.at next.adds.entry q (subst (IsIn q) (sym next.adds.operations) (is_piece o q j e)))
  ]

  room : IsRoom taken next.at next.adds.entry.id next.adds.entry.len
  room = rw (next.adds.first, next.adds.as_many) (room_less taken next.at (later_id run.id from) count next.new (omega (arith, next.piece.bound.1)) next.gap.room)

  pub walk_taken : IsWalked is_gone run old_runs old_taken new_runs new_taken (from + count)
  walk_taken = record {
    bound = le;
    grows = grow_more old_runs runs new_runs walked.grows next.adds.grows;
    each = subst (Each (IsTakenOf new_runs)) (sym next.adds.placed)
        (each_with (IsTakenOf new_runs) taken next.at next.adds.entry (grown_each runs new_runs taken next.adds.grows walked.each) next.adds.of_run);
    in_order = subst AreInOrder (sym next.adds.placed) (room_order taken next.at next.adds.entry walked.in_order room);
    operations = λ q. (there q, back q);
    cut = λ cut none k e. absurd (true≢false (sym (subst (λ x. has_operation old x ≡ true)
        (later_same run.id (from + next.new) (from + count) (sym (next.piece.rest cut)))
        (behind (omega (arith, next.piece.rest cut, (cut_inside run.content (from + count) cut).1, length-units_of_content run.content)))) ∙ none));
  }

-- ---- the beginning

walk_begins : (is_gone : Bool) (run : RunValue) (runs : List Run) (taken : List Entry) → AreTaken runs taken → IsWalked is_gone run runs taken runs taken 0
walk_begins is_gone run runs taken are = record {
  bound = omega arith;
  grows = grow_none runs;
  each = are.each;
  in_order = are.in_order;
  operations = λ q. ((λ i. inl i), (λ i. elim i [ inl j ↦ j | inr (o, j, none, e) ↦ absurd j ]));
  cut = λ cut none k e. absurd (omega arith);
}

-- where the first units of a run were there, the walk begins behind them
pub walk_known : (is_gone : Bool) (run : RunValue) (runs : List Run) (taken : List Entry) (known : ℕ) → AreTaken runs taken → known ≤ len_of run.content →
    AreCovered taken run.id known →
    IsWalked is_gone run runs taken runs taken known
walk_known is_gone run runs taken zero are le covered = walk_begins is_gone run runs taken are
walk_known is_gone run runs taken (suc n) are le covered =
    subst (IsWalked is_gone run runs taken runs taken) same
    (walk_passed is_gone run runs taken runs taken 0 (walk_begins is_gone run runs taken are) (suc n) (omega arith) (omega arith)
    (subst (λ x. AreCovered taken x (suc n)) (sym (later_none run.id)) covered))
  where
    same : 0 + suc n ≡ suc n
    same = omega arith

-- ---- one step more

pub walk_on : (is_gone : Bool) (run : RunValue) (old_runs : List Run) (old_taken : List Entry) (runs : List Run) (taken : List Entry) (from next : ℕ) → IsRun is_gone run →
    IsWalked is_gone run old_runs old_taken runs taken from → from < next → next ≤ len_of run.content → (new_runs : List Run) (new_taken : List Entry) →
    IsPassed runs taken new_runs new_taken run from (next - from) ⊎ IsTakenNext is_gone runs taken new_runs new_taken run from (next - from) →
    IsWalked is_gone run old_runs old_taken new_runs new_taken next
walk_on is_gone run old_runs old_taken runs taken from next is walked lt le new_runs new_taken (inl passed) =
    let same : from + (next - from) ≡ next = omega arith in
    subst (λ ts. IsWalked is_gone run old_runs old_taken new_runs ts next) (sym passed.same_taken) (subst (λ rs. IsWalked is_gone run old_runs old_taken rs taken next) (sym passed.same_runs)
    (subst (IsWalked is_gone run old_runs old_taken runs taken) same
    (walk_passed is_gone run old_runs old_taken runs taken from walked (next - from) (omega arith) (omega arith) passed.covered)))
walk_on is_gone run old_runs old_taken runs taken from next is walked lt le new_runs new_taken (inr piece) =
    let same : from + (next - from) ≡ next = omega arith in
    subst (IsWalked is_gone run old_runs old_taken new_runs new_taken) same
    (walk_taken is_gone run old_runs old_taken runs taken from (next - from) is walked (omega arith) (omega arith) new_runs new_taken piece)

-- a run stays kept where it is
pub kept_grown : (runs new_runs : List Run) (at : ℕ) (run : RunValue) → GrowBy runs new_runs → IsKept runs at run → IsKept new_runs at run
kept_grown runs new_runs at run grows kept = record {
  kept = kept.kept;
  there = grown_get runs new_runs at grows (slice_get_within runs at kept.kept kept.there) ∙ kept.there;
  same = kept.same;
}

-- ---- the end

-- what was added, in the words of the contracts
pub is_added : (group old : List Operation) (q : Operation) → IsAddedOf group old group q ↔ IsAdded group old group q
is_added group old q = (there, back)
  where
    as_it_is : (o : Operation) (t : Bool) → is_torn group old o ≡ t → q ≡ as_torn t o → IsAddedAs group old o q
    as_it_is o true torn e = let (p, i, pair, known) = (torn_decides group old o).0 torn in inr (e, (p, i, is_pair o p pair, known))
    as_it_is o false torn e = inl (e, λ parted. true≢false (sym ((torn_decides group old o).1 (parted.0, parted.1, pair_is o parted.0 parted.2, parted.3)) ∙ torn))

    there : IsAddedOf group old group q → IsAdded group old group q
    there (o, i, none, e) = (o, i, none, as_it_is o (is_torn group old o) refl e)

    back : IsAdded group old group q → IsAddedOf group old group q
    back (o, i, none, inl (e, whole)) = (
      o,
      i,
      none,
      e ∙ ap (λ t. as_torn t o) (sym (false_from_ne_true (is_torn group old o) (λ torn.
          let (p, j, pair, known) = (torn_decides group old o).0 torn in whole (p, j, is_pair o p pair, known)))),
    )
    back (o, i, none, inr (e, (p, j, pair, known))) = (o, i, none, e ∙ ap (λ t. as_torn t o) (sym ((torn_decides group old o).1 (p, j, pair_is o p pair, known))))

-- where all units are taken in, so is the run
pub walk_ends : (is_gone : Bool) (run : RunValue) (old_runs : List Run) (old_taken : List Entry) (runs : List Run) (taken : List Entry) (from : ℕ) →
    IsWalked is_gone run old_runs old_taken runs taken from → len_of run.content ≤ from → AddsGroup old_runs old_taken runs taken (operations_from_run is_gone run)
walk_ends is_gone run old_runs old_taken runs taken from walked all = record {
  operations = λ q. let so = subst (λ os. IsIn q (operations_in runs taken) ↔ (IsIn q old ⊎ IsAddedOf group old os q)) whole (walked.operations q) in let same = is_added group old q in (
    (λ i. elim (so.0 i) [ inl j ↦ inl j | inr j ↦ inr (same.0 j) ]),
    (λ i. so.1 (elim i [ inl j ↦ inl j | inr j ↦ inr (same.1 j) ])),
  );
  each = walked.each;
  in_order = walked.in_order;
}
  where
    old : List Operation
    old = operations_in old_runs old_taken

    group : List Operation
    group = operations_from_run is_gone run

    whole : take from (operations_from_run is_gone run) ≡ operations_from_run is_gone run
    whole = take_all from (operations_from_run is_gone run) (omega (arith, length-operations is_gone run))
