-- The last run of a store is one with the one before it in its list: what is told of both.
use Rattle.std.proofs.Common.{◌≡◌, ◌≢◌, ℕ, ◌+◌, ◌-◌, ◌<◌, inl, inr, List, [], ◌∷◌, ◌++◌, Option, Some, None, map, length, get_or, set, take, sym, ap, ap₂, ◌∙◌, subst, arith}
use Rattle.std.specs.Prelude.{IfSome}
use Rattle.std.proofs.Math.Seq.{take-length}
use Rattle.std.proofs.lemmas.List.{get_or-take, take_more, map-append, map-set, set-get_or, length-map, get_or_append_left, get_or_at, length-append, length-set, get_or-set_same, get_or-set_other}
use Rattle.yd_ops.specs.Value.{len_of, RunValue}
use Rattle.yd_ops.specs.declared.runs.Run.{Run}
use Rattle.yd_ops.specs.Cutting.{run_before}
use Rattle.yd_ops.specs.Joining.{joined_run}
use Rattle.yd_ops.proofs.CutLemmas.{joined_first, joined_other}
use Rattle.yd_ops.proofs.JoinLemmas.{runs_long}
use Rattle.yd_scan.specs.declared.stretch.Stretch.{Stretch}
use Rattle.yd_scan.specs.Stretches.{stretch_at}
use Rattle.yd_index.specs.Holding.{front_of, rest_of}
use Rattle.yd_index.proofs.LinesLemmas.{eq_says}
use Rattle.yd_index.proofs.CuttingLemmas.{cut_len, cut_front, cut_rest, cut_other}
use Rattle.yd_arena.specs.declared.mark.Mark.{Mark}
use Rattle.yd_arena.specs.Lists.{AreLists}
use Rattle.yd_arena.specs.Arena.{runs_of}
use Rattle.yd_arena.specs.Joining as Arena
use Rattle.yd_arena.specs.Marks.{no_mark, mark_at, AreCounted}
use Rattle.yd_arena.proofs.CountLemmas.{counted_joined}
use Rattle.yd_arena.proofs.JoiningLemmas.{set_set}
use Rattle.yd_store.specs.Contents.{told, told_of, run_at, told_before, told_behind, cut_runs}
use Rattle.yd_store.specs.Store.{Stored, IsRunOf, AreTold, IsNoted, AreNoted, IsStore}
use Rattle.yd_store.specs.Units.{KeepsUnits}
use Rattle.yd_store.specs.Joining.{JoinsSlot, JoinsTold, JoinsLast}
use Rattle.yd_store.proofs.NotedLemmas.{noted_whole}
use Rattle.yd_store.proofs.StoreLemmas.{told_at}
use Rattle.yd_store.proofs.KeepingLemmas.{cut_keeps}

-- ---- what the last place tells is taken out, joined, or put back

module _ (old left : List (Option Run)) (next read : Option Run) (place : ℕ) (parts : old ≡ left ++ next ∷ []) (inside : place + 1 < length old) (at : read ≡ get_or left place read) where
  left_len : place < length left
  left_len = omega (arith, inside, ap length parts, length-append left (next ∷ []))

  told_read : told read ≡ run_at (map told left) place
  told_read = told_at left place read left_len at

  told_parts : map told old ≡ map told left ++ told next ∷ []
  told_parts = ap (map told) parts ∙ map-append told left (next ∷ [])

  pub told_joined : (both : Option Run) → JoinsSlot (told read) (told next) (told both) → JoinsTold (map told old) (map told (set left place both)) place
  told_joined both j = record {
    front = map told left;
    run = j.run;
    next = j.more;
    parts = told_parts ∙ ap (λ z. map told left ++ z ∷ []) j.is_next;
    within = omega (arith, left_len, length-map left told);
    here = sym told_read ∙ j.is_run;
    joins = j.joins;
    unlisted = j.unlisted;
    joined = map-set told left place both ∙ ap (set (map told left) place) j.joined;
  }

  pub told_kept : (same : Option Run) (new : List (Option Run)) → told same ≡ told read → new ≡ set left place same ++ next ∷ [] → map told new ≡ map told old
  told_kept same new e put =
      ap (map told) put ∙ map-append told (set left place same) (next ∷ [])
      ∙ ap (λ xs. xs ++ told next ∷ []) (map-set told left place same ∙ ap (set (map told left) place) (e ∙ told_read) ∙ set-get_or (map told left) place None)
      ∙ sym told_parts

-- ---- cut again, it is the two

-- the last of some rows, which is like the one at a place
pub rows_again : (rows : List Mark) (place : ℕ) → place + 1 < length rows → mark_at rows place ≡ mark_at rows (length rows - 1) → rows ≡ take (length rows - 1) rows ++ mark_at (take (length rows - 1) rows) place ∷ []
rows_again rows place inside alike =
    let k = length rows - 1 in
    let low : place < k = omega (arith, inside) in
    let all : k + 1 ≡ length rows = omega (arith, inside) in
    sym (ap (λ m. take k rows ++ m ∷ []) (get_or-take k rows place no_mark low ∙ alike) ∙ sym (take_more rows k no_mark (omega (arith, inside))) ∙ ap (λ n. take n rows) all ∙ take-length rows)

module _ (old new : List (Option RunValue)) (place : ℕ) (j : JoinsTold old new place) (some : 0 < len_of j.run.content) where
  abbrev both : RunValue
  both = joined_run j.run j.next

  pub new_here : run_at new place ≡ Some both
  new_here = ap (λ xs. run_at xs place) j.joined ∙ get_or-set_same j.front place (Some both) None j.within

  pub cut_again : old ≡ cut_runs new place (len_of j.run.content)
  cut_again =
      let n = len_of j.run.content in
      j.parts ∙ sym (ap (λ z. set new place (told_before n z) ++ told_behind n z ∷ []) new_here
      ∙ ap₂ (λ (a b : RunValue). set new place (Some a) ++ Some b ∷ []) (joined_first j.run j.next j.joins) (joined_other j.run j.next some j.joins j.unlisted)
      ∙ ap (λ xs. xs ++ Some j.next ∷ []) (ap (λ xs. set xs place (Some j.run)) j.joined ∙ set_set j.front place (Some both) (Some j.run)
      ∙ ap (set j.front place) (sym j.here) ∙ set-get_or j.front place None))

-- ---- a store

module _ (old new : Stored) (place : ℕ) (store : IsStore old.placed old.marks old.contents) (are : AreLists new.placed.linked)
    (a : Arena.JoinsLast old.placed new.placed place) (alike : mark_at old.marks.rows place ≡ mark_at old.marks.rows (length (runs_of old.placed) - 1))
    (rows : new.marks.rows ≡ take (length old.marks.rows - 1) old.marks.rows) (live : new.marks.live ≡ old.marks.live)
    (t : JoinsTold (told_of old.contents) (told_of new.contents) place) where
  abbrev n : ℕ
  n = a.before

  abbrev were_runs : List Stretch
  were_runs = runs_of old.placed

  abbrev runs_now : List Stretch
  runs_now = runs_of new.placed

  abbrev was_told : List (Option RunValue)
  was_told = told_of old.contents

  abbrev told_now : List (Option RunValue)
  told_now = told_of new.contents

  within : place < length runs_now
  within = a.has.within

  inside : n < (stretch_at runs_now place).len
  inside = a.has.inside

  len_is : length were_runs ≡ length runs_now + 1
  len_is = ap length a.cuts.runs ∙ cut_len runs_now place n within

  front_is : stretch_at were_runs place ≡ front_of (stretch_at runs_now place) n
  front_is = ap (λ rs. stretch_at rs place) a.cuts.runs ∙ cut_front runs_now place n within

  rest_is : stretch_at were_runs (length runs_now) ≡ rest_of (stretch_at runs_now place) n
  rest_is = ap (λ rs. stretch_at rs (length runs_now)) a.cuts.runs ∙ cut_rest runs_now place n within

  other_is : (i : ℕ) → i < length runs_now → i ≢ place → stretch_at were_runs i ≡ stretch_at runs_now i
  other_is i lt ne = ap (λ rs. stretch_at rs i) a.cuts.runs ∙ cut_other runs_now place n within i lt ne

  -- ---- what is told

  told_len : length was_told ≡ length told_now + 1
  told_len = omega (arith, ap length t.parts, length-append t.front (Some t.next ∷ []), ap length t.joined, length-set t.front place (Some (joined_run t.run t.next)))

  front_len : length t.front ≡ length runs_now
  front_len = omega (arith, ap length t.parts, length-append t.front (Some t.next ∷ []), store.told.each, len_is)

  was_here : run_at was_told place ≡ Some t.run
  was_here = ap (λ xs. run_at xs place) t.parts ∙ get_or_append_left t.front (Some t.next ∷ []) None place t.within ∙ t.here

  was_last : run_at was_told (length runs_now) ≡ Some t.next
  was_last = ap (λ xs. run_at xs (length runs_now)) t.parts ∙ get_or_at t.front (Some t.next) [] None (length runs_now) front_len

  was_other : (i : ℕ) → i < length runs_now → i ≢ place → run_at was_told i ≡ run_at told_now i
  was_other i lt ne =
      ap (λ xs. run_at xs i) t.parts ∙ get_or_append_left t.front (Some t.next ∷ []) None i (omega (arith, lt, front_len))
      ∙ sym (ap (λ xs. run_at xs i) t.joined ∙ get_or-set_other t.front place i (Some (joined_run t.run t.next)) None ne)

  is_run : IsRunOf (front_of (stretch_at runs_now place) n) t.run
  is_run = subst (λ s. IsRunOf s t.run) front_is (subst (λ z. IfSome z (λ run. IsRunOf (stretch_at were_runs place) run)) was_here (store.told.fits place (omega (arith, within, len_is))))

  is_next : IsRunOf (rest_of (stretch_at runs_now place) n) t.next
  is_next = subst (λ s. IsRunOf s t.next) rest_is (subst (λ z. IfSome z (λ run. IsRunOf (stretch_at were_runs (length runs_now)) run)) was_last (store.told.fits (length runs_now) (omega (arith, len_is))))

  size : len_of t.run.content ≡ n
  size = is_run.len_is

  some : 0 < len_of t.run.content
  some = omega (arith, size, a.later)

  told_again : was_told ≡ cut_runs told_now place n
  told_again = cut_again was_told told_now place t some ∙ ap (cut_runs told_now place) size

  both_is : IsRunOf (stretch_at runs_now place) (joined_run t.run t.next)
  both_is = record {
    id_is = is_run.id_is;
    len_is = omega (arith, runs_long t.run t.next t.joins, size, is_next.len_is, inside);
    left_is = is_run.left_is;
    right_is = is_run.right_is;
  }

  abbrev Fits : Stretch → Option RunValue → Type 0
  Fits stretch z = IfSome z (λ run. IsRunOf stretch run)

  told_joins : AreTold runs_now told_now
  told_joins = record {
    each = omega (arith, told_len, store.told.each, len_is);
    fits = λ i lt. elim (eq_says i place) [
      | inl y ↦ subst (λ k. Fits (stretch_at runs_now k) (run_at told_now k)) (sym y.1) (subst (Fits (stretch_at runs_now place)) (sym (new_here was_told told_now place t some)) both_is)
      | inr y ↦ subst (Fits (stretch_at runs_now i)) (was_other i lt y.1) (subst (λ s. Fits s (run_at was_told i)) (other_is i lt y.1) (store.told.fits i (omega (arith, lt, len_is))))
    ];
  }

  -- ---- the marks

  rows_len : length old.marks.rows ≡ length runs_now + 1
  rows_len = store.counted.each ∙ len_is

  marks_again : old.marks.rows ≡ new.marks.rows ++ mark_at new.marks.rows place ∷ []
  marks_again =
      let same : length were_runs - 1 ≡ length old.marks.rows - 1 = omega (arith, store.counted.each) in
      rows_again old.marks.rows place (omega (arith, within, rows_len)) (alike ∙ ap (mark_at old.marks.rows) same) ∙ ap (λ rs. rs ++ mark_at rs place ∷ []) (sym rows)

  each_now : length new.marks.rows ≡ length runs_now
  each_now = omega (arith, ap length marks_again, length-append new.marks.rows (mark_at new.marks.rows place ∷ []), rows_len)

  same_mark : (i : ℕ) → i < length runs_now → mark_at old.marks.rows i ≡ mark_at new.marks.rows i
  same_mark i lt = ap (λ rs. mark_at rs i) marks_again ∙ get_or_append_left new.marks.rows (mark_at new.marks.rows place ∷ []) no_mark i (omega (arith, lt, each_now))

  noted_joins : AreNoted new.marks.rows told_now
  noted_joins = λ i lt.
      let low : i < length runs_now = omega (arith, lt, told_joins.each) in
      let was : IsNoted (mark_at new.marks.rows i) (run_at was_told i) = subst (λ m. IsNoted m (run_at was_told i)) (same_mark i low) (store.noted i (omega (arith, lt, told_len))) in
      elim (eq_says i place) [
        | inl y ↦ (let here : IsNoted (mark_at new.marks.rows place) (run_at was_told place) = subst (λ k. IsNoted (mark_at new.marks.rows k) (run_at was_told k)) y.1 was in
            let first : IsNoted (mark_at new.marks.rows place) (Some (run_before (len_of t.run.content) (joined_run t.run t.next))) =
            subst (λ r. IsNoted (mark_at new.marks.rows place) (Some r)) (sym (joined_first t.run t.next t.joins)) (subst (IsNoted (mark_at new.marks.rows place)) was_here here) in
            subst (λ k. IsNoted (mark_at new.marks.rows k) (run_at told_now k)) (sym y.1) (subst (IsNoted (mark_at new.marks.rows place)) (sym (new_here was_told told_now place t some))
            (noted_whole (mark_at new.marks.rows place) (len_of t.run.content) (joined_run t.run t.next) first)))
        | inr y ↦ subst (IsNoted (mark_at new.marks.rows i)) (was_other i low y.1) was
      ]

  counted_again : AreCounted old.placed.linked (new.marks.rows ++ mark_at new.marks.rows place ∷ []) new.marks.live
  counted_again = subst (λ ls. AreCounted old.placed.linked (new.marks.rows ++ mark_at new.marks.rows place ∷ []) ls) (sym live) (subst (λ rs. AreCounted old.placed.linked rs old.marks.live) marks_again store.counted)

  pub store_joined : IsStore new.placed new.marks new.contents
  store_joined = record {
    counted = counted_joined new.placed.linked old.placed.linked new.marks.rows new.marks.live place n are each_now within (omega (arith, inside)) a.cuts.runs a.cuts.lists counted_again;
    told = told_joins;
    noted = noted_joins;
  }

  pub joins_again : JoinsLast old new
  joins_again = record {
    id = a.id;
    splits = record {
      cuts = record { place = place; before = n; has = a.has; later = a.later; cuts = a.cuts };
      rows = marks_again;
      live = sym live;
      runs = told_again;
    };
  }

  pub joined_keeps : KeepsUnits new old
  joined_keeps = cut_keeps new old store_joined are place n within a.later inside a.cuts marks_again (sym live) told_again
