-- How many units of each list are live: where runs are marked, cut and added.
use Rattle.std.proofs.Common.{◌≡◌, ◌≢◌, ℕ, ◌+◌, ◌-◌, ◌<◌, ◌≤◌, inl, inr, Bool, true, false, List, [], ◌∷◌, ◌++◌, Option, Some, None, length, get_or, set, refl, sym, ap, ap₂, ◌∙◌, subst, arith}
use Rattle.std.proofs.lemmas.List.{get_or_append_left, get_or_at, length-append, length-set, get_or-set_same, get_or-set_other}
use Rattle.std.specs.Prelude.{IfSome}
use Rattle.yd_words.specs.Member.{IsIn}
use Rattle.yd_chains.specs.Chain.{put_behind}
use Rattle.yd_chains.proofs.ChainLemmas.{has_place}
use Rattle.yd_scan.specs.declared.stretch.Stretch.{Stretch}
use Rattle.yd_scan.specs.Stretches.{stretch_at, no_stretch}
use Rattle.yd_index.specs.Holding.{cut_stretches}
use Rattle.yd_index.proofs.LinesLemmas.{eq_says}
use Rattle.yd_index.proofs.CuttingLemmas.{cut_len, cut_front, cut_rest, cut_other}
use Rattle.yd_arena.specs.Lists.{Linked, list_at, AreLists, PutsBehind}
use Rattle.yd_arena.specs.declared.mark.Mark.{Mark}
use Rattle.yd_arena.specs.Marks.{no_mark, mark_at, as_deleted, live_of, live_at, total, with_more, with_less, AreCounted}
use Rattle.yd_arena.proofs.TotalLemmas.{total_same, total_has, total_less, total_put}

-- ---- one mark

none_deleted : (mark : Mark) (len : ℕ) → live_of (as_deleted mark) len ≡ 0
none_deleted mark len = refl

parts_live : (mark : Mark) (len n : ℕ) → n ≤ len → live_of mark len ≡ live_of mark n + live_of mark (len - n)
parts_live mark len n le = go mark.deleted mark.counted
  where
    go : (deleted counted : Bool) → live_of (record { deleted = deleted; counted = counted }) len ≡ live_of (record { deleted = deleted; counted = counted }) n + live_of (record { deleted = deleted; counted = counted }) (len - n)
    go true counted = refl
    go false false = refl
    go false true = omega (arith, le)

-- ---- a run that is marked

module _ (linked : Linked) (rows : List Mark) (live : List ℕ) (lists : AreLists linked) (counted : AreCounted linked rows live) (place : ℕ) (within : place < length linked.stretches) where
  abbrev marked : List Mark
  marked = set rows place (as_deleted (mark_at rows place))

  here : mark_at marked place ≡ as_deleted (mark_at rows place)
  here = get_or-set_same rows place (as_deleted (mark_at rows place)) no_mark (omega (arith, within, counted.each))

  other : (i : ℕ) → i ≢ place → mark_at marked i ≡ mark_at rows i
  other i ne = get_or-set_other rows place i (as_deleted (mark_at rows place)) no_mark ne

  no_longer : live_at linked.stretches rows place ≡ live_at linked.stretches marked place + live_at linked.stretches rows place
  no_longer = omega (arith, ap (λ m. live_of m (stretch_at linked.stretches place).len) here)

  same_others : (i : ℕ) → i ≢ place → live_at linked.stretches rows i ≡ live_at linked.stretches marked i
  same_others i ne = ap (λ m. live_of m (stretch_at linked.stretches i).len) (sym (other i ne))

  -- what the run has is in its list's count
  pub enough_at : (list : Option ℕ) (n : ℕ) (read : List Mark) → read ≡ rows → n ≡ live_at linked.stretches read place → IfSome list (λ k. (k < length linked.lists) × IsIn place (list_at linked k)) →
      IfSome list (λ k. n ≤ get_or live k 0)
  enough_at None n read same is found = tt
  enough_at (Some k) n read same is found = omega (arith, is ∙ ap (λ r. live_at linked.stretches r place) same, counted.sums k found.0, total_has (live_at linked.stretches rows) place (list_at linked k) found.1)

  pub counted_marked : (list : Option ℕ) → IfSome list (λ k. (k < length linked.lists) × IsIn place (list_at linked k)) →
      ((k : ℕ) → k < length linked.lists → IsIn place (list_at linked k) → list ≡ Some k) →
      AreCounted linked marked (with_less live list (live_at linked.stretches rows place))
  counted_marked list found member = record {
    each = length-set rows place (as_deleted (mark_at rows place)) ∙ counted.each;
    lists = len list ∙ counted.lists;
    sums = λ k kl. elim (has_place place (list_at linked k)) [
      | inl h ↦ subst (λ z. get_or (with_less live z (live_at linked.stretches rows place)) k 0 ≡ total (live_at linked.stretches marked) (list_at linked k)) (sym (member k kl h)) (own k kl h)
      | inr h ↦ apart list found k kl h ∙ counted.sums k kl ∙ total_same (live_at linked.stretches rows) (live_at linked.stretches marked) (list_at linked k) (λ i m. same_others i (λ e. h (subst (λ j. IsIn j (list_at linked k)) e m)))
    ];
  }
    where
      len : (z : Option ℕ) → length (with_less live z (live_at linked.stretches rows place)) ≡ length live
      len None = refl
      len (Some k) = length-set live k (get_or live k 0 - live_at linked.stretches rows place)

      own : (k : ℕ) → k < length linked.lists → IsIn place (list_at linked k) → get_or (set live k (get_or live k 0 - live_at linked.stretches rows place)) k 0 ≡ total (live_at linked.stretches marked) (list_at linked k)
      own k kl h = get_or-set_same live k (get_or live k 0 - live_at linked.stretches rows place) 0 (omega (arith, kl, counted.lists))
          ∙ omega (arith, counted.sums k kl, total_less (live_at linked.stretches rows) (live_at linked.stretches marked) place (live_at linked.stretches rows place) (list_at linked k) (lists.distinct k kl) h no_longer (λ i ne m. same_others i ne))

      apart : (z : Option ℕ) → IfSome z (λ k. (k < length linked.lists) × IsIn place (list_at linked k)) → (k : ℕ) → k < length linked.lists → (IsIn place (list_at linked k) → ⊥) → get_or (with_less live z (live_at linked.stretches rows place)) k 0 ≡ get_or live k 0
      apart None f k kl out = refl
      apart (Some j) f k kl out = get_or-set_other live j k (get_or live j 0 - live_at linked.stretches rows place) 0 (λ e. out (subst (λ i. IsIn place (list_at linked i)) (sym e) f.1))

-- ---- a run that is cut

module _ (old new : Linked) (rows : List Mark) (live : List ℕ) (place n : ℕ) (lists : AreLists old) (each : length rows ≡ length old.stretches) (within : place < length old.stretches) (le : n ≤ (stretch_at old.stretches place).len)
    (cut : new.stretches ≡ cut_stretches old.stretches place n) (puts : PutsBehind old.lists new.lists place (length old.stretches)) where
  abbrev more : List Mark
  more = rows ++ mark_at rows place ∷ []

  kept_row : (i : ℕ) → i < length old.stretches → mark_at more i ≡ mark_at rows i
  kept_row i lt = get_or_append_left rows (mark_at rows place ∷ []) no_mark i (omega (arith, lt, each))

  last_row : mark_at more (length old.stretches) ≡ mark_at rows place
  last_row = get_or_at rows (mark_at rows place) [] no_mark (length old.stretches) each

  same_run : (i : ℕ) → i < length old.stretches → i ≢ place → live_at old.stretches rows i ≡ live_at (cut_stretches old.stretches place n) more i
  same_run i lt ne = ap₂ (λ m (r : Stretch). live_of m r.len) (sym (kept_row i lt)) (sym (cut_other old.stretches place n within i lt ne))

  both_parts : live_at old.stretches rows place ≡ live_at (cut_stretches old.stretches place n) more place + live_at (cut_stretches old.stretches place n) more (length old.stretches)
  both_parts =
      let a = ap₂ (λ m (r : Stretch). live_of m r.len) (kept_row place within) (cut_front old.stretches place n within) in
      let b = ap₂ (λ m (r : Stretch). live_of m r.len) last_row (cut_rest old.stretches place n within) in
      omega (arith, a, b, parts_live (mark_at rows place) (stretch_at old.stretches place).len n le)

  each_cut : length more ≡ length new.stretches
  each_cut = omega (arith, length-append rows (mark_at rows place ∷ []), each, ap length cut, cut_len old.stretches place n within)

  same_sum : (k : ℕ) → k < length old.lists → total (live_at old.stretches rows) (list_at old k) ≡ total (live_at new.stretches more) (list_at new k)
  same_sum k kl = rw cut (elim (has_place place (list_at old k)) [
    | inl h ↦ omega (
      arith,
      total_less (live_at old.stretches rows) (live_at (cut_stretches old.stretches place n) more) place (live_at (cut_stretches old.stretches place n) more (length old.stretches)) (list_at old k) (lists.distinct k kl) h both_parts
          (λ i ne m. same_run i (lists.within k i kl m) ne),
      total_put (live_at (cut_stretches old.stretches place n) more) (Some place) (length old.stretches) (list_at old k),
      ap (total (live_at (cut_stretches old.stretches place n) more)) (puts.own k kl h),
    )
    | inr h ↦ total_same (live_at old.stretches rows) (live_at (cut_stretches old.stretches place n) more) (list_at old k) (λ i m. same_run i (lists.within k i kl m) (λ e. h (subst (λ j. IsIn j (list_at old k)) e m)))
        ∙ ap (total (live_at (cut_stretches old.stretches place n) more)) (sym (puts.others k kl h))
  ])

  pub counted_cut : AreCounted old rows live → AreCounted new more live
  counted_cut counted = record {
    each = each_cut;
    lists = counted.lists ∙ sym puts.count;
    sums = λ k kl. (let kold : k < length old.lists = omega (arith, kl, puts.count) in counted.sums k kold ∙ same_sum k kold);
  }

  -- and back
  pub counted_joined : AreCounted new more live → AreCounted old rows live
  counted_joined counted = record {
    each = each;
    lists = counted.lists ∙ puts.count;
    sums = λ k kl. counted.sums k (omega (arith, kl, puts.count)) ∙ sym (same_sum k kl);
  }

-- ---- a run that is added

module _ (old new : Linked) (rows : List Mark) (live : List ℕ) (run : Stretch) (mark : Mark) (lists : AreLists old) (counted : AreCounted old rows live) (grown : new.stretches ≡ old.stretches ++ run ∷ []) where
  kept_live : (i : ℕ) → i < length old.stretches → live_at old.stretches rows i ≡ live_at (old.stretches ++ run ∷ []) (rows ++ mark ∷ []) i
  kept_live i lt = ap₂ (λ m (r : Stretch). live_of m r.len) (sym (get_or_append_left rows (mark ∷ []) no_mark i (omega (arith, lt, counted.each)))) (sym (get_or_append_left old.stretches (run ∷ []) no_stretch i lt))

  last_live : live_at (old.stretches ++ run ∷ []) (rows ++ mark ∷ []) (length old.stretches) ≡ live_of mark run.len
  last_live = ap₂ (λ m (r : Stretch). live_of m r.len) (get_or_at rows mark [] no_mark (length old.stretches) counted.each) (get_or_at old.stretches run [] no_stretch (length old.stretches) refl)

  kept_list : (k : ℕ) → k < length old.lists → total (live_at old.stretches rows) (list_at old k) ≡ total (live_at (old.stretches ++ run ∷ []) (rows ++ mark ∷ [])) (list_at old k)
  kept_list k kl = total_same (live_at old.stretches rows) (live_at (old.stretches ++ run ∷ []) (rows ++ mark ∷ [])) (list_at old k) (λ i m. kept_live i (lists.within k i kl m))

  more_rows : length (rows ++ mark ∷ []) ≡ length new.stretches
  more_rows = omega (arith, length-append rows (mark ∷ []), counted.each, ap length grown, length-append old.stretches (run ∷ []))

  -- in a list
  pub counted_added : (list : ℕ) (after : Option ℕ) → list < length old.lists → length new.lists ≡ length old.lists →
      list_at new list ≡ put_behind after (length old.stretches) (list_at old list) → ((other : ℕ) → other ≢ list → list_at new other ≡ list_at old other) →
      AreCounted new (rows ++ mark ∷ []) (with_more live (Some list) (live_of mark run.len))
  counted_added list after lt count own others = record {
    each = more_rows;
    lists = length-set live list (get_or live list 0 + live_of mark run.len) ∙ counted.lists ∙ sym count;
    sums = λ k kl. (let kold : k < length old.lists = omega (arith, kl, count) in
        rw grown (elim (eq_says k list) [
          | inl y ↦ subst (λ j. get_or (set live list (get_or live list 0 + live_of mark run.len)) j 0 ≡ total (live_at (old.stretches ++ run ∷ []) (rows ++ mark ∷ [])) (list_at new j)) (sym y.1)
              (get_or-set_same live list (get_or live list 0 + live_of mark run.len) 0 (omega (arith, lt, counted.lists))
              ∙ omega (
                arith,
                counted.sums list lt,
                kept_list list lt,
                last_live,
                total_put (live_at (old.stretches ++ run ∷ []) (rows ++ mark ∷ [])) after (length old.stretches) (list_at old list),
                ap (total (live_at (old.stretches ++ run ∷ []) (rows ++ mark ∷ []))) own,
              ))
          | inr y ↦ get_or-set_other live list k (get_or live list 0 + live_of mark run.len) 0 y.1 ∙ counted.sums k kold ∙ kept_list k kold ∙ ap (total (live_at (old.stretches ++ run ∷ []) (rows ++ mark ∷ []))) (sym (others k y.1))
        ]));
  }

  -- in no list
  pub counted_loose : new.lists ≡ old.lists → AreCounted new (rows ++ mark ∷ []) live
  counted_loose same = record {
    each = more_rows;
    lists = counted.lists ∙ ap length (sym same);
    sums = λ k kl. (let kold : k < length old.lists = omega (arith, kl, ap length same) in
        rw (grown, same) (counted.sums k kold ∙ kept_list k kold));
  }
