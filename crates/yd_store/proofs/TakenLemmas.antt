-- Runs that are taken out of a store one after another, once they are marked as deleted.
use Rattle.std.proofs.Common.{◌≡◌, ◌≢◌, ℕ, ◌+◌, ◌<◌, ◌≤◌, inl, inr, Bool, true, false, List, [], ◌∷◌, ◌++◌, Some, None, length, set, refl, sym, ap, ◌∙◌, subst, arith, true≢false}
use Rattle.std.specs.Prelude.{filter, IfSome}
use Rattle.std.proofs.lemmas.List.{length-set}
use Rattle.yd_ids.specs.declared.id.Id.{Id}
use Rattle.yd_ids.specs.declared.id.Span.{Span}
use Rattle.yd_words.specs.Member.{IsIn}
use Rattle.yd_chains.specs.Chain.{before, behind}
use Rattle.yd_chains.proofs.ChainLemmas.{has_place, around}
use Rattle.yd_origins.specs.Table.{Row}
use Rattle.yd_scan.specs.declared.stretch.Stretch.{Stretch}
use Rattle.yd_scan.specs.Stretches.{stretch_at}
use Rattle.yd_index.proofs.LineLemmas.{lt_says}
use Rattle.yd_index.proofs.LinesLemmas.{eq_says}
use Rattle.yd_arena.specs.Lists.{AreLists}
use Rattle.yd_arena.specs.Arena.{Placed, IsArena, runs_of, count_of, places_in, next_clock, TakesLast}
use Rattle.yd_arena.proofs.TakingLemmas.{still_in}
use Rattle.yd_arena.specs.declared.mark.Mark.{Mark}
use Rattle.yd_arena.specs.Marks.{mark_at, live_of, live_at, total, BeginsIn, IsBorder, MarksSpan}
use Rattle.yd_arena.proofs.MarkLemmas.{marks_are_units}
use Rattle.yd_arena.proofs.TotalLemmas.{total_append, total_same}
use Rattle.yd_store.specs.Contents.{Contented, told_of, run_at}
use Rattle.yd_store.specs.Store.{Stored, IsRunOf, IsStore}
use Rattle.yd_store.specs.Taking.{is_id_left, is_left, IsLeft, TakesBack, AreDead}
use Rattle.yd_store.proofs.TakingLemmas.{id_passes, left_passes, taken_len, other_run, this_run, other_told, this_told}
use Rattle.yd_store.proofs.NotedLemmas.{noted_emptied}

-- ---- one after another

-- what passes the second test passes the first
filter_both : {X : Type 0} (test wider : X → Bool) → ((o : X) → test o ≡ true → wider o ≡ true) → (os : List X) → filter test (filter wider os) ≡ filter test os
filter_both test wider widens [] = refl
filter_both test wider widens (o ∷ os) = go (test o) (wider o) refl refl (filter_both test wider widens os)
  where
    go : (s t : Bool) → test o ≡ s → wider o ≡ t → filter test (filter wider os) ≡ filter test os → filter test (filter wider (o ∷ os)) ≡ filter test (o ∷ os)
    go true true e h rest = rw (h, e) (ap (λ xs. o ∷ xs) rest)
    go true false e h rest = absurd (true≢false (sym (widens o e) ∙ h))
    go false true e h rest = rw (h, e) rest
    go false false e h rest = rw (h, e) rest

left_below : (client low high : ℕ) (id : Id) → low ≤ high → IsLeft client low id → IsLeft client high id
left_below client low high id le (inl x) = inl x
left_below client low high id le (inr x) = inr (omega (arith, x, le))

pub left_says : (client clock : ℕ) (id : Id) → is_id_left client clock id ≡ true → IsLeft client clock id
left_says client clock id e = elim (eq_says id.client.0 client) [
  | inr x ↦ inl x.1
  | inl x ↦ elim (lt_says id.clock clock) [
    | inl y ↦ inr y.1
    | inr y ↦ (let no : false ≡ true = rw (x.0, y.0) at e in absurd cc)
  ]
]

pub takes_both : (old mid new : Stored) (client high low : ℕ) → low ≤ high → TakesBack old mid client high → TakesBack mid new client low → TakesBack old new client low
takes_both old mid new client high low le a b = record {
  count = b.count ∙ a.count;
  lists = λ list lt. b.lists list (omega (arith, lt, a.count)) ∙ ap (filter (is_left client low)) (a.lists list lt)
      ∙ filter_both (is_left client low) (is_left client high) (λ o e. left_passes client high o (left_below client low high o.id le (left_says client low o.id e))) _;
  rows = λ list lt. b.rows list (omega (arith, lt, a.count)) ∙ ap (filter (λ (row : Row). is_id_left client low row.id)) (a.rows list lt)
      ∙ filter_both (λ (row : Row). is_id_left client low row.id) (λ row. is_id_left client high row.id)
      (λ row e. id_passes client high row.id (left_below client low high row.id le (left_says client low row.id e))) _;
  operations = λ o. (
    (λ h. (let r = (b.operations o).0 h in (((a.operations o).0 r.0).0, r.1))),
    (λ h. (b.operations o).1 ((a.operations o).1 (h.0, left_below client low high o.id le h.1), h.1)),
  );
  marks = λ id. (
    (λ h. (let r = (b.marks id).0 h in (((a.marks id).0 r.0).0, r.1))),
    (λ h. (b.marks id).1 ((a.marks id).1 (h.0, left_below client low high id le h.1), h.1)),
  );
  next = b.next;
  other_nexts = λ k ne. b.other_nexts k ne ∙ a.other_nexts k ne;
  borders = λ k c border. b.borders k c (a.borders k c border);
}

-- ---- what is marked first

pub takes_marked : (old mid new : Stored) (span : Span) → IsArena old.placed.lines (runs_of old.placed) → IsBorder (runs_of old.placed) span.client.0 span.clock → IsBorder (runs_of old.placed) span.client.0 (span.clock + span.len) →
    span.clock + span.len ≤ next_clock old.placed span.client.0 → MarksSpan (runs_of old.placed) old.marks.rows mid.marks.rows span → mid.placed ≡ old.placed → mid.contents ≡ old.contents →
    TakesBack mid new span.client.0 span.clock → TakesBack old new span.client.0 span.clock
takes_marked old mid new span arena front back held marks placed contents t =
    let same : TakesBack (record { placed = old.placed; marks = mid.marks; contents = old.contents }) new span.client.0 span.clock =
    subst (λ (p : Placed). TakesBack (record { placed = p; marks = mid.marks; contents = old.contents }) new span.client.0 span.clock) placed
    (subst (λ (c : Contented). TakesBack (record { placed = mid.placed; marks = mid.marks; contents = c }) new span.client.0 span.clock) contents t) in
    record {
      count = same.count;
      lists = same.lists;
      rows = same.rows;
      operations = λ o. (
        (λ h. (let r = (same.operations o).0 h in (record { place = r.0.place; within = r.0.within; member = r.0.member }, r.1))),
        (λ h. (same.operations o).1 (record { place = h.0.place; within = h.0.within; member = h.0.member }, h.1)),
      );
      marks = λ id. (let law = marks_are_units old.placed.lines (runs_of old.placed) old.marks.rows mid.marks.rows span arena front back held marks id in (
        (λ h. (let r = (same.marks id).0 h in elim (law.0 r.0) [
          | inl x ↦ (x, r.1)
          | inr x ↦ absurd (elim r.1 [ inl y ↦ y (sym x.0) | inr y ↦ omega (arith, y, x.1) ])
        ])),
        (λ h. (same.marks id).1 (law.1 (inl h.0), h.1)),
      ));
      next = same.next;
      other_nexts = same.other_nexts;
      borders = same.borders;
    }

pub marked_dead : (old mid : Stored) (client clock len : ℕ) → clock + len ≡ next_clock old.placed client → mid.placed ≡ old.placed →
    ((i : ℕ) → i < length (runs_of old.placed) → BeginsIn (stretch_at (runs_of old.placed) i) client clock (clock + len) → (mark_at mid.marks.rows i).deleted ≡ true) → AreDead mid client clock
marked_dead old mid client clock len end placed within =
    subst (λ (p : Placed). AreDead (record { placed = p; marks = mid.marks; contents = mid.contents }) client clock) (sym placed)
    (λ i il b. within i il (record { filled = b.filled; own = b.own; from = b.from; below = omega (arith, b.below, end) }))

-- ---- the parts of the store

module _ (old new : Stored) (client place clock : ℕ) (store : IsStore old.placed old.marks old.contents) (arena : IsArena old.placed.lines (runs_of old.placed)) (lists : AreLists old.placed.linked)
    (takes : TakesLast old.placed new.placed client place) (rows : new.marks.rows ≡ old.marks.rows) (told : told_of new.contents ≡ set (told_of old.contents) place None)
    (border : IsBorder (runs_of old.placed) client clock) (high : clock < next_clock old.placed client) (dead : AreDead old client clock) where
  abbrev were : List Stretch
  were = runs_of old.placed

  len_is : length (runs_of new.placed) ≡ length were
  len_is = taken_len old new client place arena store.told lists takes rows told

  other : (i : ℕ) → i ≢ place → stretch_at (runs_of new.placed) i ≡ stretch_at were i
  other = other_run old new client place arena store.told lists takes rows told

  -- it begins at the clock or behind it, so it is marked
  pub begins_above : clock ≤ (stretch_at were place).id.clock
  begins_above = elim (border place takes.within takes.own) [ inl y ↦ absurd (omega (arith, y, takes.ends, high)) | inr y ↦ y ]

  is_dead : (mark_at old.marks.rows place).deleted ≡ true
  is_dead = dead place takes.within (record { filled = takes.filled; own = takes.own; from = begins_above; below = omega (arith, takes.ends, takes.filled) })

  dead_counts : (mark : Mark) (n : ℕ) → mark.deleted ≡ true → live_of mark n ≡ 0
  dead_counts mark n e = rw e refl

  -- so no count changes
  none_live : live_at were old.marks.rows place ≡ 0
  none_live = dead_counts (mark_at old.marks.rows place) (stretch_at were place).len is_dead

  abbrev count_then : ℕ → ℕ
  count_then = live_at were old.marks.rows

  sum_without : (xs : List ℕ) → IsIn place xs → total count_then (before place xs ++ behind (Some place) xs) ≡ total count_then xs
  sum_without xs h = omega (
    arith,
    total_append count_then (before place xs) (behind (Some place) xs),
    total_append count_then (before place xs) (place ∷ behind (Some place) xs),
    none_live,
    ap (total count_then) (around place xs h),
  )

  sum_kept : (k : ℕ) → k < count_of old.placed → total count_then (places_in old.placed k) ≡ total count_then (places_in new.placed k)
  sum_kept k kl = elim (has_place place (places_in old.placed k)) [
    | inl h ↦ sym (ap (total count_then) (takes.lists.own k kl h) ∙ sum_without (places_in old.placed k) h)
    | inr h ↦ sym (ap (total count_then) (takes.lists.others k kl h))
  ]

  pub store_taken : new.marks.live ≡ old.marks.live → IsStore new.placed new.marks new.contents
  store_taken live = record {
    counted = rw (rows, live) (record {
      each = store.counted.each ∙ sym len_is;
      lists = store.counted.lists ∙ sym takes.lists.count;
      sums = λ k kl.
          let ko : k < count_of old.placed = omega (arith, kl, takes.lists.count) in
          store.counted.sums k ko ∙ sum_kept k ko
          ∙ total_same count_then (live_at (runs_of new.placed) old.marks.rows) (places_in new.placed k)
          (λ i h. ap (λ (r : Stretch). live_of (mark_at old.marks.rows i) r.len) (sym (other i (still_in old.placed.linked.lists new.placed.linked.lists place k i takes.lists (lists.distinct k ko) ko h).1)));
    });
    told = record {
      each = ap length told ∙ length-set (told_of old.contents) place None ∙ store.told.each ∙ sym len_is;
      fits = λ i lt. elim (eq_says i place) [
        | inl y ↦ subst (λ z. IfSome z (λ run. IsRunOf (stretch_at (runs_of new.placed) i) run)) (sym (ap (λ j. run_at (told_of new.contents) j) y.1 ∙ this_told old new client place arena store.told lists takes rows told)) tt
        | inr y ↦ subst (λ z. IfSome z (λ run. IsRunOf (stretch_at (runs_of new.placed) i) run)) (sym (other_told old new client place arena store.told lists takes rows told i y.1))
            (subst (λ (r : Stretch). IfSome (run_at (told_of old.contents) i) (λ run. IsRunOf r run)) (sym (other i y.1)) (store.told.fits i (omega (arith, lt, len_is))))
      ];
    };
    noted = rw (rows, told) (noted_emptied old.marks.rows (told_of old.contents) place store.noted (omega (arith, takes.within, store.told.each)));
  }

  -- the others stay marked
  pub still_dead : AreDead new client clock
  still_dead i il b = elim (eq_says i place) [
    | inl y ↦ absurd (omega (arith, b.filled, ap (λ j. (stretch_at (runs_of new.placed) j).len) y.1, ap (λ (r : Stretch). r.len) (this_run old new client place arena store.told lists takes rows told)))
    | inr y ↦ ap (λ (rs : List Mark). (mark_at rs i).deleted) rows ∙ dead i (omega (arith, il, len_is)) (record {
      filled = subst (λ (r : Stretch). 0 < r.len) (other i y.1) b.filled;
      own = subst (λ (r : Stretch). r.id.client.0 ≡ client) (other i y.1) b.own;
      from = subst (λ (r : Stretch). clock ≤ r.id.clock) (other i y.1) b.from;
      below = omega (arith, ap (λ (r : Stretch). r.id.clock) (other i y.1), b.below, takes.next, takes.ends, takes.filled);
    })
  ]
