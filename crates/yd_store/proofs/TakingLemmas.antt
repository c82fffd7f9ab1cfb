-- The last run of a client is taken out of a store.
use Rattle.std.proofs.Common.{◌≡◌, ◌≢◌, ℕ, ◌+◌, ◌-◌, ◌<◌, ◌≤◌, inl, inr, ◌⊎◌, Bool, true, false, List, [], ◌∷◌, ◌++◌, Option, Some, None, length, set, refl, sym, ap, ap₂, ◌∙◌, subst, arith}
use Rattle.std.specs.Prelude.{filter, flat_map}
use Rattle.std.proofs.lemmas.List.{length-set, get_or-set_same, get_or-set_other}
use Rattle.std.proofs.lemmas.List.Concat.{flat_map-append}
use Rattle.yd_ids.specs.declared.id.Id.{Id}
use Rattle.yd_ids.specs.declared.id.Client.{Client}
use Rattle.yd_words.specs.Member.{IsIn}
use Rattle.yd_words.proofs.FilterLemmas.{filter-all}
use Rattle.yd_chains.specs.Chain.{before, behind}
use Rattle.yd_chains.proofs.ChainLemmas.{has_place, around}
use Rattle.yd_ops.specs.Value.{RunValue}
use Rattle.yd_ops.specs.Operation.{Operation}
use Rattle.yd_scan.specs.declared.stretch.Stretch.{Stretch}
use Rattle.yd_origins.specs.Table.{Row}
use Rattle.yd_origins.proofs.PartLemmas.{row_id_in}
use Rattle.yd_scan.specs.Stretches.{stretch_at, no_stretch, units_from}
use Rattle.yd_index.specs.Holding.{front_of}
use Rattle.yd_index.proofs.LineLemmas.{lt_says}
use Rattle.yd_index.proofs.LinesLemmas.{eq_says}
use Rattle.yd_index.proofs.RowLemmas.{from_says}
use Rattle.yd_arena.specs.Lists.{AreLists}
use Rattle.yd_arena.specs.Arena.{IsArena, HasUnit, runs_of, count_of, places_in, next_clock, TakesLast}
use Rattle.yd_arena.specs.Rows.{rows_of_run, rows_in}
use Rattle.yd_arena.proofs.ArenaLemmas.{unit_below}
use Rattle.yd_arena.proofs.RowLemmas.{ids-from}
use Rattle.yd_arena.specs.Marks.{IsBorder, IsMarked}
use Rattle.yd_arena.proofs.BorderLemmas.{one_run}
use Rattle.yd_store.specs.Contents.{told_of, run_at}
use Rattle.yd_store.specs.Store.{Stored, AreTold}
use Rattle.yd_store.specs.Units.{operations_told, operations_at, operations_in, HasOperation}
use Rattle.yd_store.specs.Taking.{is_id_left, is_left, IsLeft, TakesBack}
use Rattle.yd_store.proofs.LoweringLemmas.{told_among}

-- ---- what is left, as a test

pub id_passes : (client clock : ℕ) (id : Id) → IsLeft client clock id → is_id_left client clock id ≡ true
id_passes client clock id (inl ne) = elim (eq_says id.client.0 client) [ inl x ↦ absurd (ne x.1) | inr x ↦ rw x.0 refl ]
id_passes client clock id (inr lt) = elim (eq_says id.client.0 client) [
  | inr x ↦ rw x.0 refl
  | inl x ↦ elim (lt_says id.clock clock) [ inl y ↦ rw (x.0, y.0) refl | inr y ↦ absurd (omega (arith, lt, y.1)) ]
]

pub id_fails : (client clock : ℕ) (id : Id) → (IsLeft client clock id → ⊥) → is_id_left client clock id ≡ false
id_fails client clock id out = elim (eq_says id.client.0 client) [
  | inr x ↦ absurd (out (inl x.1))
  | inl x ↦ elim (lt_says id.clock clock) [ inl y ↦ absurd (out (inr y.1)) | inr y ↦ rw (x.0, y.0) refl ]
]

pub left_passes : (client clock : ℕ) (o : Operation) → IsLeft client clock o.id → is_left client clock o ≡ true
left_passes client clock o is_in = id_passes client clock o.id is_in

pub left_fails : (client clock : ℕ) (o : Operation) → (IsLeft client clock o.id → ⊥) → is_left client clock o ≡ false
left_fails client clock o out = id_fails client clock o.id out

pub filter_none : {X : Type 0} (test : X → Bool) (os : List X) → ((o : X) → IsIn o os → test o ≡ false) → filter test os ≡ []
filter_none test [] fails = refl
filter_none test (o ∷ os) fails = rw (fails o (inl refl)) (filter_none test os (λ p h. fails p (inr h)))

pub filter_append : {X : Type 0} (test : X → Bool) (os ps : List X) → filter test (os ++ ps) ≡ filter test os ++ filter test ps
filter_append test [] ps = refl
filter_append test (o ∷ os) ps = go (test o) refl (filter_append test os ps)
  where
    go : (t : Bool) → test o ≡ t → filter test (os ++ ps) ≡ filter test os ++ filter test ps → filter test (o ∷ os ++ ps) ≡ filter test (o ∷ os) ++ filter test ps
    go true e rest = rw e (ap (λ xs. o ∷ xs) rest)
    go false e rest = rw e rest

filter_each : {X : Type 0} (test : X → Bool) (f g : ℕ → List X) (places : List ℕ) → ((i : ℕ) → IsIn i places → filter test (f i) ≡ g i) → filter test (flat_map f places) ≡ flat_map g places
filter_each test f g [] same = refl
filter_each test f g (i ∷ is) same = filter_append test (f i) (flat_map f is) ∙ ap₂ (λ os ps. os ++ ps) (same i (inl refl)) (filter_each test f g is (λ j h. same j (inr h)))

-- a place that has nothing can be left out
without_one : {X : Type 0} (f : ℕ → List X) (p : ℕ) (xs : List ℕ) → IsIn p xs → f p ≡ [] → flat_map f (before p xs ++ behind (Some p) xs) ≡ flat_map f xs
without_one f p xs h none =
    let front = before p xs in
    let back = behind (Some p) xs in
    let less : flat_map f (p ∷ back) ≡ flat_map f back = ap (λ os. os ++ flat_map f back) none in
    let same : flat_map f front ++ flat_map f (p ∷ back) ≡ flat_map f front ++ flat_map f back = ap (λ os. flat_map f front ++ os) less in
    flat_map-append f front back ∙ sym same ∙ sym (flat_map-append f front (p ∷ back)) ∙ ap (flat_map f) (around p xs h)

-- ---- rows

-- the row of a run is that of one of its units
row_unit : (runs : List Stretch) (i : ℕ) (row : Row) → i < length runs → IsIn row (rows_of_run (stretch_at runs i)) → HasUnit runs i (row.id.clock - (stretch_at runs i).id.clock) row.id
row_unit runs i row lt h =
    let run = stretch_at runs i in
    let u : IsIn row.id (units_from run.id.client run.id.clock run.len) = subst (IsIn row.id) (ids-from run.id.client run.left run.right run.id.clock run.len) (row_id_in row (rows_of_run run) h) in
    let s = from_says run.id.client run.len run.id.clock row.id u in
    record { within = lt; inside = omega (arith, s.1, s.2); client = sym s.0; clock = omega (arith, s.1) }

-- ---- where nothing is taken out

-- each unit is below the next clock of its client
pub at_below : (it : Stored) (i : ℕ) (o : Operation) → IsArena it.placed.lines (runs_of it.placed) → AreTold (runs_of it.placed) (told_of it.contents) → i < length (runs_of it.placed) → IsIn o (operations_at (runs_of it.placed) (told_of it.contents) i) →
    o.id.clock < next_clock it.placed o.id.client.0
at_below it i o arena told lt h =
    let run = stretch_at (runs_of it.placed) i in
    let a = told_among run (run_at (told_of it.contents) i) o (told.fits i lt) h in
    let has : HasUnit (runs_of it.placed) i (o.id.clock - run.id.clock) o.id = record { within = lt; inside = omega (arith, a.low, a.high); client = sym a.client; clock = omega (arith, a.low) } in
    unit_below it.placed.lines (runs_of it.placed) arena.holds i (o.id.clock - run.id.clock) o.id has

pub below_left : (it : Stored) (client : ℕ) (id : Id) → id.clock < next_clock it.placed id.client.0 → IsLeft client (next_clock it.placed client) id
below_left it client id lt = elim (eq_says id.client.0 client) [ inl x ↦ inr (subst (λ k. id.clock < next_clock it.placed k) x.1 lt) | inr x ↦ inl x.1 ]

pub takes_nothing : (it : Stored) (client : ℕ) → IsArena it.placed.lines (runs_of it.placed) → AreTold (runs_of it.placed) (told_of it.contents) → AreLists it.placed.linked → TakesBack it it client (next_clock it.placed client)
takes_nothing it client arena told lists =
    let now = operations_at (runs_of it.placed) (told_of it.contents) in
    let rows_now : ℕ → List Row = λ i. rows_of_run (stretch_at (runs_of it.placed) i) in
    let row_left : Row → Bool = λ row. is_id_left client (next_clock it.placed client) row.id in
    let left : (i : ℕ) (o : Operation) → i < length (runs_of it.placed) → IsIn o (now i) → IsLeft client (next_clock it.placed client) o.id = λ i o lt h. below_left it client o.id (at_below it i o arena told lt h) in
    record {
      count = refl;
      lists = λ list lt. sym (filter_each (is_left client (next_clock it.placed client)) now now (places_in it.placed list)
          (λ i h. filter-all (is_left client (next_clock it.placed client)) (now i) (λ o m. left_passes client (next_clock it.placed client) o (left i o (lists.within list i lt h) m))));
      rows = λ list lt. sym (filter_each row_left rows_now rows_now (places_in it.placed list)
          (λ i h. filter-all row_left (rows_now i) (λ row m. id_passes client (next_clock it.placed client) row.id (below_left it client row.id
          (unit_below it.placed.lines (runs_of it.placed) arena.holds i _ row.id (row_unit (runs_of it.placed) i row (lists.within list i lt h) m))))));
      operations = λ o. ((λ h. (h, left h.place o h.within h.member)), (λ h. h.0));
      marks = λ id. ((λ m. (m, below_left it client id (unit_below it.placed.lines (runs_of it.placed) arena.holds m.place m.before id m.has))), (λ m. m.0));
      next = refl;
      other_nexts = λ k ne. refl;
      borders = λ k c b. b;
    }

-- ---- a run is taken out

module _ (old new : Stored) (client place : ℕ) (arena : IsArena old.placed.lines (runs_of old.placed)) (are : AreTold (runs_of old.placed) (told_of old.contents)) (lists : AreLists old.placed.linked)
    (takes : TakesLast old.placed new.placed client place) (rows : new.marks.rows ≡ old.marks.rows) (told : told_of new.contents ≡ set (told_of old.contents) place None) where
  abbrev were : List Stretch
  were = runs_of old.placed

  abbrev first : ℕ
  first = (stretch_at were place).id.clock

  abbrev was : ℕ → List Operation
  was = operations_at were (told_of old.contents)

  abbrev now : ℕ → List Operation
  now = operations_at (runs_of new.placed) (told_of new.contents)

  pub taken_len : length (runs_of new.placed) ≡ length were
  taken_len = ap length takes.runs ∙ length-set were place (front_of (stretch_at were place) 0)

  pub other_run : (i : ℕ) → i ≢ place → stretch_at (runs_of new.placed) i ≡ stretch_at were i
  other_run i ne = ap (λ (rs : List Stretch). stretch_at rs i) takes.runs ∙ get_or-set_other were place i (front_of (stretch_at were place) 0) no_stretch ne

  pub this_run : stretch_at (runs_of new.placed) place ≡ front_of (stretch_at were place) 0
  this_run = ap (λ (rs : List Stretch). stretch_at rs place) takes.runs ∙ get_or-set_same were place (front_of (stretch_at were place) 0) no_stretch takes.within

  pub other_told : (i : ℕ) → i ≢ place → run_at (told_of new.contents) i ≡ run_at (told_of old.contents) i
  other_told i ne = ap (λ (ts : List (Option RunValue)). run_at ts i) told ∙ get_or-set_other (told_of old.contents) place i None None ne

  pub this_told : run_at (told_of new.contents) place ≡ None
  this_told = ap (λ (ts : List (Option RunValue)). run_at ts place) told ∙ get_or-set_same (told_of old.contents) place None None (omega (arith, takes.within, are.each))

  at_other : (i : ℕ) → i ≢ place → now i ≡ was i
  at_other i ne = ap₂ operations_told (other_run i ne) (other_told i ne)

  at_this : now place ≡ []
  at_this = ap₂ operations_told this_run this_told

  -- the units of the run are those from its first clock on
  unit_or : (i n : ℕ) (id : Id) → HasUnit were i n id → (i ≢ place → IsLeft client first id) × (i ≡ place → IsLeft client first id → ⊥)
  unit_or i n id has = (
    (λ ne. elim (eq_says id.client.0 client) [
      | inr x ↦ inl x.1
      | inl x ↦ elim (lt_says id.clock first) [
        | inl y ↦ inr y.1
        | inr y ↦ absurd (ne (one_run old.placed.lines were arena i place id.clock has.within takes.within
            (ap (λ (k : ℕ). record { 0 = k }) (ap (λ (c : Client). c.0) has.client ∙ x.1 ∙ sym takes.own))
            (omega (arith, has.clock)) (omega (arith, has.clock, has.inside)) y.1
            (omega (arith, takes.ends, subst (λ k. id.clock < next_clock old.placed k) x.1 (unit_below old.placed.lines were arena.holds i n id has)))))
      ]
    ]),
    (λ e l. elim l [
      | inl x ↦ absurd (x (sym (ap (λ (c : Client). c.0) has.client) ∙ ap (λ j. (stretch_at were j).id.client.0) e ∙ takes.own))
      | inr x ↦ absurd (omega (arith, x, has.clock, ap (λ j. (stretch_at were j).id.clock) e))
    ]),
  )

  op_unit : (i : ℕ) (o : Operation) → i < length were → IsIn o (was i) → HasUnit were i (o.id.clock - (stretch_at were i).id.clock) o.id
  op_unit i o lt h =
      let a = told_among (stretch_at were i) (run_at (told_of old.contents) i) o (are.fits i lt) h in
      record { within = lt; inside = omega (arith, a.low, a.high); client = sym a.client; clock = omega (arith, a.low) }

  kept_at : (i : ℕ) → i < length were → filter (is_left client first) (was i) ≡ now i
  kept_at i lt = elim (eq_says i place) [
    | inl y ↦ filter_none (is_left client first) (was i) (λ o h. left_fails client first o ((unit_or i _ o.id (op_unit i o lt h)).1 y.1)) ∙ sym (ap now y.1 ∙ at_this)
    | inr y ↦ filter-all (is_left client first) (was i) (λ o h. left_passes client first o ((unit_or i _ o.id (op_unit i o lt h)).0 y.1)) ∙ sym (at_other i y.1)
  ]

  in_list : (list : ℕ) → list < count_of old.placed → operations_in new list ≡ filter (is_left client first) (operations_in old list)
  in_list list lt =
      let xs = places_in old.placed list in
      elim (has_place place xs) [
        | inl h ↦ ap (flat_map now) (takes.lists.own list lt h) ∙ without_one now place xs h at_this
        | inr h ↦ ap (flat_map now) (takes.lists.others list lt h)
      ]
      ∙ sym (filter_each (is_left client first) was now xs (λ i h. kept_at i (lists.within list i lt h)))

  -- the rows of a place, before and after
  abbrev rows_was : ℕ → List Row
  rows_was = λ i. rows_of_run (stretch_at were i)

  abbrev rows_now : ℕ → List Row
  rows_now = λ i. rows_of_run (stretch_at (runs_of new.placed) i)

  abbrev row_left : Row → Bool
  row_left = λ row. is_id_left client first row.id

  rows_kept_at : (i : ℕ) → i < length were → filter row_left (rows_was i) ≡ rows_now i
  rows_kept_at i lt = elim (eq_says i place) [
    | inl y ↦ filter_none row_left (rows_was i) (λ row h. id_fails client first row.id ((unit_or i _ row.id (row_unit were i row lt h)).1 y.1)) ∙ sym (ap rows_now y.1 ∙ ap rows_of_run this_run)
    | inr y ↦ filter-all row_left (rows_was i) (λ row h. id_passes client first row.id ((unit_or i _ row.id (row_unit were i row lt h)).0 y.1)) ∙ sym (ap rows_of_run (other_run i y.1))
  ]

  rows_left : (list : ℕ) → list < count_of old.placed → rows_in new.placed list ≡ filter row_left (rows_in old.placed list)
  rows_left list lt =
      let xs = places_in old.placed list in
      elim (has_place place xs) [
        | inl h ↦ ap (flat_map rows_now) (takes.lists.own list lt h) ∙ without_one rows_now place xs h (ap rows_of_run this_run)
        | inr h ↦ ap (flat_map rows_now) (takes.lists.others list lt h)
      ]
      ∙ sym (filter_each row_left rows_was rows_now xs (λ i h. rows_kept_at i (lists.within list i lt h)))

  operations_back : (o : Operation) → HasOperation new o → HasOperation old o × IsLeft client first o.id
  operations_back o h = elim (eq_says h.place place) [
    | inl y ↦ absurd (subst (IsIn o) (ap now y.1 ∙ at_this) h.member)
    | inr y ↦
        let lt : h.place < length were = omega (arith, h.within, taken_len) in
        let m : IsIn o (was h.place) = subst (IsIn o) (at_other h.place y.1) h.member in
        (record { place = h.place; within = lt; member = m }, (unit_or h.place _ o.id (op_unit h.place o lt m)).0 y.1)
  ]

  operations_on : (o : Operation) → HasOperation old o × IsLeft client first o.id → HasOperation new o
  operations_on o h = elim (eq_says h.0.place place) [
    | inl y ↦ absurd ((unit_or h.0.place _ o.id (op_unit h.0.place o h.0.within h.0.member)).1 y.1 h.1)
    | inr y ↦ record { place = h.0.place; within = omega (arith, h.0.within, taken_len); member = subst (IsIn o) (sym (at_other h.0.place y.1)) h.0.member }
  ]

  marked_back : (id : Id) → IsMarked (runs_of new.placed) old.marks.rows id → IsMarked were old.marks.rows id × IsLeft client first id
  marked_back id m = elim (eq_says m.place place) [
    | inl y ↦ absurd (omega (arith, m.has.inside, ap (λ j. (stretch_at (runs_of new.placed) j).len) y.1, ap (λ (r : Stretch). r.len) this_run))
    | inr y ↦
        let e = other_run m.place y.1 in
        let has : HasUnit were m.place m.before id = record {
          within = omega (arith, m.has.within, taken_len);
          inside = subst (λ (r : Stretch). m.before < r.len) e m.has.inside;
          client = subst (λ (r : Stretch). r.id.client ≡ id.client) e m.has.client;
          clock = subst (λ (r : Stretch). r.id.clock + m.before ≡ id.clock) e m.has.clock;
        } in
        (record { place = m.place; before = m.before; has = has; deleted = m.deleted }, (unit_or m.place m.before id has).0 y.1)
  ]

  marked_on : (id : Id) → IsMarked were old.marks.rows id × IsLeft client first id → IsMarked (runs_of new.placed) old.marks.rows id
  marked_on id h = elim (eq_says h.0.place place) [
    | inl y ↦ absurd ((unit_or h.0.place h.0.before id h.0.has).1 y.1 h.1)
    | inr y ↦
        let e = sym (other_run h.0.place y.1) in
        record {
          place = h.0.place;
          before = h.0.before;
          has = record {
            within = omega (arith, h.0.has.within, taken_len);
            inside = subst (λ (r : Stretch). h.0.before < r.len) e h.0.has.inside;
            client = subst (λ (r : Stretch). r.id.client ≡ id.client) e h.0.has.client;
            clock = subst (λ (r : Stretch). r.id.clock + h.0.before ≡ id.clock) e h.0.has.clock;
          };
          deleted = h.0.deleted;
        }
  ]

  border_stays : (k c : ℕ) → IsBorder were k c → IsBorder (runs_of new.placed) k c
  border_stays k c border i il own = elim (eq_says i place) [
    | inl y ↦ elim (lt_says (stretch_at (runs_of new.placed) i).id.clock c) [
      | inl w ↦ inl (omega (arith, w.1, ap (λ j. (stretch_at (runs_of new.placed) j).len) y.1, ap (λ (r : Stretch). r.len) this_run))
      | inr w ↦ inr w.1
    ]
    | inr y ↦ subst (λ (r : Stretch). (r.id.clock + r.len ≤ c) ⊎ (c ≤ r.id.clock)) (sym (other_run i y.1))
        (border i (omega (arith, il, taken_len)) (subst (λ (r : Stretch). r.id.client.0 ≡ k) (other_run i y.1) own))
  ]

  pub takes_back : TakesBack old new client first
  takes_back = record {
    count = takes.lists.count;
    lists = in_list;
    rows = rows_left;
    operations = λ o. (operations_back o, operations_on o);
    marks = λ id. rw rows (marked_back id, marked_on id);
    next = takes.next;
    other_nexts = takes.other_nexts;
    borders = border_stays;
  }
