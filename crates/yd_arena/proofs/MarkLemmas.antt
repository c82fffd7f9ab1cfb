-- Which runs and which units are marked.
use Rattle.std.proofs.Common.{◌≡◌, ◌≢◌, ℕ, ◌+◌, ◌-◌, ◌<◌, ◌≤◌, ◌⊎◌, inl, inr, true, List, [], ◌∷◌, ◌++◌, Option, Some, None, length, set, refl, sym, ap, ◌∙◌, subst, arith}
use Rattle.std.proofs.lemmas.List.{get_or_append_left, get_or_at, length-append, length-set, get_or-set_same, get_or-set_other}
use Rattle.yd_ids.specs.declared.id.Id.{Id}
use Rattle.yd_ids.specs.declared.id.Client.{Client}
use Rattle.yd_ids.specs.declared.id.Span.{Span}
use Rattle.yd_ids.specs.Span.{InSpan}
use Rattle.yd_words.specs.Member.{IsIn}
use Rattle.yd_scan.specs.declared.stretch.Stretch.{Stretch}
use Rattle.yd_scan.specs.Stretches.{stretch_at, no_stretch, units_of}
use Rattle.yd_index.specs.declared.line.Entry.{Entry}
use Rattle.yd_index.specs.Line.{Lined}
use Rattle.yd_index.specs.Lines.{next_of, entry_at}
use Rattle.yd_index.specs.Holding.{cut_stretches}
use Rattle.yd_index.proofs.LineLemmas.{lt_says}
use Rattle.yd_index.proofs.LinesLemmas.{eq_says}
use Rattle.yd_index.proofs.RowLemmas.{from_says, from_in, index_is_exact}
use Rattle.yd_index.proofs.HoldingLemmas.{below_or_last}
use Rattle.yd_index.proofs.CuttingLemmas.{cut_len, cut_front, cut_rest, cut_other}
use Rattle.yd_arena.specs.Arena.{IsArena, HasUnit}
use Rattle.yd_arena.proofs.ArenaLemmas.{entry_has}
use Rattle.yd_arena.specs.declared.mark.Mark.{Mark}
use Rattle.yd_arena.specs.Marks.{no_mark, mark_at, as_deleted, BeginsIn, IsBorder, MarksClocks, MarksSpan, IsMarked}
use Rattle.yd_arena.specs.MarksLaw.{MarksAreUnits, CutsKeepMarks, AddsKeepMarks}
use Rattle.yd_arena.proofs.BorderLemmas.{only_begins}

-- ---- a span, run by run

-- no clock is marked yet
pub marks_none : (runs : List Stretch) (rows : List Mark) (client clock : ℕ) → MarksClocks runs rows rows client clock clock
marks_none runs rows client clock = record {
  count = refl;
  counted = λ i. refl;
  within = λ i il b. absurd (omega (arith, b.from, b.below));
  others = λ i out. refl;
}

-- the run that begins there is marked next
pub marks_more : (lines : List Lined) (runs : List Stretch) (old now : List Mark) (client first clock place : ℕ) → IsArena lines runs → MarksClocks runs old now client first clock → length now ≡ length runs → first ≤ clock →
    place < length runs → (stretch_at runs place).id.client.0 ≡ client → (stretch_at runs place).id.clock ≡ clock → 0 < (stretch_at runs place).len →
    MarksClocks runs old (set now place (as_deleted (mark_at now place))) client first (clock + (stretch_at runs place).len)
marks_more lines runs old now client first clock place arena so_far each low within own begins filled = record {
  count = length-set now place (as_deleted (mark_at now place)) ∙ so_far.count;
  counted = λ i. elim (eq_says i place) [
    | inl y ↦ subst (λ j. (mark_at marked j).counted ≡ (mark_at old j).counted) (sym y.1) (ap (λ (m : Mark). m.counted) here ∙ so_far.counted place)
    | inr y ↦ ap (λ (m : Mark). m.counted) (other i y.1) ∙ so_far.counted i
  ];
  within = λ i il b. elim (eq_says i place) [
    | inl y ↦ subst (λ j. (mark_at marked j).deleted ≡ true) (sym y.1) (ap (λ (m : Mark). m.deleted) here)
    | inr y ↦ ap (λ (m : Mark). m.deleted) (other i y.1) ∙ so_far.within i il (record { filled = b.filled; own = b.own; from = b.from; below = before i il b y.1 })
  ];
  others = λ i out. elim (eq_says i place) [
    | inl y ↦ absurd (out (subst (λ j. BeginsIn (stretch_at runs j) client first (clock + (stretch_at runs place).len)) (sym y.1) (record { filled = filled; own = own; from = omega (arith, low, begins); below = omega (arith, begins, filled) })))
    | inr y ↦ other i y.1 ∙ so_far.others i (λ b. out (record { filled = b.filled; own = b.own; from = b.from; below = omega (arith, b.below) }))
  ];
}
  where
    marked : List Mark
    marked = set now place (as_deleted (mark_at now place))

    here : mark_at marked place ≡ as_deleted (mark_at now place)
    here = get_or-set_same now place (as_deleted (mark_at now place)) no_mark (omega (arith, within, each))

    other : (i : ℕ) → i ≢ place → mark_at marked i ≡ mark_at now i
    other i ne = get_or-set_other now place i (as_deleted (mark_at now place)) no_mark ne

    before : (i : ℕ) → i < length runs → BeginsIn (stretch_at runs i) client first (clock + (stretch_at runs place).len) → i ≢ place → (stretch_at runs i).id.clock < clock
    before i il b ne = elim (lt_says (stretch_at runs i).id.clock clock) [
      | inl y ↦ y.1
      | inr y ↦ absurd (ne (only_begins lines runs arena client place clock within own begins filled i il b.filled b.own y.1 b.below))
    ]

-- ---- units

-- a unit below the next clock of its client stands in a run
pub unit_stands : (lines : List Lined) (runs : List Stretch) (id : Id) → IsArena lines runs → id.clock < next_of lines id.client.0 → (place : ℕ) × (n : ℕ) × HasUnit runs place n id
unit_stands lines runs id arena low = go (entry_at lines id) refl
  where
    go : (z : Option Entry) → entry_at lines id ≡ z → (place : ℕ) × (n : ℕ) × HasUnit runs place n id
    go None e = absurd (omega (arith, low, (index_is_exact lines runs id arena.holds).0 e))
    go (Some x) e = (x.place, id.clock - x.clock, (entry_has lines runs arena.holds id x e).1)

begins_or : (run : Stretch) (client first end : ℕ) → 0 < run.len → BeginsIn run client first end ⊎ (BeginsIn run client first end → ⊥)
begins_or run client first end filled = elim (eq_says run.id.client.0 client) [
  | inr x ↦ inr (λ b. x.1 b.own)
  | inl x ↦ elim (lt_says run.id.clock first) [
    | inl y ↦ inr (λ b. omega (arith, b.from, y.1))
    | inr y ↦ elim (lt_says run.id.clock end) [
      | inl z ↦ inl (record { filled = filled; own = x.1; from = y.1; below = z.1 })
      | inr z ↦ inr (λ b. omega (arith, b.below, z.1))
    ]
  ]
]

some_filled : (runs : List Stretch) (place n : ℕ) (id : Id) → HasUnit runs place n id → 0 < (stretch_at runs place).len
some_filled runs place n id has = omega (arith, has.inside)

pub marks_are_units : MarksAreUnits
marks_are_units = λ lines runs old new span arena front back held marks id. (to lines runs old new span arena front back marks id, from lines runs old new span arena front back held marks id)
  where
    to : (lines : List Lined) (runs : List Stretch) (old new : List Mark) (span : Span) → IsArena lines runs → IsBorder runs span.client.0 span.clock → IsBorder runs span.client.0 (span.clock + span.len) → MarksSpan runs old new span →
        (id : Id) → IsMarked runs new id → IsMarked runs old id ⊎ InSpan span id
    to lines runs old new span arena front back marks id m = elim (begins_or (stretch_at runs m.place) span.client.0 span.clock (span.clock + span.len) (some_filled runs m.place m.before id m.has)) [
      | inl b ↦ inr (
        sym b.own ∙ ap (λ (c : Client). c.0) m.has.client,
        omega (arith, b.from, m.has.clock),
        (elim (back m.place m.has.within b.own) [ inl y ↦ omega (arith, y, m.has.clock, m.has.inside) | inr y ↦ absurd (omega (arith, y, b.below)) ]),
      )
      | inr out ↦ inl (record { place = m.place; before = m.before; has = m.has; deleted = ap (λ (k : Mark). k.deleted) (sym (marks.others m.place out)) ∙ m.deleted })
    ]

    from : (lines : List Lined) (runs : List Stretch) (old new : List Mark) (span : Span) → IsArena lines runs → IsBorder runs span.client.0 span.clock → IsBorder runs span.client.0 (span.clock + span.len) →
        span.clock + span.len ≤ next_of lines span.client.0 → MarksSpan runs old new span → (id : Id) → IsMarked runs old id ⊎ InSpan span id → IsMarked runs new id
    from lines runs old new span arena front back held marks id (inl m) = record {
      place = m.place;
      before = m.before;
      has = m.has;
      deleted = elim (begins_or (stretch_at runs m.place) span.client.0 span.clock (span.clock + span.len) (some_filled runs m.place m.before id m.has)) [
        | inl b ↦ marks.within m.place m.has.within b
        | inr out ↦ ap (λ (k : Mark). k.deleted) (marks.others m.place out) ∙ m.deleted
      ];
    }
    from lines runs old new span arena front back held marks id (inr s) =
        let stands = unit_stands lines runs id arena (omega (arith, s.2, held, ap (next_of lines) s.0)) in
        let has = stands.2 in
        let own : (stretch_at runs stands.0).id.client.0 ≡ span.client.0 = ap (λ (c : Client). c.0) has.client ∙ sym s.0 in
        record {
          place = stands.0;
          before = stands.1;
          has = has;
          deleted = marks.within stands.0 has.within (record {
            filled = omega (arith, has.inside);
            own = own;
            from = elim (front stands.0 has.within own) [ inl y ↦ absurd (omega (arith, y, has.clock, has.inside, s.1)) | inr y ↦ y ];
            below = omega (arith, has.clock, s.2);
          });
        }

-- ---- a cut

module _ (runs : List Stretch) (rows : List Mark) (place n : ℕ) (each : length rows ≡ length runs) (within : place < length runs) (le : n ≤ (stretch_at runs place).len) (id : Id) where
  abbrev cut : List Stretch
  cut = cut_stretches runs place n

  abbrev more : List Mark
  more = rows ++ mark_at rows place ∷ []

  old_row : (i : ℕ) → i < length runs → mark_at more i ≡ mark_at rows i
  old_row i lt = get_or_append_left rows (mark_at rows place ∷ []) no_mark i (omega (arith, lt, each))

  new_row : mark_at more (length runs) ≡ mark_at rows place
  new_row = get_or_at rows (mark_at rows place) [] no_mark (length runs) each

  len : length cut ≡ length runs + 1
  len = cut_len runs place n within

  -- what a run has that is like another one, but for its length
  front_unit : (b : ℕ) → HasUnit cut place b id → HasUnit runs place b id
  front_unit b h =
      let e = cut_front runs place n within in
      record {
        within = within;
        inside = omega (arith, h.inside, ap (λ (r : Stretch). r.len) e, le);
        client = ap (λ (r : Stretch). r.id.client) (sym e) ∙ h.client;
        clock = ap (λ (r : Stretch). r.id.clock + b) (sym e) ∙ h.clock;
      }

  rest_unit : (b : ℕ) → HasUnit cut (length runs) b id → HasUnit runs place (n + b) id
  rest_unit b h =
      let e = cut_rest runs place n within in
      record {
        within = within;
        inside = omega (arith, h.inside, ap (λ (r : Stretch). r.len) e, le);
        client = ap (λ (r : Stretch). r.id.client) (sym e) ∙ h.client;
        clock = omega (arith, h.clock, ap (λ (r : Stretch). r.id.clock) e);
      }

  other_unit : (i b : ℕ) → i < length runs → i ≢ place → HasUnit cut i b id → HasUnit runs i b id
  other_unit i b lt ne h =
      let e = cut_other runs place n within i lt ne in
      record {
        within = lt;
        inside = subst (λ (r : Stretch). b < r.len) e h.inside;
        client = subst (λ (r : Stretch). r.id.client ≡ id.client) e h.client;
        clock = subst (λ (r : Stretch). r.id.clock + b ≡ id.clock) e h.clock;
      }

  cut_back : IsMarked cut more id → IsMarked runs rows id
  cut_back m = elim (below_or_last m.place (length runs) (omega (arith, m.has.within, len))) [
    | inl lt ↦ elim (eq_says m.place place) [
      | inl y ↦ record { place = place; before = m.before; has = front_unit m.before (subst (λ i. HasUnit cut i m.before id) y.1 m.has); deleted = subst (λ i. (mark_at rows i).deleted ≡ true) y.1 (ap (λ (k : Mark). k.deleted) (sym (old_row m.place lt)) ∙ m.deleted) }
      | inr y ↦ record { place = m.place; before = m.before; has = other_unit m.place m.before lt y.1 m.has; deleted = ap (λ (k : Mark). k.deleted) (sym (old_row m.place lt)) ∙ m.deleted }
    ]
    | inr e ↦ record { place = place; before = n + m.before; has = rest_unit m.before (subst (λ i. HasUnit cut i m.before id) e m.has); deleted = ap (λ (k : Mark). k.deleted) (sym new_row) ∙ subst (λ i. (mark_at more i).deleted ≡ true) e m.deleted }
  ]

  cut_on : IsMarked runs rows id → IsMarked cut more id
  cut_on m = elim (eq_says m.place place) [
    | inl y ↦ elim (lt_says m.before n) [
      | inl low ↦ record { place = place; before = m.before; has = in_front (subst (λ i. HasUnit runs i m.before id) y.1 m.has) low.1; deleted = ap (λ (k : Mark). k.deleted) (old_row place within) ∙ subst (λ i. (mark_at rows i).deleted ≡ true) y.1 m.deleted }
      | inr high ↦ record { place = length runs; before = m.before - n; has = in_rest (subst (λ i. HasUnit runs i m.before id) y.1 m.has) high.1; deleted = ap (λ (k : Mark). k.deleted) new_row ∙ subst (λ i. (mark_at rows i).deleted ≡ true) y.1 m.deleted }
    ]
    | inr y ↦ record { place = m.place; before = m.before; has = in_other y.1; deleted = ap (λ (k : Mark). k.deleted) (old_row m.place m.has.within) ∙ m.deleted }
  ]
    where
      in_front : HasUnit runs place m.before id → m.before < n → HasUnit cut place m.before id
      in_front h low =
          let e = cut_front runs place n within in
          record {
            within = omega (arith, within, len);
            inside = omega (arith, low, ap (λ (r : Stretch). r.len) e);
            client = ap (λ (r : Stretch). r.id.client) e ∙ h.client;
            clock = ap (λ (r : Stretch). r.id.clock + m.before) e ∙ h.clock;
          }

      in_rest : HasUnit runs place m.before id → n ≤ m.before → HasUnit cut (length runs) (m.before - n) id
      in_rest h high =
          let e = cut_rest runs place n within in
          record {
            within = omega (arith, len);
            inside = omega (arith, h.inside, high, ap (λ (r : Stretch). r.len) e);
            client = ap (λ (r : Stretch). r.id.client) e ∙ h.client;
            clock = omega (arith, h.clock, high, ap (λ (r : Stretch). r.id.clock) e);
          }

      in_other : m.place ≢ place → HasUnit cut m.place m.before id
      in_other ne =
          let e = cut_other runs place n within m.place m.has.within ne in
          record {
            within = omega (arith, m.has.within, len);
            inside = subst (λ (r : Stretch). m.before < r.len) (sym e) m.has.inside;
            client = subst (λ (r : Stretch). r.id.client ≡ id.client) (sym e) m.has.client;
            clock = subst (λ (r : Stretch). r.id.clock + m.before ≡ id.clock) (sym e) m.has.clock;
          }

pub cuts_keep_marks : CutsKeepMarks
cuts_keep_marks = λ runs rows place n each within le id. (cut_back runs rows place n each within le id, cut_on runs rows place n each within le id)

-- ---- a run more

module _ (runs : List Stretch) (rows : List Mark) (run : Stretch) (mark : Mark) (each : length rows ≡ length runs) (id : Id) where
  last_run : stretch_at (runs ++ run ∷ []) (length runs) ≡ run
  last_run = get_or_at runs run [] no_stretch (length runs) refl

  last_mark : mark_at (rows ++ mark ∷ []) (length runs) ≡ mark
  last_mark = get_or_at rows mark [] no_mark (length runs) each

  first_run : (i : ℕ) → i < length runs → stretch_at (runs ++ run ∷ []) i ≡ stretch_at runs i
  first_run i lt = get_or_append_left runs (run ∷ []) no_stretch i lt

  first_mark : (i : ℕ) → i < length runs → mark_at (rows ++ mark ∷ []) i ≡ mark_at rows i
  first_mark i lt = get_or_append_left rows (mark ∷ []) no_mark i (omega (arith, lt, each))

  more_len : length (runs ++ run ∷ []) ≡ length runs + 1
  more_len = length-append runs (run ∷ [])

  added_back : IsMarked (runs ++ run ∷ []) (rows ++ mark ∷ []) id → IsMarked runs rows id ⊎ ((mark.deleted ≡ true) × IsIn id (units_of run))
  added_back m = elim (below_or_last m.place (length runs) (omega (arith, m.has.within, more_len))) [
    | inl lt ↦ (let e = first_run m.place lt in inl (record {
      place = m.place;
      before = m.before;
      has = record {
        within = lt;
        inside = subst (λ (r : Stretch). m.before < r.len) e m.has.inside;
        client = subst (λ (r : Stretch). r.id.client ≡ id.client) e m.has.client;
        clock = subst (λ (r : Stretch). r.id.clock + m.before ≡ id.clock) e m.has.clock;
      };
      deleted = ap (λ (k : Mark). k.deleted) (sym (first_mark m.place lt)) ∙ m.deleted;
    }))
    | inr is ↦ (let e : stretch_at (runs ++ run ∷ []) m.place ≡ run = subst (λ i. stretch_at (runs ++ run ∷ []) i ≡ run) (sym is) last_run in
        let inside : m.before < run.len = subst (λ (r : Stretch). m.before < r.len) e m.has.inside in
        let clock : run.id.clock + m.before ≡ id.clock = subst (λ (r : Stretch). r.id.clock + m.before ≡ id.clock) e m.has.clock in
        inr (
          ap (λ (k : Mark). k.deleted) (sym last_mark) ∙ subst (λ i. (mark_at (rows ++ mark ∷ []) i).deleted ≡ true) is m.deleted,
          from_in run.id.client run.len run.id.clock id (sym (subst (λ (r : Stretch). r.id.client ≡ id.client) e m.has.client)) (omega (arith, clock)) (omega (arith, clock, inside)),
        ))
  ]

  added_on : IsMarked runs rows id ⊎ ((mark.deleted ≡ true) × IsIn id (units_of run)) → IsMarked (runs ++ run ∷ []) (rows ++ mark ∷ []) id
  added_on (inl m) =
      let e = first_run m.place m.has.within in
      record {
        place = m.place;
        before = m.before;
        has = record {
          within = omega (arith, m.has.within, more_len);
          inside = subst (λ (r : Stretch). m.before < r.len) (sym e) m.has.inside;
          client = subst (λ (r : Stretch). r.id.client ≡ id.client) (sym e) m.has.client;
          clock = subst (λ (r : Stretch). r.id.clock + m.before ≡ id.clock) (sym e) m.has.clock;
        };
        deleted = ap (λ (k : Mark). k.deleted) (first_mark m.place m.has.within) ∙ m.deleted;
      }
  added_on (inr h) =
      let s = from_says run.id.client run.len run.id.clock id h.1 in
      record {
        place = length runs;
        before = id.clock - run.id.clock;
        has = record {
          within = omega (arith, more_len);
          inside = subst (λ (r : Stretch). id.clock - run.id.clock < r.len) (sym last_run) (omega (arith, s.1, s.2));
          client = subst (λ (r : Stretch). r.id.client ≡ id.client) (sym last_run) (sym s.0);
          clock = subst (λ (r : Stretch). r.id.clock + (id.clock - run.id.clock) ≡ id.clock) (sym last_run) (omega (arith, s.1));
        };
        deleted = ap (λ (k : Mark). k.deleted) last_mark ∙ h.0;
      }

pub adds_keep_marks : AddsKeepMarks
adds_keep_marks = λ runs rows run mark each id. (added_back runs rows run mark each id, added_on runs rows run mark each id)
