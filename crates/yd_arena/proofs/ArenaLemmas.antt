-- The index finds the runs at their places: an id, and where a run is added or cut.
use Rattle.std.proofs.Common.{◌≡◌, ◌^◌, ℕ, ◌+◌, ◌-◌, ◌<◌, ◌≤◌, inl, inr, List, [], ◌∷◌, ◌++◌, Option, Some, None, length, refl, sym, ap, ◌∙◌, subst, arith}
use Rattle.std.specs.Prelude.{IfNone}
use Rattle.yd_ids.specs.declared.id.Id.{Id}
use Rattle.yd_ids.specs.declared.id.Client.{Client}
use Rattle.yd_ids.specs.Id.{IsClock}
use Rattle.yd_words.specs.Member.{IsIn}
use Rattle.yd_words.proofs.OptionLemmas.{some_is}
use Rattle.yd_scan.specs.declared.stretch.Stretch.{Stretch}
use Rattle.yd_scan.specs.Stretches.{stretch_at, units_of}
use Rattle.yd_index.specs.declared.line.Entry.{Entry}
use Rattle.yd_index.specs.Line.{Lined, IsInside, entry_in}
use Rattle.yd_index.specs.Lines.{entries_of, next_of, entry_at, Changes, Stays, Adds, Cuts}
use Rattle.yd_index.specs.Holding.{place_in, places_of, Holds, entry_for, cut_stretches}
use Rattle.yd_index.proofs.LineLemmas.{lt_says}
use Rattle.yd_index.proofs.LinesLemmas.{eq_says}
use Rattle.yd_index.proofs.RowLemmas.{from_says, found_run, only_run, entry_run, index_is_exact}
use Rattle.yd_index.proofs.HoldingLemmas.{added_is_held}
use Rattle.yd_index.proofs.CuttingLemmas.{cut_is_held}
use Rattle.yd_arena.specs.Arena.{IsArena, HasUnit}
use Rattle.yd_arena.specs.Law.{UnitsStandOnce}

-- ---- an id and the run that has its unit

pub if_none : {T : Type 0} (z : Option T) (P : Type 0) → P → IfNone z P
if_none None P p = p
if_none (Some x) P p = tt

abbrev client_of : ℕ → Client
client_of n = record { 0 = n }

module _ (lines : List Lined) (runs : List Stretch) (h : Holds lines runs) where
  -- the entry of an id is that of the run with its unit
  pub entry_has : (id : Id) (e : Entry) → entry_at lines id ≡ Some e → (e.clock ≤ id.clock) × HasUnit runs e.place (id.clock - e.clock) id
  entry_has id e s =
      let k = id.client.0 in
      let r = only_run runs k (entries_of lines k) 0 (next_of lines k) id.clock e (h.fills k) (omega arith) s in
      let o = entry_run runs k (entries_of lines k) 0 (next_of lines k) e (h.fills k) r.0 in (
        r.1,
        record {
          within = o.within;
          inside = omega (arith, r.1, r.2);
          client = ap client_of o.client_is;
          clock = omega (arith, r.1, o.clock_is);
        },
      )

  pub unit_entry : (place n : ℕ) (id : Id) → HasUnit runs place n id → entry_at lines id ≡ Some (entry_for runs place)
  unit_entry place n id u =
      let k = (stretch_at runs place).id.client.0 in
      let filled : 0 < (stretch_at runs place).len = omega (arith, u.inside) in
      let low : (stretch_at runs place).id.clock ≤ id.clock = omega (arith, u.clock) in
      let high : id.clock < (stretch_at runs place).id.clock + (stretch_at runs place).len = omega (arith, u.clock, u.inside) in
      subst (λ (c : Client). entry_in (entries_of lines c.0) (next_of lines c.0) id.clock ≡ Some (entry_for runs place)) u.client
      (found_run runs k (entries_of lines k) 0 (next_of lines k) id.clock (entry_for runs place) (h.fills k) (h.each place u.within filled) low high)

  pub unit_below : (place n : ℕ) (id : Id) → HasUnit runs place n id → id.clock < next_of lines id.client.0
  unit_below place n id u = elim (lt_says id.clock (next_of lines id.client.0)) [
    | inl y ↦ y.1
    | inr y ↦ (let no : None ≡ Some (entry_for runs place) = sym ((index_is_exact lines runs id h).1 y.1) ∙ unit_entry place n id u in absurd cc)
  ]

  pub none_above : (id : Id) → entry_at lines id ≡ None → next_of lines id.client.0 ≤ id.clock
  none_above id e = (index_is_exact lines runs id h).0 e

pub units_stand_once : UnitsStandOnce
units_stand_once = λ lines runs id place n other m a u v.
    let e = some_is (entry_for runs place) (entry_for runs other) (sym (unit_entry lines runs a.holds place n id u) ∙ unit_entry lines runs a.holds other m id v) in
    let p : place ≡ other = ap (λ (x : Entry). x.place) e in
    (p, omega (arith, u.clock, v.clock, ap (λ i. (stretch_at runs i).id.clock) p), unit_below lines runs a.holds place n id u)

-- the id of a unit of a run
abbrev pub unit_id : List Stretch → ℕ → ℕ → Id
unit_id runs place n = record { client = (stretch_at runs place).id.client; clock = (stretch_at runs place).id.clock + n }

pub own_unit : (runs : List Stretch) (place n : ℕ) → place < length runs → n < (stretch_at runs place).len → HasUnit runs place n (unit_id runs place n)
own_unit runs place n within inside = record { within = within; inside = inside; client = refl; clock = refl }

-- a cut that the index has made, told by the run that was read and by the next place
pub index_cut : (old new : List Lined) (runs : List Stretch) (place n : ℕ) (run : Stretch) (more : ℕ) → run ≡ stretch_at runs place → more ≡ length runs →
    Cuts old new (record { client = run.id.client; clock = run.id.clock + n }) more → Cuts old new (unit_id runs place n) (length runs)
index_cut old new runs place n run more e m cuts =
    subst (λ (r : Stretch). Cuts old new (record { client = r.id.client; clock = r.id.clock + n }) (length runs)) e
    (subst (λ k. Cuts old new (record { client = run.id.client; clock = run.id.clock + n }) k) m cuts)

-- ---- the index stays so

-- no entry and no next clock changes
pub arena_same : (old new : List Lined) (runs : List Stretch) → IsArena old runs → ((k : ℕ) → entries_of new k ≡ entries_of old k) → ((k : ℕ) → next_of new k ≡ next_of old k) → IsArena new runs
arena_same old new runs a es ns = record {
  holds = record {
    fills = λ k. rw (es k, ns k) (a.holds.fills k);
    each = λ i lt pos. rw (es (stretch_at runs i).id.client.0) (a.holds.each i lt pos);
  };
  clocks = λ k. rw (ns k) (a.clocks k);
}

-- what a change that leaves a client's entries and its next clock says of all clients
pub entries_same : (old new : List Lined) (k : ℕ) → Stays old new k → (j : ℕ) → entries_of new j ≡ entries_of old j
entries_same old new k ch j = elim (eq_says j k) [
  | inl y ↦ subst (λ i. entries_of new i ≡ entries_of old i) (sym y.1) ch.entries_are
  | inr y ↦ ch.other_entries j y.1
]

pub nexts_same : (old new : List Lined) (k : ℕ) (es : List Entry) → Changes old new k es (next_of old k) → (j : ℕ) → next_of new j ≡ next_of old j
nexts_same old new k es ch j = elim (eq_says j k) [
  | inl y ↦ subst (λ i. next_of new i ≡ next_of old i) (sym y.1) ch.next_is
  | inr y ↦ ch.other_nexts j y.1
]

module _ (lines : List Lined) (runs : List Stretch) (a : IsArena lines runs) (place n : ℕ) (within : place < length runs) (inside : n < (stretch_at runs place).len) where
  pub unit_clock : (stretch_at runs place).id.clock + n < 2 ^ 53
  unit_clock = omega (arith, unit_below lines runs a.holds place n (unit_id runs place n) (own_unit runs place n within inside), a.clocks (stretch_at runs place).id.client.0)

  module _ (later : 0 < n) where
    pub cut_inside : IsInside (entries_of lines (stretch_at runs place).id.client.0) (next_of lines (stretch_at runs place).id.client.0) ((stretch_at runs place).id.clock + n)
    cut_inside = record {
      entry = entry_for runs place;
      found = unit_entry lines runs a.holds place n (unit_id runs place n) (own_unit runs place n within inside);
      behind_first = omega (arith, later);
    }

    module _ (new : List Lined) (ch : Cuts lines new (unit_id runs place n) (length runs)) where
      pub cut_nexts : (k : ℕ) → next_of new k ≡ next_of lines k
      cut_nexts = nexts_same lines new (stretch_at runs place).id.client.0 _ ch

      pub arena_cut : IsArena new (cut_stretches runs place n)
      arena_cut =
          let e : (stretch_at runs place).id.clock + n - (stretch_at runs place).id.clock ≡ n = omega arith in
          record {
            holds = subst (λ m. Holds new (cut_stretches runs place m)) e
                (cut_is_held lines new runs (unit_id runs place n) (entry_for runs place) a.holds
                (unit_entry lines runs a.holds place n (unit_id runs place n) (own_unit runs place n within inside)) (omega (arith, later)) ch);
            clocks = λ k. rw (cut_nexts k) (a.clocks k);
          }

-- ---- a run more

module _ (lines : List Lined) (runs : List Stretch) (run : Stretch) (a : IsArena lines runs) (at_next : run.id.clock ≡ next_of lines run.id.client.0) (filled : 0 < run.len) where
  -- no unit of the run has a place
  pub new_unheld : (u : Id) → IsIn u (units_of run) → places_of lines u ≡ None
  new_unheld u h =
      let s = from_says run.id.client run.len run.id.clock u h in
      let e : next_of lines run.id.client.0 ≡ next_of lines u.client.0 = ap (λ (c : Client). next_of lines c.0) (sym s.0) in
      ap place_in ((index_is_exact lines runs u a.holds).1 (omega (arith, e, at_next, s.1)))

  module _ (new : List Lined) (fits : IsClock (run.id.clock + run.len))
      (ch : Adds lines new run.id.client.0 (length runs) run.len) where
    pub next_is : next_of new run.id.client.0 ≡ run.id.clock + run.len
    next_is = ch.next_is ∙ ap (λ m. m + run.len) (sym at_next)

    pub arena_added : IsArena new (runs ++ run ∷ [])
    arena_added = record {
      holds = added_is_held lines new runs run a.holds filled at_next ch;
      clocks = λ k. elim (eq_says k run.id.client.0) [
        | inl y ↦ subst (λ j. IsClock (next_of new j)) (sym y.1) (subst (λ m. IsClock m) (sym next_is) fits)
        | inr y ↦ subst (λ m. IsClock m) (sym (ch.other_nexts k y.1)) (a.clocks k)
      ];
    }
