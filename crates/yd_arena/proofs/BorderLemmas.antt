-- Runs of one client stand apart, and where they end and begin.
use Rattle.std.proofs.Common.{◌≡◌, ◌≢◌, ℕ, ◌+◌, ◌-◌, ◌<◌, ◌≤◌, ◌⊎◌, inl, inr, List, length, refl, sym, ap, ◌∙◌, subst, arith}
use Rattle.yd_ids.specs.declared.id.Id.{Id}
use Rattle.yd_ids.specs.declared.id.Client.{Client}
use Rattle.yd_scan.specs.declared.stretch.Stretch.{Stretch}
use Rattle.yd_scan.specs.Stretches.{stretch_at}
use Rattle.yd_index.specs.Line.{Lined}
use Rattle.yd_index.specs.Lines.{next_of}
use Rattle.yd_index.specs.Holding.{front_of, rest_of, cut_stretches}
use Rattle.yd_index.proofs.LineLemmas.{lt_says}
use Rattle.yd_index.proofs.LinesLemmas.{eq_says}
use Rattle.yd_index.proofs.HoldingLemmas.{below_or_last}
use Rattle.yd_index.proofs.CuttingLemmas.{cut_len, cut_front, cut_rest, cut_other}
use Rattle.yd_arena.specs.Arena.{IsArena, HasUnit}
use Rattle.yd_arena.proofs.ArenaLemmas.{unit_id, own_unit, unit_below, units_stand_once}
use Rattle.yd_arena.specs.Marks.{IsBorder}
use Rattle.yd_arena.specs.MarksLaw.{BordersAre}

abbrev client_of : ℕ → Client
client_of n = record { 0 = n }

abbrev id_at : Client → ℕ → Id
id_at client clock = record { client = client; clock = clock }

-- the run at a place has the unit of its client with a clock from its first to its end
pub has_clock : (runs : List Stretch) (i clock : ℕ) → i < length runs → (stretch_at runs i).id.clock ≤ clock → clock < (stretch_at runs i).id.clock + (stretch_at runs i).len →
    HasUnit runs i (clock - (stretch_at runs i).id.clock) (id_at (stretch_at runs i).id.client clock)
has_clock runs i clock lt low high = record { within = lt; inside = omega (arith, low, high); client = refl; clock = omega (arith, low) }

module _ (lines : List Lined) (runs : List Stretch) (arena : IsArena lines runs) where
  -- two runs of one client with a clock in common are one
  pub one_run : (i j clock : ℕ) → i < length runs → j < length runs → (stretch_at runs i).id.client ≡ (stretch_at runs j).id.client →
      (stretch_at runs i).id.clock ≤ clock → clock < (stretch_at runs i).id.clock + (stretch_at runs i).len → (stretch_at runs j).id.clock ≤ clock → clock < (stretch_at runs j).id.clock + (stretch_at runs j).len → i ≡ j
  one_run i j clock il jl same low high low2 high2 =
      let a = has_clock runs i clock il low high in
      let b : HasUnit runs j (clock - (stretch_at runs j).id.clock) (id_at (stretch_at runs i).id.client clock) = subst (λ c. HasUnit runs j (clock - (stretch_at runs j).id.clock) (id_at c clock)) (sym same) (has_clock runs j clock jl low2 high2) in
      (units_stand_once lines runs (id_at (stretch_at runs i).id.client clock) i (clock - (stretch_at runs i).id.clock) j (clock - (stretch_at runs j).id.clock) arena a b).0

  module _ (client place clock : ℕ) (within : place < length runs) (own : (stretch_at runs place).id.client.0 ≡ client) (begins : (stretch_at runs place).id.clock ≡ clock) (filled : 0 < (stretch_at runs place).len) where
    -- another run of the client ends before this one, or begins behind it
    pub apart : (i : ℕ) → i < length runs → i ≢ place → (stretch_at runs i).id.client.0 ≡ client → ((stretch_at runs i).id.clock + (stretch_at runs i).len ≤ clock) ⊎ (clock + (stretch_at runs place).len ≤ (stretch_at runs i).id.clock)
        ⊎ ((stretch_at runs i).len ≡ 0)
    apart i il ne is = elim (eq_says (stretch_at runs i).len 0) [
      | inl z ↦ inr (inr z.1)
      | inr z ↦ elim (lt_says clock ((stretch_at runs i).id.clock + (stretch_at runs i).len)) [
        | inr y ↦ inl y.1
        | inl y ↦ elim (lt_says (stretch_at runs i).id.clock (clock + (stretch_at runs place).len)) [
          | inr x ↦ inr (inl x.1)
          | inl x ↦ elim (lt_says clock (stretch_at runs i).id.clock) [
            | inl w ↦ absurd (ne (one_run i place (stretch_at runs i).id.clock il within (ap client_of (is ∙ sym own)) (omega arith) (omega (arith, y.1, w.1)) (omega (arith, begins, w.1)) (omega (arith, begins, x.1))))
            | inr w ↦ absurd (ne (one_run i place clock il within (ap client_of (is ∙ sym own)) w.1 y.1 (omega (arith, begins)) (omega (arith, begins, filled))))
          ]
        ]
      ]
    ]

    -- the run's end is a border too
    pub next_border : IsBorder runs client (clock + (stretch_at runs place).len)
    next_border i il is = elim (eq_says i place) [
      | inl y ↦ inl (omega (arith, begins, ap (λ j. (stretch_at runs j).id.clock) y.1, ap (λ j. (stretch_at runs j).len) y.1))
      | inr y ↦ elim (apart i il y.1 is) [
        | inl x ↦ inl (omega (arith, x))
        | inr (inl x) ↦ inr x
        | inr (inr x) ↦ elim (lt_says (stretch_at runs i).id.clock (clock + (stretch_at runs place).len)) [ inl w ↦ inl (omega (arith, x, w.1)) | inr w ↦ inr w.1 ]
      ]
    ]

    -- only this run begins among its clocks
    pub only_begins : (i : ℕ) → i < length runs → 0 < (stretch_at runs i).len → (stretch_at runs i).id.client.0 ≡ client → clock ≤ (stretch_at runs i).id.clock → (stretch_at runs i).id.clock < clock + (stretch_at runs place).len → i ≡ place
    only_begins i il some is low high = one_run i place (stretch_at runs i).id.clock il within (ap client_of (is ∙ sym own)) (omega arith) (omega (arith, some)) (omega (arith, begins, low)) (omega (arith, begins, high))

-- ---- the run that is found at a border

-- the run has units of the client, and begins at the clock
pub record IsNext (runs : List Stretch) (client clock place : ℕ) : Type 0 where
  pub within : place < length runs
  pub own : (stretch_at runs place).id.client.0 ≡ client
  pub begins : (stretch_at runs place).id.clock ≡ clock
  pub filled : 0 < (stretch_at runs place).len

pub next_run : (runs : List Stretch) (client : Client) (clock place before : ℕ) → IsBorder runs client.0 clock → HasUnit runs place before (id_at client clock) → IsNext runs client.0 clock place
next_run runs client clock place before border has =
    let own = ap (λ (c : Client). c.0) has.client in
    record {
      within = has.within;
      own = own;
      begins = elim (border place has.within own) [ inl y ↦ absurd (omega (arith, y, has.clock, has.inside)) | inr y ↦ omega (arith, y, has.clock) ];
      filled = omega (arith, has.inside);
    }

-- it ends by the next border
pub ends_by : (runs : List Stretch) (client clock end place : ℕ) → IsNext runs client clock place → IsBorder runs client end → clock < end → clock + (stretch_at runs place).len ≤ end
ends_by runs client clock end place next border low = elim (border place next.within next.own) [ inl y ↦ omega (arith, y, next.begins) | inr y ↦ absurd (omega (arith, y, next.begins, low)) ]

-- ---- where a border is

-- where a run begins
pub begins_border : (lines : List Lined) (runs : List Stretch) (place : ℕ) (id : Id) → IsArena lines runs → HasUnit runs place 0 id → IsBorder runs id.client.0 id.clock
begins_border lines runs place id arena has = λ i il is. elim (eq_says i place) [
  | inl y ↦ inr (omega (arith, has.clock, ap (λ j. (stretch_at runs j).id.clock) y.1))
  | inr y ↦ elim (apart lines runs arena id.client.0 place id.clock has.within (ap (λ (c : Client). c.0) has.client) (omega (arith, has.clock)) (omega (arith, has.inside)) i il y.1 is) [
    | inl x ↦ inl x
    | inr (inl x) ↦ inr (omega (arith, x))
    | inr (inr x) ↦ elim (lt_says (stretch_at runs i).id.clock id.clock) [ inl w ↦ inl (omega (arith, x, w.1)) | inr w ↦ inr w.1 ]
  ]
]

-- and from a client's next clock on
pub next_border_of : (lines : List Lined) (runs : List Stretch) (client clock : ℕ) → IsArena lines runs → next_of lines client ≤ clock → IsBorder runs client clock
next_border_of lines runs client clock arena above = λ i il is. elim (eq_says (stretch_at runs i).len 0) [
  | inl z ↦ elim (lt_says (stretch_at runs i).id.clock clock) [ inl w ↦ inl (omega (arith, z.1, w.1)) | inr w ↦ inr w.1 ]
  | inr z ↦ inl (by_next i il is (positive (stretch_at runs i).len z.1))
]
  where
    positive : (n : ℕ) → n ≢ 0 → 0 < n
    positive n ne = elim (lt_says 0 n) [ inl w ↦ w.1 | inr w ↦ absurd (ne (omega (arith, w.1))) ]

    by_next : (i : ℕ) → i < length runs → (stretch_at runs i).id.client.0 ≡ client → 0 < (stretch_at runs i).len → (stretch_at runs i).id.clock + (stretch_at runs i).len ≤ clock
    by_next i il is filled =
        let last = (stretch_at runs i).len - 1 in
        let below = unit_below lines runs arena.holds i last (unit_id runs i last) (own_unit runs i last il (omega (arith, filled))) in
        omega (arith, filled, below, above, ap (next_of lines) is)

-- a cut leaves borders where they are
pub cut_border : (runs : List Stretch) (place n client clock : ℕ) → place < length runs → n ≤ (stretch_at runs place).len → IsBorder runs client clock → IsBorder (cut_stretches runs place n) client clock
cut_border runs place n client clock within le border = λ i il is. elim (below_or_last i (length runs) (omega (arith, il, cut_len runs place n within))) [
  | inl low ↦ elim (eq_says i place) [
    | inl y ↦ (let e : stretch_at (cut_stretches runs place n) i ≡ front_of (stretch_at runs place) n = ap (stretch_at (cut_stretches runs place n)) y.1 ∙ cut_front runs place n within in
        front e (border place within (ap (λ (r : Stretch). r.id.client.0) (sym e) ∙ is)))
    | inr y ↦ (let e : stretch_at (cut_stretches runs place n) i ≡ stretch_at runs i = cut_other runs place n within i low y.1 in
        subst (λ (r : Stretch). (r.id.clock + r.len ≤ clock) ⊎ (clock ≤ r.id.clock)) (sym e) (border i low (ap (λ (r : Stretch). r.id.client.0) (sym e) ∙ is)))
  ]
  | inr l ↦ (let e : stretch_at (cut_stretches runs place n) i ≡ rest_of (stretch_at runs place) n = ap (stretch_at (cut_stretches runs place n)) l ∙ cut_rest runs place n within in
      rest e (border place within (ap (λ (r : Stretch). r.id.client.0) (sym e) ∙ is)))
]
  where
    front : {s : Stretch} → s ≡ front_of (stretch_at runs place) n → ((stretch_at runs place).id.clock + (stretch_at runs place).len ≤ clock) ⊎ (clock ≤ (stretch_at runs place).id.clock) → (s.id.clock + s.len ≤ clock) ⊎ (clock ≤ s.id.clock)
    front e (inl x) = inl (omega (arith, x, le, ap (λ (r : Stretch). r.id.clock) e, ap (λ (r : Stretch). r.len) e))
    front e (inr x) = inr (omega (arith, x, ap (λ (r : Stretch). r.id.clock) e))

    rest : {s : Stretch} → s ≡ rest_of (stretch_at runs place) n → ((stretch_at runs place).id.clock + (stretch_at runs place).len ≤ clock) ⊎ (clock ≤ (stretch_at runs place).id.clock) → (s.id.clock + s.len ≤ clock) ⊎ (clock ≤ s.id.clock)
    rest e (inl x) = inl (omega (arith, x, le, ap (λ (r : Stretch). r.id.clock) e, ap (λ (r : Stretch). r.len) e))
    rest e (inr x) = inr (omega (arith, x, ap (λ (r : Stretch). r.id.clock) e))

pub borders_are : BordersAre
borders_are = record { at_run = begins_border; at_end = next_border_of; kept = cut_border }
