-- The units of runs as spans, and the first and the last of places.
use Rattle.std.proofs.Common.{◌≡◌, ℕ, ◌-◌, ◌<◌, inl, inr, List, [], ◌∷◌, ◌++◌, Some, None, refl, sym, ap, ◌∙◌, arith}
use Rattle.std.proofs.lemmas.List.{append_assoc}
use Rattle.std.proofs.lemmas.Grind.{flat_map-append}
use Rattle.yd_words.specs.Member.{IsIn}
use Rattle.yd_words.proofs.OptionLemmas.{some_is}
use Rattle.yd_ids.specs.declared.id.Client.{Client}
use Rattle.yd_ids.specs.declared.id.Id.{Id}
use Rattle.yd_ids.specs.declared.id.Span.{Span}
use Rattle.yd_ids.specs.Id.{IsClock, IsId, IsSpan}
use Rattle.yd_ids.specs.Span.{InSpan}
use Rattle.yd_origins.specs.Deleted as last
use Rattle.yd_chains.specs.Chain.{first_of, last_from, last_of, behind, before}
use Rattle.yd_chains.proofs.ChainLemmas.{same_place, some_last}
use Rattle.yd_scan.specs.declared.stretch.Stretch.{Stretch}
use Rattle.yd_scan.specs.Stretches.{stretch_at, units_from, units_of, last_unit, units_at}
use Rattle.yd_scan.proofs.UnitLemmas.{units_last, last_unit_in, units_in as unit_among}
use Rattle.yd_index.proofs.RowLemmas.{from_says, from_in}
use Rattle.yd_index.specs.Lines.{next_of}
use Rattle.yd_arena.specs.Lists.{AreLists}
use Rattle.yd_arena.specs.Arena.{IsArena, HasUnit, runs_of, count_of, places_in}
use Rattle.yd_arena.proofs.ArenaLemmas.{unit_below, own_unit}
use Rattle.yd_kept.specs.Kept.{KeptValue}
use Rattle.yd_listing.specs.Falling.{IsTold}
use Rattle.yd_listing.specs.Steps.{span_of, last_of_span}

-- ---- a run

abbrev client_at : ℕ → Client
client_at n = record { 0 = n }

pub unit_in_span : (run : Stretch) (x : Id) → IsIn x (units_of run) → InSpan (span_of run) x
unit_in_span run x i = let s = from_says run.id.client run.len run.id.clock x i in (ap (λ (c : Client). c.0) (sym s.0), s.1, s.2)

pub span_has_unit : (run : Stretch) (x : Id) → InSpan (span_of run) x → IsIn x (units_of run)
span_has_unit run x i = from_in run.id.client run.len run.id.clock x (sym (ap (λ n. client_at n) i.0)) i.1 i.2

-- the run at a place of a list is a span of ids, which is not empty
pub run_is_span : (it : KeptValue) (n place : ℕ) → IsTold it → IsArena it.store.placed.lines (runs_of it.store.placed) → AreLists it.store.placed.linked →
    n < count_of it.store.placed → IsIn place (places_in it.store.placed n) → IsSpan (span_of (stretch_at (runs_of it.store.placed) place))
run_is_span it n place told arena lists lt i =
    let run = stretch_at (runs_of it.store.placed) place in
    let filled : 0 < run.len = lists.filled n place lt i in
    let u : HasUnit (runs_of it.store.placed) place (run.len - 1) (last_unit run) =
    own_unit (runs_of it.store.placed) place (run.len - 1) (lists.within n place lt i) (omega (arith, filled)) in
    let low : (last_unit run).clock < next_of it.store.placed.lines run.id.client.0 =
    unit_below it.store.placed.lines (runs_of it.store.placed) arena.holds place (run.len - 1) (last_unit run) u in
    let bound : IsClock (next_of it.store.placed.lines run.id.client.0) = arena.clocks run.id.client.0 in
    record {
      client = told.clients n (last_unit run) lt (unit_among (runs_of it.store.placed) (places_in it.store.placed n) (last_unit run) place i (last_unit_in run filled));
      end = omega (arith, filled, low, bound);
    }

-- ---- places

pub before_part : (p : ℕ) (xs ys : List ℕ) → (IsIn p xs → ⊥) → before p (xs ++ p ∷ ys) ≡ xs
before_part p [] ys out = elim (same_place p p) [ inl e ↦ rw e.0 refl | inr e ↦ absurd (e.1 refl) ]
before_part p (x ∷ xs) ys out = elim (same_place x p) [
  | inl e ↦ absurd (out (inl (sym e.1)))
  | inr e ↦ rw e.0 (ap (λ zs. x ∷ zs) (before_part p xs ys (λ i. out (inr i))))
]

pub behind_part : (p : ℕ) (xs ys : List ℕ) → (IsIn p xs → ⊥) → behind (Some p) (xs ++ p ∷ ys) ≡ ys
behind_part p [] ys out = elim (same_place p p) [ inl e ↦ rw e.0 refl | inr e ↦ absurd (e.1 refl) ]
behind_part p (x ∷ xs) ys out = elim (same_place x p) [
  | inl e ↦ absurd (out (inl (sym e.1)))
  | inr e ↦ rw e.0 (behind_part p xs ys (λ i. out (inr i)))
]

last_parts : (x : ℕ) (xs : List ℕ) (p : ℕ) → last_from (Some x) xs ≡ Some p → (front : List ℕ) × (x ∷ xs ≡ front ++ p ∷ [])
last_parts x [] p e = ([], ap (λ k. k ∷ []) (some_is x p e))
last_parts x (y ∷ xs) p e = let more = last_parts y xs p e in (x ∷ more.0, ap (λ ks. x ∷ ks) more.1)

pub place_last : (places : List ℕ) (p : ℕ) → last_of places ≡ Some p → (front : List ℕ) × (places ≡ front ++ p ∷ [])
place_last [] p e = (let no : None ≡ Some p = e in absurd cc)
place_last (x ∷ xs) p e = last_parts x xs p e

pub none_last : (places : List ℕ) → last_of places ≡ None → places ≡ []
none_last [] e = refl
none_last (x ∷ xs) e = let some = some_last x xs in (let no : Some some.0 ≡ None = sym some.1 ∙ e in absurd cc)

pub place_first : (places : List ℕ) (p : ℕ) → first_of places ≡ Some p → (rest : List ℕ) × (places ≡ p ∷ rest)
place_first [] p e = (let no : None ≡ Some p = e in absurd cc)
place_first (x ∷ xs) p e = (xs, ap (λ k. k ∷ xs) (some_is x p e))

pub none_first : (places : List ℕ) → first_of places ≡ None → places ≡ []
none_first [] e = refl
none_first (x ∷ xs) e = absurd cc

-- ---- units at places

pub units_append : (runs : List Stretch) (xs ys : List ℕ) → units_at runs (xs ++ ys) ≡ units_at runs xs ++ units_at runs ys
units_append runs xs ys = flat_map-append (λ i. units_of (stretch_at runs i)) xs ys

pub last_snoc : (xs : List Id) (x : Id) → last.last_of (xs ++ x ∷ []) ≡ Some x
last_snoc [] x = refl
last_snoc (y ∷ []) x = refl
last_snoc (y ∷ z ∷ zs) x = last_snoc (z ∷ zs) x

-- the last unit of the run at the last place is the last of the list
pub list_last : (runs : List Stretch) (places : List ℕ) (p : ℕ) → last_of places ≡ Some p → 0 < (stretch_at runs p).len →
    last.last_of (units_at runs places) ≡ Some (last_of_span (span_of (stretch_at runs p)))
list_last runs places p e filled =
    let (front, parts) = place_last places p e in
    let run = stretch_at runs p in
    let own : units_at runs (p ∷ []) ≡ units_from run.id.client run.id.clock (run.len - 1) ++ last_unit run ∷ [] = append_none (units_of run) ∙ units_last run filled in
    ap last.last_of (ap (units_at runs) parts ∙ units_append runs front (p ∷ []) ∙ ap (λ us. units_at runs front ++ us) own
    ∙ sym (append_assoc (units_at runs front) (units_from run.id.client run.id.clock (run.len - 1)) (last_unit run ∷ [])))
    ∙ last_snoc (units_at runs front ++ units_from run.id.client run.id.clock (run.len - 1)) (last_unit run)
  where
    append_none : (xs : List Id) → xs ++ [] ≡ xs
    append_none [] = refl
    append_none (x ∷ xs) = ap (λ ys. x ∷ ys) (append_none xs)

-- the last id of a span is an id
pub last_is_id : (span : Span) → IsSpan span → 0 < span.len → IsId (last_of_span span)
last_is_id span is filled = let end = is.end in record { client = is.client; clock = omega (arith, end, filled) }
