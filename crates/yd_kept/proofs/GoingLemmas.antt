-- Clients whose units are taken back, one after another, let a store go back.
use Rattle.std.proofs.Common.{◌≡◌, ℕ, ◌<◌, ◌≤◌, Bool, true, false, List, [], ◌∷◌, inl, inr, ◌⊎◌, refl, sym, ap, ◌∙◌, subst, arith, true≢false}
use Rattle.std.specs.Prelude.{◌&&◌, filter, nat_lt}
use Rattle.yd_words.specs.Member.{IsIn}
use Rattle.yd_words.proofs.FilterLemmas.{filter-all, filter_alike}
use Rattle.yd_words.proofs.TestLemmas.{same_or_other, test_fails}
use Rattle.yd_ids.specs.declared.id.Id.{Id}
use Rattle.yd_origins.specs.Table.{Row}
use Rattle.yd_origins.proofs.PartLemmas.{row_id_in}
use Rattle.yd_arena.specs.Arena.{Placed, runs_of, places_in, next_clock}
use Rattle.yd_arena.specs.Rows.{rows_in}
use Rattle.yd_arena.proofs.RowLemmas.{ids-rows}
use Rattle.yd_store.specs.Store.{Stored}
use Rattle.yd_store.specs.Taking.{is_id_left, IsLeft, TakesBack}
use Rattle.yd_store.proofs.TakingLemmas.{id_passes}
use Rattle.yd_store.proofs.TakenLemmas.{left_says}
use Rattle.yd_kept.specs.Back.{is_below, HasGoneBack, GoingBackGoesOn}
use Rattle.yd_kept.proofs.BackLemmas.{below_is, is_below-true}
use Rattle.yd_kept.proofs.FillingLemmas.{slice_below}

-- ---- two tests, one after the other

filter_twice : {X : Type 0} (first second both : X → Bool) → ((x : X) → first x && second x ≡ both x) → (xs : List X) → filter second (filter first xs) ≡ filter both xs
filter_twice first second both same [] = refl
filter_twice first second both same (x ∷ xs) = go (first x) (second x) refl refl (filter_twice first second both same xs)
  where
    go : (s t : Bool) → first x ≡ s → second x ≡ t → filter second (filter first xs) ≡ filter both xs → filter second (filter first (x ∷ xs)) ≡ filter both (x ∷ xs)
    go true true e f rest = let b : both x ≡ true = sym (same x) ∙ ap (λ u. u && second x) e ∙ f in rw (e, f, b) (ap (λ ys. x ∷ ys) rest)
    go true false e f rest = let b : both x ≡ false = sym (same x) ∙ ap (λ u. u && second x) e ∙ f in rw (e, f, b) rest
    go false t e f rest = let b : both x ≡ false = sym (same x) ∙ ap (λ u. u && second x) e in rw (e, b) rest

both_is : (s t u : Bool) → (s ≡ true → t ≡ true → u ≡ true) → (u ≡ true → (s ≡ true) × (t ≡ true)) → s && t ≡ u
both_is true true u f g = sym (f refl refl)
both_is true false u f g = sym (test_fails u (λ e. true≢false (sym (g e).1)))
both_is false t u f g = sym (test_fails u (λ e. true≢false (sym (g e).0)))

-- ---- one client more

module _ (mid new : Stored) (client clock : ℕ) (le : clock ≤ next_clock mid.placed client) (takes : TakesBack mid new client clock) where
  new_clock : (k : ℕ) → ((k ≡ client) × (next_clock new.placed k ≡ clock)) ⊎ (next_clock new.placed k ≡ next_clock mid.placed k)
  new_clock k = elim (same_or_other k client) [
    | inl e ↦ inl (e, ap (next_clock new.placed) e ∙ takes.next)
    | inr ne ↦ inr (takes.other_nexts k ne)
  ]

  still_below : (x : Id) → x.clock < next_clock mid.placed x.client.0 → IsLeft client clock x → x.clock < next_clock new.placed x.client.0
  still_below x low is = elim (new_clock x.client.0) [
    | inl h ↦ elim is [ inl ne ↦ absurd (ne h.0) | inr lt ↦ omega (arith, lt, h.1) ]
    | inr e ↦ omega (arith, low, e)
  ]

  was_below : (x : Id) → x.clock < next_clock new.placed x.client.0 → (x.clock < next_clock mid.placed x.client.0) × IsLeft client clock x
  was_below x low = elim (new_clock x.client.0) [
    | inl h ↦ (omega (arith, low, h.1, le, ap (next_clock mid.placed) h.0), inr (omega (arith, low, h.1)))
    | inr e ↦ (
      omega (arith, low, e),
      elim (same_or_other x.client.0 client) [
        | inl s ↦ inr (omega (arith, low, ap (next_clock new.placed) s, takes.next))
        | inr ne ↦ inl ne
      ],
    )
  ]

  test_is : (x : Id) → is_below mid.placed x && is_id_left client clock x ≡ is_below new.placed x
  test_is x = both_is (is_below mid.placed x) (is_id_left client clock x) (is_below new.placed x)
      (λ a b. is_below-true new.placed x (still_below x (below_is mid.placed x a) (left_says client clock x b)))
      (λ c. let r = was_below x (below_is new.placed x c) in (is_below-true mid.placed x r.0, id_passes client clock x r.1))

  taken_on : (from : Placed) → HasGoneBack from mid.placed → HasGoneBack from new.placed
  taken_on from gone = record {
    count = takes.count ∙ gone.count;
    rows = λ n lt. takes.rows n (omega (arith, lt, gone.count)) ∙ ap (filter (λ (row : Row). is_id_left client clock row.id)) (gone.rows n lt)
        ∙ filter_twice (λ (row : Row). is_below mid.placed row.id) (λ row. is_id_left client clock row.id) (λ row. is_below new.placed row.id) (λ row. test_is row.id) (rows_in from n);
  }

-- ---- lemmas for callers

pub going_back_goes_on : GoingBackGoesOn
going_back_goes_on = record {
  start = λ held names placed fills. record {
    count = refl;
    rows = λ n lt. let (name, e) = slice_below names n (omega (arith, lt, fills.count)) in
        sym (filter-all (λ (row : Row). is_below placed row.id) (rows_in placed n) (λ row i. is_below-true placed row.id (((fills.rows n name e).each row.id).0
        (subst (IsIn row.id) (ids-rows (runs_of placed) (places_in placed n)) (row_id_in row (rows_in placed n) i))).1));
  };
  on = λ from mid new client clock gone le takes. taken_on mid new client clock le takes from gone;
  end = λ start mid back gone nexts. record {
    count = gone.count;
    rows = λ n lt. gone.rows n lt ∙ filter_alike (λ (row : Row). is_below back row.id) (λ row. is_below start row.id) (rows_in mid n)
        (λ row i. ap (nat_lt row.id.clock) (nexts row.id.client.0));
    nexts = nexts;
  };
}
