-- The last of maximal spans that begins at an id or before it: it alone can have the id.
use Rattle.std.proofs.Common.{◌≡◌, ℕ, zero, suc, ◌<◌, ◌≤◌, ◌↔◌, List, [], ◌∷◌, Option, Some, None, length, get_or, refl, sym, subst, inl, inr, arith}
use Rattle.std.proofs.lemmas.Bool.{cases_lt}
use Rattle.std.proofs.lemmas.Option.{slice_get_within, slice_get-get_or, get_or_from_slice_get}
use Rattle.yd_pieces.specs.Pieces.{in_front, IsLastPassed}
use Rattle.yd_pieces.proofs.PointLemmas.{partition_from}
use Rattle.yd_ids.specs.declared.id.Id.{Id}
use Rattle.yd_ids.specs.declared.id.Span.{Span}
use Rattle.yd_ids.specs.Id.{IsSpan}
use Rattle.yd_ids.specs.Set.{HasId, AreMaximal}
use Rattle.yd_ids.specs.Span.{InSpan, reaches_into, start_of}
use Rattle.yd_ids.proofs.SetLemmas.{span_at, apart_at, reached_parted, has_place, place_has}
use Rattle.yd_ids.proofs.SpanLemmas.{reaches_true, reaches_false, begun_none, later_none}

-- the span is at this place
abbrev pub IsAt : List Span → ℕ → Span → Type 0
IsAt xs n s = (n < length xs) × ((d : Span) → get_or xs n d ≡ s)

found_at : (xs : List Span) (place : ℕ) (s : Span) → Some s ≡ in_front xs place → (n : ℕ) × (place ≡ suc n) × IsAt xs n s
found_at xs zero s e = absurd cc
found_at xs (suc n) s e = (n, refl, (slice_get_within xs n s (sym e), λ d. get_or_from_slice_get xs n s d (sym e)))

nothing_at : (xs : List Span) (place : ℕ) → place ≤ length xs → None ≡ in_front xs place → place ≡ 0
nothing_at xs zero le e = refl
nothing_at [] (suc n) le e = absurd (omega arith)
nothing_at (x ∷ xs) (suc n) le e = let some = slice_get-get_or (x ∷ xs) n x (omega arith) in absurd cc

module _ (xs : List Span) (id : Id) (m : AreMaximal xs) where
  later : (k : ℕ) (d : Span) (found : Option Span) → (last : IsLastPassed (reaches_into (start_of id)) xs found) → last.place ≤ k → k < length xs → InSpan (get_or xs k d) id → ⊥
  later k d found last le lt i =
      let parted = partition_from (reaches_into (start_of id)) xs last.place last.bound last.boundary (reached_parted (start_of id) xs m) in
      later_none (get_or xs k d) id (reaches_false (start_of id) (get_or xs k d) (parted.1 k d le lt)) i

  -- ---- lemmas for callers

  pub begun_at : (s : Span) → IsLastPassed (reaches_into (start_of id)) xs (Some s) → (n : ℕ) × IsAt xs n s
  begun_at s last = let (n, e, at) = found_at xs last.place s last.element in (n, at)

  pub begun_span : (s : Span) → IsLastPassed (reaches_into (start_of id)) xs (Some s) → IsSpan s
  begun_span s last = let (n, (lt, is)) = begun_at s last in subst IsSpan (is s) (span_at xs n s m lt).0

  pub has_begun : (s : Span) → IsLastPassed (reaches_into (start_of id)) xs (Some s) → HasId xs id ↔ InSpan s id
  has_begun s last = (there, back)
    where
      back : InSpan s id → HasId xs id
      back i = let (n, e, (lt, is)) = found_at xs last.place s last.element in place_has xs n s id lt (subst (λ u. InSpan u id) (sym (is s)) i)

      there : HasId xs id → InSpan s id
      there h =
          let (n, e, (lt, is)) = found_at xs last.place s last.element in
          let (k, le, i) = has_place xs id h in
          let parted = partition_from (reaches_into (start_of id)) xs last.place last.bound last.boundary (reached_parted (start_of id) xs m) in
          elim (cases_lt k n) [
            | inl less ↦ absurd (begun_none (get_or xs k s) (get_or xs n s) id (apart_at xs k n s m less lt) (reaches_true (start_of id) (get_or xs n s) (parted.0 n s (omega arith) (omega (arith, e)))) (i s))
            | inr ge ↦ elim (cases_lt n k) [
              | inl more ↦ absurd (later k s (Some s) last (omega (arith, e, more)) le (i s))
              | inr same ↦ let one : k ≡ n = omega (arith, ge, same) in subst (λ u. InSpan u id) (is s) (subst (λ j. InSpan (get_or xs j s) id) one (i s))
            ]
          ]

  pub has_not_begun : IsLastPassed (reaches_into (start_of id)) xs None → HasId xs id → ⊥
  has_not_begun last h =
      let (k, le, i) = has_place xs id h in
      let none = nothing_at xs last.place last.bound last.element in
      later k (start_of id) None last (omega (arith, none)) le (i (start_of id))
