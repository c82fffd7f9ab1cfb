-- The refusal of a removal: it names the smallest of the ids that is not held.
use Rattle.std.proofs.Common.{◌≡◌, ◌↔◌, ◌<◌, ◌≤◌, ◌+◌, ℕ, Bool, true, false, List, [], ◌∷◌, nat_le, Option, Some, None, inl, inr, refl, sym, ap, subst, arith, tests}
use Rattle.std.proofs.lemmas.Bool.{false_from_ne_true}
use Rattle.std.specs.Prelude.{if◌then◌else◌}
use Rattle.yd_words.specs.Each.{Each}
use Rattle.yd_ids.specs.declared.id.Client.{Client}
use Rattle.yd_ids.specs.declared.id.Id.{Id}
use Rattle.yd_ids.specs.declared.id.Span.{Span}
use Rattle.yd_ids.specs.Span.{InSpan, EndsBefore}
use Rattle.yd_ids.specs.Set.{HasId, AreMaximal}
use Rattle.yd_ids.specs.Ids.{is_smaller}
use Rattle.yd_ops.specs.Operation.{Operation}
use Rattle.yd_ops.specs.Received.{has_operation, IsWritten, Received}
use Rattle.yd_meaning.specs.Held.{held_set, held_clock}
use Rattle.yd_meaning.proofs.VectorLemmas.{held_below}
use Rattle.yd_editing.specs.Step.{Refusal, not_held, first_or}
use Rattle.yd_editing.specs.Refused.{span_refusal, spans_refusal}
use Rattle.yd_editing.specs.Law.{RemovalTells}
use Rattle.yd_editing.proofs.RefusalLemmas.{neither, not_some}

not_held_one : (x y : Id) → ◌≡◌ {A = Option Refusal} (Some (not_held x)) (Some (not_held y)) → x ≡ y
not_held_one x y e = cc

none_no_one : (x : Id) → ◌≡◌ {A = Option Refusal} None (Some (not_held x)) → ⊥
none_no_one x e = absurd cc

-- what is in later spans is not smaller
later_not_smaller : (span : Span) (rest : List Span) → Each (EndsBefore span) rest → (x y : Id) → InSpan span x → HasId rest y → is_smaller y x ≡ true → ⊥
later_not_smaller span [] each x y i j e = j
later_not_smaller span (s ∷ rest) each x y i (inl j) e = elim each.0 [
  | inl less ↦ let a = i.0 in let b = j.0 in absurd (grind (arith, tests))
  | inr (same, less) ↦ let a = i.0 in let b = j.0 in let c = i.2 in let d = j.1 in absurd (grind (arith, tests))
]
later_not_smaller span (s ∷ rest) each x y i (inr j) e = later_not_smaller span rest each.1 x y i j e

module _ (r : Received) (w : IsWritten r.operations) where
  abbrev held : List Operation
  held = held_set r.operations

  is_below : (x : Id) → has_operation held x ≡ true ↔ x.clock < held_clock (held_set r.operations) x.client.0
  is_below x = held_below r.operations w x.client x.clock

  -- one span
  span_none : (span : Span) → nat_le (span.clock + span.len) (held_clock (held_set r.operations) span.client.0) ≡ true → (x : Id) → InSpan span x → has_operation held x ≡ true
  span_none span e x i = (is_below x).1 (subst (λ c. x.clock < held_clock (held_set r.operations) c) i.0 (below e))
    where
      below : nat_le (span.clock + span.len) (held_clock (held_set r.operations) span.client.0) ≡ true → x.clock < held_clock (held_set r.operations) span.client.0
      below f = let c = i.2 in grind (arith, tests)

  all_below : (spans : List Span) → spans_refusal (held_clock (held_set r.operations)) spans ≡ None → (x : Id) → HasId spans x → has_operation held x ≡ true
  all_below [] e x i = absurd i
  all_below (span ∷ spans) e x i = let b = neither (span_refusal (held_clock (held_set r.operations)) span) (spans_refusal (held_clock (held_set r.operations)) spans) e in elim i [
    | inl j ↦ span_none span (held_or (nat_le (span.clock + span.len) (held_clock (held_set r.operations) span.client.0)) _ b.0) x j
    | inr j ↦ all_below spans b.1 x j
  ]
    where
      held_or : (t : Bool) (refusal : Refusal) → ◌≡◌ {A = Option Refusal} (if t then None else Some refusal) None → t ≡ true
      held_or true refusal f = refl
      held_or false refusal f = absurd (not_some refusal f)

  -- the first clock of a span that is not held
  abbrev clock_of_first : Span → ℕ
  clock_of_first span = if nat_le (held_clock (held_set r.operations) span.client.0) span.clock then span.clock else held_clock (held_set r.operations) span.client.0

  first_bounds : (clock len top : ℕ) → 0 < len → nat_le (clock + len) top ≡ false → (t : Bool) → nat_le top clock ≡ t →
      (clock ≤ (if t then clock else top)) × ((if t then clock else top) < clock + len) × (top ≤ (if t then clock else top))
      × ((k : ℕ) → clock ≤ k → k < (if t then clock else top) → k < top)
  first_bounds clock len top some e true f = (omega arith, omega (arith, some), grind (arith, tests), λ k low high. absurd (omega (arith, low, high)))
  first_bounds clock len top some e false f = (grind (arith, tests), grind (arith, tests), omega arith, λ k low high. high)

  first_of : (spans : List Span) → AreMaximal spans → (x : Id) → spans_refusal (held_clock (held_set r.operations)) spans ≡ Some (not_held x) →
      HasId spans x × (has_operation held x ≡ false) × ((y : Id) → HasId spans y → is_smaller y x ≡ true → has_operation held y ≡ true)
  first_of [] m x e = absurd (none_no_one x e)
  first_of (span ∷ spans) m x e = go (nat_le (span.clock + span.len) (held_clock (held_set r.operations) span.client.0)) refl e (λ f. first_of spans m.3 x f)
    where
      here : nat_le (span.clock + span.len) (held_clock (held_set r.operations) span.client.0) ≡ false → x ≡ record { client = span.client; clock = clock_of_first span } →
          HasId (span ∷ spans) x × (has_operation held x ≡ false) × ((y : Id) → HasId (span ∷ spans) y → is_smaller y x ≡ true → has_operation held y ≡ true)
      here t same =
          let (low, high, above, under) = first_bounds span.clock span.len (held_clock (held_set r.operations) span.client.0) m.1 t
          (nat_le (held_clock (held_set r.operations) span.client.0) span.clock) refl in
          at low high above under
        where
          client_is : x.client ≡ span.client
          client_is = ap (λ (v : Id). v.client) same

          clock_is : x.clock ≡ clock_of_first span
          clock_is = ap (λ (v : Id). v.clock) same

          at : span.clock ≤ clock_of_first span → clock_of_first span < span.clock + span.len → held_clock (held_set r.operations) span.client.0 ≤ clock_of_first span →
              ((k : ℕ) → span.clock ≤ k → k < clock_of_first span → k < held_clock (held_set r.operations) span.client.0) →
              HasId (span ∷ spans) x × (has_operation held x ≡ false) × ((y : Id) → HasId (span ∷ spans) y → is_smaller y x ≡ true → has_operation held y ≡ true)
          at low high above under = (
            inl in_span,
            false_from_ne_true (has_operation held x) (λ f. never (held_clock (held_set r.operations) span.client.0) (clock_of_first span) above
                (subst (λ n. n < held_clock (held_set r.operations) span.client.0) clock_is
                (subst (λ (c : Client). x.clock < held_clock (held_set r.operations) c.0) client_is ((is_below x).0 f)))),
            λ y i less. elim i [
              | inl j ↦ (is_below y).1 (subst (λ c. y.clock < held_clock (held_set r.operations) c) j.0 (under y.clock j.1 (smaller_clock y j less)))
              | inr j ↦ absurd (later_not_smaller span spans m.2 x y in_span j less)
            ],
          )
            where
              in_span : InSpan span x
              in_span = (ap (λ (c : Client). c.0) (sym client_is), subst (λ n. span.clock ≤ n) (sym clock_is) low, subst (λ n. n < span.clock + span.len) (sym clock_is) high)

              never : (top k : ℕ) → top ≤ k → k < top → ⊥
              never top k a b = absurd (omega (arith, a, b))

              smaller_clock : (y : Id) → InSpan span y → is_smaller y x ≡ true → y.clock < clock_of_first span
              smaller_clock y j f = subst (λ n. y.clock < n) clock_is (less_clock y j f)
                where
                  less_clock : (z : Id) → InSpan span z → is_smaller z x ≡ true → z.clock < x.clock
                  less_clock z k g = let a = k.0 in let b = in_span.0 in grind (arith, tests)

      go : (t : Bool) → nat_le (span.clock + span.len) (held_clock (held_set r.operations) span.client.0) ≡ t →
          first_or (if t then None else Some (not_held (record { client = span.client; clock = clock_of_first span })))
          (spans_refusal (held_clock (held_set r.operations)) spans) ≡ Some (not_held x) →
          (spans_refusal (held_clock (held_set r.operations)) spans ≡ Some (not_held x) → HasId spans x × (has_operation held x ≡ false)
          × ((y : Id) → HasId spans y → is_smaller y x ≡ true → has_operation held y ≡ true)) →
          HasId (span ∷ spans) x × (has_operation held x ≡ false) × ((y : Id) → HasId (span ∷ spans) y → is_smaller y x ≡ true → has_operation held y ≡ true)
      go true t f again = let (i, none, all) = again f in (inr i, none, λ y j less. elim j [ inl k ↦ span_none span t y k | inr k ↦ all y k less ])
      go false t f again = here t (sym (not_held_one (record { client = span.client; clock = clock_of_first span }) x f))

  -- ---- lemmas for callers

  pub removal_tells : (spans : List Span) → AreMaximal spans → RemovalTells r spans
  removal_tells spans m = record { all_held = all_below spans; first = first_of spans m }
