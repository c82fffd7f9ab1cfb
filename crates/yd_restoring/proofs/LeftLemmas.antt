-- Ids in a row, of which fewer and fewer are left.
use Rattle.std.proofs.Common.{◌≡◌, ℕ, suc, ◌+◌, ◌-◌, ◌<◌, ◌≤◌, ◌||◌, Bool, true, false, List, [], ◌∷◌, nat_lt, inl, inr, refl, sym, ap, ◌∙◌, arith, tests, true≢false}
use Rattle.std.proofs.lemmas.Bool.{cases_Bool, false_from_ne_true}
use Rattle.std.specs.Prelude.{if◌then◌else◌, min}
use Rattle.yd_words.specs.Each.{Each}
use Rattle.yd_words.proofs.TestLemmas.{split}
use Rattle.yd_ids.specs.declared.id.Id.{Id}
use Rattle.yd_ids.specs.declared.id.Span.{Span}
use Rattle.yd_ids.specs.Span.{InSpan, EndsBefore}
use Rattle.yd_ids.specs.Set.{HasId}
use Rattle.yd_ops.specs.Operation.{later_id}
use Rattle.yd_meaning.specs.Held.{is_in_span}
use Rattle.yd_subsets.specs.Below.{span_below}

abbrev pub span_from : Id → ℕ → Span
span_from x len = record { client = x.client; clock = x.clock; len = len }

-- what is left: so many ids from one on, and others later
abbrev pub left_at : Id → ℕ → (Id → Bool) → Id → Bool
left_at x len later y = is_in_span (span_from x len) y || later y

pub in_span_is : (span : Span) (x : Id) → InSpan span x → is_in_span span x ≡ true
in_span_is span x i = let one = i.0 in let low = i.1 in let high = i.2 in grind (arith, tests)

pub is_in_span-is : (span : Span) (x : Id) → is_in_span span x ≡ true → InSpan span x
is_in_span-is span x e = (grind (arith, tests), grind (arith, tests), grind (arith, tests))

pub in_front : (x y : Id) (len n : ℕ) → n ≤ len → is_in_span (span_from x n) y ≡ true → is_in_span (span_from x len) y ≡ true
in_front x y len n le e = let (c, low, high) = is_in_span-is (span_from x n) y e in in_span_is (span_from x len) y (c, low, omega (arith, high, le))

pub in_behind : (x y : Id) (len n : ℕ) → n ≤ len → is_in_span (span_from (later_id x n) (len - n)) y ≡ true → is_in_span (span_from x len) y ≡ true
in_behind x y len n le e = let (c, low, high) = is_in_span-is (span_from (later_id x n) (len - n)) y e in
    in_span_is (span_from x len) y (c, omega (arith, low), omega (arith, high, le))

pub in_next : (x y : Id) (len : ℕ) → is_in_span (span_from (later_id x 1) len) y ≡ true → is_in_span (span_from x (suc len)) y ≡ true
in_next x y len e = let (c, low, high) = is_in_span-is (span_from (later_id x 1) len) y e in in_span_is (span_from x (suc len)) y (c, omega (arith, low), omega (arith, high))

pub not_behind : (x y : Id) (len n : ℕ) → is_in_span (span_from x n) y ≡ true → is_in_span (span_from (later_id x n) (len - n)) y ≡ false
not_behind x y len n e = let (c, low, high) = is_in_span-is (span_from x n) y e in
    false_from_ne_true (is_in_span (span_from (later_id x n) (len - n)) y) (λ f. never y.clock (x.clock + n) high (is_in_span-is (span_from (later_id x n) (len - n)) y f).1)
  where
    never : (a b : ℕ) → a < b → b ≤ a → ⊥
    never a b lt le = absurd (omega (arith, lt, le))

pub behind_same : (x y : Id) (len n : ℕ) → n ≤ len → is_in_span (span_from x n) y ≡ false →
    is_in_span (span_from (later_id x n) (len - n)) y ≡ is_in_span (span_from x len) y
behind_same x y len n le e = elim (cases_Bool (is_in_span (span_from x len) y)) [
  | inl a ↦ there (is_in_span-is (span_from x len) y a) ∙ sym a
  | inr a ↦ false_from_ne_true (is_in_span (span_from (later_id x n) (len - n)) y) (λ f. true≢false (sym (in_behind x y len n le f) ∙ a)) ∙ sym a
]
  where
    there : InSpan (span_from x len) y → is_in_span (span_from (later_id x n) (len - n)) y ≡ true
    there i = elim (split (x.clock + n) y.clock) [
      | inl below ↦ in_span_is (span_from (later_id x n) (len - n)) y (i.0, below, high below i.2)
      | inr above ↦ absurd (true≢false (sym (in_span_is (span_from x n) y (i.0, i.1, above)) ∙ e))
    ]
      where
        high : x.clock + n ≤ y.clock → y.clock < x.clock + len → y.clock < (x.clock + n) + (len - n)
        high low lt = omega (arith, low, lt, le)

pub none_left : (x y : Id) (later : Id → Bool) → left_at x 0 later y ≡ later y
none_left x y later = ap (λ t. t || later y) (false_from_ne_true (is_in_span (span_from x 0) y) (λ e. never (is_in_span-is (span_from x 0) y e)))
  where
    never : InSpan (span_from x 0) y → ⊥
    never i = absurd (omega (arith, i.1, i.2))

-- what is in a span is in none of those behind it
pub apart_spans : (span : Span) (spans : List Span) → Each (EndsBefore span) spans → (y : Id) → InSpan span y → HasId spans y → ⊥
apart_spans span [] each y i j = j
apart_spans span (s ∷ spans) each y i (inl j) = elim each.0 [
  | inl less ↦ clients less i.0 j.0
  | inr b ↦ clocks b.1 i.2 j.1
]
  where
    clients : span.client.0 < s.client.0 → span.client.0 ≡ y.client.0 → s.client.0 ≡ y.client.0 → ⊥
    clients a b c = absurd (omega (arith, a, b, c))

    clocks : span.clock + span.len < s.clock → y.clock < span.clock + span.len → s.clock ≤ y.clock → ⊥
    clocks a b c = absurd (omega (arith, a, b, c))
apart_spans span (s ∷ spans) each y i (inr j) = apart_spans span spans each.1 y i j

-- a span whose ids are all below their client's clock is there whole
pub below_all : (clocks : ℕ → ℕ) (span : Span) → 0 < span.len → ((y : Id) → is_in_span span y ≡ true → y.clock < clocks y.client.0) → (span_below clocks span).len ≡ span.len
below_all clocks span some below = go (nat_lt span.clock (clocks span.client.0)) refl (last (below y (in_span_is span y (refl, omega arith, omega (arith, some)))))
  where
    y : Id
    y = record { client = span.client; clock = span.clock + (span.len - 1) }

    last : span.clock + (span.len - 1) < clocks span.client.0 → span.clock + span.len ≤ clocks span.client.0
    last lt = omega (arith, lt, some)

    go : (t : Bool) → nat_lt span.clock (clocks span.client.0) ≡ t → span.clock + span.len ≤ clocks span.client.0 →
        (if t then min span.len (clocks span.client.0 - span.clock) else 0) ≡ span.len
    go true e le = omega (arith, le)
    go false e le = grind (arith, tests)
