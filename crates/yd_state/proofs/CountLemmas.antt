-- Counting held operations: of one client below a clock, in a span, and those that maximal spans name.
use Rattle.std.proofs.Common.{◌≡◌, ℕ, zero, suc, ◌+◌, min, ◌<◌, Bool, true, false, ◌&&◌, ◌||◌, List, [], ◌∷◌, nat_eq, nat_lt, refl, sym, ap, ap₂, ◌∙◌, arith, tests, true≢false}
use Rattle.std.specs.Prelude.{if◌then◌else◌}
use Rattle.std.proofs.lemmas.Bool.{false_from_ne_true}
use Rattle.yd_words.specs.Test.{one_if}
use Rattle.yd_ids.specs.declared.id.Client.{Client}
use Rattle.yd_ids.specs.declared.id.Id.{Id}
use Rattle.yd_ids.specs.declared.id.Span.{Span}
use Rattle.yd_ids.specs.Set.{AreMaximal}
use Rattle.yd_ids.specs.Ids.{is_same, is_written_before}
use Rattle.yd_ids.proofs.SetLemmas.{once}
use Rattle.yd_ids.proofs.IdLemmas.{same_is}
use Rattle.yd_ops.specs.Operation.{Operation}
use Rattle.yd_ops.specs.Received.{has_operation, IsWritten}
use Rattle.yd_meaning.specs.Held.{held_set, held_clock, is_in_span, is_named, named_count}
use Rattle.yd_ops.proofs.OneOfLemmas.{operation_with}
use Rattle.yd_meaning.proofs.VectorLemmas.{held_below, held_written}
use Rattle.yd_state.specs.Deleting.{span_below}
use Rattle.yd_state.proofs.NamedLemmas.{is_in_span-is, named_has}

-- how many of the operations have an id that passes
abbrev pub count_where : (Id → Bool) → List Operation → ℕ
count_where test [] = 0
count_where test (o ∷ os) = one_if (test o.id) + count_where test os

-- whether the id is the client's, below a clock
abbrev pub is_below : Client → ℕ → Id → Bool
is_below client clock x = nat_eq x.client.0 client.0 && nat_lt x.clock clock

-- ---- tests

-- a test that is one of two others and never both passes as often as they do together
count_parts : (whole one other : Id → Bool) → ((x : Id) → one_if (whole x) ≡ one_if (one x) + one_if (other x)) → (os : List Operation) →
    count_where whole os ≡ count_where one os + count_where other os
count_parts whole one other parts [] = refl
count_parts whole one other parts (o ∷ os) = omega (arith, parts o.id, count_parts whole one other parts os)

count_none : (test : Id → Bool) → ((x : Id) → test x ≡ false) → (os : List Operation) → count_where test os ≡ 0
count_none test none [] = refl
count_none test none (o ∷ os) = rw (none o.id) (omega (arith, count_none test none os))

named_count-where : (spans : List Span) (os : List Operation) → named_count spans os ≡ count_where (is_named spans) os
named_count-where spans [] = refl
named_count-where spans (o ∷ os) = go (is_named spans o.id) (named_count-where spans os)
  where
    go : (t : Bool) → named_count spans os ≡ count_where (is_named spans) os →
        (if t then suc (named_count spans os) else named_count spans os) ≡ one_if t + count_where (is_named spans) os
    go true e = omega (arith, e)
    go false e = omega (arith, e)

-- ---- of one client

-- an id is that of one operation at most
count_same : (os : List Operation) → IsWritten os → (y : Id) → count_where (λ x. is_same x y) os ≡ one_if (has_operation os y)
count_same [] w y = refl
count_same (o ∷ os) w y = go (is_same o.id y) refl (count_same os w.1 y)
  where
    itself : (x : Id) → is_written_before x x ≡ false
    itself x = grind (arith, tests)

    go : (t : Bool) → is_same o.id y ≡ t → count_where (λ x. is_same x y) os ≡ one_if (has_operation os y) →
        one_if t + count_where (λ x. is_same x y) os ≡ one_if (t || has_operation os y)
    go true e f = rw (f, none) refl
      where
        none : has_operation os y ≡ false
        none = false_from_ne_true (has_operation os y) (λ is. let (p, i, same) = operation_with os y is in
            true≢false (sym (w.0 p i) ∙ ap (is_written_before o.id) (same ∙ sym (same_is o.id y e)) ∙ itself o.id))
    go false e f = omega (arith, f)

module _ (client : Client) where
  abbrev at : ℕ → Id
  at clock = record { client = client; clock = clock }

  one_more : (clock : ℕ) (x : Id) → one_if (is_below client (suc clock) x) ≡ one_if (is_below client clock x) + one_if (is_same x (at clock))
  one_more clock x = grind (arith, tests)

  none_below : (x : Id) → is_below client 0 x ≡ false
  none_below x = grind (arith, tests)

  -- of a client's held operations those below a clock are counted by the clock, up to the client's own
  count_below : (os : List Operation) → IsWritten os → (clock : ℕ) → count_where (is_below client clock) (held_set os) ≡ min clock (held_clock (held_set os) client.0)
  count_below os w zero = count_none (is_below client 0) none_below (held_set os) ∙ omega arith
  count_below os w (suc clock) = count_parts (is_below client (suc clock)) (is_below client clock) (λ x. is_same x (at clock)) (one_more clock) (held_set os)
      ∙ ap₂ (λ n m. n + m) (count_below os w clock) (count_same (held_set os) (held_written os w) (at clock))
      ∙ go (has_operation (held_set os) (at clock)) refl
    where
      go : (t : Bool) → has_operation (held_set os) (at clock) ≡ t →
          min clock (held_clock (held_set os) client.0) + one_if t ≡ min (suc clock) (held_clock (held_set os) client.0)
      go true e = omega (arith, (held_below os w client clock).0 e)
      go false e = let not_less : clock < held_clock (held_set os) client.0 → ⊥ = λ lt. true≢false (sym ((held_below os w client clock).1 lt) ∙ e) in omega (arith, not_less)

-- ---- in spans

in_below : (span : Span) (x : Id) → one_if (is_below span.client (span.clock + span.len) x) ≡ one_if (is_in_span span x) + one_if (is_below span.client span.clock x)
in_below span x = grind (arith, tests)

-- the held operations in a span are its part below the client's clock
pub count_in : (os : List Operation) → IsWritten os → (span : Span) →
    count_where (is_in_span span) (held_set os) ≡ (span_below span (held_clock (held_set os) span.client.0)).len
count_in os w span = omega (
  arith,
  count_parts (is_below span.client (span.clock + span.len)) (is_in_span span) (is_below span.client span.clock) (in_below span) (held_set os),
  count_below span.client os w (span.clock + span.len),
  count_below span.client os w span.clock,
)

-- those that maximal spans name are those of each span
pub count_named : (span : Span) (spans : List Span) → AreMaximal (span ∷ spans) → (os : List Operation) →
    named_count (span ∷ spans) os ≡ count_where (is_in_span span) os + named_count spans os
count_named span spans m os = named_count-where (span ∷ spans) os ∙ count_parts (is_named (span ∷ spans)) (is_in_span span) (is_named spans) parts os
    ∙ ap (λ n. count_where (is_in_span span) os + n) (sym (named_count-where spans os))
  where
    parts : (x : Id) → one_if (is_named (span ∷ spans) x) ≡ one_if (is_in_span span x) + one_if (is_named spans x)
    parts x = go (is_in_span span x) (is_named spans x) refl refl
      where
        go : (s t : Bool) → is_in_span span x ≡ s → is_named spans x ≡ t → one_if (s || t) ≡ one_if s + one_if t
        go true true e f = absurd (once span spans x m.2 (is_in_span-is span x e) (named_has spans x f))
        go true false e f = refl
        go false true e f = refl
        go false false e f = refl
