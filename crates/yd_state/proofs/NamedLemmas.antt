-- Whether spans name an id, as a test and as a fact; and the part of a span below a clock.
use Rattle.std.proofs.Common.{◌≡◌, ℕ, Bool, true, false, ◌||◌, List, [], ◌∷◌, ◌++◌, inl, inr, refl, sym, ap, ◌∙◌, subst, arith, tests, true≢false}
use Rattle.std.specs.Prelude.{Decides}
use Rattle.std.proofs.lemmas.Bool.{or_left, or_right}
use Rattle.yd_ids.specs.declared.id.Id.{Id}
use Rattle.yd_ids.specs.declared.id.Span.{Span}
use Rattle.yd_ids.specs.Id.{IsSpan}
use Rattle.yd_ids.specs.Span.{InSpan}
use Rattle.yd_ids.specs.Set.{HasId, AreMaximal}
use Rattle.yd_meaning.specs.Held.{is_in_span, is_named}
use Rattle.yd_state.specs.Deleting.{span_below}

-- ---- one span

in_span_is : (span : Span) (x : Id) → InSpan span x → is_in_span span x ≡ true
in_span_is span x i = let one = i.0 in let low = i.1 in let high = i.2 in grind (arith, tests)

pub is_in_span-is : (span : Span) (x : Id) → is_in_span span x ≡ true → InSpan span x
is_in_span-is span x e = (grind (arith, tests), grind (arith, tests), grind (arith, tests))

-- ---- the part of a span below a clock

pub part_is : (span : Span) (clock : ℕ) → IsSpan span → IsSpan (span_below span clock)
part_is span clock is = record { client = is.client; end = omega (arith, is.end) }

-- ---- lemmas for callers

-- an id that spans have is named by them
pub has_named : (spans : List Span) (x : Id) → HasId spans x → is_named spans x ≡ true
has_named [] x i = absurd i
has_named (span ∷ spans) x (inl i) = or_left (is_in_span span x) (is_named spans x) (in_span_is span x i)
has_named (span ∷ spans) x (inr i) = or_right (is_in_span span x) (is_named spans x) (has_named spans x i)

-- an id that spans name is theirs
pub named_has : (spans : List Span) (x : Id) → is_named spans x ≡ true → HasId spans x
named_has [] x e = absurd (true≢false (sym e))
named_has (span ∷ spans) x e = go (is_in_span span x) refl e (λ f. named_has spans x f)
  where
    go : (t : Bool) → is_in_span span x ≡ t → t || is_named spans x ≡ true → (is_named spans x ≡ true → HasId spans x) → HasId (span ∷ spans) x
    go true f e rest = inl (is_in_span-is span x f)
    go false f e rest = inr (rest e)

pub named_decides : (spans : List Span) (x : Id) → Decides (is_named spans x) (HasId spans x)
named_decides spans x = (named_has spans x, has_named spans x)

-- maximal spans are spans
pub span_among : (front : List Span) (span : Span) (back : List Span) → AreMaximal (front ++ span ∷ back) → IsSpan span
span_among [] span back m = m.0
span_among (first ∷ front) span back m = span_among front span back m.3

-- the next of maximal spans is a span
pub span_next : (spans front back rest : List Span) (span : Span) → AreMaximal spans → front ++ back ≡ spans → back ≡ span ∷ rest → IsSpan span
span_next spans front back rest span m all next = span_among front span rest (subst AreMaximal (sym all ∙ ap (λ (behind : List Span). front ++ behind) next) m)
