-- The laws of state vectors and delete sets.
use Rattle.std.specs.Prelude.{◌≡◌, ℕ, max, ◌<◌, List, [], ◌∷◌}
use Rattle.std.specs.List.Sorted.{IsPermutation}
use Rattle.yd_words.specs.Each.{Each}
use Rattle.yd_ids.specs.declared.id.Client.{Client}
use Rattle.yd_ids.specs.declared.id.Span.{Span}
use Rattle.yd_ids.specs.Id.{IsClient, IsClock, IsSpan}
use Rattle.yd_ids.specs.Set.{HaveSameIds, AreMaximal, AddsSpan, AddsSpans, with_span, union_of, set_of}
use Rattle.yd_ids.specs.Vector.{clock_of, IsVector, IsEntry, RaisesOnly, with_clock, maximum_of, vector_of_entries, HasGreatest}

-- two sets with the same ids are one list
abbrev pub SetsAreTheirIds : Type 0
SetsAreTheirIds = (left right : List Span) → AreMaximal left → AreMaximal right → HaveSameIds left right → left ≡ right

-- two vectors with the same clocks are one list
abbrev pub VectorsAreTheirClocks : Type 0
VectorsAreTheirClocks = (left right : List (Client × ℕ)) → IsVector left → IsVector right → ((client : ℕ) → clock_of left client ≡ clock_of right client) → left ≡ right

-- the union is a set, it has the ids of both, and nothing else has them as a set
pub record UnionHasBoth : Type 0 where
  pub maximal : (left right : List Span) → AreMaximal left → AreMaximal right → AreMaximal (union_of left right)
  pub ids : (left right : List Span) → AddsSpans left (union_of left right) right
  pub alone : (left both right : List Span) → AreMaximal left → AreMaximal both → AreMaximal right → AddsSpans left both right → both ≡ union_of left right

-- unions may be taken in any order and again
pub record UnionsJoin : Type 0 where
  pub associative : (a b c : List Span) → AreMaximal a → AreMaximal b → AreMaximal c → union_of (union_of a b) c ≡ union_of a (union_of b c)
  pub commutative : (a b : List Span) → AreMaximal a → AreMaximal b → union_of a b ≡ union_of b a
  pub idempotent : (a : List Span) → AreMaximal a → union_of a a ≡ a

-- an insertion is the union with one span, it changes nothing for a span without ids, and two may come in either order
pub record InsertionIsUnion : Type 0 where
  pub alone : (old new : List Span) (span : Span) → AreMaximal old → AreMaximal new → IsSpan span → AddsSpan old new span → new ≡ with_span span old
  pub one : (old : List Span) (span : Span) → AreMaximal old → IsSpan span → 0 < span.len → with_span span old ≡ union_of old (span ∷ [])
  pub none : (old : List Span) (span : Span) → span.len ≡ 0 → with_span span old ≡ old
  pub any_order : (old : List Span) (first second : Span) → AreMaximal old → IsSpan first → IsSpan second → with_span first (with_span second old) ≡ with_span second (with_span first old)

-- the set of spans is a set, it has their ids, nothing else has them as a set, the order of the spans and how they overlap do not matter, and a set stays as it is
pub record SetsOfSpans : Type 0 where
  pub maximal : (spans : List Span) → Each IsSpan spans → AreMaximal (set_of spans)
  pub ids : (spans : List Span) → HaveSameIds (set_of spans) spans
  pub alone : (spans set : List Span) → Each IsSpan spans → AreMaximal set → HaveSameIds set spans → set ≡ set_of spans
  pub same : (spans others : List Span) → Each IsSpan spans → Each IsSpan others → HaveSameIds spans others → set_of spans ≡ set_of others
  pub itself : (set : List Span) → AreMaximal set → set_of set ≡ set

-- the maximum is a vector, it has the greater clock of each client, and nothing else has it as a vector
pub record MaximumHasGreater : Type 0 where
  pub vector : (left right : List (Client × ℕ)) → IsVector left → IsVector right → IsVector (maximum_of left right)
  pub clocks : (left right : List (Client × ℕ)) (client : ℕ) → IsVector left → IsVector right → clock_of (maximum_of left right) client ≡ max (clock_of left client) (clock_of right client)
  pub alone : (left both right : List (Client × ℕ)) → IsVector left → IsVector both → IsVector right → ((client : ℕ) → clock_of both client ≡ max (clock_of left client) (clock_of right client)) →
      both ≡ maximum_of left right

-- maxima may be taken in any order and again
pub record MaximaJoin : Type 0 where
  pub associative : (a b c : List (Client × ℕ)) → IsVector a → IsVector b → IsVector c → maximum_of (maximum_of a b) c ≡ maximum_of a (maximum_of b c)
  pub commutative : (a b : List (Client × ℕ)) → IsVector a → IsVector b → maximum_of a b ≡ maximum_of b a
  pub idempotent : (a : List (Client × ℕ)) → IsVector a → maximum_of a a ≡ a

-- a raise is the maximum with one clock, it changes nothing for clock 0, and two may come in either order
pub record RaiseIsMaximum : Type 0 where
  pub alone : (old new : List (Client × ℕ)) (client : Client) (clock : ℕ) → IsVector old → IsVector new → IsClient client → IsClock clock → RaisesOnly old new client.0 clock →
      new ≡ with_clock (client, clock) old
  pub one : (old : List (Client × ℕ)) (client : Client) (clock : ℕ) → IsVector old → IsClient client → 0 < clock → IsClock clock →
      with_clock (client, clock) old ≡ maximum_of old ((client, clock) ∷ [])
  pub none : (old : List (Client × ℕ)) (client : Client) → with_clock (client, 0) old ≡ old
  pub any_order : (old : List (Client × ℕ)) (first second : Client × ℕ) → IsVector old → IsClient first.0 → IsClock first.1 → IsClient second.0 → IsClock second.1 →
      with_clock first (with_clock second old) ≡ with_clock second (with_clock first old)

-- the vector of entries is a vector, it has the greatest clock of each client, and nothing else has them as a vector, the order of the entries does not matter, and a vector stays as it is
pub record VectorsOfEntries : Type 0 where
  pub vector : (entries : List (Client × ℕ)) → Each IsEntry entries → IsVector (vector_of_entries entries)
  pub clocks : (entries : List (Client × ℕ)) → Each IsEntry entries → HasGreatest (vector_of_entries entries) entries
  pub alone : (entries vector : List (Client × ℕ)) → Each IsEntry entries → IsVector vector → HasGreatest vector entries → vector ≡ vector_of_entries entries
  pub any_order : (entries others : List (Client × ℕ)) → Each IsEntry entries → IsPermutation entries others → vector_of_entries entries ≡ vector_of_entries others
  pub itself : (vector : List (Client × ℕ)) → IsVector vector → vector_of_entries vector ≡ vector
