-- Pairs of which an update spells just one half less than full (own).
use Rattle.std.specs.Prelude.{◌≡◌, ◌↔◌, ◌+◌, ◌⊎◌, true, List}
use Rattle.yd_words.specs.Each.{Each}
use Rattle.yd_words.specs.Member.{IsIn}
use Rattle.yd_ids.specs.Set.{HasId}
use Rattle.yd_ids.specs.declared.id.Id.{Id}
use Rattle.yd_ids.specs.declared.id.Span.{Span}
use Rattle.yd_ops.specs.Operation.{Operation, later_id, operations_of, operations_of_run}
use Rattle.yd_ops.specs.Valid.{IsValidContent}
use Rattle.yd_ops.specs.Value.{RunValue, UpdateValue}
use Rattle.yd_ops.specs.Deletes.{SpellLess}
use Rattle.yd_ops.specs.Pairs.{are_partners}

-- each run has a valid content, so its texts are whole
abbrev pub AreWhole : List RunValue → Type 0
AreWhole runs = Each (λ (run : RunValue). IsValidContent run.content) runs

-- the run has a pair, whose high half has the id
pub record HasPair (run : RunValue) (x : Id) : Type 0 where
  pub high : Operation
  pub low : Operation
  pub high_there : IsIn high (operations_of_run run)
  pub low_there : IsIn low (operations_of_run run)
  pub id : high.id ≡ x
  pub partners : are_partners high low ≡ true

-- one of the runs has
pub record HavePair (runs : List RunValue) (x : Id) : Type 0 where
  pub run : RunValue
  pub there : IsIn run runs
  pub pair : HasPair run x

-- one of the runs has, and one of the updates spells just one of its halves less than full
pub record IsParted (runs : List RunValue) (updates : List UpdateValue) (x : Id) : Type 0 where
  pub pair : HavePair runs x
  pub other : UpdateValue
  pub there : IsIn other updates
  pub one_less : SpellLess (operations_of other) x ↔ SpellLess (operations_of other) (later_id x 1) → ⊥

-- one of the runs has, and just one of its halves is in the set
abbrev pub IsPartedBy : List RunValue → List Span → Id → Type 0
IsPartedBy runs set x = HavePair runs x × (HasId set x ↔ HasId set (later_id x 1) → ⊥)

-- one of the runs has, and its low half has this id
abbrev pub IsPartedAt : List RunValue → Id → Id → Type 0
IsPartedAt runs low x = HavePair runs x × (later_id x 1 ≡ low)

-- one of the runs has, and a span begins or ends between its halves
abbrev pub IsPartedAtEnds : List RunValue → Span → Id → Type 0
IsPartedAtEnds runs span x = IsPartedAt runs (record { client = span.client; clock = span.clock }) x
    ⊎ IsPartedAt runs (record { client = span.client; clock = span.clock + span.len }) x
