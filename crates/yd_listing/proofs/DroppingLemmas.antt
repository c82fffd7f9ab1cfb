-- What is gathered step by step is what is deleted besides.
use Rattle.std.proofs.Common.{◌<◌, inl, inr, List, []}
use Rattle.yd_words.specs.Each.{Each}
use Rattle.yd_words.specs.Member.{IsIn}
use Rattle.yd_ids.specs.declared.id.Id.{Id}
use Rattle.yd_ids.specs.declared.id.Span.{Span}
use Rattle.yd_ids.specs.Id.{IsSpan}
use Rattle.yd_ids.specs.Set.{HasId, HaveSameIds}
use Rattle.yd_arena.specs.Arena.{next_clock}
use Rattle.yd_kept.specs.Kept.{KeptValue}
use Rattle.yd_listing.specs.declared.came.Came.{Came}
use Rattle.yd_listing.specs.Falling.{units_of_list, IsNamedIn, Falls, by_name, by_loss, by_key, by_deleted, by_item, IsGone, Drops}
use Rattle.yd_listing.specs.Steps.{AddsAll, MayFall, TakesAll}
use Rattle.yd_listing.specs.Closing.{HangsOn, itself, under, Closes}
use Rattle.yd_listing.proofs.AddingLemmas.{gone_kept}
use Rattle.yd_listing.proofs.OutlivingLemmas.{outlived_kept}

-- the ids of a set that are held
abbrev pub HeldOf : KeptValue → List Span → Id → Type 0
HeldOf it set x = HasId set x × (x.clock < next_clock it.store.placed x.client.0)

module _ (it : KeptValue) (deleted waiting named : List Span) (came : List Came) (first second third : List Span)
    (a : AddsAll deleted (HeldOf it waiting) [] first) (b : AddsAll deleted (HeldOf it named) first second) (t : TakesAll it deleted came second third) where
  abbrev these : Id → Type 0
  these = IsNamedIn waiting named

  pub are_spans : Each IsSpan third
  are_spans = t.adds.spans (b.adds.spans (a.adds.spans tt))

  may_fall : (one : Came) (x : Id) → IsIn one came → MayFall it deleted one x → Falls it deleted these came x
  may_fall one x m f = elim f.why [
    | inl p ↦ by_loss (record { one = one; member = m; list_is = p.0; inside = p.1 })
    | inr (n, i, w) ↦ elim w [
      | inl (y, u, h) ↦ by_deleted n u i h
      | inr (k, other) ↦ by_key n k i other
    ]
  ]

  third_falls : (x : Id) → HasId third x → Falls it deleted these came x
  third_falls x h = elim (t.adds.only x h) [
    | inr (one, m, f) ↦ may_fall one x m f
    | inl g ↦ elim (b.adds.only x g) [
      | inr p ↦ by_name (inr p.0) p.1
      | inl k ↦ elim (a.adds.only x k) [ inl none ↦ absurd none | inr p ↦ by_name (inl p.0) p.1 ]
    ]
  ]

  hanging_falls : {x : Id} → HangsOn it (HasId third) x → Falls it deleted these came x
  hanging_falls (itself {x = x} h) = third_falls x h
  hanging_falls (under {x = x} {y = y} n u i h) = by_item n u i (hanging_falls h)

  module _ (fourth besides : List Span) (k : Closes it deleted third fourth) (same : HaveSameIds besides fourth) where
    third_has : (x : Id) → HasId third x → HasId besides x
    third_has x h = (same x).1 (k.kept x h)

    gone : (x : Id) → IsGone deleted third x → IsGone deleted besides x
    gone x (inl h) = inl h
    gone x (inr h) = inr (third_has x h)

    named_gone : (x : Id) → these x → x.clock < next_clock it.store.placed x.client.0 → IsGone deleted besides x
    named_gone x (inl h) lt = gone x (gone_kept (λ y. (one : Came) × IsIn one came × MayFall it deleted one y) deleted second third x t.adds
        (gone_kept (HeldOf it named) deleted first second x b.adds (a.all x (h, lt))))
    named_gone x (inr h) lt = gone x (gone_kept (λ y. (one : Came) × IsIn one came × MayFall it deleted one y) deleted second third x t.adds (b.all x (h, lt)))

    pub drops : Drops it deleted these came besides
    drops = record {
      only = λ x h. hanging_falls (k.only x ((same x).0 h));
      names = named_gone;
      losses = λ x c. gone x ((t.taken c.one c.member).lost c.list_is x c.inside);
      under = λ n x y c u h. gone x ((t.taken c.one c.member).under n x y c.list_is c.inside u h);
      keys = λ n x c key other. gone x ((t.taken c.one c.member).keys n x c.list_is c.inside key other);
      outlived = λ n x c key end. outlived_kept deleted third besides (units_of_list it n) third_has ((t.taken c.one c.member).outlived n x c.list_is c.inside key end);
      items = λ n x y u i h. elim (k.closed n x y u i ((same y).0 h)) [ inl d ↦ inl d | inr g ↦ inr ((same x).1 g) ];
    }
