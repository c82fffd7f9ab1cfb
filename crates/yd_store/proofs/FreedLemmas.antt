-- Halves that are cut out and then become U+FFFD, step by step, where a span is told less.
use Rattle.std.proofs.Common.{◌≡◌, ℕ, ◌<◌, Option, Some, None, refl, sym, ap, subst}
use Rattle.std.specs.Prelude.{IfSome, IfNone}
use Rattle.yd_ids.specs.declared.id.Id.{Id}
use Rattle.yd_ids.specs.declared.id.Span.{Span}
use Rattle.yd_ids.specs.Span.{InSpan}
use Rattle.yd_ops.specs.Operation.{UnitContent, Operation, text_unit, any_unit, json_unit, bytes, embedded, mark, nested_type, deleted_unit, gone_unit, IsHighUnit, IsLowUnit}
use Rattle.yd_store.specs.declared.halves.Torn.{Torn}
use Rattle.yd_store.specs.Store.{Stored}
use Rattle.yd_store.specs.Units.{KeepsUnits}
use Rattle.yd_store.specs.Lowering.{lowered_in, MapsUnits, LowersUnits}
use Rattle.yd_store.specs.Halves.{HasPair, first_id, end_id, torn_at, IsKnown, IsFreed, half_of}
use Rattle.yd_store.proofs.LoweredLemmas.{maps_kept, maps_both, maps_none}
use Rattle.yd_store.proofs.TearingLemmas.{LeavesText, torn_leaves, lowered_leaves, known_kept, alone_kept, alone_mapped, if_some, tells_less, tells_none}

-- ---- a half is of a text

high_known : (c : UnitContent) → IsHighUnit c → (unit : ℕ) × (c ≡ text_unit unit)
high_known (text_unit unit) h = (unit, refl)
high_known (any_unit value) h = absurd h
high_known (json_unit value) h = absurd h
high_known (bytes blob) h = absurd h
high_known (embedded value) h = absurd h
high_known (mark key value) h = absurd h
high_known (nested_type kind) h = absurd h
high_known deleted_unit h = absurd h
high_known gone_unit h = absurd h

low_known : (c : UnitContent) → IsLowUnit c → (unit : ℕ) × (c ≡ text_unit unit)
low_known (text_unit unit) h = (unit, refl)
low_known (any_unit value) h = absurd h
low_known (json_unit value) h = absurd h
low_known (bytes blob) h = absurd h
low_known (embedded value) h = absurd h
low_known (mark key value) h = absurd h
low_known (nested_type kind) h = absurd h
low_known deleted_unit h = absurd h
low_known gone_unit h = absurd h

pub high_is_known : (it : Stored) (high low : Id) → HasPair it high low → IsKnown it high
high_is_known it high low p = (let k = high_known p.first.content p.partners.high_half in record { operation = p.first; there = p.has_first; id_is = p.first_id; unit = k.0; known = k.1 })

low_is_known : (it : Stored) (high low : Id) → HasPair it high low → IsKnown it low
low_is_known it high low p = (let k = low_known p.second.content p.partners.low_half in record { operation = p.second; there = p.has_second; id_is = p.second_id; unit = k.0; known = k.1 })

pub front_known : (old new : Stored) (span : Span) (z : Option Id) → KeepsUnits old new → IfSome z (λ half. HasPair old half (first_id span)) → IfSome z (IsKnown new)
front_known old new span None k found = tt
front_known old new span (Some half) k found = known_kept old new half k (high_is_known old half (first_id span) found)

pub back_known : (old new : Stored) (span : Span) (z : Option Id) → KeepsUnits old new → IfSome z (λ half. (half ≡ end_id span) × (high : Id) × HasPair old high half) → IfSome z (IsKnown new)
back_known old new span None k found = tt
back_known old new span (Some half) k found = known_kept old new half k (low_is_known old found.1 half found.2)

-- ---- what is cut out stays so

pub freed_kept : (old new : Stored) (z : Option Id) (t : Option Torn) → KeepsUnits old new → IsFreed old z t → IsFreed new z t
freed_kept old new None None k freed = tt
freed_kept old new None (Some t) k freed = absurd freed
freed_kept old new (Some half) None k freed = absurd freed
freed_kept old new (Some half) (Some t) k freed = (freed.0, freed.1, alone_kept old new half k freed.2)

pub freed_mapped : (old new : Stored) (told : Operation → Operation) (z : Option Id) (t : Option Torn) → MapsUnits old new told → IfSome z (LeavesText told) → IsFreed old z t → IsFreed new z t
freed_mapped old new told None None m leaves freed = tt
freed_mapped old new told None (Some t) m leaves freed = absurd freed
freed_mapped old new told (Some half) None m leaves freed = absurd freed
freed_mapped old new told (Some half) (Some t) m leaves freed = (freed.0, freed.1, alone_mapped old new told half m leaves freed.2)

pub freed_torn : (old new : Stored) (other z : Option Id) (t : Option Torn) → MapsUnits old new (torn_at other) → IsFreed old z t → IsFreed new z t
freed_torn old new other z t m freed = freed_mapped old new (torn_at other) z t m (if_some z (LeavesText (torn_at other)) (λ half e. torn_leaves other half)) freed

pub freed_lowered : (old new : Stored) (span : Span) (level : ℕ) (half : Id) (t : Torn) → MapsUnits old new (lowered_in span level) → (InSpan span half → ⊥) →
    IsFreed old (Some half) (Some t) → IsFreed new (Some half) (Some t)
freed_lowered old new span level half t m out freed = freed_mapped old new (lowered_in span level) (Some half) (Some t) m (lowered_leaves span level half out) freed

freed_half : (it : Stored) (z : Option Id) (t : Option Torn) → IsFreed it z t → half_of t ≡ z
freed_half it None None freed = refl
freed_half it None (Some t) freed = absurd freed
freed_half it (Some half) None freed = absurd freed
freed_half it (Some half) (Some t) freed = ap (λ (x : Id). Some x) freed.0

pub freed_own : (it : Stored) (z : Option Id) (t : Option Torn) → IsFreed it z t → IsFreed it (half_of t) t
freed_own it z t freed = subst (λ x. IsFreed it x t) (sym (freed_half it z t freed)) freed

-- ---- all together

pub lowers_halves : (old mid first second new : Stored) (span : Span) (level : ℕ) (front back : Option Id) (before behind : Option Torn) → 0 < span.len →
    IfSome front (λ half. HasPair old half (first_id span)) → IfNone front ((half : Id) → HasPair old half (first_id span) → ⊥) →
    IfSome back (λ half. (half ≡ end_id span) × (high : Id) × HasPair old high half) → IfNone back ((high : Id) → HasPair old high (end_id span) → ⊥) →
    IsFreed mid front before → IsFreed mid back behind → KeepsUnits old mid → MapsUnits mid first (torn_at (half_of before)) → MapsUnits first second (torn_at (half_of behind)) →
    MapsUnits second new (lowered_in span level) → LowersUnits old new span level
lowers_halves old mid first second new span level front back before behind some found none found_back none_back freed freed_back k one two less =
    let both = maps_both mid first second (torn_at (half_of before)) (torn_at (half_of behind)) one two in
    let all = maps_kept old mid new (λ o. lowered_in span level (torn_at (half_of behind) (torn_at (half_of before) o))) k
    (maps_both mid second new (λ o. torn_at (half_of behind) (torn_at (half_of before) o)) (lowered_in span level) both less) in
    record {
      told = λ o. lowered_in span level (torn_at back (torn_at front o));
      tells = λ o h. tells_less old span some front back found none found_back none_back level o;
      maps = subst (λ z. MapsUnits old new (λ o. lowered_in span level (torn_at z (torn_at front o)))) (freed_half mid back behind freed_back)
          (subst (λ z. MapsUnits old new (λ o. lowered_in span level (torn_at (half_of behind) (torn_at z o)))) (freed_half mid front before freed) all);
    }

pub lowers_no_unit : (it : Stored) (span : Span) (level : ℕ) → span.len ≡ 0 → LowersUnits it it span level
lowers_no_unit it span level none = record {
  told = λ o. o;
  tells = λ o h. tells_none it span level o none;
  maps = maps_none it (λ o. o) (λ o. refl);
}
