-- What is cut at the ends of a span, or cut out, stays so until it is told less.
use Rattle.std.proofs.Common.{◌+◌, Some}
use Rattle.yd_ids.specs.declared.id.Id.{Id}
use Rattle.yd_ids.specs.declared.id.Span.{Span}
use Rattle.yd_ops.specs.Operation.{Operation}
use Rattle.yd_store.specs.declared.halves.Torn.{Torn}
use Rattle.yd_store.specs.Store.{Stored}
use Rattle.yd_store.specs.Units.{KeepsUnits}
use Rattle.yd_store.specs.Lowering.{MapsUnits}
use Rattle.yd_store.specs.Halves.{IsKnown, IsFreed}
use Rattle.yd_kept.specs.Kept.{KeptValue, KeepsHeld}
use Rattle.yd_kept.specs.Marking.{IsParted}

-- ---- lemmas for callers: a span

pub span_kept : (old new : Stored) (span : Span) → KeepsUnits old new → IsParted old span → IsParted new span
span_kept old new span k parted = record {
  front = k.borders span.client.0 span.clock parted.front;
  back = k.borders span.client.0 (span.clock + span.len) parted.back;
}

pub span_held : (old new : KeptValue) (span : Span) → KeepsHeld old new → IsParted old.store span → IsParted new.store span
span_held old new span k parted = record {
  front = k.borders span.client.0 span.clock parted.front;
  back = k.borders span.client.0 (span.clock + span.len) parted.back;
}

pub span_mapped : (old new : Stored) (told : Operation → Operation) (span : Span) → MapsUnits old new told → IsParted old span → IsParted new span
span_mapped old new told span m parted = record {
  front = m.borders span.client.0 span.clock parted.front;
  back = m.borders span.client.0 (span.clock + span.len) parted.back;
}

-- ---- lemmas for callers: a half (more of it is in `freed_kept`, `freed_mapped`, `freed_lowered` and `freed_torn` of yd_store)

pub known_held : (old new : KeptValue) (id : Id) → KeepsHeld old new → IsKnown old.store id → IsKnown new.store id
known_held old new id k known = record {
  operation = known.operation;
  there = (k.operations known.operation).1 known.there;
  id_is = known.id_is;
  unit = known.unit;
  known = known.known;
}

pub freed_held : (old new : KeptValue) (half : Id) (t : Torn) → KeepsHeld old new → IsFreed old.store (Some half) (Some t) → IsFreed new.store (Some half) (Some t)
freed_held old new half t k freed = (
  freed.0,
  freed.1,
  record {
    known = known_held old new half k freed.2.known;
    front = k.borders half.client.0 half.clock freed.2.front;
    back = k.borders half.client.0 (half.clock + 1) freed.2.back;
  },
)
