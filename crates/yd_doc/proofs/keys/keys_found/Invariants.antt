use Rattle.std.proofs.Common.{◌≡◌, ◌<◌, [], IfSome, map, drop, string_bytes}
use Rattle.yd_arena.specs.Arena.{count_of}
use Rattle.yd_names.specs.Names.{IsOf}
use Rattle.yd_meaning.specs.Document.{Document}
use Rattle.yd_listing.specs.Listing.{Tells}
use Rattle.yd_doc.specs.Keys.{with_names}
use Rattle.yd_doc.proofs.UsedLemmas.{left_of}
use Rattle.yd_doc.proofs.keys.keys_found.Given as goal

-- the keys so far are those of the names behind the next one
abbrev pub invariant-loop-next : goal.invariant-loop-next
invariant-loop-next l = record {
  own : IfSome l.next (IsOf l.kept.names l.parent);
  within : IfSome l.next (λ n. n < count_of l.kept.store.placed);
  keys : (document : Document) → Tells l.kept document → map string_bytes l.found.keys ≡ with_names document l.parent (drop (left_of l.next) l.kept.names) [];
}

abbrev pub decreases-loop-next : goal.decreases-loop-next
decreases-loop-next l = left_of l.next
