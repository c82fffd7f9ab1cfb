-- How many units of a list are live: the store counts them.
use Rattle.std.proofs.Common.{◌≡◌, ℕ, ◌<◌, Some, get_or, length, refl, sym, ap, ◌∙◌}
use Rattle.std.specs.Prelude.{filter, slice_get}
use Rattle.yd_words.specs.Member.{IsIn}
use Rattle.yd_ops.specs.declared.lists.List.{List as DocList}
use Rattle.yd_arena.specs.Lists.{AreLists}
use Rattle.yd_arena.specs.Arena.{IsArena, runs_of, count_of}
use Rattle.yd_arena.specs.Marks.{AreCounted}
use Rattle.yd_store.specs.Contents.{told_of}
use Rattle.yd_store.specs.Law.{is_live, AreLessMarked}
use Rattle.yd_store.specs.Store.{AreTold, AreNoted}
use Rattle.yd_store.proofs.LiveLemmas.{live_is_counted}
use Rattle.yd_ops.proofs.OneOfLemmas.{id_is_there}
use Rattle.yd_meaning.specs.Held.{is_named}
use Rattle.yd_meaning.proofs.StandingLemmas.{standing_in}
use Rattle.yd_meaning.specs.Deletions.{for_name}
use Rattle.yd_entries.specs.Entries.{is_held}
use Rattle.yd_held.proofs.HeldEntryLemmas.{chosen_received}
use Rattle.yd_held.proofs.HoldingLemmas.{is_written}
use Rattle.yd_held.proofs.KeptLemmas.{holds_holding}
use Rattle.yd_listing.proofs.LawLemmas.{has_named, named_has}
use Rattle.yd_state.specs.State.{document_in}
use Rattle.yd_state.specs.Grown.{GrownValue, held_by, seen_of, IsWhole}
use Rattle.yd_state.proofs.DocumentLemmas.{units_same}
use Rattle.yd_state.proofs.NamesLemmas.{units_at, units_none}
use Rattle.yd_state.proofs.ToldLemmas.{list_stands}

module _ (s : GrownValue) (whole : IsWhole s) where
  -- what is spelled less than in full is named, and so it is deleted
  less_marked : (n : ℕ) → n < count_of s.kept.store.placed → AreLessMarked s.kept.store (is_named s.deletes) n
  less_marked n lt o i low =
      let h = (standing_in (held_by s) (is_written s.held (holds_holding s.held whole.holds)) o
      (list_stands s.held whole.holds s.kept whole.keeps whole.store n lt o i)).0 in
      let taken = chosen_received is_held s.held.received whole.holds.in_order o h in
      whole.own.closed.all o.id (for_name (id_is_there (held_by s) o h) (has_named s.named o.id (whole.received.named o.id (o, taken, refl, low))))

  -- ---- lemmas for callers

  pub length_at : (n : ℕ) (list : DocList) → slice_get s.kept.names n ≡ Some list → n < count_of s.kept.store.placed →
      IsArena s.kept.store.placed.lines (runs_of s.kept.store.placed) → AreLists s.kept.store.placed.linked →
      AreTold (runs_of s.kept.store.placed) (told_of s.kept.store.contents) → AreCounted s.kept.store.placed.linked s.kept.store.marks.rows s.kept.store.marks.live →
      AreNoted s.kept.store.marks.rows (told_of s.kept.store.contents) →
      get_or s.kept.store.marks.live n 0 ≡ length (filter (is_live (is_named s.deletes)) ((document_in (seen_of s)).units list))
  length_at n list e lt arena lists told counted noted =
      live_is_counted s.kept.store n (is_named s.deletes) arena lists told counted noted lt
      (λ id. ((λ f. (whole.marks id).1 (named_has s.deletes id f)), (λ m. has_named s.deletes id ((whole.marks id).0 m)))) (less_marked n lt)
      ∙ ap (λ os. length (filter (is_live (is_named s.deletes)) os)) (sym (units_same s whole list ∙ units_at s.kept whole.keeps.ids.filled.distinct n list e))

  pub length_none : (list : DocList) → (IsIn list s.kept.names → ⊥) → 0 ≡ length (filter (is_live (is_named s.deletes)) ((document_in (seen_of s)).units list))
  length_none list none = ap (λ os. length (filter (is_live (is_named s.deletes)) os)) (sym (units_same s whole list ∙ units_none s.kept whole.keeps.ids.filled.distinct list none))
