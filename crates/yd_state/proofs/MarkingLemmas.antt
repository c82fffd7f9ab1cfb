-- What falls is held; once it is marked, all that is deleted is, and the lists are as before.
use Rattle.std.proofs.Common.{◌≡◌, ℕ, ◌<◌, List, [], inl, inr, Some, length, sym, ap, ◌∙◌, subst, arith}
use Rattle.std.specs.Prelude.{◌↔◌, ◌⊎◌, slice_get}
use Rattle.yd_words.specs.Member.{IsIn}
use Rattle.yd_ids.specs.declared.id.Id.{Id}
use Rattle.yd_ids.specs.declared.id.Span.{Span}
use Rattle.yd_ids.specs.Set.{HasId, union_of}
use Rattle.yd_ids.proofs.UnionLemmas.{union_ids}
use Rattle.yd_ops.specs.declared.lists.List.{List as DocList}
use Rattle.yd_ops.specs.Operation.{Operation}
use Rattle.yd_arena.specs.Arena.{next_clock}
use Rattle.yd_ops.specs.Received.{IsWritten}
use Rattle.yd_meaning.specs.Held.{standing}
use Rattle.yd_meaning.specs.Grown.{table_in}
use Rattle.yd_meaning.proofs.GrowthLemmas.{grows_on}
use Rattle.yd_meaning.proofs.GrownStayingLemmas.{stands_held}
use Rattle.yd_kept.proofs.FillingLemmas.{slice_below, within_names}
use Rattle.yd_kept.specs.Kept.{KeptValue}
use Rattle.yd_kept.specs.Marking.{DeletesEach}
use Rattle.yd_entries.specs.Entries.{is_held}
use Rattle.yd_entries.proofs.ChangeLemmas.{entry_got}
use Rattle.yd_received.specs.Received.{held_of}
use Rattle.yd_held.specs.Held.{HeldValue, HoldsAll}
use Rattle.yd_held.proofs.HeldEntryLemmas.{chosen_id}
use Rattle.yd_listing.specs.declared.came.Came.{Came}
use Rattle.yd_listing.specs.Falling.{units_of_list, Falls, by_name, by_loss, by_key, by_deleted, by_item}
use Rattle.yd_listing.proofs.LawLemmas.{find_name}
use Rattle.yd_state.specs.Back.{CanBeTakenOut}
use Rattle.yd_state.specs.PlacingLaw.{IsEmptyStore}
use Rattle.yd_state.specs.Placing.{KeepsIds, PlacesAll}
use Rattle.yd_state.specs.Grown.{units_of, AreMarked}
use Rattle.yd_state.specs.Coming.{AreCame}
use Rattle.yd_state.specs.Settling.{MarksOn, MarksAnew}
use Rattle.yd_state.specs.Telling.{KeepsStanding}
use Rattle.yd_state.proofs.CameLemmas.{came_at, turn_is_held, in_entry, written, filled}
use Rattle.yd_state.proofs.NamesLemmas.{units_at, units_none}
use Rattle.yd_state.proofs.ToldLemmas.{in_some_list}

-- ---- what falls is held

module _ (k : HeldValue) (holds : HoldsAll k) (it : KeptValue) (keeps : KeepsIds (held_of k.received) it) where
  unit_below : (n : ℕ) (x : Id) → IsIn x (units_of_list it n) → x.clock < next_clock it.store.placed x.client.0
  unit_below n x i =
      let (name, e) = slice_below it.names n (let lt = in_some_list it n x i in omega (arith, lt, keeps.filled.count)) in
      let (up, of) = ((filled k holds it keeps).each n name e x).0 i in
      keeps.all x (stands_held (held_of k.received) (written k holds it keeps) x up)

  pub falls_below : (order : List ℕ) → CanBeTakenOut k order it → (came : List Came) → AreCame k it order came → (old : List Span) (named : Id → Type 0) (x : Id) →
      Falls it old named came x → x.clock < next_clock it.store.placed x.client.0
  falls_below order can came are old named x (by_name these lt) = lt
  falls_below order can came are old named x (by_loss c) =
      let (at, i, is) = came_at k it order came are c.one c.member in
      keeps.all x (chosen_id is_held k.received holds.in_order is.entry x (entry_got k.received.entries at is.entry is.there)
      (turn_is_held k.received.runs k.received.entries order can.clocks (next_clock it.store.placed) can.turn at is.entry i is.there)
      (in_entry is.entry c.one.span x is.of.span_is c.inside))
  falls_below order can came are old named x (by_key n keyed i other) = unit_below n x i
  falls_below order can came are old named x (by_deleted n under i h) = unit_below n x i
  falls_below order can came are old named x (by_item n under i f) = unit_below n x i

-- ---- where it is marked

module _ (held : List Operation) (w : IsWritten held) (mid new : KeptValue) (keeps : KeepsIds held mid) (besides : List Span) (deletes : DeletesEach mid new besides) where
  -- the store has just the ids of what is held still
  pub marked_keeps : KeepsIds held new
  marked_keeps =
      let further = deletes.filled held w keeps.filled in record {
        filled = further.fills;
        all = λ x e. omega (arith, keeps.all x e, deletes.nexts x.client.0);
        below = λ x low. keeps.below x (omega (arith, low, deletes.nexts x.client.0));
        grown = λ n name e.
            let g : slice_get mid.names n ≡ Some name = ap (λ ns. slice_get ns n) (sym deletes.names) ∙ e in
            grows_on (table_in (standing held) name) [] _ _ (keeps.grown n name g) (further.grows.grows n name g);
      }

  -- and the same lists
  pub marked_units : (list : DocList) → units_of new list ≡ units_of mid list
  marked_units list = elim (find_name mid.names list) [
    | inl h ↦
        let lt = within_names mid.names h.0 list h.1 in
        units_at new marked_keeps.filled.distinct h.0 list (ap (λ ns. slice_get ns h.0) deletes.names ∙ h.1)
        ∙ deletes.lists h.0 (omega (arith, lt, keeps.filled.count))
        ∙ sym (units_at mid keeps.filled.distinct h.0 list h.1)
    | inr none ↦ units_none new marked_keeps.filled.distinct list (λ i. none (subst (IsIn list) deletes.names i)) ∙ sym (units_none mid keeps.filled.distinct list none)
  ]

module _ (k : HeldValue) (was mid new : KeptValue) (placed : PlacesAll k was mid) (deleted besides now : List Span) (deletes : DeletesEach mid new besides)
    (grown : now ≡ union_of deleted besides) where
  ids : (x : Id) → HasId now x ↔ (HasId deleted x ⊎ HasId besides x)
  ids x = subst (λ s. HasId s x ↔ (HasId deleted x ⊎ HasId besides x)) (sym grown) (union_ids deleted besides x)

  -- what is deleted is marked
  pub marks_on : MarksOn k was new deleted now
  marks_on marked lost x = (
    (λ m. elim ((deletes.marks x).0 m) [
      | inl p ↦ elim ((placed.marks x).0 p) [
        | inl w ↦ (ids x).1 (inl ((marked x).0 w))
        | inr gone ↦ lost x gone.0
      ]
      | inr h ↦ (ids x).1 (inr h)
    ]),
    (λ h. elim ((ids x).0 h) [
      | inl d ↦ (deletes.marks x).1 (inl ((placed.marks x).1 (inl ((marked x).1 d))))
      | inr b ↦ (deletes.marks x).1 (inr b)
    ]),
  )

-- so it is where less is told
pub marks_told : (k : HeldValue) (was mid new : KeptValue) (deleted now : List Span) → KeepsStanding mid new → MarksOn k was mid deleted now → MarksOn k was new deleted now
marks_told k was mid new deleted now tells on marked lost x =
    let are = on marked lost x in ((λ m. are.0 ((tells.marks x).0 m)), (λ h. (tells.marks x).1 (are.1 h)))

-- ---- from nothing

-- no unit of an empty store is marked
pub nothing_marked : (it : KeptValue) → IsEmptyStore it → AreMarked it.store []
nothing_marked it empty x = ((λ m. absurd (omega (arith, m.has.within, ap length empty.runs))), (λ h. absurd h))

pub marks_anew : (k : HeldValue) (fresh new : KeptValue) → IsEmptyStore fresh → (now : List Span) → MarksOn k fresh new [] now → MarksAnew k new now
marks_anew k fresh new empty now on lost = on (nothing_marked fresh empty) lost
