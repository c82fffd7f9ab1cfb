-- From a store with what was held to one with what is held: what came is what became held, and each list had what was held before, in its order.
use Rattle.std.proofs.Common.{◌≡◌, ℕ, ◌<◌, true, List, [], ◌⊎◌, inl, inr, Some, None, sym, ap, ◌∙◌, subst, arith, true≢false}
use Rattle.std.proofs.lemmas.Bool.{cases_Bool}
use Rattle.std.specs.Prelude.{filter, slice_get, not}
use Rattle.yd_words.specs.Member.{IsIn}
use Rattle.yd_words.proofs.FilterLemmas.{filter-all}
use Rattle.yd_words.proofs.OptionLemmas.{some_is}
use Rattle.yd_words.proofs.TestLemmas.{both_hold, test_fails}
use Rattle.yd_ids.specs.declared.id.Id.{Id}
use Rattle.yd_ids.specs.Vector.{clock_of}
use Rattle.yd_ops.specs.declared.lists.List.{List as DocList}
use Rattle.yd_ops.specs.Operation.{Operation}
use Rattle.yd_origins.specs.Table.{OriginTable, ids_of as rows_ids, left_of, right_of}
use Rattle.yd_arena.specs.Arena.{units_in, next_clock}
use Rattle.yd_ops.specs.Received.{has_operation}
use Rattle.yd_ops.proofs.OneOfLemmas.{operation_with, id_is_there}
use Rattle.yd_meaning.specs.Held.{standing, is_lost}
use Rattle.yd_meaning.specs.Order.{list_of}
use Rattle.yd_meaning.specs.Grown.{table_in}
use Rattle.yd_meaning.specs.Staying.{StaysHeld}
use Rattle.yd_meaning.proofs.GrowthLemmas.{news_are_rows}
use Rattle.yd_meaning.proofs.GrownStayingLemmas.{stands_held, lost_is, stands_not_lost}
use Rattle.yd_kept.specs.Telling.{IsSoundStore}
use Rattle.yd_kept.proofs.BackLemmas.{filter-none, filter-scans, news_are_new}
use Rattle.yd_kept.proofs.FillingLemmas.{slice_below}
use Rattle.yd_kept.specs.Kept.{KeptValue}
use Rattle.yd_entries.specs.declared.entry.Entry.{Entry}
use Rattle.yd_entries.specs.Entries.{covers, is_listed}
use Rattle.yd_entries.proofs.ChangeLemmas.{entry_got}
use Rattle.yd_received.specs.Received.{held_of}
use Rattle.yd_held.specs.Held.{HeldValue, HoldsAll}
use Rattle.yd_held.proofs.HeldEntryLemmas.{covers_chosen}
use Rattle.yd_held.proofs.KeptLemmas.{holds_holding}
use Rattle.yd_held.proofs.TryingLemmas.{got_in}
use Rattle.yd_held.proofs.TurnLemmas.{turn_covers}
use Rattle.yd_listing.specs.declared.came.Came.{Came}
use Rattle.yd_listing.specs.Falling.{units_of_list, CameInto}
use Rattle.yd_listing.specs.Law.{BecameHeld}
use Rattle.yd_listing.proofs.LawLemmas.{find_name}
use Rattle.yd_state.specs.Placing.{KeepsIds, CanBePlaced, PlacesAll}
use Rattle.yd_state.proofs.EntryLemmas.{lost_other}
use Rattle.yd_state.specs.Grown.{ids_of}
use Rattle.yd_state.specs.Coming.{AreCame}
use Rattle.yd_state.proofs.NamesLemmas.{has_lists}
use Rattle.yd_state.proofs.CameLemmas.{came_at, at_came, turn_is_held, in_entry, entry_in, written, filled, came_list, came_none, is_came, came_lost, same_list}
use Rattle.yd_state.proofs.ToldLemmas.{in_some_list}

module _ (k : HeldValue) (holds : HoldsAll k) (part : List Operation) (stays : StaysHeld part (held_of k.received)) (was it : KeptValue) (had : KeepsIds part was) (sound_was : IsSoundStore was.store)
    (order : List ℕ) (can : CanBePlaced k order was) (placed : PlacesAll k was it) (keeps : KeepsIds (held_of k.received) it) (sound : IsSoundStore it.store)
    (came : List Came) (are : AreCame k it order came) where
  abbrev held : List Operation
  held = held_of k.received

  -- ---- each list had what was held before

  -- what was held and stands is in the list of its name, if that was there
  had_it : (n : ℕ) (name : DocList) → slice_get was.names n ≡ Some name → (x : Id) → IsIn x (rows_ids (table_in (standing held) name)) →
      has_operation part x ≡ true → IsIn x (units_in was.store.placed n)
  had_it n name e x i there = ((can.filled.rows n name e).each x).1 (i, had.all x there)

  before_at : (n : ℕ) (name : DocList) → slice_get was.names n ≡ Some name → units_in was.store.placed n ≡ filter (has_operation part) (units_in it.store.placed n)
  before_at n name e =
      let table : OriginTable = table_in (standing held) name in
      let grows = placed.further.grows.grows n name e in
      sym (ap (filter (has_operation part)) (sym grows.grown)
      ∙ filter-scans (left_of table) (right_of table) (has_operation part) grows.news (units_in was.store.placed n) (λ x i. test_fails (has_operation part x) (λ there.
      news_are_new table grows.news (units_in was.store.placed n) grows.arranged x i
      (had_it n name e x (news_are_rows table grows.news (units_in was.store.placed n) grows.arranged x i) there)))
      ∙ filter-all (has_operation part) (units_in was.store.placed n) (λ x i. had.below x (((can.filled.rows n name e).each x).0 i).1))

  -- what was held is in no list whose name is new
  none_before : (n : ℕ) (name : DocList) → slice_get it.names n ≡ Some name → (IsIn name was.names → ⊥) → filter (has_operation part) (units_in it.store.placed n) ≡ []
  none_before n name e none = filter-none (has_operation part) (units_in it.store.placed n) (λ x i. test_fails (has_operation part x) (λ there.
      let (up, of) = ((filled k holds it keeps).each n name e x).0 i in
      let (m, got) = can.filled.listed x up (had.all x there) in
      none (subst (λ l. IsIn l was.names) of (got_in was.names m (list_of (standing held) x) got))))

  before : (list : DocList) → ids_of was list ≡ filter (has_operation part) (ids_of it list)
  before list = elim (find_name was.names list) [
    | inl h ↦
        (has_lists was had.filled.distinct sound_was had.filled.count).named h.0 list h.1
        ∙ before_at h.0 list h.1
        ∙ ap (filter (has_operation part)) (sym ((has_lists it keeps.filled.distinct sound keeps.filled.count).named h.0 list (placed.further.grows.kept h.0 list h.1)))
    | inr none ↦ (has_lists was had.filled.distinct sound_was had.filled.count).others list none ∙ sym (elim (find_name it.names list) [
      | inl h ↦ ap (filter (has_operation part)) ((has_lists it keeps.filled.distinct sound keeps.filled.count).named h.0 list h.1) ∙ none_before h.0 list h.1 none
      | inr out ↦ ap (filter (has_operation part)) ((has_lists it keeps.filled.distinct sound keeps.filled.count).others list out)
    ])
  ]

  -- ---- what came

  reached : (x : Id) → has_operation held x ≡ true → x.clock < clock_of k.vector x.client.0
  reached x e = ((holds_holding k holds).tells x).0 e

  -- what is held was so, or is of an entry that came
  was_or_entry : (x : Id) → has_operation held x ≡ true → (has_operation part x ≡ true) ⊎ ((at : ℕ) × IsIn at order × (t : Entry) × (slice_get k.received.entries at ≡ Some t) × (covers t x ≡ true))
  was_or_entry x e = elim (turn_covers k.received.runs k.received.entries order (next_clock was.store.placed) (clock_of k.vector) can.turn x (reached x e)) [
    | inl low ↦ inl (had.below x low)
    | inr found ↦ inr found
  ]

  comes : (n : ℕ) (x : Id) → IsIn x (units_of_list it n) → (has_operation part x ≡ true) ⊎ CameInto came (Some n) x
  comes n x i =
      let (name, e) = slice_below it.names n (let lt = in_some_list it n x i in omega (arith, lt, keeps.filled.count)) in
      let (up, of) = ((filled k holds it keeps).each n name e x).0 i in
      elim (was_or_entry x (stands_held held (written k holds it keeps) x up)) [
        | inl there ↦ inl there
        | inr (at, j, t, got, c) ↦
            let (one, l, is) = at_came k it order came are at j in
            let same : is.entry ≡ t = some_is is.entry t (sym is.there ∙ got) in
            let here : IsIn is.entry k.received.entries = entry_got k.received.entries at is.entry is.there in
            let covered : covers is.entry x ≡ true = ap (λ u. covers u x) same ∙ c in
            let listed : is_listed is.entry ≡ true = covers_chosen is_listed k.received holds.in_order is.entry x here covered (subst (λ os. has_operation os x ≡ true) (sym holds.stands) up) in
            let (m, number, named) = came_list k holds it keeps is.entry here one is.of listed in
            let one_list = same_list k holds it keeps is.entry here one is.of listed x covered in
            let m_is : m ≡ n = keeps.filled.distinct m n name (named ∙ ap (λ (l : DocList). Some l) (sym one_list ∙ of)) e in
            inr (record { one = one; member = l; list_is = number ∙ ap (λ (j : ℕ). Some j) m_is; inside = entry_in is.entry one.span x is.of.span_is covered })
      ]

  lost : (x : Id) → CameInto came None x → is_lost held x ≡ true
  lost x c =
      let (at, i, is) = came_at k it order came are c.one c.member in
      came_lost k holds it keeps is.entry (entry_got k.received.entries at is.entry is.there) c.one is.of
      (turn_is_held k.received.runs k.received.entries order (next_clock was.store.placed) (clock_of k.vector) can.turn at is.entry i is.there)
      c.list_is x (in_entry is.entry c.one.span x is.of.span_is c.inside)

  still_lost : (x : Id) → has_operation part x ≡ true → is_lost held x ≡ true → is_lost part x ≡ true
  still_lost x there gone = elim (cases_Bool (has_operation (standing part) x)) [
    | inl up ↦
        let (o, i, e) = operation_with (standing part) x up in
        let (q, j, alike) = stays.stands o i in
        let stands : has_operation (standing held) x ≡ true = subst (λ y. has_operation (standing held) y ≡ true) (alike.id ∙ e) (id_is_there (standing held) q j) in
        absurd (true≢false (sym gone ∙ stands_not_lost held x stands))
    | inr none ↦ lost_is part x there none
  ]

  losses : (x : Id) → is_lost held x ≡ true → (is_lost part x ≡ true) ⊎ CameInto came None x
  losses x gone = elim (was_or_entry x (both_hold (has_operation held x) (not (has_operation (standing held) x)) gone).0) [
    | inl there ↦ inl (still_lost x there gone)
    | inr (at, j, t, got, c) ↦
        let (one, l, is) = at_came k it order came are at j in
        let same : is.entry ≡ t = some_is is.entry t (sym is.there ∙ got) in
        let here : IsIn is.entry k.received.entries = entry_got k.received.entries at is.entry is.there in
        let covered : covers is.entry x ≡ true = ap (λ u. covers u x) same ∙ c in
        inr (record {
          one = one;
          member = l;
          list_is = came_none k holds it keeps is.entry here one is.of (lost_other k holds is.entry here x covered gone);
          inside = entry_in is.entry one.span x is.of.span_is covered;
        })
  ]

  -- ---- lemmas for callers

  pub became_held : BecameHeld it came (ids_of was) (ids_of it) part held
  became_held = record {
    by_name = has_lists it keeps.filled.distinct sound keeps.filled.count;
    filled = filled k holds it keeps;
    grown = keeps.grown;
    there = λ x e. keeps.all x e;
    no_more = λ x low. keeps.below x low;
    before = before;
    stand = λ one i.
        let (at, j, is) = came_at k it order came are one i in
        is_came k holds it keeps is.entry (entry_got k.received.entries at is.entry is.there) one is.of;
    comes = comes;
    lost = lost;
    losses = losses;
  }
