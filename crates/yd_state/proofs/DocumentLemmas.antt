-- The document that contracts see is the one that the store tells, and it is a replica's own.
use Rattle.std.proofs.Common.{◌≡◌, ℕ, List, [], ◌∷◌, inl, inr, Some, map, refl, sym, ap, ◌∙◌, subst, true≢false}
use Rattle.std.proofs.lemmas.Bool.{cases_Bool}
use Rattle.std.specs.Prelude.{slice_get}
use Rattle.yd_words.specs.Member.{IsIn, AreDistinct}
use Rattle.yd_ids.specs.declared.id.Id.{Id}
use Rattle.yd_ops.specs.declared.lists.List.{List as DocList}
use Rattle.yd_ops.specs.Operation.{Operation}
use Rattle.yd_origins.specs.Table.{ids_of as row_ids}
use Rattle.yd_meaning.specs.Names.{same_list}
use Rattle.yd_meaning.specs.ListNames.{same_list_decides}
use Rattle.yd_meaning.specs.Held.{standing, is_named}
use Rattle.yd_meaning.specs.Order.{rows_of}
use Rattle.yd_meaning.specs.Document.{Document, operations_at, keys_among}
use Rattle.yd_meaning.proofs.DocumentLemmas.{found_before}
use Rattle.yd_meaning.proofs.StandingTableLemmas.{standing_table}
use Rattle.yd_meaning.specs.Own.{HasGrownLists, IsOwnDocument}
use Rattle.yd_kept.specs.Kept.{KeptValue}
use Rattle.yd_held.proofs.HoldingLemmas.{is_written}
use Rattle.yd_held.proofs.KeptLemmas.{holds_holding}
use Rattle.yd_held.proofs.TryingLemmas.{got_in}
use Rattle.yd_listing.specs.Falling.{IsTold}
use Rattle.yd_listing.proofs.LawLemmas.{find_name, has_named, named_has}
use Rattle.yd_listing.specs.Listing.{Tells}
use Rattle.yd_state.specs.State.{order_named, document_in, IsSound}
use Rattle.yd_state.specs.Grown.{GrownValue, held_by, units_of, ids_of, document_by, seen_of, IsWhole}
use Rattle.yd_state.proofs.NamesLemmas.{if-true, if-false, units_at, units_none}
use Rattle.yd_state.proofs.ToldLemmas.{lists_grown, is_told, unit_named}
use Rattle.yd_state.proofs.LessLemmas.{each_is_held}

-- ---- lists by their names

at_name : (f : DocList → List Id) (names : List DocList) (list : DocList) → IsIn list names → order_named names (map f names) list ≡ f list
at_name f [] list i = absurd i
at_name f (n ∷ names) list i = elim (cases_Bool (same_list n list)) [
  | inl same ↦ if-true (same_list n list) (f n) (order_named names (map f names) list) same ∙ ap f ((same_list_decides n list).0 same)
  | inr other ↦ if-false (same_list n list) (f n) (order_named names (map f names) list) other
      ∙ at_name f names list (elim i [ inl e ↦ absurd (true≢false (sym ((same_list_decides n list).1 (sym e)) ∙ other)) | inr j ↦ j ])
]

at_none : (f : DocList → List Id) (names : List DocList) (list : DocList) → (IsIn list names → ⊥) → order_named names (map f names) list ≡ []
at_none f [] list none = refl
at_none f (n ∷ names) list none = elim (cases_Bool (same_list n list)) [
  | inl same ↦ absurd (none (inl (sym ((same_list_decides n list).0 same))))
  | inr other ↦ if-false (same_list n list) (f n) (order_named names (map f names) list) other ∙ at_none f names list (λ i. none (inr i))
]

none_in : (os : List Operation) → ((o : Operation) → IsIn o os → ⊥) → os ≡ []
none_in [] none = refl
none_in (o ∷ os) none = absurd (none o (inl refl))

-- operations of a table are those at their ids
at_their_ids : (stands : List Operation) → AreDistinct (row_ids (rows_of stands)) → (os : List Operation) → ((o : Operation) → IsIn o os → IsIn o stands) →
    os ≡ operations_at stands (map (λ (o : Operation). o.id) os)
at_their_ids stands a [] f = refl
at_their_ids stands a (o ∷ os) f = ap (λ ps. o ∷ ps) (at_their_ids stands a os (λ p i. f p (inr i)))
    ∙ sym (found_before stands o (operations_at stands (map (λ (p : Operation). p.id) os)) a (f o (inl refl)))

-- ---- the document

module _ (s : GrownValue) (whole : IsWhole s) where
  order_same : (list : DocList) → order_named s.held.names (map (ids_of s.kept) s.held.names) list ≡ ids_of s.kept list
  order_same list = elim (find_name s.held.names list) [
    | inl h ↦ at_name (ids_of s.kept) s.held.names list (got_in s.held.names h.0 list h.1)
    | inr none ↦ at_none (ids_of s.kept) s.held.names list none ∙ sym (ap (map (λ (o : Operation). o.id)) (none_in (units_of s.kept list) (λ o i.
        let (n, e) = unit_named s.held whole.holds s.kept whole.keeps.ids whole.store list o i in none (got_in s.held.names n list e))))
  ]

  grown_by : HasGrownLists (document_by s) (held_by s)
  grown_by = lists_grown s.held whole.holds s.kept whole.keeps whole.store (document_by s) (λ list. refl)

  pub units_same : (list : DocList) → (document_in (seen_of s)).units list ≡ units_of s.kept list
  units_same list = ap (operations_at (standing (held_by s))) (order_same list)
      ∙ sym (at_their_ids (standing (held_by s)) (standing_table (held_by s) (is_written s.held (holds_holding s.held whole.holds))).distinct (units_of s.kept list)
      (grown_by.as_held list))

  pub document_same : document_in (seen_of s) ≡ document_by s
  document_same = λ i. record { units = λ list. units_same list i; deleted = is_named s.deletes; keys = keys_among (standing (held_by s)) }

  own_by : IsOwnDocument (document_by s) (held_by s) (is_named s.named)
  own_by = record {
    lists = grown_by;
    closed = whole.own.closed;
    least = whole.own.least;
    keys = λ parent. refl;
  }

  -- ---- lemmas for callers

  pub seen_sound : IsSound (seen_of s)
  seen_sound = record {
    received = whole.received;
    holds = whole.holds;
    named = whole.received.maximal;
    own = subst (λ (d : Document). IsOwnDocument d (held_by s) (is_named s.named)) (sym document_same) own_by;
  }

  -- the store tells it, and each of its units
  pub tells_seen : Tells s.kept (document_in (seen_of s))
  tells_seen = subst (Tells s.kept) (sym document_same) (record {
    lists = record {
      named = λ n name e. units_at s.kept whole.keeps.ids.filled.distinct n name e;
      others = λ name none. units_none s.kept whole.keeps.ids.filled.distinct name none;
    };
    marks = λ id. ((λ e. (whole.marks id).1 (named_has s.deletes id e)), (λ m. has_named s.deletes id ((whole.marks id).0 m)));
  })

  pub told_seen : IsTold s.kept
  told_seen = is_told s.held whole.holds s.kept whole.keeps.ids whole.store (λ x. ⊥) (each_is_held s.held whole.holds s.kept whole.keeps (λ x. ⊥))

  -- each list that has a unit has a name
  pub seen_names : (list : DocList) (o : Operation) → IsIn o ((document_in (seen_of s)).units list) → (n : ℕ) × (slice_get s.held.names n ≡ Some list)
  seen_names list o i = unit_named s.held whole.holds s.kept whole.keeps.ids whole.store list o (subst (IsIn o) (units_same list) i)

-- with the same lists it is seen alike
pub seen_again : (s : GrownValue) (it : KeptValue) → ((list : DocList) → units_of it list ≡ units_of s.kept list) →
    seen_of (record { held = s.held; named = s.named; waiting = s.waiting; kept = it; deletes = s.deletes }) ≡ seen_of s
seen_again s it same = λ i. record { held = s.held; named = s.named; orders = map (λ list. map (λ (o : Operation). o.id) (same list i)) s.held.names; deletes = s.deletes }
