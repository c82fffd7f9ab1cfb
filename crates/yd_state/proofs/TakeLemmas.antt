-- A state after an update: sound where it was taken, and unchanged where memory ended.
use Rattle.std.proofs.Common.{◌≡◌, ℕ, ◌<◌, ◌≤◌, Bool, true, false, List, [], inl, inr, Some, map, refl, sym, ap, ◌∙◌, subst, arith, true≢false}
use Rattle.std.specs.Prelude.{◌↔◌, ◌⊎◌, slice_get}
use Rattle.yd_words.specs.Member.{IsIn}
use Rattle.yd_words.proofs.OptionLemmas.{some_is}
use Rattle.yd_words.proofs.TestLemmas.{split}
use Rattle.yd_ids.specs.declared.id.Id.{Id}
use Rattle.yd_ids.specs.declared.id.Span.{Span}
use Rattle.yd_ids.specs.Set.{HasId, AddsSpans, union_of}
use Rattle.yd_ids.specs.Vector.{clock_of}
use Rattle.yd_ids.proofs.UnionLemmas.{union_ids}
use Rattle.yd_ops.specs.declared.lists.List.{List as DocList}
use Rattle.yd_ops.specs.Operation.{Operation}
use Rattle.yd_ops.specs.Valid.{IsValidUpdate}
use Rattle.yd_ops.specs.Value.{UpdateValue}
use Rattle.yd_arena.specs.Arena.{count_of}
use Rattle.yd_ops.specs.Deletes.{deletes_of}
use Rattle.yd_ops.specs.Received.{has_operation, with_groups, groups_of}
use Rattle.yd_ops.proofs.ReceivedLemmas.{nothing_is_received}
use Rattle.yd_meaning.specs.Held.{is_named}
use Rattle.yd_meaning.specs.Deletions.{for_loss, AreClosedDeletions, AreLeastDeletions}
use Rattle.yd_kept.specs.Telling.{IsSoundStore}
use Rattle.yd_kept.proofs.FillingLemmas.{slice_below, within_names}
use Rattle.yd_kept.specs.Kept.{KeptValue, JoinsHeld}
use Rattle.yd_received.specs.Received.{taken_of, held_of}
use Rattle.yd_held.specs.Held.{HeldValue, HoldsAll}
use Rattle.yd_held.specs.Turn.{HoldsOn, TellsOrder}
use Rattle.yd_held.proofs.HoldingLemmas.{is_written}
use Rattle.yd_held.proofs.KeptLemmas.{holds_holding}
use Rattle.yd_held.proofs.TryingLemmas.{got_in}
use Rattle.yd_listing.specs.Falling.{IsNamedIn}
use Rattle.yd_listing.specs.Law.{BecameNamed}
use Rattle.yd_listing.proofs.LawLemmas.{find_name, has_named, named_has}
use Rattle.yd_state.specs.PlacingLaw.{IsEmptyStore, KeepsLists}
use Rattle.yd_state.specs.Placing.{KeepsAll}
use Rattle.yd_state.proofs.LessLemmas.{can_be_less}
use Rattle.yd_state.proofs.PlacingLawLemmas.{entries_can_be_placed, keeping_keeps_all}
use Rattle.yd_state.specs.declared.sets.Sets.{Sets}
use Rattle.yd_state.specs.Grown.{GrownValue, held_by, units_of, AreWaiting, AreOwnDeletions, AreMarked, seen_of, IsWhole}
use Rattle.yd_state.specs.Settling.{CanSettle, AreLeft, known_of, DeletesThen, MarksThen, Settles}
use Rattle.yd_state.proofs.NamesLemmas.{units_at, units_none}
use Rattle.yd_state.proofs.DocumentLemmas.{seen_again}
use Rattle.yd_state.proofs.MarkingLemmas.{nothing_marked}
use Rattle.yd_state.proofs.SettlingLemmas.{nothing_kept, nothing_deleted}
use Rattle.yd_state.proofs.SoundLemmas.{still_received}

-- ---- what became held can be placed

pub can_settle : (anew : Bool) (old k : HeldValue) → HoldsAll old → HoldsAll k → (told order : List ℕ) → TellsOrder anew told order old k → (it : KeptValue) →
    KeepsAll (held_of old.received) it → CanSettle anew k told order it
can_settle false old k holds now told order tells it keeps =
    (entries_can_be_placed.on old k holds now told order tells it keeps, can_be_less old k holds now told order tells it keeps)
can_settle true old k holds now told order tells it keeps = tells.1

-- ---- where it was taken

module _ (old : GrownValue) (sound : IsWhole old) (more named : List Span) (is : named ≡ union_of old.named more) where
  ids : AddsSpans old.named named more
  ids x = subst (λ s. HasId s x ↔ (HasId old.named x ⊎ HasId more x)) (sym is) (union_ids old.named more x)

  module _ (k : HeldValue) where
    -- what waits is what is named and not held
    waits_on : (anew : Bool) (sets : Sets) → sets.named ≡ old.named → sets.waiting ≡ old.waiting → ((client : ℕ) → (anew ≡ false) → clock_of old.held.vector client ≤ clock_of k.vector client) →
        (left : List Span) → AreLeft k (known_of anew sets) more left → AreWaiting k.vector named left
    waits_on true sets e f rises left are x = (
      (λ h. let (i, le) = (are x).0 h in ((ids x).1 (elim i [ inl j ↦ inl (subst (λ s. HasId s x) e j) | inr j ↦ inr j ]), le)),
      (λ b. (are x).1 (elim ((ids x).0 b.0) [ inl j ↦ inl (subst (λ s. HasId s x) (sym e) j) | inr j ↦ inr j ], b.1)),
    )
    waits_on false sets e f rises left are x = (
      (λ h. let (i, le) = (are x).0 h in ((ids x).1 (elim i [ inl j ↦ inl ((sound.waits x).0 (subst (λ s. HasId s x) f j)).0 | inr j ↦ inr j ]), le)),
      (λ b. (are x).1 (
        elim ((ids x).0 b.0) [
          | inl j ↦ inl (subst (λ s. HasId s x) (sym f) ((sound.waits x).1 (j, omega (arith, b.1, rises x.client.0 refl))))
          | inr j ↦ inr j
        ],
        b.1,
      )),
    )

    -- what is named is what was, and more
    became_named : BecameNamed (held_by old) (held_of k.received) (is_named old.named) (is_named named) (IsNamedIn old.waiting more)
    became_named = record {
      stays = λ x e. has_named named x ((ids x).1 (inl (named_has old.named x e)));
      known = λ x these. has_named named x ((ids x).1 (elim these [ inl i ↦ inl ((sound.waits x).0 i).0 | inr i ↦ inr i ]));
      all = λ x there by. elim ((ids x).0 (named_has named x by)) [
        | inl i ↦ elim (split (clock_of old.held.vector x.client.0) x.clock) [
          | inl le ↦ inr (inl ((sound.waits x).1 (i, le)))
          | inr lt ↦ inl (((holds_holding old.held sound.holds).tells x).1 lt, has_named old.named x i)
        ]
        | inr i ↦ inr (inr i)
      ];
    }

    module _ (holds : HoldsAll k) (told order : List ℕ) (sets : Sets) (same_named : sets.named ≡ old.named) (same_waiting : sets.waiting ≡ old.waiting) (same_deletes : sets.deletes ≡ old.deletes)
        (it : KeptValue) (now : List Span) where
      own_then : (anew : Bool) → TellsOrder anew told order old.held k → DeletesThen anew k sets more old.kept it now → AreOwnDeletions it (held_of k.received) named now
      own_then false tells deletes = deletes (held_by old) old.named named (record {
        stays = tells.stays;
        keeps = sound.keeps.ids;
        store = sound.store;
        own = subst (λ d. AreOwnDeletions old.kept (held_by old) old.named d) (sym same_deletes) sound.own;
        became = subst (λ w. BecameNamed (held_by old) (held_of k.received) (is_named old.named) (is_named named) (IsNamedIn w more)) (sym same_waiting) became_named;
      })
      own_then true tells deletes = deletes named (subst (λ s. AddsSpans s named more) (sym same_named) ids)

      -- all that is lost is deleted, and so it is marked
      marks_then : (anew : Bool) → AreOwnDeletions it (held_of k.received) named now → MarksThen anew k sets old.kept it now → AreMarked it.store now
      marks_then false own marks = marks (subst (AreMarked old.kept.store) (sym same_deletes) sound.marks) (λ x gone. named_has now x (own.closed.all x (for_loss gone)))
      marks_then true own marks = marks (λ x gone. named_has now x (own.closed.all x (for_loss gone)))

-- no clock falls where others are held as they were
rises_on : (old k : HeldValue) → HoldsAll old → HoldsAll k → (told order : List ℕ) → HoldsOn told order old k → (client : ℕ) → clock_of old.vector client ≤ clock_of k.vector client
rises_on old k holds now told order on client = elim (split (clock_of old.vector client) (clock_of k.vector client)) [
  | inl le ↦ le
  | inr lt ↦
      let there : has_operation (held_of old.received) x ≡ true = ((holds_holding old holds).tells x).1 lt in
      let still : has_operation (held_of k.received) x ≡ true = on.stays.ids x there in
      absurd (less (clock_of k.vector client) (((holds_holding k now).tells x).0 still))
]
  where
    x : Id
    x = record { client = record { 0 = client }; clock = clock_of k.vector client }

    less : (n : ℕ) → n < n → ⊥
    less n lt = omega (arith, lt)

rises_where : (anew : Bool) (old k : HeldValue) → HoldsAll old → HoldsAll k → (told order : List ℕ) → TellsOrder anew told order old k → (client : ℕ) → anew ≡ false →
    clock_of old.vector client ≤ clock_of k.vector client
rises_where false old k holds now told order tells client e = rises_on old k holds now told order tells client
rises_where true old k holds now told order tells client e = absurd (true≢false e)

pub sound_then : (old : GrownValue) → IsWhole old → (update : UpdateValue) → IsValidUpdate update → (k : HeldValue) → HoldsAll k →
    taken_of k.received ≡ with_groups (groups_of update) (taken_of old.held.received) → (more named : List Span) → more ≡ deletes_of update → named ≡ union_of old.named more →
    (anew : Bool) (told order : List ℕ) → TellsOrder anew told order old.held k → (sets : Sets) → sets.named ≡ old.named → sets.waiting ≡ old.waiting → sets.deletes ≡ old.deletes →
    (it : KeptValue) (left now : List Span) → Settles anew k sets more old.kept it left now →
    IsWhole (record { held = k; named = named; waiting = left; kept = it; deletes = now })
sound_then old sound update valid k holds taken more named of is anew told order tells sets e f g it left now settles = record {
  received = still_received (record { operations = taken_of old.held.received; deletes = old.named }) update (taken_of k.received) named sound.received valid taken
      (is ∙ ap (union_of old.named) of);
  holds = holds;
  waits = waits_on old sound more named is k anew sets e f (rises_where anew old.held k sound.holds holds told order tells) left settles.waits;
  keeps = settles.keeps;
  store = settles.store;
  own = own_then old sound more named is k holds told order sets e f g it now anew tells settles.deletes;
  marks = marks_then old sound more named is k holds told order sets e f g it now anew
      (own_then old sound more named is k holds told order sets e f g it now anew tells settles.deletes) settles.marks;
}

-- what is told of its parts: what was received and is held, the store, and the sets
abbrev pub grown_of : HeldValue → KeptValue → Sets → GrownValue
grown_of held kept sets = record { held = held; named = sets.named; waiting = sets.waiting; kept = kept; deletes = sets.deletes }

-- and so it is with the sets that the store settled
pub settled_whole : (held : HeldValue) (kept : KeptValue) (sets : Sets) → IsWhole (grown_of held kept sets) → (update : UpdateValue) → IsValidUpdate update → (k : HeldValue) → HoldsAll k →
    taken_of k.received ≡ with_groups (groups_of update) (taken_of held.received) → (more : List Span) → more ≡ deletes_of update →
    (anew : Bool) (told order : List ℕ) → TellsOrder anew told order held k → (it : KeptValue) (now : Sets) → now.named ≡ union_of sets.named more →
    Settles anew k sets more kept it now.waiting now.deletes → IsWhole (grown_of k it now)
settled_whole held kept sets sound update valid k holds taken more of anew told order tells it now is settles =
    sound_then (grown_of held kept sets) sound update valid k holds taken more now.named of is anew told order tells sets refl refl refl it now.waiting now.deletes settles

-- ---- where no unit changed

-- so it is where runs are joined
pub joined_lists : (old new : KeptValue) → JoinsHeld old new → KeepsLists old new
joined_lists old new joins = record {
  names = λ n name e. subst (λ names. slice_get names n ≡ Some name) (sym joins.names) e;
  lists = joins.lists;
  made = λ list le lt. absurd (omega (arith, le, lt, joins.count));
  operations = joins.operations;
  marks = joins.marks;
  nexts = joins.nexts;
  filled = joins.filled;
}

module _ (old : GrownValue) (sound : IsWhole old) (it : KeptValue) (keeps : KeepsLists old.kept it) where
  keeps_all : KeepsAll (held_by old) it
  keeps_all = keeping_keeps_all (held_by old) (is_written old.held (holds_holding old.held sound.holds)) old.kept it sound.keeps keeps

  was : (n : ℕ) (name : DocList) → slice_get old.kept.names n ≡ Some name → n < count_of old.kept.store.placed
  was n name e = let lt = within_names old.kept.names n name e in omega (arith, lt, sound.keeps.ids.filled.count)

  -- a list whose name is new has no unit
  none_new : (list : DocList) → (IsIn list old.kept.names → ⊥) → units_of it list ≡ []
  none_new list none = elim (find_name it.names list) [
    | inl h ↦ units_at it keeps_all.ids.filled.distinct h.0 list h.1 ∙ elim (split (count_of old.kept.store.placed) h.0) [
      | inl le ↦ keeps.made h.0 le (let lt = within_names it.names h.0 list h.1 in omega (arith, lt, keeps_all.ids.filled.count))
      | inr lt ↦
          let (name, e) = slice_below old.kept.names h.0 (omega (arith, lt, sound.keeps.ids.filled.count)) in
          let same : name ≡ list = some_is name list (sym (keeps.names h.0 name e) ∙ h.1) in
          absurd (none (subst (λ l. IsIn l old.kept.names) same (there old.kept.names h.0 name e)))
    ]
    | inr out ↦ units_none it keeps_all.ids.filled.distinct list out
  ]
    where
      there : (names : List DocList) (n : ℕ) (name : DocList) → slice_get names n ≡ Some name → IsIn name names
      there names n name e = got_in names n name e

  same_units : (list : DocList) → units_of it list ≡ units_of old.kept list
  same_units list = elim (find_name old.kept.names list) [
    | inl h ↦ units_at it keeps_all.ids.filled.distinct h.0 list (keeps.names h.0 list h.1)
        ∙ keeps.lists h.0 (was h.0 list h.1)
        ∙ sym (units_at old.kept sound.keeps.ids.filled.distinct h.0 list h.1)
    | inr none ↦ none_new list none ∙ sym (units_none old.kept sound.keeps.ids.filled.distinct list none)
  ]

  abbrev after : GrownValue
  after = record { held = old.held; named = old.named; waiting = old.waiting; kept = it; deletes = old.deletes }

  pub still_sound : IsSoundStore it.store → IsWhole after
  still_sound store = record {
    received = sound.received;
    holds = sound.holds;
    waits = sound.waits;
    keeps = keeps_all;
    store = store;
    own = record {
      closed = subst (λ lists. AreClosedDeletions lists (held_by old) (is_named old.named) (is_named old.deletes)) (λ i list. map (λ (o : Operation). o.id) (sym (same_units list) i)) sound.own.closed;
      least = subst (λ lists. AreLeastDeletions lists (held_by old) (is_named old.named) (is_named old.deletes)) (λ i list. map (λ (o : Operation). o.id) (sym (same_units list) i)) sound.own.least;
    };
    marks = λ x. ((λ m. (sound.marks x).0 ((keeps.marks x).0 m)), (λ h. (keeps.marks x).1 ((sound.marks x).1 h)));
  }

  pub still_seen : seen_of after ≡ seen_of old
  still_seen = seen_again old it same_units

-- ---- nothing, received so far

-- a replica that received nothing
abbrev pub nothing_held : HeldValue
nothing_held = record { received = record { runs = []; entries = [] }; vector = []; names = []; lacks = [] }

nothing_sound : HoldsAll nothing_held → (it : KeptValue) → IsEmptyStore it → IsSoundStore it.store →
    IsWhole (record { held = nothing_held; named = []; waiting = []; kept = it; deletes = [] })
nothing_sound holds it empty store = record {
  received = nothing_is_received;
  holds = holds;
  waits = λ x. ((λ h. absurd h), (λ b. b.0));
  keeps = nothing_kept it empty;
  store = store;
  own = nothing_deleted it empty.names;
  marks = nothing_marked it empty;
}

pub new_sound : (held : HeldValue) → held ≡ nothing_held → HoldsAll held → (it : KeptValue) → IsEmptyStore it → IsSoundStore it.store →
    (named waiting deletes : List Span) → named ≡ [] → waiting ≡ [] → deletes ≡ [] → IsWhole (record { held = held; named = named; waiting = waiting; kept = it; deletes = deletes })
new_sound held h holds it empty store named waiting deletes a b c =
    subst IsWhole (λ i. record { held = sym h i; named = sym a i; waiting = sym b i; kept = it; deletes = sym c i })
    (nothing_sound (subst HoldsAll h holds) it empty store)
