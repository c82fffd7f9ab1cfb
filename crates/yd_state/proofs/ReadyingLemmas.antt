-- What is told less of entries is made ready, entry by entry.
use Rattle.std.proofs.Common.{◌≡◌, ℕ, ◌<◌, ◌≤◌, ◌+◌, ◌-◌, true, List, [], ◌∷◌, ◌++◌, ◌⊎◌, inl, inr, Option, Some, None, tests, length, take, get_or, refl, sym, ap, ◌∙◌, subst, arith}
use Rattle.std.specs.Prelude.{nat_eq, slice_get}
use Rattle.std.proofs.lemmas.List.{append-nil, append_assoc, take_more, take_all}
use Rattle.std.proofs.lemmas.Option.{slice_get_within}
use Rattle.yd_words.proofs.EachLemmas.{each_at}
use Rattle.yd_words.specs.Member.{IsIn}
use Rattle.yd_words.proofs.MemberLemmas.{in_left_part, in_right_part, in_parts, in_each, each_in}
use Rattle.yd_words.proofs.OptionLemmas.{some_is}
use Rattle.yd_words.proofs.TestLemmas.{split}
use Rattle.yd_ids.specs.declared.id.Id.{Id}
use Rattle.yd_ids.specs.declared.id.Span.{Span}
use Rattle.yd_ids.proofs.IdLemmas.{same_numbers}
use Rattle.yd_ops.specs.Operation.{Operation, level_of, text_unit}
use Rattle.yd_ops.specs.Value.{RunValue}
use Rattle.yd_ops.specs.Received.{has_operation}
use Rattle.yd_ops.proofs.OneOfLemmas.{id_is_there}
use Rattle.yd_meaning.specs.Held.{is_gone}
use Rattle.yd_arena.specs.Arena.{HasUnit, runs_of, next_clock}
use Rattle.yd_arena.proofs.MarkLemmas.{unit_stands}
use Rattle.yd_store.specs.declared.halves.Torn.{Torn}
use Rattle.yd_store.specs.declared.level.Level.{Level}
use Rattle.yd_store.specs.Contents.{told_of, run_at}
use Rattle.yd_store.specs.Store.{Stored}
use Rattle.yd_store.specs.Units.{HasOperation}
use Rattle.yd_store.specs.Lowering.{number_of}
use Rattle.yd_store.specs.Halves.{IsKnown, IsFreed}
use Rattle.yd_kept.specs.Kept.{KeptValue, KeepsHeld}
use Rattle.yd_kept.specs.Marking.{IsParted, AreHeld, AreParted}
use Rattle.yd_kept.proofs.ChangeLemmas.{held_itself, held_both}
use Rattle.yd_kept.proofs.PartedLemmas.{span_held, known_held, freed_held}
use Rattle.yd_entries.specs.declared.entry.Entry.{Entry}
use Rattle.yd_entries.specs.Entries.{operations_of_taken, covers, is_held, IsTakenOf}
use Rattle.yd_entries.specs.Lowering.{level_of_entry}
use Rattle.yd_entries.specs.Staying.{IsLess}
use Rattle.yd_entries.proofs.ChangeLemmas.{entry_got}
use Rattle.yd_entries.proofs.EntryLemmas.{covers_in}
use Rattle.yd_entries.proofs.ScanLemmas.{taken_level}
use Rattle.yd_received.specs.Received.{held_of}
use Rattle.yd_held.specs.Held.{HeldValue, HoldsAll}
use Rattle.yd_held.specs.Turn.{IsToldAnew}
use Rattle.yd_held.proofs.HeldEntryLemmas.{is_taken, chosen_id, entry_chosen}
use Rattle.yd_held.proofs.HeldUnitLemmas.{covers_less, covers_unit}
use Rattle.yd_held.proofs.HoldingLemmas.{is_written}
use Rattle.yd_held.proofs.KeptLemmas.{holds_holding}
use Rattle.yd_listing.proofs.UnitLemmas.{told_unit, gone_unit_there}
use Rattle.yd_state.specs.declared.less.Less.{Less}
use Rattle.yd_state.specs.declared.less.Less.TheVariants.{Down, Half}
use Rattle.yd_state.specs.Back.{IsSound}
use Rattle.yd_state.specs.Placing.{KeepsIds}
use Rattle.yd_state.specs.Telling.{EachIsHeld, IsLessEntry, CanBeLess, IsLessIn, IsToTell, TellsHeld, IsReady, AreReady, LeavesLess, ReadiesMore, CutsRuns}
use Rattle.yd_state.proofs.EntryLemmas.{read_at}
use Rattle.yd_state.proofs.LessLemmas.{of_its_entry, one_held}
use Rattle.yd_state.proofs.PlacingLawLemmas.{held_lists, keeping_keeps_ids}

-- ---- cuts

pub cuts_itself : (it : KeptValue) → CutsRuns it it
cuts_itself it = record { keeps = held_itself it; names = refl; count = refl }

pub cuts_both : (old mid new : KeptValue) → CutsRuns old mid → CutsRuns mid new → CutsRuns old new
cuts_both old mid new a b = record { keeps = held_both old mid new a.keeps b.keeps; names = b.names ∙ a.names; count = b.count ∙ a.count }

-- the ids are there still
pub ids_cut : (k : HeldValue) → HoldsAll k → (old new : KeptValue) → KeepsHeld old new → KeepsIds (held_of k.received) old → KeepsIds (held_of k.received) new
ids_cut k holds old new keeps ids = keeping_keeps_ids (held_of k.received) (is_written k (holds_holding k holds)) old new ids (held_lists old new keeps)

-- what is ready stays so where runs are cut
pub ready_cut : (old new : KeptValue) → KeepsHeld old new → (one : Less) → IsReady old.store one → IsReady new.store one
ready_cut old new keeps (Down span level) (held, parted) = (omega (arith, held, keeps.nexts span.client.0), span_held old new span keeps parted)
ready_cut old new keeps (Half t) freed = freed_held old new t.half t keeps freed

-- a span whose ends were cut is ready
pub ready_after : (old new : KeptValue) → KeepsHeld old new → (span : Span) (level : Level) → span.clock + span.len ≤ next_clock old.store.placed span.client.0 → IsParted new.store span →
    IsReady new.store (Down span level)
ready_after old new keeps span level held parted = (omega (arith, held, keeps.nexts span.client.0), parted)

pub are_ready_cut : (k : HeldValue) (old new : KeptValue) → KeepsHeld old new → (less : List Less) → AreReady k less old.store → AreReady k less new.store
are_ready_cut k old new keeps less are = record {
  ready = in_each (IsReady new.store) less (λ one i. ready_cut old new keeps one (each_in (IsReady old.store) less are.ready one i));
  tell = are.tell;
}

are_ready_both : (k : HeldValue) (less more : List Less) (it : Stored) → AreReady k less it → AreReady k more it → AreReady k (less ++ more) it
are_ready_both k less more it a b = record {
  ready = in_each (IsReady it) (less ++ more) (λ one i. elim (in_parts one less more i) [
    | inl j ↦ each_in (IsReady it) less a.ready one j
    | inr j ↦ each_in (IsReady it) more b.ready one j
  ]);
  tell = in_each (TellsHeld k) (less ++ more) (λ one i. elim (in_parts one less more i) [
    | inl j ↦ each_in (TellsHeld k) less a.tell one j
    | inr j ↦ each_in (TellsHeld k) more b.tell one j
  ]);
}

are_ready_none : (k : HeldValue) (it : Stored) → AreReady k [] it
are_ready_none k it = record { ready = tt; tell = tt }

-- ---- one entry

module _ (k : HeldValue) (holds : HoldsAll k) (t : Entry) (it : Stored) (is : IsLessIn k t it) where
  pub entry_is_taken : IsTakenOf k.received.runs t
  entry_is_taken = is_taken k.received holds.in_order t is.here

  -- an entry of which less is told in another store that has the same operations
  pub less_in : (new : Stored) → ((id : Id) → IsKnown it id → IsKnown new id) → IsLessIn k t new
  less_in new stays = record { here = is.here; held = is.held; less = is.less; known = λ q i e. stays q.id (is.known q i e) }

  -- its units are below the next clock
  pub entry_below : (kept : KeptValue) → KeepsIds (held_of k.received) kept → t.id.clock + t.len ≤ next_clock kept.store.placed t.id.client.0
  entry_below kept keeps =
      let some = entry_is_taken.has_units in
      let last : Id = record { client = t.id.client; clock = t.id.clock + (t.len - 1) } in
      let c : covers t last ≡ true = covers_in t last refl (omega arith) (omega (arith, some)) in
      let low = keeps.all last (chosen_id is_held k.received holds.in_order t last is.here is.held c) in
      omega (arith, some, low)

  abbrev span : Span
  span = record { client = t.id.client; clock = t.id.clock; len = t.len }

  -- so that they are deleted, or gone
  pub span_ready : (level : Level) → level_of_entry k.received.runs t ≡ number_of level → (new : Stored) → IsReady new (Down span level) → (old less : List Less) →
      less ≡ old ++ Down span level ∷ [] → ReadiesMore k t old less new
  span_ready level low new ready old less e = record {
    more = Down span level ∷ [];
    less_is = e;
    ready = record {
      ready = (ready, tt);
      tell = ((λ q i in_span. taken_level k.received.runs t q entry_is_taken (of_its_entry k holds t is.here q i (covers_in t q.id in_span.0 in_span.1 in_span.2)) ∙ low), tt);
    };
    left = λ x c. (Down span level, inl refl, covers_less t x c);
  }

  -- ---- so that they are U+FFFD

  module _ (full : level_of_entry k.received.runs t ≡ 2) where
    pub all_torn : (q : Operation) → IsIn q (operations_of_taken k.received.runs t) → q.content ≡ text_unit 0xFFFD
    all_torn q i =
        let level : level_of q.content ≡ 2 = taken_level k.received.runs t q entry_is_taken i ∙ full in
        elim (is.less q i) [
          | inl gone ↦ absurd (not_gone (level_of q.content) level gone)
          | inr (inl one) ↦ absurd (omega (arith, level, one))
          | inr (inr torn) ↦ torn
        ]
      where
        not_gone : (n : ℕ) → n ≡ 2 → nat_eq n 0 ≡ true → ⊥
        not_gone n e f = grind (arith, tests)

    -- a unit of it is known as a text unit
    pub unit_known : (n : ℕ) → n < t.len → IsKnown it (record { client = t.id.client; clock = t.id.clock + n })
    unit_known n lt =
        let id : Id = record { client = t.id.client; clock = t.id.clock + n } in
        let (q, i, e) = covers_unit k.received.runs t entry_is_taken id (covers_in t id refl (omega arith) (omega (arith, lt))) in
        subst (IsKnown it) e (is.known q i (all_torn q i))

    -- and to be U+FFFD
    pub half_tells : (torn : Torn) → covers t torn.half ≡ true → TellsHeld k (Half torn)
    half_tells torn c q i e = all_torn q (of_its_entry k holds t is.here q i (subst (λ x. covers t x ≡ true) (sym e) c))

-- so many units of an entry are ready to be U+FFFD
pub record IsFreeing (k : HeldValue) (t : Entry) (old less : List Less) (start cur : KeptValue) (n : ℕ) : Type 0 where
  pub cuts : CutsRuns start cur
  pub more : List Less
  pub less_is : less ≡ old ++ more
  pub ready : AreReady k more cur.store
  pub left : (x : Id) → covers t x ≡ true → x.clock < t.id.clock + n → IsToTell more x

pub freeing_none : (k : HeldValue) (t : Entry) (old : List Less) (it : KeptValue) → IsFreeing k t old old it it 0
freeing_none k t old it = record {
  cuts = cuts_itself it;
  more = [];
  less_is = sym (append-nil old);
  ready = are_ready_none k it.store;
  left = λ x c lt. let (client, low, high) = covers_less t x c in absurd (omega (arith, low, lt));
}

pub freeing_more : (k : HeldValue) → HoldsAll k → (t : Entry) (old less new_less : List Less) (start cur new : KeptValue) (n : ℕ) → IsFreeing k t old less start cur n →
    CutsRuns cur new → (torn : Torn) → torn.half ≡ record { client = t.id.client; clock = t.id.clock + n } → IsFreed new.store (Some torn.half) (Some torn) →
    TellsHeld k (Half torn) → new_less ≡ less ++ Half torn ∷ [] → IsFreeing k t old new_less start new (n + 1)
freeing_more k holds t old less new_less start cur new n is cuts torn half freed tells e = record {
  cuts = cuts_both start cur new is.cuts cuts;
  more = is.more ++ Half torn ∷ [];
  less_is = e ∙ ap (λ ls. ls ++ Half torn ∷ []) is.less_is ∙ append_assoc old is.more (Half torn ∷ []);
  ready = are_ready_both k is.more (Half torn ∷ []) new.store (are_ready_cut k cur new cuts.keeps is.more is.ready) (record { ready = (freed, tt); tell = (tells, tt) });
  left = λ x c lt. elim (split (t.id.clock + n) x.clock) [
    | inl le ↦
        let (client, low, high) = covers_less t x c in (
          Half torn,
          in_right_part (Half torn) is.more (Half torn ∷ []) (inl refl),
          same_numbers torn.half x (ap (λ (y : Id). y.client.0) half ∙ client) (omega (arith, ap (λ (y : Id). y.clock) half, le, lt)),
        )
    | inr less_than ↦ let (one, i, for) = is.left x c less_than in (one, in_left_part one is.more (Half torn ∷ []) i, for)
  ];
}

pub freeing_ends : (k : HeldValue) (t : Entry) (old less : List Less) (start cur : KeptValue) (n : ℕ) → IsFreeing k t old less start cur n → t.len ≤ n → ReadiesMore k t old less cur.store
freeing_ends k t old less start cur n is all = record {
  more = is.more;
  less_is = is.less_is;
  ready = is.ready;
  left = λ x c. let (client, low, high) = covers_less t x c in is.left x c (omega (arith, high, all));
}

-- ---- entry by entry

-- what is told less of so many entries is ready
pub record IsReadying (k : HeldValue) (told : List ℕ) (start cur : KeptValue) (less : List Less) (done : ℕ) : Type 0 where
  pub cuts : CutsRuns start cur
  pub ready : AreReady k less cur.store
  pub left : (x : Id) → IsToldAnew k.received (take done told) x → IsToTell less x

pub readying_none : (k : HeldValue) (told : List ℕ) (it : KeptValue) → IsReadying k told it it [] 0
readying_none k told it = record { cuts = cuts_itself it; ready = are_ready_none k it.store; left = λ x anew. absurd anew.1 }

left_both : (less more : List Less) (x : Id) → IsToTell less x → IsToTell (less ++ more) x
left_both less more x (one, i, for) = (one, in_left_part one less more i, for)

left_more : (less more : List Less) (x : Id) → IsToTell more x → IsToTell (less ++ more) x
left_more less more x (one, i, for) = (one, in_right_part one less more i, for)

module _ (k : HeldValue) (told : List ℕ) (start cur new : KeptValue) (less new_less : List Less) (done : ℕ) (is : IsReadying k told start cur less done) (lt : done < length told)
    (t : Entry) (got : slice_get k.received.entries (get_or told done 0) ≡ Some t) (more : ReadiesMore k t less new_less new.store) (cuts : CutsRuns cur new) where
  pub readying_more : IsReadying k told start new new_less (done + 1)
  readying_more = record {
    cuts = cuts_both start cur new is.cuts cuts;
    ready = subst (λ ls. AreReady k ls new.store) (sym more.less_is) (are_ready_both k less more.more new.store (are_ready_cut k cur new cuts.keeps less is.ready) more.ready);
    left = λ x anew. subst (λ ls. IsToTell ls x) (sym more.less_is) (
        let (at, i, u, there, c) = anew in
        elim (in_parts at (take done told) (get_or told done 0 ∷ []) (subst (IsIn at) (take_more told done 0 lt) i)) [
          | inl before ↦ left_both less more.more x (is.left x (at, before, u, there, c))
          | inr (inl e) ↦
              let same : u ≡ t = some_is u t (sym there ∙ (ap (slice_get k.received.entries) e ∙ got)) in
              left_more less more.more x (more.left x (subst (λ v. covers v x ≡ true) same c))
          | inr (inr none) ↦ absurd none
        ]);
  }

-- and at the end all is
pub readying_ends : (k : HeldValue) (told : List ℕ) (start cur : KeptValue) (less : List Less) (done : ℕ) → IsReadying k told start cur less done → length told ≤ done →
    EachIsHeld k (IsToldAnew k.received told) start.store → LeavesLess k less cur.store
readying_ends k told start cur less done is all each = record {
  ready = is.ready;
  each = λ o h.
      let found = each o ((is.cuts.keeps.operations o).0 h) in record {
        held = found.held;
        there = found.there;
        told = found.told;
        gone = found.gone;
        same_or_left = elim found.same_or_left [
          | inl e ↦ inl e
          | inr anew ↦ inr (is.left o.id (subst (λ ns. IsToldAnew k.received ns o.id) (sym (take_all done told all)) anew))
        ];
      };
}

-- ---- what is asked of each entry

module _ (it : Stored) (sound : IsSound it) (x : Id) (place n : ℕ) (has : HasUnit (runs_of it.placed) place n x) where
  -- the operation of a unit that a run has
  operation_at : (z : Option RunValue) → run_at (told_of it.contents) place ≡ z → (o : Operation) × HasOperation it o × (o.id ≡ x)
  operation_at None e = let (o, h, same, content) = gone_unit_there it place n x has e in (o, h, same)
  operation_at (Some run) e = let (o, h, same, content) = told_unit it place n x has sound.told run e in (o, h, same)

-- each held id is in a store that is sound
operation_there : (k : HeldValue) (it : KeptValue) → KeepsIds (held_of k.received) it → IsSound it.store → (x : Id) → has_operation (held_of k.received) x ≡ true →
    (o : Operation) × HasOperation it.store o × (o.id ≡ x)
operation_there k it keeps sound x e =
    let (place, n, has) = unit_stands it.store.placed.lines (runs_of it.store.placed) x sound.arena (keeps.all x e) in
    operation_at it.store sound x place n has (run_at (told_of it.store.contents) place) refl

-- so less can be told of each entry
pub entry_is_less : (k : HeldValue) → HoldsAll k → (it : KeptValue) → KeepsIds (held_of k.received) it → IsSound it.store → (told : List ℕ) → CanBeLess k told it.store →
    (at : ℕ) → IsLessEntry k at → (t : Entry) → slice_get k.received.entries at ≡ Some t → IsLessIn k t it.store
entry_is_less k holds it keeps sound told can at one t got =
    let same : one.entry ≡ t = some_is one.entry t (sym one.there ∙ got) in
    let here : IsIn t k.received.entries = entry_got k.received.entries at t got in
    let is_held_too : is_held t ≡ true = ap is_held (sym same) ∙ one.held in
    record {
      here = here;
      held = is_held_too;
      less = subst (λ u. (q : Operation) → IsIn q (operations_of_taken k.received.runs u) → (is_gone q ≡ true) ⊎ IsLess q) same one.less;
      known = λ q j torn.
          let there : has_operation (held_of k.received) q.id ≡ true = id_is_there (held_of k.received) q (entry_chosen is_held k.received holds.in_order t here is_held_too q j) in
          let (o, h, e) = operation_there k it keeps sound q.id there in
          let found = can.each o h in
          let held_is : found.held ≡ q = one_held k holds found.held q found.there (entry_chosen is_held k.received holds.in_order t here is_held_too q j) (found.told.id ∙ e) in
          let (unit, content) = found.told.text (ap (λ (p : Operation). p.content) held_is ∙ torn) in
          record { operation = o; there = h; id_is = e; unit = unit; known = content };
    }

-- so it is in a store whose runs are cut
pub less_cut : (k : HeldValue) → HoldsAll k → (old new : KeptValue) → KeepsHeld old new → (t : Entry) → IsLessIn k t old.store → IsLessIn k t new.store
less_cut k holds old new keeps t is = less_in k holds t old.store is new.store (λ id known. known_held old new id keeps known)

-- the entry with the next number, as it is read
module _ (k : HeldValue) (holds : HoldsAll k) (start cur : KeptValue) (keeps : KeepsIds (held_of k.received) start) (sound : IsSound start.store) (told : List ℕ)
    (can : CanBeLess k told start.store) (cuts : CutsRuns start cur) (i : ℕ) (lt : i < length told) (seen : List Entry) (same : seen ≡ k.received.entries) (t : Entry) (t_is : t ≡ get_or seen (get_or told i 0) t) where
  abbrev next : ℕ
  next = get_or told i 0

  next_one : IsLessEntry k next
  next_one = each_at (IsLessEntry k) told i 0 can.less lt

  pub next_there : slice_get k.received.entries next ≡ Some t
  next_there =
      let bound : next < length k.received.entries = slice_get_within k.received.entries next next_one.entry next_one.there in
      read_at seen same next t t (omega (arith, bound, ap length same)) t_is

  pub next_is_less : IsLessIn k t cur.store
  next_is_less = less_cut k holds start cur cuts.keeps t (entry_is_less k holds start keeps sound told can next next_one t next_there)

-- ---- in a store whose runs are cut besides

pub can_cut : (k : HeldValue) (told : List ℕ) (old new : KeptValue) → KeepsHeld old new → CanBeLess k told old.store → CanBeLess k told new.store
can_cut k told old new keeps can = record { each = λ o h. can.each o ((keeps.operations o).0 h); less = can.less }

pub parted_cut : (old new : KeptValue) → KeepsHeld old new → (spans : List Span) → AreParted old.store spans → AreParted new.store spans
parted_cut old new keeps spans are = in_each (IsParted new.store) spans (λ span i. span_held old new span keeps (each_in (IsParted old.store) spans are span i))

pub held_cut : (old new : KeptValue) → KeepsHeld old new → (spans : List Span) → AreHeld old.store spans → AreHeld new.store spans
held_cut old new keeps spans are x h = omega (arith, are x h, keeps.nexts x.client.0)
