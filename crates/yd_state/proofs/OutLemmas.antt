-- Entries that were placed are taken out again, one client's last units after another's.
use Rattle.std.proofs.Common.{◌≡◌, ℕ, zero, suc, ◌+◌, ◌-◌, ◌<◌, ◌≤◌, Bool, true, false, List, [], ◌∷◌, ◌++◌, inl, inr, Some, length, take, get_or, refl, sym, ap, ◌∙◌, subst, arith, true≢false}
use Rattle.std.specs.Prelude.{filter, slice_get}
use Rattle.std.proofs.lemmas.List.{take_more, take_all}
use Rattle.std.proofs.lemmas.Option.{slice_get_within}
use Rattle.yd_words.specs.Member.{IsIn}
use Rattle.yd_words.proofs.OptionLemmas.{some_is}
use Rattle.yd_words.proofs.TestLemmas.{same_or_other, test_fails}
use Rattle.yd_ids.specs.declared.id.Id.{Id}
use Rattle.yd_ops.specs.Operation.{Operation}
use Rattle.yd_arena.specs.Arena.{runs_of, next_clock}
use Rattle.yd_arena.specs.Marks.{IsBorder}
use Rattle.yd_store.specs.Store.{Stored}
use Rattle.yd_store.specs.Units.{operations_in}
use Rattle.yd_store.specs.Taking.{is_left, IsLeft, TakesBack}
use Rattle.yd_store.proofs.TakingLemmas.{left_passes}
use Rattle.yd_kept.proofs.BackLemmas.{below_is, is_below-true}
use Rattle.yd_kept.proofs.GoingLemmas.{going_back_goes_on}
use Rattle.yd_kept.specs.Kept.{KeptValue}
use Rattle.yd_entries.specs.declared.entry.Entry.{Entry}
use Rattle.yd_held.specs.Held.{HeldValue}
use Rattle.yd_held.specs.Turn.{clocks_with, AreHeldInTurn}
use Rattle.yd_held.proofs.TurnLemmas.{clocks_own, clocks_other}
use Rattle.yd_state.specs.Back.{CanBeTakenOut, is_unit_below, LeavesBelow, TakesOut}
use Rattle.yd_state.proofs.EntryLemmas.{read_at}
use Rattle.yd_state.proofs.InTurnLemmas.{turn_to, IsLastHeld, turn_last}

-- ---- what is left

-- a test finds the same among those that pass another one, where it fails with that
filter_within : {X : Type 0} (first second : X → Bool) → ((x : X) → first x ≡ false → second x ≡ false) → (xs : List X) → filter second (filter first xs) ≡ filter second xs
filter_within first second fails [] = refl
filter_within first second fails (x ∷ xs) = go (first x) refl (second x) refl (filter_within first second fails xs)
  where
    go : (s : Bool) → first x ≡ s → (t : Bool) → second x ≡ t → filter second (filter first xs) ≡ filter second xs → filter second (filter first (x ∷ xs)) ≡ filter second (x ∷ xs)
    go true e true f rest = rw (e, f) (ap (λ ys. x ∷ ys) rest)
    go true e false f rest = rw (e, f) rest
    go false e true f rest = absurd (true≢false (sym f ∙ fails x e))
    go false e false f rest = rw (e, f) rest

pub leaves_all : (it : Stored) → LeavesBelow it it
leaves_all it = record {
  count = refl;
  lists = λ test within list lt. refl;
  fewer = λ o h. h;
  left = λ o h low. h;
  fewer_marks = λ id m. m;
  left_marks = λ id m low. m;
  borders = λ client clock border. border;
  gone = λ from h. h;
}

module _ (mid cur new : Stored) (client clock : ℕ) (le : clock ≤ next_clock cur.placed client) (takes : TakesBack cur new client clock) (leaves : LeavesBelow mid cur) where
  -- what is below the new next clocks is left, and was below the old ones
  is_left_below : (id : Id) → id.clock < next_clock new.placed id.client.0 → IsLeft client clock id
  is_left_below id low = elim (same_or_other id.client.0 client) [
    | inl same ↦ inr (omega (arith, low, takes.next, ap (next_clock new.placed) same))
    | inr other ↦ inl other
  ]

  was_below : (id : Id) → id.clock < next_clock new.placed id.client.0 → id.clock < next_clock cur.placed id.client.0
  was_below id low = elim (same_or_other id.client.0 client) [
    | inl same ↦ omega (arith, low, takes.next, le, ap (next_clock new.placed) same, ap (next_clock cur.placed) same)
    | inr other ↦ omega (arith, low, takes.other_nexts id.client.0 other)
  ]

  passes : (o : Operation) → is_unit_below new.placed o ≡ true → is_left client clock o ≡ true
  passes o e = left_passes client clock o (is_left_below o.id (below_is new.placed o.id e))

  pub leaves_more : LeavesBelow mid new
  leaves_more = record {
    count = takes.count ∙ leaves.count;
    lists = λ test within list lt.
        ap (filter test) (takes.lists list (omega (arith, lt, leaves.count)))
        ∙ filter_within (is_left client clock) test (λ o e. within o (test_fails (is_unit_below new.placed o) (λ b. true≢false (sym (passes o b) ∙ e)))) (operations_in cur list)
        ∙ leaves.lists test (λ o e. within o (test_fails (is_unit_below new.placed o) (λ b.
        true≢false (sym (is_below-true cur.placed o.id (was_below o.id (below_is new.placed o.id b))) ∙ e)))) list lt;
    fewer = λ o h. leaves.fewer o ((takes.operations o).0 h).0;
    left = λ o h low. (takes.operations o).1 (leaves.left o h (was_below o.id low), is_left_below o.id low);
    fewer_marks = λ id m. leaves.fewer_marks id ((takes.marks id).0 m).0;
    left_marks = λ id m low. (takes.marks id).1 (leaves.left_marks id m (was_below id low), is_left_below id low);
    borders = λ k c border. takes.borders k c (leaves.borders k c border);
    gone = λ from h. going_back_goes_on.on from cur new client clock (leaves.gone from h) le takes;
  }

-- ---- one entry after another

get_in : (xs : List ℕ) (n d : ℕ) → n < length xs → IsIn (get_or xs n d) xs
get_in [] n d lt = absurd (omega (arith, lt))
get_in (x ∷ xs) zero d lt = inl refl
get_in (x ∷ xs) (suc n) d lt = inr (get_in xs n d (omega (arith, lt)))

shift : (n : ℕ) → 0 < n → n ≡ n - 1 + 1
shift n lt = omega (arith, lt)

-- what stays true, with how many entries are left
pub record IsTaking (k : HeldValue) (order : List ℕ) (mid cur : KeptValue) (left : ℕ) : Type 0 where
  pub within : left ≤ length order
  pub names : cur.names ≡ mid.names
  pub leaves : LeavesBelow mid.store cur.store
  pub turn : (clocks : ℕ → ℕ) → AreHeldInTurn k.received.runs k.received.entries clocks order (next_clock mid.store.placed) →
      AreHeldInTurn k.received.runs k.received.entries clocks (take left order) (next_clock cur.store.placed)

module _ (k : HeldValue) (order : List ℕ) (mid cur : KeptValue) (left : ℕ) (is : IsTaking k order mid cur left) (some : 0 < left) (at d : ℕ) (at_is : at ≡ get_or order (left - 1) d)
    (can : CanBeTakenOut k order mid) where
  now : take left order ≡ take (left - 1) order ++ at ∷ []
  now = ap (λ n. take n order) (shift left some)
      ∙ take_more order (left - 1) d (omega (arith, some, is.within))
      ∙ ap (λ n. take (left - 1) order ++ n ∷ []) (sym at_is)

  here : IsIn at order
  here = subst (λ n. IsIn n order) (sym at_is) (get_in order (left - 1) d (omega (arith, some, is.within)))

  last : (clocks : ℕ → ℕ) → AreHeldInTurn k.received.runs k.received.entries clocks order (next_clock mid.store.placed) →
      IsLastHeld k.received.runs k.received.entries clocks (take (left - 1) order) at (next_clock cur.store.placed)
  last clocks turn = turn_last k.received.runs k.received.entries clocks (next_clock cur.store.placed) (take (left - 1) order) at
      (subst (λ ns. AreHeldInTurn k.received.runs k.received.entries clocks ns (next_clock cur.store.placed)) now (is.turn clocks turn))

  pub index_within : (seen : List Entry) → seen ≡ k.received.entries → at < length seen
  index_within seen same = let l = last can.clocks can.turn in omega (arith, slice_get_within k.received.entries at l.entry l.there, ap length same)

  module _ (t : Entry) (got : slice_get k.received.entries at ≡ Some t) (clocks : ℕ → ℕ)
      (turn : AreHeldInTurn k.received.runs k.received.entries clocks order (next_clock mid.store.placed)) where
    l : IsLastHeld k.received.runs k.received.entries clocks (take (left - 1) order) at (next_clock cur.store.placed)
    l = last clocks turn

    same : l.entry ≡ t
    same = some_is l.entry t (sym l.there ∙ got)

    begins : t.id.clock ≡ l.mid t.id.client.0
    begins = subst (λ u. u.id.clock ≡ l.mid u.id.client.0) same l.next.begins

    clocks_are : (client : ℕ) → next_clock cur.store.placed client ≡ clocks_with t l.mid client
    clocks_are client = l.clocks_are client ∙ ap (λ u. clocks_with u l.mid client) same

    ends : next_clock cur.store.placed t.id.client.0 ≡ t.id.clock + t.len
    ends = clocks_are t.id.client.0 ∙ clocks_own t l.mid t.id.client.0 refl

    front_then : (new : Stored) → TakesBack cur.store new t.id.client.0 t.id.clock →
        AreHeldInTurn k.received.runs k.received.entries clocks (take (left - 1) order) (next_clock new.placed)
    front_then new takes = turn_to k.received.runs k.received.entries clocks l.mid (next_clock new.placed) (take (left - 1) order) nexts l.turn
      where
        nexts : (client : ℕ) → next_clock new.placed client ≡ l.mid client
        nexts client = elim (same_or_other client t.id.client.0) [
          | inl e ↦ ap (next_clock new.placed) e ∙ takes.next ∙ begins ∙ ap l.mid (sym e)
          | inr other ↦ takes.other_nexts client other ∙ clocks_are client ∙ clocks_other t l.mid client other
        ]

  module _ (seen : List Entry) (same_seen : seen ≡ k.received.entries) (t e : Entry) (t_is : t ≡ get_or seen at e) where
    got_at : slice_get k.received.entries at ≡ Some t
    got_at = read_at seen same_seen at t e (index_within seen same_seen) t_is

    pub taken_below : t.id.clock ≤ next_clock cur.store.placed t.id.client.0
    taken_below = omega (arith, ends t got_at can.clocks can.turn)

    pub taken_border : IsBorder (runs_of cur.store.placed) t.id.client.0 t.id.clock
    taken_border = is.leaves.borders t.id.client.0 t.id.clock (can.borders at t here got_at)

    pub taken_then : (new : KeptValue) → TakesBack cur.store new.store t.id.client.0 t.id.clock → new.names ≡ cur.names → IsTaking k order mid new (left - 1)
    taken_then new takes names = record {
      within = omega (arith, is.within);
      names = names ∙ is.names;
      leaves = leaves_more mid.store cur.store new.store t.id.client.0 t.id.clock taken_below takes is.leaves;
      turn = λ clocks turn. front_then t got_at clocks turn new.store takes;
    }

pub taken_none : (k : HeldValue) (order : List ℕ) (it : KeptValue) (left : ℕ) → left ≡ length order → IsTaking k order it it left
taken_none k order it left all = record {
  within = omega (arith, all);
  names = refl;
  leaves = leaves_all it.store;
  turn = λ clocks turn. subst (λ ns. AreHeldInTurn k.received.runs k.received.entries clocks ns (next_clock it.store.placed)) (sym (take_all left order (omega (arith, all)))) turn;
}

pub taken_all : (k : HeldValue) (order : List ℕ) (mid cur : KeptValue) (left : ℕ) → IsTaking k order mid cur left → left ≤ 0 → TakesOut k order mid cur
taken_all k order mid cur left is none = record {
  names = is.names;
  leaves = is.leaves;
  nexts = λ clocks turn. none_left clocks (is.turn clocks turn);
}
  where
    none_is : (n : ℕ) → n ≤ 0 → take n order ≡ []
    none_is zero le = refl
    none_is (suc n) le = absurd (omega (arith, le))

    none_left : (clocks : ℕ → ℕ) → AreHeldInTurn k.received.runs k.received.entries clocks (take left order) (next_clock cur.store.placed) →
        (client : ℕ) → next_clock cur.store.placed client ≡ clocks client
    none_left clocks turn = subst (λ ns. AreHeldInTurn k.received.runs k.received.entries clocks ns (next_clock cur.store.placed)) (none_is left none) turn
