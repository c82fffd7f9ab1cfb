-- The rows that came, as the entries that became held tell them: each stands in its list, or is lost.
use Rattle.std.proofs.Common.{◌≡◌, ℕ, ◌+◌, ◌<◌, true, false, List, [], ◌∷◌, ◌++◌, inl, inr, Option, Some, None, length, take, get_or, refl, sym, ap, ◌∙◌, subst, arith, true≢false}
use Rattle.std.proofs.lemmas.Bool.{cases_Bool}
use Rattle.std.proofs.lemmas.List.{take_more}
use Rattle.std.proofs.lemmas.Option.{slice_get_within}
use Rattle.std.specs.Prelude.{IfSome, slice_get}
use Rattle.yd_words.specs.Member.{IsIn}
use Rattle.yd_words.specs.Each.{Each}
use Rattle.yd_words.proofs.EachLemmas.{each_at}
use Rattle.yd_words.proofs.MemberLemmas.{each_in, in_each}
use Rattle.yd_words.proofs.OptionLemmas.{some_is}
use Rattle.yd_ids.specs.declared.id.Id.{Id}
use Rattle.yd_ids.specs.declared.id.Span.{Span}
use Rattle.yd_ids.specs.Id.{IsSpan}
use Rattle.yd_ids.specs.Span.{InSpan}
use Rattle.yd_ops.specs.declared.runs.Run.{Run}
use Rattle.yd_ops.specs.Operation.{Operation}
use Rattle.yd_arena.specs.Arena.{count_of}
use Rattle.yd_ops.specs.Received.{has_operation, IsWritten}
use Rattle.yd_meaning.specs.Held.{standing, is_lost}
use Rattle.yd_meaning.specs.Order.{list_of}
use Rattle.yd_kept.specs.Filling.{AreFilledLists}
use Rattle.yd_kept.proofs.FillingLemmas.{within_names, filling_ends}
use Rattle.yd_kept.specs.Kept.{KeptValue}
use Rattle.yd_entries.specs.declared.entry.Entry.{Entry}
use Rattle.yd_entries.specs.declared.place.Place.{Place}
use Rattle.yd_entries.specs.declared.place.Place.TheVariants.{Waits, Lost, In}
use Rattle.yd_entries.specs.Entries.{covers, is_held, is_listed, is_listed_at, IsTakenOf}
use Rattle.yd_entries.proofs.EntryLemmas.{covers_in}
use Rattle.yd_entries.proofs.ChangeLemmas.{entry_got}
use Rattle.yd_received.specs.Received.{held_of, listed_of}
use Rattle.yd_held.specs.Held.{HeldValue, HoldsAll}
use Rattle.yd_held.specs.Numbered.{list_at_place}
use Rattle.yd_held.specs.Turn.{clocks_with, AreHeldInTurn}
use Rattle.yd_held.proofs.HeldEntryLemmas.{chosen_id}
use Rattle.yd_held.proofs.HeldUnitLemmas.{covers_less, covers_first}
use Rattle.yd_held.proofs.HoldingLemmas.{is_written}
use Rattle.yd_held.proofs.KeptLemmas.{holds_holding}
use Rattle.yd_held.proofs.ListedLemmas.{units_list}
use Rattle.yd_listing.specs.declared.came.Came.{Came}
use Rattle.yd_listing.specs.Falling.{units_of_list, IsCame}
use Rattle.yd_listing.proofs.LawLemmas.{find_name}
use Rattle.yd_state.specs.Placing.{KeepsIds}
use Rattle.yd_state.proofs.EntryLemmas.{read_at, entry_taken, held_lost}
use Rattle.yd_state.specs.Coming.{span_of_entry, IsNumberOf, IsListAt, IsCameOf, IsCameAt, AreCame}

-- ---- rows and numbers

-- a row that came is that of one of the numbers
pub came_at : (k : HeldValue) (it : KeptValue) (order : List ℕ) (came : List Came) → AreCame k it order came → (one : Came) → IsIn one came → (at : ℕ) × IsIn at order × IsCameAt k it at one
came_at k it [] [] are one i = absurd i
came_at k it [] (c ∷ came) are one i = absurd are
came_at k it (n ∷ order) [] are one i = absurd are
came_at k it (n ∷ order) (c ∷ came) are one (inl e) = (n, inl refl, subst (IsCameAt k it n) (sym e) are.0)
came_at k it (n ∷ order) (c ∷ came) are one (inr i) = let (at, j, is) = came_at k it order came are.1 one i in (at, inr j, is)

-- and each of these has one
pub at_came : (k : HeldValue) (it : KeptValue) (order : List ℕ) (came : List Came) → AreCame k it order came → (at : ℕ) → IsIn at order → (one : Came) × IsIn one came × IsCameAt k it at one
at_came k it [] [] are at i = absurd i
at_came k it [] (c ∷ came) are at i = absurd are
at_came k it (n ∷ order) [] are at i = absurd are
at_came k it (n ∷ order) (c ∷ came) are at (inl e) = (c, inl refl, subst (λ m. IsCameAt k it m c) (sym e) are.0)
at_came k it (n ∷ order) (c ∷ came) are at (inr i) = let (one, j, is) = at_came k it order came are.1 at i in (one, inr j, is)

-- one more came
pub came_more : (k : HeldValue) (it : KeptValue) (order : List ℕ) (came : List Came) (at : ℕ) (one : Came) → AreCame k it order came → IsCameAt k it at one →
    AreCame k it (order ++ at ∷ []) (came ++ one ∷ [])
came_more k it [] [] at one are is = (is, tt)
came_more k it [] (c ∷ came) at one are is = absurd are
came_more k it (n ∷ order) [] at one are is = absurd are
came_more k it (n ∷ order) (c ∷ came) at one are is = (are.0, came_more k it order came at one are.1 is)

-- so it is with the entry that is read at the next number
pub came_next : (k : HeldValue) (it : KeptValue) (order : List ℕ) (i : ℕ) → i < length order → (seen : List Entry) → seen ≡ k.received.entries →
    Each (λ at. at < length k.received.entries) order → (came : List Came) → AreCame k it (take i order) came → (one : Came) →
    (t : Entry) → t ≡ get_or seen (get_or order i 0) t → IsCameOf k it t one → (new : List Came) → new ≡ came ++ one ∷ [] → AreCame k it (take (i + 1) order) new
came_next k it order i lt seen same all came are one t is of new pushed =
    let at = get_or order i 0 in
    let bound : at < length k.received.entries = each_at (λ n. n < length k.received.entries) order i 0 all lt in
    let there : slice_get k.received.entries at ≡ Some t = read_at seen same at t t (omega (arith, bound, ap length same)) is in
    subst (λ ns. AreCame k it ns new) (sym (take_more order i 0 lt))
    (subst (λ cs. AreCame k it (take i order ++ at ∷ []) cs) (sym pushed)
    (came_more k it (take i order) came at one are (record { entry = t; there = there; of = of })))

-- entries in turn are held
pub turn_is_held : (runs : List Run) (taken : List Entry) (order : List ℕ) (clocks after : ℕ → ℕ) → AreHeldInTurn runs taken clocks order after → (at : ℕ) (t : Entry) →
    IsIn at order → slice_get taken at ≡ Some t → is_held t ≡ true
turn_is_held runs taken [] clocks after turn at t i got = absurd i
turn_is_held runs taken (n ∷ order) clocks after (u, there, next, rest) at t (inl e) got =
    subst (λ v. is_held v ≡ true) (some_is u t (sym there ∙ (ap (slice_get taken) (sym e) ∙ got))) next.held
turn_is_held runs taken (n ∷ order) clocks after (u, there, next, rest) at t (inr i) got = turn_is_held runs taken order (clocks_with u clocks) after rest at t i got

-- and they are there
pub turn_there : (runs : List Run) (taken : List Entry) (order : List ℕ) (clocks after : ℕ → ℕ) → AreHeldInTurn runs taken clocks order after → (at : ℕ) → IsIn at order →
    (t : Entry) × (slice_get taken at ≡ Some t)
turn_there runs taken [] clocks after turn at i = absurd i
turn_there runs taken (n ∷ order) clocks after (u, there, next, rest) at (inl e) = (u, ap (slice_get taken) e ∙ there)
turn_there runs taken (n ∷ order) clocks after (u, there, next, rest) at (inr i) = turn_there runs taken order (clocks_with u clocks) after rest at i

pub turn_within : (runs : List Run) (taken : List Entry) (order : List ℕ) (clocks after : ℕ → ℕ) → AreHeldInTurn runs taken clocks order after → Each (λ at. at < length taken) order
turn_within runs taken order clocks after turn = in_each (λ at. at < length taken) order (λ at i.
    let (t, got) = turn_there runs taken order clocks after turn at i in slice_get_within taken at t got)

-- ---- an entry's span

pub in_entry : (t : Entry) (span : Span) (x : Id) → span ≡ span_of_entry t → InSpan span x → covers t x ≡ true
in_entry t span x e i = let (client, low, high) = subst (λ s. InSpan s x) e i in covers_in t x client low high

pub entry_in : (t : Entry) (span : Span) (x : Id) → span ≡ span_of_entry t → covers t x ≡ true → InSpan span x
entry_in t span x e c = subst (λ s. InSpan s x) (sym e) (covers_less t x c)

-- ---- a row that came

module _ (k : HeldValue) (holds : HoldsAll k) (it : KeptValue) (keeps : KeepsIds (held_of k.received) it) where
  abbrev held : List Operation
  held = held_of k.received

  pub written : IsWritten held
  written = is_written k (holds_holding k holds)

  pub filled : AreFilledLists held it.names it.store.placed
  filled = filling_ends held written it.names it.store.placed keeps.filled keeps.all

  module _ (t : Entry) (here : IsIn t k.received.entries) (one : Came) (of : IsCameOf k it t one) where
    stands : is_listed t ≡ true → (x : Id) → covers t x ≡ true → has_operation (standing held) x ≡ true
    stands listed x c = subst (λ os. has_operation os x ≡ true) holds.stands (chosen_id is_listed k.received holds.in_order t x here listed c)

    pub same_list : is_listed t ≡ true → (x : Id) → covers t x ≡ true → list_of (standing held) x ≡ list_of (standing held) t.id
    same_list listed x c = subst (λ os. list_of os x ≡ list_of os t.id) holds.stands (units_list k (holds_holding k holds) t here listed x c)

    named_place : (m : ℕ) → t.place ≡ In m → slice_get k.names m ≡ Some (list_of (standing held) t.id)
    named_place m e = subst (λ os. slice_get k.names m ≡ Some (list_of os t.id)) holds.stands
        (subst (λ p. IfSome (list_at_place p) (λ n. slice_get k.names n ≡ Some (list_of (listed_of k.received) t.id))) e
        (each_in (λ (u : Entry). IfSome (list_at_place u.place) (λ n. slice_get k.names n ≡ Some (list_of (listed_of k.received) u.id))) k.received.entries holds.numbered.named t here))

    -- what is in a list has the number of its name
    pub came_list : is_listed t ≡ true → (n : ℕ) × (one.list ≡ Some n) × (slice_get it.names n ≡ Some (list_of (standing held) t.id))
    came_list listed = at_place t.place refl
      where
        first : covers t t.id ≡ true
        first = covers_first k.received.runs t (entry_taken k holds t here)

        number : (z : Option ℕ) → one.list ≡ z → IsNumberOf it.names (list_of (standing held) t.id) z → (n : ℕ) × (one.list ≡ Some n) × (slice_get it.names n ≡ Some (list_of (standing held) t.id))
        number None e none = elim (find_name it.names (list_of (standing held) t.id)) [
          | inl found ↦ absurd (none found.0 found.1)
          | inr out ↦ absurd (out (filled.others t.id (stands listed t.id first)))
        ]
        number (Some n) e got = (n, e, got)

        at_place : (p : Place) → t.place ≡ p → (n : ℕ) × (one.list ≡ Some n) × (slice_get it.names n ≡ Some (list_of (standing held) t.id))
        at_place Waits e = absurd (true≢false (sym listed ∙ ap is_listed_at e))
        at_place Lost e = absurd (true≢false (sym listed ∙ ap is_listed_at e))
        at_place (In m) e = number one.list refl (subst (λ p. IsListAt k.names it.names p one.list) e of.list_is (list_of (standing held) t.id) (named_place m e))

    -- what is in none has none
    pub came_none : is_listed t ≡ false → one.list ≡ None
    came_none other = at_place t.place refl
      where
        at_place : (p : Place) → t.place ≡ p → one.list ≡ None
        at_place Waits e = subst (λ p. IsListAt k.names it.names p one.list) e of.list_is
        at_place Lost e = subst (λ p. IsListAt k.names it.names p one.list) e of.list_is
        at_place (In m) e = absurd (true≢false (sym (ap is_listed_at e) ∙ other))

    -- its units are in that list
    pub came_there : (n : ℕ) → one.list ≡ Some n → (x : Id) → covers t x ≡ true → IsIn x (units_of_list it n) × (n < count_of it.store.placed)
    came_there n e x c = elim (cases_Bool (is_listed t)) [
      | inl listed ↦
          let (m, f, got) = came_list listed in
          let same : m ≡ n = some_is m n (sym f ∙ e) in
          let named : slice_get it.names n ≡ Some (list_of (standing held) t.id) = ap (slice_get it.names) (sym same) ∙ got in
          let lt = within_names it.names n (list_of (standing held) t.id) named in
          ((filled.each n (list_of (standing held) t.id) named x).1 (stands listed x c, same_list listed x c), omega (arith, lt, keeps.filled.count))
      | inr other ↦ (let w : None ≡ Some n = sym (came_none other) ∙ e in absurd cc)
    ]

    pub is_came : IsCame it one
    is_came = record {
      span = subst IsSpan (sym of.span_is) (record { client = taken.id.client; end = taken.end });
      some = let e : one.span.len ≡ t.len = ap (λ (s : Span). s.len) of.span_is in omega (arith, taken.has_units, e);
      list = number one.list refl;
    }
      where
        taken : IsTakenOf k.received.runs t
        taken = entry_taken k holds t here

        number : (z : Option ℕ) → one.list ≡ z → IfSome z (λ n. (n < count_of it.store.placed) × ((x : Id) → InSpan one.span x → IsIn x (units_of_list it n)))
        number None e = tt
        number (Some n) e = (
          (came_there n e t.id (covers_first k.received.runs t taken)).1,
          (λ x i. (came_there n e x (in_entry t one.span x of.span_is i)).0),
        )

    -- what came in no list is lost
    pub came_lost : is_held t ≡ true → one.list ≡ None → (x : Id) → covers t x ≡ true → is_lost held x ≡ true
    came_lost is none x c = elim (cases_Bool (is_listed t)) [
      | inl listed ↦ let (n, e, got) = came_list listed in (let w : None ≡ Some n = sym none ∙ e in absurd cc)
      | inr other ↦ held_lost k holds t here is other x c
    ]

  -- so is each row
  pub all_are_came : (order : List ℕ) (came : List Came) → AreCame k it order came → Each (IsCame it) came
  all_are_came order came are = in_each (IsCame it) came (λ one i.
      let (at, j, is) = came_at k it order came are one i in
      is_came is.entry (entry_got k.received.entries at is.entry is.there) one is.of)
