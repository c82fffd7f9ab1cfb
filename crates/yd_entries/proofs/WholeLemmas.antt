-- Entries that are lowered one after another, from the first to the last of so many ids.
use Rattle.std.proofs.Common.{◌≡◌, ℕ, zero, suc, ◌+◌, ◌<◌, ◌≤◌, Bool, true, false, List, [], ◌∷◌, length, take, drop, map, set, get_or, inl, inr, refl, sym, ap, ap₂, ◌∙◌, subst, arith, tests}
use Rattle.std.proofs.lemmas.Bool.{cases_Bool}
use Rattle.std.proofs.lemmas.Option.{get_or_from_slice_get}
use Rattle.yd_words.specs.Each.{Each}
use Rattle.yd_words.specs.Member.{IsIn}
use Rattle.yd_words.proofs.EachLemmas.{each_weaker}
use Rattle.yd_words.proofs.MemberLemmas.{each_in}
use Rattle.yd_words.proofs.TestLemmas.{split}
use Rattle.yd_ids.specs.declared.id.Id.{Id}
use Rattle.yd_ops.specs.declared.runs.Run.{Run}
use Rattle.yd_ops.specs.Operation.{Operation, later_id, level_of}
use Rattle.yd_ops.proofs.LevelLemmas.{as_level-id, as_level-level}
use Rattle.yd_entries.specs.declared.entry.Entry.{Entry}
use Rattle.yd_entries.specs.Entries.{operations_of_taken, operations_in, IsTakenOf, AreInOrder, GrowBy}
use Rattle.yd_entries.specs.Lowering.{is_among, lowered_at, lowered_with, torn_at, IsBeside, begins_within, level_told, level_of_run, level_of_entry, down_to, LowersEntry, LowersWhole, Lowers, Begins}
use Rattle.yd_entries.specs.Staying.{KeepsPlaces}
use Rattle.yd_entries.specs.Taking.{EndsBy, EndsBehind}
use Rattle.yd_entries.proofs.BorderLemmas.{map_alike}
use Rattle.yd_entries.proofs.ChangeLemmas.{entry_got}
use Rattle.yd_entries.proofs.EntryLemmas.{client_of, each_from}
use Rattle.yd_entries.proofs.LowerLemmas.{down_less, down_low}
use Rattle.yd_entries.proofs.ScanLemmas.{IsLow, rest_behind, low_and_behind, all_low}
use Rattle.yd_entries.proofs.SetLemmas.{order_set, others_set, taken_set, map_set}
use Rattle.yd_entries.proofs.StayingLemmas.{stays_none, stays_more, stays_set}
use Rattle.yd_entries.proofs.TakenLemmas.{grown_get, grow_none, grow_more, taken_id}
use Rattle.yd_entries.proofs.TornLemmas.{lowered_here, lowered_low, lowered_away}

-- ---- one operation

lowered_is_down : (id : Id) (count level : ℕ) (o : Operation) → is_among id count o.id ≡ true → lowered_at id count level o ≡ down_to level o
lowered_is_down id count level o among = elim (split (level_of o.content) level) [
  | inl le ↦ lowered_low id count level o le ∙ sym (down_low level o le)
  | inr less ↦ lowered_here id count level o among less ∙ sym (down_less level o less)
]

down-id : (level : ℕ) (o : Operation) → (down_to level o).id ≡ o.id
down-id level o = elim (split (level_of o.content) level) [
  | inl le ↦ ap (λ (p : Operation). p.id) (down_low level o le)
  | inr less ↦ ap (λ (p : Operation). p.id) (down_less level o less) ∙ as_level-id level o
]

down_is_low : (level : ℕ) (o : Operation) → level_of (down_to level o).content ≤ level
down_is_low level o = elim (split (level_of o.content) level) [
  | inl le ↦ omega (arith, le, ap (λ (p : Operation). level_of p.content) (down_low level o le))
  | inr less ↦ omega (arith, ap (λ (p : Operation). level_of p.content) (down_less level o less), as_level-level level o less)
]

lowered_down : (id : Id) (count level : ℕ) (o : Operation) → is_among id count o.id ≡ true → lowered_at id count level (down_to level o) ≡ lowered_at id count level o
lowered_down id count level o among = lowered_low id count level (down_to level o) (down_is_low level o) ∙ sym (lowered_is_down id count level o among)

map_twice : (id : Id) (count level : ℕ) (os : List Operation) → ((o : Operation) → IsIn o os → is_among id count o.id ≡ true) →
    map (lowered_at id count level) (map (down_to level) os) ≡ map (lowered_at id count level) os
map_twice id count level [] among = refl
map_twice id count level (o ∷ os) among = ap₂ (λ p ps. p ∷ ps) (lowered_down id count level o (among o (inl refl))) (map_twice id count level os (λ p i. among p (inr i)))

-- ---- an entry between the two ends

among_all : (id : Id) (count : ℕ) (runs : List Run) (t : Entry) → IsTakenOf runs t → EndsBehind id t → IsBeside id t → IsBeside (later_id id count) t →
    begins_within id count t ≡ true →
    (o : Operation) → IsIn o (operations_of_taken runs t) → is_among id count o.id ≡ true
among_all id count runs t is ends first last within o i =
    let (k, lt, e) = taken_id runs t o is i in
    let (client, low) = begins first ends in
    let high = closes last client in
    at_id k lt e client low high
  where
    has_units : 0 < t.len
    has_units = is.has_units

    begins : IsBeside id t → EndsBehind id t → (t.id.client.0 ≡ id.client.0) × (id.clock ≤ t.id.clock)
    begins (inl (inl other)) (inl lt) = absurd (omega (arith, other, lt))
    begins (inl (inl other)) (inr (one, lt)) = absurd (omega (arith, other, client_of t.id id one))
    begins (inl (inr (same, le))) (inl lt) = absurd (omega (arith, lt, client_of t.id id same))
    begins (inl (inr (same, le))) (inr (one, lt)) = absurd (omega (arith, le, lt))
    begins (inr (inl other)) b = absurd (grind (arith, tests, within, other))
    begins (inr (inr (same, le))) b = (sym (client_of id t.id same), omega (arith, le))

    closes : IsBeside (later_id id count) t → t.id.client.0 ≡ id.client.0 → t.id.clock + t.len ≤ id.clock + count
    closes (inl (inl other)) client = absurd (omega (arith, other, client))
    closes (inl (inr (same, le))) client = le
    closes (inr (inl other)) client = absurd (omega (arith, other, client))
    closes (inr (inr (same, le))) client = absurd (grind (arith, tests, within, le))

    at_id : (k : ℕ) → k < t.len → o.id ≡ later_id t.id k → t.id.client.0 ≡ id.client.0 → id.clock ≤ t.id.clock → t.id.clock + t.len ≤ id.clock + count →
        is_among id count o.id ≡ true
    at_id k lt e client low high = let own = ap (λ (x : Id). x.client.0) e in let clock = ap (λ (x : Id). x.clock) e in grind (arith, tests, own, clock, client, low, high, lt)

-- ---- a list of which one is set

take_set : (P : Entry → Type 0) (ts : List Entry) (at : ℕ) (u : Entry) → at < length ts → Each P (take at ts) → P u → Each P (take (at + 1) (set ts at u))
take_set P [] at u lt front here = absurd (omega arith)
take_set P (t ∷ ts) zero u lt front here = (here, tt)
take_set P (t ∷ ts) (suc at) u lt front here = subst (λ k. Each P (take k (t ∷ set ts at u))) next (front.0, take_set P ts at u (omega arith) front.1 here)
  where
    next : suc (at + 1) ≡ suc at + 1
    next = omega arith

drop_set : (P : Entry → Type 0) (ts : List Entry) (at : ℕ) (u : Entry) → Each P (drop at ts) → Each P (drop (at + 1) (set ts at u))
drop_set P [] at u back = subst (λ us. Each P us) (sym (nothing (at + 1))) tt
  where
    nothing : (k : ℕ) → drop {A = Entry} k [] ≡ []
    nothing zero = refl
    nothing (suc k) = refl
drop_set P (t ∷ ts) zero u back = back.1
drop_set P (t ∷ ts) (suc at) u back = subst (λ k. Each P (drop k (t ∷ set ts at u))) next (drop_set P ts at u back)
  where
    next : suc (at + 1) ≡ suc at + 1
    next = omega arith

-- more runs behind the others change no entry's level
grown_level : (old new : List Run) (t : Entry) → GrowBy old new → t.run < length old → level_of_entry new t ≡ level_of_entry old t
grown_level old new t grow lt = go t.is_gone
  where
    go : (gone : Bool) → level_told gone new t ≡ level_told gone old t
    go true = refl
    go false = ap level_of_run (grown_get old new t.run grow lt)

low_grown : (id : Id) (count level : ℕ) (old new : List Run) → GrowBy old new → (ts : List Entry) (n : ℕ) → Each (IsTakenOf old) ts →
    Each (IsLow id count level old) (take n ts) → Each (IsLow id count level new) (take n ts)
low_grown id count level old new grow ts zero each low = tt
low_grown id count level old new grow [] (suc n) each low = tt
low_grown id count level old new grow (t ∷ ts) (suc n) each low = (one low.0, low_grown id count level old new grow ts n each.1 low.1)
  where
    one : IsLow id count level old t → IsLow id count level new t
    one (inl ends) = inl ends
    one (inr (inl begins)) = inr (inl begins)
    one (inr (inr le)) = inr (inr (omega (arith, le, grown_level old new t grow each.0.run_there)))

-- ---- one after another

-- the entries before a place are lowered
pub record IsLowering (id : Id) (count level : ℕ) (old_runs : List Run) (old : List Entry) (runs : List Run) (taken : List Entry) (at : ℕ) : Type 0 where
  pub grows : GrowBy old_runs runs
  pub each : Each (IsTakenOf runs) taken
  pub in_order : AreInOrder taken
  pub same : map (lowered_at id count level) (operations_in runs taken) ≡ map (lowered_at id count level) (operations_in old_runs old)
  pub low : Each (IsLow id count level runs) (take at taken)
  pub rest : Each (EndsBehind id) (drop at taken)
  pub first : Each (IsBeside id) taken
  pub last : Each (IsBeside (later_id id count)) taken
  pub places : KeepsPlaces old_runs old runs taken

module _ (id : Id) (count level : ℕ) (old_runs : List Run) (old : List Entry) where
  pub lowering_begins : (at : ℕ) → Each (IsTakenOf old_runs) old → AreInOrder old → Each (IsBeside id) old → Each (IsBeside (later_id id count)) old →
      Each (EndsBy id) (take at old) → Each (EndsBehind id) (drop at old) → IsLowering id count level old_runs old old_runs old at
  lowering_begins at each order first last before behind = record {
    grows = grow_none old_runs;
    each = each;
    in_order = order;
    same = refl;
    low = each_weaker (EndsBy id) (IsLow id count level old_runs) (λ t e. inl e) (take at old) before;
    rest = behind;
    first = first;
    last = last;
    places = stays_none old_runs old;
  }

  pub lowering_more : (runs new : List Run) (taken next : List Entry) (at : ℕ) → IsLowering id count level old_runs old runs taken at → at < length taken →
      (d : Entry) → begins_within id count (get_or taken at d) ≡ true → LowersEntry runs taken new next at level → GrowBy runs new →
      IsLowering id count level old_runs old new next (at + 1)
  lowering_more runs new taken next at is lt d within lowers grow = record {
    grows = grow_more old_runs runs new is.grows grow;
    each = subst (Each (IsTakenOf new)) (sym lowers.placed) (taken_set lowers.entry lowers.new lowers.id lowers.len runs new grow taken at is.each lowers.of_run);
    in_order = subst AreInOrder (sym lowers.placed) (order_set lowers.entry lowers.new lowers.id lowers.len taken at lowers.there is.in_order);
    same = ap (λ us. map (lowered_at id count level) (operations_in new us)) lowers.placed
        ∙ map_set lowers.entry lowers.new lowers.id lowers.len runs new grow (lowered_at id count level)
        (ap (λ os. map (lowered_at id count level) os) lowers.operations ∙ map_twice id count level (operations_of_taken runs lowers.entry) among) taken at lowers.there is.each
        ∙ is.same;
    low = subst (λ us. Each (IsLow id count level new) (take (at + 1) us)) (sym lowers.placed)
        (take_set (IsLow id count level new) taken at lowers.new lt (low_grown id count level runs new grow taken at is.each is.low) (inr (inr lowers.low)));
    rest = subst (λ us. Each (EndsBehind id) (drop (at + 1) us)) (sym lowers.placed) (drop_set (EndsBehind id) taken at lowers.new is.rest);
    first = subst (Each (IsBeside id)) (sym lowers.placed) (others_set lowers.entry lowers.new lowers.id lowers.len id taken at lowers.there is.first);
    last = subst (Each (IsBeside (later_id id count))) (sym lowers.placed) (others_set lowers.entry lowers.new lowers.id lowers.len (later_id id count) taken at lowers.there is.last);
    places = stays_more old_runs runs new old taken next is.grows is.places (subst (λ us. KeepsPlaces runs taken new us) (sym lowers.placed)
        (stays_set lowers.entry lowers.new lowers.id lowers.len lowers.place runs new grow taken at lowers.there is.each lowers.less));
  }
    where
      here : get_or taken at d ≡ lowers.entry
      here = get_or_from_slice_get taken at lowers.entry d lowers.there

      among : (o : Operation) → IsIn o (operations_of_taken runs lowers.entry) → is_among id count o.id ≡ true
      among = among_all id count runs lowers.entry (each_in (IsTakenOf runs) taken is.each lowers.entry (entry_got taken at lowers.entry lowers.there))
          (subst (EndsBehind id) here (each_from (EndsBehind id) taken at d is.rest lt))
          (each_in (IsBeside id) taken is.first lowers.entry (entry_got taken at lowers.entry lowers.there))
          (each_in (IsBeside (later_id id count)) taken is.last lowers.entry (entry_got taken at lowers.entry lowers.there))
          (subst (λ s. begins_within id count s ≡ true) here within)

  pub lowering_ends : (runs : List Run) (taken : List Entry) (at : ℕ) (d : Entry) → IsLowering id count level old_runs old runs taken at →
      (at < length taken → begins_within id count (get_or taken at d) ≡ false) → LowersWhole old_runs old runs taken id count level
  lowering_ends runs taken at d is next = record {
    operations = sym (map_alike (lowered_at id count level) (operations_in runs taken) low) ∙ is.same;
    each = is.each;
    in_order = is.in_order;
    places = is.places;
  }
    where
      low : (o : Operation) → IsIn o (operations_in runs taken) → lowered_at id count level o ≡ o
      low o i = elim (cases_Bool (is_among id count o.id)) [
        | inl among ↦ lowered_low id count level o (all_low runs taken id count level is.each
            (low_and_behind runs taken id at count level is.low (rest_behind taken id at d count is.in_order is.rest next)) o i among)
        | inr away ↦ lowered_away id count level o away
      ]

-- ---- all together

map_thrice : (id : Id) (count level : ℕ) (os : List Operation) →
    map (lowered_at id count level) (map (torn_at (later_id id count)) (map (torn_at id) os)) ≡ map (lowered_with id count level) os
map_thrice id count level [] = refl
map_thrice id count level (o ∷ os) = ap (λ ps. lowered_with id count level o ∷ ps) (map_thrice id count level os)

pub span_lowers : (id : Id) (count level : ℕ) (a b c e : List Run) (w x y z : List Entry) → Begins a w b x id → Begins b x c y (later_id id count) →
    LowersWhole c y e z id count level →
    Lowers a w e z id count level
span_lowers id count level a b c e w x y z first last whole = record {
  operations = whole.operations ∙ ap (λ os. map (lowered_at id count level) os) (last.operations ∙ ap (λ os. map (torn_at (later_id id count)) os) first.operations)
      ∙ map_thrice id count level (operations_in a w);
  each = whole.each;
  in_order = whole.in_order;
}

pub span_places : (id : Id) (count level : ℕ) (a b c e : List Run) (w x y z : List Entry) → Begins a w b x id → Begins b x c y (later_id id count) →
    LowersWhole c y e z id count level → GrowBy a b → GrowBy b c →
    KeepsPlaces a w e z
span_places id count level a b c e w x y z first last whole one other =
    stays_more a c e w y z (grow_more a b c one other) (stays_more a b c w x y one first.places last.places) whole.places
