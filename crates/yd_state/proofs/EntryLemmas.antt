-- The units of an entry as a run, and whether they stand.
use Rattle.std.proofs.Common.{◌≡◌, ℕ, ◌+◌, ◌<◌, ◌≤◌, Bool, true, false, List, Option, Some, None, length, get_or, refl, sym, ap, ◌∙◌, subst, arith, true≢false}
use Rattle.std.specs.Prelude.{not, ◌&&◌, slice_get, take, drop}
use Rattle.std.proofs.lemmas.Bool.{false_from_ne_true}
use Rattle.std.proofs.lemmas.List.{length-take-le, length-drop}
use Rattle.std.proofs.lemmas.Option.{slice_get-get_or}
use Rattle.yd_words.specs.Member.{IsIn}
use Rattle.yd_words.proofs.MemberLemmas.{each_in}
use Rattle.yd_words.proofs.TestLemmas.{both_hold}
use Rattle.yd_ids.specs.declared.id.Client.{Client}
use Rattle.yd_ids.specs.declared.id.Id.{Id}
use Rattle.yd_ops.specs.declared.runs.Run.{Run}
use Rattle.yd_ops.specs.Operation.{Operation, operations_of_run, units_of_content}
use Rattle.yd_ops.specs.Valid.{CarriesList}
use Rattle.yd_ops.specs.Value.{ContentValue, RunValue, len_of}
use Rattle.yd_ops.specs.View.{content_value}
use Rattle.yd_ops.proofs.OperationLemmas.{length-units_of_content}
use Rattle.yd_scan.specs.declared.stretch.Stretch.{Stretch}
use Rattle.yd_scan.specs.Stretches.{units_of}
use Rattle.yd_index.proofs.RowLemmas.{from_says, from_in}
use Rattle.yd_ops.specs.Received.{has_operation}
use Rattle.yd_meaning.specs.Held.{standing, is_lost}
use Rattle.yd_grouping.specs.Groups.{of_run, of_gone, operations_of_group}
use Rattle.yd_entries.specs.declared.entry.Entry.{Entry}
use Rattle.yd_entries.specs.declared.place.Place.{Place}
use Rattle.yd_entries.specs.declared.place.Place.TheVariants.{Waits, Lost, In}
use Rattle.yd_entries.specs.Entries.{units_of as units_of_kept, list_at, operations_of_taken, IsTakenOf, IsTold, TellsRight, covers, is_held, is_listed}
use Rattle.yd_received.specs.Received.{held_of}
use Rattle.yd_entries.proofs.EntriesLemmas.{one_entry}
use Rattle.yd_entries.proofs.EntryLemmas.{covers_in}
use Rattle.yd_held.specs.Held.{HeldValue, HoldsAll}
use Rattle.yd_held.specs.Placed.{can_stand, IsPlaced}
use Rattle.yd_held.proofs.HeldEntryLemmas.{is_taken, entry_chosen, id_chosen, chosen_id}
use Rattle.yd_held.proofs.HeldUnitLemmas.{covers_less, none_there}
use Rattle.yd_held.proofs.NotedLemmas.{one_client}
use Rattle.yd_merge.specs.Told.{content_part, group_of_run, group_told, group_of_entry}
use Rattle.yd_merge.proofs.ContentLemmas.{part-units}
use Rattle.yd_merge.proofs.ToldLemmas.{entry-operations}

-- ---- an entry as a run

-- a run has the units of an entry
pub record IsRunOfEntry (runs : List Run) (t : Entry) (run : RunValue) : Type 0 where
  pub id : run.id ≡ t.id
  pub left : run.left ≡ t.left
  pub right : run.right ≡ t.right
  pub list : CarriesList run.left run.right run.list
  pub len : len_of run.content ≡ t.len
  pub operations : operations_of_run run ≡ operations_of_taken runs t

run_is : (a b : RunValue) → of_run a ≡ of_run b → a ≡ b
run_is a b e = cc

run_not_gone : (run : RunValue) (id : Id) (n : ℕ) → of_run run ≡ of_gone id n → ⊥
run_not_gone run id n e = cc

abbrev part_run : Entry → Run → RunValue
part_run t r = record { id = t.id; left = t.left; right = t.right; list = list_at (Some r) t.offset; content = content_part t.offset t.len (content_value r.content) }

part_len : (t : Entry) (r : Run) → 0 < t.len → t.offset + t.len ≤ length (units_of_kept (Some r)) → len_of (content_part t.offset t.len (content_value r.content)) ≡ t.len
part_len t r some le = sym (length-units_of_content (content_part t.offset t.len content)) ∙ (ap length units ∙ long)
  where
    content : ContentValue
    content = content_value r.content

    units : units_of_content (content_part t.offset t.len content) ≡ take t.len (drop t.offset (units_of_content content))
    units = part-units t.offset t.len content some (omega (arith, le, length-units_of_content content))

    long : length (take t.len (drop t.offset (units_of_content content))) ≡ t.len
    long = length-take-le t.len (drop t.offset (units_of_content content)) (omega (arith, le, length-drop t.offset (units_of_content content)))

pub run_of_entry : (runs : List Run) (t : Entry) (run : RunValue) → IsTakenOf runs t → of_run run ≡ group_of_entry runs t → IsRunOfEntry runs t run
run_of_entry runs t run is e = go t.is_gone refl (slice_get runs t.run) refl
  where
    go : (gone : Bool) → t.is_gone ≡ gone → (z : Option Run) → slice_get runs t.run ≡ z → IsRunOfEntry runs t run
    go true g z h = absurd (run_not_gone run t.id t.len (e ∙ ap (λ b. group_told b runs t) g))
    go false g None h = absurd (none_there runs t.run is.run_there h)
    go false g (Some r) h =
        let told : IsTold runs t = subst (λ b. TellsRight b runs t) g is.told in
        let same : run ≡ part_run t r = run_is run (part_run t r) (e ∙ (ap (λ b. group_told b runs t) g ∙ ap (λ z. group_of_run t z) h)) in
        let carries : CarriesList t.left t.right (list_at (Some r) t.offset) = subst (λ z. CarriesList t.left t.right (list_at z t.offset)) h told.list in
        let within : t.offset + t.len ≤ length (units_of_kept (Some r)) = subst (λ z. t.offset + t.len ≤ length (units_of_kept z)) h told.within in
        record {
          id = ap (λ (v : RunValue). v.id) same;
          left = ap (λ (v : RunValue). v.left) same;
          right = ap (λ (v : RunValue). v.right) same;
          list = subst (λ (v : RunValue). CarriesList v.left v.right v.list) (sym same) carries;
          len = ap (λ (v : RunValue). len_of v.content) same ∙ part_len t r is.has_units within;
          operations = ap operations_of_group e ∙ entry-operations runs t is;
        }

-- gone units are those of an entry
pub record IsGoneOfEntry (t : Entry) (id : Id) (n : ℕ) : Type 0 where
  pub id_is : id ≡ t.id
  pub len : n ≡ t.len
  pub gone : t.is_gone ≡ true

pub gone_of_entry : (runs : List Run) (t : Entry) (id : Id) (n : ℕ) → IsTakenOf runs t → of_gone id n ≡ group_of_entry runs t → IsGoneOfEntry t id n
gone_of_entry runs t id n is e = go t.is_gone refl (slice_get runs t.run) refl
  where
    same : (a b : Id) (k m : ℕ) → of_gone a k ≡ of_gone b m → (a ≡ b) × (k ≡ m)
    same a b k m f = (cc, cc)

    go : (gone : Bool) → t.is_gone ≡ gone → (z : Option Run) → slice_get runs t.run ≡ z → IsGoneOfEntry t id n
    go true g z h = let (a, b) = same id t.id n t.len (e ∙ ap (λ b. group_told b runs t) g) in record { id_is = a; len = b; gone = g }
    go false g None h = absurd (none_there runs t.run is.run_there h)
    go false g (Some r) h = absurd (run_not_gone (part_run t r) id n (sym (e ∙ (ap (λ b. group_told b runs t) g ∙ ap (λ z. group_of_run t z) h))))

-- an entry that is seen at a number is there
pub read_at : (seen : List Entry) {taken : List Entry} → seen ≡ taken → (at : ℕ) (t d : Entry) → at < length seen → t ≡ get_or seen at d → slice_get taken at ≡ Some t
read_at seen same at t d lt is = subst (λ ts. slice_get ts at ≡ Some t) same (slice_get-get_or seen at d lt ∙ ap (λ (u : Entry). Some u) (sym is))

-- ---- the ids of its units

pub covered_unit : (t : Entry) (s : Stretch) (x : Id) → s.id ≡ t.id → s.len ≡ t.len → IsIn x (units_of s) → covers t x ≡ true
covered_unit t s x id len i =
    let a = from_says s.id.client s.len s.id.clock x i in
    covers_in t x (ap (λ (y : Id). y.client.0) (sym id) ∙ ap (λ (c : Client). c.0) (sym a.0)) (omega (arith, a.1, ap (λ (y : Id). y.clock) id)) (omega (arith, a.2, ap (λ (y : Id). y.clock) id, len))

pub unit_covered : (t : Entry) (s : Stretch) (x : Id) → s.id ≡ t.id → s.len ≡ t.len → covers t x ≡ true → IsIn x (units_of s)
unit_covered t s x id len e =
    let (client, low, high) = covers_less t x e in
    from_in s.id.client s.len s.id.clock x (one_client x.client s.id.client (sym client ∙ ap (λ (y : Id). y.client.0) (sym id)))
    (omega (arith, low, ap (λ (y : Id). y.clock) id)) (omega (arith, high, ap (λ (y : Id). y.clock) id, len))

-- ---- what of it stands

module _ (k : HeldValue) (holds : HoldsAll k) (t : Entry) (i : IsIn t k.received.entries) where
  pub entry_taken : IsTakenOf k.received.runs t
  entry_taken = is_taken k.received holds.in_order t i

  -- what is in a list stands
  pub listed_stands : is_listed t ≡ true → (o : Operation) → IsIn o (operations_of_taken k.received.runs t) → IsIn o (standing (held_of k.received))
  listed_stands e o j = subst (λ os. IsIn o os) holds.stands (entry_chosen is_listed k.received holds.in_order t i e o j)

  -- and what is in none does not
  pub other_lost : is_listed t ≡ false → (x : Id) → covers t x ≡ true → has_operation (standing (held_of k.received)) x ≡ false
  other_lost e x c = false_from_ne_true _ (λ up.
      let (u, j, listed, covered) = id_chosen is_listed k.received holds.in_order x (subst (λ os. has_operation os x ≡ true) (sym holds.stands) up) in
      let same : u ≡ t = one_entry k.received.entries holds.in_order.in_order u t x j i covered c in
      true≢false (sym listed ∙ (ap is_listed same ∙ e)))

  pub held_lost : is_held t ≡ true → is_listed t ≡ false → (x : Id) → covers t x ≡ true → is_lost (held_of k.received) x ≡ true
  held_lost held e x c =
      let there : has_operation (held_of k.received) x ≡ true = chosen_id is_held k.received holds.in_order t x i held c in
      let none = other_lost e x c in
      rw (there, none) refl

  -- an id that is lost is of no entry in a list
  pub lost_other : (x : Id) → covers t x ≡ true → is_lost (held_of k.received) x ≡ true → is_listed t ≡ false
  lost_other x c lost = false_from_ne_true (is_listed t) (λ e.
      let up : has_operation (standing (held_of k.received)) x ≡ true =
      subst (λ os. has_operation os x ≡ true) holds.stands (chosen_id is_listed k.received holds.in_order t x i e c) in
      clash (has_operation (held_of k.received) x) (has_operation (standing (held_of k.received)) x) up lost)
    where
      clash : (a b : Bool) → b ≡ true → a && not b ≡ true → ⊥
      clash true true e f = true≢false (sym f)
      clash true false e f = true≢false (sym e)
      clash false b e f = true≢false (sym f)

  -- gone units are in no list
  pub gone_unlisted : t.is_gone ≡ true → is_listed t ≡ false
  gone_unlisted gone = go t.place refl (each_in (λ u. IsPlaced k.received k.names u u.place) k.received.entries holds.placed t i)
    where
      go : (p : Place) → t.place ≡ p → IsPlaced k.received k.names t t.place → is_listed t ≡ false
      go Waits e placed = rw e refl
      go Lost e placed = rw e refl
      go (In n) e placed =
          let stands : can_stand k.received t ≡ true = (subst (IsPlaced k.received k.names t) e placed).0 in
          absurd (true≢false (sym (both_hold (not t.is_gone) _ stands).0 ∙ ap not gone))
