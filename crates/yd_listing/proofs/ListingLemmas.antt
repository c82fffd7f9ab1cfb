-- What a store lends of a list with a name, and what stands last in it.
use Rattle.std.proofs.Common.{◌≡◌, ℕ, zero, suc, ◌+◌, ◌-◌, ◌<◌, inl, inr, Bool, List, [], ◌∷◌, ◌++◌, Option, Some, None, map, length, refl, sym, ap, ◌∙◌, subst, arith, append-nil}
use Rattle.std.specs.Prelude.{IfSome, IfNone, MatchOption, slice_get, flat_map}
use Rattle.std.proofs.lemmas.List.{map-append}
use Rattle.yd_words.specs.Each.{Each}
use Rattle.yd_words.specs.Member.{IsIn}
use Rattle.yd_words.proofs.EachLemmas.{each_append}
use Rattle.yd_ids.specs.declared.id.Id.{Id}
use Rattle.yd_ids.specs.Id.{IsClient, IsClock}
use Rattle.yd_origins.specs.Deleted as last
use Rattle.yd_ops.specs.declared.lists.List.{List as DocList}
use Rattle.yd_ops.specs.Operation.{UnitContent, Operation, later_id, units_of_content}
use Rattle.yd_ops.specs.Value.{len_of}
use Rattle.yd_ops.specs.View.{content_value}
use Rattle.yd_ops.proofs.OperationLemmas.{length-units_of_content, later_none, later_later}
use Rattle.yd_scan.proofs.UnitLemmas.{units_in as unit_among}
use Rattle.yd_index.specs.Lines.{next_of}
use Rattle.yd_index.proofs.RowLemmas.{from_in}
use Rattle.yd_scan.specs.Stretches.{stretch_at}
use Rattle.yd_arena.specs.Lists.{AreLists}
use Rattle.yd_arena.specs.Arena.{runs_of, count_of, places_in, IsArena, HasUnit}
use Rattle.yd_arena.proofs.ArenaLemmas.{unit_below}
use Rattle.yd_arena.specs.Marks.{mark_at}
use Rattle.yd_store.specs.Contents.{told_of}
use Rattle.yd_store.specs.Store.{Stored, AreTold}
use Rattle.yd_store.specs.Units.{operations_at, HasOperation}
use Rattle.yd_store.proofs.HalvesLemmas.{has_unit}
use Rattle.yd_meaning.specs.Document.{Document}
use Rattle.yd_meaning.specs.Own.{ids_in}
use Rattle.yd_listing.specs.Lending.{Lent, lent, lent_from, lent_at, lent_in, units_of_run, units_left, Walk}
use Rattle.yd_listing.specs.declared.lent.LentRun.{LentRun}
use Rattle.yd_listing.proofs.LentLemmas.{lists_lend_units}
use Rattle.yd_kept.specs.Kept.{KeptValue}
use Rattle.yd_listing.specs.Falling.{IsTold}
use Rattle.yd_listing.specs.Listing.{Tells, lent_units, units_to_come, HasRoom, AreInRange, IsInRange}

-- ---- names

-- a name that no number has is not there
pub not_named : (names : List DocList) (name : DocList) → ((n : ℕ) → slice_get names n ≡ Some name → ⊥) → IsIn name names → ⊥
not_named [] name no_one i = i
not_named (x ∷ xs) name no_one (inl e) = no_one zero (ap (λ (l : DocList). Some l) (sym e))
not_named (x ∷ xs) name no_one (inr i) = not_named xs name (λ n e. no_one (suc n) e) i

-- ---- what is lent

pub named_lent : (it : KeptValue) (document : Document) (n : ℕ) (name : DocList) → IsArena it.store.placed.lines (runs_of it.store.placed) →
    AreLists it.store.placed.linked → AreTold (runs_of it.store.placed) (told_of it.store.contents) → n < count_of it.store.placed →
    Tells it document → slice_get it.names n ≡ Some name → lent_in it.store n ≡ lent_units document name
named_lent it document n name arena lists told lt tells e =
    lists_lend_units it.store arena lists told document.deleted tells.marks n lt
    ∙ ap (map (λ (o : Operation). lent (document.deleted o.id) o)) (sym (tells.lists.named n name e))

pub none_lent : (it : KeptValue) (document : Document) (name : DocList) → Tells it document → ((n : ℕ) → slice_get it.names n ≡ Some name → ⊥) → [] ≡ lent_units document name
none_lent it document name tells no_one = ap (map (λ (o : Operation). lent (document.deleted o.id) o)) (sym (tells.lists.others name (not_named it.names name no_one)))

-- ---- ids in range

-- what is lent of an operation of a run of the store
unit_ranged : (it : KeptValue) (n place : ℕ) (o : Operation) (mark : Bool) → IsTold it → IsArena it.store.placed.lines (runs_of it.store.placed) →
    AreLists it.store.placed.linked → AreTold (runs_of it.store.placed) (told_of it.store.contents) → n < count_of it.store.placed →
    IsIn place (places_in it.store.placed n) → IsIn o (operations_at (runs_of it.store.placed) (told_of it.store.contents) place) → HasRoom (lent mark o)
unit_ranged it n place o mark is arena lists told lt i m =
    let within : place < length (runs_of it.store.placed) = lists.within n place lt i in
    let h : HasOperation it.store o = record { place = place; within = within; member = m } in
    let run = stretch_at (runs_of it.store.placed) place in
    let k = o.id.clock - run.id.clock in
    let u : HasUnit (runs_of it.store.placed) place k o.id = has_unit it.store o told h in
    let low : o.id.clock < next_of it.store.placed.lines o.id.client.0 =
    unit_below it.store.placed.lines (runs_of it.store.placed) arena.holds place k o.id u in
    let bound : IsClock (next_of it.store.placed.lines o.id.client.0) = arena.clocks o.id.client.0 in
    record {
      client = is.clients n o.id lt (unit_among (runs_of it.store.placed) (places_in it.store.placed n) o.id place i
          (from_in run.id.client run.len run.id.clock o.id (sym u.client) (omega (arith, u.clock)) (omega (arith, u.clock, u.inside))));
      end = omega (arith, low, bound);
    }

lent_each : (os : List Operation) (mark : Bool) → ((o : Operation) → IsIn o os → HasRoom (lent mark o)) → Each HasRoom (map (lent mark) os)
lent_each [] mark all = tt
lent_each (o ∷ os) mark all = (all o (inl refl), lent_each os mark (λ p i. all p (inr i)))

places_each : (it : Stored) (places : List ℕ) → ((place : ℕ) → IsIn place places → Each HasRoom (lent_at it place)) → Each HasRoom (flat_map (lent_at it) places)
places_each it [] all = tt
places_each it (p ∷ ps) all = each_append HasRoom (lent_at it p) (flat_map (lent_at it) ps) (all p (inl refl)) (places_each it ps (λ q i. all q (inr i)))

pub list_ranged : (it : KeptValue) (n : ℕ) → IsTold it → IsArena it.store.placed.lines (runs_of it.store.placed) → AreLists it.store.placed.linked →
    AreTold (runs_of it.store.placed) (told_of it.store.contents) → n < count_of it.store.placed → Each HasRoom (lent_in it.store n)
list_ranged it n is arena lists told lt = places_each it.store (places_in it.store.placed n) (λ place i.
    lent_each (operations_at (runs_of it.store.placed) (told_of it.store.contents) place) (mark_at it.store.marks.rows place).deleted
    (λ o m. unit_ranged it n place o (mark_at it.store.marks.rows place).deleted is arena lists told lt i m))

-- ---- one run more

each_behind : {X : Type 0} (P : X → Type 0) (xs ys : List X) → Each P (xs ++ ys) → Each P ys
each_behind P [] ys h = h
each_behind P (x ∷ xs) ys h = each_behind P xs ys h.1

pub still_ranged : (old new : Option Walk) (units : List Lent) → units_to_come old ≡ units ++ units_to_come new → AreInRange old → AreInRange new
still_ranged old new units e h = each_behind HasRoom units (units_to_come new) (subst (Each HasRoom) e h)

one_more : (clock n : ℕ) → IsClock (clock + 1 + suc n) → IsClock (clock + suc (suc n))
one_more clock n lt = omega (arith, lt)

-- the first of the units that a run lends, and the last
lent_last : (id : Id) (deleted : Bool) (units : List UnitContent) (rest : List Lent) → 0 < length units → Each HasRoom (lent_from id deleted units ++ rest) →
    IsClient id.client × IsClock (id.clock + length units)
lent_last id deleted [] rest some h = absurd (omega (arith, some))
lent_last id deleted (u ∷ []) rest some h = (h.0.client, h.0.end)
lent_last id deleted (u ∷ v ∷ us) rest some h =
    let more = lent_last (later_id id 1) deleted (v ∷ us) rest (omega arith) h.1 in (h.0.client, one_more id.clock (length us) more.1)

pub run_ranged : (run : LentRun) (old new : Option Walk) → run.len ≡ len_of (content_value run.content.now) → 0 < run.len →
    units_to_come old ≡ units_of_run run ++ units_to_come new → AreInRange old → IsInRange run
run_ranged run old new len some e h =
    let units : List UnitContent = units_of_content (content_value run.content.now) in
    let long : length units ≡ run.len = length-units_of_content (content_value run.content.now) ∙ sym len in
    let r = lent_last run.id run.deleted units (units_to_come new) (omega (arith, long, some)) (subst (Each HasRoom) e h) in
    record { client = r.0; ids = omega (arith, r.1, long) }

pub next_ranged : (old new : Walk) (z : Option LentRun) → MatchOption z (units_left old ≡ []) (λ run. units_left old ≡ units_of_run run ++ units_left new) →
    IfSome z (λ run. 0 < run.len) → IfSome z (λ run. run.len ≡ len_of (content_value run.content.now)) → IfNone z (units_left new ≡ []) →
    AreInRange (Some old) → IfSome z IsInRange × AreInRange (Some new)
next_ranged old new None lends some len ended h = (tt, subst (Each HasRoom) (sym ended) tt)
next_ranged old new (Some run) lends some len ended h = (run_ranged run (Some old) (Some new) len some lends h, still_ranged (Some old) (Some new) (units_of_run run) lends h)

-- ---- what stands last

ids_lent : (deleted : Id → Bool) (os : List Operation) → map (λ (u : Lent). u.id) (map (λ (o : Operation). lent (deleted o.id) o) os) ≡ map (λ (o : Operation). o.id) os
ids_lent deleted [] = refl
ids_lent deleted (o ∷ os) = ap (λ (xs : List Id). o.id ∷ xs) (ids_lent deleted os)

-- the last of what a run lends
last_of_run : (id : Id) (deleted : Bool) (units : List UnitContent) (k : ℕ) → length units ≡ suc k →
    last.last_of (map (λ (u : Lent). u.id) (lent_from id deleted units)) ≡ Some (later_id id k)
last_of_run id deleted [] k e = absurd (omega (arith, e))
last_of_run id deleted (u ∷ []) k e =
    let f : suc zero ≡ suc k = e in
    let z : 0 ≡ k = omega (arith, f) in ap (λ (x : Id). Some x) (sym (later_none id) ∙ ap (later_id id) z)
last_of_run id deleted (u ∷ v ∷ us) k e =
    let f : suc (suc (length us)) ≡ suc k = e in
    let z : 1 + length us ≡ k = omega (arith, f) in
    last_of_run (later_id id 1) deleted (v ∷ us) (length us) refl ∙ ap (λ (x : Id). Some x) (later_later id 1 (length us) ∙ ap (later_id id) z)

-- what stands last behind others stands last
last_behind : (front : List Id) (xs : List Id) (x : Id) → last.last_of xs ≡ Some x → last.last_of (front ++ xs) ≡ Some x
last_behind [] xs x e = e
last_behind (y ∷ []) [] x e = (let no : None ≡ Some x = e in absurd cc)
last_behind (y ∷ []) (z ∷ zs) x e = e
last_behind (y ∷ w ∷ ws) xs x e = last_behind (w ∷ ws) xs x e

module _ (it : KeptValue) (document : Document) (n : ℕ) (name : DocList) (arena : IsArena it.store.placed.lines (runs_of it.store.placed))
    (lists : AreLists it.store.placed.linked) (told : AreTold (runs_of it.store.placed) (told_of it.store.contents)) (lt : n < count_of it.store.placed)
    (tells : Tells it document) (e : slice_get it.names n ≡ Some name) where
  ids_named : ids_in document name ≡ map (λ (u : Lent). u.id) (lent_in it.store n)
  ids_named = sym (ids_lent document.deleted (document.units name)) ∙ ap (map (λ (u : Lent). u.id)) (sym (named_lent it document n name arena lists told lt tells e))

  pub last_named : (run : LentRun) → ((front : List Lent) × (lent_in it.store n ≡ front ++ units_of_run run)) → 0 < run.len →
      run.len ≡ len_of (content_value run.content.now) → Some (later_id run.id (run.len - 1)) ≡ last.last_of (ids_in document name)
  last_named run parts some len =
      let units : List UnitContent = units_of_content (content_value run.content.now) in
      let long : length units ≡ run.len = length-units_of_content (content_value run.content.now) ∙ sym len in
      sym (ap last.last_of (ids_named ∙ ap (map (λ (u : Lent). u.id)) parts.1 ∙ map-append (λ (u : Lent). u.id) parts.0 (units_of_run run))
      ∙ last_behind (map (λ (u : Lent). u.id) parts.0) (map (λ (u : Lent). u.id) (units_of_run run)) (later_id run.id (run.len - 1))
      (last_of_run run.id run.deleted units (run.len - 1) (omega (arith, long, some))))

  pub none_last : lent_in it.store n ≡ [] → None ≡ last.last_of (ids_in document name)
  none_last none = sym (ap last.last_of (ids_named ∙ ap (map (λ (u : Lent). u.id)) none))

pub no_last : (it : KeptValue) (document : Document) (name : DocList) → Tells it document → ((n : ℕ) → slice_get it.names n ≡ Some name → ⊥) →
    None ≡ last.last_of (ids_in document name)
no_last it document name tells no_one = sym (ap (λ os. last.last_of (map (λ (o : Operation). o.id) os)) (tells.lists.others name (not_named it.names name no_one)))

-- the ids of a run are in range that stands behind others of units in range
pub behind_ranged : (all : List Lent) (run : LentRun) → ((front : List Lent) × (all ≡ front ++ units_of_run run)) → 0 < run.len →
    run.len ≡ len_of (content_value run.content.now) → Each HasRoom all → IsInRange run
behind_ranged all run parts some len rooms =
    let units : List UnitContent = units_of_content (content_value run.content.now) in
    let long : length units ≡ run.len = length-units_of_content (content_value run.content.now) ∙ sym len in
    let own : Each HasRoom (units_of_run run) = each_behind HasRoom parts.0 (units_of_run run) (subst (Each HasRoom) parts.1 rooms) in
    let r = lent_last run.id run.deleted units [] (omega (arith, long, some)) (subst (Each HasRoom) (sym (append-nil (units_of_run run))) own) in
    record { client = r.0; ids = omega (arith, r.1, long) }

-- so it is with the last run of a walk
pub left_ranged : (walk : Walk) (z : Option LentRun) → IfSome z (λ run. (front : List Lent) × (units_left walk ≡ front ++ units_of_run run)) →
    IfSome z (λ run. 0 < run.len) → IfSome z (λ run. run.len ≡ len_of (content_value run.content.now)) → AreInRange (Some walk) → IfSome z IsInRange
left_ranged walk None parts some len h = tt
left_ranged walk (Some run) parts some len h = behind_ranged (units_left walk) run parts some len h

-- the ids of the last run are in range
pub last_ranged : (it : KeptValue) (n : ℕ) (run : LentRun) → IsTold it → IsArena it.store.placed.lines (runs_of it.store.placed) → AreLists it.store.placed.linked →
    AreTold (runs_of it.store.placed) (told_of it.store.contents) → n < count_of it.store.placed →
    ((front : List Lent) × (lent_in it.store n ≡ front ++ units_of_run run)) → 0 < run.len → run.len ≡ len_of (content_value run.content.now) → IsInRange run
last_ranged it n run is arena lists told lt parts some len = behind_ranged (lent_in it.store n) run parts some len (list_ranged it n is arena lists told lt)

-- so it is with the last run of a walk that is taken off, and with the units before it
pub back_ranged : (old new : Walk) (z : Option LentRun) → MatchOption z (units_left old ≡ []) (λ run. units_left old ≡ units_left new ++ units_of_run run) →
    IfSome z (λ run. 0 < run.len) → IfSome z (λ run. run.len ≡ len_of (content_value run.content.now)) → IfNone z (units_left new ≡ []) →
    AreInRange (Some old) → IfSome z IsInRange × AreInRange (Some new)
back_ranged old new None lends some len ended h = (tt, subst (Each HasRoom) (sym ended) tt)
back_ranged old new (Some run) lends some len ended h = (
  behind_ranged (units_left old) run (units_left new, lends) some len h,
  each_before (units_left new) (units_of_run run) (subst (Each HasRoom) lends h),
)
  where
    each_before : (xs ys : List Lent) → Each HasRoom (xs ++ ys) → Each HasRoom xs
    each_before [] ys g = tt
    each_before (x ∷ xs) ys g = (g.0, each_before xs ys g.1)
