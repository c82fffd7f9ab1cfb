-- Units of a list from the run on that has one of them.
use Rattle.std.proofs.Common.{◌≡◌, ◌≢◌, ℕ, zero, suc, ◌<◌, ◌≤◌, ◌-◌, inl, inr, Bool, List, [], ◌∷◌, ◌++◌, Option, Some, None, map, length, refl, sym, ap, ◌∙◌, subst, arith}
use Rattle.std.proofs.lemmas.Grind.{flat_map-append}
use Rattle.std.specs.Prelude.{IfSome, slice_get, flat_map, if◌then◌else◌}
use Rattle.std.proofs.lemmas.List.{length-map}
use Rattle.yd_words.specs.Each.{Each}
use Rattle.yd_words.specs.Member.{IsIn}
use Rattle.yd_words.proofs.MemberLemmas.{in_left_part, in_parts}
use Rattle.yd_ids.specs.declared.id.Id.{Id}
use Rattle.yd_ops.specs.declared.lists.List.{List as DocList}
use Rattle.yd_ops.specs.Operation.{UnitContent, Operation, later_id, units_of_content, operations_from, gone_operation, gone_from}
use Rattle.yd_ops.specs.Value.{RunValue}
use Rattle.yd_ops.proofs.OperationLemmas.{length-units_of_content, later_none, later_later}
use Rattle.yd_chains.specs.Chain.{last_of, behind, before}
use Rattle.yd_chains.proofs.ChainLemmas.{same_place, around, last_in, distinct_out}
use Rattle.yd_words.specs.Member.{AreDistinct}
use Rattle.yd_scan.specs.declared.stretch.Stretch.{Stretch}
use Rattle.yd_scan.specs.Stretches.{stretch_at}
use Rattle.yd_arena.specs.Lists.{AreLists}
use Rattle.yd_arena.specs.Arena.{runs_of, count_of, places_in, next_clock, IsArena, HasUnit}
use Rattle.yd_arena.proofs.ArenaLemmas.{unit_below, units_stand_once}
use Rattle.yd_arena.specs.Marks.{mark_at}
use Rattle.yd_store.specs.Contents.{told_of, run_at}
use Rattle.yd_store.specs.Store.{Stored, IsRunOf, AreTold, StandsIn}
use Rattle.yd_store.specs.Units.{operations_told, operations_at, HasOperation}
use Rattle.yd_store.proofs.HalvesLemmas.{has_unit}
use Rattle.yd_meaning.specs.Document.{Document}
use Rattle.yd_kept.specs.Kept.{KeptValue}
use Rattle.yd_listing.specs.Falling.{IsTold}
use Rattle.yd_listing.specs.Lending.{Lent, lent, lent_at, lent_in, lent_from_place, StandsAt, StandsBefore}
use Rattle.yd_listing.specs.Listing.{Tells, lent_units, HasRoom, IsFrom, BeginsApart, IsAround}
use Rattle.yd_listing.proofs.ListingLemmas.{named_lent, list_ranged}

-- ---- what does not stand in a list

-- a unit of the store is below the next clock of its client
pub not_below : (it : Stored) (list : ℕ) (id : Id) → IsArena it.placed.lines (runs_of it.placed) → next_clock it.placed id.client.0 ≤ id.clock → StandsIn it.placed list id → ⊥
not_below it list id arena past stands =
    let low = unit_below it.placed.lines (runs_of it.placed) arena.holds stands.place stands.before id stands.has in omega (arith, low, past)

pub other_list : (it : Stored) (list : ℕ) (id : Id) (place n : ℕ) (number : Option ℕ) → IsArena it.placed.lines (runs_of it.placed) → list < count_of it.placed →
    HasUnit (runs_of it.placed) place n id → ((k : ℕ) → k < count_of it.placed → IsIn place (places_in it.placed k) → number ≡ Some k) → (number ≡ Some list → ⊥) →
    StandsIn it.placed list id → ⊥
other_list it list id place n number arena lt has member other stands =
    let one = units_stand_once it.placed.lines (runs_of it.placed) id stands.place stands.before place n arena stands.has has in
    other (member list lt (subst (λ p. IsIn p (places_in it.placed list)) one.0 stands.member))

-- ---- units that are lent

in_lent : (mark : Bool) (os : List Operation) (u : Lent) → IsIn u (map (lent mark) os) → (o : Operation) × IsIn o os × (o.id ≡ u.id)
in_lent mark [] u i = absurd i
in_lent mark (o ∷ os) u (inl e) = (o, inl refl, ap (λ (w : Lent). w.id) (sym e))
in_lent mark (o ∷ os) u (inr i) = let more = in_lent mark os u i in (more.0, inr more.1, more.2)

last_of_in : (places : List ℕ) (p : ℕ) → Some p ≡ last_of places → IsIn p places
last_of_in [] p e = (let no : Some p ≡ None = e in absurd cc)
last_of_in (x ∷ xs) p e = last_in x xs p (sym e)

-- what stands before a place of a list's front is in the front
before_within : (q p : ℕ) (xs ys : List ℕ) → IsIn p xs → IsIn q (before p (xs ++ ys)) → IsIn q xs
before_within q p [] ys i j = absurd i
before_within q p (x ∷ xs) ys i j = elim (same_place x p) [
  | inl e ↦ absurd (subst (λ t. IsIn q (if t then [] else x ∷ before p (xs ++ ys))) e.0 j)
  | inr e ↦ elim (subst (λ t. IsIn q (if t then [] else x ∷ before p (xs ++ ys))) e.0 j) [
    | inl f ↦ inl f
    | inr k ↦ inr (before_within q p xs ys (elim i [ inl g ↦ absurd (e.1 (sym g)) | inr h ↦ h ]) k)
  ]
]

gone_some : (id : Id) (n : ℕ) → 0 < n → 0 < length (gone_from id n)
gone_some id zero some = absurd (omega (arith, some))
gone_some id (suc n) some = omega arith

operations_some : (id : Id) (left right : Option Id) (list : Option DocList) (us : List UnitContent) → 0 < length us → 0 < length (operations_from id left right list us)
operations_some id left right list [] some = absurd (omega (arith, some))
operations_some id left right list (u ∷ us) some = omega arith

-- a run has an operation
told_some : (run : Stretch) (told : Option RunValue) → IfSome told (IsRunOf run) → 0 < run.len → 0 < length (operations_told run told)
told_some run None fits some = gone_some run.id run.len some
told_some run (Some it) fits some = operations_some it.id it.left it.right it.list (units_of_content it.content)
    (omega (arith, some, fits.len_is, length-units_of_content it.content))

next_later : (id : Id) (n : ℕ) → later_id (later_id id 1) n ≡ later_id id (suc n)
next_later id n = later_later id 1 n ∙ ap (later_id id) (omega arith)

-- a run has an operation for each of its units
gone_unit_at : (id : Id) (count n : ℕ) → n < count → (o : Operation) × IsIn o (gone_from id count) × (o.id ≡ later_id id n)
gone_unit_at id zero n lt = absurd (omega (arith, lt))
gone_unit_at id (suc count) zero lt = (gone_operation id, inl refl, sym (later_none id))
gone_unit_at id (suc count) (suc n) lt = let (o, i, e) = gone_unit_at (later_id id 1) count n (omega (arith, lt)) in (o, inr i, e ∙ next_later id n)

unit_from : (id : Id) (left right : Option Id) (list : Option DocList) (us : List UnitContent) (n : ℕ) → n < length us →
    (o : Operation) × IsIn o (operations_from id left right list us) × (o.id ≡ later_id id n)
unit_from id left right list [] n lt = absurd (omega (arith, lt))
unit_from id left right list (u ∷ us) zero lt = (record { id = id; left_origin = left; right_origin = right; list = list; content = u }, inl refl, sym (later_none id))
unit_from id left right list (u ∷ us) (suc n) lt = let (o, i, e) = unit_from (later_id id 1) (Some id) right None us n (omega (arith, lt)) in (o, inr i, e ∙ next_later id n)

told_unit : (run : Stretch) (told : Option RunValue) → IfSome told (IsRunOf run) → (n : ℕ) → n < run.len →
    (o : Operation) × IsIn o (operations_told run told) × (o.id ≡ later_id run.id n)
told_unit run None fits n lt = gone_unit_at run.id run.len n lt
told_unit run (Some it) fits n lt =
    let (o, i, e) = unit_from it.id it.left it.right it.list (units_of_content it.content) n (omega (arith, lt, fits.len_is, length-units_of_content it.content)) in
    (o, i, e ∙ ap (λ x. later_id x n) fits.id_is)

is_lent : (mark : Bool) (os : List Operation) (o : Operation) → IsIn o os → IsIn (lent mark o) (map (lent mark) os)
is_lent mark [] o i = absurd i
is_lent mark (p ∷ os) o (inl e) = inl (ap (lent mark) e)
is_lent mark (p ∷ os) o (inr i) = inr (is_lent mark os o i)

begins : (id : Id) (us rest : List Lent) → 0 < length us → ((u : Lent) → IsIn u us → u.id ≢ id) → BeginsApart id (us ++ rest)
begins id [] rest some apart = absurd (omega (arith, some))
begins id (u ∷ us) rest some apart = apart u (inl refl)

module _ (it : Stored) (arena : IsArena it.placed.lines (runs_of it.placed)) (lists : AreLists it.placed.linked) (told : AreTold (runs_of it.placed) (told_of it.contents))
    (list : ℕ) (lt : list < count_of it.placed) where
  -- each is one of a run at one of the places
  lent_stands : (places : List ℕ) → ((p : ℕ) → IsIn p places → IsIn p (places_in it.placed list)) → (u : Lent) → IsIn u (flat_map (lent_at it) places) →
      (p : ℕ) × IsIn p places × (n : ℕ) × HasUnit (runs_of it.placed) p n u.id
  lent_stands [] on u i = absurd i
  lent_stands (p ∷ ps) on u i = elim (in_parts u (lent_at it p) (flat_map (lent_at it) ps) i) [
    | inl here ↦
        let found = in_lent (mark_at it.marks.rows p).deleted (operations_at (runs_of it.placed) (told_of it.contents) p) u here in
        let h : HasOperation it found.0 = record { place = p; within = lists.within list p lt (on p (inl refl)); member = found.1 } in (
          p,
          inl refl,
          found.0.id.clock - (stretch_at (runs_of it.placed) p).id.clock,
          subst (HasUnit (runs_of it.placed) p (found.0.id.clock - (stretch_at (runs_of it.placed) p).id.clock)) found.2 (has_unit it found.0 told h),
        )
    | inr there ↦ let more = lent_stands ps (λ q j. on q (inr j)) u there in (more.0, inr more.1, more.2, more.3)
  ]

  -- a list in which no unit has the id lends none with it
  none_with : (id : Id) → (StandsIn it.placed list id → ⊥) → (u : Lent) → IsIn u (lent_in it list) → u.id ≢ id
  none_with id no_one u i e =
      let at = lent_stands (places_in it.placed list) (λ p j. j) u i in
      no_one (record { place = at.0; before = at.2; has = subst (HasUnit (runs_of it.placed) at.0 at.2) e at.3; member = at.1 })

  module _ (id : Id) (place : ℕ) (stands : StandsAt it list id place) where
    abbrev front : List ℕ
    front = before place (places_in it.placed list)

    abbrev rest : List ℕ
    rest = behind (Some place) (places_in it.placed list)

    all_are : front ++ place ∷ rest ≡ places_in it.placed list
    all_are = around place (places_in it.placed list) stands.member

    parts_lent : lent_in it list ≡ flat_map (lent_at it) front ++ lent_from_place it list place
    parts_lent = ap (flat_map (lent_at it)) (sym all_are) ∙ flat_map-append (lent_at it) front (place ∷ rest)

    -- before its run no unit has the id
    before_with : (u : Lent) → IsIn u (flat_map (lent_at it) front) → u.id ≢ id
    before_with u i e =
        let at = lent_stands front (λ p j. subst (IsIn p) all_are (in_left_part p front (place ∷ rest) j)) u i in
        let one = units_stand_once it.placed.lines (runs_of it.placed) id at.0 at.2 place stands.before arena (subst (HasUnit (runs_of it.placed) at.0 at.2) e at.3) stands.has in
        distinct_out place front rest (subst AreDistinct (sym all_are) (lists.distinct list lt))
        (in_left_part place front rest (subst (λ p. IsIn p front) one.0 at.1))

    -- and its run has it
    run_with : (u : Lent) × IsIn u (lent_from_place it list place) × (u.id ≡ id)
    run_with =
        let (o, i, e) = told_unit (stretch_at (runs_of it.placed) place) (run_at (told_of it.contents) place) (told.fits place stands.has.within) stands.before stands.has.inside in
        let mark = (mark_at it.marks.rows place).deleted in (
          lent mark o,
          in_left_part (lent mark o) (lent_at it place) (flat_map (lent_at it) rest) (is_lent mark (operations_at (runs_of it.placed) (told_of it.contents) place) o i),
          e ∙ (λ k. record { client = stands.has.client k; clock = stands.has.clock k }),
        )

  -- ---- from the place before on

  -- a place of a list lends a unit
  lent_some : (p : ℕ) → IsIn p (places_in it.placed list) → 0 < length (lent_at it p)
  lent_some p i = omega (
    arith,
    told_some (stretch_at (runs_of it.placed) p) (run_at (told_of it.contents) p) (told.fits p (lists.within list p lt i)) (lists.filled list p lt i),
    length-map (operations_at (runs_of it.placed) (told_of it.contents) p) (lent (mark_at it.marks.rows p).deleted),
  )

  module _ (id : Id) (place : ℕ) (b : StandsBefore it list id place) where
    abbrev earlier : List ℕ
    earlier = before b.next (places_in it.placed list)

    abbrev later : List ℕ
    later = behind (Some b.next) (places_in it.placed list)

    both_are : earlier ++ b.next ∷ later ≡ places_in it.placed list
    both_are = around b.next (places_in it.placed list) b.stands.member

    is_earlier : IsIn place earlier
    is_earlier = last_of_in earlier place b.is_prev

    pub before_member : IsIn place (places_in it.placed list)
    before_member = subst (IsIn place) both_are (in_left_part place earlier (b.next ∷ later) is_earlier)

    -- no earlier place has the id
    not_earlier : (q n : ℕ) → HasUnit (runs_of it.placed) q n id → IsIn q earlier → ⊥
    not_earlier q n has i =
        let one = units_stand_once it.placed.lines (runs_of it.placed) id q n b.next b.stands.before arena has b.stands.has in
        distinct_out b.next earlier later (subst AreDistinct (sym both_are) (lists.distinct list lt))
        (in_left_part b.next earlier later (subst (λ p. IsIn p earlier) one.0 i))

    earlier_apart : (places : List ℕ) → ((p : ℕ) → IsIn p places → IsIn p earlier) → (u : Lent) → IsIn u (flat_map (lent_at it) places) → u.id ≢ id
    earlier_apart places on u i e =
        let at = lent_stands places (λ p j. subst (IsIn p) both_are (in_left_part p earlier (b.next ∷ later) (on p j))) u i in
        not_earlier at.0 at.2 (subst (HasUnit (runs_of it.placed) at.0 at.2) e at.3) (on at.0 at.1)

    -- so none does before it
    front_apart : (u : Lent) → IsIn u (flat_map (lent_at it) (before place (places_in it.placed list))) → u.id ≢ id
    front_apart = earlier_apart (before place (places_in it.placed list))
        (λ p j. before_within p place earlier (b.next ∷ later) is_earlier (subst (λ ks. IsIn p (before place ks)) (sym both_are) j))

    -- and not its first unit
    begins_apart : BeginsApart id (lent_from_place it list place)
    begins_apart = begins id (lent_at it place) (flat_map (lent_at it) (behind (Some place) (places_in it.placed list))) (lent_some place before_member)
        (λ u i. earlier_apart (place ∷ []) (λ p j. elim j [ inl e ↦ subst (λ q. IsIn q earlier) (sym e) is_earlier | inr k ↦ absurd k ]) u
        (in_left_part u (lent_at it place) [] i))

    around_lent : lent_in it list ≡ flat_map (lent_at it) (before place (places_in it.placed list)) ++ lent_from_place it list place
    around_lent = ap (flat_map (lent_at it)) (sym (around place (places_in it.placed list) before_member))
        ∙ flat_map-append (lent_at it) (before place (places_in it.placed list)) (place ∷ behind (Some place) (places_in it.placed list))

-- ---- lemmas for callers

-- the place before that of the run with a unit
pub before_stands : (it : Stored) (list : ℕ) (id : Id) (next : ℕ) (z : Option ℕ) → StandsAt it list id next → z ≡ last_of (before next (places_in it.placed list)) →
    IfSome z (StandsBefore it list id)
before_stands it list id next None stands e = tt
before_stands it list id next (Some place) stands e = record { next = next; stands = stands; is_prev = e }

-- all units are around one of them
pub all_around : (id : Id) (all units : List Lent) → units ≡ all → IsAround id all units
all_around id all units e = record { front = []; parts = sym e; apart = λ u i. absurd i; before = inl refl }

append_none : (us : List Lent) → us ++ [] ≡ us
append_none [] = refl
append_none (u ∷ us) = ap (λ vs. u ∷ vs) (append_none us)

pub none_from : (id : Id) (all : List Lent) → all ≡ [] → IsFrom id all []
none_from id all e = record { front = []; parts = e; apart = λ u i. absurd i; found = inl refl }

module _ (it : KeptValue) (document : Document) (n : ℕ) (name : DocList) (id : Id) (arena : IsArena it.store.placed.lines (runs_of it.store.placed))
    (lists : AreLists it.store.placed.linked) (told : AreTold (runs_of it.store.placed) (told_of it.store.contents)) (lt : n < count_of it.store.placed)
    (tells : Tells it document) (e : slice_get it.names n ≡ Some name) where
  lent_is : lent_in it.store n ≡ lent_units document name
  lent_is = named_lent it document n name arena lists told lt tells e

  -- no unit of the list has the id
  pub apart_from : (StandsIn it.store.placed n id → ⊥) → IsFrom id (lent_units document name) []
  apart_from no_one = record {
    front = lent_units document name;
    parts = sym (append_none (lent_units document name));
    apart = λ u i. none_with it.store arena lists told n lt id no_one u (subst (IsIn u) (sym lent_is) i);
    found = inl refl;
  }

  -- the run at a place has it
  pub stands_from : (place : ℕ) → StandsAt it.store n id place → (units : List Lent) → units ≡ lent_from_place it.store n place → IsFrom id (lent_units document name) units
  stands_from place stands units same = record {
    front = flat_map (lent_at it.store) (before place (places_in it.store.placed n));
    parts = sym lent_is ∙ parts_lent it.store arena lists told n lt id place stands
        ∙ ap (λ us. flat_map (lent_at it.store) (before place (places_in it.store.placed n)) ++ us) (sym same);
    apart = before_with it.store arena lists told n lt id place stands;
    found = inr (subst (λ us. (u : Lent) × IsIn u us × (u.id ≡ id)) (sym same) (run_with it.store arena lists told n lt id place stands));
  }

  -- the place before that of the run that has it
  pub stands_around : (place : ℕ) → StandsBefore it.store n id place → (units : List Lent) → units ≡ lent_from_place it.store n place → IsAround id (lent_units document name) units
  stands_around place b units same = record {
    front = flat_map (lent_at it.store) (before place (places_in it.store.placed n));
    parts = sym lent_is ∙ around_lent it.store arena lists told n lt id place b
        ∙ ap (λ us. flat_map (lent_at it.store) (before place (places_in it.store.placed n)) ++ us) (sym same);
    apart = front_apart it.store arena lists told n lt id place b;
    before = inr (subst (BeginsApart id) (sym same) (begins_apart it.store arena lists told n lt id place b));
  }

-- from a place on, ids are in range
pub from_ranged : (it : KeptValue) (n place : ℕ) → IsTold it → IsArena it.store.placed.lines (runs_of it.store.placed) → AreLists it.store.placed.linked →
    AreTold (runs_of it.store.placed) (told_of it.store.contents) → n < count_of it.store.placed → IsIn place (places_in it.store.placed n) →
    Each HasRoom (lent_from_place it.store n place)
from_ranged it n place is arena lists told lt i =
    let places : List ℕ = places_in it.store.placed n in
    let parts = ap (flat_map (lent_at it.store)) (sym (around place places i)) ∙ flat_map-append (lent_at it.store) (before place places) (place ∷ behind (Some place) places) in
    behind_each (flat_map (lent_at it.store) (before place places)) (lent_from_place it.store n place) (subst (Each HasRoom) parts (list_ranged it n is arena lists told lt))
  where
    behind_each : (xs ys : List Lent) → Each HasRoom (xs ++ ys) → Each HasRoom ys
    behind_each [] ys h = h
    behind_each (x ∷ xs) ys h = behind_each xs ys h.1
