-- A walk through a list: which place is next, and what is lent.
use Rattle.std.proofs.Common.{◌≡◌, ◌≢◌, ℕ, suc, ◌-◌, ◌<◌, inl, inr, Bool, List, [], ◌∷◌, ◌++◌, Option, Some, None, map, length, refl, sym, ap, ◌∙◌, subst, arith, append-nil}
use Rattle.std.proofs.lemmas.Grind.{flat_map-append}
use Rattle.std.specs.Prelude.{IfSome, flat_map}
use Rattle.yd_words.specs.Member.{IsIn, AreDistinct}
use Rattle.yd_words.proofs.MemberLemmas.{in_left_part, in_right_part}
use Rattle.yd_words.proofs.OptionLemmas.{some_is}
use Rattle.yd_ids.specs.declared.id.Id.{Id}
use Rattle.yd_ops.specs.declared.lists.List.{List as DocList}
use Rattle.yd_ops.specs.Operation.{UnitContent, later_id, units_of_content, operations_from, gone_operation, gone_from}
use Rattle.yd_ops.specs.Value.{RunValue, len_of}
use Rattle.yd_chains.specs.Chain.{last_from, last_of}
use Rattle.yd_chains.proofs.ChainLemmas.{some_last}
use Rattle.yd_scan.specs.declared.stretch.Stretch.{Stretch}
use Rattle.yd_scan.specs.Stretches.{stretch_at}
use Rattle.yd_arena.specs.Lists.{AreLists}
use Rattle.yd_arena.specs.Arena.{runs_of, count_of, places_in}
use Rattle.yd_arena.specs.Marks.{mark_at}
use Rattle.yd_store.specs.Contents.{told_of, run_at}
use Rattle.yd_store.specs.Store.{Stored, IsRunOf, AreTold}
use Rattle.yd_store.specs.Units.{operations_told, operations_at}
use Rattle.yd_listing.specs.declared.row.Ends.{Ends}
use Rattle.yd_listing.specs.Lending.{Lent, lent, lent_from, lent_at, lent_in, HasNoGone, Walk, units_left, IsRow}
use Rattle.yd_listing.proofs.RowLemmas.{between_is}

-- ---- units

lent-operations_from : (units : List UnitContent) (id : Id) (left right : Option Id) (list : Option DocList) (deleted : Bool) →
    map (lent deleted) (operations_from id left right list units) ≡ lent_from id deleted units
lent-operations_from [] id left right list deleted = refl
lent-operations_from (unit ∷ units) id left right list deleted =
    ap (λ (us : List Lent). record { id = id; content = unit; is_deleted = deleted } ∷ us) (lent-operations_from units (later_id id 1) (Some id) right None deleted)

-- what is told at a place is lent with its mark
pub told_lent : (it : Stored) (place : ℕ) (run : RunValue) (deleted : Bool) → Some run ≡ run_at (told_of it.contents) place → deleted ≡ (mark_at it.marks.rows place).deleted →
    lent_from run.id deleted (units_of_content run.content) ≡ lent_at it place
told_lent it place run deleted e f = sym (lent-operations_from (units_of_content run.content) run.id run.left run.right run.list deleted)
    ∙ ap (λ z. map (lent deleted) (operations_told (stretch_at (runs_of it.placed) place) z)) e
    ∙ ap (λ b. map (lent b) (operations_at (runs_of it.placed) (told_of it.contents) place)) f

in_flat : {X Y : Type 0} (f : X → List Y) (xs : List X) (x : X) (y : Y) → IsIn x xs → IsIn y (f x) → IsIn y (flat_map f xs)
in_flat f [] x y i j = absurd i
in_flat f (z ∷ xs) x y (inl e) j = in_left_part y (f z) (flat_map f xs) (subst (λ w. IsIn y (f w)) e j)
in_flat f (z ∷ xs) x y (inr i) j = in_right_part y (f z) (flat_map f xs) (in_flat f xs x y i j)

-- a run of a list of which no unit is gone is told
pub place_told : (it : Stored) (list place : ℕ) → AreLists it.placed.linked → list < count_of it.placed → IsIn place (places_in it.placed list) → HasNoGone it list →
    run_at (told_of it.contents) place ≢ None
place_told it list place lists lt i none e = first (stretch_at (runs_of it.placed) place) refl (lists.filled list place lt i)
  where
    here : (s : Stretch) (n : ℕ) → stretch_at (runs_of it.placed) place ≡ s → s.len ≡ suc n → IsIn (gone_operation s.id) (operations_at (runs_of it.placed) (told_of it.contents) place)
    here s n same len = subst (λ z. IsIn (gone_operation s.id) (operations_told (stretch_at (runs_of it.placed) place) z)) (sym e)
        (subst (λ (t : Stretch). IsIn (gone_operation s.id) (gone_from t.id t.len)) (sym same)
        (subst (λ m. IsIn (gone_operation s.id) (gone_from s.id m)) (sym len) (inl refl)))

    first : (s : Stretch) → stretch_at (runs_of it.placed) place ≡ s → 0 < s.len → ⊥
    first s same filled = none (gone_operation s.id) (in_flat (operations_at (runs_of it.placed) (told_of it.contents)) (places_in it.placed list) place (gone_operation s.id) i
        (here s (s.len - 1) same (omega (arith, filled)))) refl

-- it has the units of its run
pub told_len : (it : Stored) (place : ℕ) (run : RunValue) (len : ℕ) → AreTold (runs_of it.placed) (told_of it.contents) → place < length (runs_of it.placed) →
    Some run ≡ run_at (told_of it.contents) place → len ≡ len_of run.content → len ≡ (stretch_at (runs_of it.placed) place).len
told_len it place run len told within e f =
    let of : IsRunOf (stretch_at (runs_of it.placed) place) run =
    subst (λ z. IfSome z (λ r. IsRunOf (stretch_at (runs_of it.placed) place) r)) (sym e) (told.fits place within) in
    f ∙ of.len_is

-- ---- a walk

abbrev walk_at : Stored → ℕ → Option Ends → Walk
walk_at it list ends = record { store = it; list = list; ends = ends }

module _ (it : Stored) (list : ℕ) (once : AreDistinct (places_in it.placed list)) where
  -- what is left is the row
  pub row_left : (row : List ℕ) (ends : Option Ends) → IsRow it list row ends → units_left (walk_at it list ends) ≡ flat_map (lent_at it) row
  row_left row ends is = ap (flat_map (lent_at it)) (between_is it list once row ends is)

  -- the first of the units that are to come are those of the first place, and then come the others
  pub goes_on : (row : List ℕ) (place : ℕ) (ends after : Option Ends) (units : List Lent) → IsRow it list (place ∷ row) ends → IsRow it list row after → units ≡ lent_at it place →
      units_left (walk_at it list ends) ≡ units ++ units_left (walk_at it list after)
  goes_on row place ends after units old new u = row_left (place ∷ row) ends old
      ∙ ap (λ us. us ++ flat_map (lent_at it) row) (sym u) ∙ ap (λ us. units ++ us) (sym (row_left row after new))

  -- the last of them are those of the last place, and before them stand the others
  pub goes_back : (row : List ℕ) (place : ℕ) (ends after : Option Ends) (units : List Lent) → IsRow it list (row ++ place ∷ []) ends → IsRow it list row after → units ≡ lent_at it place →
      units_left (walk_at it list ends) ≡ units_left (walk_at it list after) ++ units
  goes_back row place ends after units old new u = last_left row place ends units old u ∙ ap (λ us. us ++ units) (sym (row_left row after new))
    where
      last_left : (row : List ℕ) (place : ℕ) (ends : Option Ends) (units : List Lent) → IsRow it list (row ++ place ∷ []) ends → units ≡ lent_at it place →
          units_left (walk_at it list ends) ≡ flat_map (lent_at it) row ++ units
      last_left row place ends units old u = row_left (row ++ place ∷ []) ends old ∙ flat_map-append (lent_at it) row (place ∷ [])
          ∙ ap (λ us. flat_map (lent_at it) row ++ us) (append-nil (lent_at it place) ∙ sym u)

  pub ends_in : (row : List ℕ) (place : ℕ) (ends : Option Ends) (units : List Lent) → IsRow it list (row ++ place ∷ []) ends → units ≡ lent_at it place →
      (front : List Lent) × (units_left (walk_at it list ends) ≡ front ++ units)
  ends_in row place ends units is u = (
    flat_map (lent_at it) row,
    row_left (row ++ place ∷ []) ends is ∙ flat_map-append (lent_at it) row (place ∷ []) ∙ ap (λ us. flat_map (lent_at it) row ++ us) (append-nil (lent_at it place) ∙ sym u),
  )

-- ---- the last place

last_parts : (x : ℕ) (xs : List ℕ) (p : ℕ) → last_from (Some x) xs ≡ Some p → (front : List ℕ) × (x ∷ xs ≡ front ++ p ∷ [])
last_parts x [] p e = ([], ap (λ k. k ∷ []) (some_is x p e))
last_parts x (y ∷ xs) p e = let more = last_parts y xs p e in (x ∷ more.0, ap (λ ks. x ∷ ks) more.1)

place_last : (places : List ℕ) (p : ℕ) → last_of places ≡ Some p → (front : List ℕ) × (places ≡ front ++ p ∷ [])
place_last [] p e = (let no : None ≡ Some p = e in absurd cc)
place_last (x ∷ xs) p e = last_parts x xs p e

-- the units of the run at the last place are the last of the list
pub last_lent : (it : Stored) (list place : ℕ) (units : List Lent) → last_of (places_in it.placed list) ≡ Some place → units ≡ lent_at it place →
    (front : List Lent) × (lent_in it list ≡ front ++ units)
last_lent it list place units e u = let parts = place_last (places_in it.placed list) place e in (
  flat_map (lent_at it) parts.0,
  ap (flat_map (lent_at it)) parts.1 ∙ flat_map-append (lent_at it) parts.0 (place ∷ [])
      ∙ ap (λ us. flat_map (lent_at it) parts.0 ++ us) (append-nil (lent_at it place) ∙ sym u),
)

-- a list with no last place lends nothing
pub none_lent : (it : Stored) (list : ℕ) → last_of (places_in it.placed list) ≡ None → lent_in it list ≡ []
none_lent it list e = ap (flat_map (lent_at it)) (none (places_in it.placed list) e)
  where
    none : (places : List ℕ) → last_of places ≡ None → places ≡ []
    none [] f = refl
    none (x ∷ xs) f = let some = some_last x xs in (let no : Some some.0 ≡ None = sym some.1 ∙ f in absurd cc)
