-- An entry that is lowered: to units of a deleted run, or to units that are gone.
use Rattle.std.proofs.Common.{◌≡◌, ℕ, zero, suc, ◌<◌, ◌≤◌, Bool, true, false, List, [], ◌∷◌, ◌++◌, length, take, drop, map, Option, Some, None, inl, inr, refl, sym, ap, ap₂, ◌∙◌, subst, arith, tests}
use Rattle.std.specs.Prelude.{slice_get, nat_lt}
use Rattle.std.proofs.lemmas.Option.{same_Some}
use Rattle.yd_words.specs.Member.{IsIn}
use Rattle.yd_ids.specs.declared.id.Id.{Id}
use Rattle.yd_ops.specs.declared.lists.List.{List as DocList}
use Rattle.yd_ops.specs.declared.runs.Run.{Run}
use Rattle.yd_ops.specs.Operation.{UnitContent, deleted_units, Operation, later_id, level_of, as_level, gone_from, operations_from}
use Rattle.yd_ops.specs.Value.{deleted, RunValue}
use Rattle.yd_ops.specs.View.{run_value}
use Rattle.yd_entries.specs.declared.entry.Entry.{Entry}
use Rattle.yd_entries.specs.Entries.{units_of, list_at, operations_of_taken, IsTakenOf}
use Rattle.yd_entries.specs.Lowering.{level_of_content, level_of_run, level_told, level_of_entry, as_gone, with_run, own_run, down_to}
use Rattle.yd_entries.specs.Staying.{IsLess}
use Rattle.yd_entries.proofs.BorderLemmas.{map_alike}
use Rattle.yd_entries.proofs.OwnLemmas.{told_of, told_operations, own_operations, own_taken, last_run}
use Rattle.yd_entries.proofs.ScanLemmas.{taken_level}
use Rattle.yd_entries.proofs.TakenLemmas.{units_taken}

-- ---- one operation

pub down_less : (level : ℕ) (o : Operation) → level < level_of o.content → down_to level o ≡ as_level level o
down_less level o less = rw (less_is level (level_of o.content) less) refl
  where
    less_is : (m n : ℕ) → m < n → nat_lt m n ≡ true
    less_is m n lt = grind (arith, tests)

pub down_low : (level : ℕ) (o : Operation) → level_of o.content ≤ level → down_to level o ≡ o
down_low level o le = rw (not_less level (level_of o.content) le) refl
  where
    not_less : (m n : ℕ) → n ≤ m → nat_lt m n ≡ false
    not_less m n le = grind (arith, tests)

-- ---- units in a row

-- each of the units says more than a level
abbrev SayMore : ℕ → List UnitContent → Type 0
SayMore level units = (k : ℕ) (unit : UnitContent) → slice_get units k ≡ Some unit → level < level_of unit

down_gone : (id : Id) (left right : Option Id) (list : Option DocList) (units : List UnitContent) → SayMore 0 units →
    map (down_to 0) (operations_from id left right list units) ≡ gone_from id (length units)
down_gone id left right list [] more = refl
down_gone id left right list (unit ∷ units) more = ap₂ (λ p ps. p ∷ ps) (down_less 0 _ (more 0 unit refl)) (down_gone (later_id id 1) (Some id) right None units (λ k u e. more (suc k) u e))

down_deleted : (id : Id) (left right : Option Id) (list : Option DocList) (units : List UnitContent) → SayMore 1 units →
    map (down_to 1) (operations_from id left right list units) ≡ operations_from id left right list (deleted_units (length units))
down_deleted id left right list [] more = refl
down_deleted id left right list (unit ∷ units) more = ap₂ (λ p ps. p ∷ ps) (down_less 1 _ (more 0 unit refl)) (down_deleted (later_id id 1) (Some id) right None units (λ k u e. more (suc k) u e))

unit_in : (id : Id) (left right : Option Id) (list : Option DocList) (units : List UnitContent) (k : ℕ) (unit : UnitContent) → slice_get units k ≡ Some unit →
    (o : Operation) × IsIn o (operations_from id left right list units) × (o.content ≡ unit)
unit_in id left right list [] k unit e = absurd cc
unit_in id left right list (u ∷ us) zero unit e = (record { id = id; left_origin = left; right_origin = right; list = list; content = u }, inl refl, same_Some u unit e)
unit_in id left right list (u ∷ us) (suc k) unit e = let (o, i, f) = unit_in (later_id id 1) (Some id) right None us k unit e in (o, inr i, f)

deleted_less : (id : Id) (left right : Option Id) (list : Option DocList) (count : ℕ) (o : Operation) →
    IsIn o (operations_from id left right list (deleted_units count)) →
    IsLess o
deleted_less id left right list zero o i = absurd i
deleted_less id left right list (suc count) o (inl e) = inl (ap (λ (p : Operation). level_of p.content) e)
deleted_less id left right list (suc count) o (inr i) = deleted_less (later_id id 1) (Some id) right None count o i

-- ---- an entry

module _ (runs : List Run) (t : Entry) (is : IsTakenOf runs t) where
  -- one that says no more than the level stays
  pub down_none : (level : ℕ) → level_of_entry runs t ≤ level → operations_of_taken runs t ≡ map (down_to level) (operations_of_taken runs t)
  down_none level le = sym (map_alike (down_to level) (operations_of_taken runs t) (λ o i. down_low level o (omega (arith, le, taken_level runs t o is i))))

  pub more_told : (level : ℕ) → level < level_of_entry runs t → t.is_gone ≡ false
  more_told level less = go t.is_gone refl less
    where
      go : (gone : Bool) → t.is_gone ≡ gone → level < level_told gone runs t → t.is_gone ≡ false
      go true e less = absurd (omega (arith, less))
      go false e less = e

  abbrev told_units : List UnitContent
  told_units = take t.len (drop t.offset (units_of (slice_get runs t.run)))

  say_more : (level : ℕ) → level < level_of_entry runs t → t.is_gone ≡ false → SayMore level told_units
  say_more level less told k unit e =
      let (o, i, same) = unit_in t.id t.left t.right (list_at (slice_get runs t.run) t.offset) told_units k unit e in
      omega (arith, less, taken_level runs t o is (subst (IsIn o) (sym (told_operations runs t told)) i), ap level_of same)

  pub gone_operations : 0 < level_of_entry runs t → operations_of_taken runs (as_gone t) ≡ map (down_to 0) (operations_of_taken runs t)
  gone_operations less = let told = more_told 0 less in
      ap (λ n. gone_from t.id n) (sym (units_taken runs t (told_of runs t is told)))
      ∙ sym (down_gone t.id t.left t.right (list_at (slice_get runs t.run) t.offset) told_units (say_more 0 less told))
      ∙ ap (λ os. map (down_to 0) os) (sym (told_operations runs t told))

  pub gone_taken : IsTakenOf runs (as_gone t)
  gone_taken = record {
    run_there = is.run_there;
    client = is.client;
    has_units = is.has_units;
    id = is.id;
    end = is.end;
    left = tt;
    right = tt;
    told = record { left = refl; right = refl };
  }

  length-deleted : (count : ℕ) → length (deleted_units count) ≡ count
  length-deleted zero = refl
  length-deleted (suc count) = ap suc (length-deleted count)

  module _ (new : List Run) (run : Run) (grown : new ≡ runs ++ run ∷ []) (own : run_value run ≡ own_run runs t (deleted t.len)) (less : 1 < level_of_entry runs t) where
    pub deleted_operations : operations_of_taken new (with_run t (length runs) 0) ≡ map (down_to 1) (operations_of_taken runs t)
    deleted_operations = let told = more_told 1 less in
        own_operations runs t is told new run (deleted t.len) grown own (length-deleted t.len)
        ∙ ap (λ n. operations_from t.id t.left t.right (list_at (slice_get runs t.run) t.offset) (deleted_units n)) (sym (units_taken runs t (told_of runs t is told)))
        ∙ sym (down_deleted t.id t.left t.right (list_at (slice_get runs t.run) t.offset) told_units (say_more 1 less told))
        ∙ ap (λ os. map (down_to 1) os) (sym (told_operations runs t told))

    pub deleted_all : (o : Operation) → IsIn o (operations_of_taken new (with_run t (length runs) 0)) → IsLess o
    deleted_all o i = deleted_less t.id t.left t.right (list_at (slice_get runs t.run) t.offset) t.len o
        (subst (IsIn o) (own_operations runs t is (more_told 1 less) new run (deleted t.len) grown own (length-deleted t.len)) i)

    pub deleted_taken : IsTakenOf new (with_run t (length runs) 0)
    deleted_taken = own_taken runs t is (more_told 1 less) new run (deleted t.len) grown own (length-deleted t.len) tt (λ cut. cut) (λ cut. cut)

    pub deleted_low : level_of_entry new (with_run t (length runs) 0) ≤ 1
    deleted_low = omega (
      arith,
      ap (λ b. level_told b new (with_run t (length runs) 0)) (more_told 1 less),
      ap level_of_run (last_run runs new run grown),
      ap (λ (r : RunValue). level_of_content r.content) own,
    )
