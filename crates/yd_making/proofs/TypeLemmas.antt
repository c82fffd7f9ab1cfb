-- Which units hold a type: all units of an entry or none, and where they do there is one.
use Rattle.std.proofs.Common.{◌≡◌, ◌≢◌, ◌<◌, ◌≤◌, ◌+◌, ℕ, zero, suc, Bool, true, false, ◌&&◌, ◌||◌, not, List, [], ◌∷◌, Option, Some, None, inl, inr, length, map, take, drop, refl, sym, ap, ap₂, ◌∙◌, subst, arith, tests, true≢false}
use Rattle.std.specs.Prelude.{slice_get, if◌then◌else◌}
use Rattle.std.proofs.lemmas.Bool.{cases_Bool}
use Rattle.yd_words.specs.Each.{Each}
use Rattle.yd_words.specs.Member.{IsIn}
use Rattle.yd_words.proofs.MemberLemmas.{each_in}
use Rattle.yd_any.specs.Tree.{AnyTrees, no_trees, tree}
use Rattle.yd_ids.specs.declared.id.Id.{Id}
use Rattle.yd_ids.specs.Ids.{is_same, is_written_before}
use Rattle.yd_ids.proofs.IdLemmas.{same_itself, same_numbers, other_id, written_differs, same_is}
use Rattle.yd_ops.specs.declared.runs.Run.{Run}
use Rattle.yd_ops.specs.Value.{ContentValue, json, binary, string, embed, format, nested, any, deleted}
use Rattle.yd_ops.specs.Operation.{UnitContent, Operation, units_of_trees, deleted_units, units_of_content, later_id, gone_from}
use Rattle.yd_ops.specs.View.{content_value}
use Rattle.yd_ops.specs.Received.{has_operation, IsWritten}
use Rattle.yd_editing.specs.Basis.{is_type, has_type_item}
use Rattle.yd_entries.specs.declared.entry.Entry.{Entry}
use Rattle.yd_entries.specs.Entries.{units_of, list_at, operations_told, operations_of_taken, IsTold, TellsRight, IsTakenOf, is_listed, covers}
use Rattle.yd_received.specs.Received.{ReceivedValue, IsReceived, listed_of}
use Rattle.yd_entries.proofs.EntryLemmas.{covers_in}
use Rattle.yd_entries.proofs.EntriesLemmas.{one_entry}
use Rattle.yd_entries.proofs.UnitLemmas.{from_unit, from_gone}
use Rattle.yd_held.proofs.HeldUnitLemmas.{covers_less, covers_unit, unit_covers}
use Rattle.yd_held.proofs.HeldEntryLemmas.{is_taken, chosen_written, chosen_entry, entry_chosen}
use Rattle.yd_making.specs.Types.{is_type_content, is_type_run, holds_type}

-- ---- units of contents

each_map : {X : Type 0} (f : X → UnitContent) → ((x : X) → is_type (f x) ≡ false) → (xs : List X) → Each (λ unit. is_type unit ≡ false) (map f xs)
each_map f are [] = tt
each_map f are (x ∷ xs) = (are x, each_map f are xs)

trees_none : (ts : AnyTrees) → Each (λ unit. is_type unit ≡ false) (units_of_trees ts)
trees_none no_trees = tt
trees_none (tree t ts) = (refl, trees_none ts)

deleted_none : (count : ℕ) → Each (λ unit. is_type unit ≡ false) (deleted_units count)
deleted_none zero = tt
deleted_none (suc count) = (refl, deleted_none count)

units_alike : (content : ContentValue) → Each (λ unit. is_type unit ≡ is_type_content content) (units_of_content content)
units_alike (json units) = each_map _ (λ x. refl) units
units_alike (binary blob) = (refl, tt)
units_alike (string units) = each_map _ (λ x. refl) units
units_alike (embed value) = (refl, tt)
units_alike (format key value) = (refl, tt)
units_alike (nested kind) = (refl, tt)
units_alike (any values) = trees_none values
units_alike (deleted count) = deleted_none count

type_is_one : (content : ContentValue) → is_type_content content ≡ true → length (units_of_content content) ≡ 1
type_is_one (json units) e = absurd (true≢false (sym e))
type_is_one (binary blob) e = absurd (true≢false (sym e))
type_is_one (string units) e = absurd (true≢false (sym e))
type_is_one (embed value) e = absurd (true≢false (sym e))
type_is_one (format key value) e = absurd (true≢false (sym e))
type_is_one (nested kind) e = refl
type_is_one (any values) e = absurd (true≢false (sym e))
type_is_one (deleted count) e = absurd (true≢false (sym e))

-- a unit of a run is one as its content says
unit_type : (run : Option Run) (from len m : ℕ) (unit : UnitContent) → slice_get (take len (drop from (units_of run))) m ≡ Some unit → is_type unit ≡ is_type_run run
unit_type None from len m unit e = absurd (nothing from len m e)
  where
    nothing : (f l k : ℕ) → slice_get (take l (drop f (units_of None))) k ≡ Some unit → ⊥
    nothing zero zero k g = cc
    nothing zero (suc l) k g = cc
    nothing (suc f) zero k g = cc
    nothing (suc f) (suc l) k g = cc
unit_type (Some run) from len m unit e = in_units (units_of_content (content_value run.content)) from len m e (units_alike (content_value run.content))
  where
    is : Type 0
    is = is_type unit ≡ is_type_content (content_value run.content)

    taken : (us : List UnitContent) (l k : ℕ) → slice_get (take l us) k ≡ Some unit → Each (λ u. is_type u ≡ is_type_content (content_value run.content)) us →
        is_type unit ≡ is_type_content (content_value run.content)
    taken us zero k g each = absurd cc
    taken [] (suc l) k g each = absurd cc
    taken (u ∷ us) (suc l) zero g each = ap is_type (one g) ∙ each.0
      where
        one : Some u ≡ Some unit → unit ≡ u
        one f = cc
    taken (u ∷ us) (suc l) (suc k) g each = taken us l k g each.1

    in_units : (us : List UnitContent) (f l k : ℕ) → slice_get (take l (drop f us)) k ≡ Some unit → Each (λ u. is_type u ≡ is_type_content (content_value run.content)) us →
        is_type unit ≡ is_type_content (content_value run.content)
    in_units us zero l k g each = taken us l k g each
    in_units [] (suc f) l k g each = taken [] l k g each
    in_units (u ∷ us) (suc f) l k g each = in_units us f l k g each.1

-- ---- the unit with an id

found_type : (os : List Operation) (o : Operation) (x : Id) → IsWritten os → IsIn o os → o.id ≡ x → has_type_item os x ≡ is_type o.content
found_type [] o x w i e = absurd i
found_type (p ∷ ps) o x w (inl f) e = ap (λ t. if t then is_type p.content else has_type_item ps x) here ∙ ap (λ (q : Operation). is_type q.content) (sym f)
  where
    here : is_same p.id x ≡ true
    here = subst (λ y. is_same p.id y ≡ true) (ap (λ (q : Operation). q.id) (sym f) ∙ e) (same_itself p.id)
found_type (p ∷ ps) o x w (inr i) e = ap (λ t. if t then is_type p.content else has_type_item ps x) other ∙ found_type ps o x w.1 i e
  where
    other : is_same p.id x ≡ false
    other = subst (λ y. is_same p.id y ≡ false) e (other_id p.id o.id (written_differs p.id o.id (w.0 o i)))

none_type : (os : List Operation) (x : Id) → ((o : Operation) → IsIn o os → o.id ≡ x → is_type o.content ≡ false) → has_type_item os x ≡ false
none_type [] x none = refl
none_type (p ∷ ps) x none = go (is_same p.id x) refl (none_type ps x (λ o i. none o (inr i)))
  where
    go : (t : Bool) → is_same p.id x ≡ t → has_type_item ps x ≡ false → (if t then is_type p.content else has_type_item ps x) ≡ false
    go true e rest = none p (inl refl) (same_is p.id x e)
    go false e rest = rest

-- ---- entries

module _ (r : ReceivedValue) (is : IsReceived r) where
  abbrev type_told : Entry → Bool
  type_told t = not t.is_gone && is_type_run (slice_get r.runs t.run)

  -- a unit of an entry is a type as the entry's run says
  entry_type : (t : Entry) (o : Operation) → IsIn o (operations_of_taken r.runs t) → is_type o.content ≡ type_told t
  entry_type t o i = go t.is_gone i
    where
      go : (b : Bool) → IsIn o (operations_told b r.runs t) → is_type o.content ≡ (not b && is_type_run (slice_get r.runs t.run))
      go true j = let (k, lt, e) = from_gone t.id t.len o j in ap (λ (p : Operation). is_type p.content) e
      go false j = let (m, lt, e, unit) = from_unit t.id t.left t.right (list_at (slice_get r.runs t.run) t.offset) (take t.len (drop t.offset (units_of (slice_get r.runs t.run)))) o j in
          unit_type (slice_get r.runs t.run) t.offset t.len m o.content unit

  -- an entry of a type begins at each of its ids
  type_begins : (t : Entry) (x : Id) → IsIn t r.entries → covers t x ≡ true → type_told t ≡ true → t.id ≡ x
  type_begins t x i c told = same_numbers t.id x (covers_less t x c).0 (one t.is_gone (slice_get r.runs t.run) refl (is_taken r is t i).told told)
    where
      bound : t.len ≡ 1 → t.id.clock ≡ x.clock
      bound e = let (client, low, high) = covers_less t x c in omega (arith, low, high, e)

      one : (b : Bool) (run : Option Run) → slice_get r.runs t.run ≡ run → TellsRight b r.runs t → (not b && is_type_run run) ≡ true → t.id.clock ≡ x.clock
      one true run f untold g = absurd (true≢false (sym g))
      one false None f of_run g = absurd (true≢false (sym g))
      one false (Some run) f of_run g = bound (omega (arith, of_run.within, ap (λ z. length (units_of z)) f, type_is_one (content_value run.content) g, (is_taken r is t i).has_units))

  -- ---- lemmas for callers

  -- where no entry begins at an id, its unit is no type
  pub no_type : (x : Id) → Each (λ (t : Entry). t.id ≢ x) r.entries → has_type_item (listed_of r) x ≡ false
  no_type x none = none_type (listed_of r) x (λ o i e. let (t, j, passes, k) = chosen_entry is_listed r is o i in not_one t o j k e (type_told t) refl)
    where
      not_one : (t : Entry) (o : Operation) → IsIn t r.entries → IsIn o (operations_of_taken r.runs t) → o.id ≡ x → (b : Bool) → type_told t ≡ b → is_type o.content ≡ false
      not_one t o j k e true f = absurd (each_in (λ (s : Entry). s.id ≢ x) r.entries none t j
          (type_begins t x j (subst (λ y. covers t y ≡ true) e (unit_covers r.runs t (is_taken r is t j) o k)) f))
      not_one t o j k e false f = entry_type t o k ∙ f

  -- where one does, its unit is as the entry says
  pub type_at : (t : Entry) (x : Id) → IsIn t r.entries → t.id ≡ x → has_type_item (listed_of r) x ≡ holds_type r.runs t
  type_at t x i e = go (is_listed t) refl
    where
      own : covers t x ≡ true
      own = subst (λ y. covers t y ≡ true) e (covers_in t t.id refl (omega arith) (omega (arith, (is_taken r is t i).has_units)))

      go : (b : Bool) → is_listed t ≡ b → has_type_item (listed_of r) x ≡ (b && type_told t)
      go true passes = let (o, j, f) = covers_unit r.runs t (is_taken r is t i) x own in
          found_type (listed_of r) o x (chosen_written is_listed r is) (entry_chosen is_listed r is t i passes o j) f ∙ entry_type t o j
      go false fails = none_type (listed_of r) x (λ o j f.
          let (s, k, passes, l) = chosen_entry is_listed r is o j in
          let covered : covers s x ≡ true = subst (λ y. covers s y ≡ true) f (unit_covers r.runs s (is_taken r is s k) o l) in
          absurd (true≢false (sym passes ∙ ap is_listed (one_entry r.entries is.in_order s t x k i covered own) ∙ fails)))
