-- Which type a unit is: as its entry's run says, where an entry in a list begins at its id.
use Rattle.std.proofs.Common.{◌≡◌, ◌≢◌, ◌<◌, ℕ, zero, suc, Bool, true, false, ◌&&◌, not, List, [], ◌∷◌, Option, Some, None, inl, inr, length, get_or, take, drop, refl, sym, ap, ◌∙◌, subst, arith, true≢false}
use Rattle.std.specs.Prelude.{slice_get, is_some, if◌then◌else◌}
use Rattle.std.proofs.lemmas.Bool.{cases_Bool}
use Rattle.yd_words.specs.Each.{Each}
use Rattle.yd_words.specs.Member.{IsIn}
use Rattle.yd_ids.specs.declared.id.Id.{Id}
use Rattle.yd_ids.specs.Ids.{is_same}
use Rattle.yd_ids.proofs.IdLemmas.{same_itself, other_id, written_differs}
use Rattle.yd_ops.specs.declared.kinds.Kind.{Kind}
use Rattle.yd_ops.specs.declared.runs.Run.{Run}
use Rattle.yd_ops.specs.Value.{ContentValue, json, binary, string, embed, format, nested, any, deleted}
use Rattle.yd_ops.specs.Operation.{UnitContent, Operation, text_unit, any_unit, json_unit, bytes, embedded, mark, nested_type, deleted_unit, gone_unit, units_of_content}
use Rattle.yd_ops.specs.View.{content_value}
use Rattle.yd_ops.specs.Received.{IsWritten}
use Rattle.yd_meaning.specs.Held.{standing}
use Rattle.yd_editing.specs.Basis.{is_type, has_type_item}
use Rattle.yd_entries.specs.declared.entry.Entry.{Entry}
use Rattle.yd_entries.specs.Entries.{units_of, list_at, operations_told, is_listed, covers}
use Rattle.yd_received.specs.Received.{ReceivedValue, listed_of}
use Rattle.yd_entries.proofs.EntryLemmas.{covers_in, no_entry}
use Rattle.yd_entries.proofs.EntriesLemmas.{entry_at}
use Rattle.yd_entries.proofs.UnitLemmas.{from_unit}
use Rattle.yd_held.proofs.HeldUnitLemmas.{covers_unit}
use Rattle.yd_held.proofs.HeldEntryLemmas.{is_taken, chosen_written, entry_chosen}
use Rattle.yd_making.specs.Types.{is_type_content, is_type_run, holds_type}
use Rattle.yd_making.proofs.TypeLemmas.{no_type, type_at}
use Rattle.yd_state.specs.State.{StateValue, received_in, IsSound}
use Rattle.yd_making.specs.Standing.{stands_in, kind_of_unit, kind_where, kind_of_content, kind_of_run, kind_if, kind_told}

-- ---- types and kinds

unit_some : (unit : UnitContent) → is_type unit ≡ is_some (kind_of_unit unit)
unit_some (text_unit unit) = refl
unit_some (any_unit value) = refl
unit_some (json_unit value) = refl
unit_some (bytes blob) = refl
unit_some (embedded value) = refl
unit_some (mark key value) = refl
unit_some (nested_type kind) = refl
unit_some deleted_unit = refl
unit_some gone_unit = refl

content_some : (content : ContentValue) → is_type_content content ≡ is_some (kind_of_content content)
content_some (json units) = refl
content_some (binary blob) = refl
content_some (string units) = refl
content_some (embed value) = refl
content_some (format key value) = refl
content_some (nested kind) = refl
content_some (any values) = refl
content_some (deleted count) = refl

run_some : (run : Option Run) → is_type_run run ≡ is_some (kind_of_run run)
run_some None = refl
run_some (Some run) = content_some (content_value run.content)

-- an id is that of a type where it has a kind
where_some : (os : List Operation) (x : Id) → has_type_item os x ≡ is_some (kind_where os x)
where_some [] x = refl
where_some (o ∷ os) x = go (is_same o.id x) (where_some os x)
  where
    go : (t : Bool) → has_type_item os x ≡ is_some (kind_where os x) →
        (if t then is_type o.content else has_type_item os x) ≡ is_some (if t then kind_of_unit o.content else kind_where os x)
    go true e = unit_some o.content
    go false e = e

told_some : (runs : List Run) (t : Entry) → holds_type runs t ≡ is_some (kind_told runs t)
told_some runs t = go (is_listed t) t.is_gone
  where
    go : (u g : Bool) → (u && (not g && is_type_run (slice_get runs t.run))) ≡ is_some (kind_if (u && not g) (kind_of_run (slice_get runs t.run)))
    go true true = refl
    go true false = run_some (slice_get runs t.run)
    go false g = refl

none_is : {X : Type 0} (x : Option X) → is_some x ≡ false → None ≡ x
none_is None e = refl
none_is (Some x) e = absurd (true≢false e)

-- ---- the kind of a unit

-- the kind of an id is that of the operation with it
found_kind : (os : List Operation) (o : Operation) → IsWritten os → IsIn o os → kind_where os o.id ≡ kind_of_unit o.content
found_kind [] o w i = absurd i
found_kind (p ∷ ps) o w (inl f) = rw (f, same_itself p.id) refl
found_kind (p ∷ ps) o w (inr i) = rw (other_id p.id o.id (written_differs p.id o.id (w.0 o i))) (found_kind ps o w.1 i)

-- a unit of a type is that type
one_type : (kind : Kind) (from len m : ℕ) (unit : UnitContent) → slice_get (take len (drop from (nested_type kind ∷ []))) m ≡ Some unit → kind_of_unit unit ≡ Some kind
one_type kind zero zero m unit e = absurd cc
one_type kind zero (suc len) zero unit e = cc
one_type kind zero (suc zero) (suc m) unit e = absurd cc
one_type kind zero (suc (suc len)) (suc m) unit e = absurd cc
one_type kind (suc zero) zero m unit e = absurd cc
one_type kind (suc zero) (suc len) m unit e = absurd cc
one_type kind (suc (suc from)) zero m unit e = absurd cc
one_type kind (suc (suc from)) (suc len) m unit e = absurd cc

run_type : (run : Option Run) (from len m : ℕ) (unit : UnitContent) (kind : Kind) → slice_get (take len (drop from (units_of run))) m ≡ Some unit →
    kind_of_run run ≡ Some kind → kind_of_unit unit ≡ Some kind
run_type None from len m unit kind e f = absurd cc
run_type (Some run) from len m unit kind e f = go (content_value run.content) e f
  where
    go : (content : ContentValue) → slice_get (take len (drop from (units_of_content content))) m ≡ Some unit → kind_of_content content ≡ Some kind → kind_of_unit unit ≡ Some kind
    go (json units) g h = absurd cc
    go (binary blob) g h = absurd cc
    go (string units) g h = absurd cc
    go (embed value) g h = absurd cc
    go (format key value) g h = absurd cc
    go (nested other) g h = one_type other from len m unit g ∙ h
    go (any values) g h = absurd cc
    go (deleted count) g h = absurd cc

module _ (s : StateValue) (sound : IsSound s) (x : Id) where
  abbrev listed : List Operation
  listed = listed_of s.held.received

  listed_stands : listed ≡ stands_in (received_in s)
  listed_stands = sound.holds.stands ∙ ap standing sound.holds.held

  -- where no entry begins at the id, it has no kind
  pub no_kind : Each (λ (t : Entry). t.id ≢ x) s.held.received.entries → kind_where (stands_in (received_in s)) x ≡ None
  no_kind none = subst (λ os. kind_where os x ≡ None) listed_stands
      (sym (none_is (kind_where listed x) (sym (where_some listed x) ∙ no_type s.held.received sound.holds.in_order x none)))

  -- where one does, it has the kind that the entry tells
  pub kind_at : (t : Entry) → IsIn t s.held.received.entries → t.id ≡ x → kind_where (stands_in (received_in s)) x ≡ kind_told s.held.received.runs t
  kind_at t i e = subst (λ os. kind_where os x ≡ kind_told s.held.received.runs t) listed_stands (go (kind_told s.held.received.runs t) refl)
    where
      same : is_some (kind_where listed x) ≡ is_some (kind_told s.held.received.runs t)
      same = sym (where_some listed x) ∙ type_at s.held.received sound.holds.in_order t x i e ∙ told_some s.held.received.runs t

      own : covers t x ≡ true
      own = subst (λ y. covers t y ≡ true) e (covers_in t t.id refl (omega arith) (omega (arith, (is_taken s.held.received sound.holds.in_order t i).has_units)))

      told : (kind : Kind) (u g : Bool) (o : Operation) → is_listed t ≡ u → t.is_gone ≡ g → kind_if (u && not g) (kind_of_run (slice_get s.held.received.runs t.run)) ≡ Some kind →
          IsIn o (operations_told g s.held.received.runs t) → kind_of_unit o.content ≡ Some kind
      told kind true true o a b f j = absurd cc
      told kind false g o a b f j = absurd cc
      told kind true false o a b f j =
          let (m, lt, same_id, unit) = from_unit t.id t.left t.right (list_at (slice_get s.held.received.runs t.run) t.offset) (take t.len (drop t.offset (units_of (slice_get s.held.received.runs t.run)))) o j in
          run_type (slice_get s.held.received.runs t.run) t.offset t.len m o.content kind unit f

      listed_told : (kind : Kind) → kind_told s.held.received.runs t ≡ Some kind → is_listed t ≡ true
      listed_told kind f = elim (cases_Bool (is_listed t)) [
        | inl yes_listed ↦ yes_listed
        | inr fails ↦ absurd (never (sym (ap (λ u. kind_if (u && not t.is_gone) (kind_of_run (slice_get s.held.received.runs t.run))) fails) ∙ f))
      ]
        where
          never : None ≡ Some kind → ⊥
          never g = cc

      go : (k : Option Kind) → kind_told s.held.received.runs t ≡ k → kind_where listed x ≡ kind_told s.held.received.runs t
      go None f = sym (none_is (kind_where listed x) (same ∙ ap is_some f)) ∙ sym f
      go (Some kind) f =
          let (o, j, at) = covers_unit s.held.received.runs t (is_taken s.held.received sound.holds.in_order t i) x own in
          let found = found_kind listed o (chosen_written is_listed s.held.received sound.holds.in_order)
          (entry_chosen is_listed s.held.received sound.holds.in_order t i (listed_told kind f) o j) in
          ap (kind_where listed) (sym at) ∙ found ∙ told kind (is_listed t) t.is_gone o refl refl f j ∙ sym f

  -- so it has the kind of the entry that was found
  pub kind_found : (r : ReceivedValue) → r ≡ s.held.received → (runs : List Run) (entries : List Entry) → runs ≡ r.runs → entries ≡ r.entries →
      (at : ℕ) (t : Entry) → t ≡ get_or entries at t → at < length r.entries → (get_or r.entries at t).id ≡ x →
      kind_where (stands_in (received_in s)) x ≡ kind_told runs t
  kind_found r same runs entries e f at t found inside is = subst (λ rs. kind_where (stands_in (received_in s)) x ≡ kind_told rs t) (sym (e ∙ ap (λ (q : ReceivedValue). q.runs) same))
      (kind_at t (subst (λ u. IsIn u s.held.received.entries) (sym there) (entry_at s.held.received.entries at t lt)) (ap (λ (u : Entry). u.id) own ∙ is))
    where
      own : t ≡ get_or r.entries at t
      own = found ∙ ap (λ ts. get_or ts at t) f

      there : t ≡ get_or s.held.received.entries at t
      there = own ∙ ap (λ (q : ReceivedValue). get_or q.entries at t) same

      lt : at < length s.held.received.entries
      lt = subst (λ (q : ReceivedValue). at < length q.entries) same inside
