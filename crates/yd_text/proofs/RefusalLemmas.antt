-- The first refusal of an edit at an index, where its place is not refused.
use Rattle.std.proofs.Common.{◌≡◌, ◌+◌, ℕ, Bool, nat_lt, List, [], ◌∷◌, take, drop, Option, Some, None, refl, sym, ap, ◌∙◌}
use Rattle.yd_any.specs.Tree.{AnyTree}
use Rattle.yd_ids.specs.declared.id.Span.{Span}
use Rattle.yd_ops.specs.declared.lists.List.{List as DocList}
use Rattle.yd_ops.specs.Value.{ContentValue, len_of}
use Rattle.yd_editing.specs.Basis.{Basis}
use Rattle.yd_editing.specs.Refused.{refusal_of}
use Rattle.yd_editing.specs.Step.{Step, remove, Refusal, first_or}
use Rattle.yd_editing.specs.TextEdit.{counted_units, insert_steps, list_refusal, end_refusal, index_refusal, insert_refusal, ids_of_units, delete_steps, delete_refusal, format_steps, format_refusal}

first_three : (l e i r : Option Refusal) → l ≡ None → first_or e i ≡ None → first_or l (first_or e (first_or i r)) ≡ r
first_three None None None r a b = refl
first_three None None (Some x) r a b = absurd cc
first_three None (Some x) i r a b = absurd cc
first_three (Some x) e i r a b = absurd cc

first_range : (e i j r : Option Refusal) → first_or e (first_or i j) ≡ None → first_or e (first_or i (first_or j r)) ≡ r
first_range None None None r a = refl
first_range None None (Some x) r a = absurd cc
first_range None (Some x) j r a = absurd cc
first_range (Some x) i j r a = absurd cc

first_four : (l e i j r : Option Refusal) → l ≡ None → first_or e (first_or i j) ≡ None → first_or l (first_or e (first_or i (first_or j r))) ≡ r
first_four None e i j r a b = first_range e i j r b
first_four (Some x) e i j r a b = absurd cc

-- ---- lemmas for callers

pub insert_refused : (basis : Basis) (name : DocList) (index : ℕ) (content : ContentValue) (steps : List Step) (makes : Bool) → makes ≡ nat_lt 0 (len_of content) →
    list_refusal basis name makes ≡ None → first_or (end_refusal (counted_units basis.document name) index) (index_refusal (counted_units basis.document name) index) ≡ None →
    steps ≡ insert_steps basis.document name index content → refusal_of basis steps ≡ insert_refusal basis name index content
insert_refused basis name index content steps makes test list place are = ap (refusal_of basis) are
    ∙ sym (first_three (list_refusal basis name (nat_lt 0 (len_of content))) (end_refusal (counted_units basis.document name) index)
    (index_refusal (counted_units basis.document name) index) (refusal_of basis (insert_steps basis.document name index content))
    (ap (list_refusal basis name) (sym test) ∙ list) place)

pub delete_refused : (basis : Basis) (name : DocList) (index len : ℕ) (ids : List Span) → first_or (end_refusal (counted_units basis.document name) (index + len))
    (first_or (index_refusal (counted_units basis.document name) index) (index_refusal (counted_units basis.document name) (index + len))) ≡ None →
    ids ≡ ids_of_units (take len (drop index (counted_units basis.document name))) → refusal_of basis (remove ids ∷ []) ≡ delete_refusal basis name index len
delete_refused basis name index len ids place are = ap (λ spans. refusal_of basis (remove spans ∷ [])) are
    ∙ sym (first_range (end_refusal (counted_units basis.document name) (index + len)) (index_refusal (counted_units basis.document name) index)
    (index_refusal (counted_units basis.document name) (index + len)) (refusal_of basis (delete_steps basis.document name index len)) place)

pub format_refused : (basis : Basis) (name : DocList) (index len : ℕ) (key : List ℕ) (value : AnyTree) (steps : List Step) (makes : Bool) → makes ≡ nat_lt 0 len →
    list_refusal basis name makes ≡ None → first_or (end_refusal (counted_units basis.document name) (index + len))
    (first_or (index_refusal (counted_units basis.document name) index) (index_refusal (counted_units basis.document name) (index + len))) ≡ None →
    steps ≡ format_steps basis.document name index len key value → refusal_of basis steps ≡ format_refusal basis name index len key value
format_refused basis name index len key value steps makes test list place are = ap (refusal_of basis) are
    ∙ sym (first_four (list_refusal basis name (nat_lt 0 len)) (end_refusal (counted_units basis.document name) (index + len))
    (index_refusal (counted_units basis.document name) index) (index_refusal (counted_units basis.document name) (index + len))
    (refusal_of basis (format_steps basis.document name index len key value)) (ap (list_refusal basis name) (sym test) ∙ list) place)
