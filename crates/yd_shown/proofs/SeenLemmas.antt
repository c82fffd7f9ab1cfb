-- The text of what is seen.
use Rattle.std.proofs.Common.{◌≡◌, ℕ, Bool, true, false, List, [], ◌∷◌, Option, Some, refl, ap, ◌∙◌}
use Rattle.yd_ids.specs.declared.id.Id.{Id}
use Rattle.yd_ops.specs.declared.lists.List.{List as DocList}
use Rattle.yd_ops.specs.Operation.{UnitContent, text_unit, any_unit, json_unit, bytes, embedded, mark, nested_type, deleted_unit, gone_unit, Operation}
use Rattle.yd_ops.specs.Pairs.{as_torn}
use Rattle.yd_meaning.specs.Text.{is_lone, shown_before, shown_units}
use Rattle.yd_shown.specs.Seen.{without_lone, text_before, text_units}

-- an operation of its parts
abbrev with_parts : Id → Option Id → Option Id → Option DocList → UnitContent → Operation
with_parts id left right list content = record { id = id; left_origin = left; right_origin = right; list = list; content = content }

-- a text unit, lone or not
text_seen : (lone : Bool) (id : Id) (left right : Option Id) (list : Option DocList) (unit : ℕ) (us : List ℕ) →
    text_before (as_torn lone (with_parts id left right list (text_unit unit))).content us ≡ shown_before lone (text_unit unit) us
text_seen true id left right list unit us = refl
text_seen false id left right list unit us = refl

one_seen : (before : Option Operation) (os : List Operation) (id : Id) (left right : Option Id) (list : Option DocList) (content : UnitContent) (us : List ℕ) →
    text_before (as_torn (is_lone before (with_parts id left right list content) os) (with_parts id left right list content)).content us
    ≡ shown_before (is_lone before (with_parts id left right list content) os) content us
one_seen before os id left right list (text_unit unit) us = text_seen (is_lone before (with_parts id left right list (text_unit unit)) os) id left right list unit us
one_seen before os id left right list (any_unit t) us = refl
one_seen before os id left right list (json_unit t) us = refl
one_seen before os id left right list (bytes b) us = refl
one_seen before os id left right list (embedded t) us = refl
one_seen before os id left right list (mark k t) us = refl
one_seen before os id left right list (nested_type kind) us = refl
one_seen before os id left right list deleted_unit us = refl
one_seen before os id left right list gone_unit us = refl

-- ---- lemmas for callers

pub seen_text : (before : Option Operation) (os : List Operation) → text_units (without_lone before os) ≡ shown_units before os
seen_text before [] = refl
seen_text before (o ∷ os) =
    one_seen before os o.id o.left_origin o.right_origin o.list o.content (text_units (without_lone (Some o) os))
    ∙ ap (shown_before (is_lone before o os) o.content) (seen_text (Some o) os)
