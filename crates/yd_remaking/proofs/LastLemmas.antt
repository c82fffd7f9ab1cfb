-- The last unit that is named and can be made, piece by piece.
use Rattle.std.proofs.Common.{◌≡◌, ◌<◌, ◌+◌, ◌-◌, ℕ, zero, suc, Bool, true, false, List, [], ◌∷◌, ◌++◌, length, Option, refl, sym, ap, ◌∙◌, subst, arith}
use Rattle.std.specs.Prelude.{if◌then◌else◌}
use Rattle.yd_words.specs.Each.{Each}
use Rattle.yd_ids.specs.declared.id.Id.{Id}
use Rattle.yd_ids.specs.declared.id.Span.{Span}
use Rattle.yd_ops.specs.Operation.{UnitContent, later_id}
use Rattle.yd_ops.specs.View.{content_value}
use Rattle.yd_state.specs.declared.listing.RunView.{RunView}
use Rattle.yd_state.specs.Lent.{Lent, lent_from, units_of_view, IsWithin}
use Rattle.yd_copying.specs.Piece.{can_make, content_kind}
use Rattle.yd_remaking.specs.Found.{view_units}
use Rattle.yd_remaking.specs.Last.{named_or, last_named, last_in, last_made}
use Rattle.yd_remaking.proofs.KindLemmas.{IsOf, part_is}
use Rattle.yd_remaking.proofs.RowLemmas.{length_view}

made_over : (named : List Span) (before : Option Id) (k : ℕ) (id : Id) (d : Bool) (us : List UnitContent) (rest : List Lent) → Each (IsOf k true) us →
    last_made named before (lent_from id d us ++ rest) ≡ last_made named (last_named named before id (length us)) rest
made_over named before k id d [] rest each = refl
made_over named before k id d (u ∷ us) rest each =
    ap (λ t. last_made named (if t then named_or named id before else before) (lent_from (later_id id 1) d us ++ rest)) each.0.made_is
    ∙ made_over named (named_or named id before) k (later_id id 1) d us rest each.1

none_over : (named : List Span) (before : Option Id) (k : ℕ) (id : Id) (d : Bool) (us : List UnitContent) (rest : List Lent) → Each (IsOf k false) us →
    last_made named before (lent_from id d us ++ rest) ≡ last_made named before rest
none_over named before k id d [] rest each = refl
none_over named before k id d (u ∷ us) rest each =
    ap (λ t. last_made named (if t then named_or named id before else before) (lent_from (later_id id 1) d us ++ rest)) each.0.made_is
    ∙ none_over named before k (later_id id 1) d us rest each.1

view_is : (view : RunView) (t : Bool) → can_make (content_value view.content.now) ≡ t → Each (IsOf (content_kind (content_value view.content.now)) t) (view_units view)
view_is view t e = subst (λ m. Each (IsOf (content_kind (content_value view.content.now)) m) (view_units view)) e (part_is view.offset view.len (content_value view.content.now))

-- ---- lemmas for callers

-- a piece is passed
pub piece_passed : (named : List Span) (before after : Option Id) (view : RunView) (old new : List Lent) → IsWithin view → old ≡ units_of_view view ++ new →
    after ≡ last_in named before view → last_made named after new ≡ last_made named before old
piece_passed named before after view old new within e is = go (can_make (content_value view.content.now)) refl
  where
    kind : ℕ
    kind = content_kind (content_value view.content.now)

    go : (t : Bool) → can_make (content_value view.content.now) ≡ t → last_made named after new ≡ last_made named before old
    go true m = ap (λ l. last_made named l new) (is ∙ ap (λ t. if t then last_named named before view.id view.len else before) m
        ∙ ap (last_named named before view.id) (sym (length_view view within)))
        ∙ sym (made_over named before kind view.id view.deleted (view_units view) new (view_is view true m)) ∙ ap (last_made named before) (sym e)
    go false m = ap (λ l. last_made named l new) (is ∙ ap (λ t. if t then last_named named before view.id view.len else before) m)
        ∙ sym (none_over named before kind view.id view.deleted (view_units view) new (view_is view false m)) ∙ ap (last_made named before) (sym e)

-- one id more
pub named_next : (named : List Span) (old new : Option Id) (x : Id) (left : ℕ) → 0 < left → new ≡ named_or named x old →
    last_named named new (record { client = x.client; clock = x.clock + 1 }) (left - 1) ≡ last_named named old x left
named_next named old new x zero some e = absurd (omega (arith, some))
named_next named old new x (suc n) some e = let one : suc n - 1 ≡ n = omega arith in (λ i. last_named named (e i) (later_id x 1) (one i))
