-- A key's value in force at a unit, piece by piece.
use Rattle.std.proofs.Common.{◌≡◌, ◌<◌, ℕ, Bool, true, false, ◌||◌, not, List, [], ◌∷◌, ◌++◌, length, map, Some, Result, Ok, Err, inl, inr, refl, sym, ap, ◌∙◌, subst, arith}
use Rattle.std.specs.Prelude.{filter, if◌then◌else◌, Decides, IsTrue, IfOk}
use Rattle.std.specs.Str.{bytes_eq}
use Rattle.yd_words.specs.Each.{Each}
use Rattle.yd_words.specs.Member.{IsIn}
use Rattle.yd_words.proofs.MemberLemmas.{each_in}
use Rattle.yd_any.specs.Tree.{AnyTree}
use Rattle.yd_ids.specs.declared.id.Id.{Id}
use Rattle.yd_ids.specs.Ids.{is_same}
use Rattle.yd_ops.specs.Value.{ContentValue}
use Rattle.yd_any.specs.Valid.{is_valid_json}
use Rattle.yd_grouping.specs.Groupable.{IsValidOperation, IsValidUnitContent}
use Rattle.yd_ops.specs.declared.lists.List.{List as DocList}
use Rattle.yd_ops.specs.Operation.{Operation, UnitContent, text_unit, any_unit, json_unit, bytes, embedded, mark, nested_type, deleted_unit, gone_unit, later_id}
use Rattle.yd_ops.specs.View.{content_value}
use Rattle.yd_editing.specs.Made.{units_up_to}
use Rattle.yd_editing.specs.TextEdit.{value_after, value_in_force}
use Rattle.yd_state.specs.declared.listing.RunView.{RunView}
use Rattle.yd_meaning.specs.Document.{Document}
use Rattle.yd_state.specs.Lent.{Lent, lent, lent_from, lent_units, units_of_view, IsWithin}
use Rattle.yd_text.specs.Marks.{value_behind, value_up_to, HoldValid}
use Rattle.yd_text.specs.Rows.{is_in_row}
use Rattle.yd_text.proofs.AlikeLemmas.{IsAlike, piece_alike, set_again}
use Rattle.yd_text.proofs.RowLemmas.{InRange, row_tested, contents_of, length-contents}

-- ---- the units of a document

pub value_lent : (is_gone : Id → Bool) (key : List ℕ) (x : Id) (v : AnyTree) (os : List Operation) →
    value_up_to key x v (map (lent is_gone) os) ≡ value_in_force key (units_up_to (Some x) (filter (λ (o : Operation). not (is_gone o.id)) os)) v
value_lent is_gone key x v [] = refl
value_lent is_gone key x v (o ∷ os) = go (is_gone o.id) (is_same o.id x) refl (value_lent is_gone key x v os) (value_lent is_gone key x (value_after key o.content v) os)
  where
    live : List Operation
    live = filter (λ (p : Operation). not (is_gone p.id)) os

    after : AnyTree
    after = value_after key o.content v

    go : (d t : Bool) → is_same o.id x ≡ t → value_up_to key x v (map (lent is_gone) os) ≡ value_in_force key (units_up_to (Some x) live) v →
        value_up_to key x after (map (lent is_gone) os) ≡ value_in_force key (units_up_to (Some x) live) after →
        (if d then value_up_to key x v (map (lent is_gone) os) else (if t then after else value_up_to key x after (map (lent is_gone) os)))
        ≡ value_in_force key (units_up_to (Some x) (if not d then o ∷ live else live)) v
    go true t e passed other = passed
    go false true e passed other = ap (λ s. value_in_force key (if s then [] else units_up_to (Some x) live) after) (sym e)
    go false false e passed other = other ∙ ap (λ s. value_in_force key (if s then [] else units_up_to (Some x) live) after) (sym e)

-- ---- lemmas for callers: what is held is valid

-- what a list's units hold, where all that is received is valid
pub hold_valid : (document : Document) (name : DocList) (received : List Operation) → Each IsValidOperation received →
    ((o : Operation) → IsIn o (document.units name) → IsIn o received) → HoldValid (lent_units document name)
hold_valid document name received valid among = go (document.units name) among
  where
    go : (os : List Operation) → ((o : Operation) → IsIn o os → IsIn o received) → HoldValid (map (lent document.deleted) os)
    go [] within = tt
    go (o ∷ os) within = ((each_in IsValidOperation received valid o (within o (inl refl))).content, go os (λ p i. within p (inr i)))

-- behind a piece it is so too
pub valid_behind : (view : RunView) (old new : List Lent) → old ≡ units_of_view view ++ new → HoldValid old → HoldValid new
valid_behind view old new is valid = behind (units_of_view view) (subst HoldValid is valid)
  where
    behind : (us : List Lent) → HoldValid (us ++ new) → HoldValid new
    behind [] hold = hold
    behind (u ∷ us) hold = behind us hold.1

-- ---- the value in force, row by row

module _ (key : List ℕ) where
  value_row : (content : ContentValue) (x id : Id) (u : UnitContent) (us : List UnitContent) (rest : List Lent) (v : AnyTree) → Each (IsAlike key content) (u ∷ us) →
      value_up_to key x v (lent_from id false (u ∷ us) ++ rest)
      ≡ (if is_in_row id (length (u ∷ us)) x then value_behind key content v else value_up_to key x (value_behind key content v) rest)
  value_row content x id u [] rest v each = ap (λ w. if is_same id x then w else value_up_to key x w rest) (each.0.0 v) ∙ go (is_same id x)
    where
      w : AnyTree
      w = value_behind key content v

      go : (t : Bool) → (if t then w else value_up_to key x w rest) ≡ (if t || false then w else value_up_to key x w rest)
      go true = refl
      go false = refl
  value_row content x id u (y ∷ ys) rest v each =
      ap (λ w. if is_same id x then w else value_up_to key x w (lent_from (later_id id 1) false (y ∷ ys) ++ rest)) (each.0.0 v)
      ∙ go (is_same id x) (value_row content x (later_id id 1) y ys rest (value_behind key content v) each.1)
    where
      w : AnyTree
      w = value_behind key content v

      go : (t : Bool) → value_up_to key x w (lent_from (later_id id 1) false (y ∷ ys) ++ rest)
          ≡ (if is_in_row (later_id id 1) (length (y ∷ ys)) x then value_behind key content w else value_up_to key x (value_behind key content w) rest) →
          (if t then w else value_up_to key x w (lent_from (later_id id 1) false (y ∷ ys) ++ rest))
          ≡ (if t || is_in_row (later_id id 1) (length (y ∷ ys)) x then w else value_up_to key x w rest)
      go true more = refl
      go false more = more ∙ ap (λ z. if is_in_row (later_id id 1) (length (y ∷ ys)) x then z else value_up_to key x z rest) (set_again key content v)

  deleted_row : (x id : Id) (us : List UnitContent) (rest : List Lent) (v : AnyTree) → value_up_to key x v (lent_from id true us ++ rest) ≡ value_up_to key x v rest
  deleted_row x id [] rest v = refl
  deleted_row x id (u ∷ us) rest v = deleted_row x (later_id id 1) us rest v

  -- ---- lemmas for callers: the value in force, piece by piece

  -- a deleted piece is passed
  pub value_passed : (view : RunView) → view.deleted ≡ true → (x : Id) (v : AnyTree) (old new : List Lent) → old ≡ units_of_view view ++ new →
      value_up_to key x v old ≡ value_up_to key x v new
  value_passed view gone x v old new is = ap (value_up_to key x v) is ∙ ap (λ d. value_up_to key x v (lent_from view.id d (contents_of view) ++ new)) gone
      ∙ deleted_row x view.id (contents_of view) new v

  -- of a live one the content says what is in force behind it
  pub value_in_piece : (view : RunView) → IsWithin view → 0 < view.len → view.deleted ≡ false → (x : Id) (t : Bool) → Decides t (InRange view.id view.len x) →
      (v : AnyTree) (old new : List Lent) → old ≡ units_of_view view ++ new →
      value_up_to key x v old ≡ (if t then value_behind key (content_value view.content.now) v else value_up_to key x (value_behind key (content_value view.content.now) v) new)
  value_in_piece view within some live x t d v old new is = ap (value_up_to key x v) is ∙ ap (λ g. value_up_to key x v (lent_from view.id g (contents_of view) ++ new)) live
      ∙ go (contents_of view) (length-contents view within) (piece_alike key view)
    where
      go : (us : List UnitContent) → length us ≡ view.len → Each (IsAlike key (content_value view.content.now)) us →
          value_up_to key x v (lent_from view.id false us ++ new)
          ≡ (if t then value_behind key (content_value view.content.now) v else value_up_to key x (value_behind key (content_value view.content.now) v) new)
      go [] long each = absurd (omega (arith, long, some))
      go (u ∷ us) long each = value_row (content_value view.content.now) x view.id u us new v each
          ∙ ap (λ s. if s then value_behind key (content_value view.content.now) v else value_up_to key x (value_behind key (content_value view.content.now) v) new)
          (ap (λ n. is_in_row view.id n x) long ∙ row_tested view.id view.len x t d)

  -- ---- lemmas for callers: what is in force is valid

  after_valid : (u : UnitContent) (v : AnyTree) → IsValidUnitContent u → IsTrue (is_valid_json v) → IsTrue (is_valid_json (value_after key u v))
  after_valid (text_unit unit) v a b = b
  after_valid (any_unit value) v a b = b
  after_valid (json_unit value) v a b = b
  after_valid (bytes blob) v a b = b
  after_valid (embedded value) v a b = b
  after_valid (mark k value) v a b = go (bytes_eq k key)
    where
      go : (t : Bool) → IsTrue (is_valid_json (if t then value else v))
      go true = a
      go false = b
  after_valid (nested_type kind) v a b = b
  after_valid deleted_unit v a b = b
  after_valid gone_unit v a b = b

  pub value_valid : (view : RunView) → IsWithin view → 0 < view.len → (old new : List Lent) → old ≡ units_of_view view ++ new → HoldValid old →
      (v : AnyTree) → IsTrue (is_valid_json v) → IsTrue (is_valid_json (value_behind key (content_value view.content.now) v))
  value_valid view within some old new is valid v before = go (contents_of view) (length-contents view within) (piece_alike key view) (subst HoldValid is valid)
    where
      go : (us : List UnitContent) → length us ≡ view.len → Each (IsAlike key (content_value view.content.now)) us → HoldValid (lent_from view.id view.deleted us ++ new) →
          IsTrue (is_valid_json (value_behind key (content_value view.content.now) v))
      go [] long each hold = absurd (omega (arith, long, some))
      go (u ∷ us) long each hold = subst (λ w. IsTrue (is_valid_json w)) (each.0.0 v) (after_valid u v hold.0 before)

-- ---- lemmas for callers: answers

-- what follows of a result follows of an answer with it
pub ok_then : {X E : Type 0} (P Q : X → Type 0) → ((x : X) → P x → Q x) → (r : Result X E) → IfOk r P → IfOk r Q
ok_then P Q f (Ok x) h = f x h
ok_then P Q f (Err e) h = h
