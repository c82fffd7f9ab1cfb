-- Showing a parent: pieces that are lent, the last unit under a key, and types inside one another.
use Rattle.std.proofs.Common.{◌≡◌, ◌≢◌, ℕ, zero, suc, ◌+◌, ◌-◌, ◌<◌, ◌≤◌, Bool, true, false, ◌&&◌, not, List, [], ◌∷◌, ◌++◌, Some, None, map, length, take, drop, get_or, option_map, refl, sym, ap, ◌∙◌, subst, arith}
use Rattle.std.specs.Prelude.{slice_get, if◌then◌else◌}
use Rattle.yd_any.specs.Tree.{AnyTree, AnyTrees, no_trees, tree}
use Rattle.yd_any.specs.AnyView.{any_trees}
use Rattle.yd_ids.specs.declared.id.Id.{Id}
use Rattle.yd_ops.specs.declared.kinds.Kind.{Kind}
use Rattle.yd_ops.specs.declared.lists.Parent.{Parent}
use Rattle.yd_ops.specs.declared.lists.Parent.TheVariants.{Item}
use Rattle.yd_ops.specs.declared.contents.Content.{Content}
use Rattle.yd_ops.specs.declared.contents.Content.TheVariants.{Json, Binary, Str, Embed, Format, Nested, Any, Deleted}
use Rattle.yd_ops.specs.Value.{len_of}
use Rattle.yd_ops.specs.Operation.{UnitContent, text_unit, any_unit, json_unit, nested_type, deleted_unit, gone_unit, Operation, later_id, units_of_trees, deleted_units, units_of_content}
use Rattle.yd_ops.specs.View.{content_value, unit_value}
use Rattle.yd_meaning.specs.Document.{Document}
use Rattle.yd_state.specs.declared.listing.RunView.{RunView}
use Rattle.yd_state.specs.Lent.{Lent, lent_from, lent_units, units_of_view, IsWithin}
use Rattle.yd_doc.specs.Last.{unit_of_view}
use Rattle.yd_doc.proofs.LastLemmas.{IsLast, last_is_lent, none_lent, unit_got}
use Rattle.yd_shown.specs.Shown.{is_counted, last_unit, if_shown, value_under, key_list, shown_type, value_within}
use Rattle.yd_modes.specs.declared.gathering.Gathering.{Gathering}
use Rattle.yd_modes.specs.Roles.{Way, Delta, Values, role_of, is_value, bare, live_lent, are_counted, is_nested}
use Rattle.yd_modes.specs.Gathering.{gathered, live, Gathers}
use Rattle.yd_modes.specs.declared.listed.Listed.{Listed}
use Rattle.yd_modes.specs.Listed.{listed, Lists}

-- ---- pieces that are lent

live-append : (xs ys : List Lent) → live_lent (xs ++ ys) ≡ live_lent xs ++ live_lent ys
live-append [] ys = refl
live-append (x ∷ xs) ys = go x.is_deleted (live-append xs ys)
  where
    go : (d : Bool) → live_lent (xs ++ ys) ≡ live_lent xs ++ live_lent ys →
        (if d then live_lent (xs ++ ys) else x ∷ live_lent (xs ++ ys)) ≡ (if d then live_lent xs else x ∷ live_lent xs) ++ live_lent ys
    go true e = e
    go false e = ap (λ (us : List Lent). x ∷ us) e

live_from : (id : Id) (us : List UnitContent) → live_lent (lent_from id false us) ≡ lent_from id false us
live_from id [] = refl
live_from id (u ∷ us) = ap (λ (l : List Lent). live id u ∷ l) (live_from (later_id id 1) us)

gone_from : (id : Id) (us : List UnitContent) → live_lent (lent_from id true us) ≡ []
gone_from id [] = refl
gone_from id (u ∷ us) = gone_from (later_id id 1) us

pub live_view : (view : RunView) → view.deleted ≡ false → live_lent (units_of_view view) ≡ units_of_view view
live_view view e =
    ap (λ d. live_lent (lent_from view.id d (take view.len (drop view.offset (units_of_content (content_value view.content.now)))))) e
    ∙ live_from view.id (take view.len (drop view.offset (units_of_content (content_value view.content.now))))
    ∙ ap (λ d. lent_from view.id d (take view.len (drop view.offset (units_of_content (content_value view.content.now))))) (sym e)

pub deleted_view : (view : RunView) → view.deleted ≡ true → live_lent (units_of_view view) ≡ []
deleted_view view e =
    ap (λ d. live_lent (lent_from view.id d (take view.len (drop view.offset (units_of_content (content_value view.content.now)))))) e
    ∙ gone_from view.id (take view.len (drop view.offset (units_of_content (content_value view.content.now))))

-- one piece more
pub piece_gathered : (way : Way) (show : Operation → AnyTree) (a b : Gathering) (view : RunView) (old new : List Lent) → old ≡ units_of_view view ++ new →
    Gathers way show a b (live_lent (units_of_view view)) → gathered way show b (live_lent new) ≡ gathered way show a (live_lent old)
piece_gathered way show a b view old new e gathers = gathers.pieces (live_lent new) ∙ ap (gathered way show a) (sym (ap live_lent e ∙ live-append (units_of_view view) new))

pub piece_listed : (show : Operation → AnyTree) (a b : Listed) (view : RunView) (old new : List Lent) → old ≡ units_of_view view ++ new →
    Lists show a b (live_lent (units_of_view view)) → listed show b (live_lent new) ≡ listed show a (live_lent old)
piece_listed show a b view old new e lists = lists (live_lent new) ∙ ap (listed show a) (sym (ap live_lent e ∙ live-append (units_of_view view) new))

pub nested_role : (way : Way) (kind : Kind) → role_of way (nested_type kind) ≡ is_value
nested_role Delta kind = refl
nested_role Values kind = refl

-- ---- types inside one another

pub within_nested : (most : ℕ) (d : Document) (id : Id) (kind : Kind) → 0 < most → value_within most d (bare id (nested_type kind)) ≡ shown_type (value_within (most - 1) d) d (Item id) kind
within_nested zero d id kind some = absurd (omega arith)
within_nested (suc n) d id kind some = let e : suc n - 1 ≡ n = omega arith in ap (λ m. shown_type (value_within m d) d (Item id) kind) (sym e)

-- ---- units under a key

-- whether a unit counts is told by its content
counted_trees : (ts : AnyTrees) (n : ℕ) (u : UnitContent) → slice_get (units_of_trees ts) n ≡ Some u → is_counted u ≡ true
counted_trees no_trees n u e = absurd cc
counted_trees (tree t ts) zero u e = ap is_counted (one e)
  where
    one : {x y : UnitContent} → Some x ≡ Some y → y ≡ x
    one f = cc
counted_trees (tree t ts) (suc n) u e = counted_trees ts n u e

counted_map : {X : Type 0} (f : X → UnitContent) → ((x : X) → is_counted (f x) ≡ true) → (xs : List X) (n : ℕ) (u : UnitContent) → slice_get (map f xs) n ≡ Some u → is_counted u ≡ true
counted_map f counts [] n u e = absurd cc
counted_map f counts (x ∷ xs) zero u e = ap is_counted (one e) ∙ counts x
  where
    one : {x y : UnitContent} → Some x ≡ Some y → y ≡ x
    one f = cc
counted_map f counts (x ∷ xs) (suc n) u e = counted_map f counts xs n u e

counted_deleted : (count n : ℕ) (u : UnitContent) → slice_get (deleted_units count) n ≡ Some u → is_counted u ≡ false
counted_deleted zero n u e = absurd cc
counted_deleted (suc count) zero u e = ap is_counted (one e)
  where
    one : {x y : UnitContent} → Some x ≡ Some y → y ≡ x
    one f = cc
counted_deleted (suc count) (suc n) u e = counted_deleted count n u e

counted_one : (v u : UnitContent) (n : ℕ) → slice_get (v ∷ []) n ≡ Some u → is_counted u ≡ is_counted v
counted_one v u zero e = ap is_counted (one e)
  where
    one : Some v ≡ Some u → u ≡ v
    one f = cc
counted_one v u (suc n) e = absurd cc

pub counted_at : (c : Content) (n : ℕ) (u : UnitContent) → slice_get (units_of_content (content_value c)) n ≡ Some u → is_counted u ≡ are_counted c
counted_at (Json units) n u e = counted_map json_unit (λ x. refl) (map unit_value units) n u e
counted_at (Binary blob) n u e = counted_one _ u n e
counted_at (Str units) n u e = counted_map text_unit (λ x. refl) units n u e
counted_at (Embed value) n u e = counted_one _ u n e
counted_at (Format key value) n u e = counted_one _ u n e
counted_at (Nested kind) n u e = counted_one _ u n e
counted_at (Any values) n u e = counted_trees (any_trees values) n u e
counted_at (Deleted count) n u e = counted_deleted count n u e

-- what stands under a key whose last unit is lent so
pub under_last : (show : Operation → AnyTree) (d : Document) (p : Parent) (key : List ℕ) (u : Lent) → IsLast d (d.units (key_list p key)) u →
    ((o : Operation) → show (bare o.id o.content) ≡ show o) →
    value_under show d p key ≡ (if not u.is_deleted && is_counted u.content then Some (show (bare u.id u.content)) else None)
under_last show d p key u (o, last, same) alike =
    ap (λ l. option_map show (if_shown d.deleted l)) last
    ∙ go (not (d.deleted o.id) && is_counted o.content)
    ∙ ap (λ t. if t then Some (show (bare o.id o.content)) else None) (ap (λ (l : Lent). not l.is_deleted && is_counted l.content) same)
    ∙ ap (λ (l : Lent). if not u.is_deleted && is_counted u.content then Some (show (bare l.id l.content)) else None) same
  where
    go : (t : Bool) → option_map show (if t then Some o else None) ≡ (if t then Some (show (bare o.id o.content)) else None)
    go true = ap (λ v. Some v) (sym (alike o))
    go false = refl

-- nothing stands under a key without units
pub under_none : (show : Operation → AnyTree) (d : Document) (p : Parent) (key : List ℕ) → lent_units d (key_list p key) ≡ [] → None ≡ value_under show d p key
under_none show d p key e = sym (ap (λ os. option_map show (if_shown d.deleted (last_unit os))) (none_lent d (d.units (key_list p key)) e))

plain_one : (v u : UnitContent) (n : ℕ) → slice_get (v ∷ []) n ≡ Some u → is_nested v ≡ false → is_nested u ≡ false
plain_one v u zero e plain = ap is_nested (one e) ∙ plain
  where
    one : Some v ≡ Some u → u ≡ v
    one f = cc
plain_one v u (suc n) e plain = absurd cc

plain_map : {X : Type 0} (f : X → UnitContent) → ((x : X) → is_nested (f x) ≡ false) → (xs : List X) (n : ℕ) (u : UnitContent) → slice_get (map f xs) n ≡ Some u → is_nested u ≡ false
plain_map f plain [] n u e = absurd cc
plain_map f plain (x ∷ xs) zero u e = plain_one (f x) u zero e (plain x)
plain_map f plain (x ∷ xs) (suc n) u e = plain_map f plain xs n u e

plain_trees : (ts : AnyTrees) (n : ℕ) (u : UnitContent) → slice_get (units_of_trees ts) n ≡ Some u → is_nested u ≡ false
plain_trees no_trees n u e = absurd cc
plain_trees (tree t ts) zero u e = plain_one (any_unit t) u zero e refl
plain_trees (tree t ts) (suc n) u e = plain_trees ts n u e

plain_deleted : (count n : ℕ) (u : UnitContent) → slice_get (deleted_units count) n ≡ Some u → is_nested u ≡ false
plain_deleted zero n u e = absurd cc
plain_deleted (suc count) zero u e = plain_one deleted_unit u zero e refl
plain_deleted (suc count) (suc n) u e = plain_deleted count n u e

-- a content that is no type has no unit that is one
pub not_nested : (c : Content) → ((kind : Kind) → c ≢ Nested kind) → (n : ℕ) (u : UnitContent) → slice_get (units_of_content (content_value c)) n ≡ Some u → is_nested u ≡ false
not_nested (Json units) other n u e = plain_map json_unit (λ x. refl) (map unit_value units) n u e
not_nested (Binary blob) other n u e = plain_one _ u n e refl
not_nested (Str units) other n u e = plain_map text_unit (λ x. refl) units n u e
not_nested (Embed value) other n u e = plain_one _ u n e refl
not_nested (Format key value) other n u e = plain_one _ u n e refl
not_nested (Nested kind) other n u e = absurd (other kind refl)
not_nested (Any values) other n u e = plain_trees (any_trees values) n u e
not_nested (Deleted count) other n u e = plain_deleted count n u e

-- the value under a key, by the piece of its last unit
pub under_piece : (show : Operation → AnyTree) (d : Document) (p : Parent) (key : List ℕ) (view : RunView) (left front : List Lent) → ((o : Operation) → show (bare o.id o.content) ≡ show o) →
    IsWithin view → view.len ≡ 1 → left ≡ lent_units d (key_list p key) → left ≡ front ++ units_of_view view →
    value_under show d p key ≡ (if not view.deleted && are_counted view.content.now then Some (show (bare view.id (unit_of_view view).content)) else None)
under_piece show d p key view left front alike within one lends last =
    under_last show d p key (unit_of_view view) (last_is_lent d (key_list p key) view left front within one lends last) alike
    ∙ ap (λ t. if not view.deleted && t then Some (show (bare view.id (unit_of_view view).content)) else None)
    (counted_at view.content.now view.offset (unit_of_view view).content (unit_got view within one))

-- so it is shown where it is live and counted, and else nothing is
pub under_shown : (show : Operation → AnyTree) (d : Document) (p : Parent) (key : List ℕ) (view : RunView) (left front : List Lent) → ((o : Operation) → show (bare o.id o.content) ≡ show o) →
    IsWithin view → view.len ≡ 1 → left ≡ lent_units d (key_list p key) → left ≡ front ++ units_of_view view → not view.deleted && are_counted view.content.now ≡ true →
    Some (show (bare view.id (unit_of_view view).content)) ≡ value_under show d p key
under_shown show d p key view left front alike within one lends last is =
    sym (under_piece show d p key view left front alike within one lends last ∙ ap (λ t. if t then Some (show (bare view.id (unit_of_view view).content)) else None) is)

pub under_hidden : (show : Operation → AnyTree) (d : Document) (p : Parent) (key : List ℕ) (view : RunView) (left front : List Lent) → ((o : Operation) → show (bare o.id o.content) ≡ show o) →
    IsWithin view → view.len ≡ 1 → left ≡ lent_units d (key_list p key) → left ≡ front ++ units_of_view view → not view.deleted && are_counted view.content.now ≡ false →
    None ≡ value_under show d p key
under_hidden show d p key view left front alike within one lends last is =
    sym (under_piece show d p key view left front alike within one lends last ∙ ap (λ t. if t then Some (show (bare view.id (unit_of_view view).content)) else None) is)

-- a type is the one unit of its content
pub nested_unit : (view : RunView) (kind : Kind) → view.content.now ≡ Nested kind → IsWithin view → view.len ≡ 1 → (unit_of_view view).content ≡ nested_type kind
nested_unit view kind e within one =
    ap (λ v. get_or (units_of_content (content_value v)) view.offset gone_unit) e ∙ ap (λ n. get_or (nested_type kind ∷ []) n gone_unit) first
  where
    many : view.offset + view.len ≤ 1
    many = subst (λ v. view.offset + view.len ≤ len_of (content_value v)) e within.units

    first : view.offset ≡ 0
    first = omega (arith, many, one)

-- ---- keys

-- behind all keys none is left
pub no_more : (n : ℕ) (ks : List (List ℕ)) → length ks ≤ n → drop n ks ≡ []
no_more n [] le = none n
  where
    none : (m : ℕ) → drop {A = List ℕ} m [] ≡ []
    none zero = refl
    none (suc m) = refl
no_more zero (k ∷ ks) le = absurd (omega (arith, le))
no_more (suc n) (k ∷ ks) le = no_more n ks (omega (arith, le))
