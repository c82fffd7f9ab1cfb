-- What is made of pieces: their values, and their objects.
use Rattle.std.proofs.Common.{◌≡◌, ◌<◌, ℕ, false, List, [], ◌∷◌, map, length, refl, ap, ◌∙◌, subst, arith, rules}
use Rattle.std.specs.Bool.{◌==◌}
use Rattle.std.proofs.lemmas.Result.{IfOk-weaker}
use Rattle.std.specs.Prelude.{Result, IfOk, codes}
use Rattle.yd_any.specs.Tree.{AnyTree, AnyTrees, AnyFields, list, pairs, no_trees, tree, no_fields, field, with_last}
use Rattle.yd_value.specs.View.{shown_tree, shown_trees, shown_fields, entries_fields}
use Rattle.yd_value.specs.declared.shown.Shown.{Shown, List as Listed, Fields, the_lemmas}
use Rattle.yd_value.specs.declared.shown.ShownList.{ShownList}
use Rattle.yd_value.specs.declared.shown.ShownFields.{ShownFields}
use Rattle.yd_shown.specs.Pieces.{Piece, with_attributes, inserts_of, list_pieces, values_of}
use Rattle.yd_state.specs.Lent.{Lent, lent_units}
use Rattle.yd_words.specs.Member.{IsIn}
use Rattle.yd_ops.specs.ReceivedLaw.{ArePaired}
use Rattle.yd_ops.specs.declared.lists.List.{List as DocList}
use Rattle.yd_ops.specs.declared.lists.Parent.{Parent}
use Rattle.yd_ops.specs.Operation.{Operation}
use Rattle.yd_meaning.specs.Document.{Document}
use Rattle.yd_shown.specs.Seen.{seen_units}
use Rattle.yd_shown.specs.Shown.{own_list, shown_delta, shown_list, map_fields, shown_tree as shown_element, value_within}
use Rattle.yd_modes.specs.Roles.{Delta, Values, pieces_by, live_lent, whole_units}
use Rattle.yd_modes.specs.Gathering.{Told, told, told_values, told_insert, told_inserts}
use Rattle.yd_modes.proofs.RoleLemmas.{by_delta, by_list}
use Rattle.yd_modes.proofs.SeenLemmas.{pieces_seen}

-- ---- rows

-- trees in front of others
abbrev pub joined_trees : AnyTrees → AnyTrees → AnyTrees
joined_trees no_trees us = us
joined_trees (tree t ts) us = tree t (joined_trees ts us)

pub joined_trees-last : (ts : AnyTrees) (t : AnyTree) (us : AnyTrees) → joined_trees (with_last ts t) us ≡ joined_trees ts (tree t us)
joined_trees-last no_trees t us = refl
joined_trees-last (tree v ts) t us = ap (tree v) (joined_trees-last ts t us)

pub joined_trees-none : (ts : AnyTrees) → joined_trees ts no_trees ≡ ts
joined_trees-none no_trees = refl
joined_trees-none (tree t ts) = ap (tree t) (joined_trees-none ts)

-- none are left where there are none
pub no_items : {X : Type 0} (xs : List X) → length xs ≡ 0 → xs ≡ []
no_items [] e = refl
no_items (x ∷ xs) e = absurd (omega (arith, e))

-- some are there where it is not so
pub some_items : {X : Type 0} (xs : List X) → (length xs == 0) ≡ false → 0 < length xs
some_items [] e = absurd cc
some_items (x ∷ xs) e = omega arith

-- a list's tree has those of its values
pub shown_tree-List : (values : ShownList) → shown_tree (Listed values) ≡ list (shown_trees values)
shown_tree-List values = search (rules, the_lemmas)

-- an object's tree has its fields
pub shown_tree-Fields : (fields : ShownFields) → shown_tree (Fields fields) ≡ pairs (shown_fields fields)
shown_tree-Fields fields = search (rules, the_lemmas)

-- ---- pieces

pub values_told : (ps : List Piece) → told_values (map told ps) ≡ values_of ps
values_told [] = refl
values_told (p ∷ ps) = ap (tree (told p).0) (values_told ps)

pub inserts_told : (ps : List Piece) → told_inserts (map told ps) ≡ inserts_of ps
inserts_told [] = refl
inserts_told (p ∷ ps) = ap (tree (told_insert (told p))) (inserts_told ps)

-- a piece has attributes or none
pub with_none : (es : List (List ℕ × Shown)) (fs : AnyFields) (t : AnyTree) → entries_fields es ≡ fs → length es ≡ 0 → pairs (field (codes "insert") t no_fields) ≡ with_attributes fs t
with_none [] fs t e none = ap (λ gs. with_attributes gs t) e
with_none (x ∷ es) fs t e none = absurd (omega (arith, none))

pub with_some : (es : List (List ℕ × Shown)) (fs : AnyFields) (t : AnyTree) → entries_fields es ≡ fs → 0 < length es →
    pairs (field (codes "attributes") (pairs fs) (field (codes "insert") t no_fields)) ≡ with_attributes fs t
with_some [] fs t e some = absurd (omega (arith, some))
with_some (x ∷ es) fs t e some = subst (λ gs. pairs (field (codes "attributes") (pairs gs) (field (codes "insert") t no_fields)) ≡ with_attributes gs t) e refl

-- ---- what a parent shows

-- what is shown as a tree is shown as the same one
pub same_shown : {E : Type 0} (result : Result Shown E) (t u : AnyTree) → t ≡ u → IfOk result (λ shown. shown_tree shown ≡ t) → IfOk result (λ shown. shown_tree shown ≡ u)
same_shown result t u same = IfOk-weaker result (λ shown. shown_tree shown ≡ t) (λ shown. shown_tree shown ≡ u) (λ shown is. is ∙ same)

pub delta_of : (show : Operation → AnyTree) (d : Document) (p : Parent) (ts : List Told) (l : DocList) → l ≡ own_list p →
    ts ≡ map told (pieces_by Delta show no_fields (seen_units d l)) → list (told_inserts ts) ≡ shown_delta show d p
delta_of show d p ts l own e =
    ap (λ us. list (told_inserts us)) (e ∙ ap (λ m. map told (pieces_by Delta show no_fields (seen_units d m))) own)
    ∙ ap list (inserts_told (pieces_by Delta show no_fields (seen_units d (own_list p))))
    ∙ ap (λ ps. list (inserts_of ps)) (by_delta show no_fields (seen_units d (own_list p)))

-- the values of the units of a parent's own list, as they are lent, are its list
pub list_of : (os : List Operation) (d : Document) (p : Parent) (l : DocList) (most : ℕ) (values : ShownList) (left : List Lent) → l ≡ own_list p → ArePaired os →
    ((o : Operation) → IsIn o (d.units l) → IsIn o os) → left ≡ lent_units d l →
    shown_trees values ≡ told_values (map told (pieces_by Values (value_within most d) no_fields (whole_units false (live_lent left)))) →
    shown_tree (Listed values) ≡ shown_list (value_within most d) d p
list_of os d p l most values left own paired received lends e =
    shown_tree-List values
    ∙ ap list (e ∙ ap (λ us. told_values (map told (pieces_by Values (value_within most d) no_fields (whole_units false (live_lent us))))) lends)
    ∙ ap (λ ps. list (told_values (map told ps))) (pieces_seen os d l paired received Values most no_fields)
    ∙ ap list (values_told (pieces_by Values (value_within most d) no_fields (seen_units d l)))
    ∙ ap (λ ps. list (values_of ps)) (by_list (value_within most d) (seen_units d l))
    ∙ ap (λ m. list (values_of (list_pieces (value_within most d) (seen_units d m)))) own

-- an element or a tree has its fields, its list and what else there is
pub tree_of : (show : Operation → AnyTree) (d : Document) (p : Parent) (more entries : AnyFields) (children : AnyTree) → entries ≡ map_fields show d p → children ≡ shown_list show d p →
    pairs (field (codes "attributes") (pairs entries) (field (codes "children") children more)) ≡ shown_element show d p more
tree_of show d p more entries children of_map of_list = λ i. pairs (field (codes "attributes") (pairs (of_map i)) (field (codes "children") (of_list i) more))
