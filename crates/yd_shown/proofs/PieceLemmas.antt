-- The pieces of a delta and of a list: their text, and that neighbouring text differs.
use Rattle.std.proofs.Common.{◌≡◌, ◌≢◌, ℕ, Bool, true, false, List, [], ◌∷◌, ◌++◌, refl, sym, ap, ◌∙◌, subst, arith, true≢false}
use Rattle.std.specs.Prelude.{if◌then◌else◌}
use Rattle.yd_any.specs.Tree.{AnyTree, AnyFields, no_fields}
use Rattle.yd_ops.specs.Operation.{UnitContent, text_unit, any_unit, json_unit, bytes, embedded, mark, nested_type, deleted_unit, gone_unit, Operation}
use Rattle.yd_any.specs.Same.{same_fields}
use Rattle.yd_shown.specs.Seen.{text_before, text_units}
use Rattle.yd_shown.specs.Pieces.{Piece, text_piece, value_piece, unit_before, attributes_after, delta_before, delta_pieces, value_before, list_pieces, units_of_pieces}
use Rattle.yd_shown.specs.Cut.{AreApart, each_unit, cut_pieces, delta_unit, delta_units, list_unit, list_units, ArePiecesOf}
use Rattle.yd_any.proofs.SameLemmas.{fields_is, fields_itself}

-- ---- text

unit_text : (u : ℕ) (a : AnyFields) (ps : List Piece) → units_of_pieces (unit_before u a ps) ≡ u ∷ units_of_pieces ps
unit_text u a [] = refl
unit_text u a (value_piece t b ∷ ps) = refl
unit_text u a (text_piece us b ∷ ps) = go (same_fields a b)
  where
    go : (t : Bool) → units_of_pieces (if t then text_piece (u ∷ us) b ∷ ps else text_piece (u ∷ []) a ∷ text_piece us b ∷ ps) ≡ u ∷ (us ++ units_of_pieces ps)
    go true = refl
    go false = refl

delta_text-one : (show : Operation → AnyTree) (a : AnyFields) (o : Operation) (c : UnitContent) (ps : List Piece) →
    units_of_pieces (delta_before show a o c ps) ≡ text_before c (units_of_pieces ps)
delta_text-one show a o (text_unit u) ps = unit_text u a ps
delta_text-one show a o (any_unit t) ps = refl
delta_text-one show a o (json_unit t) ps = refl
delta_text-one show a o (bytes b) ps = refl
delta_text-one show a o (embedded t) ps = refl
delta_text-one show a o (mark k t) ps = refl
delta_text-one show a o (nested_type kind) ps = refl
delta_text-one show a o deleted_unit ps = refl
delta_text-one show a o gone_unit ps = refl

delta_text : (show : Operation → AnyTree) (a : AnyFields) (os : List Operation) → units_of_pieces (delta_pieces show a os) ≡ text_units os
delta_text show a [] = refl
delta_text show a (o ∷ os) = delta_text-one show a o o.content (delta_pieces show (attributes_after a o.content) os)
    ∙ ap (text_before o.content) (delta_text show (attributes_after a o.content) os)

list_text-one : (show : Operation → AnyTree) (o : Operation) (c : UnitContent) (ps : List Piece) →
    units_of_pieces (value_before show o c ps) ≡ text_before c (units_of_pieces ps)
list_text-one show o (text_unit u) ps = unit_text u no_fields ps
list_text-one show o (any_unit t) ps = refl
list_text-one show o (json_unit t) ps = refl
list_text-one show o (bytes b) ps = refl
list_text-one show o (embedded t) ps = refl
list_text-one show o (mark k t) ps = refl
list_text-one show o (nested_type kind) ps = refl
list_text-one show o deleted_unit ps = refl
list_text-one show o gone_unit ps = refl

list_text : (show : Operation → AnyTree) (os : List Operation) → units_of_pieces (list_pieces show os) ≡ text_units os
list_text show [] = refl
list_text show (o ∷ os) = list_text-one show o o.content (list_pieces show os) ∙ ap (text_before o.content) (list_text show os)

-- ---- neighbours

-- fields that the test tells apart are two
two_fields : (a b : AnyFields) → same_fields a b ≡ false → a ≢ b
two_fields a b e one = true≢false (sym (fields_itself b) ∙ subst (λ x. same_fields x b ≡ false) one e)

unit_apart : (u : ℕ) (a : AnyFields) (ps : List Piece) → AreApart ps → AreApart (unit_before u a ps)
unit_apart u a [] apart = (omega arith, tt, tt)
unit_apart u a (value_piece t b ∷ ps) apart = (omega arith, tt, apart)
unit_apart u a (text_piece us b ∷ ps) apart = go (same_fields a b) refl
  where
    go : (t : Bool) → same_fields a b ≡ t → AreApart (if t then text_piece (u ∷ us) b ∷ ps else text_piece (u ∷ []) a ∷ text_piece us b ∷ ps)
    go true e = (omega arith, apart.1, apart.2)
    go false e = (omega arith, two_fields a b e, apart)

delta_apart-one : (show : Operation → AnyTree) (a : AnyFields) (o : Operation) (c : UnitContent) (ps : List Piece) → AreApart ps → AreApart (delta_before show a o c ps)
delta_apart-one show a o (text_unit u) ps apart = unit_apart u a ps apart
delta_apart-one show a o (any_unit t) ps apart = apart
delta_apart-one show a o (json_unit t) ps apart = apart
delta_apart-one show a o (bytes b) ps apart = apart
delta_apart-one show a o (embedded t) ps apart = apart
delta_apart-one show a o (mark k t) ps apart = apart
delta_apart-one show a o (nested_type kind) ps apart = apart
delta_apart-one show a o deleted_unit ps apart = apart
delta_apart-one show a o gone_unit ps apart = apart

delta_apart : (show : Operation → AnyTree) (a : AnyFields) (os : List Operation) → AreApart (delta_pieces show a os)
delta_apart show a [] = tt
delta_apart show a (o ∷ os) = delta_apart-one show a o o.content (delta_pieces show (attributes_after a o.content) os) (delta_apart show (attributes_after a o.content) os)

list_apart-one : (show : Operation → AnyTree) (o : Operation) (c : UnitContent) (ps : List Piece) → AreApart ps → AreApart (value_before show o c ps)
list_apart-one show o (text_unit u) ps apart = unit_apart u no_fields ps apart
list_apart-one show o (any_unit t) ps apart = apart
list_apart-one show o (json_unit t) ps apart = apart
list_apart-one show o (bytes b) ps apart = apart
list_apart-one show o (embedded t) ps apart = apart
list_apart-one show o (mark k t) ps apart = apart
list_apart-one show o (nested_type kind) ps apart = apart
list_apart-one show o deleted_unit ps apart = apart
list_apart-one show o gone_unit ps apart = apart

list_apart : (show : Operation → AnyTree) (os : List Operation) → AreApart (list_pieces show os)
list_apart show [] = tt
list_apart show (o ∷ os) = list_apart-one show o o.content (list_pieces show os) (list_apart show os)

-- ---- unit by unit

unit_cut : (u : ℕ) (a : AnyFields) (ps : List Piece) → cut_pieces (unit_before u a ps) ≡ text_piece (u ∷ []) a ∷ cut_pieces ps
unit_cut u a [] = refl
unit_cut u a (value_piece t b ∷ ps) = refl
unit_cut u a (text_piece us b ∷ ps) = go (same_fields a b) refl
  where
    go : (t : Bool) → same_fields a b ≡ t → cut_pieces (if t then text_piece (u ∷ us) b ∷ ps else text_piece (u ∷ []) a ∷ text_piece us b ∷ ps)
        ≡ text_piece (u ∷ []) a ∷ each_unit us b (cut_pieces ps)
    go true e = ap (λ c. text_piece (u ∷ []) c ∷ each_unit us b (cut_pieces ps)) (sym (fields_is a b e))
    go false e = refl

delta_cut-one : (show : Operation → AnyTree) (a : AnyFields) (o : Operation) (c : UnitContent) (ps : List Piece) →
    cut_pieces (delta_before show a o c ps) ≡ delta_unit show a o c (cut_pieces ps)
delta_cut-one show a o (text_unit u) ps = unit_cut u a ps
delta_cut-one show a o (any_unit t) ps = refl
delta_cut-one show a o (json_unit t) ps = refl
delta_cut-one show a o (bytes b) ps = refl
delta_cut-one show a o (embedded t) ps = refl
delta_cut-one show a o (mark k t) ps = refl
delta_cut-one show a o (nested_type kind) ps = refl
delta_cut-one show a o deleted_unit ps = refl
delta_cut-one show a o gone_unit ps = refl

delta_cut : (show : Operation → AnyTree) (a : AnyFields) (os : List Operation) → cut_pieces (delta_pieces show a os) ≡ delta_units show a os
delta_cut show a [] = refl
delta_cut show a (o ∷ os) = delta_cut-one show a o o.content (delta_pieces show (attributes_after a o.content) os)
    ∙ ap (delta_unit show a o o.content) (delta_cut show (attributes_after a o.content) os)

list_cut-one : (show : Operation → AnyTree) (o : Operation) (c : UnitContent) (ps : List Piece) →
    cut_pieces (value_before show o c ps) ≡ list_unit show o c (cut_pieces ps)
list_cut-one show o (text_unit u) ps = unit_cut u no_fields ps
list_cut-one show o (any_unit t) ps = refl
list_cut-one show o (json_unit t) ps = refl
list_cut-one show o (bytes b) ps = refl
list_cut-one show o (embedded t) ps = refl
list_cut-one show o (mark k t) ps = refl
list_cut-one show o (nested_type kind) ps = refl
list_cut-one show o deleted_unit ps = refl
list_cut-one show o gone_unit ps = refl

list_cut : (show : Operation → AnyTree) (os : List Operation) → cut_pieces (list_pieces show os) ≡ list_units show os
list_cut show [] = refl
list_cut show (o ∷ os) = list_cut-one show o o.content (list_pieces show os) ∙ ap (list_unit show o o.content) (list_cut show os)

-- ---- lemmas for callers

pub delta_is : (show : Operation → AnyTree) (a : AnyFields) (os : List Operation) → ArePiecesOf os (delta_units show a os) (delta_pieces show a os)
delta_is show a os = record { text = delta_text show a os; cut = delta_cut show a os; apart = delta_apart show a os }

pub list_is : (show : Operation → AnyTree) (os : List Operation) → ArePiecesOf os (list_units show os) (list_pieces show os)
list_is show os = record { text = list_text show os; cut = list_cut show os; apart = list_apart show os }
