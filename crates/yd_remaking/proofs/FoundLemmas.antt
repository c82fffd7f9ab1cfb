-- A group is found piece by piece.
use Rattle.std.proofs.Common.{◌≡◌, ℕ, zero, suc, ◌+◌, ◌-◌, ◌<◌, ◌≤◌, min, Bool, true, false, List, [], ◌∷◌, ◌++◌, take, drop, length, Option, inl, inr, refl, sym, ap, ◌∙◌, subst, arith, append_assoc, append-nil}
use Rattle.std.proofs.lemmas.Bool.{cases_lt}
use Rattle.std.proofs.lemmas.List.{drop-take, length-append, length-take-le, length-drop}
use Rattle.yd_words.specs.Each.{Each}
use Rattle.yd_words.proofs.EachLemmas.{each_append}
use Rattle.yd_ids.specs.declared.id.Id.{Id}
use Rattle.yd_ops.specs.Operation.{UnitContent, later_id, units_of_content}
use Rattle.yd_ops.specs.Value.{ContentValue, json, binary, string, embed, format, nested, any, deleted}
use Rattle.yd_ops.specs.View.{content_value}
use Rattle.yd_ops.proofs.OperationLemmas.{length-units_of_content}
use Rattle.yd_grouping.specs.Groupable.{IsValidUnitContent}
use Rattle.yd_state.specs.declared.listing.RunView.{RunView}
use Rattle.yd_state.specs.Lent.{Lent, lent_from, units_of_view, IsWithin}
use Rattle.yd_copying.specs.Piece.{IsPiece, can_make, content_kind, piece_units, pieces_units}
use Rattle.yd_copying.specs.declared.pieces.Piece.{Piece}
use Rattle.yd_remaking.specs.Found.{GoesOn, view_units, units_behind, group_behind_of}
use Rattle.yd_remaking.specs.Group.{units_from, row_behind}
use Rattle.yd_remaking.specs.Parts.{contents_of, part_of}
use Rattle.yd_remaking.specs.Rows.{HoldValid, last_in_row, unit_before}
use Rattle.yd_remaking.proofs.GroupLemmas.{row_units, row_stops, group_units, group_none, contents_lent, length_lent, contents_both, row_behind_part, units_passed, units_found}
use Rattle.yd_remaking.proofs.KindLemmas.{IsOf, part_is, one_alone, each_taken, each_dropped}
use Rattle.yd_remaking.proofs.RowLemmas.{is_in_row, length_view, InRange, none_in_row, behind_first, before_found, before_passed}

-- ---- parts of a piece

take_take : {X : Type 0} (n m : ℕ) (xs : List X) → take (min n m) xs ≡ take m (take n xs)
take_take n m [] = nil (min n m) ∙ sym (ap (take m) (nil n) ∙ nil m)
  where
    nil : {Y : Type 0} (k : ℕ) → take {A = Y} k [] ≡ []
    nil zero = refl
    nil (suc k) = refl
take_take zero zero (x ∷ xs) = let none : min 0 0 ≡ 0 = omega arith in ap (λ k. take k (x ∷ xs)) none
take_take zero (suc m) (x ∷ xs) = let none : min 0 (suc m) ≡ 0 = omega arith in ap (λ k. take k (x ∷ xs)) none
take_take (suc n) zero (x ∷ xs) = let none : min (suc n) 0 ≡ 0 = omega arith in ap (λ k. take k (x ∷ xs)) none
take_take (suc n) (suc m) (x ∷ xs) = let both : min (suc n) (suc m) ≡ suc (min n m) = omega arith in ap (λ k. take k (x ∷ xs)) both ∙ ap (λ ys. x ∷ ys) (take_take n m xs)

drop_drop : {X : Type 0} (n m : ℕ) (xs : List X) → drop (n + m) xs ≡ drop m (drop n xs)
drop_drop zero m xs = let same : 0 + m ≡ m = omega arith in ap (λ k. drop k xs) same
drop_drop (suc n) m [] = let same : suc n + m ≡ suc (n + m) = omega arith in ap (λ k. drop k []) same ∙ sym (nil m)
  where
    nil : {Y : Type 0} (k : ℕ) → drop {A = Y} k [] ≡ []
    nil zero = refl
    nil (suc k) = refl
drop_drop (suc n) m (x ∷ xs) = let same : suc n + m ≡ suc (n + m) = omega arith in ap (λ k. drop k (x ∷ xs)) same ∙ drop_drop n m xs

-- a part of a piece has its units from there on, no more than so many
pub part_units : (view : RunView) (s m : ℕ) → s ≤ view.len → piece_units (part_of view s m) ≡ take m (drop s (view_units view))
part_units view s m le =
    ap (take (min (view.len - s) m)) (drop_drop view.offset s units) ∙ take_take (view.len - s) m (drop s (drop view.offset units))
    ∙ ap (take m) (sym (drop-take s (view.len - s) (drop view.offset units)) ∙ ap (λ n. drop s (take n (drop view.offset units))) all)
  where
    units : List UnitContent
    units = units_of_content (content_value view.content.now)

    all : s + (view.len - s) ≡ view.len
    all = omega (arith, le)

-- ---- validity

valid_both : (us vs : List Lent) → HoldValid (us ++ vs) → HoldValid us × HoldValid vs
valid_both [] vs each = (tt, each)
valid_both (u ∷ us) vs each = let (a, b) = valid_both us vs each.1 in ((each.0, a), b)

valid_lent : (id : Id) (d : Bool) (us : List UnitContent) → HoldValid (lent_from id d us) → Each IsValidUnitContent us
valid_lent id d [] each = tt
valid_lent id d (u ∷ us) each = (each.0, valid_lent (later_id id 1) d us each.1)

pub valid_left : (view : RunView) (new : List Lent) → HoldValid (units_of_view view ++ new) → HoldValid new
valid_left view new each = (valid_both (units_of_view view) new each).1

pub valid_view : (view : RunView) (new : List Lent) → HoldValid (units_of_view view ++ new) → Each IsValidUnitContent (view_units view)
valid_view view new each = valid_lent view.id view.deleted (view_units view) (valid_both (units_of_view view) new each).0

-- ---- pieces

view_are : (view : RunView) → Each (IsOf (content_kind (content_value view.content.now)) (can_make (content_value view.content.now))) (view_units view)
view_are view = part_is view.offset view.len (content_value view.content.now)

kind_makes : (content : ContentValue) → 0 < content_kind content → can_make content ≡ true
kind_makes (string us) some = refl
kind_makes (any ts) some = refl
kind_makes (json vs) some = refl
kind_makes (deleted count) some = absurd (omega (arith, some))
kind_makes (binary blob) some = refl
kind_makes (embed value) some = refl
kind_makes (format key value) some = refl
kind_makes (nested kind) some = absurd (omega (arith, some))

pub part_is_piece : (view : RunView) (s m : ℕ) (new : List Lent) → IsWithin view → s < view.len → 0 < m → can_make (content_value view.content.now) ≡ true → HoldValid (units_of_view view ++ new) →
    IsPiece (content_kind (content_value view.content.now)) (part_of view s m)
part_is_piece view s m new within lt more makes valid = record {
  some = omega (arith, lt, more);
  within = omega (arith, lt, within.units);
  kind_is = refl;
  makeable = makes;
  valid = subst (Each IsValidUnitContent) (sym (part_units view s m (omega (arith, lt))))
      (each_taken IsValidUnitContent m (drop s (view_units view)) (each_dropped IsValidUnitContent s (view_units view) (valid_view view new valid)));
}

pub pieces_last : (ps : List Piece) (p : Piece) → pieces_units (ps ++ p ∷ []) ≡ pieces_units ps ++ piece_units p
pieces_last [] p = append-nil (piece_units p)
pieces_last (q ∷ ps) p = ap (λ us. piece_units q ++ us) (pieces_last ps p) ∙ sym (append_assoc (piece_units q) (pieces_units ps) (piece_units p))

-- ---- what goes on

pub fewer : (view : RunView) (old new : List Lent) → 0 < view.len → IsWithin view → old ≡ units_of_view view ++ new → length new < length old
fewer view old new some within e = omega (arith, some, ap length e, length-append (units_of_view view) new, length_lent view.id view.deleted (view_units view), length_view view within)

pub stopped_there : (view : RunView) (old new : List Lent) (kind : ℕ) (next : Id) (m : ℕ) → 0 < view.len → IsWithin view → old ≡ units_of_view view ++ new → (GoesOn view kind next → ⊥) →
    row_behind kind next m old ≡ []
stopped_there view old new kind next m some within e none = ap (row_behind kind next m) e
    ∙ row_stops kind next view.id view.deleted (content_kind (content_value view.content.now)) (can_make (content_value view.content.now)) (view_units view) new m
    (omega (arith, some, length_view view within)) (view_are view) (λ k same is. none (k, same, is))

-- the row over a piece that goes on, and what goes on behind it
pub row_over_piece : (view : RunView) (old new : List Lent) (kind : ℕ) (next : Id) (m : ℕ) → IsWithin view → old ≡ units_of_view view ++ new → GoesOn view kind next →
    row_behind kind next m old ≡ lent_from view.id view.deleted (take m (view_units view)) ++ row_behind kind (later_id next (min (view.len - 0) m)) (m - min (view.len - 0) m) new
row_over_piece view old new kind next m within e (some, same, is) =
    (λ i. row_behind kind (sym same i) m (e i))
    ∙ row_units kind (can_make (content_value view.content.now)) view.id view.deleted (view_units view) new m some
    (subst (λ k. Each (IsOf k (can_make (content_value view.content.now))) (view_units view)) is (view_are view))
    ∙ ap (λ ls. lent_from view.id view.deleted (take m (view_units view)) ++ ls)
    (ap (λ n. row_behind kind (later_id view.id n) (m - n) new) long ∙ row_behind_part kind view.id (view.len - 0) m new ∙ (λ i. row_behind kind (later_id (same i) (min (view.len - 0) m)) (m - min (view.len - 0) m) new))
  where
    long : length (view_units view) ≡ view.len - 0
    long = omega (arith, length_view view within)

-- the same of contents, as a piece is pushed
pub row_pushed : (view : RunView) (old new : List Lent) (kind : ℕ) (next : Id) (m : ℕ) (ps qs : List Piece) (p : Piece) → IsWithin view → old ≡ units_of_view view ++ new → GoesOn view kind next →
    p ≡ part_of view 0 m → qs ≡ ps ++ p ∷ [] →
    pieces_units qs ++ contents_of (row_behind kind (record { client = next.client; clock = next.clock + p.len }) (m - p.len) new) ≡ pieces_units ps ++ contents_of (row_behind kind next m old)
row_pushed view old new kind next m ps qs p within e on is q =
    (λ i. pieces_units ((q ∙ ap (λ z. ps ++ z ∷ []) is) i) ++ contents_of (row_behind kind (later_id next ((is i).len)) (m - (is i).len) new))
    ∙ ap (λ us. us ++ rest) (pieces_last ps (part_of view 0 m) ∙ ap (λ us. pieces_units ps ++ us) (part_units view 0 m (omega arith)))
    ∙ append_assoc (pieces_units ps) (take m (view_units view)) rest
    ∙ ap (λ us. pieces_units ps ++ us) (ap (λ us. us ++ rest) (sym (contents_lent view.id view.deleted (take m (view_units view))))
    ∙ sym (contents_both (lent_from view.id view.deleted (take m (view_units view))) behind) ∙ ap contents_of (sym (row_over_piece view old new kind next m within e on)))
  where
    behind : List Lent
    behind = row_behind kind (later_id next (min (view.len - 0) m)) (m - min (view.len - 0) m) new

    rest : List UnitContent
    rest = contents_of behind

length_part : (view : RunView) (s m : ℕ) → IsWithin view → s ≤ view.len → length (take m (drop s (view_units view))) ≡ min (view.len - s) m
length_part view s m within le = ap length (sym (part_units view s m le)) ∙ length-take-le (min (view.len - s) m) (drop (view.offset + s) units)
    (omega (arith, le, within.units, length-units_of_content (content_value view.content.now), length-drop (view.offset + s) units))
  where
    units : List UnitContent
    units = units_of_content (content_value view.content.now)

pub row_counted : (view : RunView) (old new : List Lent) (kind : ℕ) (next : Id) (m : ℕ) (p : Piece) → IsWithin view → old ≡ units_of_view view ++ new → GoesOn view kind next →
    p ≡ part_of view 0 m → p.len + length (row_behind kind (record { client = next.client; clock = next.clock + p.len }) (m - p.len) new) ≡ length (row_behind kind next m old)
row_counted view old new kind next m p within e on is =
    (λ i. (is i).len + length (row_behind kind (later_id next ((is i).len)) (m - (is i).len) new))
    ∙ ap (λ n. n + length behind) (sym (length_part view 0 m within (omega arith)) ∙ sym (length_lent view.id view.deleted (take m (view_units view))))
    ∙ sym (length-append (lent_from view.id view.deleted (take m (view_units view))) behind)
    ∙ ap length (sym (row_over_piece view old new kind next m within e on))
  where
    behind : List Lent
    behind = row_behind kind (later_id next (min (view.len - 0) m)) (m - min (view.len - 0) m) new

-- ---- the group

pub group_there : (view : RunView) (rest : List Lent) (s m : ℕ) → IsWithin view → s < view.len → 0 < m → can_make (content_value view.content.now) ≡ true →
    group_behind_of view s m rest ≡ lent_from (later_id view.id s) view.deleted (take m (drop s (view_units view)))
    ++ row_behind (content_kind (content_value view.content.now)) (later_id (later_id view.id s) (min (view.len - s) m)) (m - min (view.len - s) m) rest
group_there view rest s m within lt more makes =
    group_units kind (later_id view.id s) view.deleted us rest m more (omega (arith, lt, long)) (subst (λ t. Each (IsOf kind t) us) makes (each_dropped (IsOf kind (can_make content)) s (view_units view) (view_are view))) alone
    ∙ ap (λ ls. lent_from (later_id view.id s) view.deleted (take m us) ++ ls)
    (ap (λ n. row_behind kind (later_id (later_id view.id s) n) (m - n) rest) long ∙ row_behind_part kind (later_id view.id s) (view.len - s) m rest)
  where
    content : ContentValue
    content = content_value view.content.now

    kind : ℕ
    kind = content_kind content

    us : List UnitContent
    us = drop s (view_units view)

    long : length us ≡ view.len - s
    long = omega (arith, length-drop s (view_units view), length_view view within)

    alone : kind ≡ 0 → length us ≡ 1
    alone e = omega (arith, long, lt, within.units, one_alone content e makes)

pub group_contents : (view : RunView) (rest : List Lent) (s m : ℕ) (us : List UnitContent) (ps : List Piece) (p : Piece) → IsWithin view → s < view.len → 0 < m →
    can_make (content_value view.content.now) ≡ true → p ≡ part_of view s m → ps ≡ p ∷ [] →
    us ≡ pieces_units ps ++ contents_of (row_behind (content_kind (content_value view.content.now)) (record { client = view.id.client; clock = view.id.clock + s + p.len }) (m - p.len) rest) →
    us ≡ contents_of (group_behind_of view s m rest)
group_contents view rest s m us ps p within lt more makes is one e = e
    ∙ (λ i. pieces_units ((one ∙ ap (λ q. q ∷ []) is) i) ++ contents_of (row_behind kind (later_id (later_id view.id s) ((is i).len)) (m - (is i).len) rest))
    ∙ ap (λ vs. vs ++ contents_of behind) (append-nil (piece_units (part_of view s m)) ∙ part_units view s m (omega (arith, lt)) ∙ sym (contents_lent (later_id view.id s) view.deleted (take m (drop s (view_units view)))))
    ∙ sym (contents_both (lent_from (later_id view.id s) view.deleted (take m (drop s (view_units view)))) behind)
    ∙ ap contents_of (sym (group_there view rest s m within lt more makes))
  where
    kind : ℕ
    kind = content_kind (content_value view.content.now)

    behind : List Lent
    behind = row_behind kind (later_id (later_id view.id s) (min (view.len - s) m)) (m - min (view.len - s) m) rest

pub group_counted : (view : RunView) (rest : List Lent) (s m n : ℕ) (p : Piece) → IsWithin view → s < view.len → 0 < m → can_make (content_value view.content.now) ≡ true → p ≡ part_of view s m →
    n ≡ length (row_behind (content_kind (content_value view.content.now)) (record { client = view.id.client; clock = view.id.clock + s + p.len }) (m - p.len) rest) →
    p.len + n ≡ length (group_behind_of view s m rest)
group_counted view rest s m n p within lt more makes is e =
    (λ i. (is i).len + (e ∙ (λ j. length (row_behind kind (later_id (later_id view.id s) ((is j).len)) (m - (is j).len) rest))) i)
    ∙ ap (λ k. k + length behind) (sym (length_part view s m within (omega (arith, lt))) ∙ sym (length_lent (later_id view.id s) view.deleted (take m (drop s (view_units view)))))
    ∙ sym (length-append (lent_from (later_id view.id s) view.deleted (take m (drop s (view_units view)))) behind)
    ∙ ap length (sym (group_there view rest s m within lt more makes))
  where
    kind : ℕ
    kind = content_kind (content_value view.content.now)

    behind : List Lent
    behind = row_behind kind (later_id (later_id view.id s) (min (view.len - s) m)) (m - min (view.len - s) m) rest

-- ---- where it begins

pub from_passed : (view : RunView) (old new : List Lent) (x : Id) → IsWithin view → old ≡ units_of_view view ++ new → (InRange view.id view.len x → ⊥) → units_from x old ≡ units_from x new
from_passed view old new x within e none = ap (units_from x) e ∙ units_passed x view.deleted view.id (view_units view) new
    (ap (λ n. is_in_row view.id n x) (length_view view within) ∙ none_in_row view.id view.len x none)

pub from_found : (view : RunView) (old new : List Lent) (x : Id) → IsWithin view → old ≡ units_of_view view ++ new → InRange view.id view.len x →
    units_from x old ≡ units_behind view (x.clock - view.id.clock) new
from_found view old new x within e inside = ap (units_from x) e ∙ ap (λ y. units_from y (units_of_view view ++ new)) (behind_first view x inside)
    ∙ units_found view.deleted view.id (view_units view) new (x.clock - view.id.clock) (omega (arith, inside.1, inside.2, length_view view within))

pub none_there : (view : RunView) (rest : List Lent) (s m : ℕ) → IsWithin view → s < view.len → can_make (content_value view.content.now) ≡ false → group_behind_of view s m rest ≡ []
none_there view rest s m within lt none = group_none (later_id view.id s) view.deleted (drop s (view_units view)) rest m kind (omega (arith, lt, length-drop s (view_units view), length_view view within))
    (subst (λ t. Each (IsOf kind t) (drop s (view_units view))) none (each_dropped (IsOf kind (can_make (content_value view.content.now))) s (view_units view) (view_are view)))
  where
    kind : ℕ
    kind = content_kind (content_value view.content.now)

-- ---- lemmas for callers: the pieces of a group, and one more

pub grown_pieces : (view : RunView) (kind : ℕ) (next : Id) (m : ℕ) (new : List Lent) (ps qs : List Piece) (p : Piece) → IsWithin view → 0 < view.len → (m ≡ 0 → ⊥) → GoesOn view kind next →
    HoldValid (units_of_view view ++ new) → p ≡ part_of view 0 m → qs ≡ ps ++ p ∷ [] → Each (IsPiece kind) ps → Each (IsPiece kind) qs
grown_pieces view kind next m new ps qs p within some more (k, same, is) valid e q each = subst (Each (IsPiece kind)) (sym q) (each_append (IsPiece kind) ps (p ∷ []) each (piece, tt))
  where
    positive : 0 < m
    positive = elim (cases_lt 0 m) [ inl lt ↦ lt | inr le ↦ absurd (more (omega (arith, le))) ]

    piece : IsPiece kind p
    piece = subst (λ j. IsPiece j p) is (subst (IsPiece (content_kind (content_value view.content.now))) (sym e)
        (part_is_piece view 0 m new within some positive (kind_makes (content_value view.content.now) (subst (λ j. 0 < j) (sym is) k)) valid))

-- the first piece of a group
pub first_piece : (view : RunView) (s m k : ℕ) (new : List Lent) (ps none : List Piece) (p : Piece) → IsWithin view → s < view.len → 0 < m → can_make (content_value view.content.now) ≡ true →
    HoldValid (units_of_view view ++ new) → p ≡ part_of view s m → k ≡ content_kind (content_value view.content.now) → none ≡ [] → ps ≡ none ++ p ∷ [] → Each (IsPiece k) ps × (ps ≡ p ∷ [])
first_piece view s m k new ps none p within lt more makes valid e kind nil q = (subst (Each (IsPiece k)) (sym one) (piece, tt), one)
  where
    one : ps ≡ p ∷ []
    one = q ∙ ap (λ us. us ++ p ∷ []) nil

    piece : IsPiece k p
    piece = subst (λ j. IsPiece j p) (sym kind) (subst (IsPiece (content_kind (content_value view.content.now))) (sym e) (part_is_piece view s m new within lt more makes valid))

-- ---- lemmas for callers: the unit before

pub before_here : (view : RunView) (old new : List Lent) (x : Id) → IsWithin view → old ≡ units_of_view view ++ new → InRange view.id view.len x → (before : Option Id) →
    unit_before x before old ≡ last_in_row before view.id (x.clock - view.id.clock)
before_here view old new x within e inside before = ap (unit_before x before) e ∙ ap (λ y. unit_before y before (units_of_view view ++ new)) (behind_first view x inside)
    ∙ before_found view.deleted view.id (view_units view) new before (x.clock - view.id.clock) (omega (arith, inside.1, inside.2, length_view view within))

pub before_over : (view : RunView) (old new : List Lent) (x : Id) → IsWithin view → old ≡ units_of_view view ++ new → (InRange view.id view.len x → ⊥) → (before : Option Id) →
    unit_before x before old ≡ unit_before x (last_in_row before view.id view.len) new
before_over view old new x within e none before = ap (unit_before x before) e
    ∙ before_passed x view.deleted view.id (view_units view) new before (ap (λ n. is_in_row view.id n x) (length_view view within) ∙ none_in_row view.id view.len x none)
    ∙ ap (λ n. unit_before x (last_in_row before view.id n) new) (length_view view within)
