-- What is gathered: a unit more, and an open text that becomes a piece.
use Rattle.std.proofs.Common.{◌≡◌, ◌≢◌, ◌<◌, ℕ, Bool, true, false, List, [], ◌∷◌, ◌++◌, Option, Some, None, inl, inr, map, length, refl, sym, ap, ◌∙◌, subst, arith, append_assoc, append-nil, true≢false}
use Rattle.std.specs.Prelude.{if◌then◌else◌, not, ◌&&◌, ◌||◌}
use Rattle.yd_any.specs.Tree.{AnyTree, AnyFields}
use Rattle.yd_ids.specs.declared.id.Id.{Id}
use Rattle.yd_ops.specs.Operation.{UnitContent, text_unit, mark, Operation}
use Rattle.yd_ops.specs.Pairs.{is_high, is_low}
use Rattle.yd_state.specs.Lent.{Lent}
use Rattle.yd_any.specs.Same.{same_fields}
use Rattle.yd_shown.specs.Pieces.{Piece, text_piece, value_piece, unit_before, with_attribute}
use Rattle.yd_shown.specs.Cut.{BeginsApart}
use Rattle.yd_any.proofs.SameLemmas.{fields_is, fields_itself}
use Rattle.yd_modes.specs.Roles.{Way, Delta, is_value, sets_attribute, is_idle, role_of, role_before, role_after, pieces_by, bare, joins_next, joins_last, whole_units, AreIdle}
use Rattle.yd_view.specs.declared.halves.Seen.{Seen}
use Rattle.yd_view.specs.declared.halves.Halves.{Halves}
use Rattle.yd_modes.specs.declared.gathering.Gathering.{Gathering}
use Rattle.yd_modes.specs.declared.piece.Piece.{Piece as MadePiece}
use Rattle.yd_view.specs.Halves.{StepsBy, joins_after, shown_last, shown_seen, seen_of, text_unit_of}
use Rattle.yd_modes.specs.Marks.{marks_fields}
use Rattle.yd_modes.specs.Gathering.{Told, told, made, units_before, parts, gathered, IsSilent, IsSettled, Gathers, Closes, Flushes, closed_text, live}
use Rattle.yd_modes.proofs.RoleLemmas.{text_role, no_text_unit, no_next, no_before, last_first, by_other, by_idle}

-- ---- text in front of pieces

-- pieces that begin with a unit begin apart from other attributes
begins_unit : (a b : AnyFields) (unit : ℕ) (ps : List Piece) → a ≢ b → BeginsApart a (unit_before unit b ps)
begins_unit a b unit [] differ = differ
begins_unit a b unit (value_piece t c ∷ ps) differ = differ
begins_unit a b unit (text_piece us c ∷ ps) differ = go (same_fields b c) refl
  where
    go : (t : Bool) → same_fields b c ≡ t → BeginsApart a (if t then text_piece (unit ∷ us) c ∷ ps else text_piece (unit ∷ []) b ∷ text_piece us c ∷ ps)
    go true e = λ one. differ (one ∙ sym (fields_is b c e))
    go false e = differ

-- a text in front of pieces that begin apart is one piece
one_piece : (unit : ℕ) (units : List ℕ) (a : AnyFields) (ps : List Piece) → BeginsApart a ps → units_before (unit ∷ units) a ps ≡ text_piece (unit ∷ units) a ∷ ps
one_piece unit [] a [] apart = refl
one_piece unit [] a (value_piece t b ∷ ps) apart = refl
one_piece unit [] a (text_piece us b ∷ ps) apart = go (same_fields a b) refl
  where
    go : (t : Bool) → same_fields a b ≡ t → (if t then text_piece (unit ∷ us) b ∷ ps else text_piece (unit ∷ []) a ∷ text_piece us b ∷ ps) ≡ text_piece (unit ∷ []) a ∷ text_piece us b ∷ ps
    go true e = absurd (apart (fields_is a b e))
    go false e = refl
one_piece unit (v ∷ vs) a ps apart = ap (unit_before unit a) (one_piece v vs a ps apart)
    ∙ ap (λ t. if t then text_piece (unit ∷ v ∷ vs) a ∷ ps else text_piece (unit ∷ []) a ∷ text_piece (v ∷ vs) a ∷ ps) (fields_itself a)

told_apart : (units : List ℕ) (a : AnyFields) (ps : List Piece) → BeginsApart a ps → map told (units_before units a ps) ≡ closed_text units a ++ map told ps
told_apart [] a ps apart = refl
told_apart (unit ∷ units) a ps apart = ap (map told) (one_piece unit units a ps apart)

-- a text in two parts
units_before-append : (us vs : List ℕ) (a : AnyFields) (ps : List Piece) → units_before (us ++ vs) a ps ≡ units_before us a (units_before vs a ps)
units_before-append [] vs a ps = refl
units_before-append (u ∷ us) vs a ps = ap (unit_before u a) (units_before-append us vs a ps)

-- ---- what is gathered, by its parts

-- a unit that is no text shows nothing
silent_last : (joined joins : Bool) (s : Seen) → s.unit ≡ None → shown_last joined (Some s) joins [] ≡ []
silent_last joined joins s e = ap (λ z. shown_seen joined z joins []) e

-- what is gathered behind a unit that is no text
parts_flushed : (way : Way) (show : Operation → AnyTree) (pieces : List Told) (text : List ℕ) (joined : Bool) (s : Seen) (under marks : AnyFields) (us : List Lent) → s.unit ≡ None →
    parts way show pieces text joined (Some s) under marks us ≡ pieces ++ map told (units_before text under (pieces_by way show marks (whole_units false us)))
parts_flushed way show pieces text joined s under marks us none =
    ap (λ n. pieces ++ map told (units_before (text ++ shown_last joined (Some s) n []) under (pieces_by way show marks (whole_units n us)))) (no_next s us none)
    ∙ ap (λ (l : List ℕ). pieces ++ map told (units_before (text ++ l) under (pieces_by way show marks (whole_units false us)))) (silent_last joined false s none)
    ∙ ap (λ (l : List ℕ). pieces ++ map told (units_before l under (pieces_by way show marks (whole_units false us)))) (append-nil text)

-- what is gathered before a unit that is no text
parts_before : (way : Way) (show : Operation → AnyTree) (pieces : List Told) (text : List ℕ) (joined : Bool) (last : Option Seen) (under marks : AnyFields) (u : Lent) (us : List Lent) → text_unit_of u.content ≡ None →
    parts way show pieces text joined last under marks (u ∷ us)
    ≡ pieces ++ map told (units_before (text ++ shown_last joined last false []) under (role_before show marks (bare u.id u.content) (role_of way u.content)
    (pieces_by way show (role_after marks (role_of way u.content)) (whole_units false us))))
parts_before way show pieces text joined last under marks u us none =
    ap (λ n. pieces ++ map told (units_before (text ++ shown_last joined last n []) under (pieces_by way show marks (whole_units n (u ∷ us)))))
    (last_first last u us ∙ no_before last (seen_of u) none)
    ∙ ap (λ ps. pieces ++ map told (units_before (text ++ shown_last joined last false []) under ps)) (by_other way show marks false u us none)

-- ---- lemmas for callers

-- a text unit came under the attributes of the open text
pub parts_text : (way : Way) (show : Operation → AnyTree) (pieces : List Told) (text : List ℕ) (joined : Bool) (last : Option Seen) (under marks : AnyFields) (id : Id) (unit : ℕ) (us : List Lent) →
    under ≡ marks →
    parts way show pieces (text ++ shown_last joined last (joins_after last (record { id = id; unit = Some unit })) []) (joins_after last (record { id = id; unit = Some unit }))
    (Some (record { id = id; unit = Some unit })) under marks us
    ≡ parts way show pieces text joined last under marks (live id (text_unit unit) ∷ us)
parts_text way show pieces text joined last under marks id unit us same =
    ap (λ ps. pieces ++ map told ps) (
    units_before-append (text ++ shown_last joined last here []) (as_shown ∷ []) under (pieces_by way show marks (whole_units next us))
    ∙ ap (λ a. units_before (text ++ shown_last joined last here []) under (unit_before as_shown a (pieces_by way show marks (whole_units next us)))) same
    ∙ ap (λ r. units_before (text ++ shown_last joined last here []) under (role_before show marks (bare id (text_unit as_shown)) r (pieces_by way show (role_after marks r) (whole_units next us)))) (sym (text_role way as_shown)))
    ∙ ap (λ n. pieces ++ map told (units_before (text ++ shown_last joined last n []) under (pieces_by way show marks (whole_units n (live id (text_unit unit) ∷ us)))))
    (sym (last_first last (live id (text_unit unit)) us))
  where
    here : Bool
    here = joins_after last (record { id = id; unit = Some unit })

    next : Bool
    next = joins_next (record { id = id; unit = Some unit }) us

    as_shown : ℕ
    as_shown = if (is_high unit && not next) || (is_low unit && not here) then 0xFFFD else unit

-- units came that do nothing
pub parts_idle : (way : Way) (show : Operation → AnyTree) (pieces : List Told) (text : List ℕ) (joined : Bool) (last : Option Seen) (under marks : AnyFields) (s : Seen) (came us : List Lent) →
    s.unit ≡ None → 0 < length came → AreIdle way came →
    parts way show pieces (text ++ shown_last joined last false []) false (Some s) under marks us ≡ parts way show pieces text joined last under marks (came ++ us)
parts_idle way show pieces text joined last under marks s [] us none some idle = absurd (omega arith)
parts_idle way show pieces text joined last under marks s (u ∷ came) us none some idle =
    parts_flushed way show pieces (text ++ shown_last joined last false []) false s under marks us none
    ∙ ap (λ ps. pieces ++ map told (units_before (text ++ shown_last joined last false []) under ps)) (sym (by_idle way show marks came us idle.1))
    ∙ ap (λ r. pieces ++ map told (units_before (text ++ shown_last joined last false []) under (role_before show marks (bare u.id u.content) r
    (pieces_by way show (role_after marks r) (whole_units false (came ++ us)))))) (sym idle.0)
    ∙ sym (parts_before way show pieces text joined last under marks u (came ++ us) (no_text_unit way u.content is_idle idle.0 tt))

-- a unit came that sets an attribute
pub parts_mark : (way : Way) (show : Operation → AnyTree) (pieces : List Told) (text : List ℕ) (joined : Bool) (last : Option Seen) (under marks after : AnyFields) (s : Seen) (id : Id) (content : UnitContent)
    (key : List ℕ) (t : AnyTree) (us : List Lent) → s.unit ≡ None → role_of way content ≡ sets_attribute key t → after ≡ role_after marks (sets_attribute key t) →
    parts way show pieces (text ++ shown_last joined last false []) false (Some s) under after us ≡ parts way show pieces text joined last under marks (live id content ∷ us)
parts_mark way show pieces text joined last under marks after s id content key t us none role set =
    parts_flushed way show pieces (text ++ shown_last joined last false []) false s under after us none
    ∙ ap (λ a. pieces ++ map told (units_before (text ++ shown_last joined last false []) under (pieces_by way show a (whole_units false us)))) set
    ∙ ap (λ r. pieces ++ map told (units_before (text ++ shown_last joined last false []) under (role_before show marks (bare id content) r
    (pieces_by way show (role_after marks r) (whole_units false us))))) (sym role)
    ∙ sym (parts_before way show pieces text joined last under marks (live id content) us (no_text_unit way content (sets_attribute key t) role tt))

-- a value came: the open text is a piece, and so is the value
pub parts_value : (way : Way) (show : Operation → AnyTree) (pieces : List Told) (text : List ℕ) (joined : Bool) (last : Option Seen) (under others marks : AnyFields) (s : Seen) (id : Id) (content : UnitContent)
    (value : AnyTree) (us : List Lent) → s.unit ≡ None → role_of way content ≡ is_value → value ≡ show (bare id content) →
    parts way show ((pieces ++ closed_text (text ++ shown_last joined last false []) under) ++ (value, marks) ∷ []) [] false (Some s) others marks us
    ≡ parts way show pieces text joined last under marks (live id content ∷ us)
parts_value way show pieces text joined last under others marks s id content value us none role shows =
    parts_flushed way show ((pieces ++ closed_text whole under) ++ (value, marks) ∷ []) [] false s others marks us none
    ∙ append_assoc (pieces ++ closed_text whole under) ((value, marks) ∷ []) (map told rest)
    ∙ append_assoc pieces (closed_text whole under) ((value, marks) ∷ map told rest)
    ∙ ap (λ v. pieces ++ (closed_text whole under ++ (v, marks) ∷ map told rest)) shows
    ∙ ap (λ (ps : List Told). pieces ++ ps) (sym (told_apart whole under (value_piece (show (bare id content)) marks ∷ rest) tt))
    ∙ ap (λ r. pieces ++ map told (units_before whole under (role_before show marks (bare id content) r (pieces_by way show (role_after marks r) (whole_units false us))))) (sym role)
    ∙ sym (parts_before way show pieces text joined last under marks (live id content) us (no_text_unit way content is_value role tt))
  where
    whole : List ℕ
    whole = text ++ shown_last joined last false []

    rest : List Piece
    rest = pieces_by way show marks (whole_units false us)

-- a last unit that is no text shows nothing
pub silent_shown : (joined joins : Bool) (last : Option Seen) → IsSilent last → shown_last joined last joins [] ≡ []
silent_shown joined joins None silent = refl
silent_shown joined joins (Some s) silent = silent_last joined joins s silent

-- what is gathered behind a last unit that is no text
pub parts_silent : (way : Way) (show : Operation → AnyTree) (pieces : List Told) (text : List ℕ) (joined : Bool) (last : Option Seen) (under marks : AnyFields) (us : List Lent) → IsSilent last →
    parts way show pieces text joined last under marks us ≡ pieces ++ map told (units_before text under (pieces_by way show marks (whole_units false us)))
parts_silent way show pieces text joined None under marks us silent =
    ap (λ (l : List ℕ). pieces ++ map told (units_before l under (pieces_by way show marks (whole_units false us)))) (append-nil text)
parts_silent way show pieces text joined (Some s) under marks us silent = parts_flushed way show pieces text joined s under marks us silent

-- the open text is a piece where a text unit comes under other attributes
pub parts_other : (way : Way) (show : Operation → AnyTree) (pieces : List Told) (text : List ℕ) (joined : Bool) (last : Option Seen) (under others marks : AnyFields) (id : Id) (unit : ℕ) (us : List Lent) →
    IsSilent last → under ≢ marks →
    parts way show (pieces ++ closed_text text under) [] joined last others marks (live id (text_unit unit) ∷ us)
    ≡ parts way show pieces text joined last under marks (live id (text_unit unit) ∷ us)
parts_other way show pieces text joined last under others marks id unit us silent differ =
    ap (λ (l : List ℕ). (pieces ++ closed_text text under) ++ map told (units_before l others rest)) (silent_shown joined first last silent)
    ∙ append_assoc pieces (closed_text text under) (map told rest)
    ∙ ap (λ (ps : List Told). pieces ++ ps) (sym (told_apart text under rest apart))
    ∙ ap (λ (l : List ℕ). pieces ++ map told (units_before l under rest)) (sym (append-nil text))
    ∙ ap (λ (l : List ℕ). pieces ++ map told (units_before (text ++ l) under rest)) (sym (silent_shown joined first last silent))
  where
    first : Bool
    first = joins_last last (live id (text_unit unit) ∷ us)

    next : Bool
    next = joins_next (record { id = id; unit = Some unit }) us

    rest : List Piece
    rest = pieces_by way show marks (whole_units first (live id (text_unit unit) ∷ us))

    as_shown : ℕ
    as_shown = if (is_high unit && not next) || (is_low unit && not first) then 0xFFFD else unit

    apart : BeginsApart under rest
    apart = subst (λ r. BeginsApart under (role_before show marks (bare id (text_unit as_shown)) r (pieces_by way show (role_after marks r) (whole_units next us)))) (sym (text_role way as_shown))
        (begins_unit under marks as_shown (pieces_by way show marks (whole_units next us)) differ)

-- no unit comes any more
pub parts_end : (way : Way) (show : Operation → AnyTree) (pieces : List Told) (text : List ℕ) (joined : Bool) (last : Option Seen) (under marks : AnyFields) →
    pieces ++ closed_text (text ++ shown_last joined last false []) under ≡ parts way show pieces text joined last under marks []
parts_end way show pieces text joined last under marks =
    ap (λ (ps : List Told). pieces ++ ps) (sym (append-nil (closed_text (text ++ shown_last joined last false []) under))
    ∙ sym (told_apart (text ++ shown_last joined last false []) under [] tt))
    ∙ ap (λ n. pieces ++ map told (units_before (text ++ shown_last joined last n []) under [])) (sym (none_behind last))
  where
    none_behind : (last : Option Seen) → joins_last last [] ≡ false
    none_behind None = refl
    none_behind (Some s) = refl

-- ---- the steps of a gathering

fields_differ : (a b : AnyFields) → same_fields a b ≡ false → a ≢ b
fields_differ a b e one = true≢false (sym (fields_itself b) ∙ subst (λ x. same_fields x b ≡ false) one e)

-- the open text was closed before a text unit under other attributes
pub opened : (way : Way) (show : Operation → AnyTree) (old mid : Gathering) (others : AnyFields) (id : Id) (unit : ℕ) (us : List Lent) → Closes old mid → IsSettled old →
    same_fields (marks_fields old.under.items) (marks_fields old.marks.items) ≡ false →
    parts way show (map made mid.pieces.items) mid.halves.shown.items mid.halves.joined mid.halves.last others (marks_fields mid.marks.items) (live id (text_unit unit) ∷ us)
    ≡ gathered way show old (live id (text_unit unit) ∷ us)
opened way show old mid others id unit us closes settled apart =
    (λ i. parts way show (closes.pieces i) (closes.shown i) (closes.joined i) (closes.last i) others (marks_fields (closes.marks i)) (live id (text_unit unit) ∷ us))
    ∙ parts_other way show (map made old.pieces.items) old.halves.shown.items old.halves.joined old.halves.last (marks_fields old.under.items) others (marks_fields old.marks.items) id unit us
    (silent settled) differ
  where
    differ : marks_fields old.under.items ≢ marks_fields old.marks.items
    differ = fields_differ (marks_fields old.under.items) (marks_fields old.marks.items) apart

    silent : IsSettled old → IsSilent old.halves.last
    silent (inl same) = absurd (differ same)
    silent (inr none) = none

-- a text unit came
pub stepped : (way : Way) (show : Operation → AnyTree) (old : Gathering) (halves : Halves) (id : Id) (unit : ℕ) → StepsBy old.halves halves (record { id = id; unit = Some unit }) →
    marks_fields old.under.items ≡ marks_fields old.marks.items → (us : List Lent) →
    parts way show (map made old.pieces.items) halves.shown.items halves.joined halves.last (marks_fields old.under.items) (marks_fields old.marks.items) us
    ≡ gathered way show old (live id (text_unit unit) ∷ us)
stepped way show old halves id unit steps same us =
    (λ i. parts way show (map made old.pieces.items) (steps.shown i) (steps.joined i) (steps.last i) (marks_fields old.under.items) (marks_fields old.marks.items) us)
    ∙ parts_text way show (map made old.pieces.items) old.halves.shown.items old.halves.joined old.halves.last (marks_fields old.under.items) (marks_fields old.marks.items) id unit us same

flushed_silent : (old new : Gathering) (id : Id) → Flushes old new id → IsSilent new.halves.last
flushed_silent old new id flushes = subst IsSilent (sym flushes.last) refl

-- units came that do nothing
pub idled : (way : Way) (show : Operation → AnyTree) (old new : Gathering) (id : Id) (came : List Lent) → Flushes old new id → 0 < length came → AreIdle way came → Gathers way show old new came
idled way show old new id came flushes some idle = record {
  pieces = λ us. (λ i. parts way show (map made (flushes.pieces i)) (flushes.shown i) (flushes.joined i) (flushes.last i) (marks_fields (flushes.under i)) (marks_fields (flushes.marks i)) us)
      ∙ parts_idle way show (map made old.pieces.items) old.halves.shown.items old.halves.joined old.halves.last (marks_fields old.under.items) (marks_fields old.marks.items)
      (record { id = id; unit = None }) came us refl some idle;
  settled = inr (flushed_silent old new id flushes);
}

-- a mark came
pub marked : (show : Operation → AnyTree) (old mid : Gathering) (id : Id) (key : List ℕ) (t : AnyTree) (after : AnyFields) → Flushes old mid id →
    after ≡ with_attribute key t (marks_fields mid.marks.items) → (us : List Lent) →
    parts Delta show (map made mid.pieces.items) mid.halves.shown.items mid.halves.joined mid.halves.last (marks_fields mid.under.items) after us
    ≡ gathered Delta show old (live id (mark key t) ∷ us)
marked show old mid id key t after flushes set us =
    (λ i. parts Delta show (map made (flushes.pieces i)) (flushes.shown i) (flushes.joined i) (flushes.last i) (marks_fields (flushes.under i)) after us)
    ∙ parts_mark Delta show (map made old.pieces.items) old.halves.shown.items old.halves.joined old.halves.last (marks_fields old.under.items) (marks_fields old.marks.items) after
    (record { id = id; unit = None }) id (mark key t) key t us refl refl (set ∙ ap (λ ms. with_attribute key t (marks_fields ms)) flushes.marks)

pub marked_settled : (old mid : Gathering) (id : Id) → Flushes old mid id → IsSilent mid.halves.last
marked_settled old mid id flushes = flushed_silent old mid id flushes

-- a value came
pub valued : (way : Way) (show : Operation → AnyTree) (old mid end : Gathering) (id : Id) (content : UnitContent) (value : AnyTree) (attributes : AnyFields) (ps : List Told) → Flushes old mid id → Closes mid end →
    ps ≡ map made end.pieces.items ++ (value, attributes) ∷ [] → attributes ≡ marks_fields end.marks.items → role_of way content ≡ is_value → value ≡ show (bare id content) → (us : List Lent) →
    parts way show ps end.halves.shown.items end.halves.joined end.halves.last (marks_fields end.under.items) (marks_fields end.marks.items) us ≡ gathered way show old (live id content ∷ us)
valued way show old mid end id content value attributes ps flushes closes pushed under_marks role shows us =
    (λ i. parts way show (pieces i) (closes.shown i) ((closes.joined ∙ flushes.joined) i) ((closes.last ∙ flushes.last) i) (marks_fields end.under.items) (marks i) us)
    ∙ parts_value way show (map made old.pieces.items) old.halves.shown.items old.halves.joined old.halves.last (marks_fields old.under.items) (marks_fields end.under.items)
    (marks_fields old.marks.items) (record { id = id; unit = None }) id content value us refl role shows
  where
    marks : marks_fields end.marks.items ≡ marks_fields old.marks.items
    marks = ap marks_fields (closes.marks ∙ flushes.marks)

    pieces : ps ≡ (map made old.pieces.items ++ closed_text (old.halves.shown.items ++ shown_last old.halves.joined old.halves.last false []) (marks_fields old.under.items)) ++ (value, marks_fields old.marks.items) ∷ []
    pieces = pushed ∙ ap (λ (ts : List Told). ts ++ (value, attributes) ∷ []) (closes.pieces
        ∙ (λ i. map made (flushes.pieces i) ++ closed_text (flushes.shown i) (marks_fields (flushes.under i))))
        ∙ ap (λ a. (map made old.pieces.items ++ closed_text (old.halves.shown.items ++ shown_last old.halves.joined old.halves.last false []) (marks_fields old.under.items)) ++ (value, a) ∷ [])
        (under_marks ∙ marks)

pub valued_settled : (mid end : Gathering) (old : Gathering) (id : Id) → Flushes old mid id → Closes mid end → IsSilent end.halves.last
valued_settled mid end old id flushes closes = subst IsSilent (sym (closes.last ∙ flushes.last)) refl

-- no unit came any more
pub ended : (way : Way) (show : Operation → AnyTree) (old mid end : Gathering) (id : Id) → Flushes old mid id → Closes mid end → map made end.pieces.items ≡ gathered way show old []
ended way show old mid end id flushes closes =
    closes.pieces ∙ (λ i. map made (flushes.pieces i) ++ closed_text (flushes.shown i) (marks_fields (flushes.under i)))
    ∙ parts_end way show (map made old.pieces.items) old.halves.shown.items old.halves.joined old.halves.last (marks_fields old.under.items) (marks_fields old.marks.items)

-- pieces with one more
pub made-last : (ps : List MadePiece) (p : MadePiece) → map made (ps ++ p ∷ []) ≡ map made ps ++ made p ∷ []
made-last [] p = refl
made-last (q ∷ ps) p = ap (λ (ts : List Told). made q ∷ ts) (made-last ps p)
