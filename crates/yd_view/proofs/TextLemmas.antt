-- The units of a piece: what taking them in leaves of the text.
use Rattle.std.proofs.Common.{◌≡◌, ◌≢◌, ℕ, zero, suc, ◌+◌, ◌<◌, ◌≤◌, Bool, true, false, ◌&&◌, List, [], ◌∷◌, ◌++◌, Option, Some, None, length, take, drop, map, get_or, refl, sym, ap, ◌∙◌, subst, arith, append_assoc, length-append, length-drop}
use Rattle.std.specs.Prelude.{slice_get, if◌then◌else◌}
use Rattle.std.proofs.lemmas.List.{take_more, get_or-drop, length-take-le, take-map, drop-map}
use Rattle.std.proofs.lemmas.Option.{slice_get-get_or}
use Rattle.yd_words.specs.Each.{Each}
use Rattle.yd_any.specs.Tree.{AnyTrees, no_trees, tree}
use Rattle.yd_ids.specs.declared.id.Id.{Id}
use Rattle.yd_ids.specs.Ids.{is_same}
use Rattle.yd_ops.specs.declared.contents.Content.{Content}
use Rattle.yd_ops.specs.declared.contents.Content.TheVariants.{Json, Binary, Str, Embed, Format, Nested, Any, Deleted}
use Rattle.yd_ops.specs.Operation.{UnitContent, text_unit, json_unit, units_of_trees, deleted_units, units_of_content, later_id}
use Rattle.yd_ops.specs.View.{unit_value, content_value}
use Rattle.yd_ops.proofs.OperationLemmas.{length-units_of_content}
use Rattle.yd_any.specs.AnyView.{any_trees}
use Rattle.yd_ops.specs.Pairs.{is_high}
use Rattle.yd_state.specs.declared.listing.RunView.{RunView}
use Rattle.yd_state.specs.Lent.{Lent, lent_from, units_of_view, IsWithin}
use Rattle.yd_view.specs.declared.halves.Seen.{Seen}
use Rattle.yd_view.specs.declared.halves.Halves.{Halves}
use Rattle.yd_view.specs.Halves.{is_unit_and, shown_seen, joins, joins_first, text_of_seen, text_behind, text_left, TakesIn, text_unit_of, seen_of, live_seen, seen_from}

-- ---- text units in a row

seen_from-append : (id : Id) (us vs : List ℕ) → seen_from id (us ++ vs) ≡ seen_from id us ++ seen_from (later_id id (length us)) vs
seen_from-append id [] vs = same_from (id.clock) (id.clock + 0) (omega arith)
  where
    same_from : (c k : ℕ) → c ≡ k → seen_from (record { client = id.client; clock = c }) vs ≡ seen_from (record { client = id.client; clock = k }) vs
    same_from c k e = ap (λ (n : ℕ). seen_from (record { client = id.client; clock = n }) vs) e
seen_from-append id (u ∷ us) vs = ap (λ (l : List Seen). record { id = id; unit = Some u } ∷ l) (seen_from-append (later_id id 1) us vs
    ∙ same_from (id.clock + 1 + length us) (id.clock + length (u ∷ us)) (omega arith))
  where
    same_from : (c k : ℕ) → c ≡ k → seen_from (later_id id 1) us ++ seen_from (record { client = id.client; clock = c }) vs
        ≡ seen_from (later_id id 1) us ++ seen_from (record { client = id.client; clock = k }) vs
    same_from c k e = ap (λ (n : ℕ). seen_from (later_id id 1) us ++ seen_from (record { client = id.client; clock = n }) vs) e

-- one text unit more
pub takes_more : (a b c : Halves) (id : Id) (units : List ℕ) (offset len i : ℕ) (unit : Option ℕ) → offset + len ≤ length units → i < len →
    unit ≡ slice_get units (offset + i) → TakesIn a b (seen_from id (take i (drop offset units))) → TakesIn b c (record { id = later_id id i; unit = unit } ∷ []) →
    TakesIn a c (seen_from id (take (i + 1) (drop offset units)))
takes_more a b c id units offset len i unit within lt e first second = λ rest.
    second rest ∙ first (record { id = later_id id i; unit = unit } ∷ rest) ∙ ap (text_left a) (more rest)
  where
    xs : List ℕ
    xs = drop offset units

    inside : i < length xs
    inside = omega (arith, length-drop offset units)

    many : length (take i xs) ≡ i
    many = length-take-le i xs (omega (arith, inside))

    one : unit ≡ Some (get_or xs i 0)
    one = e ∙ slice_get-get_or units (offset + i) 0 (omega arith) ∙ ap (λ x. Some x) (sym (get_or-drop offset units i 0))

    more : (rest : List Seen) → seen_from id (take i xs) ++ (record { id = later_id id i; unit = unit } ∷ rest) ≡ seen_from id (take (i + 1) xs) ++ rest
    more rest = sym (ap (λ us. seen_from id us ++ rest) (take_more xs i 0 inside)
        ∙ ap (λ (us : List Seen). us ++ rest) (seen_from-append id (take i xs) (get_or xs i 0 ∷ [])
        ∙ ap (λ n. seen_from id (take i xs) ++ (record { id = later_id id n; unit = Some (get_or xs i 0) } ∷ [])) many
        ∙ ap (λ u. seen_from id (take i xs) ++ (record { id = later_id id i; unit = u } ∷ [])) (sym one))
        ∙ append_assoc (seen_from id (take i xs)) (record { id = later_id id i; unit = unit } ∷ []) rest)

-- live text units are seen as they are
lent_text : (id : Id) (us : List ℕ) → live_seen (lent_from id false (map text_unit us)) ≡ seen_from id us
lent_text id [] = refl
lent_text id (u ∷ us) = ap (λ (l : List Seen). record { id = id; unit = Some u } ∷ l) (lent_text (later_id id 1) us)

-- ---- units that are no text

-- they show nothing
abbrev AreSilent : List Seen → Type 0
AreSilent us = Each (λ (s : Seen). s.unit ≡ None) us

no_first : (s : Seen) (others : List Seen) → s.unit ≡ None → joins_first s others ≡ false
no_first s [] e = refl
no_first s (next ∷ others) e = rw e refl

no_partner : (s next : Seen) → next.unit ≡ None → joins s next ≡ false
no_partner s next e = rw e (neither (is_unit_and is_high s.unit) (is_same next.id (later_id s.id 1)))
  where
    neither : (b c : Bool) → b && false && c ≡ false
    neither true c = refl
    neither false c = refl

silent_text : (us rest : List Seen) → AreSilent us → text_of_seen false (us ++ rest) ≡ text_of_seen false rest
silent_text [] rest silent = refl
silent_text (u ∷ us) rest silent =
    ap (λ z. shown_seen false z (joins_first u (us ++ rest)) (text_of_seen (joins_first u (us ++ rest)) (us ++ rest))) silent.0
    ∙ ap (λ j. text_of_seen j (us ++ rest)) (no_first u (us ++ rest) silent.0)
    ∙ silent_text us rest silent.1

abbrev text_behind_silence : Bool → Option Seen → List Seen → List ℕ
text_behind_silence joined None rest = text_of_seen false rest
text_behind_silence joined (Some last) rest = shown_seen joined last.unit false (text_of_seen false rest)

silent_behind : (joined : Bool) (last : Option Seen) (us rest : List Seen) → 0 < length us → AreSilent us → text_behind joined last (us ++ rest) ≡ text_behind_silence joined last rest
silent_behind joined last [] rest some silent = absurd (omega arith)
silent_behind joined None (u ∷ us) rest some silent = silent_text (u ∷ us) rest silent
silent_behind joined (Some last) (u ∷ us) rest some silent =
    ap (λ j. shown_seen joined last.unit j (text_of_seen j (u ∷ us ++ rest))) (no_partner last u silent.0)
    ∙ ap (λ units. shown_seen joined last.unit false units) (silent_text (u ∷ us) rest silent)

-- one of them stands for many
takes_silent : (a b : Halves) (one : Seen) (us : List Seen) → one.unit ≡ None → 0 < length us → AreSilent us → TakesIn a b (one ∷ []) → TakesIn a b us
takes_silent a b one us none some silent takes = λ rest. takes rest
    ∙ ap (λ units. a.shown.items ++ units) (silent_behind a.joined a.last (one ∷ []) rest (omega arith) (none, tt) ∙ sym (silent_behind a.joined a.last us rest some silent))

lent_silent : (id : Id) (us : List UnitContent) → Each (λ u. text_unit_of u ≡ None) us → AreSilent (live_seen (lent_from id false us))
lent_silent id [] each = tt
lent_silent id (u ∷ us) each = (each.0, lent_silent (later_id id 1) us each.1)

trees_silent : (ts : AnyTrees) → Each (λ u. text_unit_of u ≡ None) (units_of_trees ts)
trees_silent no_trees = tt
trees_silent (tree t ts) = (refl, trees_silent ts)

json_silent : {X : Type 0} (f : X → UnitContent) → ((x : X) → text_unit_of (f x) ≡ None) → (xs : List X) → Each (λ u. text_unit_of u ≡ None) (map f xs)
json_silent f silent [] = tt
json_silent f silent (x ∷ xs) = (silent x, json_silent f silent xs)

deleted_silent : (count : ℕ) → Each (λ u. text_unit_of u ≡ None) (deleted_units count)
deleted_silent zero = tt
deleted_silent (suc count) = (refl, deleted_silent count)

no_text : (c : Content) → ((us : List ℕ) → c ≢ Str us) → Each (λ u. text_unit_of u ≡ None) (units_of_content (content_value c))
no_text (Json units) other = json_silent json_unit (λ x. refl) (map unit_value units)
no_text (Binary blob) other = (refl, tt)
no_text (Str us) other = absurd (other us refl)
no_text (Embed value) other = (refl, tt)
no_text (Format key value) other = (refl, tt)
no_text (Nested kind) other = (refl, tt)
no_text (Any values) other = trees_silent (any_trees values)
no_text (Deleted count) other = deleted_silent count

some_of : {X : Type 0} (P : X → Type 0) (n : ℕ) (xs : List X) → Each P xs → Each P (take n xs)
some_of P zero xs each = tt
some_of P (suc n) [] each = tt
some_of P (suc n) (x ∷ xs) each = (each.0, some_of P n xs each.1)

behind_of : {X : Type 0} (P : X → Type 0) (n : ℕ) (xs : List X) → Each P xs → Each P (drop n xs)
behind_of P zero xs each = each
behind_of P (suc n) [] each = tt
behind_of P (suc n) (x ∷ xs) each = behind_of P n xs each.1

-- ---- the units of a piece

-- a piece has as many units as it says
pub length-view : (view : RunView) → IsWithin view → length (units_of_view view) ≡ view.len
length-view view within = length-from view.id view.deleted (take view.len (drop view.offset (units_of_content (content_value view.content.now))))
    ∙ length-take-le view.len (drop view.offset (units_of_content (content_value view.content.now)))
    (omega (arith, within.units, length-units_of_content (content_value view.content.now), length-drop view.offset (units_of_content (content_value view.content.now))))
  where
    length-from : (id : Id) (deleted : Bool) (us : List UnitContent) → length (lent_from id deleted us) ≡ length us
    length-from id deleted [] = refl
    length-from id deleted (u ∷ us) = ap suc (length-from (later_id id 1) deleted us)

-- ---- lemmas for callers

-- deleted units are not seen
pub deleted_piece : (old : Halves) (view : RunView) → view.deleted ≡ true → TakesIn old old (live_seen (units_of_view view))
deleted_piece old view e = λ rest. ap (λ (us : List Seen). text_left old (us ++ rest))
    (sym (ap (λ d. live_seen (lent_from view.id d (take view.len (drop view.offset (units_of_content (content_value view.content.now)))))) e ∙ none view.id (take view.len (drop view.offset (units_of_content (content_value view.content.now))))))
  where
    none : (id : Id) (us : List UnitContent) → live_seen (lent_from id true us) ≡ []
    none id [] = refl
    none id (u ∷ us) = none (later_id id 1) us

-- the units of a live piece of text are seen as they are
pub text_piece : (a b : Halves) (view : RunView) (us : List ℕ) → view.deleted ≡ false → view.content.now ≡ Str us →
    TakesIn a b (seen_from view.id (take view.len (drop view.offset us))) → TakesIn a b (live_seen (units_of_view view))
text_piece a b view us live e takes = subst (TakesIn a b) (sym (
    ap (λ d. live_seen (lent_from view.id d (take view.len (drop view.offset (units_of_content (content_value view.content.now)))))) live
    ∙ ap (λ c. live_seen (lent_from view.id false (take view.len (drop view.offset (units_of_content (content_value c)))))) e
    ∙ ap (λ xs. live_seen (lent_from view.id false xs)) (ap (take view.len) (drop-map text_unit view.offset us) ∙ take-map text_unit view.len (drop view.offset us))
    ∙ lent_text view.id (take view.len (drop view.offset us)))) takes

-- a unit that is no text stands for those of a live piece of other content
pub other_piece : (a b : Halves) (view : RunView) → 0 < view.len → IsWithin view → view.deleted ≡ false → ((us : List ℕ) → view.content.now ≢ Str us) →
    TakesIn a b (record { id = view.id; unit = None } ∷ []) → TakesIn a b (live_seen (units_of_view view))
other_piece a b view some within live other takes = takes_silent a b (record { id = view.id; unit = None }) (live_seen (units_of_view view)) refl
    (omega (arith, length-live, length-view view within)) silent takes
  where
    units : List UnitContent
    units = take view.len (drop view.offset (units_of_content (content_value view.content.now)))

    all_live : units_of_view view ≡ lent_from view.id false units
    all_live = ap (λ d. lent_from view.id d units) live

    as_many : (id : Id) (us : List UnitContent) → length (live_seen (lent_from id false us)) ≡ length (lent_from id false us)
    as_many id [] = refl
    as_many id (u ∷ us) = ap suc (as_many (later_id id 1) us)

    length-live : length (live_seen (units_of_view view)) ≡ length (units_of_view view)
    length-live = ap (λ us. length (live_seen us)) all_live ∙ as_many view.id units ∙ ap length (sym all_live)

    silent : AreSilent (live_seen (units_of_view view))
    silent = subst (λ us. AreSilent (live_seen us)) (sym all_live) (lent_silent view.id units
        (some_of (λ u. text_unit_of u ≡ None) view.len (drop view.offset (units_of_content (content_value view.content.now))) (behind_of (λ u. text_unit_of u ≡ None) view.offset (units_of_content (content_value view.content.now))
        (no_text view.content.now other))))

-- behind a piece fewer units are left
pub fewer_left : (view : RunView) (old new : List Lent) → 0 < view.len → IsWithin view → old ≡ units_of_view view ++ new → length new < length old
fewer_left view old new some within e = omega (arith, ap length e, length-append (units_of_view view) new, length-view view within)

-- and with it the text stays the same
pub piece_taken : (a b : Halves) (view : RunView) (old new : List Lent) (whole : List ℕ) → old ≡ units_of_view view ++ new →
    TakesIn a b (live_seen (units_of_view view)) → text_left a (live_seen old) ≡ whole → text_left b (live_seen new) ≡ whole
piece_taken a b view old new whole e takes so_far = takes (live_seen new) ∙ ap (text_left a) (sym (live_seen-append (units_of_view view) new) ∙ ap live_seen (sym e)) ∙ so_far
  where
    live_seen-append : (us vs : List Lent) → live_seen (us ++ vs) ≡ live_seen us ++ live_seen vs
    live_seen-append [] vs = refl
    live_seen-append (u ∷ us) vs = go u.is_deleted (live_seen-append us vs)
      where
        go : (d : Bool) → live_seen (us ++ vs) ≡ live_seen us ++ live_seen vs →
            (if d then live_seen (us ++ vs) else seen_of u ∷ live_seen (us ++ vs)) ≡ (if d then live_seen us else seen_of u ∷ live_seen us) ++ live_seen vs
        go true f = f
        go false f = ap (λ (l : List Seen). seen_of u ∷ l) f
