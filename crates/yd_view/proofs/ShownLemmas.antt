-- The text of a list, unit by unit: in a received set with whole pairs the ids alone tell which halves are partners.
use Rattle.std.proofs.Common.{◌≡◌, ◌+◌, ℕ, Bool, true, false, ◌&&◌, ◌||◌, not, List, [], ◌∷◌, Option, Some, None, inl, inr, map, refl, sym, ap, ◌∙◌, arith}
use Rattle.std.specs.Prelude.{filter, if◌then◌else◌}
use Rattle.yd_words.specs.Member.{IsIn}
use Rattle.yd_words.proofs.FilterLemmas.{kept_one}
use Rattle.yd_ids.specs.declared.id.Id.{Id}
use Rattle.yd_ids.specs.Ids.{is_same, is_same_neighbour}
use Rattle.yd_ids.proofs.IdLemmas.{same_numbers, same_is, same_itself}
use Rattle.yd_ops.specs.declared.lists.List.{List as DocList}
use Rattle.yd_ops.specs.Operation.{UnitContent, text_unit, any_unit, json_unit, bytes, embedded, mark, nested_type, deleted_unit, gone_unit, Operation, later_id}
use Rattle.yd_ops.specs.Pairs.{is_high, is_low, is_text_and, are_partners}
use Rattle.yd_meaning.specs.Document.{Document}
use Rattle.yd_meaning.specs.Text.{live_units, has_partner_before, has_partner_behind, shown_before, shown_units, shown_text}
use Rattle.yd_ops.specs.ReceivedLaw.{ArePaired}
use Rattle.yd_ops.proofs.PartnerLemmas.{partners_decide}
use Rattle.yd_state.specs.Lent.{lent, lent_units}
use Rattle.yd_view.specs.declared.halves.Seen.{Seen}
use Rattle.yd_view.specs.Halves.{is_unit_and, joins, joins_first, shown_seen, text_of_seen, text_unit_of, live_seen}

-- an operation as text sees it
abbrev pub seen : Operation → Seen
seen o = record { id = o.id; unit = text_unit_of o.content }

-- ---- partners

unit_test : (test : ℕ → Bool) (content : UnitContent) → is_text_and test content ≡ is_unit_and test (text_unit_of content)
unit_test test (text_unit unit) = refl
unit_test test (any_unit value) = refl
unit_test test (json_unit value) = refl
unit_test test (bytes blob) = refl
unit_test test (embedded value) = refl
unit_test test (mark key value) = refl
unit_test test (nested_type kind) = refl
unit_test test deleted_unit = refl
unit_test test gone_unit = refl

-- where pairs are whole, a low half with the next clock is a high half's partner
pub partners_join : (received : List Operation) → ArePaired received → (o p : Operation) → IsIn p received → are_partners o p ≡ joins (seen o) (seen p)
partners_join received paired o p i =
    same_three (is_text_and is_high o.content) (is_text_and is_low p.content) (is_same p.id (later_id o.id 1)) (is_same_neighbour p.left_origin (Some o.id))
    (λ high low next. behind (paired.low p i low) (same_is p.id (later_id o.id 1) next))
    ∙ ap (λ high. high && is_text_and is_low p.content && is_same p.id (later_id o.id 1)) (unit_test is_high o.content)
    ∙ ap (λ low. is_unit_and is_high (text_unit_of o.content) && low && is_same p.id (later_id o.id 1)) (unit_test is_low p.content)
  where
    same_three : (a b c d : Bool) → (a ≡ true → b ≡ true → c ≡ true → d ≡ true) → a && b && c && d ≡ a && b && c
    same_three true true true d f = f refl refl refl
    same_three true true false d f = refl
    same_three true false c d f = refl
    same_three false b c d f = refl

    behind : (q : Operation) × IsIn q received × (are_partners q p ≡ true) → p.id ≡ later_id o.id 1 → is_same_neighbour p.left_origin (Some o.id) ≡ true
    behind (q, j, e) next =
        let pair = (partners_decide q p).0 e in
        let clocks : q.id.clock + 1 ≡ o.id.clock + 1 = ap (λ (x : Id). x.clock) (sym pair.next_clock ∙ next) in
        let one : q.id ≡ o.id = same_numbers q.id o.id (ap (λ (x : Id). x.client.0) (sym pair.next_clock ∙ next)) (omega arith) in
        ap (λ z. is_same_neighbour z (Some o.id)) (pair.behind ∙ ap (λ (x : Id). Some x) one) ∙ same_itself o.id

-- ---- the text of units

-- a unit is shown alike between the same neighbours
one_shown : (content : UnitContent) (joined joins : Bool) (rest : List ℕ) →
    shown_before ((is_text_and is_high content && not joins) || (is_text_and is_low content && not joined)) content rest ≡ shown_seen joined (text_unit_of content) joins rest
one_shown (text_unit unit) joined joins rest = refl
one_shown (any_unit value) joined joins rest = refl
one_shown (json_unit value) joined joins rest = refl
one_shown (bytes blob) joined joins rest = refl
one_shown (embedded value) joined joins rest = refl
one_shown (mark key value) joined joins rest = refl
one_shown (nested_type kind) joined joins rest = refl
one_shown deleted_unit joined joins rest = refl
one_shown gone_unit joined joins rest = refl

-- whether the one before is the partner of the first
abbrev JoinsFirst : Option Operation → Bool → List Operation → Type 0
JoinsFirst before joined [] = Unit {0}
JoinsFirst before joined (o ∷ os) = has_partner_before before o ≡ joined

shown_seen-is : (received : List Operation) → ArePaired received → (before : Option Operation) (joined : Bool) (os : List Operation) →
    ((o : Operation) → IsIn o os → IsIn o received) → JoinsFirst before joined os → shown_units before os ≡ text_of_seen joined (map seen os)
shown_seen-is received paired before joined [] within first = refl
shown_seen-is received paired before joined (o ∷ os) within first =
    ap (λ j. shown_before ((is_text_and is_high o.content && not j) || (is_text_and is_low o.content && not (has_partner_before before o))) o.content (shown_units (Some o) os)) (behind os (λ p i. within p (inr i)))
    ∙ ap (λ j. shown_before ((is_text_and is_high o.content && not (joins_first (seen o) (map seen os))) || (is_text_and is_low o.content && not j)) o.content (shown_units (Some o) os)) first
    ∙ one_shown o.content joined (joins_first (seen o) (map seen os)) (shown_units (Some o) os)
    ∙ ap (shown_seen joined (text_unit_of o.content) (joins_first (seen o) (map seen os)))
    (shown_seen-is received paired (Some o) (joins_first (seen o) (map seen os)) os (λ p i. within p (inr i)) (next os (λ p i. within p (inr i))))
  where
    behind : (ps : List Operation) → ((p : Operation) → IsIn p ps → IsIn p received) → has_partner_behind o ps ≡ joins_first (seen o) (map seen ps)
    behind [] inside = refl
    behind (p ∷ ps) inside = partners_join received paired o p (inside p (inl refl))

    next : (ps : List Operation) → ((p : Operation) → IsIn p ps → IsIn p received) → JoinsFirst (Some o) (joins_first (seen o) (map seen ps)) ps
    next [] inside = tt
    next (p ∷ ps) inside = partners_join received paired o p (inside p (inl refl))

-- ---- the live units of a list

live_lent : (deleted : Id → Bool) (os : List Operation) → live_seen (map (lent deleted) os) ≡ map seen (filter (λ o. not (deleted o.id)) os)
live_lent deleted [] = refl
live_lent deleted (o ∷ os) = go (deleted o.id) (live_lent deleted os)
  where
    go : (d : Bool) → live_seen (map (lent deleted) os) ≡ map seen (filter (λ o. not (deleted o.id)) os) →
        (if d then live_seen (map (lent deleted) os) else seen o ∷ live_seen (map (lent deleted) os))
        ≡ map seen (if not d then o ∷ filter (λ o. not (deleted o.id)) os else filter (λ o. not (deleted o.id)) os)
    go true e = e
    go false e = ap (λ (us : List Seen). seen o ∷ us) e

-- ---- lemmas for callers

-- the text of what is lent of a list is the text of the list, where its units are of a received set with whole pairs
pub lent_shown : (received : List Operation) (document : Document) (list : DocList) → ArePaired received →
    ((o : Operation) → IsIn o (document.units list) → IsIn o received) → text_of_seen false (live_seen (lent_units document list)) ≡ shown_text document list
lent_shown received document list paired within =
    ap (text_of_seen false) (live_lent document.deleted (document.units list))
    ∙ sym (shown_seen-is received paired None false (live_units document list)
    (λ o i. within o (kept_one (λ p. not (document.deleted p.id)) (document.units list) o i).1)
    (first (live_units document list)))
  where
    first : (os : List Operation) → JoinsFirst None false os
    first [] = tt
    first (o ∷ os) = refl
