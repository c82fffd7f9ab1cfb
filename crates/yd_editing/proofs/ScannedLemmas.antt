-- What an edit makes is put by the scan where the edit put it.
use Rattle.std.proofs.Common.{append_assoc, ◌≡◌, ◌<◌, ◌+◌, ℕ, List, [], ◌∷◌, ◌++◌, Option, Some, None, inl, inr, refl, sym, ap, ◌∙◌, arith}
use Rattle.std.proofs.lemmas.List.{append-nil}
use Rattle.yd_words.specs.Member.{IsIn}
use Rattle.yd_words.proofs.MemberLemmas.{in_parts}
use Rattle.yd_ids.specs.declared.id.Client.{Client}
use Rattle.yd_ids.specs.declared.id.Id.{Id}
use Rattle.yd_ids.proofs.IdLemmas.{same_itself}
use Rattle.yd_origins.specs.Parts.{behind, first_of, up_to}
use Rattle.yd_origins.specs.Scan.{walk, after_scan, after_scans}
use Rattle.yd_origins.proofs.MemberLemmas.{parts_of, in_up_to, in_behind}
use Rattle.yd_origins.proofs.WalkLemmas.{walk-stops}
use Rattle.yd_ops.specs.declared.lists.List.{List as DocList}
use Rattle.yd_ops.specs.Operation.{Operation, UnitContent, later_id, operations_from, operations_of_run, units_of_content}
use Rattle.yd_ops.specs.Value.{ContentValue}
use Rattle.yd_editing.specs.Made.{units_behind, id_of_first, list_where_alone, made_run, put_behind}
use Rattle.yd_editing.specs.Scanned.{ids_of_all, AreOriginsOf, IsFreshIn}
use Rattle.yd_editing.proofs.OrderLemmas.{behind_parts, up_to_parts, first_is, map_behind, map_put}

-- ---- one unit

-- a scan that begins in front of the right stops there
walk_stays : (left right : Id → Option Id) (new : Id) (rest : List Id) → right new ≡ first_of rest → walk left right new [] [] rest ≡ ([], rest)
walk_stays left right new [] e = refl
walk_stays left right new (x ∷ xs) e = walk-stops left right new [] [] xs x (rw (e, same_itself x) refl)

-- a unit between two neighbours is put there
puts_one : (left right : Id → Option Id) (list : List Id) (new : Id) (p : Option Id) → left new ≡ p → right new ≡ first_of (behind p list) →
    after_scan left right list new ≡ up_to p list ++ new ∷ behind p list
puts_one left right list new p l r = rw (l, walk_stays left right new (behind p list) r, append-nil (up_to p list)) refl

-- ---- the units of a run

module _ (list : List Id) (id : Id) (p : Option Id) (fresh : IsFreshIn list id.client id.clock) where
  -- the list with the first unit in it
  abbrev with_first : List Id
  with_first = up_to p list ++ id ∷ behind p list

  out : IsIn id (up_to p list) → ⊥
  out i = let same : id.clock < id.clock = fresh id (in_up_to p list id i) refl in omega (arith, same)

  up_to_it : up_to (Some id) with_first ≡ up_to p list ++ id ∷ []
  up_to_it = up_to_parts id (up_to p list) (behind p list) out

  behind_it : behind (Some id) with_first ≡ behind p list
  behind_it = behind_parts id (up_to p list) (behind p list) out

  -- the client's next clocks are fresh in it
  still_fresh : IsFreshIn with_first id.client (id.clock + 1)
  still_fresh x i e = elim (in_parts x (up_to p list) (id ∷ behind p list) i) [
    | inl j ↦ let less : x.clock < id.clock = fresh x (in_up_to p list x j) e in omega (arith, less)
    | inr (inl same) ↦ omega (arith, ap (λ (y : Id). y.clock) same)
    | inr (inr j) ↦ let less : x.clock < id.clock = fresh x (in_behind p list x j) e in omega (arith, less)
  ]

  -- what is put behind it stands behind it
  joined : (ids : List Id) → up_to (Some id) with_first ++ (ids ++ behind (Some id) with_first) ≡ up_to p list ++ (id ∷ (ids ++ behind p list))
  joined ids = rw (up_to_it, behind_it) (append_assoc (up_to p list) (id ∷ []) (ids ++ behind p list))

-- the first unit goes behind the left origin, and each later one behind the one before
puts_all : (left right : Id → Option Id) (units : List UnitContent) (id : Id) (p r : Option Id) (carried : Option DocList) (list : List Id) →
    AreOriginsOf left right (operations_from id p r carried units) → r ≡ first_of (behind p list) → IsFreshIn list id.client id.clock →
    after_scans left right list (ids_of_all (operations_from id p r carried units)) ≡ up_to p list ++ (ids_of_all (operations_from id p r carried units) ++ behind p list)
puts_all left right [] id p r carried list origins next fresh = sym (parts_of p list)
puts_all left right (u ∷ us) id p r carried list ((l, e), origins) next fresh =
    ap (λ xs. after_scans left right xs (ids_of_all (operations_from (later_id id 1) (Some id) r None us))) (puts_one left right list id p l (e ∙ next))
    ∙ puts_all left right us (later_id id 1) (Some id) r None (with_first list id p fresh) origins (next ∙ ap first_of (sym (behind_it list id p fresh))) (still_fresh list id p fresh)
    ∙ joined list id p fresh (ids_of_all (operations_from (later_id id 1) (Some id) r None us))

-- ---- lemma for callers

pub scan_puts_made : (left right : Id → Option Id) (client : Client) (clock : ℕ) (units : List Operation) (name : DocList) (after : Option Id) (content : ContentValue) →
    AreOriginsOf left right (operations_of_run (made_run client clock units name after content)) → IsFreshIn (ids_of_all units) client clock →
    after_scans left right (ids_of_all units) (ids_of_all (operations_of_run (made_run client clock units name after content)))
    ≡ ids_of_all (put_behind after (operations_of_run (made_run client clock units name after content)) units)
scan_puts_made left right client clock units name after content origins fresh =
    puts_all left right (units_of_content content) (record { client = client; clock = clock }) after (id_of_first (units_behind after units))
    (list_where_alone after (id_of_first (units_behind after units)) name) (ids_of_all units) origins
    (first_is (units_behind after units) ∙ ap first_of (map_behind after units)) fresh
    ∙ sym (map_put after (operations_of_run (made_run client clock units name after content)) units)
