-- Which ids a content and gone units spell less than full; and gone units have their ids alone.
use Rattle.std.proofs.Common.{◌≡◌, ◌↔◌, ℕ, zero, suc, ◌<◌, true, List, [], ◌∷◌, map, inl, inr, Option, Some, None, refl, sym, ap, ◌∙◌, subst, arith, tests}
use Rattle.yd_words.specs.Each.{Each}
use Rattle.yd_words.specs.Member.{IsIn}
use Rattle.yd_words.proofs.TestLemmas.{split}
use Rattle.yd_any.specs.Tree.{AnyTree, AnyTrees, no_trees, tree}
use Rattle.yd_ids.specs.declared.id.Id.{Id}
use Rattle.yd_ids.specs.Span.{InSpan}
use Rattle.yd_ids.specs.Set.{HasId}
use Rattle.yd_ids.specs.Ids.{is_written_before}
use Rattle.yd_ids.proofs.IdLemmas.{same_numbers}
use Rattle.yd_ops.specs.declared.lists.List.{List as DocList}
use Rattle.yd_ops.specs.Value.{ContentValue, json, binary, string, embed, format, nested, any, deleted, RunValue}
use Rattle.yd_ops.specs.Operation.{UnitContent, text_unit, json_unit, units_of_trees, deleted_unit, deleted_units, units_of_content, Operation, later_id, gone_operation, gone_from, operations_from, operations_of_run, level_of}
use Rattle.yd_ops.specs.Received.{IsWritten}
use Rattle.yd_ops.specs.Deletes.{content_spans, SpellLess}
use Rattle.yd_ops.proofs.PartnerLemmas.{IsHalf}
use Rattle.yd_ops.proofs.MendingLemmas.{HasPartners}
use Rattle.yd_ops.proofs.LevelLemmas.{AreBare}
use Rattle.yd_ops.proofs.RunLemmas.{from_content}

-- the unit is full
abbrev IsFull : UnitContent → Type 0
IsFull unit = level_of unit ≡ 2

json_full : (values : List (Option AnyTree)) → Each IsFull (map json_unit values)
json_full [] = tt
json_full (value ∷ values) = (refl, json_full values)

text_full : (units : List ℕ) → Each IsFull (map text_unit units)
text_full [] = tt
text_full (unit ∷ units) = (refl, text_full units)

trees_full : (ts : AnyTrees) → Each IsFull (units_of_trees ts)
trees_full no_trees = tt
trees_full (tree t ts) = (refl, trees_full ts)

-- the ids of deleted units
deleted_there : (count : ℕ) (id : Id) (left right : Option Id) (list : Option DocList) (o : Operation) → IsIn o (operations_from id left right list (deleted_units count)) →
    InSpan (record { client = id.client; clock = id.clock; len = count }) o.id
deleted_there zero id left right list o i = absurd i
deleted_there (suc count) id left right list o (inl e) = (
  ap (λ (p : Operation). p.id.client.0) (sym e),
  omega (arith, ap (λ (p : Operation). p.id.clock) e),
  omega (arith, ap (λ (p : Operation). p.id.clock) e),
)
deleted_there (suc count) id left right list o (inr i) =
    let b = deleted_there count (later_id id 1) (Some id) right None o i in (b.0, omega (arith, b.1), omega (arith, b.2))

deleted_back : (count : ℕ) (id : Id) (left right : Option Id) (list : Option DocList) (x : Id) → InSpan (record { client = id.client; clock = id.clock; len = count }) x →
    SpellLess (operations_from id left right list (deleted_units count)) x
deleted_back zero id left right list x b = absurd (omega (arith, b.1, b.2))
deleted_back (suc count) id left right list x b = elim (split x.clock id.clock) [
  | inl le ↦ (record { id = id; left_origin = left; right_origin = right; list = list; content = deleted_unit }, inl refl, same_numbers id x b.0 (omega (arith, le, b.1)), omega arith)
  | inr lt ↦ let (o, i, e, less) = deleted_back count (later_id id 1) (Some id) right None x (b.0, omega (arith, lt), omega (arith, b.2)) in (o, inr i, e, less)
]

-- and of gone ones
gone_there : (count : ℕ) (id : Id) (o : Operation) → IsIn o (gone_from id count) → InSpan (record { client = id.client; clock = id.clock; len = count }) o.id
gone_there zero id o i = absurd i
gone_there (suc count) id o (inl e) = (
  ap (λ (p : Operation). p.id.client.0) (sym e),
  omega (arith, ap (λ (p : Operation). p.id.clock) e),
  omega (arith, ap (λ (p : Operation). p.id.clock) e),
)
gone_there (suc count) id o (inr i) = let b = gone_there count (later_id id 1) o i in (b.0, omega (arith, b.1), omega (arith, b.2))

gone_back : (count : ℕ) (id x : Id) → InSpan (record { client = id.client; clock = id.clock; len = count }) x → SpellLess (gone_from id count) x
gone_back zero id x b = absurd (omega (arith, b.1, b.2))
gone_back (suc count) id x b = elim (split x.clock id.clock) [
  | inl le ↦ (gone_operation id, inl refl, same_numbers id x b.0 (omega (arith, le, b.1)), omega arith)
  | inr lt ↦ let (o, i, e, less) = gone_back count (later_id id 1) x (b.0, omega (arith, lt), omega (arith, b.2)) in (o, inr i, e, less)
]

full_spans : (id : Id) (left right : Option Id) (list : Option DocList) (units : List UnitContent) → Each IsFull units → (x : Id) → SpellLess (operations_from id left right list units) x → ⊥
full_spans id left right list units full x (o, i, e, less) = absurd (omega (arith, less, from_content IsFull id left right list units full o i))

no_spans : {P : Type 0} (x : Id) → (P → ⊥) → P ↔ HasId [] x
no_spans x none = (none, λ h. absurd h)

-- ---- lemmas for callers

-- what a content spells less than full
pub content_less : (id : Id) (left right : Option Id) (list : Option DocList) (content : ContentValue) (x : Id) →
    SpellLess (operations_from id left right list (units_of_content content)) x ↔ HasId (content_spans id content) x
content_less id left right list (json values) x = no_spans x (full_spans id left right list (map json_unit values) (json_full values) x)
content_less id left right list (binary blob) x = no_spans x (full_spans id left right list (units_of_content (binary blob)) (refl, tt) x)
content_less id left right list (string units) x = no_spans x (full_spans id left right list (map text_unit units) (text_full units) x)
content_less id left right list (embed t) x = no_spans x (full_spans id left right list (units_of_content (embed t)) (refl, tt) x)
content_less id left right list (format key t) x = no_spans x (full_spans id left right list (units_of_content (format key t)) (refl, tt) x)
content_less id left right list (nested kind) x = no_spans x (full_spans id left right list (units_of_content (nested kind)) (refl, tt) x)
content_less id left right list (any ts) x = no_spans x (full_spans id left right list (units_of_trees ts) (trees_full ts) x)
content_less id left right list (deleted count) x = (
  (λ less. let (o, i, e, low) = less in inl (subst (λ y. InSpan (record { client = id.client; clock = id.clock; len = count }) y) e (deleted_there count id left right list o i))),
  (λ h. elim h [ inl b ↦ deleted_back count id left right list x b | inr k ↦ absurd k ]),
)

pub gone_less : (count : ℕ) (id x : Id) → SpellLess (gone_from id count) x ↔ HasId (record { client = id.client; clock = id.clock; len = count } ∷ []) x
gone_less count id x = (
  (λ less. let (o, i, e, low) = less in inl (subst (λ y. InSpan (record { client = id.client; clock = id.clock; len = count }) y) e (gone_there count id o i))),
  (λ h. elim h [ inl b ↦ gone_back count id x b | inr k ↦ absurd k ]),
)

-- what is gone has its id alone
abbrev IsNotGone : UnitContent → Type 0
IsNotGone unit = 0 < level_of unit

full_not_gone : (units : List UnitContent) → Each IsFull units → Each IsNotGone units
full_not_gone [] full = tt
full_not_gone (unit ∷ units) full = (omega (arith, full.0), full_not_gone units full.1)

deleted_not_gone : (count : ℕ) → Each IsNotGone (deleted_units count)
deleted_not_gone zero = tt
deleted_not_gone (suc count) = (omega arith, deleted_not_gone count)

content_not_gone : (content : ContentValue) → Each IsNotGone (units_of_content content)
content_not_gone (json values) = full_not_gone (map json_unit values) (json_full values)
content_not_gone (binary blob) = (omega arith, tt)
content_not_gone (string units) = full_not_gone (map text_unit units) (text_full units)
content_not_gone (embed t) = (omega arith, tt)
content_not_gone (format key t) = (omega arith, tt)
content_not_gone (nested kind) = (omega arith, tt)
content_not_gone (any ts) = full_not_gone (units_of_trees ts) (trees_full ts)
content_not_gone (deleted count) = deleted_not_gone count

pub run_bare : (run : RunValue) → AreBare (operations_of_run run)
run_bare run o i none = absurd (omega (arith, none, from_content IsNotGone run.id run.left run.right run.list (units_of_content run.content) (content_not_gone run.content) o i))

pub gone_bare : (count : ℕ) (id : Id) → AreBare (gone_from id count)
gone_bare zero id o i none = absurd i
gone_bare (suc count) id o (inl e) none = e ∙ ap (λ (p : Operation). gone_operation p.id) (sym e)
gone_bare (suc count) id o (inr i) none = gone_bare count (later_id id 1) o i none

pub gone_partners : (count : ℕ) (id : Id) → HasPartners (gone_from id count)
gone_partners zero id o i half = absurd i
gone_partners (suc count) id o (inl e) half = absurd (elim (subst (λ (p : Operation). IsHalf p.content) e half) [ inl h ↦ h | inr h ↦ h ])
gone_partners (suc count) id o (inr i) half = let (p, j, pair) = gone_partners count (later_id id 1) o i half in (p, inr j, pair)

pub gone_written : (count : ℕ) (id : Id) → IsWritten (gone_from id count)
gone_written zero id = tt
gone_written (suc count) id = (first, gone_written count (later_id id 1))
  where
    first : (p : Operation) → IsIn p (gone_from (later_id id 1) count) → is_written_before id p.id ≡ true
    first p i = let b = gone_there count (later_id id 1) p i in let client = b.0 in let clock = b.1 in grind (arith, tests)

pub gone_rights : (count : ℕ) (id : Id) (o : Operation) → IsIn o (gone_from id count) → o.right_origin ≡ None
gone_rights zero id o i = absurd i
gone_rights (suc count) id o (inl e) = ap (λ (p : Operation). p.right_origin) e
gone_rights (suc count) id o (inr i) = gone_rights count (later_id id 1) o i
