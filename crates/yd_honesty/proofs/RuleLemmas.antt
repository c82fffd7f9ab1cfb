-- Whether an operation meets the edit rules is what their tests say.
use Rattle.std.proofs.Common.{◌≡◌, Bool, true, ◌&&◌, not, List, Option, Some, None, refl, sym, ap, ◌∙◌, subst, true≢false}
use Rattle.std.specs.Prelude.{Decides, IfSome}
use Rattle.std.proofs.lemmas.Bool.Decides.{Decides-and, Decides-not, Decides-like}
use Rattle.yd_words.specs.Member.{IsIn}
use Rattle.yd_words.proofs.OptionLemmas.{some_is}
use Rattle.yd_words.proofs.TestLemmas.{test_fails}
use Rattle.yd_ids.specs.declared.id.Id.{Id}
use Rattle.yd_ids.specs.Ids.{is_same}
use Rattle.yd_ops.specs.Operation.{Operation}
use Rattle.yd_ops.specs.declared.lists.List.{List as DocList}
use Rattle.yd_origins.specs.Before.{is_before, IsLeftFirst, IsBetween}
use Rattle.yd_origins.specs.Operations.{table_of_all}
use Rattle.yd_ops.specs.Received.{has_operation, IsWritten}
use Rattle.yd_ops.proofs.OneOfLemmas.{operation_with, id_is_there}
use Rattle.yd_ops.proofs.PartnerLemmas.{same_decides}
use Rattle.yd_meaning.specs.ListNames.{same_list_decides}
use Rattle.yd_meaning.specs.Names.{same_list}
use Rattle.yd_meaning.specs.Held.{held_set, standing}
use Rattle.yd_meaning.specs.Order.{operation_set, list_of, IsPast, MeetsRules}
use Rattle.yd_meaning.proofs.StandingLemmas.{standing_in}
use Rattle.yd_meaning.proofs.VectorLemmas.{held_written}
use Rattle.yd_grouping.specs.Disagreement.{some_passes}
use Rattle.yd_honesty.specs.Dishonest.{is_past, is_none_or, are_of_one, is_left_first, is_between, parts_neighbours, meets_rules}
use Rattle.yd_honesty.proofs.PassingLemmas.{passes_found, found_passes}
use Rattle.yd_honesty.proofs.PastLemmas.{past_decides}

-- ---- each rule

itself_decides : (t : Bool) → Decides t (t ≡ true)
itself_decides t = ((λ e. e), (λ e. e))

none_or_decides : (P : Id → Type 0) (test : Id → Bool) → ((x : Id) → Decides (test x) (P x)) → (z : Option Id) → Decides (is_none_or test z) (IfSome z P)
none_or_decides P test each None = ((λ e. tt), (λ u. refl))
none_or_decides P test each (Some x) = each x

apart_decides : (before : Id → Id → Bool) (a b : Id) → Decides (not (is_same a b) && before a b) ((a ≡ b → ⊥) × (before a b ≡ true))
apart_decides before a b = Decides-and (not (is_same a b)) (before a b) (Decides-not (is_same a b) (same_decides a b)) (itself_decides (before a b))

left_first_decides : (before : Id → Id → Bool) (left right : Option Id) → Decides (is_left_first before left right) (IsLeftFirst before left right)
left_first_decides before None right = ((λ e. tt), (λ u. refl))
left_first_decides before (Some p) None = ((λ e. tt), (λ u. refl))
left_first_decides before (Some p) (Some r) = apart_decides before p r

between_decides : (before : Id → Id → Bool) (left right : Option Id) (x : Id) → Decides (is_between before left right x) (IsBetween before left right x)
between_decides before left right x = Decides-and (is_none_or (λ p. not (is_same p x) && before p x) left) (is_none_or (λ r. not (is_same x r) && before x r) right)
    (none_or_decides (λ p. (p ≡ x → ⊥) × (before p x ≡ true)) (λ p. not (is_same p x) && before p x) (λ p. apart_decides before p x) left)
    (none_or_decides (λ r. (x ≡ r → ⊥) × (before x r ≡ true)) (λ r. not (is_same x r) && before x r) (λ r. apart_decides before x r) right)

abbrev AreOfOne : (Id → DocList) → Option Id → Option Id → Type 0
AreOfOne list left right = (p r : Id) → left ≡ Some p → right ≡ Some r → list p ≡ list r

of_one_decides : (list : Id → DocList) (left right : Option Id) → Decides (are_of_one list left right) (AreOfOne list left right)
of_one_decides list None right = ((λ e p r f g. absurd cc), (λ all. refl))
of_one_decides list (Some a) None = ((λ e p r f g. absurd cc), (λ all. refl))
of_one_decides list (Some a) (Some b) = (
  (λ e p r f g. sym (ap list (some_is a p f)) ∙ (same_list_decides (list a) (list b)).0 e ∙ ap list (some_is b r g)),
  (λ all. (same_list_decides (list a) (list b)).1 (all a b refl refl)),
)

-- ---- all rules

module _ (os : List Operation) (w : IsWritten os) (o : Operation) (i : IsIn o (standing (held_set os))) where
  abbrev held : List Operation
  held = held_set os

  abbrev list : Id → DocList
  list = list_of (standing held)

  abbrev before : Id → Id → Bool
  before = is_before (table_of_all (operation_set (standing held)))

  abbrev Parts : Operation → Type 0
  Parts p = (IsPast held o.id p.id × (list p.id ≡ list o.id)) × IsBetween before o.left_origin o.right_origin p.id

  parts_decides : (p : Operation) → Decides (parts_neighbours held o p) (Parts p)
  parts_decides p = Decides-and (is_past held o.id p.id && same_list (list p.id) (list o.id)) (is_between before o.left_origin o.right_origin p.id)
      (Decides-and (is_past held o.id p.id) (same_list (list p.id) (list o.id)) (past_decides os w o (standing_in held (held_written os w) o i).0 p.id) (same_list_decides (list p.id) (list o.id)))
      (between_decides before o.left_origin o.right_origin p.id)

  abbrev NonePart : Type 0
  NonePart = (y : Id) → has_operation (standing held) y ≡ true → IsPast held o.id y → list y ≡ list o.id → IsBetween before o.left_origin o.right_origin y → ⊥

  none_parts : not (some_passes (parts_neighbours held o) (standing held)) ≡ true → NonePart
  none_parts e y there past same between = let (p, j, f) = operation_with (standing held) y there in
      true≢false (sym e ∙ ap not (found_passes (parts_neighbours held o) (standing held) p j ((parts_decides p).1 (
        (subst (λ z. IsPast held o.id z) (sym f) past, subst (λ z. list z ≡ list o.id) (sym f) same),
        subst (λ z. IsBetween before o.left_origin o.right_origin z) (sym f) between,
      ))))

  parts_none : NonePart → not (some_passes (parts_neighbours held o) (standing held)) ≡ true
  parts_none none = ap not (test_fails (some_passes (parts_neighbours held o) (standing held)) (λ e.
      let (p, j, f) = passes_found (parts_neighbours held o) (standing held) e in
      let parts = (parts_decides p).0 f in
      none p.id (id_is_there (standing held) p j) parts.0.0 parts.0.1 parts.1))

  -- ---- lemmas for callers

  -- the test tells whether an operation that stands meets the edit rules
  pub rules_decide : Decides (meets_rules held o) (MeetsRules held o)
  rules_decide = Decides-like (meets_rules held o)
      (λ all. record { one_list = all.0.0; left_first = all.0.1; past_outside = all.1 })
      (λ meets. ((meets.one_list, meets.left_first), meets.past_outside))
      (Decides-and (are_of_one list o.left_origin o.right_origin && is_left_first before o.left_origin o.right_origin) (not (some_passes (parts_neighbours held o) (standing held)))
      (Decides-and (are_of_one list o.left_origin o.right_origin) (is_left_first before o.left_origin o.right_origin)
      (of_one_decides list o.left_origin o.right_origin) (left_first_decides before o.left_origin o.right_origin))
      (none_parts, parts_none))
