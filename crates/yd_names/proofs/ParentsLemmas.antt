-- Lists by their parents: how the last one of a parent is found.
use Rattle.std.proofs.Common.{◌≡◌, ◌∙◌, ℕ, suc, ◌<◌, List, Option, Some, None, IfSome, inl, inr, get_or, length, take, true, false, true≢false, sym, ap, subst, arith}
use Rattle.std.specs.Prelude.{slice_get}
use Rattle.std.proofs.lemmas.Cmp.{tied_itself}
use Rattle.std.proofs.lemmas.List.{take_all}
use Rattle.std.proofs.lemmas.Option.{slice_get_within, slice_get-get_or}
use Rattle.yd_ops.specs.declared.lists.List.{List as DocList}
use Rattle.yd_ops.specs.declared.lists.Parent.{Parent}
use Rattle.yd_meaning.specs.Names.{same_parent}
use Rattle.yd_meaning.specs.ListNames.{same_parent_is, same_parent_itself}
use Rattle.yd_names.specs.Codes.{last_place}
use Rattle.yd_names.specs.Coding.{code_of_parent}
use Rattle.yd_names.specs.Crowds.{IsTied}
use Rattle.yd_names.specs.Groups.{GroupTable}
use Rattle.yd_names.specs.Names.{IsOf, IsLastOf}
use Rattle.yd_names.specs.Order.{list_of, own_cmp, own_total, parent_cmp}
use Rattle.yd_names.specs.Parents.{AreOwned, HasFirst}
use Rattle.yd_names.specs.Slots.{bound_of}
use Rattle.yd_names.proofs.GroupsLemmas.{not_there}
use Rattle.yd_names.proofs.NamesLemmas.{IsLookedFor, looked, has_code, front_has, front_long, got_in_front}
use Rattle.yd_names.proofs.OrderLemmas.{same_own}

-- the group has a list of the parent, and the parent's code
pub record IsGroupOf (names : List DocList) (groups : GroupTable) (parent : Parent) (number : ℕ) : Type 0 where
  pub coded : slice_get groups.codes number ≡ Some (code_of_parent parent)
  pub place : ℕ
  pub numbered : slice_get groups.numbers place ≡ Some number
  pub own : IsOf names parent place

-- such a group is looked for
abbrev pub GroupLookedFor : List DocList → GroupTable → Parent → Option ℕ → Type 0
GroupLookedFor names groups parent next = IsLookedFor groups.codes (IsGroupOf names groups parent) (code_of_parent parent) (λ n is. is.coded) (length groups.codes) next

module _ (names : List DocList) (groups : GroupTable) (crowd : List ℕ) (o : AreOwned names groups crowd) where
  -- ---- the last list of a parent

  pub place_within : (n : ℕ) (list : DocList) → slice_get names n ≡ Some list → n < length groups.numbers
  place_within n list e = subst (λ k. n < k) (sym o.each) (slice_get_within names n list e)

  pub list_within : (n number : ℕ) → slice_get groups.numbers n ≡ Some number → n < length names
  list_within n number e = subst (λ k. n < k) o.each (slice_get_within groups.numbers n number e)

  numbered : (n : ℕ) (list : DocList) → slice_get names n ≡ Some list → slice_get groups.numbers n ≡ Some (get_or groups.numbers n 0)
  numbered n list e = slice_get-get_or groups.numbers n 0 (place_within n list e)

  -- where one list of the parent has a number, the last list with it is the parent's last one
  pub is_last : (parent : Parent) (top number : ℕ) (result : Option ℕ) (n : ℕ) → IsOf names parent n → slice_get groups.numbers n ≡ Some number →
      result ≡ last_place number (take top groups.numbers) → IsLastOf names parent top result
  is_last parent top number result n is e = go result
    where
      below : (m : ℕ) (other : DocList) → m < top → slice_get names m ≡ Some other → other.parent ≡ parent → m < bound_of (last_place number (take top groups.numbers))
      below m other lt there own = looked number (take top groups.numbers) m
          (front_has top groups.numbers m lt ∙ o.one_group m n other is.list there is.there (own ∙ sym is.own) ∙ e)

      go : (result : Option ℕ) → result ≡ last_place number (take top groups.numbers) → IsLastOf names parent top result
      go None found = λ m other lt there own. let w : m < 0 = subst (λ o. m < bound_of o) (sym found) (below m other lt there own) in absurd (omega arith)
      go (Some k) found = (
        record {
          list = get_or names k is.list;
          there = there;
          own = o.one_parent k n (get_or names k is.list) is.list there is.there (same ∙ sym e) ∙ is.own;
        },
        (let lt = slice_get_within (take top groups.numbers) k number at in let le = front_long top groups.numbers in omega arith),
        (λ m other more lt there own. let w : m < suc k = subst (λ o. m < bound_of o) (sym found) (below m other lt there own) in absurd (omega arith)),
      )
        where
          at : slice_get (take top groups.numbers) k ≡ Some number
          at = subst (λ o. IfSome o (λ n. slice_get (take top groups.numbers) n ≡ Some number)) (sym found) (has_code number (take top groups.numbers))

          same : slice_get groups.numbers k ≡ Some number
          same = got_in_front top groups.numbers k number at

          there : slice_get names k ≡ Some (get_or names k is.list)
          there = slice_get-get_or names k is.list (list_within k number same)

  pub is_last_of_all : (parent : Parent) (number : ℕ) (result : Option ℕ) (n : ℕ) → IsOf names parent n → slice_get groups.numbers n ≡ Some number →
      result ≡ last_place number groups.numbers → IsLastOf names parent (length names) result
  is_last_of_all parent number result n is e found = is_last parent (length names) number result n is e
      (found ∙ ap (λ ns. last_place number ns) (sym (take_all (length names) groups.numbers (let each = o.each in omega arith))))

  pub is_last_before : (parent : Parent) (number : ℕ) (result : Option ℕ) → IsOf names parent number →
      IfSome (slice_get groups.numbers number) (λ k. result ≡ last_place k (take number groups.numbers)) → IsLastOf names parent number result
  is_last_before parent number result is found = is_last parent number (get_or groups.numbers number 0) result number is (numbered number is.list is.there)
      (subst (λ o. IfSome o (λ k. result ≡ last_place k (take number groups.numbers))) (numbered number is.list is.there) found)

  -- what a place of a crowd tells
  pub tied_is : (parent : Parent) (n : ℕ) → IsTied own_cmp names crowd (list_of parent) n → IsOf names parent n
  tied_is parent n t = record { list = t.list; there = t.there; own = same_own t.list (list_of parent) t.tied }

  -- a parent that is found neither way has no list
  pub has_no_list : (parent : Parent) → ((k n : ℕ) → slice_get groups.codes k ≡ Some (code_of_parent parent) → slice_get groups.numbers n ≡ Some k → IsOf names parent n → ⊥) →
      ((n : ℕ) → IsTied own_cmp names crowd (list_of parent) n → ⊥) → IsLastOf names parent (length names) None
  has_no_list parent by_code by_crowd = λ n list lt there own. elim (o.found n (get_or groups.numbers n 0) list there (numbered n list there)) [
    | inl coded ↦ by_code (get_or groups.numbers n 0) n (coded ∙ ap (λ p. Some (code_of_parent p)) own) (numbered n list there) (record { list = list; there = there; own = own })
    | inr h ↦ by_crowd h.first (tied n list there own h)
  ]
    where
      tied : (n : ℕ) (list : DocList) → slice_get names n ≡ Some list → list.parent ≡ parent →
          (h : HasFirst groups.numbers crowd n (get_or groups.numbers n 0)) → IsTied own_cmp names crowd (list_of parent) h.first
      tied n list there own h = record {
        at = h.at;
        list = get_or names h.first list;
        there = first;
        tied = ap (λ p. parent_cmp p parent) (o.one_parent h.first n (get_or names h.first list) list first there (h.same ∙ sym (numbered n list there)) ∙ own)
            ∙ tied_itself own_total (list_of parent);
      }
        where
          first : slice_get names h.first ≡ Some (get_or names h.first list)
          first = slice_get-get_or names h.first list (list_within h.first (get_or groups.numbers n 0) h.same)

  -- ---- the last list of a group

  last_there : (number last : ℕ) → Some last ≡ last_place number groups.numbers → slice_get groups.numbers last ≡ Some number
  last_there number last found = subst (λ o. IfSome o (λ n. slice_get groups.numbers n ≡ Some number)) (sym found) (has_code number groups.numbers)

  pub last_within : (number last : ℕ) → Some last ≡ last_place number groups.numbers → last < length names
  last_within number last found = list_within last number (last_there number last found)

  module _ (parent : Parent) (number last : ℕ) (d : DocList) (found : Some last ≡ last_place number groups.numbers) where
    listed : slice_get names last ≡ Some (get_or names last d)
    listed = slice_get-get_or names last d (last_within number last found)

    pub group_is : same_parent (get_or names last d).parent parent ≡ true → IsLastOf names parent (length names) (Some last)
    group_is same = is_last_of_all parent number (Some last) last
        (record { list = get_or names last d; there = listed; own = same_parent_is (get_or names last d).parent parent same }) (last_there number last found) found

    pub group_is_not : same_parent (get_or names last d).parent parent ≡ false → (n : ℕ) → slice_get groups.numbers n ≡ Some number → IsOf names parent n → ⊥
    group_is_not other n e is = true≢false (sym (ap (λ p. same_parent p parent)
        (o.one_parent last n (get_or names last d) is.list listed is.there (last_there number last found ∙ sym e) ∙ is.own) ∙ same_parent_itself parent) ∙ other)

  pub group_is_empty : (parent : Parent) (number : ℕ) → None ≡ last_place number groups.numbers → (n : ℕ) → slice_get groups.numbers n ≡ Some number → IsOf names parent n → ⊥
  group_is_empty parent number found n e is = not_there number groups.numbers (sym found) n e

  pub no_group : (parent : Parent) → GroupLookedFor names groups parent None → (k n : ℕ) → slice_get groups.codes k ≡ Some (code_of_parent parent) → slice_get groups.numbers n ≡ Some k →
      IsOf names parent n → ⊥
  no_group parent was k n coded e is = let lt : k < 0 = was.before k (slice_get_within groups.codes k (code_of_parent parent) coded)
      (record { coded = coded; place = n; numbered = e; own = is }) in absurd (omega arith)
