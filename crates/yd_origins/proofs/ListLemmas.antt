-- The list of an operation is that of its left origin, else of its right origin, else the one that it carries; and the
-- operations of all lists are a table.
use Rattle.std.proofs.Common.{◌≡◌, ℕ, zero, suc, ◌<◌, ◌≤◌, Bool, true, false, [], ◌∷◌, inl, inr, Some, None, Option, length, refl, sym, ap, ap₂, ◌∙◌, subst, arith}
use Rattle.std.specs.Prelude.{IfSome, if◌then◌else◌}
use Rattle.yd_words.specs.Member.{IsIn, AreDistinct}
use Rattle.yd_words.proofs.OptionLemmas.{if_some_map, if_some_both}
use Rattle.yd_ids.specs.declared.id.Id.{Id}
use Rattle.yd_ids.specs.Ids.{is_same}
use Rattle.yd_ids.proofs.IdLemmas.{same_says}
use Rattle.yd_origins.specs.Table.{OriginTable, ids_of, left_of, right_of, IsTable}
use Rattle.yd_origins.specs.Operations.{ListNames, OperationSet, list_by_origins, list_within, list_of_operation, kept_right, with_rights, table_of_all}
use Rattle.yd_origins.proofs.TableLemmas.{height, height_small, low_left, low_right}

-- ---- other rights

pub rights_ids : (f : Id → Option Id) (rows : OriginTable) → ids_of (with_rights f rows) ≡ ids_of rows
rights_ids f [] = refl
rights_ids f (r ∷ rs) = ap (λ xs. r.id ∷ xs) (rights_ids f rs)

pub rights_left : (f : Id → Option Id) (rows : OriginTable) (x : Id) → left_of (with_rights f rows) x ≡ left_of rows x
rights_left f [] x = refl
rights_left f (r ∷ rs) x = ap (λ z. if is_same r.id x then r.left else z) (rights_left f rs x)

rights_right : (f : Id → Option Id) (rows : OriginTable) (x : Id) → IsIn x (ids_of rows) → right_of (with_rights f rows) x ≡ f x
rights_right f [] x i = absurd i
rights_right f (r ∷ rs) x i = elim (same_says r.id x) [
  | inl e ↦ rw e.0 (ap f e.1)
  | inr e ↦ rw e.0 (rights_right f rs x (elim i [ inl g ↦ absurd (e.1 (sym g)) | inr j ↦ j ]))
]

pub rights_alike : (f g : Id → Option Id) (rows : OriginTable) → ((x : Id) → IsIn x (ids_of rows) → f x ≡ g x) → with_rights f rows ≡ with_rights g rows
rights_alike f g [] same = refl
rights_alike f g (r ∷ rs) same = ap₂ (λ z zs. record { id = r.id; left = r.left; right = z } ∷ zs) (same r.id (inl refl)) (rights_alike f g rs (λ x i. same x (inr i)))

-- ---- the list of an operation

module _ {Name : Type 0} {names : ListNames Name} (set : OperationSet names) (t : IsTable set.origins) where
  abbrev P : Id → Type 0
  P x = IsIn x (ids_of set.origins)

  abbrev left : Id → Option Id
  left = left_of set.origins

  abbrev right : Id → Option Id
  right = right_of set.origins

  abbrev list : Id → Name
  list = list_of_operation set

  -- more steps than the height asks for change nothing
  pub more_steps : (n m : ℕ) (x : Id) → P x → height set.origins t x < n → n ≤ m → list_within set m x ≡ list_within set n x
  more_steps zero m x p small le = absurd (omega arith)
  more_steps (suc n) zero x p small le = absurd (omega arith)
  more_steps (suc n) (suc m) x p small le = go (left x) (right x)
      (if_some_both P (λ y. height set.origins t y < height set.origins t x) (λ y. list_within set m y ≡ list_within set n y) (left x)
      (λ y q lt. more_steps n m y q (omega arith) (omega arith)) (t.has_left x p) (low_left set.origins t x p))
      (if_some_both P (λ y. height set.origins t y < height set.origins t x) (λ y. list_within set m y ≡ list_within set n y) (right x)
      (λ y q lt. more_steps n m y q (omega arith) (omega arith)) (t.has_right x p) (low_right set.origins t x p))
    where
      go : (z w : Option Id) → IfSome z (λ y. list_within set m y ≡ list_within set n y) → IfSome w (λ y. list_within set m y ≡ list_within set n y) →
          list_by_origins z w (set.carried x) (list_within set m) ≡ list_by_origins z w (set.carried x) (list_within set n)
      go (Some a) w u v = u
      go None (Some b) u v = v
      go None None u v = refl

  -- the list is the left origin's, else the right origin's, else the one that is carried
  pub list_follows : (x : Id) → P x → list x ≡ list_by_origins (left x) (right x) (set.carried x) list
  list_follows x p = sym (more_steps (suc (length (ids_of set.origins))) (suc (suc (length (ids_of set.origins)))) x p
      (omega (arith, height_small set.origins t x p)) (omega arith))

  pub list_of_left : (x y : Id) → P x → left x ≡ Some y → list y ≡ list x
  list_of_left x y p e = sym (list_follows x p ∙ ap (λ z. list_by_origins z (right x) (set.carried x) list) e)

  pub list_of_right : (x y : Id) → P x → left x ≡ None → right x ≡ Some y → list y ≡ list x
  list_of_right x y p none e = sym (list_follows x p ∙ ap (λ z. list_by_origins z (right x) (set.carried x) list) none
      ∙ ap (λ z. list_by_origins None z (set.carried x) list) e)

  lefts_of_list : (x : Id) → P x → IfSome (left x) (λ y. list y ≡ list x)
  lefts_of_list x p = go (left x) refl
    where
      go : (z : Option Id) → left x ≡ z → IfSome z (λ y. list y ≡ list x)
      go None e = tt
      go (Some y) e = list_of_left x y p e

  -- ---- rights of other lists left out

  kept_there : (Q : Id → Type 0) (x : Id) (z : Option Id) → IfSome z Q → IfSome (kept_right set x z) Q
  kept_there Q x None w = tt
  kept_there Q x (Some r) w = go (names.is_same (list r) (list x))
    where
      go : (u : Bool) → IfSome (if u then Some r else None) Q
      go true = w
      go false = tt

  kept_of_list : (x : Id) (z : Option Id) → IfSome (kept_right set x z) (λ y. list y ≡ list x)
  kept_of_list x None = tt
  kept_of_list x (Some r) = go (names.is_same (list r) (list x)) refl
    where
      go : (u : Bool) → names.is_same (list r) (list x) ≡ u → IfSome (if u then Some r else None) (λ y. list y ≡ list x)
      go true e = (names.decides (list r) (list x)).0 e
      go false e = tt

  pub kept_same : (x r : Id) → list r ≡ list x → kept_right set x (Some r) ≡ Some r
  kept_same x r e = rw ((names.decides (list r) (list x)).1 e) refl

  -- ---- the table of all

  abbrev all : OriginTable
  all = table_of_all set

  pub all_in : (x : Id) → IsIn x (ids_of all) → P x
  all_in x i = subst (λ xs. IsIn x xs) (rights_ids (λ y. kept_right set y (right y)) set.origins) i

  pub in_all : (x : Id) → P x → IsIn x (ids_of all)
  in_all x i = subst (λ xs. IsIn x xs) (sym (rights_ids (λ y. kept_right set y (right y)) set.origins)) i

  pub all_left : (x : Id) → left_of all x ≡ left x
  all_left x = rights_left (λ y. kept_right set y (right y)) set.origins x

  pub all_right : (x : Id) → P x → right_of all x ≡ kept_right set x (right x)
  all_right x p = rights_right (λ y. kept_right set y (right y)) set.origins x p

  pub all_is_table : IsTable all
  all_is_table = record {
    distinct = subst AreDistinct (sym (rights_ids (λ y. kept_right set y (right y)) set.origins)) t.distinct;
    has_left = λ x i. subst (λ z. IfSome z (λ y. IsIn y (ids_of all))) (sym (all_left x))
        (if_some_map P (λ y. IsIn y (ids_of all)) (left x) in_all (t.has_left x (all_in x i)));
    has_right = λ x i. subst (λ z. IfSome z (λ y. IsIn y (ids_of all))) (sym (all_right x (all_in x i)))
        (kept_there (λ y. IsIn y (ids_of all)) x (right x) (if_some_map P (λ y. IsIn y (ids_of all)) (right x) in_all (t.has_right x (all_in x i))));
    ends = record {
      height = t.ends.height;
      falls_left = λ x i. subst (λ z. IfSome z (λ y. t.ends.height y < t.ends.height x)) (sym (all_left x)) (t.ends.falls_left x (all_in x i));
      falls_right = λ x i. subst (λ z. IfSome z (λ y. t.ends.height y < t.ends.height x)) (sym (all_right x (all_in x i)))
          (kept_there (λ y. t.ends.height y < t.ends.height x) x (right x) (t.ends.falls_right x (all_in x i)));
    };
  }

  -- what the table of a list asks of lefts and rights
  pub left_in_list : (x : Id) → P x → IfSome (left x) (λ y. P y × (list y ≡ list x))
  left_in_list x p = if_some_both P (λ y. list y ≡ list x) (λ y. P y × (list y ≡ list x)) (left x) (λ y q e. (q, e)) (t.has_left x p) (lefts_of_list x p)

  pub right_in_list : (x : Id) → P x → IfSome (kept_right set x (right x)) (λ y. P y × (list y ≡ list x))
  right_in_list x p = if_some_both P (λ y. list y ≡ list x) (λ y. P y × (list y ≡ list x)) (kept_right set x (right x)) (λ y q e. (q, e))
      (kept_there P x (right x) (t.has_right x p)) (kept_of_list x (right x))
