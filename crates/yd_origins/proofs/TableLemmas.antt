-- In every table the six lines decide, and of two rows one is before the other.
use Rattle.std.proofs.Common.{◌≡◌, ◌≢◌, ℕ, zero, suc, ◌+◌, ◌*◌, ◌<◌, Bool, true, false, List, ◌⊎◌, inl, inr, Some, None, Option, length, refl, sym, ◌∙◌, subst, arith, true≢false}
use Rattle.std.specs.Prelude.{IfSome}
use Rattle.yd_words.specs.Test.{is_some_and}
use Rattle.yd_words.specs.Member.{IsIn}
use Rattle.yd_words.proofs.OptionLemmas.{if_some_map, if_some_both}
use Rattle.yd_ids.specs.declared.id.Id.{Id}
use Rattle.yd_ids.specs.Ids.{is_same, is_smaller, is_same_neighbour}
use Rattle.yd_ids.proofs.IdLemmas.{other_id, same_itself, same_neighbour_flip, smaller_total}
use Rattle.yd_origins.specs.Table.{OriginTable, ids_of, left_of, right_of, IsTable}
use Rattle.yd_origins.specs.Before.{is_up_to, is_later_left, by_lines, is_before_within, is_before, IsBefore}
use Rattle.yd_origins.proofs.LineLemmas.{first_of_lines}
use Rattle.yd_origins.proofs.PlacedLemmas.{IsListed}
use Rattle.yd_origins.proofs.BeforeLemmas.{AgreeAt, lines_alike, more_uses}
use Rattle.yd_origins.proofs.ListingLemmas.{arranged, arranged_in, in_arranged, arranged_falling, arranged_distinct, arranged_length, listed, rank, rank_below, rank_left, rank_right}

-- where the lines at a and b answer no, those at b and a answer yes: the tests come in another order
lines_flip : (first second third fourth fifth fifth_back tie tie_back sixth sixth_back : Bool) → fifth ≡ fifth_back → (tie ≡ false → tie_back ≡ true) →
    (fifth ≡ false → sixth ≡ false → sixth_back ≡ true) →
    first_of_lines first second third fourth fifth tie sixth ≡ false → first_of_lines second first fourth third fifth_back tie_back sixth_back ≡ true
lines_flip true second third fourth fifth fifth_back tie tie_back sixth sixth_back e f g k = absurd (true≢false k)
lines_flip false true third fourth fifth fifth_back tie tie_back sixth sixth_back e f g k = refl
lines_flip false false true fourth fifth fifth_back tie tie_back sixth sixth_back e f g k = absurd (true≢false k)
lines_flip false false false true fifth fifth_back tie tie_back sixth sixth_back e f g k = refl
lines_flip false false false false true fifth_back tie tie_back sixth sixth_back e f g k = rw (← e) (f k)
lines_flip false false false false false fifth_back tie tie_back sixth sixth_back e f g k = rw (← e) (g refl k)

pub not_itself : (table : OriginTable) (a : Id) → is_before table a a ≡ false
not_itself table a = rw (same_itself a, is_before_within) refl

module _ (table : OriginTable) (t : IsTable table) where
  abbrev left : Id → Option Id
  left = left_of table

  abbrev right : Id → Option Id
  right = right_of table

  abbrev P : Id → Type 0
  P x = IsIn x (ids_of table)

  -- ---- a height below the number of rows

  -- the ids in an arrangement in which lefts and rights stand behind
  abbrev pub listing : List Id
  listing = arranged t.ends.height (ids_of table)

  pub to_listing : (x : Id) → P x → IsIn x listing
  to_listing = in_arranged t.ends.height (ids_of table)

  pub from_listing : (x : Id) → IsIn x listing → P x
  from_listing = arranged_in t.ends.height (ids_of table)

  pub is_listed : IsListed left right listing
  is_listed = listed t.ends.height left right listing (arranged_falling t.ends.height (ids_of table)) (arranged_distinct t.ends.height (ids_of table) t.distinct)
      (λ x i. if_some_both P (λ y. t.ends.height y < t.ends.height x) (λ y. IsIn y listing × (t.ends.height y < t.ends.height x)) (left x)
      (λ y p lt. (to_listing y p, lt)) (t.has_left x (from_listing x i)) (t.ends.falls_left x (from_listing x i)))
      (λ x i. if_some_both P (λ y. t.ends.height y < t.ends.height x) (λ y. IsIn y listing × (t.ends.height y < t.ends.height x)) (right x)
      (λ y p lt. (to_listing y p, lt)) (t.has_right x (from_listing x i)) (t.ends.falls_right x (from_listing x i)))

  abbrev pub height : Id → ℕ
  height = rank listing

  pub height_small : (x : Id) → P x → height x < length (ids_of table)
  height_small x p = rw (← arranged_length t.ends.height (ids_of table)) (rank_below listing x (to_listing x p))

  pub low_left : (x : Id) → P x → IfSome (left x) (λ y. height y < height x)
  low_left x p = if_some_map (λ y. IsIn y listing × (height y < height x)) (λ y. height y < height x) (left x) (λ y w. w.1)
      (rank_left left right listing is_listed x (to_listing x p))

  pub low_right : (x : Id) → P x → IfSome (right x) (λ y. height y < height x)
  low_right x p = if_some_map (λ y. IsIn y listing × (height y < height x)) (λ y. height y < height x) (right x) (λ y w. w.1)
      (rank_right left right listing is_listed x (to_listing x p))

  -- ---- the lines decide

  -- enough uses, and one more
  enough : (x y : Id) → P x → P y → suc (height x + height y) < 2 * length (ids_of table) →
      is_before_within left right (2 * length (ids_of table)) x y ≡ is_before table x y
  enough x y p q lt = sym (more_uses left right P height t.has_left t.has_right low_left low_right
      (2 * length (ids_of table)) (suc (2 * length (ids_of table))) x y p q (omega arith) (omega arith))

  agree : (a b : Id) → P a → P b → AgreeAt left right (is_before_within left right (2 * length (ids_of table))) (is_before table) a b
  agree a b p q = record {
    to_left = if_some_both P (λ y. height y < height b) (λ y. uses a y ≡ is_before table a y) (left b) (λ y r lt. enough a y p r (omega (arith, small)))
        (t.has_left b q) (low_left b q);
    to_left_back = if_some_both P (λ y. height y < height a) (λ y. uses b y ≡ is_before table b y) (left a) (λ y r lt. enough b y q r (omega (arith, small)))
        (t.has_left a p) (low_left a p);
    from_right = if_some_both P (λ y. height y < height a) (λ y. uses y b ≡ is_before table y b) (right a) (λ y r lt. enough y b r q (omega (arith, small)))
        (t.has_right a p) (low_right a p);
    from_right_back = if_some_both P (λ y. height y < height b) (λ y. uses y a ≡ is_before table y a) (right b) (λ y r lt. enough y a r p (omega (arith, small)))
        (t.has_right b q) (low_right b q);
    lefts = if_some_both P (λ y. height y < height b) (λ y. IfSome (left a) (λ z. uses y z ≡ is_before table y z)) (left b)
        (λ y r lt. if_some_both P (λ z. height z < height a) (λ z. uses y z ≡ is_before table y z) (left a) (λ z s less. enough y z r s (omega (arith, small)))
        (t.has_left a p) (low_left a p))
        (t.has_left b q) (low_left b q);
  }
    where
      uses : Id → Id → Bool
      uses = is_before_within left right (2 * length (ids_of table))

      small : (height a < length (ids_of table)) × (height b < length (ids_of table))
      small = (height_small a p, height_small b q)

  -- the first line that applies decides
  pub lines_decide : (a b : Id) → P a → P b → a ≢ b → is_before table a b ≡ by_lines left right (is_before table) a b
  lines_decide a b p q ne = rw (other_id a b ne, is_before_within) (lines_alike left right (is_before_within left right (2 * length (ids_of table)))
      (is_before table) a b (agree a b p q))

  -- ---- of two rows one is before the other

  later_left_flip : (z w : Option Id) → IfSome w (λ q. IfSome z (λ p. p ≢ q → is_before table q p ≡ false → is_before table p q ≡ true)) →
      is_same_neighbour z w ≡ false → is_later_left (is_before table) z w ≡ false → is_later_left (is_before table) w z ≡ true
  later_left_flip None None f e g = absurd (true≢false e)
  later_left_flip None (Some q) f e g = refl
  later_left_flip (Some p) None f e g = absurd (true≢false g)
  later_left_flip (Some p) (Some q) f e g = f (λ one. true≢false (sym (same_itself q) ∙ subst (λ v. is_same v q ≡ false) one e)) g

  total_within : (n : ℕ) (a b : Id) → P a → P b → height a + height b < n → a ≢ b → is_before table a b ≡ false → is_before table b a ≡ true
  total_within zero a b p q small ne e = absurd (omega arith)
  total_within (suc n) a b p q small ne e = lines_decide b a q p (λ u. ne (sym u)) ∙ lines_flip
      (is_some_and (λ y. is_up_to (is_before table) a y) (left b)) (is_some_and (λ y. is_up_to (is_before table) b y) (left a))
      (is_some_and (λ y. is_up_to (is_before table) y b) (right a)) (is_some_and (λ y. is_up_to (is_before table) y a) (right b))
      (is_same_neighbour (left a) (left b)) (is_same_neighbour (left b) (left a)) (is_smaller a b) (is_smaller b a)
      (is_later_left (is_before table) (left a) (left b)) (is_later_left (is_before table) (left b) (left a))
      (same_neighbour_flip (left a) (left b))
      (smaller_total a b (other_id a b ne))
      (later_left_flip (left a) (left b) (if_some_both P (λ y. height y < height b)
      (λ y. IfSome (left a) (λ z. z ≢ y → is_before table y z ≡ false → is_before table z y ≡ true)) (left b)
      (λ y r lt. if_some_both P (λ z. height z < height a) (λ z. z ≢ y → is_before table y z ≡ false → is_before table z y ≡ true) (left a)
      (λ z s less other f. total_within n y z r s (omega arith) (λ u. other (sym u)) f) (t.has_left a p) (low_left a p))
      (t.has_left b q) (low_left b q)))
      (sym (lines_decide a b p q ne) ∙ e)

  pub total : (a b : Id) → P a → P b → a ≢ b → IsBefore table a b ⊎ IsBefore table b a
  total a b p q ne = go (is_before table a b) refl
    where
      go : (v : Bool) → is_before table a b ≡ v → IsBefore table a b ⊎ IsBefore table b a
      go true e = inl e
      go false e = inr (total_within (suc (height a + height b)) a b p q (omega arith) ne e)
