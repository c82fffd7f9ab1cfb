-- The lines over cells say which of two rows is before the other.
use Rattle.std.proofs.Common.{◌≡◌, ◌≢◌, ℕ, ◌<◌, Bool, true, false, ◌||◌, List, length, get_or, nat_eq, Option, Some, None, inl, inr, refl, sym, ◌∙◌, subst, true≢false, arith, tests}
use Rattle.std.specs.Prelude.{IfSome}
use Rattle.std.proofs.lemmas.Bool.{cases_eq}
use Rattle.yd_words.specs.Test.{is_some_and}
use Rattle.yd_ids.specs.declared.id.Id.{Id}
use Rattle.yd_ids.specs.Ids.{is_same, is_smaller, is_same_neighbour}
use Rattle.yd_ids.proofs.IdLemmas.{same_itself, other_id}
use Rattle.yd_origins.specs.Table.{OriginTable, left_of, right_of, IsTable}
use Rattle.yd_origins.specs.Before.{is_up_to, is_later_left, by_lines, is_before}
use Rattle.yd_origins.proofs.LineLemmas.{first_of_lines}
use Rattle.yd_origins.proofs.TableLemmas.{lines_decide}
use Rattle.yd_order.specs.declared.linking.LinkedRow.{LinkedRow}
use Rattle.yd_order.specs.Linking.{id_at, left_at, right_at, id_of_link, table_of_linked, AreLinked}
use Rattle.yd_order.specs.Filling.{is_before_at, cell_at, IsFilled, reaches_place, reaches_left, right_reaches, is_same_link, is_later_link, IsAsked}
use Rattle.yd_order.proofs.LinkedLemmas.{id_read, left_read, right_read, left_inside, right_inside, in_table, one_place, left_is, right_is}

-- ---- the tests over cells

equal_itself : (a : ℕ) → nat_eq a a ≡ true
equal_itself a = grind (arith, tests)

other_number : (a b : ℕ) → a ≢ b → nat_eq a b ≡ false
other_number a b ne = grind (arith, tests)

-- ---- the first test that holds decides

-- a value that the tests of the lines decide
pub record ByTests (value first second third fourth fifth tie sixth : Bool) : Type 0 where
  pub says : value ≡ first_of_lines first second third fourth fifth tie sixth

module _ {value first second third fourth fifth tie sixth : Bool} (by : ByTests value first second third fourth fifth tie sixth) (one : first ≡ true) where
  pub by_first : true ≡ value
  by_first = sym (by.says ∙ (λ i. first_of_lines (one i) second third fourth fifth tie sixth))

module _ {value first second third fourth fifth tie sixth : Bool} (by : ByTests value first second third fourth fifth tie sixth) (none : first ≡ false) where
  pub by_second : second ≡ true → false ≡ value
  by_second e = sym (by.says ∙ (λ i. first_of_lines (none i) (e i) third fourth fifth tie sixth))

  pub by_third : second ≡ false → third ≡ true → true ≡ value
  by_third e f = sym (by.says ∙ (λ i. first_of_lines (none i) (e i) (f i) fourth fifth tie sixth))

  pub by_fourth : second ≡ false → third ≡ false → fourth ≡ true → false ≡ value
  by_fourth e f g = sym (by.says ∙ (λ i. first_of_lines (none i) (e i) (f i) (g i) fifth tie sixth))

  pub by_fifth : second ≡ false → third ≡ false → fourth ≡ false → fifth ≡ true → tie ≡ value
  by_fifth e f g h = sym (by.says ∙ (λ i. first_of_lines (none i) (e i) (f i) (g i) (h i) tie sixth))

  pub by_sixth : second ≡ false → third ≡ false → fourth ≡ false → fifth ≡ false → sixth ≡ value
  by_sixth e f g h = sym (by.says ∙ (λ i. first_of_lines (none i) (e i) (f i) (g i) (h i) tie sixth))

module _ (rows : List LinkedRow) (t : IsTable (table_of_linked rows)) (cells : List Bool) where
  abbrev table : OriginTable
  table = table_of_linked rows

  abbrev before : Id → Id → Bool
  before = is_before table

  -- two places are one where their ids are
  same_place : (a b : ℕ) → a < length rows → b < length rows → is_same (id_at rows a) (id_at rows b) ≡ nat_eq a b
  same_place a b p q = elim (cases_eq a b) [
    | inl e ↦ subst (λ (k : ℕ). is_same (id_at rows a) (id_at rows k) ≡ nat_eq a k) e (same_itself (id_at rows a) ∙ sym (equal_itself a))
    | inr ne ↦ other_id (id_at rows a) (id_at rows b) (λ e. ne (one_place rows a b t.distinct p q e)) ∙ sym (other_number a b ne)
  ]

  filled_says : (a b : ℕ) → IsFilled rows cells a b → before (id_at rows a) (id_at rows b) ≡ cell_at cells (length rows) a b
  unfolding is_before_at
  filled_says a b e = sym e

  reaches_says : (a b : ℕ) → a < length rows → b < length rows → IsFilled rows cells a b →
      is_up_to before (id_at rows a) (id_at rows b) ≡ reaches_place cells (length rows) a b
  reaches_says a b p q f = go (is_same (id_at rows a) (id_at rows b)) (nat_eq a b) (same_place a b p q)
    where
      go : (s n : Bool) → s ≡ n → elim s as (λ x. Bool) [ true ↦ true | false ↦ before (id_at rows a) (id_at rows b) ] ≡ (n || cell_at cells (length rows) a b)
      go true true e = refl
      go false false e = filled_says a b f
      go true false e = absurd (true≢false e)
      go false true e = absurd (true≢false (sym e))

  left_says : (a : ℕ) (z : Option ℕ) → a < length rows → IfSome z (λ p. p < length rows) → IfSome z (λ p. IsFilled rows cells a p) →
      is_some_and (λ y. is_up_to before (id_at rows a) y) (id_of_link rows z) ≡ reaches_left cells (length rows) a z
  left_says a None p q f = refl
  left_says a (Some b) p q f = reaches_says a b p q f

  right_says : (z : Option ℕ) (b : ℕ) → b < length rows → IfSome z (λ r. r < length rows) → IfSome z (λ r. IsFilled rows cells r b) →
      is_some_and (λ y. is_up_to before y (id_at rows b)) (id_of_link rows z) ≡ right_reaches cells (length rows) z b
  right_says None b p q f = refl
  right_says (Some a) b p q f = reaches_says a b q p f

  same_link_says : (z w : Option ℕ) → IfSome z (λ p. p < length rows) → IfSome w (λ p. p < length rows) → is_same_neighbour (id_of_link rows z) (id_of_link rows w) ≡ is_same_link z w
  same_link_says None None p q = refl
  same_link_says None (Some b) p q = refl
  same_link_says (Some a) None p q = refl
  same_link_says (Some a) (Some b) p q = same_place a b p q

  later_says : (z w : Option ℕ) → IfSome w (λ q. IfSome z (λ p. IsFilled rows cells q p)) →
      is_later_left before (id_of_link rows z) (id_of_link rows w) ≡ is_later_link cells (length rows) z w
  later_says None w f = refl
  later_says (Some a) None f = refl
  later_says (Some a) (Some b) f = filled_says b a f

  -- ---- the lines

  module _ (linked : AreLinked rows) (a b : ℕ) (in_a : a < length rows) (in_b : b < length rows) (apart : a ≢ b) (asked : IsAsked rows cells a b) where
    abbrev x : Id
    x = id_at rows a

    abbrev y : Id
    y = id_at rows b

    by_links : by_lines (left_of table) (right_of table) before x y
        ≡ first_of_lines (is_some_and (λ p. is_up_to before x p) (id_of_link rows (left_at rows b))) (is_some_and (λ p. is_up_to before y p) (id_of_link rows (left_at rows a)))
        (is_some_and (λ r. is_up_to before r y) (id_of_link rows (right_at rows a))) (is_some_and (λ r. is_up_to before r x) (id_of_link rows (right_at rows b)))
        (is_same_neighbour (id_of_link rows (left_at rows a)) (id_of_link rows (left_at rows b))) (is_smaller x y)
        (is_later_left before (id_of_link rows (left_at rows a)) (id_of_link rows (left_at rows b)))
    by_links = λ i. first_of_lines (is_some_and (λ p. is_up_to before x p) (left_is rows b t.distinct in_b i)) (is_some_and (λ p. is_up_to before y p) (left_is rows a t.distinct in_a i))
        (is_some_and (λ r. is_up_to before r y) (right_is rows a t.distinct in_a i)) (is_some_and (λ r. is_up_to before r x) (right_is rows b t.distinct in_b i))
        (is_same_neighbour (left_is rows a t.distinct in_a i) (left_is rows b t.distinct in_b i)) (is_smaller x y)
        (is_later_left before (left_is rows a t.distinct in_a i) (left_is rows b t.distinct in_b i))

    -- the lines over cells say which of the two rows is before the other
    pub lines_say : is_before_at rows a b
        ≡ first_of_lines (reaches_left cells (length rows) a (left_at rows b)) (reaches_left cells (length rows) b (left_at rows a))
        (right_reaches cells (length rows) (right_at rows a) b) (right_reaches cells (length rows) (right_at rows b) a)
        (is_same_link (left_at rows a) (left_at rows b)) (is_smaller x y) (is_later_link cells (length rows) (left_at rows a) (left_at rows b))
    unfolding is_before_at
    lines_say = lines_decide table t x y (in_table rows a in_a) (in_table rows b in_b) (λ e. apart (one_place rows a b t.distinct in_a in_b e))
        ∙ by_links
        ∙ (λ i. first_of_lines
        (left_says a (left_at rows b) in_a (left_inside rows b linked in_b) asked.to_left i)
        (left_says b (left_at rows a) in_b (left_inside rows a linked in_a) asked.to_left_back i)
        (right_says (right_at rows a) b in_b (right_inside rows a linked in_a) asked.from_right i)
        (right_says (right_at rows b) a in_a (right_inside rows b linked in_b) asked.from_right_back i)
        (same_link_says (left_at rows a) (left_at rows b) (left_inside rows a linked in_a) (left_inside rows b linked in_b) i)
        (is_smaller x y)
        (later_says (left_at rows a) (left_at rows b) asked.lefts i))

    -- the same, as the rows are read
    pub lines_read : (d : LinkedRow) → ByTests (is_before_at rows a b)
        (reaches_left cells (length rows) a (get_or rows b d).left) (reaches_left cells (length rows) b (get_or rows a d).left)
        (right_reaches cells (length rows) (get_or rows a d).right b) (right_reaches cells (length rows) (get_or rows b d).right a)
        (is_same_link (get_or rows a d).left (get_or rows b d).left) (is_smaller (get_or rows a d).id (get_or rows b d).id)
        (is_later_link cells (length rows) (get_or rows a d).left (get_or rows b d).left)
    lines_read d = record {
      says = lines_say ∙ sym (λ i. first_of_lines
          (reaches_left cells (length rows) a (left_read rows b d in_b i)) (reaches_left cells (length rows) b (left_read rows a d in_a i))
          (right_reaches cells (length rows) (right_read rows a d in_a i) b) (right_reaches cells (length rows) (right_read rows b d in_b i) a)
          (is_same_link (left_read rows a d in_a i) (left_read rows b d in_b i)) (is_smaller (id_read rows a d in_a i) (id_read rows b d in_b i))
          (is_later_link cells (length rows) (left_read rows a d in_a i) (left_read rows b d in_b i)));
    }
