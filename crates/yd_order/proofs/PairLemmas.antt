-- The table of pairs: what each filled pair adds to it.
use Rattle.std.proofs.Common.{◌≡◌, ◌≢◌, ℕ, ◌+◌, ◌*◌, ◌<◌, ◌⊎◌, Bool, false, List, length, set, replicate, Option, inl, inr, sym, ap, ◌∙◌, subst, arith}
use Rattle.std.specs.Prelude.{IfSome, slice_index}
use Rattle.std.proofs.lemmas.Bool.{cases_eq}
use Rattle.std.proofs.lemmas.List.{length-set, length-replicate, get_or-replicate, get_or-set_same, get_or-set_other}
use Rattle.std.proofs.lemmas.Nat.{mul-add-lt, same_from_place}
use Rattle.yd_origins.proofs.TableLemmas.{not_itself}
use Rattle.yd_order.specs.declared.linking.LinkedRow.{LinkedRow}
use Rattle.yd_order.specs.Linking.{id_at, left_at, right_at, table_of_linked}
use Rattle.yd_order.specs.Numbering.{IsEarlier, IsArranged, IsNumbering}
use Rattle.yd_order.specs.Filling.{is_before_at, cell_at, IsFilled, AreFilled, IsAsked, FillsPair, AreFilledBelow}
use Rattle.yd_order.proofs.NumberingLemmas.{link_map}

-- ---- two cells are written

cell_inside : (cells : List Bool) (n a b : ℕ) → length cells ≡ n * n → a < n → b < n → a * n + b < length cells
cell_inside cells n a b size p q = omega (arith, mul-add-lt a n b n p q, size)

cell_written : (cells : List Bool) (n a b : ℕ) (value : Bool) → length cells ≡ n * n → a < n → b < n → cell_at (set cells (a * n + b) value) n a b ≡ value
cell_written cells n a b value size p q = get_or-set_same cells (a * n + b) value false (cell_inside cells n a b size p q)

cell_kept : (cells : List Bool) (n a b c d : ℕ) (value : Bool) → b < n → d < n → (c ≢ a) ⊎ (d ≢ b) → cell_at (set cells (a * n + b) value) n c d ≡ cell_at cells n c d
cell_kept cells n a b c d value q r other = get_or-set_other cells (a * n + b) (c * n + d) value false (apart other)
  where
    apart : (c ≢ a) ⊎ (d ≢ b) → c * n + d ≢ a * n + b
    apart (inl ne) e = ne (same_from_place c d a b n r q e).0
    apart (inr ne) e = ne (same_from_place c d a b n r q e).1

pub pair_filled : (rows : List LinkedRow) (cells : List Bool) (a b : ℕ) (first back : Bool) → length cells ≡ length rows * length rows → a < length rows → b < length rows → a ≢ b →
    first ≡ is_before_at rows a b → back ≡ is_before_at rows b a →
    FillsPair rows cells (set (set cells (a * length rows + b) first) (b * length rows + a) back) a b
pair_filled rows cells a b first back size p q ne e f = record {
  one = cell_kept (set cells (a * n + b) first) n b a a b back p q (inl ne) ∙ cell_written cells n a b first size p q ∙ e;
  back = cell_written (set cells (a * n + b) first) n b a back (length-set cells (a * n + b) first ∙ size) q p ∙ f;
  size = length-set (set cells (a * n + b) first) (b * n + a) back ∙ length-set cells (a * n + b) first;
  others = λ c d r s away. cell_kept (set cells (a * n + b) first) n b a c d back p s (elim away [ inl u ↦ inr u.1 | inr u ↦ inl u.0 ])
      ∙ cell_kept cells n a b c d first q s (elim away [ inl u ↦ inl u.0 | inr u ↦ inr u.1 ]);
}
  where
    n : ℕ
    n = length rows

-- ---- one row's pairs

-- the pairs of earlier rows are filled, and those of this row with so many of them
pub record IsFilling (rows : List LinkedRow) (order : List ℕ) (cells : List Bool) (count done : ℕ) : Type 0 where
  pub below : AreFilledBelow rows order cells count
  pub row : (j : ℕ) → j < done → IsFilled rows cells (slice_index order count) (slice_index order j)
  pub row_back : (j : ℕ) → j < done → IsFilled rows cells (slice_index order j) (slice_index order count)

module _ (rows : List LinkedRow) (order : List ℕ) (cells : List Bool) (count : ℕ) (arranged : IsArranged rows order) (lt : count < length order) where
  abbrev at : ℕ → ℕ
  at = slice_index order

  pub row_begins : AreFilledBelow rows order cells count → IsFilling rows order cells count 0
  row_begins below = record { below = below; row = λ j less. absurd (omega arith); row_back = λ j less. absurd (omega arith) }

  module _ (j : ℕ) (less : j < count) (known : IsFilling rows order cells count j) where
    apart : at count ≢ at j
    apart e = arranged.once j count less lt (sym e)

    -- the row with each of the earlier rows that it has come to
    to_earlier : (z : Option ℕ) → IfSome z (IsEarlier order j) → IfSome z (IsFilled rows cells (at count))
    to_earlier z w = link_map (IsEarlier order j) (IsFilled rows cells (at count)) z (λ p e. subst (IsFilled rows cells (at count)) e.2 (known.row e.0 e.1)) w

    from_earlier : (z : Option ℕ) → IfSome z (IsEarlier order j) → IfSome z (λ p. IsFilled rows cells p (at count))
    from_earlier z w = link_map (IsEarlier order j) (λ p. IsFilled rows cells p (at count)) z
        (λ p e. subst (λ (k : ℕ). IsFilled rows cells k (at count)) e.2 (known.row_back e.0 e.1)) w

    -- an earlier row with each earlier row
    to_row : (i : ℕ) → i < count → (z : Option ℕ) → IfSome z (IsEarlier order count) → IfSome z (IsFilled rows cells (at i))
    to_row i low z w = link_map (IsEarlier order count) (IsFilled rows cells (at i)) z (λ p e. subst (IsFilled rows cells (at i)) e.2 (known.below.pairs i e.0 low e.1)) w

    from_row : (i : ℕ) → i < count → (z : Option ℕ) → IfSome z (IsEarlier order count) → IfSome z (λ p. IsFilled rows cells p (at i))
    from_row i low z w = link_map (IsEarlier order count) (λ p. IsFilled rows cells p (at i)) z
        (λ p e. subst (λ (k : ℕ). IsFilled rows cells k (at i)) e.2 (known.below.pairs e.0 i e.1 low)) w

    below_count : (z : Option ℕ) → IfSome z (IsEarlier order j) → IfSome z (IsEarlier order count)
    below_count z w = link_map (IsEarlier order j) (IsEarlier order count) z (λ p e. (e.0, omega (arith, e.1, less), e.2)) w

    both_lefts : (z w : Option ℕ) → IfSome z (IsEarlier order count) → IfSome w (IsEarlier order count) → IfSome w (λ q. IfSome z (λ p. IsFilled rows cells q p))
    both_lefts z w u v = link_map (IsEarlier order count) (λ q. IfSome z (λ p. IsFilled rows cells q p)) w
        (λ q e. subst (λ (k : ℕ). IfSome z (IsFilled rows cells k)) e.2 (to_row e.0 e.1 z u)) v

    j_inside : j < length order
    j_inside = omega (arith, less, lt)

    -- what the lines ask of the row and an earlier one is filled, in both directions
    pub pair_asked : IsAsked rows cells (at count) (at j)
    pair_asked = record {
      to_left = to_earlier (left_at rows (at j)) (arranged.left_earlier j j_inside);
      to_left_back = to_row j less (left_at rows (at count)) (arranged.left_earlier count lt);
      from_right = from_row j less (right_at rows (at count)) (arranged.right_earlier count lt);
      from_right_back = from_earlier (right_at rows (at j)) (arranged.right_earlier j j_inside);
      lefts = both_lefts (left_at rows (at count)) (left_at rows (at j)) (arranged.left_earlier count lt) (below_count (left_at rows (at j)) (arranged.left_earlier j j_inside));
    }

    pub pair_asked_back : IsAsked rows cells (at j) (at count)
    pair_asked_back = record {
      to_left = to_row j less (left_at rows (at count)) (arranged.left_earlier count lt);
      to_left_back = to_earlier (left_at rows (at j)) (arranged.left_earlier j j_inside);
      from_right = from_earlier (right_at rows (at j)) (arranged.right_earlier j j_inside);
      from_right_back = from_row j less (right_at rows (at count)) (arranged.right_earlier count lt);
      lefts = both_lefts (left_at rows (at j)) (left_at rows (at count)) (below_count (left_at rows (at j)) (arranged.left_earlier j j_inside)) (arranged.left_earlier count lt);
    }

    -- once the pair is filled, the row has come to one more
    pub row_goes_on : (new : List Bool) → FillsPair rows cells new (at count) (at j) → IsFilling rows order new count (j + 1)
    row_goes_on new fills = record {
      below = record {
        size = fills.size ∙ known.below.size;
        itself = λ a p. fills.others a a p p (elim (cases_eq a (at count)) [
          | inl e ↦ inr ((λ f. apart (sym e ∙ f)), (λ f. apart (sym e ∙ f)))
          | inr other ↦ inl (other, other)
        ]) ∙ known.below.itself a p;
        pairs = λ i k p q. fills.others (at i) (at k) (arranged.inside i (omega (arith, p, lt))) (arranged.inside k (omega (arith, q, lt)))
            (inl (arranged.once i count p lt, arranged.once k count q lt)) ∙ known.below.pairs i k p q;
      };
      row = λ i p. elim (order_of i p) [
        | inl low ↦ fills.others (at count) (at i) (arranged.inside count lt) (arranged.inside i (omega (arith, low, less, lt)))
            (inr (apart, arranged.once i j low j_inside)) ∙ known.row i low
        | inr e ↦ subst (λ (k : ℕ). IsFilled rows new (at count) (at k)) (sym e) fills.one
      ];
      row_back = λ i p. elim (order_of i p) [
        | inl low ↦ fills.others (at i) (at count) (arranged.inside i (omega (arith, low, less, lt))) (arranged.inside count lt)
            (inr (arranged.once i j low j_inside, apart)) ∙ known.row_back i low
        | inr e ↦ subst (λ (k : ℕ). IsFilled rows new (at k) (at count)) (sym e) fills.back
      ];
    }
      where
        order_of : (i : ℕ) → i < j + 1 → (i < j) ⊎ (i ≡ j)
        order_of i p = grind arith

  -- with all earlier rows the row is filled
  pub row_ends : IsFilling rows order cells count count → AreFilledBelow rows order cells (count + 1)
  row_ends known = record {
    size = known.below.size;
    itself = known.below.itself;
    pairs = λ i k p q. elim (order_of i p) [
      | inl low ↦ elim (order_of k q) [
        | inl less ↦ known.below.pairs i k low less
        | inr e ↦ subst (λ (m : ℕ). IsFilled rows cells (at i) (at m)) (sym e) (known.row_back i low)
      ]
      | inr e ↦ elim (order_of k q) [
        | inl less ↦ subst (λ (m : ℕ). IsFilled rows cells (at m) (at k)) (sym e) (known.row k less)
        | inr f ↦ subst (λ (m : ℕ). IsFilled rows cells (at m) (at k)) (sym e)
            (subst (λ (m : ℕ). IsFilled rows cells (at count) (at m)) (sym f) (known.below.itself (at count) (arranged.inside count lt)))
      ]
    ];
  }
    where
      order_of : (i : ℕ) → i < count + 1 → (i < count) ⊎ (i ≡ count)
      order_of i p = grind arith

-- ---- all rows

-- cells that say no are right for each row with itself
pub none_filled : (rows : List LinkedRow) (order : List ℕ) (cells : List Bool) → cells ≡ replicate (length rows * length rows) false → AreFilledBelow rows order cells 0
unfolding is_before_at
none_filled rows order cells e = record {
  size = ap length e ∙ length-replicate (length rows * length rows) false;
  itself = λ a p. subst (λ (xs : List Bool). cell_at xs (length rows) a a ≡ false) (sym e)
      (get_or-replicate (length rows * length rows) (a * length rows + a) false false (mul-add-lt a (length rows) a (length rows) p p))
      ∙ sym (not_itself (table_of_linked rows) (id_at rows a));
  pairs = λ i j p q. absurd (omega arith);
}

pub all_filled : (rows : List LinkedRow) (order : List ℕ) (cells : List Bool) → IsNumbering rows order → AreFilledBelow rows order cells (length order) → AreFilled rows cells
all_filled rows order cells numbering known a b p q =
    let (i, low, e) = numbering.all a p in
    let (j, less, f) = numbering.all b q in
    subst (λ (k : ℕ). IsFilled rows cells k b) e (subst (IsFilled rows cells (slice_index order i)) f (known.pairs i j low less))
