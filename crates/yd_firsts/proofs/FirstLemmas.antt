-- The first and the last units of pieces, as their list is compared.
use Rattle.std.proofs.Common.{◌≡◌, ℕ, ◌-◌, ◌<◌, ◌≤◌, Bool, true, false, List, ◌⊎◌, inl, inr, Option, Some, None, length, get_or, refl, sym, ap, ◌∙◌, subst, arith, true≢false}
use Rattle.std.specs.Prelude.{IfSome, slice_get}
use Rattle.std.proofs.lemmas.Option.{slice_get-get_or}
use Rattle.yd_words.specs.Each.{Each}
use Rattle.yd_words.specs.Member.{IsIn}
use Rattle.yd_words.proofs.OptionLemmas.{some_is}
use Rattle.yd_words.proofs.TestLemmas.{split}
use Rattle.yd_ids.specs.declared.id.Id.{Id}
use Rattle.yd_ids.proofs.IdLemmas.{same_says}
use Rattle.yd_ops.specs.Operation.{later_id}
use Rattle.yd_ops.proofs.OperationLemmas.{later_none}
use Rattle.yd_origins.specs.Before.{is_before}
use Rattle.yd_origins.specs.Table.{OriginTable, ids_of, left_of, right_of, IsTable}
use Rattle.yd_origins.proofs.TableLemmas.{not_itself}
use Rattle.yd_order.specs.Comparing.{Compares, is_told_before}
use Rattle.yd_order.specs.Stretch.{rows_of_stretches, among_rows}
use Rattle.yd_order.specs.declared.stretch.Stretch.{Stretch}
use Rattle.yd_firsts.specs.Firsts.{HasFirst, ComparesFirsts, HaveStarts}
use Rattle.yd_firsts.specs.Pieces.{HasUnits, last_of, IsPieceOf, IsFirstOf, StandFor, AreLasts}
use Rattle.yd_firsts.proofs.FoundLemmas.{at_in, at_inside}
use Rattle.yd_firsts.proofs.PieceLemmas.{last_in}
use Rattle.yd_firsts.proofs.PieceOrderLemmas.{place_in, few_one_way, across, not_back}
use Rattle.yd_firsts.proofs.SmallLemmas.{table, small, some_unit, unit_in, piece_of, last_is, first_in_small, small_piece, stood, first_left, first_right}

module _ (pieces ones : List Stretch) (units : Each HasUnits pieces) (t : IsTable (among_rows (rows_of_stretches pieces))) (stand : StandFor pieces pieces ones)
    (ids : List Id) (cells : List Bool) (compares : Compares (among_rows (rows_of_stretches ones)) ids true cells) (lasts : List Id) (are : AreLasts pieces ids lasts) where
  abbrev whole : OriginTable
  whole = table pieces ones units t stand

  abbrev few : OriginTable
  few = small pieces ones units t stand

  last_unit : (s : Stretch) → IsIn s pieces → s.len - 1 < s.len
  last_unit s i = omega (arith, some_unit pieces ones units t stand s i)

  first_of : (x : Id) → IsIn x ids → IsFirstOf pieces x
  first_of x i = small_piece pieces ones units t stand x ((compares.members x).0 i)

  pub of_first : (x : Id) → IsFirstOf pieces x → IsIn x ids
  of_first x (q, i, e) = (compares.members x).1 (subst (λ (v : Id). IsIn v (ids_of few)) e (first_in_small pieces ones units t stand q i))

  -- a unit before a first, of the same or another piece
  before_first : (s q : Stretch) → IsIn s pieces → IsIn q pieces → (k : ℕ) → k < s.len → is_before whole (later_id s.id k) q.id ≡ is_before few s.id q.id
  before_first s q i j k lt = elim (same_says s.id q.id) [
    | inl e ↦ subst (λ (v : Id). is_before whole (later_id s.id k) v ≡ is_before few s.id v) e.1
        (subst (λ (v : Id). is_before whole (later_id s.id k) v ≡ false) (later_none s.id) (not_back pieces ones units t stand ids cells compares s i 0 k (omega arith) lt)
        ∙ sym (not_itself few s.id))
    | inr e ↦ subst (λ (v : Id). is_before whole (later_id s.id k) v ≡ is_before few s.id q.id) (later_none q.id)
        (across pieces ones units t stand ids cells compares s q i j k 0 lt (some_unit pieces ones units t stand q j) e.1)
  ]

  first_before : (x y : Id) → IsFirstOf pieces x → IsFirstOf pieces y → is_before whole x y ≡ is_before few x y
  first_before x y (s, i, e) (q, j, f) = subst (λ (v : Id). is_before whole v y ≡ is_before few v y) e (subst (λ (w : Id). is_before whole s.id w ≡ is_before few s.id w) f
      (subst (λ (v : Id). is_before whole v q.id ≡ is_before few s.id q.id) (later_none s.id) (before_first s q i j 0 (some_unit pieces ones units t stand s i))))

  -- ---- the last units

  last_of_id : (s q : Stretch) → IsIn s pieces → IsIn q pieces → s.id ≡ q.id → last_of s ≡ last_of q
  last_of_id s q i j e = sym (last_is pieces ones units t stand s i) ∙ ap (last_in pieces) e ∙ last_is pieces ones units t stand q j

  is_last : (n : ℕ) (p : Id) → slice_get lasts n ≡ Some p → (x : Id) × (slice_get ids n ≡ Some x) × ((q : Stretch) × IsIn q pieces × (q.id ≡ x) × (last_of q ≡ p))
  is_last n p e = let f = slice_get-get_or ids n p (omega (arith, at_inside lasts n p e, are.as_many)) in (get_or ids n p, f, are.each n (get_or ids n p) p f e)

  last_there : (q : Stretch) → IsIn q pieces → IsIn (last_of q) lasts
  last_there q i =
      let (n, e) = place_in ids q.id (of_first q.id (q, i, refl)) in
      let f = slice_get-get_or lasts n q.id (omega (arith, at_inside ids n q.id e, are.as_many)) in
      same (are.each n q.id (get_or lasts n q.id) e f) (at_in lasts n (get_or lasts n q.id) f)
    where
      same : {y : Id} → (p : Stretch) × IsIn p pieces × (p.id ≡ q.id) × (last_of p ≡ y) → IsIn y lasts → IsIn (last_of q) lasts
      same (p, j, e, l) k = subst (λ (v : Id). IsIn v lasts) (sym l ∙ last_of_id p q j i e) k

  -- ---- each unit has a first

  first_at : (s : Stretch) → IsIn s pieces → (k : ℕ) → k < s.len → HasFirst whole ids lasts (later_id s.id k)
  first_at s i k lt = record {
    first = s.id;
    there = of_first s.id (s, i, refl);
    client = refl;
    clock = omega arith;
    behind = λ p j e. let (n, f) = place_in lasts p j in behind p n (is_last n p f) e;
    ahead = λ q j e. ahead q (first_of q j) e;
  }
    where
      behind : (p : Id) (n : ℕ) → (x : Id) × (slice_get ids n ≡ Some x) × ((q : Stretch) × IsIn q pieces × (q.id ≡ x) × (last_of q ≡ p)) →
          is_before whole p (later_id s.id k) ≡ true → is_before whole p s.id ≡ true
      behind p n (x, f, found) e = by_piece found
        where
          by_piece : (q : Stretch) × IsIn q pieces × (q.id ≡ x) × (last_of q ≡ p) → is_before whole p s.id ≡ true
          by_piece (q, j, g, l) = elim (same_says q.id s.id) [
            | inl o ↦ absurd (true≢false (sym e ∙ subst (λ (v : Id). is_before whole v (later_id s.id k) ≡ false) (last_of_id s q i j (sym o.1) ∙ l)
                (not_back pieces ones units t stand ids cells compares s i k (s.len - 1) (omega (arith, lt)) (last_unit s i))))
            | inr o ↦ subst (λ (v : Id). is_before whole v s.id ≡ true) l (before_first q s j i (q.len - 1) (last_unit q j)
                ∙ sym (across pieces ones units t stand ids cells compares q s j i (q.len - 1) k (last_unit q j) lt o.1)
                ∙ subst (λ (v : Id). is_before whole v (later_id s.id k) ≡ true) (sym l) e)
          ]

      ahead : (q : Id) → IsFirstOf pieces q → is_before whole (later_id s.id k) q ≡ true → is_before whole s.id q ≡ true
      ahead q (p, j, g) e = subst (λ (v : Id). is_before whole s.id v ≡ true) g (first_before s.id p.id (s, i, refl) (p, j, refl) ∙ sym (before_first s p i j k lt)
          ∙ subst (λ (v : Id). is_before whole (later_id s.id k) v ≡ true) (sym g) e)

  first_unit : (y : Id) → IsIn y (ids_of whole) → HasFirst whole ids lasts y
  first_unit y i = let (s, j, u) = piece_of pieces ones units t stand y i in let (k, lt, e) = u in subst (HasFirst whole ids lasts) (sym e) (first_at s j k lt)

  -- ---- of two units one alone is before the other

  at_units : (s q : Stretch) → IsIn s pieces → IsIn q pieces → (k m : ℕ) → k < s.len → m < q.len → is_before whole (later_id s.id k) (later_id q.id m) ≡ true →
      is_before whole (later_id q.id m) (later_id s.id k) ≡ false
  at_units s q i j k m lt less e = elim (same_says s.id q.id) [
    | inl o ↦ own o.1 (split m k)
    | inr o ↦ across pieces ones units t stand ids cells compares q s j i m k less lt (λ one. o.1 (sym one))
        ∙ few_one_way pieces ones units t stand ids cells compares s.id q.id (first_in_small pieces ones units t stand s i) (first_in_small pieces ones units t stand q j)
        (sym (across pieces ones units t stand ids cells compares s q i j k m lt less o.1) ∙ e)
  ]
    where
      own : s.id ≡ q.id → (m ≤ k) ⊎ (k < m) → is_before whole (later_id q.id m) (later_id s.id k) ≡ false
      own o (inl le) = absurd (true≢false (sym e ∙ subst (λ (v : Id). is_before whole (later_id s.id k) (later_id v m) ≡ false) o
          (not_back pieces ones units t stand ids cells compares s i m k le lt)))
      own o (inr high) = subst (λ (v : Id). is_before whole (later_id q.id m) (later_id v k) ≡ false) (sym o)
          (not_back pieces ones units t stand ids cells compares q j k m (omega (arith, high)) less)

  -- ---- lemmas for callers

  pub first_facts : ComparesFirsts (among_rows (rows_of_stretches pieces)) ids lasts true cells
  first_facts = record {
    size = compares.size;
    as_many = are.as_many;
    member = λ x i. member x (first_of x i);
    before = λ a b x y e f. first_before x y (first_of x (at_in ids a x e)) (first_of y (at_in ids b y f)) ∙ compares.before a b x y e f;
    behind = λ a b x y e f. behind a b x y (is_last a x e) (first_of y (at_in ids b y f)) f;
    left = λ x p i e. left x p (first_of x i) e;
    right = λ x q i e. right x q (first_of x i) e;
    first = first_unit;
    one_way = λ strict x y i j e. one_way x y (piece_of pieces ones units t stand x i) (piece_of pieces ones units t stand y j) e;
    single = λ off x i. absurd (true≢false off);
  }
    where
      member : (x : Id) → IsFirstOf pieces x → IsIn x (ids_of whole)
      member x (s, i, e) = subst (λ (v : Id). IsIn v (ids_of whole)) (later_none s.id ∙ e) (unit_in pieces ones units t stand s i 0 (some_unit pieces ones units t stand s i))

      behind : (a b : ℕ) (x y : Id) → (v : Id) × (slice_get ids a ≡ Some v) × ((q : Stretch) × IsIn q pieces × (q.id ≡ v) × (last_of q ≡ x)) → IsFirstOf pieces y →
          slice_get ids b ≡ Some y → is_before whole x y ≡ is_told_before true cells (length ids) a b
      behind a b x y (v, e, found) (p, j, g) f = by_piece found
        where
          by_piece : (q : Stretch) × IsIn q pieces × (q.id ≡ v) × (last_of q ≡ x) → is_before whole x y ≡ is_told_before true cells (length ids) a b
          by_piece (q, i, h, l) = subst (λ (w : Id). is_before whole x w ≡ is_told_before true cells (length ids) a b) g (subst (λ (w : Id). is_before whole w p.id ≡ is_told_before true cells (length ids) a b) l
              (before_first q p i j (q.len - 1) (last_unit q i) ∙ compares.before a b q.id p.id (e ∙ ap (λ (w : Id). Some w) (sym h)) (f ∙ ap (λ (w : Id). Some w) (sym g))))

      one_way : (x y : Id) → (s : Stretch) × IsIn s pieces × ((k : ℕ) × (k < s.len) × (x ≡ later_id s.id k)) →
          (q : Stretch) × IsIn q pieces × ((m : ℕ) × (m < q.len) × (y ≡ later_id q.id m)) → is_before whole x y ≡ true → is_before whole y x ≡ false
      one_way x y (s, i, (k, lt, e)) (q, j, (m, less, f)) g = subst (λ (v : Id). is_before whole v x ≡ false) (sym f) (subst (λ (v : Id). is_before whole (later_id q.id m) v ≡ false) (sym e)
          (at_units s q i j k m lt less (subst (λ (v : Id). is_before whole (later_id s.id k) v ≡ true) f (subst (λ (v : Id). is_before whole v y ≡ true) e g))))

      left : (x p : Id) → IsFirstOf pieces x → left_of whole x ≡ Some p → IsIn p lasts
      left x p (s, i, e) f = go s.left (stood pieces ones units t stand s i).one.left (stood pieces ones units t stand s i).stands.left
          (sym (first_left pieces ones units t stand s i) ∙ ap (left_of whole) e ∙ f)
        where
          go : (z w : Option Id) → IsPieceOf pieces z w → z ≡ Some p → IsIn p lasts
          go None w g h = absurd cc
          go (Some v) None g h = absurd g
          go (Some v) (Some u) (q, j, l, g) h = subst (λ (y : Id). IsIn y lasts) (l ∙ some_is v p h) (last_there q j)

      right : (x q : Id) → IsFirstOf pieces x → right_of whole x ≡ Some q → IsIn q ids
      right x q (s, i, e) f = of_first q (subst (λ z. IfSome z (IsFirstOf pieces)) (sym (first_right pieces ones units t stand s i) ∙ ap (right_of whole) e ∙ f)
          (stood pieces ones units t stand s i).stands.right_first)

  pub first_starts : HaveStarts pieces ids
  first_starts s i some = of_first s.id (s, i, refl)
