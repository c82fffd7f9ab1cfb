-- The table of one unit for each piece, and how the pieces of the whole table stand to it.
use Rattle.std.proofs.Common.{◌≡◌, ℕ, zero, suc, ◌-◌, ◌<◌, ◌≤◌, List, [], ◌∷◌, ◌++◌, inl, inr, Option, Some, None, refl, sym, ap, ◌∙◌, subst, arith}
use Rattle.std.specs.Prelude.{IfSome}
use Rattle.yd_words.specs.Each.{Each}
use Rattle.yd_words.specs.Member.{IsIn, AreDistinct}
use Rattle.yd_words.proofs.MemberLemmas.{each_in}
use Rattle.yd_ids.specs.declared.id.Id.{Id}
use Rattle.yd_ids.proofs.IdLemmas.{same_says, has_says}
use Rattle.yd_ops.specs.Operation.{later_id}
use Rattle.yd_ops.proofs.OperationLemmas.{later_none}
use Rattle.yd_origins.specs.Table.{OriginTable, ids_of, left_of, right_of, IsTable}
use Rattle.yd_origins.specs.Operations.{with_rights}
use Rattle.yd_origins.proofs.PartLemmas.{found_left, found_right, row_id_in}
use Rattle.yd_origins.proofs.ListLemmas.{rights_ids, rights_left}
use Rattle.yd_order.specs.Stretch.{rows_from, rows_of_stretches, right_among, among_rows}
use Rattle.yd_order.specs.declared.stretch.Stretch.{Stretch}
use Rattle.yd_order.proofs.LinkingLemmas.{distinct_rows}
use Rattle.yd_firsts.specs.Pieces.{HasUnits, firsts_of, last_of, IsPieceOf, IsFirstOf, StandsFor, StandFor}
use Rattle.yd_firsts.proofs.PieceLemmas.{left_from, row_at, unit_row, unit_there, unit_of, first_in, last_in, at_piece, first_piece, piece_first, first_there, distinct_firsts}

rights_right : (f : Id → Option Id) (rows : OriginTable) (x : Id) → IsIn x (ids_of rows) → right_of (with_rights f rows) x ≡ f x
rights_right f [] x i = absurd i
rights_right f (r ∷ rs) x i = elim (same_says r.id x) [
  | inl e ↦ rw e.0 (ap f e.1)
  | inr e ↦ rw e.0 (rights_right f rs x (elim i [ inl g ↦ absurd (e.1 (sym g)) | inr j ↦ j ]))
]

-- an id that is there stays
among_there : (ids : List Id) (z : Option Id) → IfSome z (λ y. IsIn y ids) → right_among ids z ≡ z
among_there ids None w = refl
among_there ids (Some x) w = elim (has_says ids x) [ inl e ↦ rw e.0 refl | inr e ↦ absurd (e.1 w) ]

if_some : (P Q : Id → Type 0) (z : Option Id) → ((y : Id) → P y → Q y) → IfSome z P → IfSome z Q
if_some P Q None f h = tt
if_some P Q (Some y) f h = f y h

-- ---- one for each

stand_ids : (all ss ds : List Stretch) → StandFor all ss ds → firsts_of ds ≡ firsts_of ss
stand_ids all [] [] f = refl
stand_ids all [] (d ∷ ds) f = absurd f
stand_ids all (s ∷ ss) [] f = absurd f
stand_ids all (s ∷ ss) (d ∷ ds) f = (λ i. f.0.id i ∷ stand_ids all ss ds f.1 i)

stand_rows : (all ss ds : List Stretch) → StandFor all ss ds → ids_of (rows_of_stretches ds) ≡ firsts_of ds
stand_rows all [] [] f = refl
stand_rows all [] (d ∷ ds) f = absurd f
stand_rows all (s ∷ ss) [] f = absurd f
stand_rows all (s ∷ ss) (d ∷ ds) f = ap (λ (n : ℕ). ids_of (rows_from d.id d.left d.right n ++ rows_of_stretches ds)) f.0.single
    ∙ ap (λ (xs : List Id). d.id ∷ xs) (stand_rows all ss ds f.1)

one_of : (all ss ds : List Stretch) → StandFor all ss ds → (s : Stretch) → IsIn s ss → (d : Stretch) × IsIn d ds × StandsFor all s d
one_of all [] [] f s i = absurd i
one_of all [] (d ∷ ds) f s i = absurd f
one_of all (p ∷ ss) [] f s i = absurd f
one_of all (p ∷ ss) (d ∷ ds) f s (inl e) = (d, inl refl, subst (λ (q : Stretch). StandsFor all q d) (sym e) f.0)
one_of all (p ∷ ss) (d ∷ ds) f s (inr i) = let (c, j, g) = one_of all ss ds f.1 s i in (c, inr j, g)

module _ (pieces ones : List Stretch) (units : Each HasUnits pieces) (t : IsTable (among_rows (rows_of_stretches pieces))) (stand : StandFor pieces pieces ones) where
  abbrev rows : OriginTable
  rows = rows_of_stretches pieces

  abbrev pub table : OriginTable
  table = among_rows rows

  abbrev small_rows : OriginTable
  small_rows = rows_of_stretches ones

  abbrev pub small : OriginTable
  small = among_rows small_rows

  distinct : AreDistinct (ids_of rows)
  distinct = distinct_rows rows t

  ids_same : ids_of table ≡ ids_of rows
  ids_same = rights_ids (λ x. right_among (ids_of rows) (right_of rows x)) rows

  pub some_unit : (s : Stretch) → IsIn s pieces → 0 < s.len
  some_unit s i = each_in HasUnits pieces units s i

  -- ---- the units of a piece in the whole table

  pub unit_in : (s : Stretch) → IsIn s pieces → (k : ℕ) → k < s.len → IsIn (later_id s.id k) (ids_of table)
  unit_in s i k lt = subst (λ (xs : List Id). IsIn (later_id s.id k) xs) (sym ids_same) (unit_there pieces s i k lt)

  pub piece_of : (x : Id) → IsIn x (ids_of table) → (s : Stretch) × IsIn s pieces × ((k : ℕ) × (k < s.len) × (x ≡ later_id s.id k))
  piece_of x i = unit_of pieces x (subst (λ (xs : List Id). IsIn x xs) ids_same i)

  pub unit_left : (s : Stretch) → IsIn s pieces → (k : ℕ) → k < s.len → left_of table (later_id s.id k) ≡ left_from s.id s.left k
  unit_left s i k lt = rights_left (λ x. right_among (ids_of rows) (right_of rows x)) rows (later_id s.id k)
      ∙ found_left (row_at s.id s.left s.right k) rows distinct (unit_row pieces s i k lt)

  first_is_row : (x : Id) → IsFirstOf pieces x → IsIn x (ids_of rows)
  first_is_row x (q, i, e) = subst (λ (v : Id). IsIn v (ids_of rows)) e (first_there pieces units q i)

  right_first : (s : Stretch) → IsIn s pieces → IfSome s.right (IsFirstOf pieces)
  right_first s i = let (d, j, f) = one_of pieces pieces ones stand s i in f.right_first

  pub unit_right : (s : Stretch) → IsIn s pieces → (k : ℕ) → k < s.len → right_of table (later_id s.id k) ≡ s.right
  unit_right s i k lt = rights_right (λ x. right_among (ids_of rows) (right_of rows x)) rows (later_id s.id k) (unit_there pieces s i k lt)
      ∙ ap (right_among (ids_of rows)) (found_right (row_at s.id s.left s.right k) rows distinct (unit_row pieces s i k lt))
      ∙ among_there (ids_of rows) s.right (if_some (IsFirstOf pieces) (λ y. IsIn y (ids_of rows)) s.right first_is_row (right_first s i))

  pub first_is : (s : Stretch) → IsIn s pieces → (k : ℕ) → k < s.len → first_in pieces (later_id s.id k) ≡ s.id
  first_is s i k lt = (at_piece pieces distinct s i k lt).0

  pub last_is : (s : Stretch) → IsIn s pieces → last_in pieces s.id ≡ last_of s
  last_is s i = subst (λ (x : Id). last_in pieces x ≡ last_of s) (later_none s.id) (at_piece pieces distinct s i 0 (some_unit s i)).1

  pub first_itself : (s : Stretch) → IsIn s pieces → first_in pieces s.id ≡ s.id
  first_itself s i = subst (λ (x : Id). first_in pieces x ≡ s.id) (later_none s.id) (first_is s i 0 (some_unit s i))

  -- ---- the small table

  small_ids : ids_of small ≡ firsts_of pieces
  small_ids = rights_ids (λ x. right_among (ids_of small_rows) (right_of small_rows x)) small_rows ∙ stand_rows pieces pieces ones stand ∙ stand_ids pieces pieces ones stand

  small_row_ids : ids_of small_rows ≡ firsts_of pieces
  small_row_ids = stand_rows pieces pieces ones stand ∙ stand_ids pieces pieces ones stand

  small_distinct : AreDistinct (ids_of small_rows)
  small_distinct = subst AreDistinct (sym small_row_ids) (distinct_firsts pieces units distinct)

  pub first_in_small : (s : Stretch) → IsIn s pieces → IsIn s.id (ids_of small)
  first_in_small s i = subst (λ (xs : List Id). IsIn s.id xs) (sym small_ids) (piece_first pieces s i)

  pub small_piece : (x : Id) → IsIn x (ids_of small) → IsFirstOf pieces x
  small_piece x i = first_piece pieces x (subst (λ (xs : List Id). IsIn x xs) small_ids i)

  firsts_small : (x : Id) → IsFirstOf pieces x → IsIn x (ids_of small_rows)
  firsts_small x (q, i, e) = subst (λ (v : Id). IsIn v (ids_of small_rows)) e (subst (λ (xs : List Id). IsIn q.id xs) (sym small_row_ids) (piece_first pieces q i))

  -- what stands for a piece in the small table
  pub record Stood (s : Stretch) : Type 0 where
    pub one : Stretch
    pub stands : StandsFor pieces s one
    pub left : left_of small s.id ≡ one.left
    pub right : right_of small s.id ≡ s.right

  pub stood : (s : Stretch) → IsIn s pieces → Stood s
  stood s i = let (d, j, f) = one_of pieces pieces ones stand s i in made d j f
    where
      made : (d : Stretch) → IsIn d ones → StandsFor pieces s d → Stood s
      made d j f = record {
        one = d;
        stands = f;
        left = subst (λ (x : Id). left_of small x ≡ d.left) same (rights_left (λ x. right_among (ids_of small_rows) (right_of small_rows x)) small_rows (later_id d.id 0)
            ∙ found_left (row_at d.id d.left d.right 0) small_rows small_distinct own);
        right = subst (λ (x : Id). right_of small x ≡ s.right) same
            (rights_right (λ x. right_among (ids_of small_rows) (right_of small_rows x)) small_rows (later_id d.id 0) (row_id_in (row_at d.id d.left d.right 0) small_rows own)
            ∙ ap (right_among (ids_of small_rows)) (found_right (row_at d.id d.left d.right 0) small_rows small_distinct own ∙ f.right)
            ∙ among_there (ids_of small_rows) s.right (if_some (IsFirstOf pieces) (λ y. IsIn y (ids_of small_rows)) s.right firsts_small f.right_first));
      }
        where
          own : IsIn (row_at d.id d.left d.right 0) small_rows
          own = unit_row ones d j 0 (omega (arith, f.single))

          same : later_id d.id 0 ≡ s.id
          same = later_none d.id ∙ f.id

  -- ---- it is a table

  abbrev height : Id → ℕ
  height = t.ends.height

  left_low : (x y : Id) → IsIn x (ids_of table) → left_of table x ≡ Some y → height y < height x
  left_low x y i e = subst (λ z. IfSome z (λ v. height v < height x)) e (t.ends.falls_left x i)

  rising : (s : Stretch) → IsIn s pieces → (k : ℕ) → k < s.len → height s.id ≤ height (later_id s.id k)
  rising s i zero lt = subst (λ (x : Id). height s.id ≤ height x) (sym (later_none s.id)) (omega arith)
  rising s i (suc k) lt = omega (arith, rising s i k (omega (arith, lt)), left_low (later_id s.id (suc k)) (later_id s.id k) (unit_in s i (suc k) lt) (unit_left s i (suc k) lt))

  first_unit : (s : Stretch) → IsIn s pieces → IsIn s.id (ids_of table)
  first_unit s i = subst (λ (x : Id). IsIn x (ids_of table)) (later_none s.id) (unit_in s i 0 (some_unit s i))

  pub first_left : (s : Stretch) → IsIn s pieces → left_of table s.id ≡ s.left
  first_left s i = subst (λ (x : Id). left_of table x ≡ s.left) (later_none s.id) (unit_left s i 0 (some_unit s i))

  pub first_right : (s : Stretch) → IsIn s pieces → right_of table s.id ≡ s.right
  first_right s i = subst (λ (x : Id). right_of table x ≡ s.right) (later_none s.id) (unit_right s i 0 (some_unit s i))

  to_small : (x : Id) → IsFirstOf pieces x → IsIn x (ids_of small)
  to_small x (q, i, e) = subst (λ (v : Id). IsIn v (ids_of small)) e (first_in_small q i)

  lower_left : (s : Stretch) → IsIn s pieces → (z w : Option Id) → s.left ≡ z → IsPieceOf pieces z w → IfSome w (λ x. IsIn x (ids_of small) × (height x < height s.id))
  lower_left s i None None e f = tt
  lower_left s i None (Some x) e f = absurd f
  lower_left s i (Some p) None e f = tt
  lower_left s i (Some p) (Some x) e (q, j, l, g) = (
    to_small x (q, j, g),
    subst (λ (v : Id). height v < height s.id) g (omega (
      arith,
      rising q j (q.len - 1) (omega (arith, some_unit q j)),
      subst (λ (v : Id). height v < height s.id) (sym l) (left_low s.id p (first_unit s i) (first_left s i ∙ e)),
    )),
  )

  lower_right : (s : Stretch) → IsIn s pieces → IfSome s.right (λ x. IsIn x (ids_of small) × (height x < height s.id))
  lower_right s i = go s.right (right_first s i) (subst (λ z. IfSome z (λ v. height v < height s.id)) (first_right s i) (t.ends.falls_right s.id (first_unit s i)))
    where
      go : (z : Option Id) → IfSome z (IsFirstOf pieces) → IfSome z (λ v. height v < height s.id) → IfSome z (λ x. IsIn x (ids_of small) × (height x < height s.id))
      go None f g = tt
      go (Some x) f g = (to_small x f, g)

  small_left : (x : Id) → IsIn x (ids_of small) → IfSome (left_of small x) (λ y. IsIn y (ids_of small) × (height y < height x))
  small_left x i = let (s, j, e) = small_piece x i in at s j e
    where
      at : (s : Stretch) → IsIn s pieces → s.id ≡ x → IfSome (left_of small x) (λ y. IsIn y (ids_of small) × (height y < height x))
      at s j e = subst (λ (v : Id). IfSome (left_of small v) (λ y. IsIn y (ids_of small) × (height y < height v))) e
          (subst (λ z. IfSome z (λ y. IsIn y (ids_of small) × (height y < height s.id))) (sym (stood s j).left) (lower_left s j s.left (stood s j).one.left refl (stood s j).stands.left))

  small_right : (x : Id) → IsIn x (ids_of small) → IfSome (right_of small x) (λ y. IsIn y (ids_of small) × (height y < height x))
  small_right x i = let (s, j, e) = small_piece x i in at s j e
    where
      at : (s : Stretch) → IsIn s pieces → s.id ≡ x → IfSome (right_of small x) (λ y. IsIn y (ids_of small) × (height y < height x))
      at s j e = subst (λ (v : Id). IfSome (right_of small v) (λ y. IsIn y (ids_of small) × (height y < height v))) e
          (subst (λ z. IfSome z (λ y. IsIn y (ids_of small) × (height y < height s.id))) (sym (stood s j).right) (lower_right s j))

  pub small_table : IsTable small
  small_table = record {
    distinct = subst AreDistinct (sym small_ids) (distinct_firsts pieces units distinct);
    has_left = λ x i. if_some (λ y. IsIn y (ids_of small) × (height y < height x)) (λ y. IsIn y (ids_of small)) (left_of small x) (λ y h. h.0) (small_left x i);
    has_right = λ x i. if_some (λ y. IsIn y (ids_of small) × (height y < height x)) (λ y. IsIn y (ids_of small)) (right_of small x) (λ y h. h.0) (small_right x i);
    ends = record {
      height = height;
      falls_left = λ x i. if_some (λ y. IsIn y (ids_of small) × (height y < height x)) (λ y. height y < height x) (left_of small x) (λ y h. h.1) (small_left x i);
      falls_right = λ x i. if_some (λ y. IsIn y (ids_of small) × (height y < height x)) (λ y. height y < height x) (right_of small x) (λ y h. h.1) (small_right x i);
    };
  }
