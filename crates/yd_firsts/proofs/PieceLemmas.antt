-- The units of pieces as rows: which piece a unit is of.
use Rattle.std.proofs.Common.{◌≡◌, ℕ, zero, suc, ◌+◌, ◌-◌, ◌<◌, ◌≤◌, Bool, true, false, ◌&&◌, nat_eq, nat_lt, nat_le, List, [], ◌∷◌, ◌++◌, inl, inr, Option, Some, refl, sym, ap, ap₂, ◌∙◌, subst, arith, tests}
use Rattle.std.specs.Prelude.{if◌then◌else◌}
use Rattle.yd_words.specs.Each.{Each}
use Rattle.yd_words.specs.Member.{IsIn, AreDistinct}
use Rattle.yd_words.proofs.MemberLemmas.{each_in, in_left_part, in_right_part, in_parts}
use Rattle.yd_words.proofs.TestLemmas.{test_fails}
use Rattle.yd_ids.specs.declared.id.Id.{Id}
use Rattle.yd_ids.proofs.IdLemmas.{same_numbers}
use Rattle.yd_ops.specs.Operation.{later_id}
use Rattle.yd_ops.proofs.OperationLemmas.{later_none}
use Rattle.yd_origins.specs.Table.{Row, OriginTable, ids_of}
use Rattle.yd_origins.proofs.PartLemmas.{row_id_in}
use Rattle.yd_order.specs.Stretch.{rows_from, rows_of_stretch, rows_of_stretches}
use Rattle.yd_order.specs.declared.stretch.Stretch.{Stretch}
use Rattle.yd_firsts.specs.Pieces.{HasUnits, firsts_of, last_of}

-- the left of a unit of a stretch
abbrev pub left_from : Id → Option Id → ℕ → Option Id
left_from id left zero = left
left_from id left (suc k) = Some (later_id id k)

-- a unit of a stretch as a row
abbrev pub row_at : Id → Option Id → Option Id → ℕ → Row
row_at id left right k = record { id = later_id id k; left = left_from id left k; right = right }

pub later_one : (id : Id) (k : ℕ) → later_id (later_id id 1) k ≡ later_id id (suc k)
later_one id k = ap (λ (c : ℕ). record { client = id.client; clock = c }) (omega arith)

-- ---- one stretch

row_in : (id : Id) (left right : Option Id) (n k : ℕ) → k < n → IsIn (row_at id left right k) (rows_from id left right n)
row_in id left right zero k lt = absurd (omega (arith, lt))
row_in id left right (suc n) zero lt = inl (ap (λ (x : Id). record { id = x; left = left; right = right }) (later_none id))
row_in id left right (suc n) (suc k) lt = inr (subst (λ (r : Row). IsIn r (rows_from (later_id id 1) (Some id) right n)) (next k)
    (row_in (later_id id 1) (Some id) right n k (omega (arith, lt))))
  where
    next : (j : ℕ) → row_at (later_id id 1) (Some id) right j ≡ row_at id left right (suc j)
    next zero = ap₂ (λ (x : Id) (z : Option Id). record { id = x; left = z; right = right }) (later_one id zero) (ap (λ (x : Id). Some x) (sym (later_none id)))
    next (suc j) = ap₂ (λ (x : Id) (z : Option Id). record { id = x; left = z; right = right }) (later_one id (suc j)) (ap (λ (x : Id). Some x) (later_one id j))

in_row : (id : Id) (left right : Option Id) (n : ℕ) (x : Id) → IsIn x (ids_of (rows_from id left right n)) → (k : ℕ) × (k < n) × (x ≡ later_id id k)
in_row id left right zero x i = absurd i
in_row id left right (suc n) x (inl e) = (zero, omega arith, e ∙ sym (later_none id))
in_row id left right (suc n) x (inr i) = let (k, lt, e) = in_row (later_id id 1) (Some id) right n x i in (suc k, omega (arith, lt), e ∙ later_one id k)

-- ---- many

ids_append : (front back : OriginTable) → ids_of (front ++ back) ≡ ids_of front ++ ids_of back
ids_append [] back = refl
ids_append (row ∷ rows) back = ap (λ (xs : List Id). row.id ∷ xs) (ids_append rows back)

rows_in : (pieces : List Stretch) (s : Stretch) → IsIn s pieces → (r : Row) → IsIn r (rows_of_stretch s) → IsIn r (rows_of_stretches pieces)
rows_in [] s i r j = absurd i
rows_in (p ∷ ps) s (inl e) r j = in_left_part r (rows_of_stretch p) (rows_of_stretches ps) (subst (λ (q : Stretch). IsIn r (rows_of_stretch q)) e j)
rows_in (p ∷ ps) s (inr i) r j = in_right_part r (rows_of_stretch p) (rows_of_stretches ps) (rows_in ps s i r j)

-- a unit of a piece is a row
pub unit_row : (pieces : List Stretch) (s : Stretch) → IsIn s pieces → (k : ℕ) → k < s.len → IsIn (row_at s.id s.left s.right k) (rows_of_stretches pieces)
unit_row pieces s i k lt = rows_in pieces s i (row_at s.id s.left s.right k) (row_in s.id s.left s.right s.len k lt)

pub unit_there : (pieces : List Stretch) (s : Stretch) → IsIn s pieces → (k : ℕ) → k < s.len → IsIn (later_id s.id k) (ids_of (rows_of_stretches pieces))
unit_there pieces s i k lt = row_id_in (row_at s.id s.left s.right k) (rows_of_stretches pieces) (unit_row pieces s i k lt)

-- a row is a unit of a piece
pub unit_of : (pieces : List Stretch) (x : Id) → IsIn x (ids_of (rows_of_stretches pieces)) →
    (s : Stretch) × IsIn s pieces × ((k : ℕ) × (k < s.len) × (x ≡ later_id s.id k))
unit_of [] x i = absurd i
unit_of (p ∷ ps) x i = elim (in_parts x (ids_of (rows_of_stretch p)) (ids_of (rows_of_stretches ps))
    (subst (λ (xs : List Id). IsIn x xs) (ids_append (rows_of_stretch p) (rows_of_stretches ps)) i)) [
      | inl j ↦ (p, inl refl, in_row p.id p.left p.right p.len x j)
      | inr j ↦ let (s, l, u) = unit_of ps x j in (s, inr l, u)
    ]

-- ---- the piece of a unit

abbrev has_unit : Stretch → Id → Bool
has_unit s x = nat_eq s.id.client.0 x.client.0 && (nat_le s.id.clock x.clock && nat_lt x.clock (s.id.clock + s.len))

-- the first unit of the piece of a unit
abbrev pub first_in : List Stretch → Id → Id
first_in [] x = x
first_in (s ∷ ss) x = if has_unit s x then s.id else first_in ss x

-- the last one
abbrev pub last_in : List Stretch → Id → Id
last_in [] x = x
last_in (s ∷ ss) x = if has_unit s x then last_of s else last_in ss x

span_has : (c a k n : ℕ) → k < n → (nat_eq c c && (nat_le a (a + k) && nat_lt (a + k) (a + n))) ≡ true
span_has c a k n lt = grind (arith, tests)

has_client : (c d a x n : ℕ) → (nat_eq c d && (nat_le a x && nat_lt x (a + n))) ≡ true → c ≡ d
has_client c d a x n e = grind (arith, tests)

has_from : (c d a x n : ℕ) → (nat_eq c d && (nat_le a x && nat_lt x (a + n))) ≡ true → a ≤ x
has_from c d a x n e = grind (arith, tests)

has_to : (c d a x n : ℕ) → (nat_eq c d && (nat_le a x && nat_lt x (a + n))) ≡ true → x < a + n
has_to c d a x n e = grind (arith, tests)

has_later : (s : Stretch) (k : ℕ) → k < s.len → has_unit s (later_id s.id k) ≡ true
has_later s k lt = span_has s.id.client.0 s.id.clock k s.len lt

has_there : (s : Stretch) (x : Id) → has_unit s x ≡ true → IsIn x (ids_of (rows_of_stretch s))
has_there s x e = subst (λ (v : Id). IsIn v (ids_of (rows_of_stretch s))) is
    (row_id_in (row_at s.id s.left s.right (x.clock - s.id.clock)) (rows_of_stretch s) (row_in s.id s.left s.right s.len (x.clock - s.id.clock) (omega (arith, from, to))))
  where
    from : s.id.clock ≤ x.clock
    from = has_from s.id.client.0 x.client.0 s.id.clock x.clock s.len e

    to : x.clock < s.id.clock + s.len
    to = has_to s.id.client.0 x.client.0 s.id.clock x.clock s.len e

    is : later_id s.id (x.clock - s.id.clock) ≡ x
    is = same_numbers (later_id s.id (x.clock - s.id.clock)) x (has_client s.id.client.0 x.client.0 s.id.clock x.clock s.len e) (omega (arith, from))

pub distinct_parts : {X : Type 0} (xs ys : List X) → AreDistinct (xs ++ ys) → ((x : X) → IsIn x xs → IsIn x ys → ⊥) × AreDistinct ys
distinct_parts [] ys d = ((λ x i j. absurd i), d)
distinct_parts (z ∷ zs) ys d = let (f, e) = distinct_parts zs ys d.1 in (
  (λ x i j. elim i [ inl q ↦ d.0 (subst (λ v. IsIn v (zs ++ ys)) q (in_right_part x zs ys j)) | inr l ↦ f x l j ]),
  e,
)

parts_of : (p : Stretch) (ps : List Stretch) → AreDistinct (ids_of (rows_of_stretches (p ∷ ps))) →
    ((x : Id) → IsIn x (ids_of (rows_of_stretch p)) → IsIn x (ids_of (rows_of_stretches ps)) → ⊥) × AreDistinct (ids_of (rows_of_stretches ps))
parts_of p ps d = distinct_parts (ids_of (rows_of_stretch p)) (ids_of (rows_of_stretches ps)) (subst AreDistinct (ids_append (rows_of_stretch p) (rows_of_stretches ps)) d)

-- the first and the last unit of the piece of a unit are those of the piece that it is of
pub at_piece : (pieces : List Stretch) → AreDistinct (ids_of (rows_of_stretches pieces)) → (s : Stretch) → IsIn s pieces → (k : ℕ) → k < s.len →
    (first_in pieces (later_id s.id k) ≡ s.id) × (last_in pieces (later_id s.id k) ≡ last_of s)
at_piece [] d s i k lt = absurd i
at_piece (p ∷ ps) d s (inl e) k lt = subst (λ (q : Stretch). k < q.len → (first_in (p ∷ ps) (later_id q.id k) ≡ q.id) × (last_in (p ∷ ps) (later_id q.id k) ≡ last_of q)) (sym e)
    (λ less. (ap (λ b. if b then p.id else first_in ps (later_id p.id k)) (has_later p k less), ap (λ b. if b then last_of p else last_in ps (later_id p.id k)) (has_later p k less))) lt
at_piece (p ∷ ps) d s (inr i) k lt =
    let (f, l) = at_piece ps (parts_of p ps d).1 s i k lt in (
      ap (λ b. if b then p.id else first_in ps (later_id s.id k)) other ∙ f,
      ap (λ b. if b then last_of p else last_in ps (later_id s.id k)) other ∙ l,
    )
  where
    other : has_unit p (later_id s.id k) ≡ false
    other = test_fails (has_unit p (later_id s.id k)) (λ e. (parts_of p ps d).0 (later_id s.id k) (has_there p (later_id s.id k) e) (unit_there ps s i k lt))

-- ---- the firsts

pub first_piece : (pieces : List Stretch) (x : Id) → IsIn x (firsts_of pieces) → (s : Stretch) × IsIn s pieces × (s.id ≡ x)
first_piece [] x i = absurd i
first_piece (p ∷ ps) x (inl e) = (p, inl refl, sym e)
first_piece (p ∷ ps) x (inr i) = let (s, j, e) = first_piece ps x i in (s, inr j, e)

pub piece_first : (pieces : List Stretch) (s : Stretch) → IsIn s pieces → IsIn s.id (firsts_of pieces)
piece_first [] s i = absurd i
piece_first (p ∷ ps) s (inl e) = inl (ap (λ (q : Stretch). q.id) e)
piece_first (p ∷ ps) s (inr i) = inr (piece_first ps s i)

-- the first unit of a piece is a row
pub first_there : (pieces : List Stretch) → Each HasUnits pieces → (s : Stretch) → IsIn s pieces → IsIn s.id (ids_of (rows_of_stretches pieces))
first_there pieces u s i = subst (λ (x : Id). IsIn x (ids_of (rows_of_stretches pieces))) (later_none s.id) (unit_there pieces s i 0 (each_in HasUnits pieces u s i))

pub distinct_firsts : (pieces : List Stretch) → Each HasUnits pieces → AreDistinct (ids_of (rows_of_stretches pieces)) → AreDistinct (firsts_of pieces)
distinct_firsts [] u d = tt
distinct_firsts (p ∷ ps) u d = (
  (λ i. let (s, j, e) = first_piece ps p.id i in (parts_of p ps d).0 p.id
      (subst (λ (x : Id). IsIn x (ids_of (rows_of_stretch p))) (later_none p.id) (row_id_in (row_at p.id p.left p.right 0) (rows_of_stretch p) (row_in p.id p.left p.right p.len 0 u.0)))
      (subst (λ (x : Id). IsIn x (ids_of (rows_of_stretches ps))) e (first_there ps u.1 s j))),
  distinct_firsts ps u.1 (parts_of p ps d).1,
)
