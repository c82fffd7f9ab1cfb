-- Rows that stand as their lefts and rights ask: their places are the order of the table.
use Rattle.std.proofs.Common.{◌≡◌, ◌≢◌, ℕ, zero, suc, ◌+◌, ◌<◌, ◌≤◌, ◌↔◌, Bool, true, false, ◌||◌, ◌&&◌, List, [], ◌∷◌, ◌⊎◌, inl, inr, Option, None, Some, nat_lt, nat_eq, refl, sym, ap, ◌∙◌, subst, arith, tests, true≢false}
use Rattle.std.specs.Prelude.{IfSome}
use Rattle.yd_words.specs.Member.{IsIn}
use Rattle.yd_words.specs.Test.{one_if}
use Rattle.yd_words.proofs.TestLemmas.{nat_lt_says}
use Rattle.yd_words.proofs.OptionLemmas.{if_some_both}
use Rattle.yd_ids.specs.declared.id.Id.{Id}
use Rattle.yd_ids.specs.Ids.{is_smaller}
use Rattle.yd_ids.proofs.IdLemmas.{other_id, same_says, tie_flip}
use Rattle.yd_origins.specs.Table.{OriginTable, ids_of, left_of, right_of, IsTable}
use Rattle.yd_origins.specs.Before.{by_lines, is_before, IsInOrder}
use Rattle.yd_origins.specs.Sorted.{count_before, goes_first, origin_order}
use Rattle.yd_origins.proofs.MemberLemmas.{place, Rising}
use Rattle.yd_origins.proofs.LineLemmas.{Line, Reasons, Decided, decided, up_to_left_says, from_right_says, same_left_says, later_left_says}
use Rattle.yd_origins.proofs.BeforeLemmas.{lines_alike}
use Rattle.yd_origins.proofs.TableLemmas.{lines_decide, not_itself}
use Rattle.yd_origins.proofs.SortedLemmas.{count_less}
use Rattle.yd_order.specs.Line.{seat_or, AreInLine}
use Rattle.yd_order.proofs.SortedLemmas.{in_order_is_order}

-- each row has a place, behind that of its left and in front of that of its right, and where one stands in front of another
-- there is a reason
pub record Stand (table : OriginTable) (pos : Id → ℕ) (end : ℕ) : Type 0 where
  pub low : (x : Id) → IsIn x (ids_of table) → 0 < pos x
  pub high : (x : Id) → IsIn x (ids_of table) → pos x < end
  pub one : (x y : Id) → IsIn x (ids_of table) → IsIn y (ids_of table) → pos x ≡ pos y → x ≡ y
  pub behind_left : (x : Id) → IsIn x (ids_of table) → place pos 0 (left_of table x) < pos x
  pub before_right : (x : Id) → IsIn x (ids_of table) → pos x < place pos end (right_of table x)
  pub reason : (x y : Id) → IsIn x (ids_of table) → IsIn y (ids_of table) → pos x < pos y → Reasons (left_of table) (right_of table) pos end x y

fewer_first : (m n : ℕ) (s : Bool) → m < n → (nat_lt m n || (nat_eq m n && s)) ≡ true
fewer_first m n s lt = grind (arith, tests)

module _ (table : OriginTable) (t : IsTable table) (pos : Id → ℕ) (end : ℕ) (some : 0 < end) (stand : Stand table pos end) where
  abbrev P : Id → Type 0
  P x = IsIn x (ids_of table)

  abbrev left : Id → Option Id
  left = left_of table

  abbrev right : Id → Option Id
  right = right_of table

  -- whether a row stands in front of another
  abbrev front : Id → Id → Bool
  front x y = nat_lt (pos x) (pos y)

  line : Line front P
  line = record {
    pos = pos;
    end = end;
    some = some;
    low = stand.low;
    high = stand.high;
    up = λ x y p q ne e. grind (arith, tests);
    down = λ x y p q ne e. down x y p q ne e;
  }
    where
      down : (x y : Id) → P x → P y → x ≢ y → front x y ≡ false → pos y < pos x
      down x y p q ne e = elim (nat_lt_says (pos x) (pos y)) [
        | inl f ↦ absurd (true≢false (sym f.0 ∙ e))
        | inr f ↦ less (pos x) (pos y) f.1 (λ same. ne (stand.one x y p q same))
      ]
        where
          less : (m n : ℕ) → n ≤ m → m ≢ n → n < m
          less m n le other = omega arith

  -- the places keep the six lines
  lines_stand : (x y : Id) → P x → P y → x ≢ y → one_if (front x y) ≡ one_if (by_lines left right front x y)
  unfolding line
  lines_stand x y p q ne = elim (nat_lt_says (pos x) (pos y)) [
    | inl f ↦ rw f.0 (omega (arith, known, stand.reason x y p q f.1, stand.behind_left x p, stand.behind_left y q, stand.before_right x p, stand.before_right y q, f.1))
    | inr f ↦ rw f.0 (omega (
      arith,
      known,
      stand.reason y x q p (line.down x y p q ne f.0),
      line.down x y p q ne f.0,
      stand.behind_left x p,
      stand.behind_left y q,
      stand.before_right x p,
      stand.before_right y q,
      tie_flip x y (other_id x y ne),
    ))
  ]
    where
      known : Decided (one_if (by_lines left right front x y))
          (pos x ≤ place pos 0 (left y)) (place pos 0 (left y) < pos x)
          (pos y ≤ place pos 0 (left x)) (place pos 0 (left x) < pos y)
          (place pos end (right x) ≤ pos y) (pos y < place pos end (right x))
          (place pos end (right y) ≤ pos x) (pos x < place pos end (right y))
          (place pos 0 (left x) ≡ place pos 0 (left y)) (place pos 0 (left x) ≢ place pos 0 (left y))
          (one_if (is_smaller x y))
          (place pos 0 (left y) < place pos 0 (left x)) (place pos 0 (left x) < place pos 0 (left y))
      known = decided (is_smaller x y)
          (up_to_left_says front P line x (left y) p (t.has_left y q))
          (up_to_left_says front P line y (left x) q (t.has_left x p))
          (from_right_says front P line y (right x) q (t.has_right x p))
          (from_right_says front P line x (right y) p (t.has_right y q))
          (same_left_says front P line (left x) (left y) (t.has_left x p) (t.has_left y q))
          (later_left_says front P line (left x) (left y) (t.has_left x p) (t.has_left y q))

  same_test : (u v : Bool) → one_if u ≡ one_if v → v ≡ u
  same_test true true e = refl
  same_test false false e = refl
  same_test true false e = absurd (omega (arith, e))
  same_test false true e = absurd (omega (arith, e))

  itself : (x : Id) → front x x ≡ false
  itself x = grind (arith, tests)

  -- so what is before a row stands in front of it
  before_within : (n : ℕ) (x y : Id) → P x → P y → t.ends.height x + t.ends.height y < n → is_before table x y ≡ front x y
  before_within zero x y p q lt = absurd (omega arith)
  before_within (suc n) x y p q lt = elim (cases x y) [
    | inl e ↦ subst (λ (z : Id). is_before table x z ≡ front x z) e (not_itself table x ∙ sym (itself x))
    | inr ne ↦ lines_decide table t x y p q ne ∙ lines_alike left right (is_before table) front x y (record {
      to_left = if_some_both P (λ z. height z < height y) (λ z. is_before table x z ≡ front x z) (left y) (λ z r less. before_within n x z p r (omega arith))
          (t.has_left y q) (t.ends.falls_left y q);
      to_left_back = if_some_both P (λ z. height z < height x) (λ z. is_before table y z ≡ front y z) (left x) (λ z r less. before_within n y z q r (omega arith))
          (t.has_left x p) (t.ends.falls_left x p);
      from_right = if_some_both P (λ z. height z < height x) (λ z. is_before table z y ≡ front z y) (right x) (λ z r less. before_within n z y r q (omega arith))
          (t.has_right x p) (t.ends.falls_right x p);
      from_right_back = if_some_both P (λ z. height z < height y) (λ z. is_before table z x ≡ front z x) (right y) (λ z r less. before_within n z x r p (omega arith))
          (t.has_right y q) (t.ends.falls_right y q);
      lefts = if_some_both P (λ z. height z < height y) (λ z. IfSome (left x) (λ w. is_before table z w ≡ front z w)) (left y)
          (λ z r less. if_some_both P (λ w. height w < height x) (λ w. is_before table z w ≡ front z w) (left x) (λ w s below. before_within n z w r s (omega arith))
          (t.has_left x p) (t.ends.falls_left x p))
          (t.has_left y q) (t.ends.falls_left y q);
    }) ∙ same_test (front x y) (by_lines left right front x y) (lines_stand x y p q ne)
  ]
    where
      height : Id → ℕ
      height = t.ends.height

      cases : (a b : Id) → (a ≡ b) ⊎ (a ≢ b)
      cases a b = elim (same_says a b) [ inl e ↦ inl e.1 | inr e ↦ inr e.1 ]

  pub before_is_front : (x y : Id) → P x → P y → is_before table x y ≡ front x y
  before_is_front x y p q = before_within (suc (t.ends.height x + t.ends.height y)) x y p q (omega arith)

  -- and what stands in front goes first
  pub front_goes_first : (x y : Id) → P x → P y → pos x < pos y → goes_first table x y ≡ true
  front_goes_first x y p q lt = fewer_first (count_before (is_before table) (ids_of table) x) (count_before (is_before table) (ids_of table) y) (is_smaller x y)
      (count_less (is_before table) (ids_of table) x y
      (λ z i e. before_is_front z y i q ∙ on (omega (arith, off (sym (before_is_front z x i p) ∙ e), lt)))
      x p (not_itself table x) (before_is_front x y p q ∙ on lt))
    where
      on : {m n : ℕ} → m < n → nat_lt m n ≡ true
      on less = grind (arith, tests)

      off : {m n : ℕ} → nat_lt m n ≡ true → m < n
      off e = grind (arith, tests)

  -- a list in which they rise is in order
  pub rising_goes_first : (xs : List Id) → ((x : Id) → IsIn x xs → P x) → Rising pos xs → IsInOrder (goes_first table) xs
  rising_goes_first [] into r = tt
  rising_goes_first (x ∷ xs) into r = (
    (λ y i. (apart x y (r.0 y i), front_goes_first x y (into x (inl refl)) (into y (inr i)) (r.0 y i))),
    rising_goes_first xs (λ y i. into y (inr i)) r.1,
  )
    where
      apart : (x y : Id) → pos x < pos y → x ≢ y
      apart x y lt e = omega (arith, ap pos e, lt)

-- ---- seats

seat_is : (seat : Id → ℕ) (default : ℕ) (z : Option Id) → seat_or seat default z ≡ place seat default z
seat_is seat default None = refl
seat_is seat default (Some x) = refl

in_line_stands : (table : OriginTable) (seat : Id → ℕ) (end : ℕ) → AreInLine table seat end → Stand table seat end
in_line_stands table seat end line = record {
  low = line.low;
  high = line.high;
  one = line.one;
  behind_left = λ x p. omega (arith, line.behind_left x p, seat_is seat 0 (left_of table x));
  before_right = λ x p. omega (arith, line.before_right x p, seat_is seat end (right_of table x));
  reason = λ x y p q lt. elim (line.reason x y p q lt) [
    | inl e ↦ inl (omega (arith, e, seat_is seat 0 (left_of table y)))
    | inr (inl e) ↦ inr (inl (omega (arith, e, seat_is seat end (right_of table x))))
    | inr (inr (inl e)) ↦ inr (inr (inr (omega (arith, e, seat_is seat 0 (left_of table x), seat_is seat 0 (left_of table y)))))
    | inr (inr (inr e)) ↦ inr (inr (inl (omega (arith, e.0, seat_is seat 0 (left_of table x), seat_is seat 0 (left_of table y)), ap one_if e.1)))
  ];
}

in_front_rises : (seat : Id → ℕ) (xs : List Id) → IsInOrder (λ x y. nat_lt (seat x) (seat y)) xs → Rising seat xs
in_front_rises seat [] o = tt
in_front_rises seat (x ∷ xs) o = ((λ y i. less (seat x) (seat y) (o.0 y i).1), in_front_rises seat xs o.1)
  where
    less : (m n : ℕ) → nat_lt m n ≡ true → m < n
    less m n e = grind (arith, tests)

-- a list of all rows by their seats is the origin order
pub seats_decide : (table : OriginTable) (seat : Id → ℕ) (end : ℕ) (list : List Id) → IsTable table → AreInLine table seat end →
    IsInOrder (λ x y. nat_lt (seat x) (seat y)) list → ((x : Id) → IsIn x list ↔ IsIn x (ids_of table)) → list ≡ origin_order table
seats_decide table seat end list t line o same = in_order_is_order table t.distinct list
    (rising_goes_first table t seat end line.some (in_line_stands table seat end line) list (λ x. (same x).0) (in_front_rises seat list o)) same
