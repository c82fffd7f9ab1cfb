-- Seats: how they are given, and what is asked of them, as the rows are read.
use Rattle.std.proofs.Common.{◌≡◌, ◌≢◌, ◌↔◌, ℕ, suc, ◌+◌, ◌-◌, ◌<◌, ◌≤◌, ◌⊎◌, Bool, true, false, not, ◌||◌, ◌&&◌, List, length, get_or, set, nat_lt, nat_eq, Option, None, Some, inl, inr, refl, sym, ap, ◌∙◌, subst, true≢false, arith, tests}
use Rattle.std.specs.Prelude.{IfSome, slice_index}
use Rattle.std.proofs.lemmas.Bool.{cases_eq, not-true}
use Rattle.std.proofs.lemmas.List.{length-set, get_or-set_same, get_or-set_other, ext_get_or}
use Rattle.yd_ids.specs.Ids.{is_smaller}
use Rattle.yd_order.specs.declared.linking.LinkedRow.{LinkedRow}
use Rattle.yd_order.specs.Linking.{left_at, right_at}
use Rattle.yd_order.specs.Seating.{AreSeatsOf, AreSeated, seat_of, is_passed, is_ahead, IsBetween, AllStand, StandIn}
use Rattle.yd_order.proofs.LinkedLemmas.{id_read, left_read, right_read}

-- ---- how seats are given

module _ (order seats : List ℕ) (n : ℕ) (known : AreSeatsOf order seats n) where
  is_last : (k : ℕ) → k < n + 1 → (k < n) ⊎ (k ≡ n)
  is_last k lt = grind arith

  -- the next row takes this position for its seat
  pub seat_given : n < length order → slice_index order n < length seats → AreSeatsOf order (set seats (slice_index order n) (n + 1)) (n + 1)
  seat_given inside there = record {
    size = length-set seats (slice_index order n) (n + 1) ∙ known.size;
    named = named_more;
    position = position_more;
  }
    where
      at_row : slice_index (set seats (slice_index order n) (n + 1)) (slice_index order n) ≡ n + 1
      at_row = get_or-set_same seats (slice_index order n) (n + 1) 0 there

      elsewhere : (other : ℕ) → other ≢ slice_index order n → slice_index (set seats (slice_index order n) (n + 1)) other ≡ slice_index seats other
      elsewhere other ne = get_or-set_other seats (slice_index order n) other (n + 1) 0 ne

      named_more : (k : ℕ) → k < n + 1 → slice_index order k < length order → k < slice_index (set seats (slice_index order n) (n + 1)) (slice_index order k)
      named_more k lt low = elim (cases_eq (slice_index order k) (slice_index order n)) [
        | inl e ↦ omega (arith, lt, ap (slice_index (set seats (slice_index order n) (n + 1))) e, at_row)
        | inr ne ↦ elim (is_last k lt) [
          | inl less ↦ omega (arith, known.named k less low, elsewhere (slice_index order k) ne)
          | inr same ↦ absurd (ne (ap (slice_index order) same))
        ]
      ]

      position_more : (at k : ℕ) → at < length order → slice_index (set seats (slice_index order n) (n + 1)) at ≡ suc k → (k < n + 1) × (slice_index order k ≡ at)
      position_more at k low e = elim (cases_eq at (slice_index order n)) [
        | inl f ↦ let same : k ≡ n = omega (arith, e, ap (slice_index (set seats (slice_index order n) (n + 1))) f, at_row) in
            (omega (arith, same), ap (slice_index order) same ∙ sym f)
        | inr ne ↦ let old = known.position at k low (sym (elsewhere at ne) ∙ e) in (omega (arith, old.0), old.1)
      ]

  -- a place that is no row's takes none
  pub seat_refused : length seats ≤ slice_index order n → AreSeatsOf order seats (n + 1)
  seat_refused past = record {
    size = known.size;
    named = λ k lt low. elim (is_last k lt) [
      | inl less ↦ known.named k less low
      | inr same ↦ absurd (omega (arith, past, low, known.size, ap (slice_index order) same))
    ];
    position = λ at k low e. let old = known.position at k low e in (omega (arith, old.0), old.1);
  }

-- where an order has each row once, the rows have no other seats in it
pub seats_are : (count : ℕ) (order seats other : List ℕ) → AreSeatsOf order seats (length order) → AreSeated count order other → other ≡ seats
seats_are count order seats other known seated = ext_get_or 0 other seats (seated.seats_size ∙ sym seated.order_size ∙ sym known.size) (λ at lt. same at (omega (arith, lt, seated.seats_size)))
  where
    same : (at : ℕ) → at < count → slice_index other at ≡ slice_index seats at
    same at lt =
        let this = seated.each at lt in
        let number : slice_index other at ≡ suc (slice_index other at - 1) = omega (arith, this.low) in
        let there = this.back (slice_index other at - 1) number in
        let low = known.named (slice_index other at - 1) (omega (arith, this.low, this.high)) (omega (arith, there, lt, seated.order_size)) in
        let taken : slice_index seats at ≡ suc (slice_index seats at - 1) = omega (arith, low, ap (slice_index seats) there) in
        let last = known.position at (slice_index seats at - 1) (omega (arith, lt, seated.order_size)) taken in
        sym (ap (slice_index other) last.1) ∙ (seated.each (slice_index seats at - 1) (omega (arith, last.0, seated.order_size))).there ∙ sym taken

-- so where a test on its seats fails, the rows do not stand in it
module _ (rows : List LinkedRow) (order seats : List ℕ) (known : AreSeatsOf order seats (length order)) (told : Bool) (fails : told ≡ false) where
  pub not_seated : (AreSeated (length rows) order seats → told ≡ true) → false ≡ true ↔ StandIn rows order
  not_seated says = (
    (λ said. absurd (true≢false (sym said))),
    (λ found. absurd (true≢false (sym (says (subst (AreSeated (length rows) order) (seats_are (length rows) order seats found.seats known found.seated) found.seated)) ∙ fails))),
  )

  pub not_standing : (AllStand rows order seats → told ≡ true) → false ≡ true ↔ StandIn rows order
  not_standing says = (
    (λ said. absurd (true≢false (sym said))),
    (λ found. absurd (true≢false (sym (says (subst (AllStand rows order) (seats_are (length rows) order seats found.seats known found.seated) found.stand)) ∙ fails))),
  )

-- ---- tests, as the rows are read

pub ahead_is : (rows : List LinkedRow) (seats : List ℕ) (a b : ℕ) (d : LinkedRow) → a < length rows → b < length rows → (seat other : ℕ) →
    seat ≡ seat_of seats (get_or rows a d).left → other ≡ seat_of seats (get_or rows b d).left →
    is_ahead rows seats a b ≡ (nat_lt other seat || (nat_eq seat other && is_smaller (get_or rows a d).id (get_or rows b d).id))
ahead_is rows seats a b d p q seat other e f = sym (λ i. nat_lt (there i) (here i) || (nat_eq (here i) (there i) && is_smaller (id_read rows a d p i) (id_read rows b d q i)))
  where
    here : seat ≡ seat_of seats (left_at rows a)
    here = e ∙ ap (seat_of seats) (left_read rows a d p)

    there : other ≡ seat_of seats (left_at rows b)
    there = f ∙ ap (seat_of seats) (left_read rows b d q)

pub first_decides : (m n : ℕ) (tie : Bool) → m < n → nat_lt m n ≡ (nat_lt m n || (nat_eq n m && tie))
first_decides m n tie lt = grind (arith, tests)

pub tie_decides : (m n : ℕ) (tie : Bool) → n ≤ m → n ≡ m → tie ≡ (nat_lt m n || (nat_eq n m && tie))
tie_decides m n tie le e = rw (not_less m n le, is_equal n m e) refl
  where
    not_less : (a b : ℕ) → b ≤ a → nat_lt a b ≡ false
    not_less a b below = grind (arith, tests)

    is_equal : (a b : ℕ) → a ≡ b → nat_eq a b ≡ true
    is_equal a b same = grind (arith, tests)

pub none_decides : (m n : ℕ) (tie : Bool) → n ≤ m → n ≢ m → nat_eq n m ≡ (nat_lt m n || (nat_eq n m && tie))
none_decides m n tie le ne = grind (arith, tests)

pub passed_is : (rows : List LinkedRow) (seats : List ℕ) (a seat : ℕ) (d : LinkedRow) → a < length rows →
    is_passed seats (get_or rows a d).right seat ≡ is_passed seats (right_at rows a) seat
passed_is rows seats a seat d p = ap (λ (z : Option ℕ). is_passed seats z seat) (right_read rows a d p)

pub reason_passed : (passed ahead : Bool) → passed ≡ true → passed ≡ (passed || ahead)
reason_passed passed ahead e = rw e refl

pub reason_ahead : (passed ahead : Bool) → passed ≡ false → ahead ≡ (passed || ahead)
reason_ahead passed ahead e = rw e refl

-- ---- where a row stands

not_passed : (seats : List ℕ) (z : Option ℕ) (seat : ℕ) → is_passed seats z seat ≡ false → IfSome z (λ r. seat < slice_index seats r)
not_passed seats None seat e = tt
not_passed seats (Some r) seat e = grind (arith, tests)

is_free : (seats : List ℕ) (z : Option ℕ) (seat : ℕ) → IfSome z (λ r. seat < slice_index seats r) → is_passed seats z seat ≡ false
is_free seats None seat w = refl
is_free seats (Some r) seat w = grind (arith, tests)

module _ (rows : List LinkedRow) (seats : List ℕ) (at : ℕ) (d : LinkedRow) (lt : at < length rows) (seat : ℕ) (e : seat ≡ seat_of seats (get_or rows at d).left) where
  left_seat : seat ≡ seat_of seats (left_at rows at)
  left_seat = e ∙ ap (seat_of seats) (left_read rows at d lt)

  -- one behind its left stands between exactly where it is not behind its right
  pub between_is : (passed : Bool) → passed ≡ is_passed seats (get_or rows at d).right (slice_index seats at) → seat < slice_index seats at →
      not passed ≡ true ↔ IsBetween rows seats at
  between_is passed f low = (
    (λ free. record {
      left = subst (λ (n : ℕ). n < slice_index seats at) left_seat low;
      right = not_passed seats (right_at rows at) (slice_index seats at) (sym right_told ∙ not-true passed free);
    }),
    (λ between. ap not (right_told ∙ is_free seats (right_at rows at) (slice_index seats at) between.right)),
  )
    where
      right_told : passed ≡ is_passed seats (right_at rows at) (slice_index seats at)
      right_told = f ∙ passed_is rows seats at (slice_index seats at) d lt

  pub between_none : slice_index seats at ≤ seat → nat_lt seat (slice_index seats at) ≡ true ↔ IsBetween rows seats at
  between_none high = (
    (λ told. absurd (not_below seat (slice_index seats at) high told)),
    (λ between. absurd (omega (arith, between.left, left_seat, high))),
  )
    where
      not_below : (m n : ℕ) → n ≤ m → nat_lt m n ≡ true → ⊥
      not_below m n le less = grind (arith, tests)

pub one_more : (P : ℕ → Type 0) (n : ℕ) → ((k : ℕ) → k < n → P k) → P n → (k : ℕ) → k < n + 1 → P k
one_more P n so_far this k lt = elim (cases_eq k n) [
  | inl e ↦ subst P (sym e) this
  | inr ne ↦ so_far k (omega (arith, ne))
]
