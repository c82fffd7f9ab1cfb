-- Heads of an order: how they are found, and that the rows behind one need no reason of their own.
use Rattle.std.proofs.Common.{◌≡◌, ◌↔◌, ℕ, suc, ◌+◌, ◌-◌, ◌<◌, ◌≤◌, Bool, true, false, ◌||◌, ◌&&◌, List, [], ◌∷◌, ◌++◌, length, get_or, nat_lt, nat_eq, ◌⊎◌, inl, inr, max, refl, sym, ap, ◌∙◌, subst, true≢false, arith, tests}
use Rattle.std.specs.Prelude.{slice_index}
use Rattle.std.proofs.lemmas.Bool.{cases_eq}
use Rattle.std.proofs.lemmas.List.{get_or_append_left, get_or_push, length-append}
use Rattle.yd_ids.specs.Ids.{is_smaller}
use Rattle.yd_order.specs.declared.linking.LinkedRow.{LinkedRow}
use Rattle.yd_order.specs.Linking.{id_at, left_at, right_at}
use Rattle.yd_order.specs.Seating.{seat_of, is_passed, has_reason, is_direct, IsHead, AreHeads, HaveReasons}
use Rattle.yd_order.proofs.LinkedLemmas.{left_read}

module _ (rows : List LinkedRow) (order seats : List ℕ) where
  -- ---- finding heads

  -- the positions so far have their heads, and the last of these is known
  pub record HaveHeads (heads : List ℕ) (position head : ℕ) : Type 0 where
    pub size : length heads ≡ position
    pub each : (j : ℕ) → j < position → IsHead rows order seats j (slice_index heads j)
    pub up_to : head ≤ position
    pub apart : (head ≡ 0) ⊎ (is_direct rows order seats head ≡ false)
    pub direct : (k : ℕ) → head < k → k < position → is_direct rows order seats k ≡ true

  heads_pushed : (heads : List ℕ) (position head new : ℕ) → HaveHeads heads position head → IsHead rows order seats position new → HaveHeads (heads ++ new ∷ []) (position + 1) new
  heads_pushed heads position head new known this = record {
    size = omega (arith, length-append heads (new ∷ []), known.size);
    each = λ j lt. elim (cases_eq j position) [
      | inl e ↦ subst (λ (k : ℕ). IsHead rows order seats k (slice_index (heads ++ new ∷ []) k)) (sym e)
          (subst (IsHead rows order seats position) (sym (get_or_push heads new 0 position known.size)) this)
      | inr ne ↦ subst (IsHead rows order seats j) (sym (get_or_append_left heads (new ∷ []) 0 j (omega (arith, known.size, ne, lt)))) (known.each j (omega (arith, ne, lt)))
    ];
    up_to = omega (arith, this.up_to);
    apart = this.apart;
    direct = λ k low high. this.direct k low (omega (arith, high));
  }

  -- a row that does not stand directly behind its left is a head
  pub head_found : (heads longer : List ℕ) (position head new : ℕ) → HaveHeads heads position head → new ≡ position → is_direct rows order seats position ≡ false → longer ≡ heads ++ new ∷ [] →
      HaveHeads longer (position + 1) new
  head_found heads longer position head new known e apart is = subst (λ (xs : List ℕ). HaveHeads xs (position + 1) new) (sym is) (heads_pushed heads position head new known (record {
    up_to = omega (arith, e);
    apart = inr (subst (λ (n : ℕ). is_direct rows order seats n ≡ false) (sym e) apart);
    direct = λ k low high. absurd (omega (arith, e, low, high));
  }))

  -- and one that does has the head of the one in front
  pub head_stays : (heads longer : List ℕ) (position head new : ℕ) → HaveHeads heads position head → new ≡ head → is_direct rows order seats position ≡ true → longer ≡ heads ++ new ∷ [] →
      HaveHeads longer (position + 1) new
  head_stays heads longer position head new known e direct is = subst (λ (xs : List ℕ). HaveHeads xs (position + 1) new) (sym is) (heads_pushed heads position head new known (record {
    up_to = omega (arith, e, known.up_to);
    apart = subst (λ (n : ℕ). (n ≡ 0) ⊎ (is_direct rows order seats n ≡ false)) (sym e) known.apart;
    direct = λ k low high. elim (cases_eq k position) [
      | inl f ↦ subst (λ (n : ℕ). is_direct rows order seats n ≡ true) (sym f) direct
      | inr ne ↦ known.direct k (omega (arith, e, low)) (omega (arith, ne, high))
    ];
  }))

  -- ---- reasons

  second_or : (p q r : Bool) → q ≡ true → (p || (q || r)) ≡ true
  second_or true q r e = refl
  second_or false q r e = rw e refl

  -- a row directly behind a left that is itself behind the left of another goes in front of the other
  direct_has_reason : (at first k : ℕ) → first ≡ seat_of seats (left_at rows at) → first < k → is_direct rows order seats k ≡ true → has_reason rows seats (slice_index order k) at ≡ true
  direct_has_reason at first k e lt direct = second_or (is_passed seats (right_at rows (slice_index order k)) (slice_index seats at))
      (nat_lt (seat_of seats (left_at rows at)) (seat_of seats (left_at rows (slice_index order k))))
      (nat_eq (seat_of seats (left_at rows (slice_index order k))) (seat_of seats (left_at rows at)) && is_smaller (id_at rows (slice_index order k)) (id_at rows at))
      (later (seat_of seats (left_at rows at)) (seat_of seats (left_at rows (slice_index order k))) e direct)
    where
      later : (m n : ℕ) → first ≡ m → nat_eq n k ≡ true → nat_lt m n ≡ true
      later m n same there = grind (arith, tests)

  -- where a head has a reason, so have the rows up to the position that it is the head of
  pub reasons_back : (heads : List ℕ) (at first position head last : ℕ) (d : LinkedRow) → AreHeads rows order seats heads → at < length rows → first ≡ seat_of seats (get_or rows at d).left →
      0 < position → position ≤ length order → head ≡ max first (slice_index heads (position - 1)) → has_reason rows seats (slice_index order head) at ≡ true →
      ((k : ℕ) → position ≤ k → k < last → has_reason rows seats (slice_index order k) at ≡ true) →
      (k : ℕ) → head ≤ k → k < last → has_reason rows seats (slice_index order k) at ≡ true
  reasons_back heads at first position head last d are lt e some inside is this later k low high = elim (cases_eq k head) [
    | inl f ↦ subst (λ (n : ℕ). has_reason rows seats (slice_index order n) at ≡ true) (sym f) this
    | inr ne ↦ elim (split k position) [
      | inl less ↦ direct_has_reason at first k (e ∙ ap (seat_of seats) (left_read rows at d lt)) (omega (arith, ne, low, is))
          ((are.each (position - 1) (omega (arith, some, inside))).direct k (omega (arith, ne, low, is)) (omega (arith, less)))
      | inr le ↦ later k le high
    ]
  ]
    where
      split : (m n : ℕ) → (m < n) ⊎ (n ≤ m)
      split m n = grind arith

  pub reasons_all : (at first position : ℕ) (d : LinkedRow) → at < length rows → first ≡ seat_of seats (get_or rows at d).left → position ≤ first →
      ((k : ℕ) → position ≤ k → k < slice_index seats at - 1 → has_reason rows seats (slice_index order k) at ≡ true) → HaveReasons rows order seats at
  reasons_all at first position d lt e ended all k le less = all k (omega (arith, ended, le, e ∙ ap (seat_of seats) (left_read rows at d lt))) (omega arith)

  -- and where one head has none, not all of them have
  pub reasons_lack : (at first head : ℕ) (d : LinkedRow) (told : Bool) → at < length rows → first ≡ seat_of seats (get_or rows at d).left → first ≤ head →
      suc head < slice_index seats at → told ≡ has_reason rows seats (slice_index order head) at → told ≡ false → false ≡ true ↔ HaveReasons rows order seats at
  reasons_lack at first head d told lt e low high is none = (
    (λ said. absurd (true≢false (sym said))),
    (λ reasons. absurd (true≢false (sym (reasons head (omega (arith, low, e ∙ ap (seat_of seats) (left_read rows at d lt))) high) ∙ sym is ∙ none))),
  )
