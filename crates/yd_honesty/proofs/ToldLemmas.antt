-- The clocks of pasts tell what is of the past of each held unit.
use Rattle.std.proofs.Common.{◌≡◌, ℕ, zero, suc, ◌<◌, ◌⊎◌, true, ◌&&◌, ◌||◌, nat_eq, nat_lt, inl, inr, List, [], ◌++◌, Option, Some, length, get_or, refl, sym, ap, ◌∙◌, subst, arith, tests, true≢false}
use Rattle.std.specs.Prelude.{Decides, slice_get}
use Rattle.std.proofs.lemmas.Bool.{or_left, or_right}
use Rattle.yd_words.specs.Member.{IsIn}
use Rattle.yd_words.proofs.MemberLemmas.{in_left_part, in_right_part, in_parts}
use Rattle.yd_words.proofs.TestLemmas.{both_hold, hold_both, one_answer}
use Rattle.yd_ids.specs.declared.id.Id.{Id}
use Rattle.yd_ids.specs.Ids.{is_same}
use Rattle.yd_ids.specs.Vector.{clock_of}
use Rattle.yd_ids.proofs.IdLemmas.{same_is}
use Rattle.yd_ops.specs.Operation.{Operation}
use Rattle.yd_ops.specs.Received.{has_operation}
use Rattle.yd_ops.proofs.OneOfLemmas.{operation_with}
use Rattle.yd_meaning.specs.Held.{needs, sources, id_before, given, item_carried}
use Rattle.yd_meaning.specs.Order.{IsPast, of_past}
use Rattle.yd_entries.specs.declared.entry.Entry.{Entry}
use Rattle.yd_entries.specs.Entries.{carried_of, operations_of_taken, covers, is_held}
use Rattle.yd_received.specs.Received.{ReceivedValue, taken_of, held_of, is_below}
use Rattle.yd_entries.proofs.EntriesLemmas.{one_entry}
use Rattle.yd_entries.proofs.WrittenLemmas.{taken_written}
use Rattle.yd_held.specs.Readiness.{IsOriginOf}
use Rattle.yd_held.proofs.HeldUnitLemmas.{id_at, Follows, unit_cases, unit_covers, covers_less, covers_later}
use Rattle.yd_held.proofs.HeldEntryLemmas.{is_taken, chosen_entry, covers_chosen}
use Rattle.yd_held.proofs.HoldingLemmas.{unit_sources}
use Rattle.yd_honesty.specs.Dishonest.{needs_at, is_past_within, is_past}
use Rattle.yd_honesty.specs.Pasts.{Clocks, IsHeldWhole, ArePasts, entry_needs, FindsNeed, is_told}
use Rattle.yd_honesty.proofs.PassingLemmas.{passes_found, one_holds}
use Rattle.yd_honesty.proofs.PastLemmas.{needs_there, past_decides}
use Rattle.yd_honesty.proofs.ClocksLemmas.{below_less, less_below}
use Rattle.yd_honesty.proofs.NotingLemmas.{there_is_in, need_held, clock_past, up_to_past, first_needs}

-- below the clocks, or a smaller clock of the same client
abbrev IsTold : Clocks → Id → Id → Type 0
IsTold clocks x y = (is_below clocks y ≡ true) ⊎ ((y.client.0 ≡ x.client.0) × (y.clock < x.clock))

told_is : (clocks : Clocks) (x y : Id) → is_told clocks x y ≡ true → IsTold clocks x y
told_is clocks x y e = elim (one_holds (is_below clocks y) (nat_eq y.client.0 x.client.0 && nat_lt y.clock x.clock) e) [
  | inl b ↦ inl b
  | inr own ↦ let both = both_hold (nat_eq y.client.0 x.client.0) (nat_lt y.clock x.clock) own in inr (same y.client.0 x.client.0 both.0, less y.clock x.clock both.1)
]
  where
    same : (m n : ℕ) → nat_eq m n ≡ true → m ≡ n
    same m n f = grind (arith, tests)

    less : (m n : ℕ) → nat_lt m n ≡ true → m < n
    less m n f = grind (arith, tests)

is_so_told : (clocks : Clocks) (x y : Id) → IsTold clocks x y → is_told clocks x y ≡ true
is_so_told clocks x y (inl b) = or_left (is_below clocks y) (nat_eq y.client.0 x.client.0 && nat_lt y.clock x.clock) b
is_so_told clocks x y (inr own) = or_right (is_below clocks y) (nat_eq y.client.0 x.client.0 && nat_lt y.clock x.clock)
    (hold_both (nat_eq y.client.0 x.client.0) (nat_lt y.clock x.clock) (same y.client.0 x.client.0 own.0) (less y.clock x.clock own.1))
  where
    same : (m n : ℕ) → m ≡ n → nat_eq m n ≡ true
    same m n f = grind (arith, tests)

    less : (m n : ℕ) → m < n → nat_lt m n ≡ true
    less m n f = grind (arith, tests)

below_down : (clocks : Clocks) (z y : Id) → is_below clocks z ≡ true → y.client.0 ≡ z.client.0 → y.clock < z.clock → is_below clocks y ≡ true
below_down clocks z y b same lt = less_below clocks y (subst (λ c. y.clock < clock_of clocks c) (sym same) (omega (arith, below_less clocks z b, lt)))

some_given : (z : Option Id) (y : Id) → z ≡ Some y → IsIn y (given z)
some_given z y e = subst (λ v. IsIn y (given v)) (sym e) (inl refl)

module _ (r : ReceivedValue) (whole : IsHeldWhole r) (pasts : List Clocks) (are : ArePasts r pasts) where
  abbrev held : List Operation
  held = held_of r

  origin_needed : (t : Entry) (z : Id) → IsOriginOf z t.left t.right (carried_of r.runs t) → IsIn z (entry_needs r t)
  origin_needed t z (inl e) = in_right_part z (id_before t.id.client t.id.clock) (given t.left ++ (given t.right ++ given (item_carried (carried_of r.runs t))))
      (in_left_part z (given t.left) (given t.right ++ given (item_carried (carried_of r.runs t))) (some_given t.left z e))
  origin_needed t z (inr (inl e)) = in_right_part z (id_before t.id.client t.id.clock) (given t.left ++ (given t.right ++ given (item_carried (carried_of r.runs t))))
      (in_right_part z (given t.left) (given t.right ++ given (item_carried (carried_of r.runs t)))
      (in_left_part z (given t.right) (given (item_carried (carried_of r.runs t))) (some_given t.right z e)))
  origin_needed t z (inr (inr e)) = in_right_part z (id_before t.id.client t.id.clock) (given t.left ++ (given t.right ++ given (item_carried (carried_of r.runs t))))
      (in_right_part z (given t.left) (given t.right ++ given (item_carried (carried_of r.runs t)))
      (in_right_part z (given t.right) (given (item_carried (carried_of r.runs t))) (some_given (item_carried (carried_of r.runs t)) z e)))

  -- what a unit needs is needed by the first of its entry, or is the unit before it there
  need_cases : (t : Entry) → IsIn t r.entries → (o : Operation) → IsIn o (operations_of_taken r.runs t) → (z : Id) → IsIn z (needs o) →
      IsIn z (entry_needs r t) ⊎ ((k : ℕ) × Follows t o k × (z ≡ id_at t.id.client k))
  need_cases t i o j z n = elim (unit_cases r.runs t (is_taken r whole.in_order t i) o j) [
    | inl first ↦ inl (subst (λ zs. IsIn z zs) (first_needs r whole t o first) n)
    | inr (k, later) ↦ elim (in_parts z (id_before o.id.client o.id.clock) (sources o) n) [
      | inl before ↦ inr (k, later, before_is k later before)
      | inr source ↦ elim (unit_sources r.runs t (is_taken r whole.in_order t i) o j z source) [
        | inl own ↦ inr own
        | inr origin ↦ inl (origin_needed t z origin)
      ]
    ]
  ]
    where
      before_is : (k : ℕ) → Follows t o k → IsIn z (id_before o.id.client o.id.clock) → z ≡ id_at t.id.client k
      before_is k later b = elim (subst (λ (x : Id). IsIn z (id_before x.client x.clock)) later.has_id b) [ inl e ↦ e | inr none ↦ absurd none ]

  complete : (n at : ℕ) (t : Entry) → slice_get r.entries at ≡ Some t → (x : Id) → covers t x ≡ true → has_operation held x ≡ true → (y : Id) →
      is_past_within held n x y ≡ true → IsTold (get_or pasts at []) x y
  complete zero at t there x c h y e = absurd (true≢false (sym e))
  complete (suc n) at t there x c h y e =
      let (z, i, f) = passes_found (λ v. is_same v y || is_past_within held n v y) (needs_at held x) e in
      let (o, j, g, k) = needs_there held x z i in
      let way = one_holds (is_same z y) (is_past_within held n z y) f in
      by_cases o j g z k (elim way [ inl same ↦ inl (same_is z y same) | inr past ↦ inr past ])
      (λ m s other d l v p. complete n m s other d l v y p)
    where
      by_cases : (o : Operation) → IsIn o held → o.id ≡ x → (z : Id) → IsIn z (needs o) → (z ≡ y) ⊎ (is_past_within held n z y ≡ true) →
          ((m : ℕ) (s : Entry) → slice_get r.entries m ≡ Some s → (v : Id) → covers s v ≡ true → has_operation held v ≡ true →
          is_past_within held n v y ≡ true → IsTold (get_or pasts m []) v y) → IsTold (get_or pasts at []) x y
      by_cases o j g z k way again =
          let (s, l, passes, own) = chosen_entry is_held r whole.in_order o j in
          let covered : covers s x ≡ true = subst (λ v. covers s v ≡ true) g (unit_covers r.runs s (is_taken r whole.in_order s l) o own) in
          let one : s ≡ t = one_entry r.entries whole.in_order.in_order s t x l (there_is_in r.entries at t there).0 covered c in
          of_entry (subst (λ u. is_held u ≡ true) one passes) (subst (λ u. IsIn o (operations_of_taken r.runs u)) one own)
        where
          z_held : has_operation held z ≡ true
          z_held = need_held r whole o j z k

          by_need : FindsNeed r pasts z (get_or pasts at []) → IsTold (get_or pasts at []) x y
          by_need need = elim way [
            | inl same ↦ inl (subst (λ v. is_below (get_or pasts at []) v ≡ true) same need.need_below)
            | inr past ↦ elim (again need.at need.entry need.there z need.covers_it z_held past) [
              | inl b ↦ inl (need.past_below y b)
              | inr own ↦ inl (below_down (get_or pasts at []) z y need.need_below own.0 own.1)
            ]
          ]

          by_unit : (m : ℕ) → Follows t o m → z ≡ id_at t.id.client m → IsTold (get_or pasts at []) x y
          by_unit m later is = elim way [
            | inl same ↦ inr (ap (λ (v : Id). v.client.0) (sym same) ∙ z_client, omega (arith, ap (λ (v : Id). v.clock) same, z_less))
            | inr past ↦ elim (again at t there z (subst (λ v. covers t v ≡ true) (sym is) (covers_later r.runs t (is_taken r whole.in_order t (there_is_in r.entries at t there).0) m later.above
                (omega (arith, later.below)))) z_held past) [
                  | inl b ↦ inl b
                  | inr own ↦ inr (own.0 ∙ z_client, omega (arith, own.1, z_less))
                ]
          ]
            where
              x_is : x ≡ id_at t.id.client (suc m)
              x_is = sym g ∙ later.has_id

              z_client : z.client.0 ≡ x.client.0
              z_client = ap (λ (v : Id). v.client.0) is ∙ sym (ap (λ (v : Id). v.client.0) x_is)

              z_less : z.clock < x.clock
              z_less = omega (arith, ap (λ (v : Id). v.clock) is, ap (λ (v : Id). v.clock) x_is)

          of_entry : is_held t ≡ true → IsIn o (operations_of_taken r.runs t) → IsTold (get_or pasts at []) x y
          of_entry passes own = elim (need_cases t (there_is_in r.entries at t there).0 o own z k) [
            | inl need ↦ by_need (are.closed at t there passes z need)
            | inr (m, later, is) ↦ by_unit m later is
          ]

  sound : (at : ℕ) (t : Entry) → slice_get r.entries at ≡ Some t → (x : Id) → covers t x ≡ true → has_operation held x ≡ true → (y : Id) →
      IsTold (get_or pasts at []) x y → IsPast held x y
  sound at t there x c h y (inr own) = clock_past r whole (suc x.clock) x y h own.0 own.1 (omega arith)
  sound at t there x c h y (inl b) =
      let (i, lt) = there_is_in r.entries at t there in
      let less = covers_less t x c in
      let past : IsPast held t.id y = are.sound.each at t there (covers_chosen is_held r whole.in_order t x i c h) y b in
      elim (up_to_past r whole x t.id h less.0 less.1) [
        | inl one ↦ subst (λ v. IsPast held v y) (sym one) past
        | inr before ↦ of_past before past
      ]

  -- ---- lemmas for callers

  -- the clocks of its entry, and its clock, tell what is of the past of a held unit
  pub told_past : (at : ℕ) (t : Entry) → slice_get r.entries at ≡ Some t → (x : Id) → covers t x ≡ true → has_operation held x ≡ true → (y : Id) →
      is_told (get_or pasts at []) x y ≡ is_past held x y
  told_past at t there x c h y = one_answer (is_told (get_or pasts at []) x y) (is_past held x y) (
    (λ e. sound at t there x c h y (told_is (get_or pasts at []) x y e)),
    (λ past. is_so_told (get_or pasts at []) x y (complete (length held) at t there x c h y (decided.1 past))),
  ) decided
    where
      decided : Decides (is_past held x y) (IsPast held x y)
      decided = let (o, i, e) = operation_with held x h in subst (λ v. Decides (is_past held v y) (IsPast held v y)) e
          (subst (λ os. Decides (is_past os o.id y) (IsPast os o.id y)) (sym whole.held)
          (past_decides (taken_of r) (taken_written r.runs r.entries whole.in_order) o (subst (λ os. IsIn o os) whole.held i) y))
