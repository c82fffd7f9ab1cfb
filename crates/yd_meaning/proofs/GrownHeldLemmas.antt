-- What was held stays held: a closed part, and all of it before an update by which nothing that stood is lost.
use Rattle.std.proofs.Common.{◌≡◌, ℕ, zero, suc, ◌<◌, Bool, true, false, ◌||◌, List, [], ◌∷◌, ◌⊎◌, inl, inr, refl, sym, ap, ◌∙◌, subst, arith, tests, true≢false}
use Rattle.std.proofs.lemmas.Bool.{cases_Bool, or_left, or_right}
use Rattle.std.specs.Prelude.{nat_eq}
use Rattle.yd_words.specs.Member.{IsIn}
use Rattle.yd_words.proofs.TestLemmas.{both_hold}
use Rattle.yd_ids.specs.declared.id.Id.{Id}
use Rattle.yd_ids.specs.Ids.{HasSmallerClock}
use Rattle.yd_ids.proofs.IdLemmas.{same_says}
use Rattle.yd_ops.specs.Operation.{Operation, level_of, as_level}
use Rattle.yd_ops.specs.Valid.{IsValidUpdate}
use Rattle.yd_ops.specs.Value.{UpdateValue}
use Rattle.yd_ops.specs.Pairs.{is_alone, as_torn}
use Rattle.yd_ops.specs.Received.{has_operation, IsWritten, lowered, taken_in, all_taken, mended, with_group, with_groups, groups_of, Received, received_after}
use Rattle.yd_ops.specs.ReceivedLaw.{IsReceived}
use Rattle.yd_ops.proofs.LevelLemmas.{lowered_either, half_full}
use Rattle.yd_ops.proofs.MendingLemmas.{alone_decides, map_has, mended_written}
use Rattle.yd_ops.proofs.OneOfLemmas.{operation_with, id_is_there, ids_stay}
use Rattle.yd_ops.proofs.ReceivedLemmas.{after_is_received}
use Rattle.yd_ops.proofs.WritingLemmas.{taken_stays, taken_lowered, taken_written}
use Rattle.yd_meaning.specs.Held.{sources, held_set, is_gone, standing, is_lost, is_one_that}
use Rattle.yd_meaning.specs.Law.{IsPartOf}
use Rattle.yd_meaning.proofs.GrowingLemmas.{held_grows_after}
use Rattle.yd_meaning.proofs.HeldLemmas.{held_in, held_needs, needs_held, held_least, held_set-part}
use Rattle.yd_meaning.proofs.LostLemmas.{lost_one}
use Rattle.yd_meaning.proofs.NeedLemmas.{source_needed}
use Rattle.yd_meaning.proofs.PartLemmas.{part_stays, stands_alike}
use Rattle.yd_meaning.proofs.RowLemmas.{written_distinct, one_operation}
use Rattle.yd_meaning.proofs.StandingLemmas.{standing_in, standing_one}
use Rattle.yd_meaning.proofs.VectorLemmas.{held_written, held_smaller}
use Rattle.yd_meaning.specs.Staying.{AreSeenAlike, StaysHeld}

seen_itself : (o : Operation) → AreSeenAlike o o
seen_itself o = record { id = refl; left = refl; right = refl; list = refl }

-- ---- a closed part

module _ (os : List Operation) (w : IsWritten os) (part : List Operation) (is : IsPartOf part (held_set os)) where
  part_stands : (o : Operation) → IsIn o (standing part) → IsIn o (standing (held_set os))
  part_stands o i = let (j, there) = standing_in part is.written o i in
      standing_one (held_set os) (held_written os w) o (is.within o j) (sym (stands_alike os w part is o.id (id_is_there part o j)) ∙ id_is_there (standing part) o i)

  part_clocks : (x y : Id) → has_operation part x ≡ true → HasSmallerClock y x → has_operation part y ≡ true
  part_clocks x y e c = let all : held_set part ≡ part = held_set-part os part w is.within is.closed in
      subst (λ ps. has_operation ps y ≡ true) all (held_smaller part is.written x y (subst (λ ps. has_operation ps x ≡ true) (sym all) e) c)

  pub part_stays_held : StaysHeld part (held_set os)
  part_stays_held = record {
    written = is.written;
    ids = λ x e. ids_stay part (held_set os) x is.within e;
    clocks = part_clocks;
    stands = λ o i. (o, part_stands o i, seen_itself o);
    lost = λ x e. sym ((part_stays os w part is).lost x (both_hold (has_operation part x) _ e).0) ∙ e;
  }

-- ---- what is left of an operation

-- the first is left of the second: it is gone, or as it was but for what it holds, and gone where that was
pub record IsLeft (q p : Operation) : Type 0 where
  pub id : q.id ≡ p.id
  pub rest : (is_gone q ≡ true) ⊎ (AreSeenAlike p q × (is_gone q ≡ is_gone p))

left_itself : (p : Operation) → IsLeft p p
left_itself p = record { id = refl; rest = inr (seen_itself p, refl) }

left_through : (r q p : Operation) → IsLeft r q → IsLeft q p → IsLeft r p
left_through r q p a b = record { id = a.id ∙ b.id; rest = go a.rest b.rest }
  where
    go : (is_gone r ≡ true) ⊎ (AreSeenAlike q r × (is_gone r ≡ is_gone q)) → (is_gone q ≡ true) ⊎ (AreSeenAlike p q × (is_gone q ≡ is_gone p)) →
        (is_gone r ≡ true) ⊎ (AreSeenAlike p r × (is_gone r ≡ is_gone p))
    go (inl gone) y = inl gone
    go (inr x) (inl gone) = inl (x.1 ∙ gone)
    go (inr x) (inr y) = inr (
      record { id = x.0.id ∙ y.0.id; left = x.0.left ∙ y.0.left; right = x.0.right ∙ y.0.right; list = x.0.list ∙ y.0.list },
      x.1 ∙ y.1,
    )

not_zero : (n m : ℕ) → m < n → nat_eq n 0 ≡ false
not_zero n m lt = go (nat_eq n 0) refl
  where
    go : (t : Bool) → nat_eq n 0 ≡ t → nat_eq n 0 ≡ false
    go true e = (let zero_is : n ≡ 0 = grind (arith, tests) in absurd (omega (arith, lt, zero_is)))
    go false e = e

level_left : (level : ℕ) (p : Operation) → level < level_of p.content → IsLeft (as_level level p) p
level_left zero p lt = record { id = refl; rest = inl refl }
level_left (suc zero) p lt = record { id = refl; rest = inr (record { id = refl; left = refl; right = refl; list = refl }, sym (not_zero (level_of p.content) 1 lt)) }
level_left (suc (suc level)) p lt = left_itself p

lowered_left : (p o : Operation) → IsLeft (lowered p o) p
lowered_left p o = elim (lowered_either p o) [
  | inl falls ↦ subst (λ q. IsLeft q p) (sym falls.1) (level_left (level_of o.content) p falls.0)
  | inr stays ↦ subst (λ q. IsLeft q p) (sym stays.1) (left_itself p)
]

torn_left : (os : List Operation) (p : Operation) → IsLeft (as_torn (is_alone os p) p) p
torn_left os p = go (is_alone os p) refl
  where
    go : (t : Bool) → is_alone os p ≡ t → IsLeft (as_torn t p) p
    go true e = let full : level_of p.content ≡ 2 = half_full p.content ((alone_decides os p).0 e).0 in
        record { id = refl; rest = inr (record { id = refl; left = refl; right = refl; list = refl }, sym (not_zero (level_of p.content) 1 (omega (arith, full)))) }
    go false e = left_itself p

-- one is there that is left of it
abbrev HasLeft : List Operation → Operation → Type 0
HasLeft taken p = (q : Operation) × IsIn q taken × IsLeft q p

left_taken : (o : Operation) (taken : List Operation) (p : Operation) → IsWritten taken → HasLeft taken p → HasLeft (taken_in o taken) p
left_taken o taken p w (q, i, left) = elim (same_says q.id o.id) [
  | inl same ↦ (lowered q o, taken_lowered o taken w q i same.1, left_through (lowered q o) q p (lowered_left q o) left)
  | inr other ↦ (q, taken_stays o taken q i other.1, left)
]

left_all : (news taken : List Operation) (p : Operation) → IsWritten taken → HasLeft taken p → IsWritten (all_taken news taken) × HasLeft (all_taken news taken) p
left_all [] taken p w left = (w, left)
left_all (o ∷ news) taken p w left = left_all news (taken_in o taken) p (taken_written o taken w) (left_taken o taken p w left)

left_mended : (os : List Operation) (p : Operation) → HasLeft os p → HasLeft (mended os) p
left_mended os p (q, i, left) = (as_torn (is_alone os q) q, map_has (λ o. as_torn (is_alone os o) o) os q i, left_through (as_torn (is_alone os q) q) q p (torn_left os q) left)

left_groups : (groups : List (List Operation)) (taken : List Operation) (p : Operation) → IsWritten taken → HasLeft taken p → HasLeft (with_groups groups taken) p
left_groups [] taken p w left = left
left_groups (group ∷ groups) taken p w left = let (v, more) = left_all group taken p w left in
    left_groups groups (with_group group taken) p (mended_written (all_taken group taken) v) (left_mended (all_taken group taken) p more)

-- ---- one of some ids

one_that : (test : Id → Bool) (xs : List Id) → is_one_that test xs ≡ true → (y : Id) × IsIn y xs × (test y ≡ true)
one_that test [] e = absurd (true≢false (sym e))
one_that test (x ∷ xs) e = elim (cases_Bool (test x)) [
  | inl f ↦ (x, inl refl, f)
  | inr f ↦ let (y, i, g) = one_that test xs (sym (ap (λ t. t || is_one_that test xs) f) ∙ e) in (y, inr i, g)
]

that_one : (test : Id → Bool) (xs : List Id) (y : Id) → IsIn y xs → test y ≡ true → is_one_that test xs ≡ true
that_one test [] y i e = absurd i
that_one test (x ∷ xs) y (inl g) e = or_left (test x) (is_one_that test xs) (subst (λ z. test z ≡ true) g e)
that_one test (x ∷ xs) y (inr i) e = or_right (test x) (is_one_that test xs) (that_one test xs y i e)

same_sources : (o q : Operation) → AreSeenAlike o q → (y : Id) → IsIn y (sources o) → IsIn y (sources q)
same_sources o q a y i = rw (a.left, a.right, a.list) i

-- ---- all that was held before an update

module _ (r : Received) (update : UpdateValue) (is : IsReceived r) (valid : IsValidUpdate update)
    (none_lost : (x : Id) → has_operation (standing (held_set r.operations)) x ≡ true →
    has_operation (standing (held_set (received_after r update).operations)) x ≡ true) where
  abbrev old : List Operation
  old = held_set r.operations

  abbrev more : List Operation
  more = (received_after r update).operations

  abbrev new : List Operation
  new = held_set more

  more_written : IsWritten more
  more_written = (after_is_received r update is valid).written

  -- what has the id of one that was received is left of it
  left_of_it : (o p : Operation) → IsIn o r.operations → IsIn p more → p.id ≡ o.id → IsLeft p o
  left_of_it o p i j e = let (q, k, left) = left_groups (groups_of update) r.operations o is.written (o, i, left_itself o) in
      subst (λ q. IsLeft q o) (one_operation more (written_distinct more more_written) q p k j (left.id ∙ sym e)) left

  stands_on : (o : Operation) → IsIn o (standing old) → (q : Operation) × IsIn q (standing new) × AreSeenAlike o q
  stands_on o i =
      let (q, j, e) = operation_with (standing new) o.id (none_lost o.id (id_is_there (standing old) o i)) in
      let (k, there) = standing_in new (held_written more more_written) q j in
      let (m, full) = standing_in old (held_written r.operations is.written) o i in (
        q,
        j,
        elim ((left_of_it o q (held_in r.operations o m) (held_in more q k) e).rest) [
          | inl gone ↦ absurd (true≢false (sym gone ∙ there))
          | inr alike ↦ alike.0
        ],
      )

  old_closed : (o : Operation) → IsIn o old → (y : Id) → IsIn y (sources o) → has_operation old y ≡ true
  old_closed o i y j = held_needs r.operations o i y (source_needed o y j)

  new_closed : (o : Operation) → IsIn o new → (y : Id) → IsIn y (sources o) → has_operation new y ≡ true
  new_closed o i y j = held_needs more o i y (source_needed o y j)

  -- a held id is lost still, where it was
  abbrev StaysLost : Id → Type 0
  StaysLost x = (has_operation old x ≡ true) × (is_lost old x ≡ true → is_lost new x ≡ true)

  lost_step : (o q : Operation) → IsIn q new → IsLeft q o → ((y : Id) → IsIn y (sources o) → is_lost old y ≡ true → is_lost new y ≡ true) →
      (is_gone o || is_one_that (is_lost old) (sources o)) ≡ true → (is_gone q || is_one_that (is_lost new) (sources q)) ≡ true
  lost_step o q i left f e = elim left.rest [
    | inl gone ↦ or_left (is_gone q) (is_one_that (is_lost new) (sources q)) gone
    | inr alike ↦ elim (cases_Bool (is_gone o)) [
      | inl gone ↦ or_left (is_gone q) (is_one_that (is_lost new) (sources q)) (alike.1 ∙ gone)
      | inr there ↦ let (y, j, lost) = one_that (is_lost old) (sources o) (sym (ap (λ t. t || is_one_that (is_lost old) (sources o)) there) ∙ e) in
          or_right (is_gone q) (is_one_that (is_lost new) (sources q)) (that_one (is_lost new) (sources q) y (same_sources o q alike.0 y j) (f y j lost))
    ]
  ]

  stays_lost : (o : Operation) → IsIn o old → StaysLost o.id
  stays_lost = held_least r.operations StaysLost (λ o i f.
      let k : IsIn o old = needs_held r.operations o i (λ x j. (f x j).0) in
      let (q, m, e) = operation_with new o.id (held_grows_after r update is o.id (id_is_there old o k)) in (
        id_is_there old o k,
        λ lost. subst (λ y. is_lost new y ≡ true) e (lost_one new (held_written more more_written) new_closed q m
            ∙ lost_step o q m (left_of_it o q i (held_in more q m) e) (λ y j. (f y (source_needed o y j)).1)
            (sym (lost_one old (held_written r.operations is.written) old_closed o k) ∙ lost)),
      ))

  pub received_stays_held : StaysHeld old new
  received_stays_held = record {
    written = held_written r.operations is.written;
    ids = held_grows_after r update is;
    clocks = held_smaller r.operations is.written;
    stands = stands_on;
    lost = λ x e.
        let there : has_operation old x ≡ true = (both_hold (has_operation old x) _ e).0 in
        let (o, i, g) = operation_with old x there in
        subst (λ y. is_lost old y ≡ true → is_lost new y ≡ true) g (stays_lost o i).1 e;
  }
