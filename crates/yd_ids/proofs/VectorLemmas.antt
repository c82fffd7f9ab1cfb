-- State vectors: where a client's entry stands, and what another entry changes.
use Rattle.std.proofs.Common.{◌≡◌, ◌≢◌, ◌⊎◌, ℕ, zero, suc, ◌<◌, ◌≤◌, max, Bool, true, false, cond, List, [], ◌∷◌, length, get_or, set, take, drop, refl, sym, ap, ap₂, ◌∙◌, inl, inr, arith, nat_eq, nat_lt}
use Rattle.std.specs.List.{HoldsAt, insert}
use Rattle.std.specs.List.Sorted.{IsPartitionedBy}
use Rattle.std.proofs.lemmas.Bool.{cases_lt, ltb-true, ltb-false, lt-ltb, eq-eqb, ne_eqb}
use Rattle.yd_words.specs.Each.{Each}
use Rattle.yd_words.proofs.EachLemmas.{each_weaker, each_set, each_at}
use Rattle.yd_ids.specs.declared.id.Client.{Client}
use Rattle.yd_ids.specs.Id.{IsClient, IsClock}
use Rattle.yd_ids.specs.Vector.{clock_of, IsVector, RaisesOnly}

abbrev pub Entry : Type 0
Entry = Client × ℕ

-- clients ascend
clients_ascend : (xs : List Entry) (i j : ℕ) (d : Entry) → IsVector xs → i < j → j < length xs → (get_or xs i d).0.0 < (get_or xs j d).0.0
clients_ascend [] i j d v lt le = absurd (omega arith)
clients_ascend (x ∷ xs) i zero d v lt le = absurd (omega arith)
clients_ascend (x ∷ xs) zero (suc j) d v lt le = each_at (λ later. x.0.0 < later.0.0) xs j d v.3 (omega arith)
clients_ascend (x ∷ xs) (suc i) (suc j) d v lt le = clients_ascend xs i j d v.4 (omega arith) (omega arith)

pub clients_parted : (xs : List Entry) (c : ℕ) → IsVector xs → IsPartitionedBy (λ (e : Entry). nat_lt e.0.0 c) xs
clients_parted xs c v i j d le lt t = elim (cases_lt i j) [
  | inl less ↦ let below = ltb-true (get_or xs j d).0.0 c t in let more = clients_ascend xs i j d v less lt in lt-ltb (get_or xs i d).0.0 c (omega arith)
  | inr ge ↦ let same : i ≡ j = omega arith in rw same t
]

-- ---- a client that has an entry

pub clock_found : (xs : List Entry) (n : ℕ) (d : Entry) (c : ℕ) → IsVector xs → n < length xs → (get_or xs n d).0.0 ≡ c → (get_or xs n d).1 ≡ clock_of xs c
clock_found [] n d c v lt e = absurd (omega arith)
clock_found (x ∷ xs) zero d c v lt e = rw (eq-eqb x.0.0 c e)
clock_found (x ∷ xs) (suc n) d c v lt e =
    let less = each_at (λ later. x.0.0 < later.0.0) xs n d v.3 (omega arith) in
    rw (ne_eqb x.0.0 c (omega arith)) (clock_found xs n d c v.4 (omega arith) e)

pub clock_bound : (xs : List Entry) (c : ℕ) → IsVector xs → IsClock (clock_of xs c)
clock_bound [] c v = omega arith
clock_bound (x ∷ xs) c v = go (nat_eq x.0.0 c) (clock_bound xs c v.4)
  where
    go : (t : Bool) → IsClock (clock_of xs c) → IsClock (cond t x.1 (clock_of xs c))
    go true h = v.2
    go false h = h

clock_at : (xs : List Entry) (n : ℕ) (d : Entry) → IsVector xs → n < length xs → (0 < (get_or xs n d).1) × IsClock (get_or xs n d).1
clock_at [] n d h lt = absurd (omega arith)
clock_at (x ∷ xs) zero d h lt = (h.1, h.2)
clock_at (x ∷ xs) (suc n) d h lt = clock_at xs n d h.4 (omega arith)

-- another entry of the client in the place of its entry
set_this : (xs : List Entry) (n : ℕ) (d v : Entry) (c : ℕ) → IsVector xs → n < length xs → (get_or xs n d).0.0 ≡ c → v.0.0 ≡ c → clock_of (set xs n v) c ≡ v.1
set_this [] n d v c h lt e f = absurd (omega arith)
set_this (x ∷ xs) zero d v c h lt e f = rw (eq-eqb v.0.0 c f)
set_this (x ∷ xs) (suc n) d v c h lt e f =
    let less = each_at (λ later. x.0.0 < later.0.0) xs n d h.3 (omega arith) in
    rw (ne_eqb x.0.0 c (omega arith)) (set_this xs n d v c h.4 (omega arith) e f)

set_other : (xs : List Entry) (n : ℕ) (d v : Entry) (c other : ℕ) → n < length xs → (get_or xs n d).0.0 ≡ c → v.0.0 ≡ c → other ≢ c → clock_of (set xs n v) other ≡ clock_of xs other
set_other [] n d v c other lt e f ne = absurd (omega arith)
set_other (x ∷ xs) zero d v c other lt e f ne = rw (ne_eqb x.0.0 other (λ g. ne (sym g ∙ e)), ne_eqb v.0.0 other (λ g. ne (sym g ∙ f)))
set_other (x ∷ xs) (suc n) d v c other lt e f ne = ap (λ k. cond (nat_eq x.0.0 other) x.1 k) (set_other xs n d v c other (omega arith) e f ne)

set_vector : (xs : List Entry) (n : ℕ) (d v : Entry) → IsVector xs → n < length xs → (get_or xs n d).0.0 ≡ v.0.0 → 0 < v.1 → IsClock v.1 → IsVector (set xs n v)
set_vector [] n d v h lt e some clock = tt
set_vector (x ∷ xs) zero d v h lt e some clock = (omega (arith, h.0), some, clock, each_weaker (λ later. x.0.0 < later.0.0) (λ later. v.0.0 < later.0.0) (λ later less. omega arith) xs h.3, h.4)
set_vector (x ∷ xs) (suc n) d v h lt e some clock =
    let less : x.0.0 < v.0.0 = omega (arith, each_at (λ later. x.0.0 < later.0.0) xs n d h.3 (omega arith)) in
    (h.0, h.1, h.2, each_set (λ later. x.0.0 < later.0.0) xs n v h.3 less, set_vector xs n d v h.4 (omega arith) e some clock)

-- the entry with the greater clock
pub raised_vector : (xs : List Entry) (n : ℕ) (d v : Entry) (clock : ℕ) → IsVector xs → IsClock clock → n < length xs → (get_or xs n d).0.0 ≡ v.0.0 → v.1 ≡ max (get_or xs n d).1 clock → IsVector (set xs n v)
raised_vector xs n d v clock h bound lt e f =
    let here = clock_at xs n d h lt in
    let some = here.0 in
    let small = here.1 in
    set_vector xs n d v h lt e (omega arith) (omega arith)

pub raised_only : (xs : List Entry) (n : ℕ) (d v : Entry) (clock : ℕ) → IsVector xs → n < length xs → (get_or xs n d).0.0 ≡ v.0.0 → v.1 ≡ max (get_or xs n d).1 clock → RaisesOnly xs (set xs n v) v.0.0 clock
raised_only xs n d v clock h lt e f = record {
  this_client = set_this xs n d v v.0.0 h lt e refl ∙ f ∙ ap (λ k. max k clock) (clock_found xs n d v.0.0 h lt e);
  other_clients = λ other ne. set_other xs n d v v.0.0 other lt e refl ne;
}

-- ---- a client that has none

-- the entries before a place are below the client, and those behind it above
abbrev pub HasPlace : List Entry → ℕ → ℕ → Type 0
HasPlace xs n c = Each (λ e. e.0.0 < c) (take n xs) × Each (λ e. c < e.0.0) (drop n xs)

above : (xs : List Entry) (c : ℕ) → IsVector xs → Each (λ e. nat_lt e.0.0 c ≡ false) xs → (0 < length xs → (d : Entry) → (get_or xs 0 d).0.0 ≢ c) → Each (λ e. c < e.0.0) xs
above [] c v h f = tt
above (x ∷ xs) c v h f =
    let first : c < x.0.0 = let le = ltb-false x.0.0 c h.0 in let ne = f (omega arith) x in omega arith in
    (first, each_weaker (λ later. x.0.0 < later.0.0) (λ later. c < later.0.0) (λ later lt. omega arith) xs v.3)

pub has_place : (xs : List Entry) (n c : ℕ) → IsVector xs → Each (λ e. nat_lt e.0.0 c ≡ true) (take n xs) → Each (λ e. nat_lt e.0.0 c ≡ false) (drop n xs) → (n < length xs → HoldsAt (λ e. e.0.0 ≢ c) xs n) → HasPlace xs n c
has_place xs zero c v h k f = (tt, above xs c v k f)
has_place [] (suc n) c v h k f = (tt, tt)
has_place (x ∷ xs) (suc n) c v h k f = let rest = has_place xs n c v.4 h.1 k (λ lt d. f (omega arith) d) in ((ltb-true x.0.0 c h.0, rest.0), rest.1)

-- the same, as the code reads it
pub place_of : (xs ys zs : List Entry) (n c : ℕ) → IsVector xs → ys ≡ xs → zs ≡ xs → Each (λ e. nat_lt e.0.0 c ≡ true) (take n ys) → Each (λ e. nat_lt e.0.0 c ≡ false) (drop n ys) → (n < length zs → HoldsAt (λ e. e.0.0 ≢ c) zs n) → HasPlace xs n c
place_of xs ys zs n c v e f h k g = has_place xs n c v (rw e at h) (rw e at k) (rw f at g)

pub above_none : (xs : List Entry) (c : ℕ) → Each (λ e. c < e.0.0) xs → 0 ≡ clock_of xs c
above_none [] c h = refl
above_none (x ∷ xs) c h = let lt = h.0 in rw (ne_eqb x.0.0 c (omega arith)) (above_none xs c h.1)

pub clock_missing : (xs : List Entry) (n c : ℕ) → HasPlace xs n c → 0 ≡ clock_of xs c
clock_missing xs zero c h = above_none xs c h.1
clock_missing [] (suc n) c h = refl
clock_missing (x ∷ xs) (suc n) c h = let lt = h.0.0 in rw (ne_eqb x.0.0 c (omega arith)) (clock_missing xs n c (h.0.1, h.1))

put_this : (xs : List Entry) (n : ℕ) (e : Entry) → HasPlace xs n e.0.0 → clock_of (insert xs n e) e.0.0 ≡ e.1
put_this xs zero e h = rw (eq-eqb e.0.0 e.0.0 refl)
put_this [] (suc n) e h = rw (eq-eqb e.0.0 e.0.0 refl)
put_this (x ∷ xs) (suc n) e h = let lt = h.0.0 in rw (ne_eqb x.0.0 e.0.0 (omega arith)) (put_this xs n e (h.0.1, h.1))

put_other : (xs : List Entry) (n : ℕ) (e : Entry) (other : ℕ) → other ≢ e.0.0 → clock_of (insert xs n e) other ≡ clock_of xs other
put_other xs zero e other ne = rw (ne_eqb e.0.0 other (λ f. ne (sym f)))
put_other [] (suc n) e other ne = rw (ne_eqb e.0.0 other (λ f. ne (sym f)))
put_other (x ∷ xs) (suc n) e other ne = ap (λ k. cond (nat_eq x.0.0 other) x.1 k) (put_other xs n e other ne)

each_put : (P : Entry → Type 0) (xs : List Entry) (n : ℕ) (e : Entry) → Each P xs → P e → Each P (insert xs n e)
each_put P xs zero e h p = (p, h)
each_put P [] (suc n) e h p = (p, tt)
each_put P (x ∷ xs) (suc n) e h p = (h.0, each_put P xs n e h.1 p)

pub put_vector : (xs : List Entry) (n : ℕ) (e : Entry) → IsVector xs → HasPlace xs n e.0.0 → IsClient e.0 → 0 < e.1 → IsClock e.1 → IsVector (insert xs n e)
put_vector xs zero e v h client some clock = (client, some, clock, h.1, v)
put_vector [] (suc n) e v h client some clock = (client, some, clock, tt, tt)
put_vector (x ∷ xs) (suc n) e v h client some clock = (v.0, v.1, v.2, each_put (λ later. x.0.0 < later.0.0) xs n e v.3 h.0.0, put_vector xs n e v.4 (h.0.1, h.1) client some clock)

pub put_only : (xs : List Entry) (n : ℕ) (e : Entry) → HasPlace xs n e.0.0 → RaisesOnly xs (insert xs n e) e.0.0 e.1
put_only xs n e h = record {
  this_client = let none = clock_missing xs n e.0.0 h in put_this xs n e h ∙ rw (← none) (omega arith);
  other_clients = λ other ne. put_other xs n e other ne;
}

-- a raise to 0 changes nothing
pub nothing_raised : (xs : List Entry) (c clock : ℕ) → clock ≤ 0 → RaisesOnly xs xs c clock
nothing_raised xs c clock le = record { this_client = omega arith; other_clients = λ other ne. refl }

-- ---- vectors with the same clocks

-- no client is below those of the entries
first_clock : (x : Entry) (xs : List Entry) → clock_of (x ∷ xs) x.0.0 ≡ x.1
first_clock x xs = rw (eq-eqb x.0.0 x.0.0 refl)

later_clock : (x : Entry) (xs : List Entry) (c : ℕ) → x.0.0 < c → clock_of (x ∷ xs) c ≡ clock_of xs c
later_clock x xs c lt = rw (ne_eqb x.0.0 c (omega arith))

entry_same : (x y : Entry) → x.0.0 ≡ y.0.0 → x.1 ≡ y.1 → x ≡ y
entry_same x y e f = λ i. (record { 0 = e i }, f i)

not_less : (x y : Entry) (xs ys : List Entry) → IsVector (x ∷ xs) → IsVector (y ∷ ys) → ((c : ℕ) → clock_of (x ∷ xs) c ≡ clock_of (y ∷ ys) c) → x.0.0 < y.0.0 → ⊥
not_less x y xs ys v w same lt =
    let none = above_none (y ∷ ys) x.0.0 (lt, each_weaker (λ later. y.0.0 < later.0.0) (λ later. x.0.0 < later.0.0) (λ later more. omega arith) ys w.3) in
    absurd (omega (arith, v.1, none, same x.0.0, first_clock x xs))

pub vectors_same : (xs ys : List Entry) → IsVector xs → IsVector ys → ((c : ℕ) → clock_of xs c ≡ clock_of ys c) → xs ≡ ys
vectors_same [] [] v w same = refl
vectors_same [] (y ∷ ys) v w same = absurd (omega (arith, w.1, same y.0.0, first_clock y ys))
vectors_same (x ∷ xs) [] v w same = absurd (omega (arith, v.1, same x.0.0, first_clock x xs))
vectors_same (x ∷ xs) (y ∷ ys) v w same = go (λ more. vectors_same xs ys v.4 w.4 more) (cases_lt x.0.0 y.0.0) (cases_lt y.0.0 x.0.0)
  where
    rest : x.0.0 ≡ y.0.0 → (c : ℕ) → clock_of xs c ≡ clock_of ys c
    rest e c = elim (cases_lt x.0.0 c) [
      | inl lt ↦ sym (later_clock x xs c lt) ∙ same c ∙ later_clock y ys c (omega arith)
      | inr le ↦ sym (above_none xs c (each_weaker (λ later. x.0.0 < later.0.0) (λ later. c < later.0.0) (λ later more. omega arith) xs v.3))
          ∙ above_none ys c (each_weaker (λ later. y.0.0 < later.0.0) (λ later. c < later.0.0) (λ later more. omega arith) ys w.3)
    ]

    go : (((c : ℕ) → clock_of xs c ≡ clock_of ys c) → xs ≡ ys) → (x.0.0 < y.0.0) ⊎ (y.0.0 ≤ x.0.0) → (y.0.0 < x.0.0) ⊎ (x.0.0 ≤ y.0.0) → x ∷ xs ≡ y ∷ ys
    go more (inl lt) _ = absurd (not_less x y xs ys v w same lt)
    go more (inr le) (inl lt) = absurd (not_less y x ys xs w v (λ c. sym (same c)) lt)
    go more (inr le) (inr ge) =
        let e : x.0.0 ≡ y.0.0 = omega arith in
        let f : x.1 ≡ y.1 = sym (first_clock x xs) ∙ same x.0.0 ∙ ap (λ c. clock_of (y ∷ ys) c) e ∙ first_clock y ys in
        ap₂ (λ z zs. z ∷ zs) (entry_same x y e f) (more (rest e))
