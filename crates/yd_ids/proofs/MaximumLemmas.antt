-- State vectors: what their maximum has.
use Rattle.std.proofs.Common.{◌≡◌, ◌≢◌, ℕ, ◌<◌, max, Bool, true, false, cond, List, [], ◌∷◌, refl, sym, ap, ◌∙◌, subst, arith, nat_eq, nat_lt}
use Rattle.std.proofs.lemmas.Bool.{ltb-true, ltb-false, eqb-true, eqb-false, eq-eqb, ne_eqb}
use Rattle.yd_words.specs.Each.{Each}
use Rattle.yd_words.proofs.EachLemmas.{each_weaker}
use Rattle.yd_ids.specs.declared.id.Client.{Client}
use Rattle.yd_ids.specs.Id.{IsClient, IsClock}
use Rattle.yd_ids.specs.Vector.{clock_of, IsVector, RaisesOnly, with_clock, maximum_of}
use Rattle.yd_ids.proofs.VectorLemmas.{vectors_same, above_none, Entry}

-- ---- one clock more

no_clock : (k n : ℕ) → nat_eq n 0 ≡ true → k ≡ max k n
no_clock k n e = omega (arith, eqb-true n 0 e)

pub with_this : (e : Entry) (xs : List Entry) → IsVector xs → clock_of (with_clock e xs) e.0.0 ≡ max (clock_of xs e.0.0) e.1
with_this e [] v = go (nat_eq e.1 0) refl
  where
    go : (z : Bool) → nat_eq e.1 0 ≡ z → clock_of (cond z [] (e ∷ [])) e.0.0 ≡ max 0 e.1
    go true z = no_clock 0 e.1 z
    go false z = rw (eq-eqb e.0.0 e.0.0 refl) (omega arith)
with_this e (x ∷ xs) v = go (nat_eq e.1 0) refl (nat_lt e.0.0 x.0.0) refl (nat_eq e.0.0 x.0.0) refl (with_this e xs v.4)
  where
    go : (z : Bool) → nat_eq e.1 0 ≡ z → (p : Bool) → nat_lt e.0.0 x.0.0 ≡ p → (q : Bool) → nat_eq e.0.0 x.0.0 ≡ q → clock_of (with_clock e xs) e.0.0 ≡ max (clock_of xs e.0.0) e.1 →
        clock_of (cond z (x ∷ xs) (cond p (e ∷ x ∷ xs) (cond q ((x.0, max x.1 e.1) ∷ xs) (x ∷ with_clock e xs)))) e.0.0 ≡ max (clock_of (x ∷ xs) e.0.0) e.1
    go true z p f q g h = no_clock (clock_of (x ∷ xs) e.0.0) e.1 z
    go false z true f q g h =
        let lt = ltb-true e.0.0 x.0.0 f in
        let none = above_none (x ∷ xs) e.0.0 (lt, each_weaker (λ later. x.0.0 < later.0.0) (λ later. e.0.0 < later.0.0) (λ later more. omega arith) xs v.3) in
        rw (eq-eqb e.0.0 e.0.0 refl) (omega arith)
    go false z false f true g h = rw (eq-eqb x.0.0 e.0.0 (sym (eqb-true e.0.0 x.0.0 g)))
    go false z false f false g h = let ne = eqb-false e.0.0 x.0.0 g in rw (ne_eqb x.0.0 e.0.0 (λ s. ne (sym s))) h

pub with_other : (e : Entry) (xs : List Entry) (c : ℕ) → c ≢ e.0.0 → clock_of (with_clock e xs) c ≡ clock_of xs c
with_other e [] c ne = go (nat_eq e.1 0)
  where
    go : (z : Bool) → clock_of (cond z [] (e ∷ [])) c ≡ 0
    go true = refl
    go false = rw (ne_eqb e.0.0 c (λ s. ne (sym s)))
with_other e (x ∷ xs) c ne = go (nat_eq e.1 0) (nat_lt e.0.0 x.0.0) (nat_eq e.0.0 x.0.0) refl (with_other e xs c ne)
  where
    go : (z p q : Bool) → nat_eq e.0.0 x.0.0 ≡ q → clock_of (with_clock e xs) c ≡ clock_of xs c →
        clock_of (cond z (x ∷ xs) (cond p (e ∷ x ∷ xs) (cond q ((x.0, max x.1 e.1) ∷ xs) (x ∷ with_clock e xs)))) c ≡ clock_of (x ∷ xs) c
    go true p q g h = refl
    go false true q g h = rw (ne_eqb e.0.0 c (λ s. ne (sym s)))
    go false false true g h = rw (ne_eqb x.0.0 c (λ s. ne (sym s ∙ sym (eqb-true e.0.0 x.0.0 g))))
    go false false false g h = ap (λ k. cond (nat_eq x.0.0 c) x.1 k) h

each_with : (P : Entry → Type 0) (e : Entry) (xs : List Entry) → ((f g : Entry) → f.0.0 ≡ g.0.0 → P f → P g) → P e → Each P xs → Each P (with_clock e xs)
each_with P e [] same p h = go (nat_eq e.1 0)
  where
    go : (z : Bool) → Each P (cond z [] (e ∷ []))
    go true = tt
    go false = (p, tt)
each_with P e (x ∷ xs) same p h = go (nat_eq e.1 0) (nat_lt e.0.0 x.0.0) (nat_eq e.0.0 x.0.0) (each_with P e xs same p h.1)
  where
    go : (z a b : Bool) → Each P (with_clock e xs) → Each P (cond z (x ∷ xs) (cond a (e ∷ x ∷ xs) (cond b ((x.0, max x.1 e.1) ∷ xs) (x ∷ with_clock e xs))))
    go true a b k = h
    go false true b k = (p, h)
    go false false true k = (same x (x.0, max x.1 e.1) refl h.0, h.1)
    go false false false k = (h.0, k)

pub with_vector : (e : Entry) (xs : List Entry) → IsClient e.0 → IsClock e.1 → IsVector xs → IsVector (with_clock e xs)
with_vector e [] client clock v = go (nat_eq e.1 0) refl
  where
    go : (z : Bool) → nat_eq e.1 0 ≡ z → IsVector (cond z [] (e ∷ []))
    go true z = tt
    go false z = (client, omega (arith, eqb-false e.1 0 z), clock, tt, tt)
with_vector e (x ∷ xs) client clock v = go (nat_eq e.1 0) refl (nat_lt e.0.0 x.0.0) refl (nat_eq e.0.0 x.0.0) refl (with_vector e xs client clock v.4)
  where
    go : (z : Bool) → nat_eq e.1 0 ≡ z → (p : Bool) → nat_lt e.0.0 x.0.0 ≡ p → (q : Bool) → nat_eq e.0.0 x.0.0 ≡ q → IsVector (with_clock e xs) →
        IsVector (cond z (x ∷ xs) (cond p (e ∷ x ∷ xs) (cond q ((x.0, max x.1 e.1) ∷ xs) (x ∷ with_clock e xs))))
    go true z p f q g h = v
    go false z true f q g h =
        let lt = ltb-true e.0.0 x.0.0 f in
        (client, omega (arith, eqb-false e.1 0 z), clock, (lt, each_weaker (λ later. x.0.0 < later.0.0) (λ later. e.0.0 < later.0.0) (λ later more. omega arith) xs v.3), v)
    go false z false f true g h = let a = v.1 in let b = v.2 in (v.0, omega arith, omega arith, v.3, v.4)
    go false z false f false g h =
        let ge = ltb-false e.0.0 x.0.0 f in
        let ne = eqb-false e.0.0 x.0.0 g in
        (v.0, v.1, v.2, each_with (λ later. x.0.0 < later.0.0) e xs (λ f g s lt. omega arith) (omega arith) v.3, h)

-- ---- the maximum

pub maximum_vector : (ls rs : List Entry) → IsVector ls → IsVector rs → IsVector (maximum_of ls rs)
maximum_vector [] rs v w = w
maximum_vector (a ∷ ls) rs v w = maximum_vector ls (with_clock a rs) v.4 (with_vector a rs v.0 v.2 w)

pub maximum_clocks : (ls rs : List Entry) (c : ℕ) → IsVector ls → IsVector rs → clock_of (maximum_of ls rs) c ≡ max (clock_of ls c) (clock_of rs c)
maximum_clocks [] rs c v w = omega arith
maximum_clocks (a ∷ ls) rs c v w = go (nat_eq a.0.0 c) refl (maximum_clocks ls (with_clock a rs) c v.4 (with_vector a rs v.0 v.2 w))
  where
    go : (t : Bool) → nat_eq a.0.0 c ≡ t → clock_of (maximum_of ls (with_clock a rs)) c ≡ max (clock_of ls c) (clock_of (with_clock a rs) c) →
        clock_of (maximum_of ls (with_clock a rs)) c ≡ max (cond t a.1 (clock_of ls c)) (clock_of rs c)
    go true e h =
        let here : a.0.0 ≡ c = eqb-true a.0.0 c e in
        let none = above_none ls c (each_weaker (λ later. a.0.0 < later.0.0) (λ later. c < later.0.0) (λ later more. omega arith) ls v.3) in
        let this : clock_of (with_clock a rs) c ≡ max (clock_of rs c) a.1 = subst (λ z. clock_of (with_clock a rs) z ≡ max (clock_of rs z) a.1) here (with_this a rs w) in
        omega arith
    go false e h =
        let other = with_other a rs c (λ s. eqb-false a.0.0 c e (sym s)) in
        omega arith

-- ---- lemmas for callers

-- a vector that has the greater clocks of both is their maximum
pub maximum_alone : (ls ks rs : List Entry) → IsVector ls → IsVector ks → IsVector rs → ((c : ℕ) → clock_of ks c ≡ max (clock_of ls c) (clock_of rs c)) → ks ≡ maximum_of ls rs
maximum_alone ls ks rs v w x h = vectors_same ks (maximum_of ls rs) w (maximum_vector ls rs v x) (λ c. h c ∙ sym (maximum_clocks ls rs c v x))

pub maximum_commutes : (ls rs : List Entry) → IsVector ls → IsVector rs → maximum_of ls rs ≡ maximum_of rs ls
maximum_commutes ls rs v w = maximum_alone rs (maximum_of ls rs) ls w (maximum_vector ls rs v w) v (λ c. let h = maximum_clocks ls rs c v w in omega arith)

pub maximum_again : (ls : List Entry) → IsVector ls → maximum_of ls ls ≡ ls
maximum_again ls v = sym (maximum_alone ls ls ls v v v (λ c. omega arith))

pub maximum_groups : (ls rs ks : List Entry) → IsVector ls → IsVector rs → IsVector ks → maximum_of (maximum_of ls rs) ks ≡ maximum_of ls (maximum_of rs ks)
maximum_groups ls rs ks v w x =
    maximum_alone ls (maximum_of (maximum_of ls rs) ks) (maximum_of rs ks) v (maximum_vector (maximum_of ls rs) ks (maximum_vector ls rs v w) x) (maximum_vector rs ks w x) (λ c.
    let f = maximum_clocks (maximum_of ls rs) ks c (maximum_vector ls rs v w) x in
    let g = maximum_clocks ls rs c v w in
    let h = maximum_clocks rs ks c w x in
    omega arith)

-- a vector that differs from another in one raised clock
pub raise_alone : (old new : List Entry) (client : Client) (clock : ℕ) → IsVector old → IsVector new → IsClient client → IsClock clock → RaisesOnly old new client.0 clock → new ≡ with_clock (client, clock) old
raise_alone old new client clock v w is bound r = vectors_same new (with_clock (client, clock) old) w (with_vector (client, clock) old is bound v) (λ c. go c (nat_eq client.0 c) refl)
  where
    go : (c : ℕ) (t : Bool) → nat_eq client.0 c ≡ t → clock_of new c ≡ clock_of (with_clock (client, clock) old) c
    go c true e = subst (λ z. clock_of new z ≡ clock_of (with_clock (client, clock) old) z) (eqb-true client.0 c e) (r.this_client ∙ sym (with_this (client, clock) old v))
    go c false e = let ne = λ (s : c ≡ client.0). eqb-false client.0 c e (sym s) in r.other_clients c ne ∙ sym (with_other (client, clock) old c ne)

pub raise_one : (old : List Entry) (client : Client) (clock : ℕ) → IsVector old → IsClient client → 0 < clock → IsClock clock → with_clock (client, clock) old ≡ maximum_of old ((client, clock) ∷ [])
raise_one old client clock v is some bound = maximum_commutes ((client, clock) ∷ []) old (is, some, bound, tt, tt) v

pub raise_none : (old : List Entry) (client : Client) → with_clock (client, 0) old ≡ old
raise_none [] client = refl
raise_none (x ∷ xs) client = refl

-- one clock more, at any client
with_clocks : (e : Entry) (xs : List Entry) (c : ℕ) → IsVector xs → clock_of (with_clock e xs) c ≡ max (clock_of xs c) (clock_of (e ∷ []) c)
with_clocks e xs c v = go (nat_eq e.0.0 c) refl
  where
    go : (t : Bool) → nat_eq e.0.0 c ≡ t → clock_of (with_clock e xs) c ≡ max (clock_of xs c) (cond t e.1 0)
    go true f = subst (λ z. clock_of (with_clock e xs) z ≡ max (clock_of xs z) e.1) (eqb-true e.0.0 c f) (with_this e xs v)
    go false f = let same = with_other e xs c (λ s. eqb-false e.0.0 c f (sym s)) in omega arith

pub raises_commute : (old : List Entry) (e f : Entry) → IsVector old → IsClient e.0 → IsClock e.1 → IsClient f.0 → IsClock f.1 → with_clock e (with_clock f old) ≡ with_clock f (with_clock e old)
raises_commute old e f v ec ek fc fk =
    let with_e = with_vector e old ec ek v in
    let with_f = with_vector f old fc fk v in
    vectors_same (with_clock e (with_clock f old)) (with_clock f (with_clock e old)) (with_vector e (with_clock f old) ec ek with_f) (with_vector f (with_clock e old) fc fk with_e) (λ c.
    let a = with_clocks e (with_clock f old) c with_f in
    let b = with_clocks f old c v in
    let p = with_clocks f (with_clock e old) c with_e in
    let q = with_clocks e old c v in
    three (clock_of old c) (clock_of (e ∷ []) c) (clock_of (f ∷ []) c) _ _ _ _ a b p q)
  where
    three : (x y z a b p q : ℕ) → a ≡ max b y → b ≡ max x z → p ≡ max q z → q ≡ max x y → a ≡ p
    three x y z a b p q h i j k = omega arith
