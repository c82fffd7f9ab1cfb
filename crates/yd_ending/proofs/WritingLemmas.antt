-- What a sink took so far, after one more call.
use Rattle.std.proofs.Common.{◌≡◌, ℕ, ◌+◌, ◌<◌, List, ◌++◌, length, take, drop, Option, Some, None, Result, Ok, Err, OnErr, OnOk, refl, sym, ap, ◌∙◌, append_assoc, arith}
use Rattle.std.proofs.Math.Seq.{take-append-add}
use Rattle.std.proofs.lemmas.List.{append-nil, length-append, take_at, take-append-drop, take-append-le}
use Rattle.yd_world.specs.Taken.{Takes}
use Rattle.yd_world.specs.declared.fault.Outage.{Outage}
use Rattle.yd_ending.specs.Writing.{TakesAll, TakesPart}

-- ---- lemmas for callers

-- what was taken is a part of the bytes, where a rest is left
pub part_of_all : (old new : Option (List ℕ)) (front rest bytes : List ℕ) → bytes ≡ front ++ rest → 0 < length rest → TakesAll old new front → TakesPart old new bytes
part_of_all None new front rest bytes parts left t = tt
part_of_all (Some old) None front rest bytes parts left t = absurd t
part_of_all (Some old) (Some new) front rest bytes parts left t = (
  length front,
  omega (arith, left, ap length parts, length-append front rest),
  t ∙ ap (λ (l : List ℕ). old ++ l) (sym (ap (take (length front)) parts ∙ take_at front rest (length front) refl)),
)

-- a call that failed took nothing more
pub same_after_err : {E : Type 0} (old now new : Option (List ℕ)) (front piece : List ℕ) (e : E) → TakesAll old now front → Takes {E = E} now new piece (Err e) → TakesAll old new front
same_after_err None now new front piece e t s = tt
same_after_err (Some old) None new front piece e t s = absurd t
same_after_err (Some old) (Some now) None front piece e t s = absurd s
same_after_err (Some old) (Some now) (Some new) front piece e t s = s ∙ t

-- a call that took no bytes
pub same_after_none : (old now new : Option (List ℕ)) (front piece : List ℕ) (count : ℕ) → count ≡ 0 → TakesAll old now front → Takes {E = Outage} now new piece (Ok count) → TakesAll old new front
same_after_none None now new front piece count none t s = tt
same_after_none (Some old) None new front piece count none t s = absurd t
same_after_none (Some old) (Some now) None front piece count none t s = absurd s
same_after_none (Some old) (Some now) (Some new) front piece count none t s = s ∙ ap (λ (n : ℕ). now ++ take n piece) none ∙ append-nil now ∙ t

-- a call took a front of its piece
pub more_after_ok : (old now new : Option (List ℕ)) (front piece : List ℕ) (count : ℕ) → TakesAll old now front → Takes {E = Outage} now new piece (Ok count) → TakesAll old new (front ++ take count piece)
more_after_ok None now new front piece count t s = tt
more_after_ok (Some old) None new front piece count t s = absurd t
more_after_ok (Some old) (Some now) None front piece count t s = absurd s
more_after_ok (Some old) (Some now) (Some new) front piece count t s = s ∙ ap (λ (l : List ℕ). l ++ take count piece) t ∙ append_assoc old front (take count piece)

-- the bytes in a longer front, and the shorter rest
pub parts_more : (bytes front rest : List ℕ) (count : ℕ) → bytes ≡ front ++ rest → bytes ≡ (front ++ take count rest) ++ drop count rest
parts_more bytes front rest count parts = parts ∙ ap (λ (l : List ℕ). front ++ l) (sym (take-append-drop count rest)) ∙ sym (append_assoc front (take count rest) (drop count rest))

-- a part of the first of two lists is a part of both
pub part_then : (old new : Option (List ℕ)) (xs ys : List ℕ) → TakesPart old new xs → TakesPart old new (xs ++ ys)
part_then None new xs ys t = tt
part_then (Some old) None xs ys t = absurd t
part_then (Some old) (Some new) xs ys t =
    (t.0, omega (arith, t.1, length-append xs ys), t.2 ∙ ap (λ (l : List ℕ). old ++ l) (sym (take-append-le t.0 xs ys (omega (arith, t.1)))))

-- all of the first list, and then a part of the second
pub then_part : (old now new : Option (List ℕ)) (xs ys : List ℕ) → TakesAll old now xs → TakesPart now new ys → TakesPart old new (xs ++ ys)
then_part None now new xs ys t p = tt
then_part (Some old) None new xs ys t p = absurd t
then_part (Some old) (Some now) None xs ys t p = absurd p
then_part (Some old) (Some now) (Some new) xs ys t p = (
  length xs + p.0,
  omega (arith, p.1, length-append xs ys),
  p.2 ∙ ap (λ (l : List ℕ). l ++ take p.0 ys) t ∙ append_assoc old xs (take p.0 ys) ∙ ap (λ (l : List ℕ). old ++ l) (sym (take-append-add xs ys p.0)),
)

-- all of both lists
pub then_all : (old now new : Option (List ℕ)) (xs ys : List ℕ) → TakesAll old now xs → TakesAll now new ys → TakesAll old new (xs ++ ys)
then_all None now new xs ys t f = tt
then_all (Some old) None new xs ys t f = absurd t
then_all (Some old) (Some now) None xs ys t f = absurd f
then_all (Some old) (Some now) (Some new) xs ys t f = f ∙ ap (λ (l : List ℕ). l ++ ys) t ∙ append_assoc old xs ys

-- what follows after an answer that is Ok
pub on_ok : {X E P Q : Type 0} (result : Result X E) → (P → Q) → OnOk result P → OnOk result Q
on_ok (Ok x) weaker p = weaker p
on_ok (Err e) weaker p = tt

-- and after one that is not
pub on_err : {X E P Q : Type 0} (result : Result X E) → (P → Q) → OnErr result P → OnErr result Q
on_err (Ok x) weaker p = tt
on_err (Err e) weaker p = weaker p

-- what holds, whatever the answer
pub if_err : {X E P : Type 0} (result : Result X E) → P → OnErr result P
if_err (Ok x) p = tt
if_err (Err e) p = p
