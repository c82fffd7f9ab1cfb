-- A fact of every element: of parts of a list, and of a list with another element in it.
use Rattle.std.proofs.Common.{ℕ, zero, suc, ◌<◌, List, [], ◌∷◌, ◌++◌, length, get_or, set, take, drop, arith}
use Rattle.std.specs.List.{AllWithin}
use Rattle.std.specs.List.Sorted.{IsPermutation}
use Rattle.std.proofs.lemmas.List.Sorted.{All-permutation}
use Rattle.yd_words.specs.Each.{Each}

pub each_weaker : {X : Type 0} (P Q : X → Type 0) → ((x : X) → P x → Q x) → (xs : List X) → Each P xs → Each Q xs
each_weaker P Q f [] h = tt
each_weaker P Q f (x ∷ xs) h = (f x h.0, each_weaker P Q f xs h.1)

pub each_append : {X : Type 0} (P : X → Type 0) (xs ys : List X) → Each P xs → Each P ys → Each P (xs ++ ys)
each_append P [] ys h k = k
each_append P (x ∷ xs) ys h k = (h.0, each_append P xs ys h.1 k)

pub each_set : {X : Type 0} (P : X → Type 0) (xs : List X) (n : ℕ) (v : X) → Each P xs → P v → Each P (set xs n v)
each_set P [] n v h k = tt
each_set P (x ∷ xs) zero v h k = (k, h.1)
each_set P (x ∷ xs) (suc n) v h k = (h.0, each_set P xs n v h.1 k)

pub each_at : {X : Type 0} (P : X → Type 0) (xs : List X) (n : ℕ) (d : X) → Each P xs → n < length xs → P (get_or xs n d)
each_at P [] n d h lt = absurd (omega arith)
each_at P (x ∷ xs) zero d h lt = h.0
each_at P (x ∷ xs) (suc n) d h lt = each_at P xs n d h.1 (omega arith)

pub each_front : {X : Type 0} (P : X → Type 0) (xs : List X) (n : ℕ) → Each P xs → Each P (take n xs)
each_front P xs zero h = tt
each_front P [] (suc n) h = tt
each_front P (x ∷ xs) (suc n) h = (h.0, each_front P xs n h.1)

pub each_take : {X : Type 0} (P : X → Type 0) (xs : List X) (n : ℕ) → AllWithin P xs 0 n → Each P (take n xs)
each_take P xs zero h = tt
each_take P [] (suc n) h = tt
each_take P (x ∷ xs) (suc n) h = (h 0 x (omega arith) (omega arith), each_take P xs n (λ k d low lt. h (suc k) d (omega arith) (omega arith)))

each_all : {X : Type 0} (P : X → Type 0) (xs : List X) → AllWithin P xs 0 (length xs) → Each P xs
each_all P [] h = tt
each_all P (x ∷ xs) h = (h 0 x (omega arith) (omega arith), each_all P xs (λ k d low lt. h (suc k) d (omega arith) (omega arith)))

pub each_drop : {X : Type 0} (P : X → Type 0) (xs : List X) (n : ℕ) → AllWithin P xs n (length xs) → Each P (drop n xs)
each_drop P xs zero h = each_all P xs h
each_drop P [] (suc n) h = tt
each_drop P (x ∷ xs) (suc n) h = each_drop P xs n (λ k d low lt. h (suc k) d (omega arith) (omega arith))

pub each_permuted : {X : Type 0} (P : X → Type 0) (xs ys : List X) → IsPermutation xs ys → Each P xs → Each P ys
each_permuted P xs ys p h = each_all P ys (λ k d low lt. All-permutation P xs ys p (λ n e le. each_at P xs n e h le) k d lt)

pub each_both : {X : Type 0} (P Q R : X → Type 0) → ((x : X) → P x → Q x → R x) → (xs : List X) → Each P xs → Each Q xs → Each R xs
each_both P Q R f [] h k = tt
each_both P Q R f (x ∷ xs) h k = (f x h.0 k.0, each_both P Q R f xs h.1 k.1)
