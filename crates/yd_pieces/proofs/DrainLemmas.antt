-- Elements in a row that are taken out: of a part of a list, and twice at one place.
use Rattle.std.proofs.Common.{◌≡◌, ℕ, suc, ◌+◌, ◌-◌, ◌<◌, ◌≤◌, List, [], ◌∷◌, ◌++◌, length, take, drop, set, get_or, sym, ap, ap₂, ◌∙◌, subst, arith}
use Rattle.std.specs.Prelude.{Vec, remove}
use Rattle.std.specs.List.{remove_range}
use Rattle.std.proofs.lemmas.List.{length-append, length-set, length-drop, length-take-le, take-append-le, drop-append-le, drop-drop, append_assoc, get_or-set_same}
use Rattle.yd_pieces.specs.Pieces.{joined}
use Rattle.yd_pieces.proofs.PieceLemmas.{joined_at, joined_set, joined_without}

-- of the first of two lists, and of the second
pub remove_range-left : {T : Type 0} (xs ys : List T) (a b : ℕ) → a ≤ b → b ≤ length xs → remove_range (xs ++ ys) a b ≡ remove_range xs a b ++ ys
remove_range-left xs ys a b le bound =
    ap₂ (λ us vs. us ++ vs) (take-append-le a xs ys (omega arith)) (drop-append-le b xs ys bound) ∙ sym (append_assoc (take a xs) (drop b xs) ys)

pub remove_range-right : {T : Type 0} (xs ys : List T) (a b : ℕ) → remove_range (xs ++ ys) (length xs + a) (length xs + b) ≡ xs ++ remove_range ys a b
remove_range-right [] ys a b = let e : 0 + a ≡ a = omega arith in let f : 0 + b ≡ b = omega arith in ap₂ (λ m n. remove_range ys m n) e f
remove_range-right (x ∷ xs) ys a b =
    let e : length (x ∷ xs) + a ≡ suc (length xs + a) = omega arith in
    let f : length (x ∷ xs) + b ≡ suc (length xs + b) = omega arith in
    ap₂ (λ m n. remove_range (x ∷ (xs ++ ys)) m n) e f ∙ ap (λ zs. x ∷ zs) (remove_range-right xs ys a b)

-- more at the same place
pub remove_range_more : {T : Type 0} (xs : List T) (from at n : ℕ) → from ≤ at → at ≤ length xs → remove_range (remove_range xs from at) from (from + n) ≡ remove_range xs from (at + n)
remove_range_more xs from at n le bound =
    let front : length (take from xs) ≡ from = length-take-le from xs (omega arith) in
    subst (λ k. remove_range (take from xs ++ drop at xs) k (k + n) ≡ take from xs ++ drop (at + n) xs) front
    (let z : length (take from xs) + 0 ≡ length (take from xs) = omega arith in
    ap (λ k. remove_range (take from xs ++ drop at xs) k (length (take from xs) + n)) (sym z) ∙ remove_range-right (take from xs) (drop at xs) 0 n ∙ ap (λ zs. take from xs ++ zs) (drop-drop n at xs))

module _ {T A : Type 0} where
  -- out of a piece
  pub joined_drained : (ps : List (Vec T A)) (i at n : ℕ) (p q : Vec T A) → i < length ps → p ≡ get_or ps i p → at + n ≤ length p.items → q.items ≡ remove_range p.items at (at + n) →
      joined (set ps i q) ≡ remove_range (joined ps) (length (joined (take i ps)) + at) (length (joined (take i ps)) + at + n)
  joined_drained ps i at n p q h read fits e =
      let front = joined (take i ps) in
      let back = joined (drop (i + 1) ps) in
      let place : length front + at + n ≡ length front + (at + n) = omega arith in
      joined_set ps i q h ∙ ap (λ xs. front ++ (xs ++ back)) e
      ∙ ap (λ xs. front ++ xs) (sym (remove_range-left p.items back at (at + n) (omega arith) fits))
      ∙ sym (remove_range-right front (p.items ++ back) at (at + n))
      ∙ ap (λ k. remove_range (front ++ (p.items ++ back)) (length front + at) k) (sym place)
      ∙ ap (λ xs. remove_range xs (length front + at) (length front + at + n)) (sym (joined_at ps i p h read))

  -- they stand within the whole
  pub drained_within : (ps : List (Vec T A)) (i at n : ℕ) (p : Vec T A) → i < length ps → p ≡ get_or ps i p → at + n ≤ length p.items → length (joined (take i ps)) + at + n ≤ length (joined ps)
  drained_within ps i at n p h read fits =
      let back = joined (drop (i + 1) ps) in
      omega (arith, fits, ap length (joined_at ps i p h read), length-append (joined (take i ps)) (p.items ++ back), length-append p.items back)

  -- a piece that lost all can go
  pub drained_whole : (ps : List (Vec T A)) (i at n : ℕ) (p q : Vec T A) → i < length ps → p ≡ get_or ps i p → at + n ≤ length p.items → q.items ≡ remove_range p.items at (at + n) → length q.items ≡ 0 →
      joined (remove (set ps i q) i) ≡ remove_range (joined ps) (length (joined (take i ps)) + at) (length (joined (take i ps)) + at + n)
  drained_whole ps i at n p q h read fits e none =
      joined_without (set ps i q) i q (omega (arith, h, length-set ps i q)) (sym (get_or-set_same ps i q q h)) none ∙ joined_drained ps i at n p q h read fits e

-- out of the pieces, and out of the last one
pub drain_first : {T : Type 0} (xs new ys : List T) (at n : ℕ) → new ≡ remove_range xs at (at + n) → at + n ≤ length xs → new ++ ys ≡ remove_range (xs ++ ys) at (at + n)
drain_first xs new ys at n e fits = ap (λ zs. zs ++ ys) e ∙ sym (remove_range-left xs ys at (at + n) (omega arith) fits)

pub drain_second : {T : Type 0} (xs ys new : List T) (start at n : ℕ) → start ≡ length xs → start ≤ at → new ≡ remove_range ys (at - start) (at - start + n) → xs ++ new ≡ remove_range (xs ++ ys) at (at + n)
drain_second xs ys new start at n s le e =
    let low : length xs + (at - start) ≡ at = omega arith in
    let high : length xs + (at - start + n) ≡ at + n = omega arith in
    ap (λ zs. xs ++ zs) e ∙ sym (remove_range-right xs ys (at - start) (at - start + n)) ∙ ap₂ (λ a b. remove_range (xs ++ ys) a b) low high

-- and as many fewer are left
pub length-remove_range : {T : Type 0} (xs : List T) (at n : ℕ) → at + n ≤ length xs → length (remove_range xs at (at + n)) + n ≡ length xs
length-remove_range xs at n fits = omega (arith, length-append (take at xs) (drop (at + n) xs), length-take-le at xs (omega arith), length-drop (at + n) xs)
