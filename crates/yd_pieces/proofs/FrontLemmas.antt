-- The element in front of a place in a list in pieces.
use Rattle.std.proofs.Common.{◌≡◌, ℕ, zero, suc, ◌+◌, ◌-◌, ◌<◌, ◌≤◌, Bool, true, List, [], ◌∷◌, ◌++◌, Option, Some, length, take, drop, get_or, refl, sym, ap, ◌∙◌, subst, arith}
use Rattle.std.specs.Prelude.{Vec, All, HoldsAt, slice_get}
use Rattle.std.proofs.lemmas.List.{length-append, take_all, append_assoc, get_or-append-add}
use Rattle.std.proofs.lemmas.Option.{slice_get_within, get_or_from_slice_get}
use Rattle.yd_pieces.specs.Pieces.{joined, ends_with, in_front, IsFilled, IsBoundary, IsLastPassed}
use Rattle.yd_pieces.proofs.PieceLemmas.{joined_more, joined_at}
use Rattle.yd_pieces.proofs.PointLemmas.{point_bound, point_within, point_last}

module _ {T : Type 0} where
  get_left : (xs ys : List T) (k : ℕ) → k < length xs → slice_get (xs ++ ys) k ≡ slice_get xs k
  get_left [] ys k h = absurd (omega arith)
  get_left (x ∷ xs) ys zero h = refl
  get_left (x ∷ xs) ys (suc k) h = get_left xs ys k (omega arith)

  get_right : (xs ys : List T) (k : ℕ) → slice_get (xs ++ ys) (length xs + k) ≡ slice_get ys k
  get_right [] ys k = ap (slice_get ys) (omega arith)
  get_right (x ∷ xs) ys k = let place : length (x ∷ xs) + k ≡ suc (length xs + k) = omega arith in ap (slice_get (x ∷ (xs ++ ys))) place ∙ get_right xs ys k

  -- a place in the first of two lists, and one in the second
  front_left : (xs ys : List T) (n : ℕ) → n ≤ length xs → in_front (xs ++ ys) n ≡ in_front xs n
  front_left xs ys zero h = refl
  front_left xs ys (suc n) h = get_left xs ys n (omega arith)

  front_right : (xs ys : List T) (n : ℕ) → 0 < n → in_front (xs ++ ys) (length xs + n) ≡ slice_get ys (n - 1)
  front_right xs ys n pos =
      let place : length xs + n ≡ suc (length xs + (n - 1)) = omega (arith, pos) in
      ap (in_front (xs ++ ys)) place ∙ get_right xs ys (n - 1)

-- in front of the start of a list there is the last element of the last piece before it
pub front_before : {T A : Type 0} (ps : List (Vec T A)) (ys : List T) (n : ℕ) (v : Vec T A) → All IsFilled ps → n ≤ 0 → Some v ≡ slice_get ps (length ps - 1) →
    slice_get v.items (length v.items - 1) ≡ in_front (joined ps ++ ys) (length (joined ps) + n)
front_before {T} {A} ps ys n v filled none e =
    let j = length ps - 1 in
    let lt : j < length ps = slice_get_within ps j v (sym e) in
    let is : get_or ps j v ≡ v = get_or_from_slice_get ps j v v (sym e) in
    let some : 0 < length v.items = subst (λ (q : Vec T A). 0 < length q.items) is (filled j v lt) in
    let front = joined (take j ps) in
    let whole : joined ps ≡ front ++ v.items =
    ap joined (sym (take_all (j + 1) ps (omega (arith, lt)))) ∙ joined_more ps j v lt ∙ ap (λ (q : Vec T A). front ++ q.items) is in
    let place : length (joined ps) + n ≡ length front + length v.items = omega (arith, none, ap length whole, length-append front v.items) in
    sym (ap (in_front (joined ps ++ ys)) place ∙ front_left (joined ps) ys (length front + length v.items) (omega (arith, place))
    ∙ ap (λ xs. in_front xs (length front + length v.items)) whole ∙ front_right front v.items (length v.items) some)

module _ {T A : Type 0} (p : T → Bool) (ps : List (Vec T A)) (last : List T) (filled : All IsFilled ps) (i k : ℕ) (boundary : IsBoundary (ends_with p) ps i) (found : Option T) where
  -- what stands in front of a boundary in the first piece whose end does not pass
  pub front_within : (v : Vec T A) → i < length ps → v ≡ get_or ps i v → k ≤ length v.items → IsBoundary p v.items k →
      found ≡ in_front (joined (take i ps) ++ v.items) (length (joined (take i ps)) + k) → IsLastPassed p (joined ps ++ last) found
  front_within v lt read le inner e =
      let front = joined (take i ps) in
      let rest = joined (drop (i + 1) ps) in
      let whole : joined ps ++ last ≡ (front ++ v.items) ++ (rest ++ last) =
      ap (λ xs. xs ++ last) (joined_at ps i v lt read ∙ sym (append_assoc front v.items rest)) ∙ append_assoc (front ++ v.items) rest last in
      let at : length front + k ≤ length (front ++ v.items) = omega (arith, le, length-append front v.items) in
      record {
        place = length front + k;
        bound = point_bound p ps last filled i k (length front) v lt read refl le;
        boundary = point_within p ps last filled i k (length front) v lt read boundary refl le inner;
        element = e ∙ sym (ap (λ xs. in_front xs (length front + k)) whole ∙ front_left (front ++ v.items) (rest ++ last) (length front + k) at);
      }

  -- and in the last piece, where all others pass
  pub front_last : i ≤ length ps → length ps ≤ i → k ≤ length last → IsBoundary p last k → found ≡ in_front (joined ps ++ last) (length (joined ps) + k) → IsLastPassed p (joined ps ++ last) found
  front_last le ge fits inner e = record {
    place = length (joined ps) + k;
    bound = omega (arith, fits, length-append (joined ps) last);
    boundary = point_last p ps last filled i k (length (joined ps)) le ge boundary (ap (λ qs. length (joined qs)) (sym (take_all i ps ge))) inner;
    element = e;
  }

-- where the last element of all passes, the end is a boundary
pub end_boundary : {T : Type 0} (p : T → Bool) (front last : List T) (before : ℕ) → before ≡ length front → (0 < length last) × HoldsAt (λ y. p y ≡ true) last (length last - 1) →
    IsBoundary p (front ++ last) (before + length last)
end_boundary {T} p front last before is h = subst (λ n. IsBoundary p (front ++ last) (n + length last)) (sym is) (passes, λ lt. absurd (omega (arith, lt, length-append front last)))
  where
    place : length front + length last - 1 ≡ length front + (length last - 1)
    place = omega (arith, h.0)

    passes : 0 < length front + length last → HoldsAt (λ y. p y ≡ true) (front ++ last) (length front + length last - 1)
    passes pos d = ap (λ k. p (get_or (front ++ last) k d)) place ∙ ap p (get_or-append-add front last (length last - 1) d) ∙ h.1 d

-- and it is in front of the end
pub front_end : {T : Type 0} (p : T → Bool) (front last : List T) (found : Option T) → (0 < length last) × HoldsAt (λ y. p y ≡ true) last (length last - 1) → found ≡ slice_get last (length last - 1) →
    IsLastPassed p (front ++ last) found
front_end p front last found h e = record {
  place = length front + length last;
  bound = omega (arith, length-append front last);
  boundary = end_boundary p front last (length front) refl h;
  element = e ∙ sym (front_right front last (length last) h.0);
}
