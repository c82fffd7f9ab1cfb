-- Elements that are kept, in each piece and in the whole.
use Rattle.std.proofs.Common.{◌≡◌, ℕ, suc, ◌+◌, ◌<◌, ◌≤◌, Bool, true, false, List, [], ◌∷◌, ◌++◌, length, take, drop, set, get_or, refl, sym, ap, ap₂, ◌∙◌, arith, tests}
use Rattle.std.specs.Prelude.{Vec, All, filter, not, nat_eq, cond, vec_len}
use Rattle.std.proofs.lemmas.List.{take_more_set, get_or-drop, drop-set-lt, drop-drop, append-nil, length-set, length-append, take_all}
use Rattle.std.proofs.lemmas.List.Elements.{All-nil, All-cons}
use Rattle.yd_pieces.specs.Pieces.{joined, IsFilled}
use Rattle.yd_pieces.proofs.PieceLemmas.{joined_more}
use Rattle.std.proofs.lemmas.List.Concat.{flat_map-append}

kept_first : {T : Type 0} (b : Bool) (x : T) (xs ys : List T) → cond b (x ∷ (xs ++ ys)) (xs ++ ys) ≡ cond b (x ∷ xs) xs ++ ys
kept_first true x xs ys = refl
kept_first false x xs ys = refl

filter-append : {T : Type 0} (p : T → Bool) (xs ys : List T) → filter p (xs ++ ys) ≡ filter p xs ++ filter p ys
filter-append p [] ys = refl
filter-append p (x ∷ xs) ys = ap (λ zs. cond (p x) (x ∷ zs) zs) (filter-append p xs ys) ∙ kept_first (p x) x (filter p xs) (filter p ys)

short_first : {T : Type 0} (b : Bool) (x : T) (xs : List T) (n : ℕ) → length xs ≤ n → length (cond b (x ∷ xs) xs) ≤ suc n
short_first true x xs n h = omega arith
short_first false x xs n h = omega arith

filter_short : {T : Type 0} (p : T → Bool) (xs : List T) → length (filter p xs) ≤ length xs
filter_short p [] = omega arith
filter_short p (x ∷ xs) = short_first (p x) x (filter p xs) (length xs) (filter_short p xs)

nothing : {T : Type 0} (xs : List T) → length xs ≡ 0 → xs ≡ []
nothing [] h = refl
nothing (x ∷ xs) h = absurd (omega (arith, h))

-- ---- lemmas for callers

-- what is kept of two lists, and how many that are
pub kept_both : {T : Type 0} (p : T → Bool) (xs ys kept last : List T) → kept ≡ filter p xs → last ≡ filter p ys → kept ++ last ≡ filter p (xs ++ ys)
kept_both p xs ys kept last a b = ap₂ (λ us vs. us ++ vs) a b ∙ sym (filter-append p xs ys)

pub kept_count : {T : Type 0} (p : T → Bool) (xs ys kept last : List T) → kept ≡ filter p xs → last ≡ filter p ys → length kept + length last ≤ length (xs ++ ys)
kept_count p xs ys kept last a b =
    omega (arith, ap length a, ap length b, filter_short p xs, filter_short p ys, length-append xs ys)

module _ {T A : Type 0} (p : T → Bool) where
  -- how far the pieces are gone through: of the first ones what passes is left, and the others are as they were
  abbrev pub IsKeptTo : List (Vec T A) → List (Vec T A) → ℕ → Type 0
  IsKeptTo olds ps i = (joined (take i ps) ≡ filter p (joined (take i olds))) × (drop i ps ≡ drop i olds) × (length ps ≡ length olds)

  -- one piece more
  pub kept_more : (olds ps : List (Vec T A)) (i : ℕ) (d q : Vec T A) → i < length ps → IsKeptTo olds ps i → d ≡ get_or ps i d → q.items ≡ filter p d.items → IsKeptTo olds (set ps i q) (i + 1)
  kept_more olds ps i d q lt h read e =
      let at : i + 0 ≡ i = omega arith in
      let was : d ≡ get_or olds i d = read ∙ sym (get_or-drop i ps 0 d ∙ ap (λ k. get_or ps k d) at) ∙ ap (λ xs. get_or xs 0 d) h.1 ∙ get_or-drop i olds 0 d ∙ ap (λ k. get_or olds k d) at in
      let here : filter p (joined (take (i + 1) olds)) ≡ filter p (joined (take i olds)) ++ filter p d.items =
      ap (filter p) (joined_more olds i d (omega (arith, lt, h.2))) ∙ filter-append p (joined (take i olds)) (get_or olds i d).items
      ∙ ap (λ (v : Vec T A). filter p (joined (take i olds)) ++ filter p v.items) (sym was) in
      let front : joined (take (i + 1) (set ps i q)) ≡ joined (take i ps) ++ q.items =
      ap joined (take_more_set ps i q lt) ∙ flat_map-append (λ (v : Vec T A). v.items) (take i ps) (q ∷ []) ∙ ap (λ xs. joined (take i ps) ++ xs) (append-nil q.items) in (
        front ∙ ap₂ (λ xs ys. xs ++ ys) h.0 e ∙ sym here,
        drop-set-lt (i + 1) ps i q (omega arith) ∙ sym (drop-drop 1 i ps) ∙ ap (drop 1) h.1 ∙ drop-drop 1 i olds,
        length-set ps i q ∙ h.2,
      )

  -- all pieces
  pub kept_all : (olds ps : List (Vec T A)) (i : ℕ) → length ps ≤ i → IsKeptTo olds ps i → joined ps ≡ filter p (joined olds)
  kept_all olds ps i le h = ap joined (sym (take_all i ps le)) ∙ h.0 ∙ ap (λ xs. filter p (joined xs)) (take_all i olds (omega (arith, le, h.2)))

module _ {T A : Type 0} where
  -- whether a piece has an element
  abbrev pub has_some : Vec T A → Bool
  has_some v = not (nat_eq (vec_len v) 0)

  joined_first : (b : Bool) (v : Vec T A) (xs : List T) (vs : List (Vec T A)) → has_some v ≡ b → joined vs ≡ xs → joined (cond b (v ∷ vs) vs) ≡ v.items ++ xs
  joined_first true v xs vs h e = ap (λ ys. v.items ++ ys) e
  joined_first false v xs vs h e = e ∙ ap (λ ys. ys ++ xs) (sym (nothing v.items (grind (arith, tests))))

  -- pieces without an element have none in the whole
  pub joined_filled : (ps : List (Vec T A)) → joined (filter has_some ps) ≡ joined ps
  joined_filled [] = refl
  joined_filled (v ∷ vs) = joined_first (has_some v) v (joined vs) (filter has_some vs) refl (joined_filled vs)

  filled_first : (b : Bool) (v : Vec T A) (vs : List (Vec T A)) → has_some v ≡ b → All IsFilled vs → All IsFilled (cond b (v ∷ vs) vs)
  filled_first true v vs h all = All-cons IsFilled v vs (grind (arith, tests)) all
  filled_first false v vs h all = all

  -- and the others have one
  pub all_filled : (ps : List (Vec T A)) → All IsFilled (filter has_some ps)
  all_filled [] = All-nil IsFilled
  all_filled (v ∷ vs) = filled_first (has_some v) v (filter has_some vs) refl (all_filled vs)
