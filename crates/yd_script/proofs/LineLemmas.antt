-- The first line of a text, and the others.
use Rattle.std.proofs.Common.{arith, ◌≡◌, ◌≢◌, ◌∙◌, ℕ, suc, ◌+◌, ◌<◌, List, [], ◌∷◌, length, take, drop, Bool, true, false, not, cond, refl, sym, ap}
use Rattle.std.specs.Prelude.{◌==◌, if◌then◌else◌}
use Rattle.std.specs.List.{position_or_len, before_first, after_first}
use Rattle.yd_script.specs.Lines.{line_feed, lines_of, with_byte}

-- a cut that is one further, in a text with one byte more
one_further : (b : ℕ) (bs : List ℕ) (n : ℕ) → take (1 + n) (b ∷ bs) ∷ lines_of (drop (1 + n + 1) (b ∷ bs)) ≡ (b ∷ take n bs) ∷ lines_of (drop (n + 1) bs)
one_further b bs n =
    let next : 1 + n ≡ suc n = grind arith in
    let behind : 1 + n + 1 ≡ suc (n + 1) = grind arith in
    ap (λ (m : ℕ). take m (b ∷ bs) ∷ lines_of (drop (1 + n + 1) (b ∷ bs))) next ∙ ap (λ (m : ℕ). (b ∷ take n bs) ∷ lines_of (drop m (b ∷ bs))) behind

-- a text with a line feed has the line before the first, and then the lines behind it
pub line_before_feed : (bs : List ℕ) → position_or_len (λ b. b == line_feed) bs < length bs → lines_of bs ≡ before_first (λ b. b == line_feed) bs ∷ lines_of (after_first (λ b. b == line_feed) bs)
line_before_feed [] few = absurd (grind arith)
line_before_feed (b ∷ bs) few = by_test (line_before_feed bs) (b == line_feed) few
  where
    by_test : (position_or_len (λ c. c == line_feed) bs < length bs → lines_of bs ≡ before_first (λ c. c == line_feed) bs ∷ lines_of (after_first (λ c. c == line_feed) bs))
        → (test : Bool) → cond (not test) (1 + position_or_len (λ c. c == line_feed) bs) 0 < length (b ∷ bs)
        → (if test then [] ∷ lines_of bs else with_byte b (lines_of bs)) ≡ take (cond (not test) (1 + position_or_len (λ c. c == line_feed) bs) 0) (b ∷ bs) ∷ lines_of (drop (cond (not test) (1 + position_or_len (λ c. c == line_feed) bs) 0 + 1) (b ∷ bs))
    by_test rest true few = refl
    by_test rest false few = ap (with_byte b) (rest (grind (arith, few))) ∙ sym (one_further b bs (position_or_len (λ c. c == line_feed) bs))

-- the same of the two parts, by what they are
pub cut_at_feed : (bs line rest : List ℕ) → (line ≡ before_first (λ b. b == line_feed) bs) × (rest ≡ after_first (λ b. b == line_feed) bs) × (position_or_len (λ b. b == line_feed) bs < length bs) → lines_of bs ≡ line ∷ lines_of rest
cut_at_feed bs line rest (is, behind, few) = line_before_feed bs few ∙ sym (ap (λ (l : List ℕ). l ∷ lines_of rest) is ∙ ap (λ (r : List ℕ). before_first (λ b. b == line_feed) bs ∷ lines_of r) behind)

-- a text without one is a line
pub line_without_feed : (bs : List ℕ) → bs ≢ [] → position_or_len (λ b. b == line_feed) bs ≡ length bs → lines_of bs ≡ bs ∷ []
line_without_feed [] some all = absurd (some refl)
line_without_feed (b ∷ bs) some all = by_test (line_without_feed bs) (b == line_feed) all
  where
    by_rest : (rest : List ℕ) → (rest ≢ [] → position_or_len (λ c. c == line_feed) rest ≡ length rest → lines_of rest ≡ rest ∷ []) → position_or_len (λ c. c == line_feed) rest ≡ length rest → with_byte b (lines_of rest) ≡ (b ∷ rest) ∷ []
    by_rest [] line all = refl
    by_rest (c ∷ cs) line all = ap (with_byte b) (line (λ e. absurd cc) all)

    by_test : (bs ≢ [] → position_or_len (λ c. c == line_feed) bs ≡ length bs → lines_of bs ≡ bs ∷ [])
        → (test : Bool) → cond (not test) (1 + position_or_len (λ c. c == line_feed) bs) 0 ≡ length (b ∷ bs)
        → (if test then [] ∷ lines_of bs else with_byte b (lines_of bs)) ≡ (b ∷ bs) ∷ []
    by_test line true all = absurd (grind (arith, all))
    by_test line false all = by_rest bs line (grind (arith, all))
