-- What is put back: an entry after another, what was taken of the first runs, and the runs that were there.
use Rattle.std.proofs.Common.{◌≡◌, ℕ, zero, suc, ◌+◌, ◌<◌, true, List, [], ◌∷◌, ◌++◌, inl, inr, take, length, map, set, get_or, filter, refl, ap, ◌∙◌, arith, tests, nat_lt}
use Rattle.std.proofs.lemmas.Bool.{cases_Bool}
use Rattle.yd_ids.specs.declared.id.Client.{Client}
use Rattle.yd_words.specs.Each.{Each}
use Rattle.yd_words.proofs.EachLemmas.{each_weaker}
use Rattle.yd_ops.specs.declared.runs.Run.{Run}
use Rattle.yd_entries.specs.declared.entry.Entry.{Entry}
use Rattle.yd_entries.specs.Entries.{GrowBy, IsTakenOf, AreTaken, StaysOfFirst, is_of_first}
use Rattle.yd_received.specs.Received.{undone, is_below}

-- ---- one entry after another

-- the function is applied to so many elements from the front on
abbrev pub walked : {X : Type 0} → (X → X) → ℕ → List X → List X
walked f zero xs = xs
walked f (suc n) [] = []
walked f (suc n) (x ∷ xs) = f x ∷ walked f n xs

pub walked_all : {X : Type 0} (f : X → X) (xs : List X) → walked f (length xs) xs ≡ map f xs
walked_all f [] = refl
walked_all f (x ∷ xs) = ap (λ ys. f x ∷ ys) (walked_all f xs)

pub walked_length : {X : Type 0} (f : X → X) (n : ℕ) (xs : List X) → length (walked f n xs) ≡ length xs
walked_length f zero xs = refl
walked_length f (suc n) [] = refl
walked_length f (suc n) (x ∷ xs) = ap suc (walked_length f n xs)

-- the next element is as it was
pub walked_next : {X : Type 0} (f : X → X) (n : ℕ) (xs : List X) (d : X) → get_or (walked f n xs) n d ≡ get_or xs n d
walked_next f zero xs d = refl
walked_next f (suc n) [] d = refl
walked_next f (suc n) (x ∷ xs) d = walked_next f n xs d

walked_suc : {X : Type 0} (f : X → X) (n : ℕ) (xs : List X) (d : X) → n < length xs → set (walked f n xs) n (f (get_or xs n d)) ≡ walked f (suc n) xs
walked_suc f zero [] d lt = absurd (omega arith)
walked_suc f zero (x ∷ xs) d lt = refl
walked_suc f (suc n) [] d lt = absurd (omega arith)
walked_suc f (suc n) (x ∷ xs) d lt = ap (λ ys. f x ∷ ys) (walked_suc f n xs d (omega arith))

pub walked_more : {X : Type 0} (f : X → X) (n : ℕ) (xs seen : List X) (x d : X) → n < length xs → seen ≡ walked f n xs → x ≡ f (get_or xs n d) →
    set seen n x ≡ walked f (n + 1) xs
walked_more f n xs seen x d lt e is =
    let next : suc n ≡ n + 1 = omega arith in
    ap (λ ys. set ys n x) e ∙ ap (λ y. set (walked f n xs) n y) is ∙ walked_suc f n xs d lt ∙ ap (λ k. walked f k xs) next

-- ---- what was taken

pub undone_id : (vector : List (Client × ℕ)) (t : Entry) → (undone vector t).id ≡ t.id
undone_id vector t = elim (cases_Bool (is_below vector t.id)) [ inl e ↦ rw e refl | inr e ↦ rw e refl ]

pub filter-all : (n : ℕ) (ts : List Entry) → Each (λ t. is_of_first n t ≡ true) ts → filter (is_of_first n) ts ≡ ts
filter-all n [] each = refl
filter-all n (t ∷ ts) each = rw each.0 (ap (λ us. t ∷ us) (filter-all n ts each.1))

pub of_first : (runs : List Run) (ts : List Entry) → Each (IsTakenOf runs) ts → Each (λ t. is_of_first (length runs) t ≡ true) ts
of_first runs ts each = each_weaker (IsTakenOf runs) (λ t. is_of_first (length runs) t ≡ true) (λ t is. less t.run (length runs) is.run_there) ts each
  where
    less : (m n : ℕ) → m < n → nat_lt m n ≡ true
    less m n lt = grind (arith, tests)

-- what is there when runs and names that were added are taken away
pub front_back : {X : Type 0} (old new : List X) → GrowBy old new → take (length old) new ≡ old
front_back old new (more, e) = ap (take (length old)) e ∙ front old
  where
    front : (xs : List _) → take (length xs) (xs ++ more) ≡ xs
    front [] = refl
    front (x ∷ xs) = ap (λ ys. x ∷ ys) (front xs)

-- what was added is gone where the first runs are kept
pub first_back : (runs : List Run) (entries new : List Entry) (count : ℕ) → AreTaken runs entries → count ≡ length runs →
    StaysOfFirst (length runs) entries new → filter (is_of_first count) new ≡ entries
first_back runs entries new count are same stays =
    ap (λ n. filter (is_of_first n) new) same ∙ stays (length runs) (omega arith) ∙ filter-all (length runs) entries (of_first runs entries are.each)
