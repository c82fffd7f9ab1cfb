-- The stretches of each list with a mark, as they are gathered one entry after another.
use Rattle.std.proofs.Common.{◌≡◌, ◌≢◌, ℕ, ◌<◌, Bool, true, false, List, [], ◌∷◌, ◌++◌, Some, zero, suc, length, map, set, get_or, replicate, refl, sym, ap, ◌∙◌, subst, arith, tests, true≢false}
use Rattle.std.specs.Prelude.{filter, if◌then◌else◌, nat_eq, slice_get}
use Rattle.std.specs.Global.{Vec}
use Rattle.std.proofs.lemmas.List.{map-append, length-replicate, append-nil}
use Rattle.std.proofs.lemmas.List.Elements.{filter-append}
use Rattle.yd_order.specs.declared.stretch.Stretch.{Stretch}
use Rattle.yd_entries.specs.declared.entry.Entry.{Entry}
use Rattle.yd_entries.specs.declared.place.Place.{Place}
use Rattle.yd_entries.specs.declared.place.Place.TheVariants.{Waits, Lost, In}
use Rattle.yd_received.specs.Received.{with_place}
use Rattle.yd_held.specs.Numbered.{is_in_list}
use Rattle.yd_stretches.specs.Stretches.{stretch_of, stretches_in, stretch_lists, with_last, AreGathered}

-- ---- lists with one more

length-with_last : {X : Type 0} (n : ℕ) (x : X) (lists : List (List X)) → length (with_last n x lists) ≡ length lists
length-with_last n x [] = refl
length-with_last zero x (list ∷ lists) = refl
length-with_last (suc n) x (list ∷ lists) = ap suc (length-with_last n x lists)

with_last-same : {X : Type 0} (n : ℕ) (x : X) (lists : List (List X)) (list : List X) → slice_get lists n ≡ Some list → slice_get (with_last n x lists) n ≡ Some (list ++ x ∷ [])
with_last-same n x [] list e = cc
with_last-same {X} zero x (l ∷ ls) list e = let same : l ≡ list = cc in ap (λ (k : List X). Some (k ++ x ∷ [])) same
with_last-same (suc n) x (l ∷ ls) list e = with_last-same n x ls list e

with_last-other : {X : Type 0} (n m : ℕ) (x : X) (lists : List (List X)) → n ≢ m → slice_get (with_last n x lists) m ≡ slice_get lists m
with_last-other n m x [] ne = refl
with_last-other zero zero x (l ∷ ls) ne = absurd (ne refl)
with_last-other zero (suc m) x (l ∷ ls) ne = refl
with_last-other (suc n) zero x (l ∷ ls) ne = refl
with_last-other (suc n) (suc m) x (l ∷ ls) ne = with_last-other n m x ls (λ e. ne (ap suc e))

-- ---- one entry more

stretches_in-more : (m : ℕ) (seen : List Entry) (t : Entry) → stretches_in m (seen ++ t ∷ []) ≡ stretches_in m seen ++ stretches_in m (t ∷ [])
stretches_in-more m seen t = ap (map stretch_of) (filter-append (is_in_list m) seen (t ∷ [])) ∙ map-append stretch_of (filter (is_in_list m) seen) (filter (is_in_list m) (t ∷ []))

stretches_in-one : (m : ℕ) (t : Entry) (u : Bool) → is_in_list m t ≡ u → stretches_in m (t ∷ []) ≡ (if u then stretch_of t ∷ [] else [])
stretches_in-one m t true e = rw e refl
stretches_in-one m t false e = rw e refl

-- an entry is in the list of its number, and in no other
in_list-own : (n : ℕ) (t : Entry) → t.place ≡ In n → is_in_list n t ≡ true
in_list-own n t e = rw e (grind (arith, tests))

in_list-is : (m : ℕ) (t : Entry) → is_in_list m t ≡ true → t.place ≡ In m
in_list-is m t = go t.place
  where
    go : (p : Place) → is_in_list m (with_place t p) ≡ true → p ≡ In m
    go Waits e = absurd (true≢false (sym e))
    go Lost e = absurd (true≢false (sym e))
    go (In n) e = let same : n ≡ m = grind (arith, tests) in ap In same

in_list-other : (m : ℕ) (t : Entry) → (t.place ≡ In m → ⊥) → is_in_list m t ≡ false
in_list-other m t other = go (is_in_list m t) refl
  where
    go : (u : Bool) → is_in_list m t ≡ u → u ≡ false
    go true e = absurd (other (in_list-is m t e))
    go false e = refl

-- ---- lemmas for callers

-- nothing is gathered at the start
pub gathered_none : (stale : List Bool) → AreGathered stale [] (replicate (length stale) [])
gathered_none stale = record { each = length-replicate (length stale) empty; gathered = none stale }
  where
    empty : List Stretch
    empty = []

    none : (marks : List Bool) (n : ℕ) → slice_get marks n ≡ Some true → slice_get (replicate (length marks) empty) n ≡ Some empty
    none [] n e = cc
    none (mark ∷ marks) zero e = refl
    none (mark ∷ marks) (suc n) e = none marks n e

-- the stretch of an entry is put behind those of its list
pub gathered_put : (stale : List Bool) (seen : List Entry) (t : Entry) (n : ℕ) (buckets : List (List Stretch)) → t.place ≡ In n →
    AreGathered stale seen buckets → AreGathered stale (seen ++ t ∷ []) (with_last n (stretch_of t) buckets)
gathered_put stale seen t n buckets is g = record { each = length-with_last n (stretch_of t) buckets ∙ g.each; gathered = go }
  where
    one_number : {m : ℕ} → ◌≡◌ {A = Place} (In n) (In m) → n ≡ m
    one_number e = cc

    go : (m : ℕ) → slice_get stale m ≡ Some true → slice_get (with_last n (stretch_of t) buckets) m ≡ Some (stretches_in m (seen ++ t ∷ []))
    go m marked = pick (nat_eq n m) refl
      where
        pick : (u : Bool) → nat_eq n m ≡ u → slice_get (with_last n (stretch_of t) buckets) m ≡ Some (stretches_in m (seen ++ t ∷ []))
        pick true e = let same : n ≡ m = grind (arith, tests) in
            subst (λ k. slice_get (with_last k (stretch_of t) buckets) m ≡ Some (stretches_in m (seen ++ t ∷ []))) (sym same)
            (with_last-same m (stretch_of t) buckets (stretches_in m seen) (g.gathered m marked)
            ∙ ap Some (sym (stretches_in-more m seen t ∙ ap (λ (k : List Stretch). stretches_in m seen ++ k) (stretches_in-one m t true (in_list-own m t (is ∙ ap In same))))))
        pick false e = let other : n ≢ m = λ (same : n ≡ m). grind (arith, tests) in
            with_last-other n m (stretch_of t) buckets other ∙ g.gathered m marked
            ∙ ap Some (sym (stretches_in-more m seen t
            ∙ ap (λ (k : List Stretch). stretches_in m seen ++ k) (stretches_in-one m t false (in_list-other m t (λ f. other (one_number (sym is ∙ f)))))
            ∙ append-nil (stretches_in m seen)))

-- an entry that is of no list with a mark adds nothing
pub gathered_skip : (stale : List Bool) (seen : List Entry) (t : Entry) (buckets : List (List Stretch)) →
    ((n : ℕ) → t.place ≡ In n → slice_get stale n ≡ Some true → ⊥) →
    AreGathered stale seen buckets → AreGathered stale (seen ++ t ∷ []) buckets
gathered_skip stale seen t buckets unmarked g = record {
  each = g.each;
  gathered = λ m marked. g.gathered m marked ∙ ap Some (sym (stretches_in-more m seen t
      ∙ ap (λ (k : List Stretch). stretches_in m seen ++ k) (stretches_in-one m t false (in_list-other m t (λ f. unmarked m f marked)))
      ∙ append-nil (stretches_in m seen)));
}

-- a vector with one more at its place
pub stretch_lists-put : (buckets : List (Vec Stretch)) (n : ℕ) (old new : Vec Stretch) (x : Stretch) → n < length buckets → old ≡ get_or buckets n old →
    new.items ≡ old.items ++ x ∷ [] → stretch_lists (set buckets n new) ≡ with_last n x (stretch_lists buckets)
stretch_lists-put [] n old new x lt e f = absurd (omega arith)
stretch_lists-put (b ∷ bs) zero old new x lt e f = ap (λ (k : List Stretch). k ∷ stretch_lists bs) (f ∙ ap (λ (v : Vec Stretch). v.items ++ x ∷ []) e)
stretch_lists-put (b ∷ bs) (suc n) old new x lt e f = ap (λ (k : List (List Stretch)). b.items ∷ k) (stretch_lists-put bs n old new x (omega arith) e f)

-- what is read at a place, as a function of it stands in the mapped list
pub map_at : {X Y : Type 0} (f : X → Y) (xs : List X) (n : ℕ) (x : X) (y : Y) → n < length xs → x ≡ get_or xs n x → y ≡ f x → slice_get (map f xs) n ≡ Some y
map_at f [] n x y lt e g = absurd (omega arith)
map_at f (z ∷ zs) zero x y lt e g = ap Some (sym (g ∙ ap f e))
map_at f (z ∷ zs) (suc n) x y lt e g = map_at f zs n x y (omega arith) e g
