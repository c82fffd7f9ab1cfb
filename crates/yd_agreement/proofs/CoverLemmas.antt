-- Covers: of runs in the order of their first ids, the one that ends last so far.
use Rattle.std.proofs.Common.{◌≡◌, ℕ, zero, suc, ◌+◌, ◌-◌, ◌<◌, ◌≤◌, true, false, List, [], ◌∷◌, ◌++◌, inl, inr, length, get_or, take, Bor, refl, sym, ap, ◌∙◌, subst, arith, tests, add-one}
use Rattle.std.proofs.lemmas.List.{get_or-map, length-map, take_more}
use Rattle.std.proofs.Math.ListN.{get_or-append}
use Rattle.std.proofs.Math.Seq.{get_or-append_seam}
use Rattle.yd_words.specs.Each.{Each}
use Rattle.yd_words.specs.Member.{IsIn}
use Rattle.yd_words.proofs.EachLemmas.{each_append, each_weaker}
use Rattle.yd_words.proofs.MemberLemmas.{each_in, in_left_part, in_right_part}
use Rattle.yd_words.proofs.TestLemmas.{split}
use Rattle.yd_ids.proofs.IdLemmas.{same_client}
use Rattle.yd_ops.specs.Value.{RunValue, len_of}
use Rattle.yd_ops.specs.View.{run_value}
use Rattle.yd_ops.specs.declared.runs.Run.{Run}
use Rattle.yd_agreement.specs.Runs.{ComesBy, EndsBy, IsCover, lent_runs}
use Rattle.yd_agreement.specs.Sweep.{HaveCovers, IsLater, ends_later}
use Rattle.yd_agreement.proofs.SpelledLemmas.{lent_with_last}
use Rattle.yd_agreement.proofs.OrderLemmas.{ends_itself, ends_through}

-- ---- the later of two

same_end : (r s : RunValue) → ends_later r s ≡ true → r.id.client.0 ≡ s.id.client.0
same_end r s e = grind (arith, tests)

later_end : (r s : RunValue) → ends_later r s ≡ true → s.id.clock + len_of s.content ≤ r.id.clock + len_of r.content
later_end r s e = grind (arith, tests)

no_later_end : (r s : RunValue) → ends_later r s ≡ false → r.id.client.0 ≡ s.id.client.0 → r.id.clock + len_of r.content ≤ s.id.clock + len_of s.content
no_later_end r s e same = grind (arith, tests)

pub first_later : (r s : RunValue) → ends_later r s ≡ true → IsLater r s r
first_later r s e = record { one = inl refl; first = ends_itself r; other = inr (sym (same_client r.id s.id (same_end r s e)), later_end r s e) }

pub other_later : (r s : RunValue) → ends_later r s ≡ false → ComesBy r.id s.id → IsLater r s s
other_later r s e (inl less) = record { one = inr refl; first = inl less; other = ends_itself s }
other_later r s e (inr (same, le)) = record { one = inr refl; first = inr (same, no_later_end r s e (ap (λ c. c.0) same)); other = ends_itself s }

-- ---- one more cover

pub cover_alone : (r : RunValue) → IsCover (r ∷ []) r
cover_alone r = record { there = inl refl; last = (ends_itself r, tt) }

cover_next : (rs : List RunValue) (cover next later : RunValue) → IsCover rs cover → IsLater cover next later → IsCover (rs ++ next ∷ []) later
cover_next rs cover next later is next_is = record {
  there = elim next_is.one [
    | inl e ↦ in_left_part later rs (next ∷ []) (subst (λ r. IsIn r rs) (sym e) is.there)
    | inr e ↦ in_right_part later rs (next ∷ []) (inl e)
  ];
  last = each_append (λ (r : RunValue). EndsBy r later) rs (next ∷ [])
      (each_weaker (λ (r : RunValue). EndsBy r cover) (λ (r : RunValue). EndsBy r later) (λ r ends. ends_through r cover later ends next_is.first) rs is.last)
      (next_is.other, tt);
}

pub no_covers : (runs : List RunValue) (covers : List RunValue) → covers ≡ [] → HaveCovers runs covers 0
no_covers runs covers none = record { count_is = ap length none; each = λ n d lt. absurd (omega (arith, lt)) }

pub covers_more : (runs old new : List RunValue) (k : ℕ) (cover : RunValue) → HaveCovers runs old k → new ≡ old ++ cover ∷ [] → IsCover (take (suc k) runs) cover →
    HaveCovers runs new (k + 1)
covers_more runs old new k cover so_far e is = subst (λ cs. HaveCovers runs cs (k + 1)) (sym e) (record { count_is = count old k so_far.count_is; each = each })
  where
    count : (cs : List RunValue) (m : ℕ) → length cs ≡ m → length (cs ++ cover ∷ []) ≡ m + 1
    count cs m same = go cs ∙ ap (λ (n : ℕ). n + 1) same
      where
        go : (ds : List RunValue) → length (ds ++ cover ∷ []) ≡ length ds + 1
        go [] = refl
        go (d ∷ ds) = let rest = go ds in omega (arith, rest)

    each : (n : ℕ) (d : RunValue) → n < k + 1 → IsCover (take (suc n) runs) (get_or (old ++ cover ∷ []) n d)
    each n d lt = elim (split k n) [
      | inl le ↦ let last : length old ≡ n = omega (arith, le, lt, so_far.count_is) in
          subst (λ r. IsCover (take (suc n) runs) r) (sym (ap (λ (m : ℕ). get_or (old ++ cover ∷ []) m d) (sym last) ∙ get_or-append_seam old cover [] d))
          (subst (λ (m : ℕ). IsCover (take (suc m) runs) cover) (omega (arith, le, lt)) is)
      | inr less ↦ subst (λ r. IsCover (take (suc n) runs) r) (sym (get_or-append old (cover ∷ []) d n (omega (arith, less, so_far.count_is)))) (so_far.each n d less)
    ]

-- the cover of the runs up to a place and the next one
pub cover_more : (runs : List RunValue) (k : ℕ) (d cover later : RunValue) → k < length runs → IsCover (take k runs) cover → IsLater cover (get_or runs k d) later →
    IsCover (take (suc k) runs) later
cover_more runs k d cover later lt is next_is = subst (λ rs. IsCover rs later) (sym (take_more runs k d lt) ∙ ap (λ (n : ℕ). take n runs) (add-one k))
    (cover_next (take k runs) cover
    (get_or runs k d) later is next_is)

-- ---- runs that are lent

-- what is lent at a place
pub lent_at : (runs : List (Bor Run)) (n : ℕ) (run : Bor Run) (d : RunValue) → n < length runs → run ≡ get_or runs n run → run_value run.now ≡ get_or (lent_runs runs) n d
lent_at runs n run d lt e = ap (λ (r : Bor Run). run_value r.now) e ∙ sym (get_or-map (λ (r : Bor Run). run_value r.now) runs n run d lt)

pub length-lent : (runs : List (Bor Run)) → length (lent_runs runs) ≡ length runs
length-lent runs = length-map runs (λ (r : Bor Run). run_value r.now)

in_place : (runs : List RunValue) (n : ℕ) (d : RunValue) → n < length runs → IsIn (get_or runs n d) runs
in_place [] n d lt = absurd (omega arith)
in_place (r ∷ rs) zero d lt = inl refl
in_place (r ∷ rs) (suc n) d lt = inr (in_place rs n d (omega arith))

pub in_front : (runs : List RunValue) (n : ℕ) (r : RunValue) → IsIn r (take n runs) → IsIn r runs
in_front runs zero r i = absurd i
in_front [] (suc n) r i = absurd i
in_front (s ∷ ss) (suc n) r (inl e) = inl e
in_front (s ∷ ss) (suc n) r (inr i) = inr (in_front ss n r i)

pub each_lent : (P : RunValue → Type 0) (runs : List (Bor Run)) (n : ℕ) (run : Bor Run) → Each P (lent_runs runs) → n < length runs → run ≡ get_or runs n run →
    P (run_value run.now)
each_lent P runs n run each lt e = subst P (sym (lent_at runs n run (run_value run.now) lt e))
    (each_in P (lent_runs runs) each (get_or (lent_runs runs) n (run_value run.now)) (in_place (lent_runs runs) n (run_value run.now) (omega (arith, lt, length-lent runs))))

-- ---- the cover that stands beside a run

pub cover_so_far : (runs covers : List (Bor Run)) (count k : ℕ) (cover : Bor Run) → HaveCovers (lent_runs runs) (lent_runs covers) count → 1 ≤ k → k ≤ count →
    cover ≡ get_or covers (k - 1) cover → IsCover (take k (lent_runs runs)) (run_value cover.now)
cover_so_far runs covers count k cover have some le e = subst (λ (r : RunValue). IsCover (take k (lent_runs runs)) r)
    (sym (lent_at covers (k - 1) cover (run_value cover.now) (omega (arith, some, le, have.count_is, length-lent covers)) e))
    (subst (λ (n : ℕ). IsCover (take n (lent_runs runs)) (get_or (lent_runs covers) (k - 1) (run_value cover.now))) next
    (have.each (k - 1) (run_value cover.now) (omega (arith, some, le))))
  where
    next : suc (k - 1) ≡ k
    next = omega (arith, some)

-- the first run is its own cover
pub first_cover : (runs : List (Bor Run)) (n : ℕ) (run : Bor Run) → n ≡ 0 → n < length runs → run ≡ get_or runs n run → IsCover (take (suc n) (lent_runs runs)) (run_value run.now)
first_cover [] n run none lt e = absurd (omega (arith, lt))
first_cover (r ∷ rs) zero run none lt e = subst (λ (s : Bor Run). IsCover (run_value r.now ∷ []) (run_value s.now)) (sym e) (cover_alone (run_value r.now))
first_cover (r ∷ rs) (suc n) run none lt e = absurd (omega (arith, none))

pub push_cover : (runs : List RunValue) (old new : List (Bor Run)) (k : ℕ) (cover : Bor Run) → HaveCovers runs (lent_runs old) k → new ≡ old ++ cover ∷ [] →
    IsCover (take (suc k) runs) (run_value cover.now) → HaveCovers runs (lent_runs new) (k + 1)
push_cover runs old new k cover so_far e is = covers_more runs (lent_runs old) (lent_runs new) k (run_value cover.now) so_far (ap lent_runs e ∙ lent_with_last old cover) is

pub covers_all : (runs : List (Bor Run)) (covers : List RunValue) (k count : ℕ) → HaveCovers (lent_runs runs) covers k → k ≤ count → count ≤ k → count ≡ length runs →
    HaveCovers (lent_runs runs) covers (length (lent_runs runs))
covers_all runs covers k count so_far le ge e = subst (HaveCovers (lent_runs runs) covers) (omega (arith, le, ge, e, length-lent runs)) so_far
