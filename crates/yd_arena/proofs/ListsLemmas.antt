-- Lists of runs stay so where one is added, and where one is cut.
use Rattle.std.proofs.Common.{◌≡◌, ℕ, zero, suc, ◌-◌, ◌<◌, ◌≤◌, ◌⊎◌, inl, inr, List, [], ◌∷◌, ◌++◌, Option, Some, None, length, get_or, set, refl, sym, ap, ◌∙◌, subst, arith, length-append}
use Rattle.std.specs.Prelude.{min, slice_get, IfSome}
use Rattle.std.proofs.lemmas.List.{get_or_append_left, get_or_at, length-set, get_or-set_same, get_or-set_other}
use Rattle.yd_words.specs.Member.{IsIn}
use Rattle.yd_words.proofs.MemberLemmas.{in_left_part, in_right_part, in_parts}
use Rattle.yd_chains.specs.Chain.{up_to, behind, put_behind}
use Rattle.yd_chains.specs.Link.{Chained, AreSound}
use Rattle.yd_chains.proofs.ChainLemmas.{same_place, has_place, parts_are}
use Rattle.yd_scan.specs.declared.stretch.Stretch.{Stretch}
use Rattle.yd_scan.specs.Stretches.{no_stretch, stretch_at, IsNoLater, IsIndex, EndsLeft}
use Rattle.yd_scan.specs.Scanning.{Stands}
use Rattle.yd_ids.specs.declared.id.Id.{Id}
use Rattle.yd_index.specs.Holding.{front_of, rest_of, cut_stretches}
use Rattle.yd_arena.specs.Lists.{AreKept, AreLists, PutsBehind}

-- what a list with a place more has
pub in_put : (i p : ℕ) (after : Option ℕ) (xs : List ℕ) → IsIn i (put_behind after p xs) → (i ≡ p) ⊎ IsIn i xs
in_put i p after xs h = elim (in_parts i (up_to after xs) (p ∷ behind after xs) h) [
  | inl k ↦ inr (subst (IsIn i) (parts_are after xs) (in_left_part i (up_to after xs) (behind after xs) k))
  | inr (inl e) ↦ inl e
  | inr (inr k) ↦ inr (subst (IsIn i) (parts_are after xs) (in_right_part i (up_to after xs) (behind after xs) k))
]

-- where there is room, there is each part of it
pub room_parts : (runs places marks memory most : ℕ) → 0 < min (min (places - runs) (marks - runs)) (min (memory - runs) (most - runs)) → (runs < places) × (runs < marks) × (runs < memory) × (runs < most)
room_parts runs places marks memory most h = (omega (arith, h), omega (arith, h), omega (arith, h), omega (arith, h))

-- numbers that are 0 as far as they go
get_zero : (xs : List ℕ) (i : ℕ) → (i < length xs → slice_get xs i ≡ Some 0) → get_or xs i 0 ≡ 0
get_zero [] zero f = refl
get_zero [] (suc i) f = refl
get_zero (x ∷ xs) zero f = let e : Some x ≡ Some 0 = f (omega arith) in cc
get_zero (x ∷ xs) (suc i) f = get_zero xs i (λ h. f (omega (arith, h)))

pub all_zero : (xs : List ℕ) (end stop : ℕ) → stop ≡ length xs → stop ≤ end → ((n : ℕ) → n < end → slice_get xs n ≡ Some 0) → (i : ℕ) → get_or xs i 0 ≡ 0
all_zero xs end stop e le f = λ i. get_zero xs i (λ h. f i (omega (arith, e, le, h)))

pub low_zero : (xs : List ℕ) (bound : ℕ) → ((i : ℕ) → get_or xs i 0 ≡ 0) → (i : ℕ) → get_or xs i 0 ≤ bound
low_zero xs bound zeros i = omega (arith, zeros i)

-- ---- what contracts see

pub are_lists : (chains : Chained) (stretches : List Stretch) (marks : List ℕ) (counter most room : ℕ) → AreSound chains → AreKept chains stretches marks counter most →
    AreLists (record { stretches = stretches; lists = chains.chains; room = room })
are_lists chains stretches marks counter most room sound kept = record {
  distinct = sound.distinct;
  within = kept.within;
  filled = kept.filled;
  apart = sound.apart;
}

-- ---- a run in the place of another, and a run more

module _ (chains : Chained) (stretches : List Stretch) (marks : List ℕ) (counter most : ℕ) (kept : AreKept chains stretches marks counter most) where
  pub kept_set : (p : ℕ) (s : Stretch) → 0 < s.len → AreKept chains (set stretches p s) marks counter most
  kept_set p s filled = record {
    placed = omega (arith, kept.placed, length-set stretches p s);
    marked = omega (arith, kept.marked, length-set stretches p s);
    bound = omega (arith, kept.bound, length-set stretches p s);
    low = kept.low;
    within = λ k i kl h. omega (arith, kept.within k i kl h, length-set stretches p s);
    filled = λ k i kl h. elim (same_place i p) [
      | inl q ↦ subst (λ (r : Stretch). 0 < r.len) (sym (ap (λ j. stretch_at (set stretches p s) j) q.1 ∙ get_or-set_same stretches p s no_stretch (subst (λ j. j < length stretches) q.1 (kept.within k i kl h)))) filled
      | inr q ↦ subst (λ (r : Stretch). 0 < r.len) (sym (get_or-set_other stretches p i s no_stretch q.1)) (kept.filled k i kl h)
    ];
  }

  -- each place of a list was there, or is the new one
  pub kept_grown : (more : Chained) (new : Stretch) → more.count ≡ chains.count → length more.chains ≡ length chains.chains → length stretches < chains.count → length stretches < length marks → length stretches < most →
      ((k i : ℕ) → k < length chains.chains → IsIn i (get_or more.chains k []) → ((i ≡ length stretches) × (0 < new.len)) ⊎ IsIn i (get_or chains.chains k [])) →
      AreKept more (stretches ++ new ∷ []) marks counter most
  kept_grown more new count lists places numbers low members =
      let len = length-append stretches (new ∷ []) in
      record {
        placed = omega (arith, len, count, places);
        marked = omega (arith, len, numbers);
        bound = omega (arith, len, low);
        low = kept.low;
        within = λ k i kl h. elim (members k i (omega (arith, kl, lists)) h) [
          | inl m ↦ omega (arith, len, m.0)
          | inr m ↦ omega (arith, len, kept.within k i (omega (arith, kl, lists)) m)
        ];
        filled = λ k i kl h. elim (members k i (omega (arith, kl, lists)) h) [
          | inl m ↦ subst (λ (r : Stretch). 0 < r.len) (sym (ap (λ j. stretch_at (stretches ++ new ∷ []) j) m.0 ∙ get_or_at stretches new [] no_stretch (length stretches) refl)) m.1
          | inr m ↦
              let lt = kept.within k i (omega (arith, kl, lists)) m in
              subst (λ (r : Stretch). 0 < r.len) (sym (get_or_append_left stretches (new ∷ []) no_stretch i lt)) (kept.filled k i (omega (arith, kl, lists)) m)
        ];
      }

  -- a run that goes behind a place of a list
  pub kept_add : (more : Chained) (new : Stretch) (list : ℕ) (after : Option ℕ) → more.count ≡ chains.count → list < length chains.chains →
      more.chains ≡ set chains.chains list (put_behind after (length stretches) (get_or chains.chains list [])) → 0 < new.len →
      length stretches < chains.count → length stretches < length marks → length stretches < most → AreKept more (stretches ++ new ∷ []) marks counter most
  kept_add more new list after count ll e filled places numbers low =
      kept_grown more new count (ap length e ∙ length-set chains.chains list (put_behind after (length stretches) (get_or chains.chains list []))) places numbers low
      (λ k i kl h. elim (same_place k list) [
        | inl q ↦
            let own = get_or-set_same chains.chains list (put_behind after (length stretches) (get_or chains.chains list [])) [] ll in
            let m : IsIn i (put_behind after (length stretches) (get_or chains.chains list [])) = subst (IsIn i) own (subst (λ j. IsIn i (get_or (set chains.chains list (put_behind after (length stretches) (get_or chains.chains list []))) j [])) q.1 (subst (λ xs. IsIn i (get_or xs k [])) e h)) in
            elim (in_put i (length stretches) after (get_or chains.chains list []) m) [ inl z ↦ inl (z, filled) | inr z ↦ inr (subst (λ j. IsIn i (get_or chains.chains j [])) (sym q.1) z) ]
        | inr q ↦ inr (subst (IsIn i) (get_or-set_other chains.chains list k (put_behind after (length stretches) (get_or chains.chains list [])) [] q.1) (subst (λ xs. IsIn i (get_or xs k [])) e h))
      ])

  -- nothing that is seen of the chains changes
  pub kept_same : (more : Chained) → more.count ≡ chains.count → more.chains ≡ chains.chains → AreKept more stretches marks counter most
  kept_same more count e = record {
    placed = omega (arith, kept.placed, count);
    marked = kept.marked;
    bound = kept.bound;
    low = kept.low;
    within = λ k i kl h. kept.within k i (omega (arith, kl, ap length e)) (subst (λ xs. IsIn i (get_or xs k [])) e h);
    filled = λ k i kl h. kept.filled k i (omega (arith, kl, ap length e)) (subst (λ xs. IsIn i (get_or xs k [])) e h);
  }

  -- more places and other marks, where nothing that is seen of the chains changes
  pub kept_room : (more : Chained) (numbers : List ℕ) (last : ℕ) → chains.count ≤ more.count → more.chains ≡ chains.chains → length marks ≤ length numbers → ((i : ℕ) → get_or numbers i 0 ≤ last) → AreKept more stretches numbers last most
  kept_room more numbers last count e len low = record {
    placed = omega (arith, kept.placed, count);
    marked = omega (arith, kept.marked, len);
    bound = kept.bound;
    low = low;
    within = λ k i kl h. kept.within k i (omega (arith, kl, ap length e)) (subst (λ xs. IsIn i (get_or xs k [])) e h);
    filled = λ k i kl h. kept.filled k i (omega (arith, kl, ap length e)) (subst (λ xs. IsIn i (get_or xs k [])) e h);
  }

  -- a scan of a list stands on what is kept
  pub stands : (places : Id → Option ℕ) (list : ℕ) (after : Option ℕ) (new : Stretch) → list < length chains.chains → IsIndex places stretches → IfSome after (λ p. IsIn p (get_or chains.chains list [])) →
      EndsLeft stretches new.left after → IsNoLater stretches (get_or chains.chains list []) new.right →
      Stands places stretches (get_or chains.chains list []) after new
  stands places list after new ll index has ends right = record {
    index = index;
    filled = λ i h. kept.filled list i ll h;
    within = λ i h. kept.within list i ll h;
    has_after = has;
    ends_left = ends;
    right_begins = right;
  }

  -- a list more, which is empty
  pub kept_list : (more : Chained) → more.count ≡ chains.count → more.chains ≡ chains.chains ++ [] ∷ [] → AreKept more stretches marks counter most
  kept_list more count e = record {
    placed = omega (arith, kept.placed, count);
    marked = kept.marked;
    bound = kept.bound;
    low = kept.low;
    within = λ k i kl h. let m = old k i kl h in kept.within k i m.0 m.1;
    filled = λ k i kl h. let m = old k i kl h in kept.filled k i m.0 m.1;
  }
    where
      old : (k i : ℕ) → k < length more.chains → IsIn i (get_or more.chains k []) → (k < length chains.chains) × IsIn i (get_or chains.chains k [])
      old k i kl h = elim (same_place k (length chains.chains)) [
        | inl q ↦ absurd (subst (IsIn i) (ap (λ j. get_or (chains.chains ++ [] ∷ []) j []) q.1 ∙ get_or_at chains.chains [] [] [] (length chains.chains) refl) (subst (λ xs. IsIn i (get_or xs k [])) e h))
        | inr q ↦
            let lt : k < length chains.chains = omega (arith, kl, ap length e, length-append chains.chains ([] ∷ []), q.1) in
            (lt, subst (IsIn i) (get_or_append_left chains.chains ([] ∷ []) [] k lt) (subst (λ xs. IsIn i (get_or xs k [])) e h))
      ]

-- ---- a run that is cut

pub puts_behind : (old new : List (List ℕ)) (place more k : ℕ) → k < length old → IsIn place (get_or old k []) → ((j : ℕ) → j < length old → IsIn place (get_or old j []) → Some k ≡ Some j) →
    new ≡ set old k (put_behind (Some place) more (get_or old k [])) → PutsBehind old new place more
puts_behind old new place more k kl has only e =
    let xs = put_behind (Some place) more (get_or old k []) in
    record {
      count = ap length e ∙ length-set old k xs;
      own = λ j jl h.
          let same : Some k ≡ Some j = only j jl h in
          let is : k ≡ j = cc in
          ap (λ ys. get_or ys j []) e ∙ ap (λ m. get_or (set old k xs) m []) (sym is) ∙ get_or-set_same old k xs [] kl ∙ ap (λ m. put_behind (Some place) more (get_or old m [])) is;
      others = λ j jl out. ap (λ ys. get_or ys j []) e ∙ get_or-set_other old k j xs [] (λ s. out (subst (λ m. IsIn place (get_or old m [])) (sym s) has));
    }

pub puts_none : (old : List (List ℕ)) (place more : ℕ) → ((j : ℕ) → j < length old → IsIn place (get_or old j []) → None ≡ Some j) → PutsBehind old old place more
puts_none old place more only = record {
  count = refl;
  own = λ j jl h. let no : None ≡ Some j = only j jl h in absurd cc;
  others = λ j jl out. refl;
}

pub kept_cut : (chains more : Chained) (stretches : List Stretch) (marks : List ℕ) (counter most place n : ℕ) → AreKept chains stretches marks counter most → PutsBehind chains.chains more.chains place (length stretches) →
    more.count ≡ chains.count → 0 < n → n < (stretch_at stretches place).len → length stretches < chains.count → length stretches < length marks → length stretches < most →
    AreKept more (cut_stretches stretches place n) marks counter most
kept_cut chains more stretches marks counter most place n kept puts count pos lt places numbers low =
    let front = front_of (stretch_at stretches place) n in
    let len = length-set stretches place front in
    kept_grown chains (set stretches place front) marks counter most (kept_set chains stretches marks counter most kept place front pos) more (rest_of (stretch_at stretches place) n) count puts.count
    (omega (arith, len, places)) (omega (arith, len, numbers)) (omega (arith, len, low))
    (λ k i kl h. elim (has_place place (get_or chains.chains k [])) [
      | inl m ↦ elim (in_put i (length stretches) (Some place) (get_or chains.chains k []) (subst (IsIn i) (puts.own k kl m) h)) [
        | inl z ↦ inl (z ∙ sym len, omega (arith, lt))
        | inr z ↦ inr z
      ]
      | inr m ↦ inr (subst (IsIn i) (puts.others k kl m) h)
    ])
