-- The last run is one with the one before it in its list: what a cut would make of both again.
use Rattle.std.proofs.Common.{◌≡◌, ◌≢◌, ℕ, zero, suc, ◌+◌, ◌-◌, ◌<◌, inl, inr, List, [], ◌∷◌, ◌++◌, Option, Some, None, length, get_or, set, refl, sym, ap, ap₂, ◌∙◌, subst, arith}
use Rattle.std.proofs.lemmas.List.{get_or_append_left, get_or_at, length-append, length-set, set-get_or, get_or-set_same, get_or_default}
use Rattle.yd_ids.specs.declared.id.Id.{Id}
use Rattle.yd_words.specs.Member.{IsIn, AreDistinct}
use Rattle.yd_words.proofs.MemberLemmas.{in_left_part, in_right_part, in_parts}
use Rattle.yd_chains.specs.Chain.{last_from, last_of, before, behind, put_behind, without}
use Rattle.yd_chains.specs.Link.{Chained, AreSound}
use Rattle.yd_chains.proofs.ChainLemmas.{same_place, has_place, around, last_in}
use Rattle.yd_chains.proofs.LinkLemmas.{last_has, before_has}
use Rattle.yd_scan.specs.declared.stretch.Stretch.{Stretch}
use Rattle.yd_scan.specs.Stretches.{no_stretch, stretch_at}
use Rattle.yd_index.specs.Holding.{front_of, rest_of, cut_stretches}
use Rattle.yd_index.proofs.HoldingLemmas.{below_or_last}
use Rattle.yd_index.proofs.CuttingLemmas.{cut_front, cut_rest, cut_other}
use Rattle.yd_arena.specs.Lists.{Linked, list_at, AreKept, AreLists, PutsBehind, TakesOut}
use Rattle.yd_arena.specs.Joining.{Continues, joined, IsJoint}
use Rattle.yd_arena.proofs.ListsLemmas.{are_lists}
use Rattle.yd_arena.proofs.TakingLemmas.{still_in}

-- ---- two runs as one

-- cut behind the first, it is the two again
front_again : (run next : Stretch) → front_of (joined run next) run.len ≡ run
front_again run next = refl

abbrev run_of : Id → ℕ → Option Id → Option Id → Stretch
run_of id len left right = record { id = id; len = len; left = left; right = right }

rest_again : (run next : Stretch) → Continues run next → rest_of (joined run next) run.len ≡ next
rest_again run next c =
    let len : run.len + next.len - run.len ≡ next.len = omega arith in
    ap₂ (λ id n. run_of id n (Some (record { client = run.id.client; clock = run.id.clock + run.len - 1 })) run.right) (sym c.begins) len
    ∙ ap₂ (run_of next.id next.len) (sym c.behind) (sym c.right)

-- of two values that are written to one place, the last one stays
pub set_set : {T : Type 0} (xs : List T) (i : ℕ) (a b : T) → set (set xs i a) i b ≡ set xs i b
set_set [] zero a b = refl
set_set [] (suc i) a b = refl
set_set (x ∷ xs) zero a b = refl
set_set (x ∷ xs) (suc i) a b = ap (λ ys. x ∷ ys) (set_set xs i a b)

pub joined_is : (runs front : List Stretch) (next read : Stretch) (place : ℕ) → runs ≡ front ++ next ∷ [] → place < length front → read ≡ get_or front place read →
    Continues (stretch_at runs place) (stretch_at runs (length runs - 1)) → runs ≡ cut_stretches (set front place (joined read next)) place (stretch_at runs place).len
joined_is runs front next read place e lt at c =
    let first : stretch_at runs place ≡ read = ap (λ rs. stretch_at rs place) e ∙ get_or_append_left front (next ∷ []) no_stretch place lt ∙ sym (at ∙ get_or_default front place read no_stretch lt) in
    let end : length runs - 1 ≡ length front = omega (arith, ap length e, length-append front (next ∷ [])) in
    let last : stretch_at runs (length runs - 1) ≡ next = ap₂ stretch_at e end ∙ get_or_at front next [] no_stretch (length front) refl in
    let goes : Continues read next = subst (λ r. Continues r next) first (subst (λ r. Continues (stretch_at runs place) r) last c) in
    let here : stretch_at (set front place (joined read next)) place ≡ joined read next = get_or-set_same front place (joined read next) no_stretch lt in
    e ∙ sym (ap (λ n. cut_stretches (set front place (joined read next)) place n) (ap (λ (r : Stretch). r.len) first)
    ∙ ap (λ r. set (set front place (joined read next)) place (front_of r read.len) ++ rest_of r read.len ∷ []) here
    ∙ ap₂ (λ xs r. xs ++ r ∷ []) (set_set front place (joined read next) read ∙ ap (set front place) at ∙ set-get_or front place read) (rest_again read next goes))

-- ---- lists

-- no place stands before itself
not_before : (p : ℕ) (xs : List ℕ) → IsIn p (before p xs) → ⊥
not_before p [] h = h
not_before p (x ∷ xs) h = elim (same_place x p) [
  | inl e ↦ (let none : IsIn p [] = rw e.0 at h in none)
  | inr e ↦ (let more : IsIn p (x ∷ before p xs) = rw e.0 at h in elim more [ inl k ↦ e.1 (sym k) | inr k ↦ not_before p xs k ])
]

pub apart_from : (last place : ℕ) (xs : List ℕ) → last_of (before last xs) ≡ Some place → place ≢ last
apart_from last place xs e same = not_before last xs (subst (λ p. IsIn p (before last xs)) same (last_has (before last xs) place e))

-- a place that is taken out from behind another is put there again
pub put_again : (last place : ℕ) (xs : List ℕ) → AreDistinct xs → IsIn last xs → last_of (before last xs) ≡ Some place → put_behind (Some place) last (without last xs) ≡ xs
put_again last place [] d h e = absurd h
put_again last place (x ∷ xs) d h e = elim (same_place x last) [
  | inl t ↦ (let none : None ≡ Some place = rw t.0 at e in absurd cc)
  | inr t ↦ (let rest : last_from (Some x) (before last xs) ≡ Some place = rw t.0 at e in
      rw t.0 (go x xs d t.1 (elim h [ inl k ↦ absurd (t.1 (sym k)) | inr k ↦ k ]) rest))
]
  where
    go : (x : ℕ) (xs : List ℕ) → AreDistinct (x ∷ xs) → x ≢ last → IsIn last xs → last_from (Some x) (before last xs) ≡ Some place → put_behind (Some place) last (x ∷ without last xs) ≡ x ∷ xs
    go x [] d ne h e = absurd h
    go x (y ∷ ys) d ne h e = elim (same_place y last) [
      | inl t ↦ (let is : Some x ≡ Some place = rw t.0 at e in let one : x ≡ place = cc in
          rw t.0 (elim (same_place x place) [ inl z ↦ rw z.0 (ap (λ z. x ∷ z ∷ ys) (sym t.1)) | inr z ↦ absurd (z.1 one) ]))
      | inr t ↦ (let rest : last_from (Some y) (before last ys) ≡ Some place = rw t.0 at e in
          let there : IsIn last ys = elim h [ inl k ↦ absurd (t.1 (sym k)) | inr k ↦ k ] in
          let inner = go y ys d.1 t.1 there rest in
          rw t.0 (elim (same_place x place) [
            | inl z ↦ absurd (d.0 (subst (λ p. IsIn p (y ∷ ys)) (sym z.1) (among y ys there rest)))
            | inr z ↦ rw z.0 (ap (λ zs. x ∷ zs) inner)
          ]))
    ]
      where
        among : (y : ℕ) (ys : List ℕ) → IsIn last ys → last_from (Some y) (before last ys) ≡ Some place → IsIn place (y ∷ ys)
        among y ys there e = elim (last_in y (before last ys) place e) [
          | inl k ↦ inl k
          | inr k ↦ inr (subst (IsIn place) (around last ys there) (in_left_part place (before last ys) (last ∷ behind (Some last) ys) k))
        ]

-- the run at the place is another one, and not the last
pub joint_within : (it : Linked) (place : ℕ) → AreLists it → IsJoint it place → place + 1 < length it.stretches
joint_within it place lists j =
    let low = lists.within j.list place j.low (before_has j.last (list_at it j.list) place j.member j.behind) in
    omega (arith, low, j.is_last, apart_from j.last place (list_at it j.list) j.behind)

-- what is another place stays
others_stay : (p i : ℕ) (xs : List ℕ) → IsIn p xs → IsIn i xs → i ≢ p → IsIn i (without p xs)
others_stay p i xs h m ne = elim (in_parts i (before p xs) (p ∷ behind (Some p) xs) (subst (IsIn i) (sym (around p xs h)) m)) [
  | inl k ↦ in_left_part i (before p xs) (behind (Some p) xs) k
  | inr (inl e) ↦ absurd (ne e)
  | inr (inr k) ↦ in_right_part i (before p xs) (behind (Some p) xs) k
]

module _ (old new : Linked) (place : ℕ) (lists : AreLists old) (j : IsJoint old place) (takes : TakesOut old.lists new.lists j.last) where
  abbrev was : ℕ → List ℕ
  was k = get_or old.lists k []

  abbrev is_now : ℕ → List ℕ
  is_now k = get_or new.lists k []

  stood : IsIn place (was j.list)
  stood = before_has j.last (was j.list) place j.member j.behind

  -- only the list of both has one of them
  no_other : (k i : ℕ) → k < length old.lists → k ≢ j.list → IsIn i (was j.list) → IsIn i (was k) → ⊥
  no_other k i kl ne h m = lists.apart k j.list i kl j.low ne m h

  pub puts_again : PutsBehind new.lists old.lists place j.last
  puts_again = record {
    count = sym takes.count;
    own = λ k kn h.
        let kl : k < length old.lists = omega (arith, kn, takes.count) in
        elim (same_place k j.list) [
          | inl y ↦ subst (λ i. was i ≡ put_behind (Some place) j.last (is_now i)) (sym y.1)
              (sym (ap (put_behind (Some place) j.last) (takes.own j.list j.low j.member) ∙ put_again j.last place (was j.list) (lists.distinct j.list j.low) j.member j.behind))
          | inr y ↦ absurd (no_other k place kl y.1 stood (still_in old.lists new.lists j.last k place takes (lists.distinct k kl) kl h).0)
        ];
    others = λ k kn out.
        let kl : k < length old.lists = omega (arith, kn, takes.count) in
        elim (has_place j.last (was k)) [
          | inl m ↦ elim (same_place k j.list) [
            | inl y ↦ absurd (out (subst (λ i. IsIn place (is_now i)) (sym y.1) (still_there j.list j.low j.member stood)))
            | inr y ↦ absurd (no_other k j.last kl y.1 j.member m)
          ]
          | inr m ↦ sym (takes.others k kl m)
        ];
  }
    where
      still_there : (k : ℕ) → k < length old.lists → IsIn j.last (was k) → IsIn place (was k) → IsIn place (is_now k)
      still_there k kl m h = subst (IsIn place) (sym (takes.own k kl m)) (others_stay j.last place (was k) m h (apart_from j.last place (was j.list) j.behind))

-- ---- the runs

pub joined_len : (old new : List Stretch) (place n : ℕ) → old ≡ cut_stretches new place n → length old ≡ length new + 1
joined_len old new place n cut =
    let front = front_of (stretch_at new place) n in
    omega (arith, ap length cut, length-append (set new place front) (rest_of (stretch_at new place) n ∷ []), length-set new place front)

module _ (old new : List Stretch) (place n : ℕ) (within : place < length new) (cut : old ≡ cut_stretches new place n) where
  first_run : stretch_at old place ≡ front_of (stretch_at new place) n
  first_run = ap (λ rs. stretch_at rs place) cut ∙ cut_front new place n within

  last_run : stretch_at old (length new) ≡ rest_of (stretch_at new place) n
  last_run = ap (λ rs. stretch_at rs (length new)) cut ∙ cut_rest new place n within

  other_run : (i : ℕ) → i < length new → i ≢ place → stretch_at old i ≡ stretch_at new i
  other_run i lt ne = ap (λ rs. stretch_at rs i) cut ∙ cut_other new place n within i lt ne

  -- where the last run has units, there are more in both
  pub joined_inside : 0 < (stretch_at old (length new)).len → n < (stretch_at new place).len
  joined_inside filled = omega (arith, filled, ap (λ (r : Stretch). r.len) last_run)

  still_filled : 0 < (stretch_at old (length new)).len → (i : ℕ) → i < length new → 0 < (stretch_at old i).len → 0 < (stretch_at new i).len
  still_filled filled i lt pos = elim (same_place i place) [
    | inl y ↦ subst (λ j. 0 < (stretch_at new j).len) (sym y.1) (omega (arith, joined_inside filled))
    | inr y ↦ subst (λ (r : Stretch). 0 < r.len) (other_run i lt y.1) pos
  ]

pub kept_joined : (chains more : Chained) (old new : List Stretch) (marks : List ℕ) (counter most place n last : ℕ) → AreSound chains → AreKept chains old marks counter most → TakesOut chains.chains more.chains last →
    more.count ≡ chains.count → place < length new → old ≡ cut_stretches new place n → last ≡ length new → 0 < (stretch_at old last).len → AreKept more new marks counter most
kept_joined chains more old new marks counter most place n last sound kept takes count within cut is_last filled =
    let len = joined_len old new place n cut in
    let end : 0 < (stretch_at old (length new)).len = subst (λ i. 0 < (stretch_at old i).len) is_last filled in
    let low : (k i : ℕ) → k < length more.chains → IsIn i (get_or more.chains k []) → (i < length new) × (0 < (stretch_at old i).len) = (λ k i kl h.
    let ko : k < length chains.chains = omega (arith, kl, takes.count) in
    let o = still_in chains.chains more.chains last k i takes (sound.distinct k ko) ko h in (
      elim (below_or_last i (length new) (omega (arith, kept.within k i ko o.0, len))) [ inl lt ↦ lt | inr e ↦ absurd (o.1 (e ∙ sym is_last)) ],
      kept.filled k i ko o.0,
    )) in
    record {
      placed = omega (arith, kept.placed, count, len);
      marked = omega (arith, kept.marked, len);
      bound = omega (arith, kept.bound, len);
      low = kept.low;
      within = λ k i kl h. (low k i kl h).0;
      filled = λ k i kl h. let l = low k i kl h in still_filled old new place n within cut end i l.0 l.1;
    }

-- what is found before the last run in its list
pub prev_within : (chains : Chained) (stretches : List Stretch) (marks : List ℕ) (counter most list last place : ℕ) → AreKept chains stretches marks counter most → list < length chains.chains →
    IsIn last (get_or chains.chains list []) → Some place ≡ last_of (before last (get_or chains.chains list [])) → place < length stretches
prev_within chains stretches marks counter most list last place kept low member prev =
    kept.within list place low (before_has last (get_or chains.chains list []) place member (sym prev))

pub run_read : (stretches : List Stretch) (place : ℕ) (read : Stretch) → place < length stretches → read ≡ get_or stretches place read → read ≡ stretch_at stretches place
run_read stretches place read lt e = e ∙ get_or_default stretches place read no_stretch lt

pub joint_found : (chains : Chained) (stretches : List Stretch) (room list last place : ℕ) (run next : Stretch) → list < length chains.chains →
    IsIn last (get_or chains.chains list []) → Some place ≡ last_of (before last (get_or chains.chains list [])) → length stretches ≡ last + 1 →
    run ≡ stretch_at stretches place → next ≡ stretch_at stretches last → Continues run next → IsJoint (record { stretches = stretches; lists = chains.chains; room = room }) place
joint_found chains stretches room list last place run next low member prev is_last is_run is_next c = record {
  last = last;
  is_last = is_last;
  list = list;
  low = low;
  member = member;
  behind = sym prev;
  continues = subst (λ r. Continues r (stretch_at stretches last)) is_run (subst (λ r. Continues run r) is_next c);
}

-- both of a joint have units
pub joint_filled : (it : Linked) (place : ℕ) → AreLists it → (j : IsJoint it place) → (0 < (stretch_at it.stretches place).len) × (0 < (stretch_at it.stretches j.last).len)
joint_filled it place lists j = (lists.filled j.list place j.low (before_has j.last (list_at it j.list) place j.member j.behind), lists.filled j.list j.last j.low j.member)

module _ (chains more : Chained) (old new : List Stretch) (marks : List ℕ) (counter most room place n taken : ℕ) (sound : AreSound chains) (kept : AreKept chains old marks counter most)
    (takes : TakesOut chains.chains more.chains taken) (is_taken : taken ≡ length old - 1) (cut : old ≡ cut_stretches new place n) (j : IsJoint (record { stretches = old; lists = chains.chains; room = room }) place) where
  abbrev seen : Linked
  seen = record { stretches = old; lists = chains.chains; room = room }

  were_lists : AreLists seen
  were_lists = are_lists chains old marks counter most room sound kept

  is_last : j.last ≡ length new
  is_last = omega (arith, j.is_last, joined_len old new place n cut)

  takes_last : TakesOut chains.chains more.chains j.last
  takes_last = let same : taken ≡ j.last = omega (arith, is_taken, j.is_last) in subst (TakesOut chains.chains more.chains) same takes

  pub kept_after : more.count ≡ chains.count → AreKept more new marks counter most
  kept_after count = kept_joined chains more old new marks counter most place n j.last sound kept takes_last count
      (omega (arith, joint_within seen place were_lists j, joined_len old new place n cut)) cut is_last (joint_filled seen place were_lists j).1

  pub puts_after : PutsBehind more.chains chains.chains place (length new)
  puts_after = subst (PutsBehind more.chains chains.chains place) is_last (puts_again seen (record { stretches = new; lists = more.chains; room = room }) place were_lists j takes_last)
