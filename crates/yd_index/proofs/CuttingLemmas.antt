-- The entries stay the runs at their places where a run and its entry are cut, and lists keep their units.
use Rattle.std.proofs.Common.{◌≡◌, ◌≢◌, ℕ, zero, suc, ◌+◌, ◌-◌, ◌<◌, ◌≤◌, inl, inr, List, [], ◌∷◌, ◌++◌, Some, None, length, set, refl, sym, ap, ap₂, ◌∙◌, subst, arith}
use Rattle.std.proofs.lemmas.List.{get_or_append_left, get_or_at, length-append, length-set, get_or-set_same, get_or-set_other, append_assoc}
use Rattle.yd_ids.specs.declared.id.Id.{Id}
use Rattle.yd_ids.specs.declared.id.Client.{Client}
use Rattle.yd_words.specs.Member.{IsIn, AreDistinct}
use Rattle.yd_chains.specs.Chain.{put_behind}
use Rattle.yd_chains.proofs.ChainLemmas as chain
use Rattle.yd_scan.specs.declared.stretch.Stretch.{Stretch}
use Rattle.yd_scan.specs.Stretches.{units_from, units_of, units_at, no_stretch, stretch_at}
use Rattle.yd_index.specs.declared.line.Entry.{Entry}
use Rattle.yd_index.specs.Line.{Lined, begin, entry_in, with_cut}
use Rattle.yd_index.specs.Lines.{entries_of, next_of, entry_at, Changes}
use Rattle.yd_index.specs.Holding.{IsStretchOf, StretchesFill, entry_for, Holds, front_of, rest_of, cut_stretches}
use Rattle.yd_index.specs.Law.{CutIsHeld, CutKeepsUnits, CutKeepsOthers}
use Rattle.yd_index.proofs.LineLemmas.{lt_says}
use Rattle.yd_index.proofs.LinesLemmas.{eq_says}
use Rattle.yd_index.proofs.RowLemmas.{entry_above, entry_run, only_run, begin_is}
use Rattle.yd_index.proofs.HoldingLemmas.{fills_kept, run_kept, below_or_last}

-- ---- the runs

module _ (stretches : List Stretch) (i n : ℕ) (lt : i < length stretches) where
  abbrev cut : List Stretch
  cut = cut_stretches stretches i n

  abbrev fronted : List Stretch
  fronted = set stretches i (front_of (stretch_at stretches i) n)

  fronted_len : length fronted ≡ length stretches
  fronted_len = length-set stretches i (front_of (stretch_at stretches i) n)

  pub cut_len : length cut ≡ length stretches + 1
  cut_len = omega (arith, fronted_len, length-append fronted (rest_of (stretch_at stretches i) n ∷ []))

  pub cut_front : stretch_at cut i ≡ front_of (stretch_at stretches i) n
  cut_front = get_or_append_left fronted (rest_of (stretch_at stretches i) n ∷ []) no_stretch i (omega (arith, lt, fronted_len)) ∙ get_or-set_same stretches i (front_of (stretch_at stretches i) n) no_stretch lt

  pub cut_rest : stretch_at cut (length stretches) ≡ rest_of (stretch_at stretches i) n
  cut_rest = get_or_at fronted (rest_of (stretch_at stretches i) n) [] no_stretch (length stretches) fronted_len

  pub cut_other : (j : ℕ) → j < length stretches → j ≢ i → stretch_at cut j ≡ stretch_at stretches j
  cut_other j low ne = get_or_append_left fronted (rest_of (stretch_at stretches i) n ∷ []) no_stretch j (omega (arith, low, fronted_len)) ∙ get_or-set_other stretches i j (front_of (stretch_at stretches i) n) no_stretch ne

  pub cut_id : (j : ℕ) → j < length stretches → (stretch_at cut j).id ≡ (stretch_at stretches j).id
  cut_id j low = elim (eq_says j i) [
    | inl y ↦ subst (λ m. (stretch_at cut m).id ≡ (stretch_at stretches m).id) (sym y.1) (ap (λ (r : Stretch). r.id) cut_front)
    | inr y ↦ ap (λ (r : Stretch). r.id) (cut_other j low y.1)
  ]

-- ---- units

from_split : (client : Client) (n m total clock : ℕ) → total ≡ n + m → units_from client clock total ≡ units_from client clock n ++ units_from client (clock + n) m
from_split client zero m total clock e =
    let a : total ≡ m = omega (arith, e) in
    let b : clock ≡ clock + 0 = omega arith in
    ap₂ (λ c t. units_from client c t) b a
from_split client (suc n) m zero clock e = absurd (omega (arith, e))
from_split client (suc n) m (suc total) clock e =
    let a : suc clock + n ≡ clock + suc n = omega arith in
    ap (λ us. record { client = client; clock = clock } ∷ us) (from_split client n m total (suc clock) (omega (arith, e)) ∙ ap (λ c. units_from client (suc clock) n ++ units_from client c m) a)

run_split : (stretch : Stretch) (n : ℕ) → n ≤ stretch.len → units_of (front_of stretch n) ++ units_of (rest_of stretch n) ≡ units_of stretch
run_split stretch n le = sym (from_split stretch.id.client n (stretch.len - n) stretch.len stretch.id.clock (omega (arith, le)))

module _ (stretches : List Stretch) (i n : ℕ) (lt : i < length stretches) where
  others_kept : (list : List ℕ) → ((j : ℕ) → IsIn j list → j < length stretches) → (IsIn i list → ⊥) → units_at (cut_stretches stretches i n) list ≡ units_at stretches list
  others_kept [] within out = refl
  others_kept (x ∷ xs) within out =
      ap₂ (λ us vs. us ++ vs) (ap units_of (cut_other stretches i n lt x (within x (inl refl)) (λ e. out (inl (sym e))))) (others_kept xs (λ j h. within j (inr h)) (λ h. out (inr h)))

  units_kept : n ≤ (stretch_at stretches i).len → (list : List ℕ) → ((j : ℕ) → IsIn j list → j < length stretches) → AreDistinct list → IsIn i list →
      units_at (cut_stretches stretches i n) (put_behind (Some i) (length stretches) list) ≡ units_at stretches list
  units_kept le [] within d h = absurd h
  units_kept le (x ∷ xs) within d h = elim (chain.same_place x i) [
    | inl t ↦ (let out : IsIn i xs → ⊥ = (λ m. d.0 (subst (λ j. IsIn j xs) (sym t.1) m)) in
        rw t.0 (
        ap₂ (λ us vs. us ++ (vs ++ units_at (cut_stretches stretches i n) xs)) (ap (λ j. units_of (stretch_at (cut_stretches stretches i n) j)) t.1 ∙ ap units_of (cut_front stretches i n lt)) (ap units_of (cut_rest stretches i n lt))
        ∙ sym (append_assoc (units_of (front_of (stretch_at stretches i) n)) (units_of (rest_of (stretch_at stretches i) n)) (units_at (cut_stretches stretches i n) xs))
        ∙ ap₂ (λ us vs. us ++ vs) (run_split (stretch_at stretches i) n le ∙ ap (λ j. units_of (stretch_at stretches j)) (sym t.1)) (others_kept xs (λ j m. within j (inr m)) out)))
    | inr t ↦ rw t.0 (
        ap₂ (λ us vs. us ++ vs) (ap units_of (cut_other stretches i n lt x (within x (inl refl)) t.1)) (units_kept le xs (λ j m. within j (inr m)) d.1 (elim h [ inl e ↦ absurd (t.1 (sym e)) | inr m ↦ m ])))
  ]

pub cut_keeps_units : CutKeepsUnits
cut_keeps_units = λ stretches list i n lt le within d h. units_kept stretches i n lt le list within d h

pub cut_keeps_others : CutKeepsOthers
cut_keeps_others = λ stretches list i n lt within out. others_kept stretches i n lt list within out

-- ---- entries

cut_has_old : (es : List Entry) (next clock place : ℕ) (x : Entry) → IsIn x es → IsIn x (with_cut es next clock place)
cut_has_old [] next clock place x h = absurd h
cut_has_old (e ∷ es) next clock place x h = elim (lt_says clock (begin es next)) [
  | inl y ↦ rw y.0 (elim h [ inl s ↦ inl s | inr m ↦ inr (inr m) ])
  | inr y ↦ rw y.0 (elim h [ inl s ↦ inl s | inr m ↦ inr (cut_has_old es next clock place x m) ])
]

cut_has_new : (es : List Entry) (next clock place : ℕ) (e : Entry) → entry_in es next clock ≡ Some e → IsIn (record { clock = clock; place = place }) (with_cut es next clock place)
cut_has_new [] next clock place e f = (let no : None ≡ Some e = f in absurd cc)
cut_has_new (g ∷ gs) next clock place e f = elim (lt_says clock (begin gs next)) [
  | inl y ↦ rw y.0 (inr (inl refl))
  | inr y ↦ (let inner : entry_in gs next clock ≡ Some e = rw y.0 at f in rw y.0 (inr (cut_has_new gs next clock place e inner)))
]

module _ (stretches : List Stretch) (k : ℕ) (e : Entry) (clock : ℕ) (o : IsStretchOf stretches k e.clock e) (low : e.clock < clock) (high : clock < e.clock + (stretch_at stretches e.place).len) where
  abbrev more : List Stretch
  more = cut_stretches stretches e.place (clock - e.clock)

  abbrev rest : Entry
  rest = record { clock = clock; place = length stretches }

  front_is : stretch_at more e.place ≡ front_of (stretch_at stretches e.place) (clock - e.clock)
  front_is = cut_front stretches e.place (clock - e.clock) o.within

  rest_is : stretch_at more (length stretches) ≡ rest_of (stretch_at stretches e.place) (clock - e.clock)
  rest_is = cut_rest stretches e.place (clock - e.clock) o.within

  more_len : length more ≡ length stretches + 1
  more_len = cut_len stretches e.place (clock - e.clock) o.within

  front_len : (stretch_at more e.place).len ≡ clock - e.clock
  front_len = ap (λ (r : Stretch). r.len) front_is

  rest_len : (stretch_at more (length stretches)).len ≡ (stretch_at stretches e.place).len - (clock - e.clock)
  rest_len = ap (λ (r : Stretch). r.len) rest_is

  front_run : IsStretchOf more k e.clock e
  front_run = record {
    begins = refl;
    within = omega (arith, o.within, more_len);
    client_is = ap (λ (r : Stretch). r.id.client.0) front_is ∙ o.client_is;
    clock_is = ap (λ (r : Stretch). r.id.clock) front_is ∙ o.clock_is;
    filled = omega (arith, front_len, low);
  }

  rest_run : IsStretchOf more k clock rest
  rest_run = record {
    begins = refl;
    within = omega (arith, more_len);
    client_is = ap (λ (r : Stretch). r.id.client.0) rest_is ∙ o.client_is;
    clock_is = ap (λ (r : Stretch). r.id.clock) rest_is ∙ (let s : (stretch_at stretches e.place).id.clock + (clock - e.clock) ≡ clock = omega (arith, o.clock_is, low) in s);
    filled = omega (arith, rest_len, low, high);
  }

  -- an entry that begins at another clock is of another place
  other_run : (x : Entry) (c : ℕ) → IsStretchOf stretches k c x → x.clock ≢ e.clock → stretch_at more x.place ≡ stretch_at stretches x.place
  other_run x c p ne = cut_other stretches e.place (clock - e.clock) o.within x.place p.within
      (λ s. ne (p.begins ∙ sym p.clock_is ∙ ap (λ j. (stretch_at stretches j).id.clock) s ∙ o.clock_is))

  at_cut : (gs : List Entry) (from next : ℕ) → StretchesFill stretches k from (e ∷ gs) next → StretchesFill more k from (e ∷ rest ∷ gs) next
  at_cut gs from next f =
      let is : e.clock ≡ from = f.0.begins in
      let l : from + (stretch_at more e.place).len ≡ clock = omega (arith, is, front_len, low) in
      let m : (from + (stretch_at more e.place).len) + (stretch_at more (length stretches)).len ≡ from + (stretch_at stretches e.place).len = omega (arith, l, rest_len, is, low, high) in
      let behind_it : StretchesFill more k (from + (stretch_at stretches e.place).len) gs next = fills_kept stretches more k gs (from + (stretch_at stretches e.place).len) next f.1 (omega (arith, more_len))
      (λ x h. other_run x x.clock (entry_run stretches k gs (from + (stretch_at stretches e.place).len) next x f.1 h) (λ s. absurd (omega (arith, s, is, f.0.filled, entry_above stretches k gs (from + (stretch_at stretches e.place).len) next x f.1 h)))) in
      (subst (λ c. IsStretchOf more k c e) is front_run, (subst (λ c. IsStretchOf more k c rest) (sym l) rest_run, subst (λ c. StretchesFill more k c gs next) (sym m) behind_it))

  pub cut_fill : (es : List Entry) (from next : ℕ) → StretchesFill stretches k from es next → from ≤ clock → entry_in es next clock ≡ Some e → StretchesFill more k from (with_cut es next clock (length stretches)) next
  cut_fill [] from next f le found = (let no : None ≡ Some e = found in absurd cc)
  cut_fill (g ∷ gs) from next f le found = elim (lt_says clock (begin gs next)) [
    | inl y ↦ (let same : Some g ≡ Some e = rw y.0 at found in let is : e ≡ g = cc in
        rw y.0 (subst (λ (z : Entry). StretchesFill more k from (z ∷ rest ∷ gs) next) is (at_cut gs from next (subst (λ (z : Entry). StretchesFill stretches k from (z ∷ gs) next) (sym is) f))))
    | inr y ↦ (let inner : entry_in gs next clock ≡ Some e = rw y.0 at found in
        let ge : from + (stretch_at stretches g.place).len ≤ clock = omega (arith, y.1, begin_is stretches k g gs from next f) in
        let m = only_run stretches k gs (from + (stretch_at stretches g.place).len) next clock e f.1 ge inner in
        let a = entry_above stretches k gs (from + (stretch_at stretches g.place).len) next e f.1 m.0 in
        let s = other_run g from f.0 (λ z. absurd (omega (arith, z, a, f.0.begins, f.0.filled))) in
        rw y.0 (
          run_kept stretches more k from g f.0 (omega (arith, more_len)) s,
          subst (λ c. StretchesFill more k (from + c) (with_cut gs next clock (length stretches)) next) (sym (ap (λ (r : Stretch). r.len) s)) (cut_fill gs (from + (stretch_at stretches g.place).len) next f.1 ge inner),
        ))
  ]

module _ (old new : List Lined) (stretches : List Stretch) (id : Id) (e : Entry) (h : Holds old stretches) (found : entry_at old id ≡ Some e) (low : e.clock < id.clock)
    (ch : Changes old new id.client.0 (with_cut (entries_of old id.client.0) (next_of old id.client.0) id.clock (length stretches)) (next_of old id.client.0)) where
  abbrev k : ℕ
  k = id.client.0

  abbrev cut_now : List Stretch
  cut_now = cut_stretches stretches e.place (id.clock - e.clock)

  only : IsIn e (entries_of old k) × (e.clock ≤ id.clock) × (id.clock < e.clock + (stretch_at stretches e.place).len)
  only = only_run stretches k (entries_of old k) 0 (next_of old k) id.clock e (h.fills k) (omega arith) found

  of_run : IsStretchOf stretches k e.clock e
  of_run = entry_run stretches k (entries_of old k) 0 (next_of old k) e (h.fills k) only.0

  now_len : length cut_now ≡ length stretches + 1
  now_len = cut_len stretches e.place (id.clock - e.clock) of_run.within

  own_fill : StretchesFill cut_now k 0 (entries_of new k) (next_of new k)
  own_fill =
      let f = cut_fill stretches k e id.clock of_run low only.2 (entries_of old k) 0 (next_of old k) (h.fills k) (omega arith) found in
      subst (λ n. StretchesFill cut_now k 0 (entries_of new k) n) (sym ch.next_is) (subst (λ es. StretchesFill cut_now k 0 es (next_of old k)) (sym ch.entries_are) f)

  other_fill : (j : ℕ) → j ≢ k → StretchesFill cut_now j 0 (entries_of new j) (next_of new j)
  other_fill j ne =
      let f = fills_kept stretches cut_now j (entries_of old j) 0 (next_of old j) (h.fills j) (omega (arith, now_len)) (λ x m.
      let p = entry_run stretches j (entries_of old j) 0 (next_of old j) x (h.fills j) m in
      cut_other stretches e.place (id.clock - e.clock) of_run.within x.place p.within (λ s. ne (sym p.client_is ∙ ap (λ i. (stretch_at stretches i).id.client.0) s ∙ of_run.client_is))) in
      subst (λ n. StretchesFill cut_now j 0 (entries_of new j) n) (sym (ch.other_nexts j ne)) (subst (λ es. StretchesFill cut_now j 0 es (next_of old j)) (sym (ch.other_entries j ne)) f)

  new_has : (j : ℕ) (x : Entry) → IsIn x (entries_of old j) → IsIn x (entries_of new j)
  new_has j x m = elim (eq_says j k) [
    | inl y ↦ subst (λ i. IsIn x (entries_of new i)) (sym y.1) (subst (IsIn x) (sym ch.entries_are) (cut_has_old (entries_of old k) (next_of old k) id.clock (length stretches) x (subst (λ i. IsIn x (entries_of old i)) y.1 m)))
    | inr y ↦ subst (IsIn x) (sym (ch.other_entries j y.1)) m
  ]

  abbrev HasId : ℕ → Id → Type 0
  HasId i z = IsIn (record { clock = z.clock; place = i }) (entries_of new z.client.0)

  rest_at : HasId (length stretches) (stretch_at cut_now (length stretches)).id
  rest_at =
      let s : id.clock ≡ (stretch_at stretches e.place).id.clock + (id.clock - e.clock) = omega (arith, of_run.clock_is, low) in
      let a : IsIn (record { clock = id.clock; place = length stretches }) (entries_of new k) = subst (IsIn (record { clock = id.clock; place = length stretches })) (sym ch.entries_are) (cut_has_new (entries_of old k) (next_of old k) id.clock (length stretches) e found) in
      let b = subst (λ c. IsIn (record { clock = c; place = length stretches }) (entries_of new k)) s a in
      let d = subst (λ j. IsIn (record { clock = (stretch_at stretches e.place).id.clock + (id.clock - e.clock); place = length stretches }) (entries_of new j)) (sym of_run.client_is) b in
      subst (λ (r : Stretch). HasId (length stretches) r.id) (sym (cut_rest stretches e.place (id.clock - e.clock) of_run.within)) d

  was_filled : (i : ℕ) → i < length stretches → 0 < (stretch_at cut_now i).len → 0 < (stretch_at stretches i).len
  was_filled i y pos = elim (eq_says i e.place) [
    | inl s ↦ subst (λ j. 0 < (stretch_at stretches j).len) (sym s.1) of_run.filled
    | inr s ↦ subst (λ (r : Stretch). 0 < r.len) (cut_other stretches e.place (id.clock - e.clock) of_run.within i y s.1) pos
  ]

  new_each : (i : ℕ) → i < length cut_now → 0 < (stretch_at cut_now i).len → IsIn (entry_for cut_now i) (entries_of new (stretch_at cut_now i).id.client.0)
  new_each i lt pos = elim (below_or_last i (length stretches) (omega (arith, lt, now_len))) [
    | inl y ↦ subst (HasId i) (sym (cut_id stretches e.place (id.clock - e.clock) of_run.within i y)) (new_has (stretch_at stretches i).id.client.0 (entry_for stretches i) (h.each i y (was_filled i y pos)))
    | inr y ↦ subst (λ j. HasId j (stretch_at cut_now j).id) (sym y) rest_at
  ]

  pub cut_holds : Holds new cut_now
  cut_holds = record {
    fills = λ j. elim (eq_says j k) [
      | inl y ↦ subst (λ i. StretchesFill cut_now i 0 (entries_of new i) (next_of new i)) (sym y.1) own_fill
      | inr y ↦ other_fill j y.1
    ];
    each = new_each;
  }

pub cut_is_held : CutIsHeld
cut_is_held = λ old new stretches id e h found low ch. cut_holds old new stretches id e h found low ch
