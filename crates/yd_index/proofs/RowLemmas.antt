-- The index and the runs at the places of its entries.
use Rattle.std.proofs.Common.{◌≡◌, ◌≢◌, ℕ, zero, suc, ◌+◌, ◌<◌, ◌≤◌, inl, inr, List, [], ◌∷◌, Option, Some, None, length, refl, sym, ap, ap₂, subst, arith}
use Rattle.yd_ids.specs.declared.id.Id.{Id}
use Rattle.yd_ids.specs.declared.id.Client.{Client}
use Rattle.yd_words.specs.Member.{IsIn}
use Rattle.yd_scan.specs.declared.stretch.Stretch.{Stretch}
use Rattle.yd_scan.specs.Stretches.{units_from, units_of, stretch_at}
use Rattle.yd_index.specs.declared.line.Entry.{Entry}
use Rattle.yd_index.specs.Line.{Lined, begin, Fills, entry_in}
use Rattle.yd_index.specs.Lines.{entries_of, next_of, entry_at}
use Rattle.yd_index.specs.Holding.{place_in, places_of, IsStretchOf, StretchesFill, entry_for, Holds}
use Rattle.yd_index.specs.Law.{IndexFinds, IndexIsExact}
use Rattle.yd_index.proofs.LineLemmas.{lt_says, begins, none_from}
use Rattle.yd_index.proofs.LinesLemmas.{eq_says}

-- ---- the ids of units in a row

abbrev id_of : Client → ℕ → Id
id_of client clock = record { client = client; clock = clock }

abbrev client_of : ℕ → Client
client_of n = record { 0 = n }

pub from_says : (client : Client) (n clock : ℕ) (u : Id) → IsIn u (units_from client clock n) → (u.client ≡ client) × (clock ≤ u.clock) × (u.clock < clock + n)
from_says client zero clock u h = absurd h
from_says client (suc n) clock u (inl e) = (ap (λ (x : Id). x.client) e, omega (arith, ap (λ (x : Id). x.clock) e), omega (arith, ap (λ (x : Id). x.clock) e))
from_says client (suc n) clock u (inr h) = let r = from_says client n (suc clock) u h in (r.0, omega (arith, r.1), omega (arith, r.2))

pub from_in : (client : Client) (n clock : ℕ) (u : Id) → u.client ≡ client → clock ≤ u.clock → u.clock < clock + n → IsIn u (units_from client clock n)
from_in client zero clock u e low high = absurd (omega (arith, low, high))
from_in client (suc n) clock u e low high = elim (eq_says u.clock clock) [
  | inl x ↦ inl (ap₂ id_of e x.1)
  | inr x ↦ inr (from_in client n (suc clock) u e (above u.clock clock low x.1) (omega (arith, high)))
]
  where
    above : (a b : ℕ) → b ≤ a → a ≢ b → suc b ≤ a
    above a b ge ne = elim (lt_says b a) [ inl y ↦ omega (arith, y.1) | inr y ↦ absurd (ne (omega (arith, ge, y.1))) ]

-- ---- one client

module _ (stretches : List Stretch) (k : ℕ) where
  pub fills_of : (es : List Entry) (from next : ℕ) → StretchesFill stretches k from es next → Fills from es next
  fills_of [] from next f = f
  fills_of (e ∷ es) from next f =
      let r = fills_of es (from + (stretch_at stretches e.place).len) next f.1 in
      let b = begins es (from + (stretch_at stretches e.place).len) next r in
      (f.0.begins, omega (arith, b, f.0.filled), subst (λ m. Fills m es next) (sym b) r)

  pub begin_is : (e : Entry) (es : List Entry) (from next : ℕ) → StretchesFill stretches k from (e ∷ es) next → begin es next ≡ from + (stretch_at stretches e.place).len
  begin_is e es from next f = begins es (from + (stretch_at stretches e.place).len) next (fills_of es (from + (stretch_at stretches e.place).len) next f.1)

  pub entry_above : (es : List Entry) (from next : ℕ) (x : Entry) → StretchesFill stretches k from es next → IsIn x es → from ≤ x.clock
  entry_above [] from next x f h = absurd h
  entry_above (e ∷ es) from next x f (inl s) = omega (arith, f.0.begins, ap (λ (y : Entry). y.clock) s)
  entry_above (e ∷ es) from next x f (inr h) = omega (arith, entry_above es (from + (stretch_at stretches e.place).len) next x f.1 h)

  pub entry_run : (es : List Entry) (from next : ℕ) (x : Entry) → StretchesFill stretches k from es next → IsIn x es → IsStretchOf stretches k x.clock x
  entry_run [] from next x f h = absurd h
  entry_run (e ∷ es) from next x f (inl s) = subst (λ (y : Entry). IsStretchOf stretches k y.clock y) (sym s) (subst (λ m. IsStretchOf stretches k m e) (sym f.0.begins) f.0)
  entry_run (e ∷ es) from next x f (inr h) = entry_run es (from + (stretch_at stretches e.place).len) next x f.1 h

  pub found_run : (es : List Entry) (from next clock : ℕ) (x : Entry) → StretchesFill stretches k from es next → IsIn x es → x.clock ≤ clock → clock < x.clock + (stretch_at stretches x.place).len → entry_in es next clock ≡ Some x
  found_run [] from next clock x f h low high = absurd h
  found_run (e ∷ es) from next clock x f (inl s) low high = elim (lt_says clock (begin es next)) [
    | inl y ↦ rw y.0 (ap Some (sym s))
    | inr y ↦ absurd (omega (arith, y.1, begin_is e es from next f, f.0.begins, subst (λ (z : Entry). clock < z.clock + (stretch_at stretches z.place).len) s high))
  ]
  found_run (e ∷ es) from next clock x f (inr h) low high = elim (lt_says clock (begin es next)) [
    | inl y ↦ absurd (omega (arith, y.1, begin_is e es from next f, low, entry_above es (from + (stretch_at stretches e.place).len) next x f.1 h))
    | inr y ↦ rw y.0 (found_run es (from + (stretch_at stretches e.place).len) next clock x f.1 h low high)
  ]

  pub only_run : (es : List Entry) (from next clock : ℕ) (x : Entry) → StretchesFill stretches k from es next → from ≤ clock → entry_in es next clock ≡ Some x →
      IsIn x es × (x.clock ≤ clock) × (clock < x.clock + (stretch_at stretches x.place).len)
  only_run [] from next clock x f low e = (let no : None ≡ Some x = e in absurd cc)
  only_run (g ∷ gs) from next clock x f low e = elim (lt_says clock (begin gs next)) [
    | inl y ↦ (let same : Some g ≡ Some x = rw y.0 at e in let is : x ≡ g = cc in
        (inl is, omega (arith, low, f.0.begins, ap (λ (z : Entry). z.clock) is), subst (λ (z : Entry). clock < z.clock + (stretch_at stretches z.place).len) (sym is) (omega (arith, y.1, begin_is g gs from next f, f.0.begins))))
    | inr y ↦ (let inner : entry_in gs next clock ≡ Some x = rw y.0 at e in
        let r = only_run gs (from + (stretch_at stretches g.place).len) next clock x f.1 (omega (arith, y.1, begin_is g gs from next f)) inner in (inr r.0, r.1, r.2))
  ]

  -- below the next clock an entry is found
  pub some_below : (es : List Entry) (from next clock : ℕ) → StretchesFill stretches k from es next → from ≤ clock → clock < next → entry_in es next clock ≡ None → ⊥
  some_below [] from next clock f low high e = absurd (omega (arith, f, low, high))
  some_below (g ∷ gs) from next clock f low high e = elim (lt_says clock (begin gs next)) [
    | inl y ↦ (let no : Some g ≡ None = rw y.0 at e in absurd cc)
    | inr y ↦ (let inner : entry_in gs next clock ≡ None = rw y.0 at e in
        some_below gs (from + (stretch_at stretches g.place).len) next clock f.1 (omega (arith, y.1, begin_is g gs from next f)) high inner)
  ]

-- ---- all clients

module _ (lines : List Lined) (stretches : List Stretch) (h : Holds lines stretches) where
  index_found : (i : ℕ) (u : Id) → i < length stretches → IsIn u (units_of (stretch_at stretches i)) → places_of lines u ≡ Some i
  index_found i u lt m =
      let stretch = stretch_at stretches i in
      let s = from_says stretch.id.client stretch.len stretch.id.clock u m in
      let k = stretch.id.client.0 in
      let e = found_run stretches k (entries_of lines k) 0 (next_of lines k) u.clock (entry_for stretches i) (h.fills k) (h.each i lt (omega (arith, s.1, s.2))) s.1 s.2 in
      subst (λ (c : Client). place_in (entry_in (entries_of lines c.0) (next_of lines c.0) u.clock) ≡ Some i) (sym s.0) (ap place_in e)

  index_only : (i : ℕ) (u : Id) → places_of lines u ≡ Some i → (i < length stretches) × IsIn u (units_of (stretch_at stretches i))
  index_only i u e = go (entry_at lines u) refl e
    where
      go : (z : Option Entry) → entry_at lines u ≡ z → place_in z ≡ Some i → (i < length stretches) × IsIn u (units_of (stretch_at stretches i))
      go None s e = (let no : None ≡ Some i = e in absurd cc)
      go (Some x) s e =
          let same : Some x.place ≡ Some i = e in
          let is : x.place ≡ i = cc in
          let k = u.client.0 in
          let r = only_run stretches k (entries_of lines k) 0 (next_of lines k) u.clock x (h.fills k) (omega arith) s in
          let o = entry_run stretches k (entries_of lines k) 0 (next_of lines k) x (h.fills k) r.0 in
          let stretch = stretch_at stretches x.place in
          subst (λ j. (j < length stretches) × IsIn u (units_of (stretch_at stretches j))) is
          (o.within, from_in stretch.id.client stretch.len stretch.id.clock u (ap client_of (sym o.client_is)) (omega (arith, r.1, o.clock_is)) (omega (arith, r.2, o.clock_is)))

pub index_finds : IndexFinds
index_finds = λ lines stretches h. record { found = index_found lines stretches h; only = index_only lines stretches h }

pub index_is_exact : IndexIsExact
index_is_exact = λ lines stretches id h.
    let k = id.client.0 in (
      (λ e. elim (lt_says id.clock (next_of lines k)) [
        | inl y ↦ absurd (some_below stretches k (entries_of lines k) 0 (next_of lines k) id.clock (h.fills k) (omega arith) y.1 e)
        | inr y ↦ y.1
      ]),
      (λ ge. none_from (entries_of lines k) 0 (next_of lines k) id.clock (fills_of stretches k (entries_of lines k) 0 (next_of lines k) (h.fills k)) ge),
    )
