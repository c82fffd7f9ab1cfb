-- The entries stay the runs at their places: with a run more, and with one cut.
use Rattle.std.proofs.Common.{◌≡◌, ◌≢◌, ℕ, ◌+◌, ◌<◌, ◌≤◌, ◌⊎◌, inl, inr, List, [], ◌∷◌, ◌++◌, length, refl, sym, ap, ◌∙◌, subst, arith}
use Rattle.std.proofs.lemmas.List.{get_or_append_left, get_or_at, length-append}
use Rattle.yd_words.specs.Member.{IsIn}
use Rattle.yd_words.proofs.MemberLemmas.{in_left_part, in_right_part}
use Rattle.yd_scan.specs.declared.stretch.Stretch.{Stretch}
use Rattle.yd_scan.specs.Stretches.{no_stretch, stretch_at}
use Rattle.yd_index.specs.declared.line.Entry.{Entry}
use Rattle.yd_index.specs.Line.{Lined}
use Rattle.yd_index.specs.Lines.{entries_of, next_of, Changes}
use Rattle.yd_index.specs.Holding.{IsStretchOf, StretchesFill, entry_for, Holds}
use Rattle.yd_index.specs.Law.{AddedIsHeld}
use Rattle.yd_index.proofs.LineLemmas.{lt_says}
use Rattle.yd_index.proofs.LinesLemmas.{eq_says}
use Rattle.yd_index.proofs.RowLemmas.{entry_run}

pub run_kept : (stretches more : List Stretch) (k clock : ℕ) (e : Entry) → IsStretchOf stretches k clock e → length stretches ≤ length more → stretch_at more e.place ≡ stretch_at stretches e.place → IsStretchOf more k clock e
run_kept stretches more k clock e o le same = record {
  begins = o.begins;
  within = omega (arith, o.within, le);
  client_is = ap (λ (r : Stretch). r.id.client.0) same ∙ o.client_is;
  clock_is = ap (λ (r : Stretch). r.id.clock) same ∙ o.clock_is;
  filled = subst (λ (r : Stretch). 0 < r.len) (sym same) o.filled;
}

-- other runs, the same at the places of the entries
pub fills_kept : (stretches more : List Stretch) (k : ℕ) (es : List Entry) (from next : ℕ) → StretchesFill stretches k from es next → length stretches ≤ length more → ((x : Entry) → IsIn x es → stretch_at more x.place ≡ stretch_at stretches x.place) →
    StretchesFill more k from es next
fills_kept stretches more k [] from next f le same = f
fills_kept stretches more k (e ∷ es) from next f le same =
    let s = same e (inl refl) in (
      run_kept stretches more k from e f.0 le s,
      subst (λ m. StretchesFill more k (from + m) es next) (sym (ap (λ (r : Stretch). r.len) s)) (fills_kept stretches more k es (from + (stretch_at stretches e.place).len) next f.1 le (λ x h. same x (inr h))),
    )

pub fills_more : (stretches : List Stretch) (k : ℕ) (es : List Entry) (from next : ℕ) (e : Entry) → StretchesFill stretches k from es next → IsStretchOf stretches k next e → StretchesFill stretches k from (es ++ e ∷ []) (next + (stretch_at stretches e.place).len)
fills_more stretches k [] from next e f o = (subst (λ m. IsStretchOf stretches k m e) (sym f) o, ap (λ m. m + (stretch_at stretches e.place).len) f)
fills_more stretches k (g ∷ gs) from next e f o = (f.0, fills_more stretches k gs (from + (stretch_at stretches g.place).len) next e f.1 o)

pub below_or_last : (a b : ℕ) → a < b + 1 → (a < b) ⊎ (a ≡ b)
below_or_last a b lt = elim (lt_says a b) [ inl y ↦ inl y.1 | inr y ↦ inr (omega (arith, lt, y.1)) ]

module _ (old new : List Lined) (stretches : List Stretch) (stretch : Stretch) (h : Holds old stretches) (filled : 0 < stretch.len) (at_next : stretch.id.clock ≡ next_of old stretch.id.client.0)
    (ch : Changes old new stretch.id.client.0 (entries_of old stretch.id.client.0 ++ record { clock = next_of old stretch.id.client.0; place = length stretches } ∷ []) (next_of old stretch.id.client.0 + stretch.len)) where
  abbrev more : List Stretch
  more = stretches ++ stretch ∷ []

  abbrev added : Entry
  added = record { clock = next_of old stretch.id.client.0; place = length stretches }

  more_len : length more ≡ length stretches + 1
  more_len = length-append stretches (stretch ∷ [])

  old_run : (i : ℕ) → i < length stretches → stretch_at more i ≡ stretch_at stretches i
  old_run i lt = get_or_append_left stretches (stretch ∷ []) no_stretch i lt

  new_run : stretch_at more (length stretches) ≡ stretch
  new_run = get_or_at stretches stretch [] no_stretch (length stretches) refl

  old_fill : (k : ℕ) → StretchesFill more k 0 (entries_of old k) (next_of old k)
  old_fill k = fills_kept stretches more k (entries_of old k) 0 (next_of old k) (h.fills k) (omega (arith, more_len)) (λ x m. old_run x.place (entry_run stretches k (entries_of old k) 0 (next_of old k) x (h.fills k) m).within)

  added_run : IsStretchOf more stretch.id.client.0 (next_of old stretch.id.client.0) added
  added_run = record {
    begins = refl;
    within = omega (arith, more_len);
    client_is = ap (λ (r : Stretch). r.id.client.0) new_run;
    clock_is = ap (λ (r : Stretch). r.id.clock) new_run ∙ at_next;
    filled = subst (λ (r : Stretch). 0 < r.len) (sym new_run) filled;
  }

  own_fill : StretchesFill more stretch.id.client.0 0 (entries_of new stretch.id.client.0) (next_of new stretch.id.client.0)
  own_fill =
      let f = fills_more more stretch.id.client.0 (entries_of old stretch.id.client.0) 0 (next_of old stretch.id.client.0) added (old_fill stretch.id.client.0) added_run in
      let g = subst (λ (r : Stretch). StretchesFill more stretch.id.client.0 0 (entries_of old stretch.id.client.0 ++ added ∷ []) (next_of old stretch.id.client.0 + r.len)) new_run f in
      subst (λ n. StretchesFill more stretch.id.client.0 0 (entries_of new stretch.id.client.0) n) (sym ch.next_is) (subst (λ es. StretchesFill more stretch.id.client.0 0 es (next_of old stretch.id.client.0 + stretch.len)) (sym ch.entries_are) g)

  other_fill : (k : ℕ) → k ≢ stretch.id.client.0 → StretchesFill more k 0 (entries_of new k) (next_of new k)
  other_fill k ne = subst (λ n. StretchesFill more k 0 (entries_of new k) n) (sym (ch.other_nexts k ne)) (subst (λ es. StretchesFill more k 0 es (next_of old k)) (sym (ch.other_entries k ne)) (old_fill k))

  new_has : (k : ℕ) (x : Entry) → IsIn x (entries_of old k) → IsIn x (entries_of new k)
  new_has k x m = elim (eq_says k stretch.id.client.0) [
    | inl y ↦ subst (λ j. IsIn x (entries_of new j)) (sym y.1) (subst (IsIn x) (sym ch.entries_are) (in_left_part x (entries_of old stretch.id.client.0) (added ∷ []) (subst (λ j. IsIn x (entries_of old j)) y.1 m)))
    | inr y ↦ subst (IsIn x) (sym (ch.other_entries k y.1)) m
  ]

  abbrev Has : ℕ → Stretch → Type 0
  Has i r = IsIn (record { clock = r.id.clock; place = i }) (entries_of new r.id.client.0)

  new_each : (i : ℕ) → i < length more → 0 < (stretch_at more i).len → IsIn (entry_for more i) (entries_of new (stretch_at more i).id.client.0)
  new_each i lt pos = elim (below_or_last i (length stretches) (omega (arith, lt, more_len))) [
    | inl y ↦ subst (Has i) (sym (old_run i y)) (new_has (stretch_at stretches i).id.client.0 (entry_for stretches i) (h.each i y (subst (λ (r : Stretch). 0 < r.len) (old_run i y) pos)))
    | inr y ↦ subst (λ j. Has j (stretch_at more j)) (sym y) (subst (Has (length stretches)) (sym new_run)
        (subst (λ c. IsIn (record { clock = c; place = length stretches }) (entries_of new stretch.id.client.0)) (sym at_next)
        (subst (IsIn added) (sym ch.entries_are) (in_right_part added (entries_of old stretch.id.client.0) (added ∷ []) (inl refl)))))
  ]

  pub added_holds : Holds new more
  added_holds = record {
    fills = λ k. elim (eq_says k stretch.id.client.0) [
      | inl y ↦ subst (λ j. StretchesFill more j 0 (entries_of new j) (next_of new j)) (sym y.1) own_fill
      | inr y ↦ other_fill k y.1
    ];
    each = new_each;
  }

pub added_is_held : AddedIsHeld
added_is_held = λ old new stretches stretch h filled at_next ch. added_holds old new stretches stretch h filled at_next ch
