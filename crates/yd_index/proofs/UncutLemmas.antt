-- A cut that is undone: the entries without the one that begins at a clock.
use Rattle.std.proofs.Common.{◌≡◌, ◌≢◌, ℕ, zero, suc, ◌+◌, ◌-◌, ◌<◌, ◌≤◌, inl, inr, List, [], ◌∷◌, Some, None, nat_lt, length, get_or, refl, sym, ap, ◌∙◌, subst, arith}
use Rattle.std.specs.Prelude.{remove}
use Rattle.yd_index.specs.declared.line.Entry.{Entry}
use Rattle.yd_words.proofs.OptionLemmas.{some_is}
use Rattle.yd_pieces.specs.Pieces.{IsBoundary}
use Rattle.yd_index.specs.Line.{begin, Fills, Begins, entry_in, with_cut, without_cut}
use Rattle.yd_index.proofs.LineLemmas.{lt_says, at_above, begin_cut, below_next, found_by}
use Rattle.yd_index.proofs.LinesLemmas.{eq_says}

-- without what a cut put in, the entries are the old ones
pub uncut_is : (es : List Entry) (from next clock place : ℕ) (e : Entry) → Fills from es next → entry_in es next clock ≡ Some e → e.clock < clock → without_cut (with_cut es next clock place) clock ≡ es
uncut_is [] from next clock place e f found lt = refl
uncut_is (g ∷ gs) from next clock place e f found lt = elim (lt_says clock (begin gs next)) [
  | inl x ↦ (let same : Some g ≡ Some e = rw x.0 at found in let is : g ≡ e = cc in
      rw x.0 (elim (eq_says g.clock clock) [
        | inl y ↦ absurd (omega (arith, y.1, lt, ap (λ (z : Entry). z.clock) is))
        | inr y ↦ rw y.0 (ap (λ es. g ∷ es) (elim (eq_says clock clock) [ inl z ↦ rw z.0 refl | inr z ↦ absurd (z.1 refl) ]))
      ]))
  | inr x ↦ (let inner : entry_in gs next clock ≡ Some e = rw x.0 at found in
      rw x.0 (elim (eq_says g.clock clock) [
        | inl y ↦ absurd (omega (arith, y.1, x.1, f.0, f.1))
        | inr y ↦ rw y.0 (ap (λ es. g ∷ es) (uncut_is gs (begin gs next) next clock place e f.2 inner lt))
      ]))
]

-- the entry that is taken out is the one at its place
pub removed_is : (es : List Entry) (from next k clock : ℕ) (d : Entry) → Fills from es next → k < length es → (get_or es k d).clock ≡ clock → remove es k ≡ without_cut es clock
removed_is [] from next k clock d f lt e = absurd (omega (arith, lt))
removed_is (g ∷ gs) from next zero clock d f lt e = elim (eq_says g.clock clock) [ inl y ↦ rw y.0 refl | inr y ↦ absurd (y.1 e) ]
removed_is (g ∷ gs) from next (suc k) clock d f lt e = elim (eq_says g.clock clock) [
  | inl y ↦ absurd (omega (arith, y.1, e, f.0, f.1, at_above gs (begin gs next) next k d f.2 (omega (arith, lt))))
  | inr y ↦ rw y.0 (ap (λ es. g ∷ es) (removed_is gs (begin gs next) next k clock d f.2 (omega (arith, lt)) e))
]

-- they still fill the clocks, where the entry is not the first
pub uncut_fills : (es : List Entry) (from next clock : ℕ) → Fills from es next → clock ≢ from → Fills from (without_cut es clock) next
uncut_fills [] from next clock f ne = f
uncut_fills (g ∷ []) from next clock f ne = elim (eq_says g.clock clock) [
  | inl y ↦ absurd (ne (sym y.1 ∙ f.0))
  | inr y ↦ rw y.0 f
]
uncut_fills (g ∷ h ∷ hs) from next clock f ne = elim (eq_says g.clock clock) [
  | inl y ↦ absurd (ne (sym y.1 ∙ f.0))
  | inr y ↦ rw y.0 (elim (eq_says h.clock clock) [
    | inl z ↦ rw z.0 (f.0, omega (arith, f.1, f.2.1), f.2.2)
    | inr z ↦ (let on = uncut_fills (h ∷ hs) h.clock next clock f.2 (λ e. z.1 (sym e)) in
        let kept : without_cut (h ∷ hs) clock ≡ h ∷ without_cut hs clock = rw z.0 refl in
        rw z.0 (f.0, f.1, subst (λ es. Fills h.clock es next) kept on))
  ])
]

-- a cut run begins at the cut
pub cut_found : (es : List Entry) (from next clock place : ℕ) (e : Entry) → Fills from es next → entry_in es next clock ≡ Some e → e.clock < clock →
    entry_in (with_cut es next clock place) next clock ≡ Some (record { clock = clock; place = place })
cut_found [] from next clock place e f found lt = (let no : None ≡ Some e = found in absurd cc)
cut_found (g ∷ gs) from next clock place e f found lt = elim (lt_says clock (begin gs next)) [
  | inl x ↦ rw x.0 (elim (lt_says clock clock) [
    | inl y ↦ absurd (omega (arith, y.1))
    | inr y ↦ rw (y.0, x.0) refl
  ])
  | inr x ↦ (let inner : entry_in gs next clock ≡ Some e = rw x.0 at found in
      let b = begin_cut gs next clock place in
      rw (x.0, b, x.0) (cut_found gs (begin gs next) next clock place e f.2 inner lt))
]

-- what a search by the clock takes out
pub taken_is : (es : List Entry) (next n clock : ℕ) → Fills 0 es next → Begins es next clock → n ≤ length es → IsBoundary (λ e. nat_lt e.clock (clock + 1)) es n →
    (0 < n) × (remove es (n - 1) ≡ without_cut es clock) × Fills 0 (without_cut es clock) next
taken_is es next n clock f b le boundary =
    let by = found_by es next n clock f (below_next es 0 next clock b.entry f b.found) le boundary in
    let is : get_or es (n - 1) b.entry ≡ b.entry = some_is (get_or es (n - 1) b.entry) b.entry (sym (by.1 b.entry).0 ∙ b.found) in
    let at : (get_or es (n - 1) b.entry).clock ≡ clock = ap (λ (x : Entry). x.clock) is ∙ b.begins in (
      by.0,
      removed_is es 0 next (n - 1) clock b.entry f (omega (arith, by.0, le)) at,
      uncut_fills es 0 next clock f (λ e. omega (arith, e, b.later)),
    )
