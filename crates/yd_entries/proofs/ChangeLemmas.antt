-- An entry that changes at its index: which entries stay.
use Rattle.std.proofs.Common.{◌≡◌, ℕ, zero, suc, Bool, true, false, cond, List, [], ◌∷◌, ◌⊎◌, inl, inr, Some, length, set, refl, sym, ap, ◌∙◌}
use Rattle.std.specs.Prelude.{filter, slice_get}
use Rattle.yd_words.specs.Member.{IsIn}
use Rattle.yd_words.proofs.OptionLemmas.{some_is}
use Rattle.yd_entries.specs.declared.entry.Entry.{Entry}

-- the entry at an index is one of them
pub entry_got : (ts : List Entry) (at : ℕ) (t : Entry) → slice_get ts at ≡ Some t → IsIn t ts
entry_got [] at t e = absurd cc
entry_got (s ∷ ss) zero t e = inl (sym (some_is s t e))
entry_got (s ∷ ss) (suc at) t e = inr (entry_got ss at t e)

-- ---- another entry at a place

module _ (t u : Entry) where
  pub set_has_new : (ts : List Entry) (at : ℕ) → slice_get ts at ≡ Some t → IsIn u (set ts at u)
  set_has_new [] at e = absurd cc
  set_has_new (s ∷ ss) zero e = inl refl
  set_has_new (s ∷ ss) (suc at) e = inr (set_has_new ss at e)

  pub set_has_at : (ts : List Entry) (at : ℕ) → slice_get ts at ≡ Some t → slice_get (set ts at u) at ≡ Some u
  set_has_at [] at e = absurd cc
  set_has_at (s ∷ ss) zero e = refl
  set_has_at (s ∷ ss) (suc at) e = set_has_at ss at e

  pub set_has : (ts : List Entry) (at : ℕ) → slice_get ts at ≡ Some t → (s : Entry) → IsIn s ts → (s ≡ t) ⊎ IsIn s (set ts at u)
  set_has [] at e s i = absurd i
  set_has (r ∷ rs) zero e s (inl f) = inl (f ∙ some_is r t e)
  set_has (r ∷ rs) zero e s (inr i) = inr (inr i)
  set_has (r ∷ rs) (suc at) e s (inl f) = inr (inl f)
  set_has (r ∷ rs) (suc at) e s (inr i) = elim (set_has rs at e s i) [ inl f ↦ inl f | inr j ↦ inr (inr j) ]

  pub set_is : (ts : List Entry) (at : ℕ) (s : Entry) → IsIn s (set ts at u) → (s ≡ u) ⊎ IsIn s ts
  set_is [] at s i = absurd i
  set_is (r ∷ rs) zero s (inl e) = inl e
  set_is (r ∷ rs) zero s (inr i) = inr (inr i)
  set_is (r ∷ rs) (suc at) s (inl e) = inr (inl e)
  set_is (r ∷ rs) (suc at) s (inr i) = elim (set_is rs at s i) [ inl e ↦ inl e | inr j ↦ inr (inr j) ]

  -- a test that both fail keeps the same
  pub filter-set : (test : Entry → Bool) → test t ≡ false → test u ≡ false → (ts : List Entry) (at : ℕ) → slice_get ts at ≡ Some t →
      filter test (set ts at u) ≡ filter test ts
  filter-set test old new [] at e = refl
  filter-set test old new (s ∷ ss) zero e = rw (new, ap test (some_is s t e) ∙ old) refl
  filter-set test old new (s ∷ ss) (suc at) e = ap (λ rest. cond (test s) (s ∷ rest) rest) (filter-set test old new ss at e)

  -- and of a test that the new one passes alone one more
  pub filter-grows : (test : Entry → Bool) → test t ≡ false → test u ≡ true → (ts : List Entry) (at : ℕ) → slice_get ts at ≡ Some t →
      length (filter test (set ts at u)) ≡ suc (length (filter test ts))
  filter-grows test old new [] at e = absurd cc
  filter-grows test old new (s ∷ ss) zero e = rw (new, ap test (some_is s t e) ∙ old) refl
  filter-grows test old new (s ∷ ss) (suc at) e = go (test s) (filter-grows test old new ss at e)
    where
      go : (b : Bool) → length (filter test (set ss at u)) ≡ suc (length (filter test ss)) →
          length (cond b (s ∷ filter test (set ss at u)) (filter test (set ss at u))) ≡ suc (length (cond b (s ∷ filter test ss) (filter test ss)))
      go true rest = ap suc rest
      go false rest = rest
