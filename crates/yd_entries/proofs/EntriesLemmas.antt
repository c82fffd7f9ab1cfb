-- Entries of a list of what was taken: which are held, and that no id is in two.
use Rattle.std.proofs.Common.{◌≡◌, ℕ, zero, suc, ◌<◌, Bool, true, false, cond, List, [], ◌∷◌, inl, inr, length, get_or, refl, sym, ap, ◌∙◌, subst, arith, tests}
use Rattle.std.specs.Prelude.{filter}
use Rattle.yd_words.specs.Member.{IsIn}
use Rattle.yd_words.proofs.MemberLemmas.{each_in, in_each}
use Rattle.yd_words.proofs.FilterLemmas.{kept_one}
use Rattle.yd_words.specs.Each.{Each}
use Rattle.yd_ids.specs.declared.id.Id.{Id}
use Rattle.yd_entries.specs.declared.entry.Entry.{Entry}
use Rattle.yd_entries.specs.Entries.{covers, StandsBefore, AreInOrder}

pub entry_at : (ts : List Entry) (k : ℕ) (d : Entry) → k < length ts → IsIn (get_or ts k d) ts
entry_at [] k d lt = absurd (omega arith)
entry_at (t ∷ ts) zero d lt = inl refl
entry_at (t ∷ ts) (suc k) d lt = inr (entry_at ts k d (omega arith))

-- ---- the entries that pass a test

module _ (test : Entry → Bool) where
  pub each_kept : (P : Entry → Type 0) (ts : List Entry) → Each P ts → Each P (filter test ts)
  each_kept P ts each = in_each P (filter test ts) (λ t i. each_in P ts each t (kept_one test ts t i).1)

  pub order_kept : (ts : List Entry) → AreInOrder ts → AreInOrder (filter test ts)
  order_kept [] order = tt
  order_kept (t ∷ ts) order = go (test t) (order_kept ts order.1)
    where
      go : (b : Bool) → AreInOrder (filter test ts) → AreInOrder (cond b (t ∷ filter test ts) (filter test ts))
      go true rest = (each_kept (StandsBefore t) ts order.0, rest)
      go false rest = rest

-- ---- no id is in two

pub apart : (s t : Entry) (x : Id) → StandsBefore s t → covers s x ≡ true → covers t x ≡ true → ⊥
apart s t x (inl lt) e f = absurd (grind (arith, tests))
apart s t x (inr same) e f = let client = ap (λ c. c.0) same.0 in absurd (grind (arith, tests))

pub one_entry : (ts : List Entry) → AreInOrder ts → (s t : Entry) (x : Id) → IsIn s ts → IsIn t ts → covers s x ≡ true → covers t x ≡ true → s ≡ t
one_entry [] order s t x i j e f = absurd i
one_entry (u ∷ us) order s t x (inl a) (inl b) e f = a ∙ sym b
one_entry (u ∷ us) order s t x (inl a) (inr j) e f = absurd (apart u t x (each_in (StandsBefore u) us order.0 t j) (subst (λ v. covers v x ≡ true) a e) f)
one_entry (u ∷ us) order s t x (inr i) (inl b) e f = absurd (apart u s x (each_in (StandsBefore u) us order.0 s i) (subst (λ v. covers v x ≡ true) b f) e)
one_entry (u ∷ us) order s t x (inr i) (inr j) e f = one_entry us order.1 s t x i j e f
