-- The origins of a unit in a list are those that its entry tells.
use Rattle.std.proofs.Common.{◌≡◌, ℕ, suc, ◌-◌, ◌≤◌, true, false, nat_le, Some, inl, inr, refl, sym, ap, ◌∙◌, subst, arith, tests, true≢false}
use Rattle.std.specs.Prelude.{slice_get, if◌then◌else◌}
use Rattle.yd_words.specs.Member.{IsIn}
use Rattle.yd_ids.specs.declared.id.Id.{Id}
use Rattle.yd_ids.proofs.IdLemmas.{same_numbers}
use Rattle.yd_entries.specs.declared.entry.Entry.{Entry}
use Rattle.yd_entries.specs.Entries.{operations_of_taken, covers, is_held, is_listed}
use Rattle.yd_received.specs.Received.{ReceivedValue, held_of}
use Rattle.yd_entries.proofs.EntriesLemmas.{one_entry}
use Rattle.yd_meaning.specs.Held.{is_gone}
use Rattle.yd_meaning.proofs.StandingLemmas.{standing_in}
use Rattle.yd_held.proofs.HeldUnitLemmas.{Follows, id_at, unit_cases, unit_covers, unit_gone}
use Rattle.yd_held.proofs.HeldEntryLemmas.{is_taken, chosen_entry, chosen_written}
use Rattle.yd_honesty.specs.Judging.{IsKept, AreOrigins, left_in}
use Rattle.yd_honesty.proofs.NotingLemmas.{there_is_in}

module _ (r : ReceivedValue) (kept : IsKept r) where
  pub origins_are : (x : Id) (at : ℕ) (t : Entry) → slice_get r.entries at ≡ Some t → covers t x ≡ true → AreOrigins r x (left_in t x) t.right
  origins_are x at t there c o i e =
      let (s, j, passes, own) = chosen_entry is_listed r kept.whole.in_order o i in
      let one : s ≡ t = one_entry r.entries kept.whole.in_order.in_order s t x j (there_is_in r.entries at t there).0
      (subst (λ v. covers s v ≡ true) e (unit_covers r.runs s (is_taken r kept.whole.in_order s j) o own)) c in
      of_entry (subst (λ u. IsIn o (operations_of_taken r.runs u)) one own)
    where
      told : is_gone o ≡ false
      told = (standing_in (held_of r) (chosen_written is_held r kept.whole.in_order) o (subst (λ os. IsIn o os) kept.stands i)).1

      of_entry : IsIn o (operations_of_taken r.runs t) → (left_in t x ≡ o.left_origin) × (t.right ≡ o.right_origin)
      of_entry own = elim (unit_cases r.runs t (is_taken r kept.whole.in_order t (there_is_in r.entries at t there).0) o own) [
        | inl first ↦ (left_first x.clock (omega (arith, ap (λ (v : Id). v.clock) (sym e ∙ first.has_id))) ∙ sym first.has_left, sym first.has_right)
        | inr (k, later) ↦ (left_later k later (sym e ∙ later.has_id), sym later.has_right)
      ]
        where
          left_first : (n : ℕ) → n ≤ t.id.clock → (if nat_le n t.id.clock then t.left else Some (record { client = x.client; clock = n - 1 })) ≡ t.left
          left_first n le = grind (arith, tests)

          above : (k : ℕ) → t.id.clock ≤ k → left_in t (id_at t.id.client (suc k)) ≡ Some (id_at t.id.client k)
          above k le = ap (λ b. if b then t.left else Some (record { client = t.id.client; clock = suc k - 1 })) (test k le)
              ∙ ap (λ v. Some v) (same_numbers (id_at t.id.client (suc k - 1)) (id_at t.id.client k) refl (omega arith))
            where
              test : (m : ℕ) → t.id.clock ≤ m → nat_le (suc m) t.id.clock ≡ false
              test m low = grind (arith, tests)

          left_later : (k : ℕ) → Follows t o k → x ≡ id_at t.id.client (suc k) → left_in t x ≡ o.left_origin
          left_later k later is = elim later.has_left [
            | inl f ↦ subst (λ v. left_in t v ≡ Some (id_at t.id.client k)) (sym is) (above k later.above) ∙ sym f
            | inr gone ↦ absurd (true≢false (sym gone.0 ∙ sym (unit_gone r.runs t (is_taken r kept.whole.in_order t (there_is_in r.entries at t there).0) o own) ∙ told))
          ]
