-- The table stays in order, whatever comes.
use Rattle.std.proofs.Common.{◌≡◌, ℕ, suc, ◌-◌, ◌^◌, Bool, true, false, List, [], ◌∷◌, Option, inl, inr, sym, subst, arith, tests, nat_eq, nat_lt}
use Rattle.yd_words.specs.Each.{Each}
use Rattle.yd_words.proofs.EachLemmas.{each_weaker}
use Rattle.yd_ids.specs.declared.id.Client.{Client}
use Rattle.yd_sync.specs.declared.entry.AwareEntry.{AwareEntry}
use Rattle.yd_sync.specs.Table.{AreRows, Row, after_entries, after_entry, ends_own, is_newer_in, raised, seated, without_states}
use Rattle.yd_sync.proofs.PresenceLemmas.{tested, same_number}

less_trans : (k m n : ℕ) → nat_lt k m ≡ true → nat_lt m n ≡ true → nat_lt k n ≡ true
less_trans k m n e f = grind (arith, tests)

pub less_else : (m n : ℕ) → nat_lt m n ≡ false → nat_eq m n ≡ false → nat_lt n m ≡ true
less_else m n e f = grind (arith, tests)

-- ---- rows

-- the client stands in front of the row
abbrev pub Behind : ℕ → Row → Type 0
Behind client row = nat_lt client row.0 ≡ true

each_seated : (k : ℕ) (row : Row) (table : List Row) → Behind k row → Each (Behind k) table → Each (Behind k) (seated row table)
each_seated k row [] h all = (h, tt)
each_seated k row (first ∷ rest) h all = elim (tested (nat_lt row.0 first.0)) [
  | inl less ↦ rw less (h, all)
  | inr more ↦ elim (tested (nat_eq row.0 first.0)) [
    | inl same ↦ rw (more, same) (h, all.1)
    | inr other ↦ rw (more, other) (all.0, each_seated k row rest h all.1)
  ]
]

pub seated_rows : (row : Row) (table : List Row) → AreRows table → AreRows (seated row table)
seated_rows row [] are = (tt, tt)
seated_rows row (first ∷ rest) are = elim (tested (nat_lt row.0 first.0)) [
  | inl less ↦ rw less ((less, each_weaker (Behind first.0) (Behind row.0) (λ s h. less_trans row.0 first.0 s.0 less h) rest are.0), are)
  | inr more ↦ elim (tested (nat_eq row.0 first.0)) [
    | inl same ↦ rw (more, same) (subst (λ k. Each (Behind k) rest) (sym (same_number row.0 first.0 same)) are.0, are.1)
    | inr other ↦ rw (more, other) (each_seated first.0 row rest (less_else row.0 first.0 more other) are.0, seated_rows row rest are.1)
  ]
]

each_raised : (k client clock : ℕ) (table : List Row) → Each (Behind k) table → Each (Behind k) (raised client clock table)
each_raised k client clock [] all = tt
each_raised k client clock (row ∷ rest) all = elim (tested (nat_eq row.0 client)) [
  | inl same ↦ rw same (all.0, all.1)
  | inr other ↦ rw other (all.0, each_raised k client clock rest all.1)
]

pub raised_rows : (client clock : ℕ) (table : List Row) → AreRows table → AreRows (raised client clock table)
raised_rows client clock [] are = tt
raised_rows client clock (row ∷ rest) are = elim (tested (nat_eq row.0 client)) [
  | inl same ↦ rw same (are.0, are.1)
  | inr other ↦ rw other (each_raised row.0 client clock rest are.0, raised_rows client clock rest are.1)
]

each_emptied : (k : ℕ) (test : Row → Bool) (table : List Row) → Each (Behind k) table → Each (Behind k) (without_states test table)
each_emptied k test [] all = tt
each_emptied k test (row ∷ rest) all = elim (tested (test row)) [
  | inl e ↦ rw e (all.0, each_emptied k test rest all.1)
  | inr e ↦ rw e (all.0, each_emptied k test rest all.1)
]

pub emptied_rows : (test : Row → Bool) (table : List Row) → AreRows table → AreRows (without_states test table)
emptied_rows test [] are = tt
emptied_rows test (row ∷ rest) are = elim (tested (test row)) [
  | inl e ↦ rw e (each_emptied row.0 test rest are.0, emptied_rows test rest are.1)
  | inr e ↦ rw e (each_emptied row.0 test rest are.0, emptied_rows test rest are.1)
]

pub after_entry_rows : (own : Option Client) (now source : ℕ) (e : AwareEntry) (table : List Row) → AreRows table → AreRows (after_entry own now source e table)
after_entry_rows own now source e table are = elim (tested (is_newer_in table e)) [
  | inr old ↦ rw old are
  | inl new ↦ elim (tested (ends_own own table e)) [
    | inr other ↦ rw (new, other) (seated_rows (e.client.0, record { clock = e.clock; state = e.state; moment = now; source = source }) table are)
    | inl ends ↦ elim (tested (nat_lt e.clock (2 ^ 53 - 1))) [ inl less ↦ rw (new, ends, less) (raised_rows e.client.0 (suc e.clock) table are) | inr full ↦ rw (new, ends, full) are ]
  ]
]

pub after_entries_rows : (own : Option Client) (now source : ℕ) (es : List AwareEntry) (table : List Row) → AreRows table → AreRows (after_entries own now source es table)
after_entries_rows own now source [] table are = are
after_entries_rows own now source (e ∷ es) table are = after_entries_rows own now source es (after_entry own now source e table) (after_entry_rows own now source e table are)
