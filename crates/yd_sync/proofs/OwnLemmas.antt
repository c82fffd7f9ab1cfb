-- One's own state, which nobody else's entry without a state ends.
use Rattle.std.proofs.Common.{◌≡◌, ℕ, suc, ◌-◌, ◌^◌, true, false, ◌&&◌, ◌||◌, List, [], ◌∷◌, Option, Some, None, is_some, is_none, inl, inr, refl, sym, ap, ◌∙◌, subst, true≢false, nat_eq, nat_lt}
use Rattle.std.proofs.lemmas.Bool.{eq-eqb}
use Rattle.yd_words.specs.Member.{IsIn}
use Rattle.yd_ids.specs.declared.id.Client.{Client}
use Rattle.yd_sync.specs.declared.entry.AwareEntry.{AwareEntry}
use Rattle.yd_sync.specs.Standing.{standing_of_entry}
use Rattle.yd_sync.specs.Table.{Row, after_entries, after_entry, ends_own, is_newer_in, is_old, is_own, raised, standing_in, without_states}
use Rattle.yd_sync.proofs.PresenceLemmas.{tested, same_number, other_number, raised_state, after_entry_other, after_entry_this}

-- it would end the own state
pub ends : (own : Client) (table : List Row) (e : AwareEntry) (s : List ℕ) → (standing_in table own.0).state ≡ Some s → e.client.0 ≡ own.0 → e.state ≡ None → ends_own (Some own) table e ≡ true
ends own table e s held same none = rw (eq-eqb own.0 e.client.0 (sym same), none, same, held)

-- raising the clock of a client that has a state
pub raised_clock : (client clock : ℕ) (table : List Row) (s : List ℕ) → (standing_in table client).state ≡ Some s → (standing_in (raised client clock table) client).clock ≡ clock
raised_clock client clock [] s held = absurd (true≢false (sym (ap (λ o. is_some o) held)))
raised_clock client clock (row ∷ rest) s held = elim (tested (nat_eq row.0 client)) [
  | inl same ↦ rw (same, same)
  | inr other ↦ rw (other, other) (raised_clock client clock rest s (subst (λ t. (Rattle.std.specs.Prelude.cond t (record { clock = row.1.clock; state = row.1.state }) (standing_in rest client)).state ≡ Some s) other held))
]

pub own_entry_stays : (own : Client) (now source : ℕ) (e : AwareEntry) (table : List Row) (s : List ℕ) → (standing_in table own.0).state ≡ Some s → (e.client.0 ≡ own.0 → e.state ≡ None) →
    (standing_in (after_entry (Some own) now source e table) own.0).state ≡ Some s
own_entry_stays own now source e table s held none = elim (tested (nat_eq e.client.0 own.0)) [
  | inr other ↦ ap (λ x. x.state) (after_entry_other (Some own) now source e table own.0 (other_number e.client.0 own.0 other)) ∙ held
  | inl same ↦ elim (tested (is_newer_in table e)) [
    | inr old ↦ rw old held
    | inl new ↦ elim (tested (nat_lt e.clock (2 ^ 53 - 1))) [
      | inl less ↦ rw (new, ends own table e s held (same_number e.client.0 own.0 same) (none (same_number e.client.0 own.0 same)), less) (raised_state e.client.0 (suc e.clock) table own.0 ∙ held)
      | inr full ↦ rw (new, ends own table e s held (same_number e.client.0 own.0 same) (none (same_number e.client.0 own.0 same)), full) held
    ]
  ]
]

pub own_stays : (own : Client) (now source : ℕ) (es : List AwareEntry) (table : List Row) (s : List ℕ) → (standing_in table own.0).state ≡ Some s →
    ((e : AwareEntry) → IsIn e es → e.client.0 ≡ own.0 → e.state ≡ None) → (standing_in (after_entries (Some own) now source es table) own.0).state ≡ Some s
own_stays own now source [] table s held none = held
own_stays own now source (e ∷ es) table s held none = own_stays own now source es (after_entry (Some own) now source e table) s
    (own_entry_stays own now source e table s held (none e (inl refl))) (λ f i. none f (inr i))

-- where it would be taken, the own clock rises above it
pub own_rises : (own : Client) (now source : ℕ) (e : AwareEntry) (table : List Row) (s : List ℕ) → (standing_in table own.0).state ≡ Some s → e.client.0 ≡ own.0 → e.state ≡ None →
    is_newer_in table e ≡ true → nat_lt e.clock (2 ^ 53 - 1) ≡ true → (standing_in (after_entry (Some own) now source e table) own.0).clock ≡ suc e.clock
own_rises own now source e table s held same none new less = rw (new, ends own table e s held same none, less)
    (subst (λ c. (standing_in (raised e.client.0 (suc e.clock) table) c).clock ≡ suc e.clock) same (raised_clock e.client.0 (suc e.clock) table s (subst (λ c. (standing_in table c).state ≡ Some s) (sym same) held)))

-- or it is ignored
pub own_full : (own : Client) (now source : ℕ) (e : AwareEntry) (table : List Row) (s : List ℕ) → (standing_in table own.0).state ≡ Some s → e.client.0 ≡ own.0 → e.state ≡ None →
    nat_lt e.clock (2 ^ 53 - 1) ≡ false → after_entry (Some own) now source e table ≡ table
own_full own now source e table s held same none full = elim (tested (is_newer_in table e)) [
  | inr old ↦ rw old
  | inl new ↦ rw (new, ends own table e s held same none, full)
]

-- one with a state and a greater clock is taken
pub own_taken : (own : Client) (now source : ℕ) (e : AwareEntry) (table : List Row) (t : List ℕ) → e.client.0 ≡ own.0 → e.state ≡ Some t → nat_lt (standing_in table own.0).clock e.clock ≡ true →
    standing_in (after_entry (Some own) now source e table) own.0 ≡ standing_of_entry e
own_taken own now source e table t same some less =
    subst (λ c. standing_in (after_entry (Some own) now source e table) c ≡ standing_of_entry e) same
    (after_entry_this (Some own) now source e table (not_ended e.state some)
    ∙ ap (λ u. Rattle.std.specs.Prelude.cond (u || (nat_eq (standing_in table e.client.0).clock e.clock && (is_none e.state && is_some (standing_in table e.client.0).state))) (standing_of_entry e) (standing_in table e.client.0))
    (subst (λ c. nat_lt (standing_in table c).clock e.clock ≡ true) (sym same) less))
  where
    not_ended : (state : Option (List ℕ)) → state ≡ Some t → is_own (Some own) e.client.0 && (is_none state && is_some (standing_in table e.client.0).state) ≡ false
    not_ended None f = absurd (true≢false (sym (ap (λ o. is_some o) f)))
    not_ended (Some u) f = elim (tested (is_own (Some own) e.client.0)) [ inl i ↦ rw i | inr i ↦ rw i ]

-- time does not end it
pub own_not_old : (own : Client) (now : ℕ) (table : List Row) → standing_in (without_states (is_old (Some own) now) table) own.0 ≡ standing_in table own.0
own_not_old own now [] = refl
own_not_old own now (row ∷ rest) = elim (tested (nat_eq row.0 own.0)) [
  | inl same ↦ rw (eq-eqb own.0 row.0 (sym (same_number row.0 own.0 same)), same)
  | inr other ↦ elim (tested (is_old (Some own) now row)) [
    | inl e ↦ rw (e, other) (own_not_old own now rest)
    | inr e ↦ rw (e, other) (own_not_old own now rest)
  ]
]
