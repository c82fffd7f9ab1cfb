-- Sessions stay in order, and few; which are open with one more, and without one.
use Rattle.std.proofs.Common.{◌≡◌, ◌≢◌, ◌⊎◌, ℕ, suc, ◌<◌, ◌≤◌, Bool, true, false, ◌||◌, List, [], ◌∷◌, ◌++◌, length, inl, inr, refl, sym, ap, ◌∙◌, subst, arith, tests, true≢false, nat_eq, nat_lt}
use Rattle.std.proofs.lemmas.Bool.{eq-eqb, ne_eqb, or_right}
use Rattle.yd_words.specs.Each.{Each}
use Rattle.yd_words.proofs.EachLemmas.{each_weaker}
use Rattle.yd_sync.proofs.PresenceLemmas.{other_number, same_number, tested}
use Rattle.yd_sync.proofs.RowLemmas.{less_else}
use Rattle.yd_hub.specs.Sessions.{AreSessions, is_open, with_session, without}

pub less_trans : (k m n : ℕ) → nat_lt k m ≡ true → nat_lt m n ≡ true → nat_lt k n ≡ true
less_trans k m n e f = grind (arith, tests)

-- ---- in order, and few

abbrev Later : ℕ → ℕ → Type 0
Later k s = nat_lt k s ≡ true

each_with : (k session : ℕ) (sessions : List ℕ) → Later k session → Each (Later k) sessions → Each (Later k) (with_session session sessions)
each_with k session [] h all = (h, tt)
each_with k session (s ∷ sessions) h all = elim (tested (nat_lt session s)) [
  | inl less ↦ rw less (h, all)
  | inr more ↦ elim (tested (nat_eq session s)) [
    | inl same ↦ rw (more, same) all
    | inr other ↦ rw (more, other) (all.0, each_with k session sessions h all.1)
  ]
]

pub with_sessions : (session : ℕ) (sessions : List ℕ) → AreSessions sessions → AreSessions (with_session session sessions)
with_sessions session [] are = (tt, tt)
with_sessions session (s ∷ sessions) are = elim (tested (nat_lt session s)) [
  | inl less ↦ rw less ((less, each_weaker (Later s) (Later session) (λ t h. less_trans session s t less h) sessions are.0), are)
  | inr more ↦ elim (tested (nat_eq session s)) [
    | inl same ↦ rw (more, same) are
    | inr other ↦ rw (more, other) (each_with s session sessions (less_else session s more other) are.0, with_sessions session sessions are.1)
  ]
]

each_without : (P : ℕ → Type 0) (session : ℕ) (sessions : List ℕ) → Each P sessions → Each P (without session sessions)
each_without P session [] all = tt
each_without P session (s ∷ sessions) all = elim (tested (nat_eq s session)) [
  | inl same ↦ rw same (each_without P session sessions all.1)
  | inr other ↦ rw other (all.0, each_without P session sessions all.1)
]

pub without_sessions : (session : ℕ) (sessions : List ℕ) → AreSessions sessions → AreSessions (without session sessions)
without_sessions session [] are = tt
without_sessions session (s ∷ sessions) are = elim (tested (nat_eq s session)) [
  | inl same ↦ rw same (without_sessions session sessions are.1)
  | inr other ↦ rw other (each_without (Later s) session sessions are.0, without_sessions session sessions are.1)
]

pub with_length : (session : ℕ) (sessions : List ℕ) → length (with_session session sessions) ≤ suc (length sessions)
with_length session [] = omega arith
with_length session (s ∷ sessions) = elim (tested (nat_lt session s)) [
  | inl less ↦ rw less (omega arith)
  | inr more ↦ elim (tested (nat_eq session s)) [
    | inl same ↦ rw (more, same) (omega arith)
    | inr other ↦ rw (more, other) (omega (arith, with_length session sessions))
  ]
]

pub without_length : (session : ℕ) (sessions : List ℕ) → length (without session sessions) ≤ length sessions
without_length session [] = omega arith
without_length session (s ∷ sessions) = elim (tested (nat_eq s session)) [
  | inl same ↦ rw same (omega (arith, without_length session sessions))
  | inr other ↦ rw other (omega (arith, without_length session sessions))
]

-- one that is open leaves room
pub without_falls : (session : ℕ) (sessions : List ℕ) → is_open sessions session ≡ true → length (without session sessions) < length sessions
without_falls session [] e = absurd (true≢false (sym e))
without_falls session (s ∷ sessions) e = elim (tested (nat_eq s session)) [
  | inl same ↦ rw same (omega (arith, without_length session sessions))
  | inr other ↦ rw other (let rest = without_falls session sessions (sym (ap (λ t. or t (is_open sessions session)) other) ∙ e) in omega (arith, rest))
]
  where
    or : Bool → Bool → Bool
    or true u = true
    or false u = u

-- ---- which are open

pub open_front : (s : ℕ) (ss ts : List ℕ) → is_open ss s ≡ true → is_open (ss ++ ts) s ≡ true
open_front s [] ts e = absurd (true≢false (sym e))
open_front s (t ∷ ss) ts e = elim (tested (nat_eq t s)) [
  | inl same ↦ rw same
  | inr other ↦ rw other (open_front s ss ts (sym (ap (λ u. u || is_open ss s) other) ∙ e))
]

pub open_back : (s : ℕ) (ss : List ℕ) → is_open (ss ++ s ∷ []) s ≡ true
open_back s [] = rw (eq-eqb s s refl)
open_back s (t ∷ ss) = or_right (nat_eq t s) (is_open (ss ++ s ∷ []) s) (open_back s ss)

pub open_parts : (s t : ℕ) (ss : List ℕ) → is_open (ss ++ t ∷ []) s ≡ true → (is_open ss s ≡ true) ⊎ (t ≡ s)
open_parts s t [] e = elim (tested (nat_eq t s)) [ inl same ↦ inr (same_number t s same) | inr other ↦ absurd (true≢false (sym e ∙ ap (λ u. u || false) other)) ]
open_parts s t (u ∷ ss) e = elim (tested (nat_eq u s)) [
  | inl same ↦ inl (ap (λ v. v || is_open ss s) same)
  | inr other ↦ elim (open_parts s t ss (sym (ap (λ v. v || is_open (ss ++ t ∷ []) s) other) ∙ e)) [ inl i ↦ inl (rw other i) | inr f ↦ inr f ]
]

-- one that is open and one that is not are two
pub open_differs : (ss : List ℕ) (s t : ℕ) → is_open ss s ≡ true → is_open ss t ≡ false → s ≢ t
open_differs ss s t e f same = true≢false (sym e ∙ ap (λ u. is_open ss u) same ∙ f)

pub without_itself : (s : ℕ) (ss : List ℕ) → is_open (without s ss) s ≡ false
without_itself s [] = refl
without_itself s (t ∷ ss) = elim (tested (nat_eq t s)) [ inl same ↦ rw same (without_itself s ss) | inr other ↦ rw (other, other) (without_itself s ss) ]

pub without_other : (s t : ℕ) (ss : List ℕ) → s ≢ t → is_open (without s ss) t ≡ is_open ss t
without_other s t [] ne = refl
without_other s t (u ∷ ss) ne = elim (tested (nat_eq u s)) [
  | inl same ↦ rw (same, ne_eqb u t (λ e. ne (sym (same_number u s same) ∙ e))) (without_other s t ss ne)
  | inr other ↦ rw other (ap (λ v. nat_eq u t || v) (without_other s t ss ne))
]

pub without_closed : (s t : ℕ) (ss : List ℕ) → is_open ss t ≡ false → is_open (without s ss) t ≡ false
without_closed s t ss e = elim (tested (nat_eq s t)) [
  | inl same ↦ subst (λ u. is_open (without s ss) u ≡ false) (same_number s t same) (without_itself s ss)
  | inr other ↦ without_other s t ss (other_number s t other) ∙ e
]

pub with_itself : (s : ℕ) (ss : List ℕ) → is_open (with_session s ss) s ≡ true
with_itself s [] = rw (eq-eqb s s refl)
with_itself s (t ∷ ss) = elim (tested (nat_lt s t)) [
  | inl less ↦ rw (less, eq-eqb s s refl)
  | inr more ↦ elim (tested (nat_eq s t)) [
    | inl same ↦ rw (more, same) (rw (turned s t same))
    | inr other ↦ rw (more, other) (or_right (nat_eq t s) (is_open (with_session s ss) s) (with_itself s ss))
  ]
]
  where
    turned : (m n : ℕ) → nat_eq m n ≡ true → nat_eq n m ≡ true
    turned m n e = grind (arith, tests)

pub with_other : (s t : ℕ) (ss : List ℕ) → s ≢ t → is_open (with_session s ss) t ≡ is_open ss t
with_other s t [] ne = rw (ne_eqb s t ne)
with_other s t (u ∷ ss) ne = elim (tested (nat_lt s u)) [
  | inl less ↦ rw (less, ne_eqb s t ne)
  | inr more ↦ elim (tested (nat_eq s u)) [
    | inl same ↦ rw (more, same)
    | inr other ↦ rw (more, other) (ap (λ v. nat_eq u t || v) (with_other s t ss ne))
  ]
]
