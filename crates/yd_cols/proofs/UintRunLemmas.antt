-- Runs of numbers are read as they are spelled, and fail where they are lacking.
use Rattle.std.proofs.Common.{◌≡◌, ◌∙◌, ◌^◌, ℕ, zero, suc, Bool, true, false, cond, List, [], ◌++◌, Result, Ok, Err, refl, ap, sym, subst, append_assoc}
use Rattle.std.proofs.lemmas.Bool.{lt-ltb, ltb-true}
use Rattle.std.proofs.Common.{ltb}
use Rattle.yd_cols.specs.Column.{SpellsMore, SpellsUintRun, has_more}
use Rattle.yd_cols.specs.Reading.{more_at, uint_run_at}
use Rattle.yd_cols.specs.declared.run.Run.{Run}
use Rattle.yd_num.specs.Grammar.{Joins}
use Rattle.yd_num.specs.Law.{Skips}
use Rattle.yd_num.specs.Number.{unsigned_at}
use Rattle.yd_num.specs.Reading.{Cause, number_too_large, ◌>>=◌}
use Rattle.yd_num.specs.Signed.{SpellsSigned, signed_at}
use Rattle.yd_num.specs.declared.signed.Signed.{Signed}
use Rattle.yd_num.proofs.NumberLemmas.{unsigned_found, unsigned_only}
use Rattle.yd_num.proofs.ReadingLemmas.{bind_ok, ok_value}
use Rattle.yd_num.proofs.SignedLemmas.{signed_found, signed_only}

-- ---- the count

-- bytes that spell how many more, and then these
abbrev pub MoreThen : ℕ → List ℕ → List ℕ → Type 0
MoreThen more rest bytes = Joins (λ front. SpellsMore front more) (λ back. back ≡ rest) bytes

pub more_found : (is_more : Bool) (bytes : List ℕ) (more : ℕ) (rest : List ℕ) → more_at is_more bytes ≡ Ok (more, rest) → (has_more more ≡ is_more) × MoreThen more rest bytes
unfolding more_at
more_found false bytes more rest read =
    let same = ok_value {E = Cause} (0, bytes) (more, rest) read in
    subst (λ (y : ℕ × List ℕ). (has_more y.0 ≡ false) × MoreThen y.0 y.1 bytes) same (refl, record { front = []; back = bytes; is_front = refl; is_back = refl; joined = refl })
more_found true bytes more rest read =
    let h = bind_ok (unsigned_at bytes) (λ count. Ok (suc count.0, count.1)) (more, rest) read in
    let same = ok_value {E = Cause} (suc h.0.0, h.0.1) (more, rest) h.2 in
    subst (λ (y : ℕ × List ℕ). (has_more y.0 ≡ true) × MoreThen y.0 y.1 bytes) same (refl, unsigned_found bytes h.0.0 h.0.1 h.1)

pub more_again : (front : List ℕ) (more : ℕ) (rest : List ℕ) → SpellsMore front more → more_at (has_more more) (front ++ rest) ≡ Ok (more, rest)
unfolding more_at
more_again front zero rest spelled = rw spelled refl
more_again front (suc more) rest spelled = rw (unsigned_only front more rest spelled) refl

-- a number is spelled, and behind it how many more
pub joined_then : (Number : List ℕ → Type 0) (more : ℕ) (bytes middle rest : List ℕ) → Joins Number (λ back. back ≡ middle) bytes → MoreThen more rest middle →
    Joins (λ front. Joins Number (λ back. SpellsMore back more) front) (λ back. back ≡ rest) bytes
joined_then Number more bytes middle rest number count = record {
  front = number.front ++ count.front;
  back = rest;
  is_front = record { front = number.front; back = count.front; is_front = number.is_front; is_back = count.is_front; joined = refl };
  is_back = refl;
  joined = number.joined ∙ ap (λ b. number.front ++ b) (number.is_back ∙ count.joined ∙ ap (λ b. count.front ++ b) count.is_back) ∙ sym (append_assoc number.front count.front rest);
}

-- a test that a reading passed
pub chosen : {A E : Type 0} (b : Bool) (r : Result A E) (cause : E) (y : A) → cond b r (Err cause) ≡ Ok y → (b ≡ true) × (r ≡ Ok y)
chosen true r cause y e = (refl, e)
chosen false r cause y e = absurd cc

-- ---- runs

uint_found : (bytes : List ℕ) (run : Run ℕ) (rest : List ℕ) → uint_run_at bytes ≡ Ok (run, rest) → Joins (λ front. SpellsUintRun front run) (λ back. back ≡ rest) bytes
unfolding uint_run_at
uint_found bytes run rest read =
    let h = bind_ok (signed_at bytes) (λ number. cond (ltb number.0.size (2 ^ 53)) (more_at number.0.negative number.1 >>= λ more. Ok (record { value = number.0.size; more = more.0 }, more.1)) (Err number_too_large)) (run, rest) read in
    let c = chosen (ltb h.0.0.size (2 ^ 53)) (more_at h.0.0.negative h.0.1 >>= λ more. Ok (record { value = h.0.0.size; more = more.0 }, more.1)) number_too_large (run, rest) h.2 in
    let m = bind_ok (more_at h.0.0.negative h.0.1) (λ more. Ok (record { value = h.0.0.size; more = more.0 }, more.1)) (run, rest) c.1 in
    let same = ok_value {E = Cause} (record { value = h.0.0.size; more = m.0.0 }, m.0.1) (run, rest) m.2 in
    let count = more_found h.0.0.negative h.0.1 m.0.0 m.0.1 m.1 in
    let number = signed_found bytes h.0.0 h.0.1 h.1 in
    let number_is : h.0.0 ≡ record { negative = has_more m.0.0; size = h.0.0.size } = ap (λ negative. record { negative = negative; size = h.0.0.size }) (sym count.0) in
    let both = joined_then (λ front. SpellsSigned front (record { negative = has_more m.0.0; size = h.0.0.size })) m.0.0 bytes h.0.1 m.0.1 (subst (λ n. Joins (λ front. SpellsSigned front n) (λ back. back ≡ h.0.1) bytes) number_is number) count.1 in
    subst (λ (y : Run ℕ × List ℕ). Joins (λ front. SpellsUintRun front y.0) (λ back. back ≡ y.1) bytes) same
    (record { front = both.front; back = both.back; is_front = record { in_range = ltb-true h.0.0.size (2 ^ 53) c.0; spelled = both.is_front }; is_back = both.is_back; joined = both.joined })

uint_only : (front : List ℕ) (run : Run ℕ) (rest : List ℕ) → SpellsUintRun front run → uint_run_at (front ++ rest) ≡ Ok (run, rest)
unfolding uint_run_at
uint_only front run rest spells =
    let s = spells.spelled in
    let number : Signed = record { negative = has_more run.more; size = run.value } in
    let at_front : signed_at (front ++ rest) ≡ Ok (number, s.back ++ rest) = ap (λ b. signed_at (b ++ rest)) s.joined ∙ ap signed_at (append_assoc s.front s.back rest) ∙ signed_only s.front number (s.back ++ rest) s.is_front in
    rw (at_front, lt-ltb run.value (2 ^ 53) spells.in_range, more_again s.back run.more rest s.is_back) refl

pub uint_skips : Skips uint_run_at SpellsUintRun
uint_skips = record { found = uint_found; only = uint_only }
