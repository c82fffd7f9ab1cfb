-- Of which entries less is told than before, as a walk over them finds it (own).
use Rattle.std.specs.Prelude.{◌≡◌, ◌<◌, ℕ, Bool, true, not, ◌&&◌, ◌||◌, List, Some, slice_get, nat_lt}
use Rattle.yd_words.specs.Member.{IsIn}
use Rattle.yd_entries.specs.declared.entry.Entry.{Entry}
use Rattle.yd_entries.specs.Entries.{is_held, is_listed}

-- whether the units are gone and in a list
abbrev pub is_gone_listed : Entry → Bool
is_gone_listed t = t.is_gone && is_listed t

-- whether the units are held, and gone or of a run from one on
abbrev pub is_held_less : ℕ → Entry → Bool
is_held_less from t = is_held t && (t.is_gone || not (nat_lt t.run from))

-- the numbers are those of the entries that are so, of the first ones
pub record AreHeldLess (from : ℕ) (taken : List Entry) (count : ℕ) (told : List ℕ) : Type 0 where
  pub each : (at : ℕ) → IsIn at told → (t : Entry) × (slice_get taken at ≡ Some t) × (is_held_less from t ≡ true)
  pub all : (at : ℕ) → at < count → (t : Entry) → slice_get taken at ≡ Some t → is_held_less from t ≡ true → IsIn at told
