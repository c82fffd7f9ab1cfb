-- Readings one after the other.
use Rattle.std.proofs.Common.{◌≡◌, Bool, true, false, cond, Result, Ok, Err, refl}
use Rattle.yd_num.specs.Reading.{◌>>=◌}

-- the first of two readings that gave a value
pub bind_ok : {A B E : Type 0} (r : Result A E) (next : A → Result B E) (y : B) → (r >>= next) ≡ Ok y → (x : A) × (r ≡ Ok x) × (next x ≡ Ok y)
bind_ok (Ok x) next y e = (x, refl, e)
bind_ok (Err cause) next y e = absurd cc

-- one value is given
pub ok_value : {A E : Type 0} (x y : A) → ◌≡◌ {A = Result A E} (Ok x) (Ok y) → x ≡ y
ok_value x y e = cc

-- a test that a value passed
pub passed : {A E : Type 0} (b : Bool) (x y : A) (cause : E) → cond b (Ok x) (Err cause) ≡ Ok y → (b ≡ true) × (x ≡ y)
passed true x y cause e = (refl, cc)
passed false x y cause e = absurd cc

-- a test that a value did not fail
pub reached : {A E : Type 0} (b : Bool) (x y : A) (cause : E) → cond b (Err cause) (Ok x) ≡ Ok y → (b ≡ false) × (x ≡ y)
reached true x y cause e = absurd cc
reached false x y cause e = (refl, cc)
