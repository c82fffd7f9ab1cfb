-- The last entry of a client is taken out.
use Rattle.std.proofs.Common.{◌≡◌, ℕ, zero, suc, ◌<◌, List, [], ◌∷◌, ◌++◌, length, get_or, refl, sym, ap, arith}
use Rattle.std.specs.Prelude.{remove}
use Rattle.yd_index.specs.declared.line.Entry.{Entry}
use Rattle.yd_index.specs.Line.{Fills}

pub some_entry : (es : List Entry) (next : ℕ) → Fills 0 es next → 0 < next → 0 < length es
some_entry [] next f pos = absurd (omega (arith, f, pos))
some_entry (e ∷ es) next f pos = omega arith

pub last_split : (es : List Entry) (k : ℕ) (d : Entry) → suc k ≡ length es → es ≡ remove es k ++ get_or es k d ∷ []
last_split [] k d e = absurd (omega (arith, e))
last_split (x ∷ []) zero d e = refl
last_split (x ∷ y ∷ ys) zero d e = absurd (omega (arith, e))
last_split (x ∷ xs) (suc k) d e = ap (λ es. x ∷ es) (last_split xs k d (omega (arith, e)))

-- the others fill the clocks up to it
pub fills_front : (front : List Entry) (e : Entry) (from next : ℕ) → Fills from (front ++ e ∷ []) next → Fills from front e.clock
fills_front [] e from next f = sym f.0
fills_front (g ∷ []) e from next f = (f.0, f.1, refl)
fills_front (g ∷ h ∷ hs) e from next f = (f.0, f.1, fills_front (h ∷ hs) e h.clock next f.2)
