-- Bytes that come on a connection and bytes that go, where they are known (own).
use Rattle.std.specs.Prelude.{◌≡◌, ◌<◌, ℕ, List, Option, Result, MatchResult, length, take}
use Rattle.std.specs.Io.KnownBytes.{prepend_known, append_known, IsAtEnd}

-- so many bytes came, none only at the end or into no room, and none where the call failed
abbrev pub Comes : {E : Type 0} → Option (List ℕ) → Option (List ℕ) → Result ℕ E → List ℕ → Type 0
Comes old new r buf = MatchResult r
    (λ n. (old ≡ prepend_known (take n buf) new) × (n ≡ 0 → 0 < length buf → IsAtEnd new))
    (λ _. new ≡ old)

-- so many bytes of the piece went, and none where the call failed
abbrev pub Goes : {E : Type 0} → Option (List ℕ) → Option (List ℕ) → Result ℕ E → List ℕ → Type 0
Goes old new r piece = MatchResult r (λ n. new ≡ append_known old (take n piece)) (λ _. new ≡ old)

-- what was kept, and then what is to come on the connection below
abbrev pub all_to_come : List ℕ → Option (List ℕ) → Option (List ℕ)
all_to_come held coming = prepend_known held coming
