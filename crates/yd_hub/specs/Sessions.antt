-- Which sessions are open: their numbers, ascending, and at most 1,024 of them (own).
use Rattle.std.specs.Prelude.{◌≡◌, ℕ, Bool, true, false, ◌||◌, List, [], ◌∷◌, if◌then◌else◌, nat_eq, nat_lt}
use Rattle.yd_words.specs.Each.{Each}

-- whether the session is one of them
abbrev pub is_open : List ℕ → ℕ → Bool
is_open [] session = false
is_open (s ∷ sessions) session = nat_eq s session || is_open sessions session

-- sessions ascend
abbrev pub AreSessions : List ℕ → Type 0
AreSessions [] = Unit {0}
AreSessions (s ∷ sessions) = Each (λ later. nat_lt s later ≡ true) sessions × AreSessions sessions

-- the sessions with one more
abbrev pub with_session : ℕ → List ℕ → List ℕ
with_session session [] = session ∷ []
with_session session (s ∷ sessions) =
    if nat_lt session s then session ∷ s ∷ sessions
    else if nat_eq session s then s ∷ sessions
    else s ∷ with_session session sessions

-- the sessions without one
abbrev pub without : ℕ → List ℕ → List ℕ
without session [] = []
without session (s ∷ sessions) = if nat_eq s session then without session sessions else s ∷ without session sessions

-- as many as may be open at once
abbrev pub most_sessions : ℕ
most_sessions = 1024

-- whether the session is the first of them
abbrev pub is_first : List ℕ → ℕ → Bool
is_first [] session = false
is_first (s ∷ sessions) session = nat_eq s session
