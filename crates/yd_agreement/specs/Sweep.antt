-- Runs in the order of their first ids, and beside each one its cover (own).
use Rattle.std.specs.Borrow.{Bor}
use Rattle.std.specs.Prelude.{◌≡◌, ℕ, suc, ◌+◌, ◌<◌, ◌⊎◌, ◌&&◌, Bool, List, Option, Some, None, length, take, get_or, nat_eq, nat_lt}
use Rattle.yd_words.specs.Each.{Each}
use Rattle.yd_words.specs.Member.{IsIn}
use Rattle.yd_ids.specs.declared.id.Id.{Id}
use Rattle.yd_ops.specs.Value.{RunValue, len_of}
use Rattle.yd_ops.specs.View.{run_value}
use Rattle.yd_ops.specs.declared.runs.Run.{Run}
use Rattle.yd_agreement.specs.Differing.{HasRange}
use Rattle.yd_agreement.specs.Runs.{AreAscending, ComesBy, EndsBy, IsCover, lent_runs}
use Rattle.yd_agreement.specs.declared.sweep.Sweep.{Sweep}

-- whether the first run is of the second one's client and ends later
abbrev pub ends_later : RunValue → RunValue → Bool
ends_later r s = nat_eq r.id.client.0 s.id.client.0 && nat_lt (s.id.clock + len_of s.content) (r.id.clock + len_of r.content)

-- one of two runs, before which or with which both end
pub record IsLater (r s later : RunValue) : Type 0 where
  pub one : (later ≡ r) ⊎ (later ≡ s)
  pub first : EndsBy r later
  pub other : EndsBy s later

-- beside each of so many runs stands the cover of it and those before it
pub record HaveCovers (runs covers : List RunValue) (count : ℕ) : Type 0 where
  pub count_is : length covers ≡ count
  pub each : (n : ℕ) (d : RunValue) → n < count → IsCover (take (suc n) runs) (get_or covers n d)

-- the runs of a sweep
abbrev pub runs_in : Sweep → List RunValue
runs_in sweep = lent_runs sweep.runs.items

-- the runs come in the order of their first ids, have clocks in range, and have their covers beside them
pub record IsSweep (sweep : Sweep) : Type 0 where
  pub ascending : AreAscending (runs_in sweep)
  pub ranges : Each HasRange (runs_in sweep)
  pub covers : HaveCovers (runs_in sweep) (lent_runs sweep.covers.items) (length (runs_in sweep))

-- of the runs that begin at an id or before it, the run is one that ends last
pub record IsCoverAt (runs : List RunValue) (x : Id) (cover : RunValue) : Type 0 where
  pub there : IsIn cover runs
  pub begins : ComesBy cover.id x
  pub last : (r : RunValue) → IsIn r runs → ComesBy r.id x → EndsBy r cover

-- such a run is lent, or no run begins so
abbrev pub TellsCover : List RunValue → Id → Option (Bor Run) → Type 0
TellsCover runs x None = (r : RunValue) → IsIn r runs → ComesBy r.id x → ⊥
TellsCover runs x (Some cover) = IsCoverAt runs x (run_value cover.now)
