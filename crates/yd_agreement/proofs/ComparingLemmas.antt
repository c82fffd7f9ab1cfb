-- A run that is compared with the cover of those before it.
use Rattle.std.proofs.Common.{◌≡◌, ℕ, suc, ◌+◌, ◌<◌, ◌≤◌, List, [], ◌∷◌, ◌++◌, ◌⊎◌, Option, None, length, get_or, take, Bor, sym, ap, ◌∙◌, subst, arith}
use Rattle.std.proofs.lemmas.List.{take_all, take_more}
use Rattle.yd_words.specs.Each.{Each}
use Rattle.yd_words.proofs.MemberLemmas.{each_in}
use Rattle.yd_ids.specs.declared.id.Id.{Id}
use Rattle.yd_ops.specs.Operation.{Operation}
use Rattle.yd_ops.specs.Value.{RunValue}
use Rattle.yd_ops.specs.View.{run_value}
use Rattle.yd_ops.specs.declared.runs.Run.{Run}
use Rattle.yd_ops.proofs.RunLemmas.{run_written}
use Rattle.yd_agreement.specs.Differing.{Differ, DifferAmong, HasRange}
use Rattle.yd_agreement.specs.First.{IsFirst, first_of}
use Rattle.yd_agreement.specs.Runs.{AreAscending, ComesBy, IsCover, lent_runs}
use Rattle.yd_agreement.specs.Sweep.{IsLater}
use Rattle.yd_agreement.proofs.CoverLemmas.{cover_more, each_lent, in_front, length-lent, lent_at}
use Rattle.yd_agreement.proofs.OrderLemmas.{before_place}
use Rattle.yd_agreement.proofs.SweepLemmas.{next_first, one_alone}

module _ (runs : List (Bor Run)) (next : ℕ) (cover run : Bor Run) (ranges : Each HasRange (lent_runs runs)) (ascending : AreAscending (lent_runs runs)) (lt : next < length runs)
    (is : IsCover (take next (lent_runs runs)) (run_value cover.now)) (at : run ≡ get_or runs next run) where
  inside : next < length (lent_runs runs)
  inside = omega (arith, lt, length-lent runs)

  here : run_value run.now ≡ get_or (lent_runs runs) next (run_value run.now)
  here = lent_at runs next run (run_value run.now) lt at

  before : Each (λ (s : RunValue). ComesBy s.id (run_value run.now).id) (take next (lent_runs runs))
  before = subst (λ (r : RunValue). Each (λ (s : RunValue). ComesBy s.id r.id) (take next (lent_runs runs))) (sym here)
      (before_place (lent_runs runs) next (run_value run.now) ascending inside)

  -- ---- lemmas for callers

  pub cover_range : HasRange (run_value cover.now)
  cover_range = each_in HasRange (lent_runs runs) ranges (run_value cover.now) (in_front (lent_runs runs) next (run_value cover.now) is.there)

  pub next_range : HasRange (run_value run.now)
  next_range = each_lent HasRange runs next run ranges lt at

  pub cover_comes : ComesBy cover.now.id run.now.id
  cover_comes = each_in (λ (s : RunValue). ComesBy s.id (run_value run.now).id) (take next (lent_runs runs)) before (run_value cover.now) is.there

  pub cover_later : (later : RunValue) → IsLater (run_value cover.now) (run_value run.now) later → IsCover (take (suc next) (lent_runs runs)) later
  cover_later later is_later = cover_more (lent_runs runs) next (run_value run.now) (run_value cover.now) later inside is
      (subst (λ (r : RunValue). IsLater (run_value cover.now) r later) here is_later)

  pub compared : {V : Type 0} (told : Operation → V) → ((o p : Operation) → (told o ≡ told p) ⊎ (told o ≡ told p → ⊥)) → (best found new : Option Id) →
      IsFirst (DifferAmong told (take next (lent_runs runs))) best → IsFirst (Differ told (run_value cover.now) (run_value run.now)) found → new ≡ first_of best found →
      IsFirst (DifferAmong told (take (next + 1) (lent_runs runs))) new
  compared told apart best found new first also e = subst (IsFirst (DifferAmong told (take (next + 1) (lent_runs runs)))) (sym e)
      (subst (λ rs. IsFirst (DifferAmong told rs) (first_of best found)) (sym more)
      (next_first told apart run_written (take next (lent_runs runs)) (run_value cover.now) (run_value run.now) best found is before first also))
    where
      more : take (next + 1) (lent_runs runs) ≡ take next (lent_runs runs) ++ run_value run.now ∷ []
      more = take_more (lent_runs runs) next (run_value run.now) inside ∙ ap (λ (r : RunValue). take next (lent_runs runs) ++ r ∷ []) (sym here)

-- none differ of at most one run
pub none_yet : {V : Type 0} (told : Operation → V) → ((o p : Operation) → (told o ≡ told p) ⊎ (told o ≡ told p → ⊥)) → (runs : List RunValue) →
    IsFirst (DifferAmong told (take 1 runs)) None
none_yet told apart [] x d = absurd d.one_there
none_yet told apart (r ∷ rs) x d = one_alone told apart run_written r x d

-- and at the end all are compared
pub all_compared : {V : Type 0} (told : Operation → V) (runs : List (Bor Run)) (next : ℕ) (best : Option Id) → length runs ≤ next →
    IsFirst (DifferAmong told (take next (lent_runs runs))) best → IsFirst (DifferAmong told (lent_runs runs)) best
all_compared told runs next best le first = subst (λ rs. IsFirst (DifferAmong told rs) best) (take_all next (lent_runs runs) (omega (arith, le, length-lent runs))) first
