-- An entry whose units are told by a run of their own, behind the others.
use Rattle.std.proofs.Common.{◌≡◌, ◌+◌, ◌≤◌, false, List, [], ◌∷◌, ◌++◌, length, take, Some, refl, sym, ap, ◌∙◌, subst, arith, length-append}
use Rattle.std.specs.Prelude.{slice_get, IfSome}
use Rattle.std.proofs.lemmas.List.{take_all}
use Rattle.yd_ops.specs.declared.runs.Run.{Run}
use Rattle.yd_ops.specs.Operation.{units_of_content, operations_from}
use Rattle.yd_ops.specs.Value.{ContentValue, RunValue}
use Rattle.yd_ops.specs.Valid.{CarriesList, IsValidContent}
use Rattle.yd_ops.specs.View.{run_value, content_value}
use Rattle.yd_entries.specs.declared.entry.Entry.{Entry}
use Rattle.yd_entries.specs.Entries.{units_of, list_at, PartsPair, operations_told, operations_of_taken, IsTold, TellsRight, IsTakenOf}
use Rattle.yd_entries.specs.Lowering.{with_run, own_run}

pub last_run : (runs new : List Run) (run : Run) → new ≡ runs ++ run ∷ [] → slice_get new (length runs) ≡ Some run
last_run runs new run e = ap (λ rs. slice_get rs (length runs)) e ∙ go runs
  where
    go : (rs : List Run) → slice_get (rs ++ run ∷ []) (length rs) ≡ Some run
    go [] = refl
    go (r ∷ rs) = go rs

-- what is told of units that are not gone
pub told_of : (runs : List Run) (t : Entry) → IsTakenOf runs t → t.is_gone ≡ false → IsTold runs t
told_of runs t is e = subst (λ b. TellsRight b runs t) e is.told

pub told_operations : (runs : List Run) (t : Entry) → t.is_gone ≡ false → operations_of_taken runs t ≡ operations_told false runs t
told_operations runs t e = ap (λ b. operations_told b runs t) e

module _ (runs : List Run) (t : Entry) (is : IsTakenOf runs t) (told : t.is_gone ≡ false) (new : List Run) (run : Run) (content : ContentValue)
    (grown : new ≡ runs ++ run ∷ []) (own : run_value run ≡ own_run runs t content) (long : length (units_of_content content) ≡ t.len) where
  there : slice_get new (length runs) ≡ Some run
  there = last_run runs new run grown

  content_is : content_value run.content ≡ content
  content_is = ap (λ (r : RunValue). r.content) own

  list_is : run.list ≡ list_at (slice_get runs t.run) t.offset
  list_is = ap (λ (r : RunValue). r.list) own

  pub own_operations : operations_of_taken new (with_run t (length runs) 0) ≡ operations_from t.id t.left t.right (list_at (slice_get runs t.run) t.offset)
      (units_of_content content)
  own_operations =
      ap (λ b. operations_told b new (with_run t (length runs) 0)) told
      ∙ ap (λ r. operations_from t.id t.left t.right (list_at r 0) (take t.len (units_of r))) there
      ∙ ap (λ c. operations_from t.id t.left t.right run.list (take t.len (units_of_content c))) content_is
      ∙ ap (λ l. operations_from t.id t.left t.right l (take t.len (units_of_content content))) list_is
      ∙ ap (λ us. operations_from t.id t.left t.right (list_at (slice_get runs t.run) t.offset) us) (take_all t.len (units_of_content content) (omega (arith, long)))

  pub own_taken : IsValidContent content → (PartsPair content 0 → ⊥) → (PartsPair content t.len → ⊥) → IsTakenOf new (with_run t (length runs) 0)
  own_taken valid begins ends = record {
    run_there = omega (arith, ap length grown, length-append runs (run ∷ []));
    client = subst (λ r. IfSome r (λ (s : Run). s.id.client ≡ t.id.client)) (sym there) (ap (λ (r : RunValue). r.id.client) own);
    has_units = is.has_units;
    id = is.id;
    end = is.end;
    left = is.left;
    right = is.right;
    told = subst (λ b. TellsRight b new (with_run t (length runs) 0)) (sym told) (record {
      within = subst (λ r. 0 + t.len ≤ length (units_of r)) (sym there) (omega (arith, long, ap (λ c. length (units_of_content c)) content_is));
      fits = omega (arith, is.end);
      list = subst (λ r. CarriesList t.left t.right (list_at r 0)) (sym there) (subst (CarriesList t.left t.right) (sym list_is) (told_of runs t is told).list);
      content = subst (λ r. IfSome r (λ (s : Run). IsValidContent (content_value s.content))) (sym there) (subst IsValidContent (sym content_is) valid);
      begins_whole = subst (λ r. IfSome r (λ (s : Run). PartsPair (content_value s.content) 0 → ⊥)) (sym there) (subst (λ c. PartsPair c 0 → ⊥) (sym content_is) begins);
      ends_whole = subst (λ r. IfSome r (λ (s : Run). PartsPair (content_value s.content) (0 + t.len) → ⊥)) (sym there)
          (subst (λ c. PartsPair c (0 + t.len) → ⊥) (sym content_is) (subst (λ n. PartsPair content n → ⊥) none ends));
    });
  }
    where
      none : t.len ≡ 0 + t.len
      none = omega arith
