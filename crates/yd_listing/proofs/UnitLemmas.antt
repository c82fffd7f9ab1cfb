-- The operation of a unit that was found.
use Rattle.std.proofs.Common.{◌≡◌, ℕ, zero, suc, ◌+◌, ◌<◌, inl, inr, List, [], ◌∷◌, Some, None, length, refl, sym, ap, ap₂, ◌∙◌, subst, arith}
use Rattle.std.specs.Prelude.{IfSome, slice_get}
use Rattle.yd_words.specs.Member.{IsIn}
use Rattle.yd_ids.specs.declared.id.Client.{Client}
use Rattle.yd_ids.specs.declared.id.Id.{Id}
use Rattle.yd_ops.specs.Value.{RunValue}
use Rattle.yd_ops.specs.Operation.{UnitContent, Operation, later_id, units_of_content, operations_of_run, gone_unit, gone_operation, gone_from}
use Rattle.yd_ops.specs.Law.{first_operation, later_operation}
use Rattle.yd_ops.proofs.OperationLemmas.{length-units_of_content, later_none, later_later, first_at, later_at}
use Rattle.yd_scan.specs.declared.stretch.Stretch.{Stretch}
use Rattle.yd_scan.specs.Stretches.{stretch_at}
use Rattle.yd_arena.specs.Arena.{HasUnit, runs_of}
use Rattle.yd_store.specs.Contents.{told_of, run_at}
use Rattle.yd_store.specs.Store.{Stored, IsRunOf, AreTold}
use Rattle.yd_store.specs.Units.{operations_told, HasOperation}
use Rattle.yd_store.proofs.HalvesLemmas.{in_at}

-- ---- an operation

at_some : {X : Type 0} (xs : List X) (n : ℕ) → n < length xs → (x : X) × (slice_get xs n ≡ Some x)
at_some [] n lt = absurd (omega (arith, lt))
at_some (x ∷ xs) zero lt = (x, refl)
at_some (x ∷ xs) (suc n) lt = at_some xs n (omega (arith, lt))

-- the operation of a run behind so many others
operation_at : (run : RunValue) (n : ℕ) (unit : UnitContent) → slice_get (units_of_content run.content) n ≡ Some unit →
    (o : Operation) × (slice_get (operations_of_run run) n ≡ Some o) × (o.id ≡ later_id run.id n) × (o.content ≡ unit)
operation_at run zero unit e = (first_operation run unit, first_at run unit e, sym (later_none run.id), refl)
operation_at run (suc i) unit e =
    let s : i + 1 ≡ suc i = omega arith in (
      later_operation run i unit,
      subst (λ k. slice_get (operations_of_run run) k ≡ Some (later_operation run i unit)) s
          (later_at run i unit (subst (λ k. slice_get (units_of_content run.content) k ≡ Some unit) (sym s) e)),
      ap (later_id run.id) s,
      refl,
    )

gone_at : (id : Id) (len n : ℕ) → n < len → IsIn (gone_operation (later_id id n)) (gone_from id len)
gone_at id zero n lt = absurd (omega (arith, lt))
gone_at id (suc len) zero lt = inl (ap gone_operation (later_none id))
gone_at id (suc len) (suc n) lt =
    let s : 1 + n ≡ suc n = omega arith in
    inr (subst (λ (x : Id). IsIn (gone_operation x) (gone_from (later_id id 1) len)) (later_later id 1 n ∙ ap (later_id id) s) (gone_at (later_id id 1) len n (omega (arith, lt))))

-- ---- the unit that was found

module _ (it : Stored) (place n : ℕ) (id : Id) (has : HasUnit (runs_of it.placed) place n id) where
  abbrev stretch : Stretch
  stretch = stretch_at (runs_of it.placed) place

  id_at : later_id stretch.id n ≡ id
  id_at = ap₂ (λ (k : Client) (c : ℕ). record { client = k; clock = c }) has.client has.clock

  -- that of a run which is told
  pub told_unit : AreTold (runs_of it.placed) (told_of it.contents) → (run : RunValue) → run_at (told_of it.contents) place ≡ Some run →
      (o : Operation) × HasOperation it o × (o.id ≡ id) × (slice_get (units_of_content run.content) n ≡ Some o.content)
  told_unit told run e =
      let of : IsRunOf stretch run = subst (λ z. IfSome z (λ r. IsRunOf stretch r)) e (told.fits place has.within) in
      let u = at_some (units_of_content run.content) n (omega (arith, has.inside, of.len_is, length-units_of_content run.content)) in
      let o = operation_at run n u.0 u.1 in (
        o.0,
        record { place = place; within = has.within; member = subst (λ z. IsIn o.0 (operations_told stretch z)) (sym e) (in_at (operations_of_run run) n o.0 o.1) },
        o.2 ∙ ap (λ x. later_id x n) of.id_is ∙ id_at,
        u.1 ∙ ap (λ (c : UnitContent). Some c) (sym o.3),
      )

  -- that of one which is gone
  pub gone_unit_there : run_at (told_of it.contents) place ≡ None → (o : Operation) × HasOperation it o × (o.id ≡ id) × (o.content ≡ gone_unit)
  gone_unit_there e = (
    gone_operation (later_id stretch.id n),
    record {
      place = place;
      within = has.within;
      member = subst (λ z. IsIn (gone_operation (later_id stretch.id n)) (operations_told stretch z)) (sym e) (gone_at stretch.id stretch.len n has.inside);
    },
    id_at,
    refl,
  )
