use Rattle.std.proofs.Common.{◌≡◌, ◌++◌, ◌∷◌, [], refl}
use Rattle.yd_fields.specs.UpdatePlan.{vector_plan}
use Rattle.yd_ids.specs.Vector.{IsVector}
use Rattle.yd_ops.specs.Valid.{IsValidUpdate}
use Rattle.yd_ops.specs.View.{update_value}
use Rattle.yd_script.specs.File.{HasFirstFaultScript, StandsForScript}
use Rattle.yd_v1.specs.Grammar.{FailsV1, FillsV1}
use Rattle.yd_v1.specs.Log.{TakesMore}
use Rattle.yd_v2.specs.Grammar.{HasFirstFaultV2, StandsForV2}
use Rattle.yd_files.specs.declared.inputs.Others.{Others}
use Rattle.yd_files.proofs.TakingLemmas.{log_taken, nothing_asked, script_taken, taken_in, update_taken, v1_refused, v1_taken, vector_taken}
use Rattle.yd_files.proofs.taking.take_file.Goals as goal

pub returns-in-V1-clause-taken : goal.returns-in-V1-clause-taken
returns-in-V1-clause-taken g c =
    let old = c.args.others.now in
    let new : Others = record { kinds = c.push.new.self; vectors = old.vectors; scripts = old.scripts } in
    v1_taken c.args.kind c.args.bytes.now old new (g.T.UpdateTaker.took c.args.updates.now) (g.T.UpdateTaker.took c.take_v1.new.self) c.take_v1.result c.take_v1.ensures.took c.in-V1.is c.in_ok-push.ensures.items refl refl

pub returns-in-V1-clause-refused : goal.returns-in-V1-clause-refused
returns-in-V1-clause-refused g c = v1_refused c.args.kind c.args.bytes.now c.take_v1.result c.take_v1.ensures.fails c.in-V1.is

pub returns-in-V2-clause-taken : goal.returns-in-V2-clause-taken
returns-in-V2-clause-taken g c =
    let old = c.args.others.now in
    let new : Others = record { kinds = c.push.new.self; vectors = old.vectors; scripts = old.scripts } in
    let Took = g.T.UpdateTaker.took c.args.updates.now in
    let TookNow = g.T.UpdateTaker.took c.take_one.new.taker in
    let bytes = c.args.bytes.now in
    taken_in update_value (StandsForV2 bytes) (HasFirstFaultV2 bytes) (λ u. IsValidUpdate (update_value u)) (λ u. TakesMore Took TookNow (update_value u ∷ [])) c.read_v2.result c.take_one.result c.read_v2.ensures.exact c.read_v2.ensures.valid c.take_one.ensures _
    (λ u stands valid more. update_taken c.args.kind bytes old new Took TookNow (update_value u) (rw c.in-V2.is (update_value u, refl, stands)) valid c.in_ok-push.ensures.items refl refl more)

pub returns-in-Log-clause-taken : goal.returns-in-Log-clause-taken
returns-in-Log-clause-taken g c =
    let old = c.args.others.now in
    let new : Others = record { kinds = c.push.new.self; vectors = old.vectors; scripts = old.scripts } in
    log_taken c.args.kind c.args.bytes.now old new (g.T.UpdateTaker.took c.args.updates.now) (g.T.UpdateTaker.took c.take_log.new.taker) c.take_log.result c.take_log.ensures.taken c.in-Log.is c.in_ok-push.ensures.items refl refl

pub returns-in-Vector-clause-taken : goal.returns-in-Vector-clause-taken
returns-in-Vector-clause-taken g c =
    let old = c.args.others.now in
    let new : Others = record { kinds = c.push.new.self; vectors = c.take_vector.new.vectors; scripts = old.scripts } in
    let bytes = c.args.bytes.now in
    taken_in (λ v. v) (FillsV1 vector_plan bytes) (FailsV1 vector_plan bytes) IsVector (λ v. new.vectors.items ≡ old.vectors.items ++ v ∷ []) c.read_vector.result c.take_vector.result c.read_vector.ensures.exact c.read_vector.ensures.vector c.take_vector.ensures _
    (λ v stands valid vectors. vector_taken c.args.kind bytes old new (g.T.UpdateTaker.took c.args.updates.now) v stands c.in-Vector.is c.in_ok-push.ensures.items vectors refl)

pub returns-in-Script-clause-taken : goal.returns-in-Script-clause-taken
returns-in-Script-clause-taken g c =
    let old = c.args.others.now in
    let new : Others = record { kinds = c.push.new.self; vectors = old.vectors; scripts = c.take_script.new.scripts } in
    let bytes = c.args.bytes.now in
    taken_in (λ text. text) (StandsForScript bytes) (HasFirstFaultScript bytes) (λ text. Unit {0}) (λ text. new.scripts.items ≡ old.scripts.items ++ text ∷ []) c.read_script.result c.take_script.result c.read_script.ensures (nothing_asked c.read_script.result) c.take_script.ensures _
    (λ text stands valid scripts. script_taken c.args.kind bytes old new (g.T.UpdateTaker.took c.args.updates.now) text stands c.in-Script.is c.in_ok-push.ensures.items refl scripts)
