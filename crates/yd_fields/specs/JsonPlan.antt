-- JSON texts inside updates (Yjs 13, ContentJSON, ContentEmbed and ContentFormat; what JSON carries is own).
use Rattle.std.specs.Prelude.{ℕ, List, Option, Some, None, Result, Ok, Err, codes, if◌then◌else◌}
use Rattle.std.specs.Str.{bytes_eq}
use Rattle.yd_any.specs.Outcome.{value_of_text}
use Rattle.yd_any.specs.Tree.{AnyTree}
use Rattle.yd_any.specs.declared.fault.JsonFault.{JsonFault}
use Rattle.yd_any.specs.declared.fault.JsonFault.TheVariants as json_faults
use Rattle.yd_parts.specs.Fault.{Fault}
use Rattle.yd_parts.specs.Plan.{and_then}
use Rattle.yd_parts.specs.declared.fault.Cause.{Cause}
use Rattle.yd_parts.specs.declared.fault.Cause.TheVariants.{BadJson, NumberNotCarried, TooDeep}
use Rattle.yd_parts.specs.declared.fault.Spot.{Spot}

-- the cause of a text that is no value; reading itself never wants memory
abbrev pub of_json : JsonFault → Cause
of_json json_faults.NoMemory = BadJson
of_json json_faults.BadJson = BadJson
of_json json_faults.NumberNotCarried = NumberNotCarried
of_json json_faults.TooDeep = TooDeep

-- the value that was made of a text at a spot, or what is wrong with it
abbrev pub made_at : {X : Type 0} → Spot → Result X JsonFault → Result X Fault
made_at spot (Ok x) = Ok x
made_at spot (Err fault) = Err (record { cause = of_json fault; spot = spot })

-- the value of a JSON text
abbrev pub value_at : Spot → List ℕ → Result AnyTree Fault
value_at spot text = made_at spot (value_of_text text)

-- the unit of a text: undefined by its name, or the value of a JSON text
abbrev pub unit_at : Spot → List ℕ → Result (Option AnyTree) Fault
unit_at spot text = if bytes_eq text (codes "undefined") then Ok None else and_then (value_at spot text) (λ t. Ok (Some t))
