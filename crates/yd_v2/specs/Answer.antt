-- What reading a value of a column answers.
use Rattle.std.specs.Prelude.{◌≡◌, ℕ, Result, Ok, Err}
use Rattle.yd_cols.specs.declared.fault.ColFault.{ColFault}
use Rattle.yd_parts.specs.Fault.{Fault, IsFaultOf}
use Rattle.yd_parts.specs.declared.fault.Column.{Column}
use Rattle.yd_parts.specs.declared.fault.ReadError.{ReadError}
use Rattle.yd_parts.specs.declared.fault.ReadError.TheVariants as errors
use Rattle.yd_parts.specs.declared.fault.Spot.{Spot}
use Rattle.yd_v2.specs.Part.{in_column}

-- the refusal of a fault
abbrev pub IsRefusal : Fault → ReadError → Type 0
IsRefusal fault e = e ≡ errors.Fault fault.cause fault.spot

-- Ok has the value that the column gives, and the place of its run; an error is of the column's fault
abbrev pub GivesIn : {X Y L : Type 0} → (X → Y) → Column → (L → ℕ) → L → Result (X × Spot) ReadError → Result (Y × L) ColFault → Type 0
GivesIn value column place new (Ok read) reading = (reading ≡ Ok (value read.0, new)) × (read.1 ≡ record { column = column; at = place new })
GivesIn value column place new (Err e) reading = IsFaultOf (in_column column reading) e
