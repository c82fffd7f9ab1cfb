-- A fault of a number, a text or a byte string, as one of a column.
use Rattle.std.specs.Prelude.{◌≡◌}
use Rattle.yd_num.specs.Fault.{cause_of, place_of}
use Rattle.yd_num.specs.declared.fault.NumFault.{NumFault}
use Rattle.yd_parts.specs.Fault.{of_number}
use Rattle.yd_parts.specs.declared.fault.Column.{Column}
use Rattle.yd_parts.specs.declared.fault.ReadError.{ReadError}
use Rattle.yd_parts.specs.declared.fault.ReadError.TheVariants as errors

-- the same cause, and the place in the column
abbrev pub IsRefusal : Column → NumFault → ReadError → Type 0
IsRefusal column fault e = e ≡ errors.Fault (of_number (cause_of fault)) (record { column = column; at = place_of fault })
