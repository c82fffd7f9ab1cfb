-- Why a file is refused, as it is told: a cause, and a place (own).
use Rattle.std.specs.Prelude.{ℕ, List, [], ◌++◌, codes, decimal}
use Rattle.yd_parts.specs.Fault.{Fault}
use Rattle.yd_parts.specs.declared.fault.Cause.{Cause}
use Rattle.yd_parts.specs.declared.fault.Cause.TheVariants as causes
use Rattle.yd_parts.specs.declared.fault.Column.{Column}
use Rattle.yd_parts.specs.declared.fault.Column.TheVariants as columns
use Rattle.yd_parts.specs.declared.fault.Spot.{Spot}

-- the name of a cause
abbrev pub cause_name : Cause → List ℕ
cause_name causes.ShortInput = codes "ShortInput"
cause_name causes.NumberTooLarge = codes "NumberTooLarge"
cause_name causes.BadUtf8 = codes "BadUtf8"
cause_name causes.BadInfo = codes "BadInfo"
cause_name causes.Subdocument = codes "Subdocument"
cause_name causes.BadType = codes "BadType"
cause_name causes.BadTag = codes "BadTag"
cause_name causes.TooDeep = codes "TooDeep"
cause_name causes.BadJson = codes "BadJson"
cause_name causes.NumberNotCarried = codes "NumberNotCarried"
cause_name causes.EmptyStruct = codes "EmptyStruct"
cause_name causes.ClockTooLarge = codes "ClockTooLarge"
cause_name causes.Trailing = codes "Trailing"
cause_name causes.BadParent = codes "BadParent"
cause_name causes.BadFlag = codes "BadFlag"
cause_name causes.HalfPair = codes "HalfPair"
cause_name causes.ColumnLeft = codes "ColumnLeft"
cause_name causes.TooManyStructs = codes "TooManyStructs"

-- what stands before the offset: nothing for the whole input, and else the column's name
abbrev pub column_prefix : Column → List ℕ
column_prefix columns.Whole = []
column_prefix columns.Head = codes "head:"
column_prefix columns.Keys = codes "keys:"
column_prefix columns.Clients = codes "clients:"
column_prefix columns.Lefts = codes "lefts:"
column_prefix columns.Rights = codes "rights:"
column_prefix columns.Infos = codes "infos:"
column_prefix columns.Strings = codes "strings:"
column_prefix columns.Parents = codes "parents:"
column_prefix columns.Kinds = codes "kinds:"
column_prefix columns.Lengths = codes "lengths:"
column_prefix columns.Rest = codes "rest:"

-- the place: the offset in decimal digits
abbrev pub place_text : Spot → List ℕ
place_text spot = column_prefix spot.column ++ decimal spot.at

-- the cause and the place of a fault
abbrev pub fault_text : Fault → List ℕ
fault_text fault = cause_name fault.cause ++ codes " " ++ place_text fault.spot
