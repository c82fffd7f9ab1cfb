-- What stands for the ranges that were read so far.
use Rattle.yd_fields.specs.UpdatePlan as plans
use Rattle.yd_reading.specs.declared.delete_reading.RangesRead.{RangesRead}

-- the ranges that were read, as plain data
abbrev pub ranges_value : RangesRead → plans.RangesRead
ranges_value read = record { end = read.end; spans = read.spans.items }
