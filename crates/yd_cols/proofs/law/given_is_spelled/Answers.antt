use Rattle.yd_cols.proofs.GivenLemmas.{bytes_given, diffs_given, open_given, uints_given}
use Rattle.yd_cols.proofs.StringColumnLemmas.{strings_given}
use Rattle.yd_cols.proofs.law.given_is_spelled.Goals as goal

pub returns : goal.returns
returns c = record { uints = uints_given; diffs = diffs_given; counted = bytes_given; opened = open_given; strings = strings_given }
