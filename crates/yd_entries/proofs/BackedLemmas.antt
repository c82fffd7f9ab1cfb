-- What can be put back: while entries are added, once a copy of them is kept, and one step after another.
use Rattle.std.proofs.Common.{ℕ, ◌≤◌, List, length, Option, Some, None, refl, ap, ◌∙◌, arith, length-append}
use Rattle.std.specs.Prelude.{filter}
use Rattle.yd_ops.specs.declared.runs.Run.{Run}
use Rattle.yd_entries.specs.declared.entry.Entry.{Entry}
use Rattle.yd_entries.specs.Entries.{is_of_first, OnlyAdds, GrowBy}
use Rattle.yd_entries.specs.Lowering.{IsBacked}
use Rattle.yd_entries.proofs.FirstLemmas.{adds_none, adds_more}

pub backed_adds : (count : ℕ) (before : Option (List Entry)) (old new : List Entry) → OnlyAdds count old new → IsBacked count before old before new
backed_adds count None old new adds = adds
backed_adds count (Some kept) old new adds = refl

pub backed_none : (count : ℕ) (before : Option (List Entry)) (old : List Entry) → IsBacked count before old before old
backed_none count before old = backed_adds count before old old (adds_none count old)

pub backed_more : (few many : ℕ) (a b c : Option (List Entry)) (x y z : List Entry) → few ≤ many → IsBacked few a x b y → IsBacked many b y c z → IsBacked few a x c z
backed_more few many None None None x y z le first second = adds_more few many x y z le first second
backed_more few many None None (Some kept) x y z le first second = λ n less. second n (omega arith) ∙ first.first n less
backed_more few many None (Some kept) None x y z le first second = absurd second
backed_more few many None (Some kept) (Some also) x y z le first second = λ n less. ap (λ ts. filter (is_of_first n) ts) second ∙ first n less
backed_more few many (Some before) None c x y z le first second = absurd first
backed_more few many (Some before) (Some kept) None x y z le first second = absurd second
backed_more few many (Some before) (Some kept) (Some also) x y z le first second = second ∙ first

-- with more runs behind the others between the two
pub backed_grown : (old_runs runs : List Run) (a b c : Option (List Entry)) (x y z : List Entry) → GrowBy old_runs runs → IsBacked (length old_runs) a x b y →
    IsBacked (length runs) b y c z → IsBacked (length old_runs) a x c z
backed_grown old_runs runs a b c x y z (more, e) first second =
    backed_more (length old_runs) (length runs) a b c x y z (omega (arith, ap length e, length-append old_runs more)) first second
