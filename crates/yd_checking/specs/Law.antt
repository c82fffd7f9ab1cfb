-- The laws of what is told of updates, as statements.
use Rattle.std.specs.Prelude.{◌≡◌, ◌⊎◌, List, None}
use Rattle.yd_words.specs.Each.{Each}
use Rattle.yd_ops.specs.Valid.{IsValidUpdate}
use Rattle.yd_ops.specs.Value.{UpdateValue}
use Rattle.yd_ops.specs.Agreement.{operations_of_all, AreAlike, Agree, HaveSameContents, SayTheSame}
use Rattle.yd_checking.specs.declared.checking.Findings.{Findings}
use Rattle.yd_checking.specs.Findings.{findings_of, IsFound}

-- the numbers are the same, and so is the id that breaks the edit rules; where one does, the numbers of deleted units may differ
pub record AreCountedAlike (one other : Findings) : Type 0 where
  pub held : one.counts.held ≡ other.counts.held
  pub waiting : one.counts.waiting ≡ other.counts.waiting
  pub waiting_deletes : one.counts.waiting_deletes ≡ other.counts.waiting_deletes
  pub lists : one.counts.lists ≡ other.counts.lists
  pub dishonest : one.dishonest ≡ other.dishonest
  pub deleted : one.dishonest ≡ None → one.counts.deleted ≡ other.counts.deleted

-- and so is the id on which the updates disagree
pub record AreToldAlike (one other : Findings) : Type 0 where
  pub counted : AreCountedAlike one other
  pub disagreement : one.disagreement ≡ other.disagreement

-- what is found is told as what is received defines it. Updates with the same contents, in any order and repeated, are counted
-- alike, where operations of one id are alike; and where they agree, all is told alike. Under agreement so are updates of which
-- some were merged
pub record FindingsConverge : Type 0 where
  pub defined : (us : List UpdateValue) (found : Findings) → IsFound found us → AreToldAlike found (findings_of us)
  pub any_order : (one other : List UpdateValue) → Each IsValidUpdate one → Each IsValidUpdate other → AreAlike (operations_of_all one) →
      HaveSameContents one other → (found also : Findings) → IsFound found one → IsFound also other → AreCountedAlike found also
  pub agreeing : (one other : List UpdateValue) → Each IsValidUpdate one → Each IsValidUpdate other → Agree one → Agree other →
      HaveSameContents one other ⊎ SayTheSame one other → (found also : Findings) → IsFound found one → IsFound also other → AreToldAlike found also
