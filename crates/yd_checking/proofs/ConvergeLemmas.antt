-- Updates that are the same changes are told alike.
use Rattle.std.proofs.Common.{◌≡◌, ◌⊎◌, ◌∙◌, List, None, inl, inr, sym, ap}
use Rattle.yd_words.specs.Each.{Each}
use Rattle.yd_ops.specs.Valid.{IsValidUpdate}
use Rattle.yd_ops.specs.Value.{UpdateValue}
use Rattle.yd_ops.specs.Agreement.{Agree, HaveSameContents, SayTheSame}
use Rattle.yd_ops.specs.Received.{Received, received_set}
use Rattle.yd_ops.proofs.AgreementLemmas.{received_one, received_merged, received_written}
use Rattle.yd_grouping.specs.Disagreement.{disagreement_of}
use Rattle.yd_grouping.proofs.DisagreementLemmas.{disagreement_none}
use Rattle.yd_honesty.specs.Dishonest.{dishonest_of}
use Rattle.yd_honesty.proofs.DishonestLemmas.{dishonest_none}
use Rattle.yd_meaning.specs.Collected.{held_count}
use Rattle.yd_meaning.specs.Document.{Document, document_of}
use Rattle.yd_meaning.specs.Held.{held_set, waiting_counts}
use Rattle.yd_meaning.proofs.ReplicaLemmas.{defined_is}
use Rattle.yd_checking.specs.declared.checking.Findings.{Findings}
use Rattle.yd_checking.specs.Counts.{counts_of, list_count}
use Rattle.yd_checking.specs.Findings.{findings_in, findings_of, IsFound}
use Rattle.yd_checking.specs.Law.{AreCountedAlike, AreToldAlike, FindingsConverge}

-- what is told as the same is told alike
told_same : (one other : Findings) → one ≡ other → AreToldAlike one other
told_same one other same = record {
  counted = record {
    held = ap (λ (found : Findings). found.counts.held) same;
    waiting = ap (λ (found : Findings). found.counts.waiting) same;
    waiting_deletes = ap (λ (found : Findings). found.counts.waiting_deletes) same;
    lists = ap (λ (found : Findings). found.counts.lists) same;
    dishonest = ap (λ (found : Findings). found.dishonest) same;
    deleted = λ none. ap (λ (found : Findings). found.counts.deleted) same;
  };
  disagreement = ap (λ (found : Findings). found.disagreement) same;
}

-- so are numbers of one received set
counted_same : (one other : List UpdateValue) → received_set one ≡ received_set other → AreCountedAlike (findings_of one) (findings_of other)
counted_same one other same = record {
  held = ap held_count same;
  waiting = ap (λ r. (waiting_counts r).structs) same;
  waiting_deletes = ap (λ r. (waiting_counts r).deletes) same;
  lists = ap list_count same;
  dishonest = ap (λ (r : Received). dishonest_of (held_set r.operations)) same;
  deleted = λ none. ap (λ (r : Received). (counts_of r).deleted) same;
}

counted_back : (one other : Findings) → AreCountedAlike one other → AreCountedAlike other one
counted_back one other alike = record {
  held = sym alike.held;
  waiting = sym alike.waiting;
  waiting_deletes = sym alike.waiting_deletes;
  lists = sym alike.lists;
  dishonest = sym alike.dishonest;
  deleted = λ none. sym (alike.deleted (alike.dishonest ∙ none));
}

counted_on : (one other third : Findings) → AreCountedAlike one other → AreCountedAlike other third → AreCountedAlike one third
counted_on one other third alike next = record {
  held = alike.held ∙ next.held;
  waiting = alike.waiting ∙ next.waiting;
  waiting_deletes = alike.waiting_deletes ∙ next.waiting_deletes;
  lists = alike.lists ∙ next.lists;
  dishonest = alike.dishonest ∙ next.dishonest;
  deleted = λ none. alike.deleted none ∙ next.deleted (sym alike.dishonest ∙ none);
}

received_alike : (one other : List UpdateValue) → Each IsValidUpdate one → Each IsValidUpdate other → Agree one → Agree other →
    HaveSameContents one other ⊎ SayTheSame one other → received_set one ≡ received_set other
received_alike one other valid other_valid agree other_agree (inl same) = received_one one other valid other_valid agree.alike same
received_alike one other valid other_valid agree other_agree (inr same) = received_merged one other valid other_valid agree other_agree same

-- ---- lemmas for callers

-- where no id breaks the edit rules, all that is found is as what is received defines it
pub found_defined : (us : List UpdateValue) (found : Findings) → IsFound found us → found.dishonest ≡ None → found ≡ findings_of us
found_defined us found is none = is.told ∙ ap (λ (document : Document). findings_in document us) (is.replica.defined
    ((dishonest_none (received_set us).operations (received_written us)).0 (sym (ap (λ (f : Findings). f.dishonest) is.told) ∙ none)))

-- what is as that defines it is found
pub defined_found : (us : List UpdateValue) (found : Findings) → found ≡ findings_of us → IsFound found us
defined_found us found told = record { document = document_of (received_set us); replica = defined_is (received_set us) (received_written us); told = told }

-- and for every set all but the number of deleted units is so
pub told_defined : (us : List UpdateValue) (found : Findings) → IsFound found us → AreToldAlike found (findings_of us)
told_defined us found is = record {
  counted = record {
    held = ap (λ (f : Findings). f.counts.held) is.told;
    waiting = ap (λ (f : Findings). f.counts.waiting) is.told;
    waiting_deletes = ap (λ (f : Findings). f.counts.waiting_deletes) is.told;
    lists = ap (λ (f : Findings). f.counts.lists) is.told;
    dishonest = ap (λ (f : Findings). f.dishonest) is.told;
    deleted = λ none. ap (λ (f : Findings). f.counts.deleted) (found_defined us found is none);
  };
  disagreement = ap (λ (f : Findings). f.disagreement) is.told;
}

-- updates that agree and are the same changes are told alike
pub found_alike : (one other : List UpdateValue) → Each IsValidUpdate one → Each IsValidUpdate other → Agree one → Agree other →
    HaveSameContents one other ⊎ SayTheSame one other → findings_of one ≡ findings_of other
found_alike one other valid other_valid agree other_agree same =
    let received = received_alike one other valid other_valid agree other_agree same in
    let none : disagreement_of one ≡ disagreement_of other = (disagreement_none one).1 agree ∙ sym ((disagreement_none other).1 other_agree) in
    λ i. record {
      counts = counts_of (received i);
      disagreement = none i;
      dishonest = dishonest_of (held_set (received i).operations);
    }

-- where no id breaks the edit rules, what is told alike is the same
pub alike_same : (one other : Findings) → AreToldAlike one other → one.dishonest ≡ None → one ≡ other
alike_same one other alike none = λ i. record {
  counts = record {
    held = alike.counted.held i;
    waiting = alike.counted.waiting i;
    waiting_deletes = alike.counted.waiting_deletes i;
    deleted = alike.counted.deleted none i;
    lists = alike.counted.lists i;
  };
  disagreement = alike.disagreement i;
  dishonest = alike.counted.dishonest i;
}

module _ (one other : List UpdateValue) (found also : Findings) (is : IsFound found one) (is_also : IsFound also other) where
  -- what is found of the same received set is counted alike
  counted_alike : AreCountedAlike (findings_of one) (findings_of other) → AreCountedAlike found also
  counted_alike same = counted_on found (findings_of one) also (told_defined one found is).counted
      (counted_on (findings_of one) (findings_of other) also same (counted_back also (findings_of other) (told_defined other also is_also).counted))

  told_alike : findings_of one ≡ findings_of other → AreToldAlike found also
  told_alike same = record {
    counted = counted_alike (told_same (findings_of one) (findings_of other) same).counted;
    disagreement = (told_defined one found is).disagreement ∙ ap (λ (f : Findings). f.disagreement) same ∙ sym (told_defined other also is_also).disagreement;
  }

pub findings_alike : FindingsConverge
findings_alike = record {
  defined = told_defined;
  any_order = λ one other valid other_valid alike same found also is is_also.
      counted_alike one other found also is is_also (counted_same one other (received_one one other valid other_valid alike same));
  agreeing = λ one other valid other_valid agree other_agree same found also is is_also.
      told_alike one other found also is is_also (found_alike one other valid other_valid agree other_agree same);
}
