use Rattle.std.proofs.Common.{map, sym, ap, ◌∙◌, subst}
use Rattle.yd_words.specs.Each.{Each}
use Rattle.yd_ops.specs.View.{update_value}
use Rattle.yd_agreement.specs.Differing.{DifferAmong, HasRange, content_of, place_of}
use Rattle.yd_agreement.specs.First.{IsFirst, IsFirstBut}
use Rattle.yd_agreement.specs.Parting.{AreWhole, IsParted}
use Rattle.yd_agreement.specs.Runs.{AreAscending, full_runs, lent_runs}
use Rattle.yd_agreement.proofs.AgreeingLemmas.{all_ranges, full_ranges, full_whole, smallest_broken}
use Rattle.yd_agreement.proofs.OrderLemmas.{full_ascending}
use Rattle.yd_agreement.proofs.disagreeing.disagree.Goals as goal

pub new-requires-clause-ranges : goal.new-requires-clause-ranges
new-requires-clause-ranges c = all_ranges (map update_value c.args.updates.now) c.requires (lent_runs c.in_ok-runs.runs.items) c.in_ok-runs.ensures.same

pub new-requires-2-clause-ascending : goal.new-requires-2-clause-ascending
new-requires-2-clause-ascending c = subst AreAscending (sym (c.in_ok-full.ensures ∙ ap (λ rs. full_runs (lent_runs rs)) c.deref.ensures.value))
    (full_ascending (lent_runs c.in_ok-runs.runs.items) c.in_ok-runs.ensures.ascending)

pub new-requires-2-clause-ranges : goal.new-requires-2-clause-ranges
new-requires-2-clause-ranges c = subst (Each HasRange) (sym (c.in_ok-full.ensures ∙ ap (λ rs. full_runs (lent_runs rs)) c.deref.ensures.value))
    (full_ranges (map update_value c.args.updates.now) c.requires (lent_runs c.in_ok-runs.runs.items) c.in_ok-runs.ensures.same)

pub first_parted-requires-clause-whole : goal.first_parted-requires-clause-whole
first_parted-requires-clause-whole c = subst AreWhole (sym (c.in_ok-full-2.ensures.runs ∙ c.in_ok-full.ensures ∙ ap (λ rs. full_runs (lent_runs rs)) c.deref.ensures.value))
    (full_whole (map update_value c.args.updates.now) c.requires (lent_runs c.in_ok-runs.runs.items) c.in_ok-runs.ensures.same)

pub returns : goal.returns
returns c = let full = c.in_ok-full-2.ensures.runs ∙ c.in_ok-full.ensures ∙ ap (λ rs. full_runs (lent_runs rs)) c.deref.ensures.value in
    smallest_broken (map update_value c.args.updates.now) c.requires (lent_runs c.in_ok-runs.runs.items) c.in_ok-runs.ensures.same
    c.first_place.result c.first_content.result c.in_ok-parted.parted c.first_of-contents.result c.first_of.result
    (subst (λ rs. IsFirst (DifferAmong place_of rs) c.first_place.result) c.in_ok-runs-2.ensures.runs c.first_place.ensures)
    (subst (λ rs. IsFirst (DifferAmong content_of rs) c.first_content.result) full c.first_content.ensures)
    (subst (λ rs. IsFirstBut (IsParted rs (map update_value c.args.updates.now)) (DifferAmong content_of rs) c.in_ok-parted.parted) full c.in_ok-parted.ensures)
    c.first_of-contents.ensures c.first_of.ensures
