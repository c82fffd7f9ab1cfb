use Rattle.std.proofs.Common.{◌≡◌, ◌<◌, ◌∙◌, List, length, get_or, take, ap, subst, arith}
use Rattle.std.specs.Prelude.{filter}
use Rattle.std.proofs.Math.Seq.{take-length}
use Rattle.std.proofs.lemmas.Option.{slice_get-get_or}
use Rattle.yd_words.specs.Test.{one_if}
use Rattle.yd_ops.specs.declared.lists.List.{List as DocList}
use Rattle.yd_state.specs.State.{received_in, document_in}
use Rattle.yd_state.proofs.LentLemmas.{document_replica}
use Rattle.yd_checking.specs.Counts.{is_used}
use Rattle.yd_checking.proofs.ListCountLemmas.{no_name, names_count, used_more}
use Rattle.yd_checking.proofs.lists.used_lists.Goals.{then-has_units, else-has_units}
use Rattle.yd_checking.proofs.lists.used_lists.Goals as goal

pub loop-n-preserved : goal.loop-n-preserved
loop-n-preserved c =
    let s = c.args.state.now in
    let n = c.loop-n.n in
    let less : n < length s.held.names = subst (λ (ns : List DocList). n < length ns) c.names-names.ensures.names c.loop-n-test.true in
    let there = slice_get-get_or s.held.names n no_name less in
    let used : c.has_units.result ≡ is_used (document_in s) (get_or s.held.names n no_name) = rw there at c.has_units.ensures in
    let more = used_more (document_in s) s.held.names n no_name c.has_units.result less used in
    elim c.if-has_units.branch [
      | then-has_units w ↦ record {
        counted = omega (arith, w.count-is, c.loop-n.invariant.counted, more, ap one_if w.if-has_units.true);
        few = omega (arith, w.count-is, c.loop-n.invariant.few);
      }
      | else-has_units w ↦ record {
        counted = omega (arith, w.count-is, c.loop-n.invariant.counted, more, ap one_if w.if-has_units.false);
        few = omega (arith, w.count-is, c.loop-n.invariant.few);
      }
    ]

pub returns : goal.returns
returns c =
    let s = c.args.state.now in
    let r = received_in s in
    let sound = c.received-received.ensures.sound in
    let names = s.held.names in
    let all : c.loop-n.n ≡ length names = omega (arith, c.loop-n-test.false, c.loop-n.auto.n-end, ap (λ (ns : List DocList). length ns) c.names-names.ensures.names) in
    c.loop-n.invariant.counted
    ∙ ap (λ n. length (filter (is_used (document_in s)) (take n names))) all
    ∙ ap (λ (ns : List DocList). length (filter (is_used (document_in s)) ns)) (take-length names)
    ∙ names_count r (document_in s) (document_replica s sound) names sound.holds.numbered.distinct c.names-names.ensures.all
