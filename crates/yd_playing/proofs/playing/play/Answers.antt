use Rattle.std.proofs.Common.{◌≡◌, List, Ok, ◌++◌, map, refl, sym, ◌∙◌, subst}
use Rattle.yd_words.specs.Each.{Each}
use Rattle.yd_words.proofs.EachLemmas.{each_append}
use Rattle.yd_ids.specs.declared.id.Client.{Client}
use Rattle.yd_ops.specs.Valid.{IsValidUpdate}
use Rattle.yd_ops.specs.Value.{UpdateValue}
use Rattle.yd_ops.specs.View.{update_value}
use Rattle.yd_script.specs.Lines.{numbered_of, script_lines}
use Rattle.yd_doc.specs.Kept.{own_document, received_of}
use Rattle.yd_playing.specs.Answer.{updates_in}
use Rattle.yd_playing.specs.Desk.{desk_of, first_desk}
use Rattle.yd_playing.specs.Ended.{text_ends}
use Rattle.yd_playing.specs.Played.{SoFar}
use Rattle.yd_playing.specs.Stopped.{LeavesPlayed, StopsFor, IsLeft, IsStop}
use Rattle.yd_playing.specs.declared.fault.PlayFault.{PlayFault}
use Rattle.yd_playing.proofs.PlayedLemmas.{at_end, left_here, one_more, passed_on, stops_here}
use Rattle.yd_playing.proofs.ReceivedLemmas.{lines_received}
use Rattle.yd_playing.proofs.playing.play.Goals as goal

pub loop-line-preserved : goal.loop-line-preserved
loop-line-preserved c =
    let loop = c.loop-line in
    let client = c.args.replica.now.client in
    let r = received_of c.args.replica.now in
    let lines = script_lines c.args.script.now in
    let text = numbered_of c.in-Some.line in
    let desk = desk_of loop.replica loop.desk in
    let next = desk_of c.play_line.new.replica c.play_line.new.desk in
    let us = map update_value loop.updates in
    let vs = updates_in c.in_ok-made.made in
    let more : map update_value c.push_made.new.updates ≡ us ++ vs = c.in_ok-push_made.ensures.added in
    record {
      client = c.play_line.ensures.client ∙ loop.invariant.client;
      so_far = subst (λ (ws : List UpdateValue). SoFar client r next lines c.next.new.self ws) (sym more)
          (one_more client r desk next lines c.next.new.self loop.lines text us vs loop.invariant.so_far c.in-Some.ensures
          (own_document loop.replica, c.in_ok-made.ensures.own, subst (λ (k : Client). text_ends k (own_document loop.replica) desk text.text ≡ Ok (record { updates = vs; desk = next })) loop.invariant.client c.in_ok-made.ensures.plays));
      valid = subst (Each IsValidUpdate) (sym more) (each_append IsValidUpdate us vs loop.invariant.valid c.in_ok-made.ensures.valid);
    }

pub returns-in_err-push_made-clause-leaves : goal.returns-in_err-push_made-clause-leaves
returns-in_err-push_made-clause-leaves c =
    let loop = c.loop-line in
    let client = c.args.replica.now.client in
    let r = received_of c.args.replica.now in
    let lines = script_lines c.args.script.now in
    let text = numbered_of c.in-Some.line in
    let desk = desk_of loop.replica loop.desk in
    let next = desk_of c.play_line.new.replica c.play_line.new.desk in
    let us = map update_value loop.updates in
    let vs = updates_in c.in_ok-made.made in
    let leaves : PlayFault → Type 0 = LeavesPlayed client r (received_of c.play_line.new.replica) lines in
    passed_on leaves c.from_residual-in_err-push_made.result c.in_err-push_made.field-0.0 c.from_residual-in_err-push_made.ensures.1
    (subst leaves (sym c.in_err-push_made.ensures.memory) (
      next,
      c.next.new.self,
      us ++ vs,
      one_more client r desk next lines c.next.new.self loop.lines text us vs loop.invariant.so_far c.in-Some.ensures
          (own_document loop.replica, c.in_ok-made.ensures.own, subst (λ (k : Client). text_ends k (own_document loop.replica) desk text.text ≡ Ok (record { updates = vs; desk = next })) loop.invariant.client c.in_ok-made.ensures.plays),
      refl,
    ))

pub returns-in_err-made-clause-leaves : goal.returns-in_err-made-clause-leaves
returns-in_err-made-clause-leaves c =
    let loop = c.loop-line in
    let client = c.args.replica.now.client in
    let r = received_of c.args.replica.now in
    let lines = script_lines c.args.script.now in
    let text = numbered_of c.in-Some.line in
    let desk = desk_of loop.replica loop.desk in
    let fault = c.in_err-made.field-0.0 in
    let now = received_of c.play_line.new.replica in
    passed_on (LeavesPlayed client r now lines) c.from_residual.result fault c.from_residual.ensures.1
    (left_here client r desk lines c.next.new.self loop.lines text (map update_value loop.updates) now (own_document loop.replica) fault loop.invariant.so_far c.in-Some.ensures
    c.in_err-made.ensures.own
    (subst (λ (k : Client). IsStop text.number (text_ends k (own_document loop.replica) desk text.text) fault) loop.invariant.client c.in_err-made.ensures.plays.0)
    (subst (λ (k : Client). IsLeft desk.received now (text_ends k (own_document loop.replica) desk text.text)) loop.invariant.client c.in_err-made.ensures.plays.1))

pub returns-in_err-made-clause-stops : goal.returns-in_err-made-clause-stops
returns-in_err-made-clause-stops c =
    let loop = c.loop-line in
    let client = c.args.replica.now.client in
    let r = received_of c.args.replica.now in
    let lines = script_lines c.args.script.now in
    let text = numbered_of c.in-Some.line in
    let desk = desk_of loop.replica loop.desk in
    passed_on (StopsFor client r lines) c.from_residual.result c.in_err-made.field-0.0 c.from_residual.ensures.1
    (stops_here client r desk lines c.next.new.self loop.lines text (map update_value loop.updates) (own_document loop.replica) c.in_err-made.field-0.0 loop.invariant.so_far c.in-Some.ensures
    c.in_err-made.ensures.own (subst (λ (k : Client). IsStop text.number (text_ends k (own_document loop.replica) desk text.text) c.in_err-made.field-0.0) loop.invariant.client c.in_err-made.ensures.plays.0))

pub returns-clause-played : goal.returns-clause-played
returns-clause-played c =
    let loop = c.loop-line in (
      desk_of loop.replica loop.desk,
      at_end c.args.replica.now.client (received_of c.args.replica.now) (desk_of loop.replica loop.desk) (script_lines c.args.script.now) loop.lines (map update_value loop.updates)
          loop.invariant.so_far c.in_default.ensures,
    )

pub returns-clause-received : goal.returns-clause-received
returns-clause-received c =
    let loop = c.loop-line in
    lines_received c.args.replica.now.client (script_lines c.args.script.now) (first_desk (received_of c.args.replica.now))
    (record { updates = map update_value loop.updates; desk = desk_of loop.replica loop.desk })
    (at_end c.args.replica.now.client (received_of c.args.replica.now) (desk_of loop.replica loop.desk) (script_lines c.args.script.now) loop.lines (map update_value loop.updates)
    loop.invariant.so_far c.in_default.ensures)
