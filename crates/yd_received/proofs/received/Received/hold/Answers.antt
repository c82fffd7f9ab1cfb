use Rattle.std.proofs.Common.{◌<◌, length, set, refl, sym, subst, ap, ◌∙◌, arith}
use Rattle.std.specs.Prelude.{slice_get}
use Rattle.std.proofs.lemmas.Option.{slice_get_read}
use Rattle.yd_entries.specs.Entries.{AreTaken}
use Rattle.yd_received.specs.Received.{ReceivedValue, with_place}
use Rattle.yd_received.proofs.PlacingLemmas.{are_taken-place}
use Rattle.yd_received.proofs.received.Received.hold.Goals as goal

pub invariant_of-self : goal.invariant_of-self
invariant_of-self c =
    let entries = c.self.inside.entries in
    let entry = c.get-entry.result in
    let lt : c.args.at < length entries = omega (arith, c.requires, ap (λ (p : ReceivedValue). length p.entries) c.self.view_is) in
    subst (AreTaken c.self.inside.runs.items) (sym c.set.ensures) (are_taken-place entry c.args.place c.self.inside.runs.items entries c.args.at
    (slice_get_read entries (length entries) c.args.at entry refl lt c.get-entry.ensures) c.self.invariant)

pub returns : goal.returns
returns c =
    let entries = c.self.inside.entries in
    let entry = c.get-entry.result in
    let lt : c.args.at < length entries = omega (arith, c.requires, ap (λ (p : ReceivedValue). length p.entries) c.self.view_is) in
    record {
      entry = entry;
      there = ap (λ (p : ReceivedValue). slice_get p.entries c.args.at) (sym c.self.view_is)
          ∙ slice_get_read entries (length entries) c.args.at entry refl lt c.get-entry.ensures;
      runs_are = ap (λ (p : ReceivedValue). p.runs) c.self.view_is;
      placed = c.set.ensures ∙ ap (λ (p : ReceivedValue). set p.entries c.args.at (with_place entry c.args.place)) c.self.view_is;
    }
