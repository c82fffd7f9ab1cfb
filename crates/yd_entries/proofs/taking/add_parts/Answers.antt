use Rattle.std.proofs.Common.{sym, refl, arith}
use Rattle.std.specs.Prelude.{[], ◌∷◌}
use Rattle.std.proofs.lemmas.Bool.{true≢false}
use Rattle.yd_ops.specs.View.{run_value}
use Rattle.yd_entries.proofs.BringingLemmas.{kept_last, grown_are, adds_behind, known_adds, known_adds_none, new_adds}
use Rattle.yd_entries.proofs.taking.add_parts.Goals as goal

pub returns-then-known-len-clause-added : goal.returns-then-known-len-clause-added
returns-then-known-len-clause-added c =
    known_adds c.args.is_gone c.args.runs.now.items c.args.taken.now (run_value c.args.run.now) c.requires.taken c.known_from-known.result
    c.known_from-known.ensures.known (omega arith) (omega arith)

pub returns-then-known-len-clause-says : goal.returns-then-known-len-clause-says
returns-then-known-len-clause-says c = (
  (λ no. absurd (true≢false (sym no))),
  (λ adds. absurd (known_adds_none c.args.is_gone c.args.runs.now.items c.args.taken.now (run_value c.args.run.now) c.requires.taken c.known_from-known.result
      c.known_from-known.ensures.known (omega arith) adds)),
)

pub add_rest-requires-clause-kept : goal.add_rest-requires-clause-kept
add_rest-requires-clause-kept c = kept_last c.args.runs.now.items _ c.in_ok-copy.copy (run_value c.args.run.now) c.len-index.result c.in_ok-push.ensures.items (omega arith) c.in_ok-copy.ensures

pub add_rest-requires-clause-taken : goal.add_rest-requires-clause-taken
add_rest-requires-clause-taken c = grown_are c.args.runs.now.items _ c.args.taken.now (c.in_ok-copy.copy ∷ [], c.in_ok-push.ensures.items) c.requires.taken

pub returns-clause-added : goal.returns-clause-added
returns-clause-added c =
    adds_behind c.args.runs.now.items c.push.new.self.items _ c.args.taken.now _ _ (c.in_ok-copy.copy ∷ [], c.in_ok-push.ensures.items) c.requires.taken c.in_ok-add_rest.ensures.added

pub returns-clause-says : goal.returns-clause-says
returns-clause-says c = (
  (λ yes. new_adds c.args.is_gone c.args.runs.now.items c.args.taken.now (run_value c.args.run.now) c.known_from-known.result c.requires.taken (omega arith)
      (c.known_from-known.ensures.new (omega arith))),
  (λ adds. refl),
)
