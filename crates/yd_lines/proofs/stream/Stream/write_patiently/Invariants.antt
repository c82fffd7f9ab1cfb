use Rattle.std.proofs.Common.{◌≡◌}
use Rattle.yd_lines.specs.Flow.{all_to_come}
use Rattle.yd_lines.proofs.stream.Stream.write_patiently.Given as goal

-- nothing went so far, and nothing of what is to come was lost
abbrev pub invariant-loop : goal.invariant-loop
invariant-loop g l = (g.L.Link.gone l.self.inner ≡ g.L.Link.gone l.fn.self.inner)
    × (all_to_come l.self.held (g.L.Link.coming l.self.inner) ≡ all_to_come l.fn.self.held (g.L.Link.coming l.fn.self.inner))
