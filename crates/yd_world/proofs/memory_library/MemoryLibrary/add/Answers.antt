use Rattle.std.proofs.Common.{refl, ◌∙◌}
use Rattle.yd_world.proofs.MemoryLibraryLemmas.{IsFile-append, IsPlace-append, begun_at-append, unread_at-append, Adds-added}
use Rattle.yd_world.proofs.memory_library.MemoryLibrary.add.Goals as goal

pub invariant_of-self-2 : goal.invariant_of-self-2
invariant_of-self-2 c = rw c.in_ok-push.ensures.items (IsPlace-append _ _ _ c.self.invariant.0, IsFile-append _ _ _ c.self.invariant.1, c.self.invariant.2)

pub returns-clause-added : goal.returns-clause-added
returns-clause-added c =
    rw (← c.self.view_is, c.in_ok-push.ensures.items)
    (Adds-added _ _ (record { name = c.in_ok-name.name; bytes = c.in_ok-bytes.bytes }) _ _
    (c.in_ok-name.ensures ∙ c.as_bytes.ensures.value) c.in_ok-bytes.ensures refl (begun_at-append _ _ _ c.self.invariant.1) (unread_at-append _ _ _ c.self.invariant.0) refl refl)
