use Rattle.std.proofs.Common.{ap, ◌∙◌}
use Rattle.yd_editing.specs.Basis.{has_type_item}
use Rattle.yd_received.specs.Received.{ReceivedValue, listed_of}
use Rattle.yd_making.proofs.GivenLemmas.{listed_stands}
use Rattle.yd_making.proofs.basis.Basis.has_type.Goals as goal

pub returns : goal.returns
returns c = c.has_type.ensures ∙ ap (λ (r : ReceivedValue). has_type_item (listed_of r) c.args.id) c.received.ensures.received
    ∙ ap (λ os. has_type_item os c.args.id) (listed_stands c.args.self.now.client c.args.self.now.state.now c.received.ensures.sound)
