use Rattle.std.proofs.Common.{◌<◌, length, arith, subst}
use Rattle.std.proofs.lemmas.List.{length-map}
use Rattle.yd_words.specs.Member.{IsIn}
use Rattle.yd_chains.specs.Link.{places_of}
use Rattle.yd_chains.proofs.LinkLemmas.{chain_at, are_sound}
use Rattle.yd_chains.proofs.chains.Chains.chain_of.Goals as goal

pub returns-clause-member : goal.returns-clause-member
returns-clause-member c =
    let member = rw (c.deref.ensures.value, c.deref-2.ensures.value) at c.chain_in.ensures.member in
    rw (← c.self.view_is) (λ k h m.
    let low : k < length c.self.inside.ends.items = omega (arith, h, length-map c.self.inside.ends.items (places_of c.self.inside.links.items)) in
    member k low (subst (IsIn c.args.place) (chain_at c.self.inside.links.items c.self.inside.ends.items k low) m))

pub returns-clause-sound : goal.returns-clause-sound
returns-clause-sound c = rw (← c.self.view_is) (are_sound c.self.inside.links.items c.self.inside.ends.items c.self.invariant.chains)
