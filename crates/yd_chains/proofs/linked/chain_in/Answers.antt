use Rattle.yd_chains.proofs.FilingLemmas.{chain_member, chain_found}
use Rattle.yd_chains.proofs.linked.chain_in.Goals as goal

pub returns-clause-member : goal.returns-clause-member
returns-clause-member c = chain_member c.args.links.now c.args.ends.now c.chain_of_link.result c.args.place c.requires.chains c.chain_of_link.ensures

pub returns-clause-found : goal.returns-clause-found
returns-clause-found c = chain_found c.args.links.now c.args.ends.now c.chain_of_link.result c.args.place c.requires.filed c.chain_of_link.ensures
