use Rattle.std.proofs.Common.{ap, sym, subst, ◌∙◌, ◌++◌, ◌∷◌, []}
use Rattle.yd_words.specs.Each.{Each}
use Rattle.yd_words.proofs.EachLemmas.{each_append}
use Rattle.yd_sync.specs.Message.{IsValidMessage, message_value}
use Rattle.yd_machines.specs.Sent.{values_of}
use Rattle.yd_machines.proofs.PeerLemmas.{values_with}
use Rattle.yd_machines.proofs.list.push_message.Goals as goal

pub returns-clause-pushed : goal.returns-clause-pushed
returns-clause-pushed c = ap values_of c.push_reserved.ensures.items ∙ values_with c.reserve.new.self.items c.args.message
    ∙ ap (λ ms. values_of ms ++ message_value c.args.message ∷ []) c.reserve.ensures.items

pub returns-clause-sendable : goal.returns-clause-sendable
returns-clause-sendable c = subst (λ ms. Each IsValidMessage ms) (sym (returns-clause-pushed c))
    (each_append IsValidMessage (values_of c.args.messages.now.items) (message_value c.args.message ∷ []) c.requires.sendable (c.requires.valid, tt))
