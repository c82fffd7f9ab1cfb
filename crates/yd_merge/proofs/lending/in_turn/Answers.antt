use Rattle.std.proofs.Common.{rules, of_calls, map, sym, ◌∙◌, subst, true≢false}
use Rattle.std.proofs.lemmas.Fn.{always_returns_same}
use Rattle.yd_words.specs.Each.{Each}
use Rattle.yd_words.proofs.EachLemmas.{each_permuted}
use Rattle.yd_merge.specs.Lending.{AreInTurn, IsLent, lent_group}
use Rattle.yd_merge.proofs.SortedTurnLemmas.{lent_key, never_in_turn}
use Rattle.yd_merge.proofs.lending.in_turn.Goals as goal

pub are_in_turn-requires-2 : goal.are_in_turn-requires-2
are_in_turn-requires-2 c = subst (Each IsLent) (sym c.deref-2.ensures.value)
    (each_permuted IsLent c.args.lents.items c.sort_unstable_by_key.new.self.items c.sort_unstable_by_key.ensures.permutation c.requires)

pub returns-clause-none : goal.returns-clause-none
returns-clause-none c = never_in_turn c.args.lents.items c.sort_unstable_by_key.new.self.items c.requires c.sort_unstable_by_key.ensures.permutation
    (c.sort_unstable_by_key.ensures.sorted lent_key (always_returns_same _ _ _ (λ a r f k. search (rules, of_calls))))
    (λ turn. true≢false (sym (c.are_in_turn-2.ensures.1 (subst (λ ls. AreInTurn (map lent_group ls)) (sym c.deref-2.ensures.value) turn)) ∙ c.if-are_in_turn-2.false))
