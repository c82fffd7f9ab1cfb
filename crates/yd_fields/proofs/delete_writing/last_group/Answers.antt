use Rattle.std.proofs.Common.{◌≡◌, ◌-◌, ◌∙◌, ℕ, suc, get_or, ap, arith}
use Rattle.yd_ids.specs.declared.id.Span.{Span}
use Rattle.yd_fields.proofs.GroupLemmas.{last_group_is, one_client_more}
use Rattle.yd_fields.proofs.delete_writing.last_group.Goals as goal

-- what is read where there is no span
none : Span
none = record { client = record { 0 = 0 }; clock = 0; len = 0 }

pub loop-start-preserved : goal.loop-start-preserved
unfolding none
loop-start-preserved c = record {
  inside = omega arith;
  one_client = one_client_more c.args.spans.now c.loop-start.start (c.loop-start.start - 1) _ none (omega arith) c.loop-start.invariant.inside c.if-spans-start.true c.loop-start.invariant.one_client;
}

pub returns-else-spans-start-clause-last : goal.returns-else-spans-start-clause-last
unfolding none
returns-else-spans-start-clause-last c =
    let here : (before : ℕ) → suc before ≡ c.loop-start.start → c.loop-start.start - 1 ≡ before = λ before e. omega (arith, e) in
    last_group_is c.args.spans.now c.loop-start.start _ none c.loop-start.invariant.inside c.loop-start.invariant.one_client
    (λ before e same. c.if-spans-start.false (ap (λ (n : ℕ). (get_or c.args.spans.now n none).client.0) (here before e) ∙ same))

pub returns-after-loop-start-clause-last : goal.returns-after-loop-start-clause-last
returns-after-loop-start-clause-last c =
    last_group_is c.args.spans.now c.loop-start.start _ none c.loop-start.invariant.inside c.loop-start.invariant.one_client (λ before e. absurd (omega (arith, e)))
