use Rattle.std.proofs.Common.{◌-◌, ◌∙◌, inl, refl, subst, sym, length, [], ◌∷◌}
use Rattle.std.proofs.lemmas.Bool.{true≢false}
use Rattle.yd_held.specs.Trying.{StandsLast, Tries}
use Rattle.yd_words.proofs.MemberLemmas.{in_left_part, in_right_part}
use Rattle.yd_held.proofs.TryingLemmas.{got_in}
use Rattle.yd_held.proofs.trying.try_client.Goals as goal

pub returns-then-is_last-clause-tries : goal.returns-then-is_last-clause-tries
returns-then-is_last-clause-tries c =
    let last : StandsLast c.args.client c.args.clients.now.items = rw c.deref.ensures.value at (c.is_last.ensures.0 c.if-is_last.true) in
    record { here = got_in c.args.clients.now.items (length c.args.clients.now.items - 1) c.args.client last; stay = λ other i. i }

pub returns-clause-tries : goal.returns-clause-tries
returns-clause-tries c = subst (Tries c.args.client c.args.clients.now.items) (sym c.in_ok-push.ensures.items) (record {
  here = in_right_part c.args.client c.args.clients.now.items (c.args.client ∷ []) (inl refl);
  stay = λ other i. in_left_part other c.args.clients.now.items (c.args.client ∷ []) i;
})

pub returns-clause-once : goal.returns-clause-once
returns-clause-once c = λ last. absurd (true≢false (sym (c.is_last.ensures.1 (rw c.deref.ensures.value last)) ∙ c.if-is_last.false))
