use Rattle.std.proofs.Common.{◌≡◌, None, Some, ap, sym, ◌∙◌, subst, true≢false}
use Rattle.std.specs.Prelude.{slice_get, IfSome, IfNone}
use Rattle.yd_entries.specs.declared.place.Place.TheVariants.{In}
use Rattle.yd_received.specs.Received.{ReceivedValue}
use Rattle.yd_making.specs.Standing.{IsPlaceOf, list_where, stands_in}
use Rattle.yd_state.specs.State.{received_in}
use Rattle.yd_making.proofs.ListLemmas.{reached_covered, unreached_none, unlisted_none, numbered_list, not_in}
use Rattle.yd_making.proofs.lists.list_of.Goals as goal

pub returns-then-not-is_reached-clause-none : goal.returns-then-not-is_reached-clause-none
returns-then-not-is_reached-clause-none c = unreached_none c.args.state.now c.received-received.ensures.sound c.args.id
    (λ reached. true≢false (sym (c.is_reached.ensures.1 reached) ∙ c.if-not-is_reached.true))

pub place_of-requires : goal.place_of-requires
place_of-requires c = rw c.received-received.ensures.received (reached_covered c.args.state.now c.received-received.ensures.sound c.args.id (c.is_reached.ensures.0 c.if-not-is_reached.false))

pub returns-in-In : goal.returns-in-In
returns-in-In c =
    let at : IsPlaceOf c.args.state.now.held.received c.args.id (In c.in-In.number) =
    subst (λ (r : ReceivedValue). IsPlaceOf r c.args.id (In c.in-In.number)) c.received-received.ensures.received (subst (IsPlaceOf c.received-received.result.now c.args.id) c.in-In.is c.place_of.ensures) in
    let is : slice_get c.names.result.now c.in-In.number ≡ list_where (stands_in (received_in c.args.state.now)) c.args.id =
    ap (λ names. slice_get names c.in-In.number) c.names.ensures.names ∙ sym (numbered_list c.args.state.now c.received-received.ensures.sound c.args.id c.in-In.number at) in
    record {
      found = subst (λ list. IfSome c.name_at.result (λ name. list ≡ Some name.now)) is c.name_at.ensures.found;
      none = subst (λ list. IfNone c.name_at.result (list ≡ None)) is c.name_at.ensures.none;
    }

pub returns-in_default : goal.returns-in_default
returns-in_default c =
    let at : IsPlaceOf c.args.state.now.held.received c.args.id c.place_of.result = subst (λ (r : ReceivedValue). IsPlaceOf r c.args.id c.place_of.result) c.received-received.ensures.received c.place_of.ensures in
    record { found = tt; none = unlisted_none c.args.state.now c.received-received.ensures.sound c.args.id c.place_of.result at (not_in c.place_of.result c.in_default.not-In) }
