use Rattle.std.proofs.Common.{◌≡◌, ◌∙◌, length, sym, ap, subst, ◌++◌, ◌∷◌, take, drop}
use Rattle.yd_names.specs.Crowds.{IsJoined, IsPlace}
use Rattle.yd_names.proofs.CrowdsLemmas.{joined, placed_alike}
use Rattle.yd_names.proofs.crowds.join_crowd.Goals as goal

pub returns-clause-joined : goal.returns-clause-joined
returns-clause-joined g c = λ name tied. subst (IsJoined g.S.Sought.cmp c.args.names.now name c.args.crowd.now.items) (sym inserted)
    (joined g.S.Sought.cmp g.met.S.Sought.total c.args.names.now c.args.crowd.now.items name c.place_in_crowd-place.result c.requires
    (placed_alike g.S.Sought.cmp g.met.S.Sought.total c.args.names.now c.args.crowd.now.items name (g.S.Sought.stands c.args.sought.now) c.place_in_crowd-place.result tied
    (subst (λ crowd. IsPlace g.S.Sought.cmp c.args.names.now crowd (g.S.Sought.stands c.args.sought.now) c.place_in_crowd-place.result) c.deref.ensures.value c.place_in_crowd-place.ensures)))
  where
    inserted : c.insert.new.self.items ≡ take c.place_in_crowd-place.result c.args.crowd.now.items ++ length c.args.names.now ∷ drop c.place_in_crowd-place.result c.args.crowd.now.items
    inserted = c.in_ok-insert.ensures.items
        ∙ ap (λ n. take c.place_in_crowd-place.result c.args.crowd.now.items ++ n ∷ drop c.place_in_crowd-place.result c.args.crowd.now.items) c.in_ok-number.ensures
