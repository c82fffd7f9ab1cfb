use Rattle.std.proofs.Common.{◌≡◌, ◌<◌, IfSome, length, sym, take, subst}
use Rattle.std.specs.Prelude.{slice_get}
use Rattle.yd_names.specs.Codes.{last_place}
use Rattle.yd_names.specs.Slots.{IsSearched}
use Rattle.yd_names.proofs.SearchLemmas.{IsAnswer, from_place, answer_from_place}
use Rattle.yd_names.proofs.codes.Codes.before.Goals as goal

pub search-requires : goal.search-requires
search-requires c = subst (λ cs. IsSearched cs c.deref-2.result.now c.index-code.result.now c.index-from.result.now) (sym c.deref.ensures.value)
    (subst (λ bs. IsSearched c.self.inside.codes.items bs c.index-code.result.now c.index-from.result.now) (sym c.deref-2.ensures.value)
    (from_place c.self.inside.codes.items c.self.inside.slots.heads.items c.self.inside.slots.before.items c.index-code.result.now c.index-from.result.now c.args.place
    c.self.invariant inside c.index-code.ensures c.index-from.ensures))
  where
    inside : c.args.place < length c.self.inside.codes.items
    inside = subst (λ cs. c.args.place < length cs) (sym c.self.view_is) c.requires

pub returns : goal.returns
returns c = subst (λ cs. IfSome (slice_get cs c.args.place) (λ code. c.search.result ≡ last_place code (take c.args.place cs))) c.self.view_is
    (answer_from_place c.self.inside.codes.items c.self.inside.slots.heads.items c.self.inside.slots.before.items c.index-code.result.now c.index-from.result.now c.args.place
    c.search.result c.self.invariant inside c.index-code.ensures c.index-from.ensures
    (subst (λ cs. IsAnswer cs c.self.inside.slots.before.items c.index-code.result.now c.index-from.result.now c.search.result) c.deref.ensures.value
    (subst (λ bs. IsAnswer c.deref.result.now bs c.index-code.result.now c.index-from.result.now c.search.result) c.deref-2.ensures.value c.search.ensures)))
  where
    inside : c.args.place < length c.self.inside.codes.items
    inside = subst (λ cs. c.args.place < length cs) (sym c.self.view_is) c.requires
