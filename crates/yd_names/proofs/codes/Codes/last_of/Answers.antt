use Rattle.std.proofs.Common.{◌≡◌, ◌∙◌, ◌<◌, get_or, length, sym, ap, subst}
use Rattle.yd_names.specs.Codes.{last_place}
use Rattle.yd_names.specs.Slots.{slot_of, IsSearched}
use Rattle.yd_names.proofs.SearchLemmas.{IsAnswer, from_end, answer_from_end}
use Rattle.yd_names.proofs.codes.Codes.last_of.Goals as goal

pub search-requires : goal.search-requires
search-requires c = subst (λ cs. IsSearched cs c.deref-2.result.now c.args.code c.index-from.result.now) (sym c.deref.ensures.value)
    (subst (λ bs. IsSearched c.self.inside.codes.items bs c.args.code c.index-from.result.now) (sym c.deref-2.ensures.value)
    (from_end c.self.inside.codes.items c.self.inside.slots.heads.items c.self.inside.slots.before.items c.args.code c.index-from.result.now c.self.invariant below is))
  where
    size : c.len-size.result ≡ length c.self.inside.slots.heads.items
    size = c.len-size.ensures ∙ c.self.inside.slots.heads.ok.0

    slot : c.slot_of.result ≡ slot_of (length c.self.inside.slots.heads.items) c.args.code
    slot = c.slot_of.ensures.slot ∙ ap (λ n. slot_of n c.args.code) size

    below : slot_of (length c.self.inside.slots.heads.items) c.args.code < length c.self.inside.slots.heads.items
    below = subst (λ k. k < length c.self.inside.slots.heads.items) slot (subst (λ n. c.slot_of.result < n) size c.slot_of.ensures.low)

    is : c.index-from.result.now ≡ get_or c.self.inside.slots.heads.items (slot_of (length c.self.inside.slots.heads.items) c.args.code) c.index-from.result.now
    is = c.index-from.ensures ∙ ap (λ k. get_or c.self.inside.slots.heads.items k c.index-from.result.now) slot

pub returns : goal.returns
returns c = answer_from_end c.self.inside.codes.items c.self.inside.slots.heads.items c.self.inside.slots.before.items c.args.code c.index-from.result.now c.search.result
    c.self.invariant below is
    (subst (λ cs. IsAnswer cs c.self.inside.slots.before.items c.args.code c.index-from.result.now c.search.result) c.deref.ensures.value
    (subst (λ bs. IsAnswer c.deref.result.now bs c.args.code c.index-from.result.now c.search.result) c.deref-2.ensures.value c.search.ensures))
    ∙ ap (λ cs. last_place c.args.code cs) c.self.view_is
  where
    size : c.len-size.result ≡ length c.self.inside.slots.heads.items
    size = c.len-size.ensures ∙ c.self.inside.slots.heads.ok.0

    slot : c.slot_of.result ≡ slot_of (length c.self.inside.slots.heads.items) c.args.code
    slot = c.slot_of.ensures.slot ∙ ap (λ n. slot_of n c.args.code) size

    below : slot_of (length c.self.inside.slots.heads.items) c.args.code < length c.self.inside.slots.heads.items
    below = subst (λ k. k < length c.self.inside.slots.heads.items) slot (subst (λ n. c.slot_of.result < n) size c.slot_of.ensures.low)

    is : c.index-from.result.now ≡ get_or c.self.inside.slots.heads.items (slot_of (length c.self.inside.slots.heads.items) c.args.code) c.index-from.result.now
    is = c.index-from.ensures ∙ ap (λ k. get_or c.self.inside.slots.heads.items k c.index-from.result.now) slot
