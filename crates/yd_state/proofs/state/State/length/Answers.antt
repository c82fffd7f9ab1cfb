use Rattle.std.proofs.Common.{◌≡◌, get_or, length, ap, ◌∙◌, subst}
use Rattle.std.specs.Prelude.{filter}
use Rattle.yd_arena.specs.Marks.{AreCounted}
use Rattle.yd_store.specs.Contents.{told_of}
use Rattle.yd_store.specs.Law.{is_live}
use Rattle.yd_store.specs.Store.{Stored, AreNoted}
use Rattle.yd_listing.proofs.ListingLemmas.{not_named}
use Rattle.yd_state.specs.State.{document_in}
use Rattle.yd_state.proofs.LengthLemmas.{length_at, length_none}
use Rattle.yd_state.proofs.state.State.length.Goals as goal

pub returns-in_default : goal.returns-in_default
returns-in_default c = subst (λ s. 0 ≡ length (filter (is_live (document_in s).deleted) ((document_in s).units c.args.list.now))) c.self.view_is
    (length_none _ c.self.invariant c.args.list.now (not_named c.self.inside.kept.names c.args.list.now c.in_default.ensures.none))

pub returns : goal.returns
returns c = subst (λ s. c.live.result ≡ length (filter (is_live (document_in s).deleted) ((document_in s).units c.args.list.now))) c.self.view_is
    (c.live.ensures ∙ ap (λ (it : Stored). get_or it.marks.live c.in-Some.number 0) c.store-store.ensures.value
    ∙ length_at _ c.self.invariant c.in-Some.number c.args.list.now c.in-Some.ensures.there c.in-Some.ensures.within c.store-store.ensures.arena c.store-store.ensures.lists
    c.store-store.ensures.told (subst (λ (it : Stored). AreCounted it.placed.linked it.marks.rows it.marks.live) c.store-store.ensures.value c.is_sound.ensures.counted)
    (subst (λ (it : Stored). AreNoted it.marks.rows (told_of it.contents)) c.store-store.ensures.value c.is_sound.ensures.noted))
