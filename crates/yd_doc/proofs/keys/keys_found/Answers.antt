use Rattle.std.proofs.Common.{◌≡◌, ◌∙◌, ◌<◌, [], IfSome, length, map, drop, string_bytes, sym, ap, subst}
use Rattle.yd_names.specs.Names.{IsOf}
use Rattle.yd_doc.specs.Keys.{with_name, with_names}
use Rattle.yd_doc.proofs.UsedLemmas.{left_of, is_own, walk_begins, walk_goes_on, walk_descends, found_next}
use Rattle.yd_doc.proofs.keys.keys_found.Goals as goal

pub loop-next-init : goal.loop-next-init
loop-next-init c = record {
  own = is_own c.args.parent.now c.args.kept.now.names (length c.args.kept.now.names) c.args.last c.requires.last;
  within = c.requires.within;
  keys = λ d tells. ap (map string_bytes) c.new-found.ensures.empty ∙ (walk_begins d c.args.parent.now c.args.kept.now.names c.args.last c.requires.last).1;
}

pub loop-next-preserved : goal.loop-next-preserved
loop-next-preserved c =
    let names = c.args.kept.now.names in
    let own : IsOf names c.args.parent.now c.in-Some.n = subst (λ next. IfSome next (IsOf names c.args.parent.now)) c.in-Some.is c.loop-next.invariant.own in
    record {
      own = is_own c.args.parent.now names c.in-Some.n c.last_of-next.result c.last_of-next.ensures.last;
      within = c.last_of-next.ensures.within;
      keys = λ d tells.
          let was = subst (λ next. map string_bytes c.loop-next.found.keys ≡ with_names d c.args.parent.now (drop (left_of next) names) []) c.in-Some.is (c.loop-next.invariant.keys d tells) in
          (walk_goes_on d c.args.parent.now names c.in-Some.n c.last_of-next.result (map string_bytes c.add_used.new.found.keys) own c.last_of-next.ensures.last
          (found_next d c.args.parent.now names c.in-Some.n own.list (map string_bytes c.loop-next.found.keys) (map string_bytes c.add_used.new.found.keys) own.there
          (subst (λ name. IfSome name (λ name. map string_bytes c.add_used.new.found.keys ≡ with_name d c.args.parent.now name (map string_bytes c.loop-next.found.keys))) own.there
          (c.in_ok-add_used.ensures d tells)) was)).1;
    }

pub loop-next-smaller : goal.loop-next-smaller
loop-next-smaller c = subst (λ next. left_of c.last_of-next.result < left_of next) (sym c.in-Some.is)
    (walk_descends c.args.parent.now c.args.kept.now.names c.in-Some.n c.last_of-next.result c.last_of-next.ensures.last)
