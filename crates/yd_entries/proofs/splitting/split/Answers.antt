use Rattle.std.proofs.Common.{◌≡◌, ◌∙◌, ◌<◌, ◌+◌, suc, length, set, take, drop, ◌++◌, ◌∷◌, refl, sym, ap, arith}
use Rattle.std.specs.Prelude.{insert}
use Rattle.std.proofs.lemmas.Option.{slice_get_read}
use Rattle.yd_entries.specs.Splitting.{front_of, back_of}
use Rattle.yd_entries.proofs.SplitLemmas.{split_by}
use Rattle.yd_entries.proofs.splitting.split.Goals as goal

pub returns : goal.returns
returns c =
    let ts = c.args.taken.now in
    let t = c.get-entry.result in
    let lt : c.args.at < length ts = c.requires.inside in
    let next : suc c.args.at ≡ c.args.at + 1 = omega arith in
    let front = front_of t c.args.n in
    let inserted : c.insert.new.self ≡ insert (set ts c.args.at front) (c.args.at + 1) c.back_of-back.result =
    c.in_ok-insert.ensures.inserted ∙ ap (λ xs. insert xs (c.args.at + 1) c.back_of-back.result) c.set.ensures in
    inserted
    ∙ ap (λ u. take (c.args.at + 1) (set ts c.args.at (front_of t c.args.n)) ++ u ∷ drop (c.args.at + 1) (set ts c.args.at (front_of t c.args.n))) c.back_of-back.ensures
    ∙ ap (λ k. take k (set ts c.args.at (front_of t c.args.n)) ++ back_of t c.args.n ∷ drop k (set ts c.args.at (front_of t c.args.n))) (sym next)
    ∙ split_by ts c.args.at c.args.n t (slice_get_read ts (length ts) c.args.at t refl lt c.get-entry.ensures)
