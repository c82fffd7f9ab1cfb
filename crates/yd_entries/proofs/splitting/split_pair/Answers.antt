use Rattle.std.proofs.Common.{get_or}
use Rattle.std.proofs.lemmas.Option.{slice_get-get_or}
use Rattle.yd_entries.proofs.EntryLemmas.{no_entry}
use Rattle.yd_entries.proofs.PartingLemmas.{front_inside, front_splittable, alone_inside, alone_taken, torn_inside, torn_splittable, pair_splits}
use Rattle.yd_entries.proofs.splitting.split_pair.Goals as goal

pub keep_two-requires-clause-inside : goal.keep_two-requires-clause-inside
keep_two-requires-clause-inside c =
    let ts = c.args.taken.now in
    let parts = c.requires.entry no_entry in
    front_inside c.args.runs.now.items ts c.args.at (get_or ts c.args.at no_entry) (slice_get-get_or ts c.args.at no_entry c.requires.inside) c.requires.each c.requires.in_order c.args.n
    c.requires.some parts.0 parts.1 c.split_behind.new.taken c.in_ok-pair.pair c.in_ok-pair.ensures.split c.in_ok-pair.ensures.place

pub keep_two-requires-clause-entry : goal.keep_two-requires-clause-entry
keep_two-requires-clause-entry c =
    let ts = c.args.taken.now in
    let parts = c.requires.entry no_entry in
    front_splittable c.args.runs.now.items ts c.args.at (get_or ts c.args.at no_entry) (slice_get-get_or ts c.args.at no_entry c.requires.inside) c.requires.each c.requires.in_order c.args.n
    c.requires.some parts.0 parts.1 c.split_behind.new.taken c.in_ok-pair.pair c.in_ok-pair.ensures.split c.in_ok-pair.ensures.place

pub tear-requires-clause-inside : goal.tear-requires-clause-inside
tear-requires-clause-inside c =
    let ts = c.args.taken.now in
    let parts = c.requires.entry no_entry in
    alone_inside c.args.runs.now.items ts c.args.at (get_or ts c.args.at no_entry) (slice_get-get_or ts c.args.at no_entry c.requires.inside) c.requires.each c.requires.in_order c.args.n
    c.requires.some parts.0 parts.1 c.split_behind.new.taken c.in_ok-pair.pair c.in_ok-pair.ensures.split c.in_ok-pair.ensures.place c.keep_two.new.taken c.in_ok-keep_two.ensures

pub tear-requires-clause-entry : goal.tear-requires-clause-entry
tear-requires-clause-entry c =
    let ts = c.args.taken.now in
    let parts = c.requires.entry no_entry in
    alone_taken c.args.runs.now.items ts c.args.at (get_or ts c.args.at no_entry) (slice_get-get_or ts c.args.at no_entry c.requires.inside) c.requires.each c.requires.in_order c.args.n
    c.requires.some parts.0 parts.1 c.split_behind.new.taken c.in_ok-pair.pair c.in_ok-pair.ensures.split c.in_ok-pair.ensures.place c.keep_two.new.taken c.in_ok-keep_two.ensures

pub split-requires-clause-inside : goal.split-requires-clause-inside
split-requires-clause-inside c =
    let ts = c.args.taken.now in
    let parts = c.requires.entry no_entry in
    torn_inside c.args.runs.now.items ts c.args.at (get_or ts c.args.at no_entry) (slice_get-get_or ts c.args.at no_entry c.requires.inside) c.requires.each c.requires.in_order c.args.n
    c.requires.some parts.0 parts.1 c.split_behind.new.taken c.in_ok-pair.pair c.in_ok-pair.ensures.split c.in_ok-pair.ensures.place c.keep_two.new.taken c.in_ok-keep_two.ensures
    c.tear.new.runs.items c.tear.new.taken c.in_ok-tear.ensures.torn

pub split-requires-clause-entry : goal.split-requires-clause-entry
split-requires-clause-entry c =
    let ts = c.args.taken.now in
    let parts = c.requires.entry no_entry in
    torn_splittable c.args.runs.now.items ts c.args.at (get_or ts c.args.at no_entry) (slice_get-get_or ts c.args.at no_entry c.requires.inside) c.requires.each c.requires.in_order c.args.n
    c.requires.some parts.0 parts.1 c.split_behind.new.taken c.in_ok-pair.pair c.in_ok-pair.ensures.split c.in_ok-pair.ensures.place c.keep_two.new.taken c.in_ok-keep_two.ensures
    c.tear.new.runs.items c.tear.new.taken c.in_ok-tear.ensures.torn

pub returns-clause-begins : goal.returns-clause-begins
returns-clause-begins c =
    let ts = c.args.taken.now in
    let parts = c.requires.entry no_entry in
    pair_splits c.args.runs.now.items ts c.args.at (get_or ts c.args.at no_entry) (slice_get-get_or ts c.args.at no_entry c.requires.inside) c.requires.each c.requires.in_order c.args.n
    c.requires.some parts.0 parts.1 c.split_behind.new.taken c.in_ok-pair.pair c.in_ok-pair.ensures.split c.in_ok-pair.ensures.place c.keep_two.new.taken c.in_ok-keep_two.ensures
    c.tear.new.runs.items c.tear.new.taken c.in_ok-tear.ensures.torn c.split.new.taken c.in_ok-split.ensures
