use Rattle.std.proofs.Common.{length, ap, arith, refl}
use Rattle.yd_store.proofs.HalvesLemmas.{known_below, text_told}
use Rattle.yd_store.proofs.TearingLemmas.{half_len, tears_half}
use Rattle.yd_store.proofs.store.Store.tear_half.Goals as goal

pub unreachable-requires : goal.unreachable-requires
unreachable-requires c =
    let k = c.requires.2.known in
    absurd (omega (arith, known_below c.args.self.now c.is_sound.ensures.arena c.is_sound.ensures.told c.args.torn.half k.operation k.there k.id_is, c.in_default.ensures.missing))

pub put_text-requires-clause-place : goal.put_text-requires-clause-place
put_text-requires-clause-place c = c.in-Some.ensures.found.within

pub put_text-requires-clause-alone : goal.put_text-requires-clause-alone
put_text-requires-clause-alone c = half_len c.args.self.now c.in-Some.found.place c.in-Some.found.before c.args.torn.half c.in-Some.ensures.found c.requires.2

pub put_text-requires-clause-one : goal.put_text-requires-clause-one
put_text-requires-clause-one c = ap length c.requires.1

pub put_text-requires-clause-text : goal.put_text-requires-clause-text
put_text-requires-clause-text c =
    let k = c.requires.2.known in
    text_told c.args.self.now c.is_sound.ensures.arena c.is_sound.ensures.told c.in-Some.found.place c.in-Some.found.before c.args.torn.half c.in-Some.ensures.found
    (record { unit = k.unit; left = k.operation.left_origin }) (record { operation = k.operation; there = k.there; id_is = k.id_is; content_is = k.known; left_is = refl })

pub returns-clause-maps : goal.returns-clause-maps
returns-clause-maps c =
    tears_half c.args.self.now c.put_text.new.self c.in-Some.found.place c.in-Some.found.before c.args.torn.half c.args.torn.units c.is_sound.ensures.arena c.is_sound.ensures.told c.is_sound.ensures.lists
    c.in-Some.ensures.found c.requires.2 c.requires.1 c.put_text.ensures.told c.put_text.ensures.placed c.put_text.ensures.marks
