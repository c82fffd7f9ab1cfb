use Rattle.yd_v1.proofs.PlaceLemmas.{has_place}
use Rattle.yd_v1.proofs.log_reading.take_body.Goals as goal

pub moved-requires : goal.moved-requires
moved-requires g c = has_place c.args.start c.args.body.now c.in-Err.error c.requires c.in-Err.ensures.fails
