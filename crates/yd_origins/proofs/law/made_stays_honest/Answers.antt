use Rattle.yd_origins.proofs.MadeLemmas.{Making, larger_is_table, made_name, made_place, other_lists, parents_stay}
use Rattle.yd_origins.proofs.MadeHonestLemmas.{made_honest}
use Rattle.yd_origins.proofs.law.made_stays_honest.Goals as goal

pub returns : goal.returns
returns c start = λ names set made name t honest parents m.
    let k : Making names = record { set = set; is_table = t; honest = honest; has_parents = parents; made = made; name = name; is_made = m } in record {
      is_table = larger_is_table k;
      honest = made_honest k;
      parents = parents_stay k;
      of_list = made_name k;
      place = made_place k;
      others = λ other differs. other_lists k other differs;
    }
