use Rattle.yd_origins.proofs.HonestOrderLemmas.{total_of_all, one_way_of_list, through_of_list, after_left_origin, before_right_origin}
use Rattle.yd_origins.proofs.law.honest_order_is_strict.Goals as goal

pub returns : goal.returns
returns c start = record {
  one_is_before = λ names set a b t p q ne. total_of_all set t a b p q ne;
  strict = λ names set t honest. record {
    one_way = λ a b p q same less. one_way_of_list set t honest a b p q same less;
    through = λ x y z p q r same_y same_z less more. through_of_list set t honest x y z p q r same_y same_z less more;
    after_left_origin = λ x y p e. after_left_origin set t honest x y p e;
    before_right_origin = λ x y p e. before_right_origin set t honest x y p e;
  };
}
