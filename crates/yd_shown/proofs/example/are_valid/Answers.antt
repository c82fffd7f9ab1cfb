use Rattle.std.proofs.Common.{[], ◌∷◌, None, codes, refl, arith}
use Rattle.yd_ops.specs.Valid.{IsValidUpdate}
use Rattle.yd_meaning.proofs.ExampleLemmas.{unit_is_whole, first_valid}
use Rattle.yd_shown.specs.Example.{key_set_again, text_marked, hello_put, you_put, class_set, kinds_put}
use Rattle.yd_shown.proofs.ExampleLemmas.{structs_valid, text_is_whole, unit_is_id}
use Rattle.yd_shown.proofs.example.are_valid.Goals as goal

again_valid : IsValidUpdate key_set_again
again_valid = structs_valid 5 _ _ (omega arith) (
  record { begins = refl; has_units = omega arith; left = tt; right = tt; list = tt; content = (refl, (refl, tt)) },
  omega arith,
  tt,
) (record { client = omega arith; end = omega arith }, omega arith, tt, tt)

marked_valid : IsValidUpdate text_marked
marked_valid = structs_valid 3 _ _ (omega arith) (
  record {
    begins = refl;
    has_units = omega arith;
    left = unit_is_id 1 0 (omega arith) (omega arith);
    right = unit_is_id 2 0 (omega arith) (omega arith);
    list = tt;
    content = text_is_whole (88 ∷ 89 ∷ []) refl;
  },
  omega arith,
  (
    record { begins = refl; has_units = omega arith; left = tt; right = unit_is_id 1 0 (omega arith) (omega arith); list = tt; content = refl },
    omega arith,
    (
      record {
        begins = refl;
        has_units = omega arith;
        left = unit_is_id 3 0 (omega arith) (omega arith);
        right = unit_is_id 3 1 (omega arith) (omega arith);
        list = tt;
        content = refl;
      },
      omega arith,
      tt,
    ),
  ),
) (record { client = omega arith; end = omega arith }, omega arith, tt, tt)

hello_valid : IsValidUpdate hello_put
hello_valid = structs_valid 7 _ _ (omega arith) (
  record { begins = refl; has_units = omega arith; left = tt; right = tt; list = tt; content = (refl, tt) },
  omega arith,
  (
    record { begins = refl; has_units = omega arith; left = tt; right = tt; list = tt; content = tt },
    omega arith,
    (
      record { begins = refl; has_units = omega arith; left = tt; right = tt; list = unit_is_id 7 1 (omega arith) (omega arith); content = tt },
      omega arith,
      (
        record { begins = refl; has_units = omega arith; left = tt; right = tt; list = unit_is_id 7 2 (omega arith) (omega arith); content = refl },
        omega arith,
        (
          record {
            begins = refl;
            has_units = omega arith;
            left = unit_is_id 7 3 (omega arith) (omega arith);
            right = tt;
            list = tt;
            content = text_is_whole (codes "Hello") refl;
          },
          omega arith,
          (
            record { begins = refl; has_units = omega arith; left = unit_is_id 7 8 (omega arith) (omega arith); right = tt; list = tt; content = refl },
            omega arith,
            tt,
          ),
        ),
      ),
    ),
  ),
) tt

you_valid : IsValidUpdate you_put
you_valid = structs_valid 8 _ _ (omega arith) (
  record {
    begins = refl;
    has_units = omega arith;
    left = unit_is_id 7 9 (omega arith) (omega arith);
    right = tt;
    list = tt;
    content = text_is_whole (codes " you") refl;
  },
  omega arith,
  (
    record { begins = refl; has_units = omega arith; left = tt; right = tt; list = tt; content = (refl, tt) },
    omega arith,
    tt,
  ),
) tt

class_valid : IsValidUpdate class_set
class_valid = structs_valid 9 _ _ (omega arith) (
  record { begins = refl; has_units = omega arith; left = tt; right = tt; list = unit_is_id 7 1 (omega arith) (omega arith); content = (refl, tt) },
  omega arith,
  tt,
) tt

kinds_valid : IsValidUpdate kinds_put
kinds_valid = structs_valid 1 _ _ (omega arith) (
  record {
    begins = refl;
    has_units = omega arith;
    left = tt;
    right = tt;
    list = tt;
    content = (refl, (refl, (refl, (refl, (refl, (refl, (refl, (refl, (refl, tt)))))))));
  },
  omega arith,
  (
    record { begins = refl; has_units = omega arith; left = unit_is_id 1 8 (omega arith) (omega arith); right = tt; list = tt; content = (tt, (refl, tt)) },
    omega arith,
    (
      record { begins = refl; has_units = omega arith; left = unit_is_id 1 10 (omega arith) (omega arith); right = tt; list = tt; content = tt },
      omega arith,
      tt,
    ),
  ),
) tt

pub returns : goal.returns
returns c = record {
  keys = (first_valid 1 None _ _ (omega arith) tt tt refl (refl, tt), first_valid 2 None _ _ (omega arith) tt tt refl (refl, tt));
  key_again = again_valid;
  units_put = (first_valid 1 None _ _ (omega arith) tt tt refl (unit_is_whole 97 (omega arith)), first_valid 2 None _ _ (omega arith) tt tt refl (unit_is_whole 98 (omega arith)));
  marked = marked_valid;
  hello = hello_valid;
  you = you_valid;
  class = class_valid;
  kinds = kinds_valid;
}
