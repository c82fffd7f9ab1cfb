-- The fields of a struct are what its plan wants.
use Rattle.std.proofs.Common.{◌≡◌, ◌+◌, ◌^◌, ◌++◌, ◌<◌, [], ℕ, true, nat_lt, refl, sym, ap}
use Rattle.std.specs.Option.{is_some}
use Rattle.std.proofs.lemmas.Bool.{lt-ltb}
use Rattle.yd_ids.specs.Id.{IsClock}
use Rattle.yd_ids.specs.declared.id.Client.{Client}
use Rattle.yd_ops.specs.Value as ops
use Rattle.yd_ops.specs.Valid.{IsRunAt, IsStructAt}
use Rattle.yd_fields.specs.Field as field
use Rattle.yd_parts.specs.Plan.{Expects, ◌>>=◌}
use Rattle.yd_fields.specs.StructPlan.{carried_plan, clocks_plan, content_plan, ended_plan, gone_plan, has_key, has_left, has_right, item_plan, kinded_plan, optional_plan, skip_plan, struct_plan}
use Rattle.yd_fields.specs.UpdateFields.{fields_of_content, fields_of_left, fields_of_list, fields_of_right, fields_of_struct, info_of_run}
use Rattle.yd_parts.specs.declared.fault.Spot.{Spot}
use Rattle.yd_fields.proofs.ContentExpectLemmas.{content_expects}
use Rattle.yd_parts.proofs.ExpectLemmas.{count_some, expects_bind, expects_last}
use Rattle.yd_fields.proofs.InfoLemmas.{has_key-info, has_left-info, has_right-info, is_keyed, kind_of_content, kind_of_info-run}
use Rattle.yd_fields.proofs.ListExpectLemmas.{carried_expects, left_expects, right_expects}

-- a struct that ends at a clock
ended_expects : (clock : ℕ) (begin : Spot) (s other : ops.StructValue) → IsClock (clock + ops.clocks_of s) → s ≡ other → Expects (ended_plan clock begin s) [] other
ended_expects clock begin s other ends same =
    let within : nat_lt (clock + ops.clocks_of s) (2 ^ 53) ≡ true = lt-ltb (clock + ops.clocks_of s) (2 ^ 53) ends in
    rw within same

-- a struct that is a number of clocks alone
clocks_expect : (clock : ℕ) (begin : Spot) (s : ops.StructValue) → 0 < ops.clocks_of s → IsClock (clock + ops.clocks_of s) → Expects (clocks_plan clock begin s) [] s
clocks_expect clock begin s some ends = rw (count_some (ops.clocks_of s) some) (ended_expects clock begin s s ends refl)

-- the content of an item, which is its last field
item_content_expects : (client : Client) (clock : ℕ) (begin : Spot) (run : ops.RunValue) → IsRunAt client clock run → IsClock (clock + ops.len_of run.content) →
    Expects (content_plan (kind_of_content run.content) begin >>= λ content. ended_plan clock begin (ops.item (record { id = record { client = client; clock = clock }; left = run.left; right = run.right; list = run.list; content = content })))
    (fields_of_content run.content) (ops.item run)
item_content_expects client clock begin run is ends =
    expects_last (content_plan (kind_of_content run.content) begin) (λ content. ended_plan clock begin (ops.item (record { id = record { client = client; clock = clock }; left = run.left; right = run.right; list = run.list; content = content })))
    (fields_of_content run.content) run.content (ops.item run) (content_expects run.content begin is.content is.has_units)
    (ended_expects clock begin (ops.item (record { id = record { client = client; clock = clock }; left = run.left; right = run.right; list = run.list; content = run.content })) (ops.item run) ends
    (ap (λ id. ops.item (record { id = id; left = run.left; right = run.right; list = run.list; content = run.content })) (sym is.begins)))

-- an item behind its info byte
item_expects : (client : Client) (clock info : ℕ) (begin : Spot) (run : ops.RunValue) → IsRunAt client clock run → IsClock (clock + ops.len_of run.content) →
    has_left info ≡ is_some run.left → has_right info ≡ is_some run.right → has_key info ≡ is_keyed run.list →
    Expects (item_plan client clock info begin (kind_of_content run.content)) (fields_of_left run.left ++ (fields_of_right run.right ++ (fields_of_list run.list ++ fields_of_content run.content))) (ops.item run)
unfolding item_plan
item_expects client clock info begin run is ends left right key =
    rw (left, right, key)
    (expects_bind (optional_plan field.left (is_some run.left)) _ (fields_of_left run.left) (fields_of_right run.right ++ (fields_of_list run.list ++ fields_of_content run.content)) run.left (ops.item run) (left_expects run.left)
    (expects_bind (optional_plan field.right (is_some run.right)) _ (fields_of_right run.right) (fields_of_list run.list ++ fields_of_content run.content) run.right (ops.item run) (right_expects run.right)
    (expects_bind (carried_plan (is_keyed run.list) run.left run.right) _ (fields_of_list run.list) (fields_of_content run.content) run.list (ops.item run) (carried_expects run.left run.right run.list is.list)
    (item_content_expects client clock begin run is ends))))

-- the fields of a struct are what its plan wants
pub struct_expects : (client : Client) (clock : ℕ) (s : ops.StructValue) → IsStructAt client clock s → IsClock (clock + ops.clocks_of s) → Expects (struct_plan client clock) (fields_of_struct s) s
unfolding struct_plan kinded_plan skip_plan gone_plan
struct_expects client clock (ops.item run) is ends = (
  info_of_run run,
  refl,
  λ begin. rw (kind_of_info-run run)
      (item_expects client clock (info_of_run run) begin run is ends (has_left-info run) (has_right-info run) (has_key-info run)),
)
struct_expects client clock (ops.skip count) is ends = (10, refl, λ begin. (count, refl, λ spot. clocks_expect clock begin (ops.skip count) is ends))
struct_expects client clock (ops.gone count) is ends = (0, refl, λ begin. (count, refl, λ spot. clocks_expect clock begin (ops.gone count) is ends))
