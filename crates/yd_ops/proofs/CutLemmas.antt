-- A run that is cut in two: its parts join and are the run, have its operations, and are valid; and runs that join are such parts.
use Rattle.std.proofs.Common.{◌≡◌, ℕ, zero, suc, ◌+◌, ◌-◌, ◌<◌, true, List, [], ◌∷◌, take, drop, Option, Some, None, refl, sym, ap, ◌∙◌, subst, arith}
use Rattle.yd_ids.specs.declared.id.Client.{Client}
use Rattle.yd_ids.specs.declared.id.Id.{Id}
use Rattle.yd_ids.specs.Id.{IsClient, IsClock}
use Rattle.yd_ids.specs.Ids.{is_same}
use Rattle.yd_ids.proofs.IdLemmas.{same_numbers, same_itself}
use Rattle.yd_ops.specs.declared.lists.List.{List as DocList}
use Rattle.yd_ops.specs.Value.{len_of, RunValue}
use Rattle.yd_ops.specs.Operation.{UnitContent, units_of_content, later_id, operations_from, operations_of_run}
use Rattle.yd_ops.specs.Valid.{IsValidContent, IsRunAt}
use Rattle.yd_ops.specs.Joining.{run_joins, joined_run}
use Rattle.yd_ops.specs.Cutting.{content_before, content_behind, PartsPair, run_before, run_behind}
use Rattle.yd_ops.proofs.OperationLemmas.{later_later, later_none}
use Rattle.yd_ops.proofs.JoinLemmas.{joined-len, joins_says, says_joins, neighbour_itself, rule_tells, runs_long}
use Rattle.yd_ops.proofs.PartLemmas.{content_parts, before-units, behind-units, content_valid, joined-first, joined-other, joined-valid}

-- ---- operations

from-take : (n : ℕ) (id : Id) (left right : Option Id) (list : Option DocList) (units : List UnitContent) →
    operations_from id left right list (take n units) ≡ take n (operations_from id left right list units)
from-take zero id left right list units = refl
from-take (suc n) id left right list [] = refl
from-take (suc n) id left right list (unit ∷ units) =
    ap (λ r. record { id = id; left_origin = left; right_origin = right; list = list; content = unit } ∷ r) (from-take n (later_id id 1) (Some id) right None units)

-- behind at least one unit, each has the unit before it as its left origin, and no list
from-drop : (n : ℕ) (id : Id) (left right : Option Id) (list : Option DocList) (units : List UnitContent) →
    operations_from (later_id id (suc n)) (Some (later_id id n)) right None (drop (suc n) units) ≡ drop (suc n) (operations_from id left right list units)
from-drop n id left right list [] = refl
from-drop zero id left right list (unit ∷ units) = ap (λ x. operations_from (later_id id 1) (Some x) right None units) (later_none id)
from-drop (suc n) id left right list (unit ∷ units) =
    (λ i. operations_from (sym (more (suc n)) i) (Some (sym (more n) i)) right None (drop (suc n) units))
    ∙ from-drop n (later_id id 1) (Some id) right None units
  where
    more : (k : ℕ) → later_id (later_id id 1) k ≡ later_id id (suc k)
    more k = later_later id 1 k ∙ ap (later_id id) (omega arith)

behind-operations : (m n : ℕ) (run : RunValue) → n ≡ suc m → n < len_of run.content → operations_of_run (run_behind n run) ≡ drop n (operations_of_run run)
behind-operations m n run e lt =
    ap (operations_from (later_id run.id n) (Some (later_id run.id (n - 1))) run.right None) (behind-units n run.content (omega (arith, e)) lt)
    ∙ (λ i. operations_from (later_id run.id (e i)) (Some (later_id run.id (before i))) run.right None (drop (e i) (units_of_content run.content)))
    ∙ from-drop m run.id run.left run.right run.list (units_of_content run.content)
    ∙ ap (λ k. drop k (operations_of_run run)) (sym e)
  where
    before : n - 1 ≡ m
    before = omega (arith, e)

-- ---- lemmas for callers: the parts

pub parts_join : (n : ℕ) (run : RunValue) → 0 < n → n < len_of run.content → run_joins (run_before n run) (run_behind n run) ≡ true
parts_join n run some lt = let parts = content_parts n run.content some lt in says_joins (run_before n run) (run_behind n run) (record {
  begins = ap (later_id run.id) (sym parts.length);
  behind = subst (λ x. is_same (later_id run.id n) x ≡ true) next (same_itself (later_id run.id n));
  right = neighbour_itself run.right;
  kind = parts.kind;
})
  where
    next : later_id run.id n ≡ later_id (later_id run.id (n - 1)) 1
    next = same_numbers (later_id run.id n) (later_id (later_id run.id (n - 1)) 1) refl (omega (arith, some))

pub parts_joined : (n : ℕ) (run : RunValue) → 0 < n → n < len_of run.content → joined_run (run_before n run) (run_behind n run) ≡ run
parts_joined n run some lt = ap (λ c. record { id = run.id; left = run.left; right = run.right; list = run.list; content = c }) (content_parts n run.content some lt).whole

pub part_long : (n : ℕ) (run : RunValue) → 0 < n → n < len_of run.content → len_of (run_before n run).content ≡ n
part_long n run some lt = (content_parts n run.content some lt).length

pub parts_long : (n : ℕ) (run : RunValue) → 0 < n → n < len_of run.content → len_of (run_before n run).content + len_of (run_behind n run).content ≡ len_of run.content
parts_long n run some lt = let parts = content_parts n run.content some lt in
    sym (joined-len (content_before n run.content) (content_behind n run.content) parts.kind) ∙ ap len_of parts.whole

pub first-operations : (n : ℕ) (run : RunValue) → 0 < n → n < len_of run.content → operations_of_run (run_before n run) ≡ take n (operations_of_run run)
first-operations n run some lt =
    ap (operations_from run.id run.left run.right run.list) (before-units n run.content some lt)
    ∙ from-take n run.id run.left run.right run.list (units_of_content run.content)

pub other-operations : (n : ℕ) (run : RunValue) → 0 < n → n < len_of run.content → operations_of_run (run_behind n run) ≡ drop n (operations_of_run run)
other-operations n run some lt = behind-operations (n - 1) n run (omega (arith, some)) lt

pub contents_valid : (n : ℕ) (run : RunValue) → 0 < n → n < len_of run.content → IsValidContent run.content → (PartsPair n run.content → ⊥) →
    IsValidContent (run_before n run).content × IsValidContent (run_behind n run).content
contents_valid n run some lt valid none = content_valid n run.content lt valid none

pub parts_valid : (n : ℕ) (client : Client) (clock : ℕ) (run : RunValue) → 0 < n → n < len_of run.content → IsClient client → IsClock (clock + len_of run.content) →
    IsRunAt client clock run → (PartsPair n run.content → ⊥) → IsRunAt client clock (run_before n run) × IsRunAt client (clock + n) (run_behind n run)
parts_valid n client clock run some lt is_client is_clock at none = let valid = contents_valid n run some lt at.content none in (
  record { begins = at.begins; has_units = omega (arith, part_long n run some lt, some); left = at.left; right = at.right; list = at.list; content = valid.0 },
  record {
    begins = same_numbers (later_id run.id n) (record { client = client; clock = clock + n }) (ap (λ (x : Id). x.client.0) at.begins) (ap (λ (x : Id). x.clock + n) at.begins);
    has_units = omega (arith, part_long n run some lt, parts_long n run some lt, lt);
    left = record { client = subst (λ (x : Id). IsClient x.client) (sym at.begins) is_client; clock = omega (arith, ap (λ (x : Id). x.clock) at.begins, is_clock, lt) };
    right = at.right;
    list = tt;
    content = valid.1;
  },
)

-- ---- lemmas for callers: runs that join

pub joined_first : (run next : RunValue) → run_joins run next ≡ true → run_before (len_of run.content) (joined_run run next) ≡ run
joined_first run next e =
    ap (λ c. record { id = run.id; left = run.left; right = run.right; list = run.list; content = c }) (joined-first run.content next.content (joins_says run next e).kind)

pub joined_other : (run next : RunValue) → 0 < len_of run.content → run_joins run next ≡ true → next.list ≡ None →
    run_behind (len_of run.content) (joined_run run next) ≡ next
joined_other run next some e none = let goes = (rule_tells run next some).0 e in
    λ i. record { id = sym goes.begins i; left = sym goes.behind i; right = goes.right i; list = sym none i; content = joined-other run.content next.content goes.kind i }

pub joined_valid : (client : Client) (clock : ℕ) (run next : RunValue) → run_joins run next ≡ true → IsRunAt client clock run → IsValidContent next.content →
    IsRunAt client clock (joined_run run next)
joined_valid client clock run next e at also = record {
  begins = at.begins;
  has_units = omega (arith, at.has_units, runs_long run next e);
  left = at.left;
  right = at.right;
  list = at.list;
  content = joined-valid run.content next.content (joins_says run next e).kind at.content also;
}
