-- Units that are told less: run by run, and each operation of the span.
use Rattle.std.proofs.Common.{◌≡◌, ◌≢◌, ◌⊎◌, ℕ, zero, suc, true, false, ◌+◌, ◌<◌, ◌≤◌, inl, inr, List, [], ◌∷◌, Option, Some, None, map, set, length, refl, sym, ap, ap₂, ◌∙◌, subst, arith, true≢false}
use Rattle.std.specs.Prelude.{IfSome}
use Rattle.std.proofs.lemmas.List.{length-set, get_or-set_same, get_or-set_other}
use Rattle.yd_any.specs.Tree.{AnyTrees, no_trees, tree}
use Rattle.yd_ids.specs.declared.id.Id.{Id}
use Rattle.yd_ids.specs.declared.id.Client.{Client}
use Rattle.yd_ids.specs.declared.id.Span.{Span}
use Rattle.yd_ids.specs.Span.{InSpan}
use Rattle.yd_words.specs.Each.{Each}
use Rattle.yd_words.specs.Member.{IsIn}
use Rattle.yd_ops.specs.declared.lists.List.{List as DocList}
use Rattle.yd_ops.specs.Value.{RunValue, ContentValue, json, binary, string, embed, format, nested, any, deleted}
use Rattle.yd_ops.specs.Operation.{UnitContent, text_unit, any_unit, json_unit, bytes, embedded, mark, nested_type, deleted_unit, gone_unit, Operation, level_of, units_of_trees, deleted_units, units_of_content, later_id, operations_from, gone_operation, gone_from}
use Rattle.yd_ops.proofs.OperationLemmas.{length-units_of_content}
use Rattle.yd_scan.specs.declared.stretch.Stretch.{Stretch}
use Rattle.yd_scan.specs.Stretches.{stretch_at}
use Rattle.yd_index.specs.Line.{Lined}
use Rattle.yd_index.proofs.LineLemmas.{lt_says}
use Rattle.yd_index.proofs.LinesLemmas.{eq_says}
use Rattle.yd_arena.specs.Arena.{IsArena}
use Rattle.yd_arena.specs.declared.mark.Mark.{Mark}
use Rattle.yd_arena.specs.Marks.{mark_at, BeginsIn, IsBorder}
use Rattle.yd_arena.proofs.BorderLemmas.{only_begins}
use Rattle.yd_store.specs.declared.level.Level.{Level}
use Rattle.yd_store.specs.declared.level.Level.TheVariants.{Gone, Deleted}
use Rattle.yd_store.specs.Contents.{run_at}
use Rattle.yd_store.specs.Store.{IsRunOf, AreTold, IsNoted, AreNoted}
use Rattle.yd_store.specs.Units.{operations_told, operations_at}
use Rattle.yd_store.specs.Lowering.{number_of, told_down, LowersClocks, LowersSpan, is_in_span, lowered_to, lowered_in}

-- ---- a span, run by run

-- no clock is told less yet
pub lowers_none : (runs : List Stretch) (level : Level) (ts : List (Option RunValue)) (client clock : ℕ) → LowersClocks runs level ts ts client clock clock
lowers_none runs level ts client clock = record {
  count = refl;
  within = λ i il b. absurd (omega (arith, b.from, b.below));
  others = λ i out. refl;
}

-- the run that begins there is told less next
pub lowers_more : (lines : List Lined) (runs : List Stretch) (level : Level) (old now : List (Option RunValue)) (client first clock place : ℕ) → IsArena lines runs → LowersClocks runs level old now client first clock → length now ≡ length runs → first ≤ clock →
    place < length runs → (stretch_at runs place).id.client.0 ≡ client → (stretch_at runs place).id.clock ≡ clock → 0 < (stretch_at runs place).len →
    LowersClocks runs level old (set now place (told_down level (run_at now place))) client first (clock + (stretch_at runs place).len)
lowers_more lines runs level old now client first clock place arena so_far each low within own begins filled = record {
  count = length-set now place (told_down level (run_at now place)) ∙ so_far.count;
  within = λ i il b. elim (eq_says i place) [
    | inl y ↦ subst (λ j. run_at told j ≡ told_down level (run_at old j)) (sym y.1) (here ∙ ap (told_down level) (so_far.others place (λ c. omega (arith, c.below, begins))))
    | inr y ↦ other i y.1 ∙ so_far.within i il (record { filled = b.filled; own = b.own; from = b.from; below = before i il b y.1 })
  ];
  others = λ i out. elim (eq_says i place) [
    | inl y ↦ absurd (out (subst (λ j. BeginsIn (stretch_at runs j) client first (clock + (stretch_at runs place).len)) (sym y.1) (record { filled = filled; own = own; from = omega (arith, low, begins); below = omega (arith, begins, filled) })))
    | inr y ↦ other i y.1 ∙ so_far.others i (λ b. out (record { filled = b.filled; own = b.own; from = b.from; below = omega (arith, b.below) }))
  ];
}
  where
    told : List (Option RunValue)
    told = set now place (told_down level (run_at now place))

    here : run_at told place ≡ told_down level (run_at now place)
    here = get_or-set_same now place (told_down level (run_at now place)) None (omega (arith, within, each))

    other : (i : ℕ) → i ≢ place → run_at told i ≡ run_at now i
    other i ne = get_or-set_other now place i (told_down level (run_at now place)) None ne

    before : (i : ℕ) → i < length runs → BeginsIn (stretch_at runs i) client first (clock + (stretch_at runs place).len) → i ≢ place → (stretch_at runs i).id.clock < clock
    before i il b ne = elim (lt_says (stretch_at runs i).id.clock clock) [
      | inl y ↦ y.1
      | inr y ↦ absurd (ne (only_begins lines runs arena client place clock within own begins filled i il b.filled b.own y.1 b.below))
    ]

-- whether the run begins among the clocks
begins_or : (run : Stretch) (client first end : ℕ) → BeginsIn run client first end ⊎ (BeginsIn run client first end → ⊥)
begins_or run client first end = elim (lt_says 0 run.len) [
  | inr w ↦ inr (λ b. omega (arith, b.filled, w.1))
  | inl w ↦ elim (eq_says run.id.client.0 client) [
    | inr x ↦ inr (λ b. x.1 b.own)
    | inl x ↦ elim (lt_says run.id.clock first) [
      | inl y ↦ inr (λ b. omega (arith, b.from, y.1))
      | inr y ↦ elim (lt_says run.id.clock end) [
        | inl z ↦ inl (record { filled = w.1; own = x.1; from = y.1; below = z.1 })
        | inr z ↦ inr (λ b. omega (arith, b.below, z.1))
      ]
    ]
  ]
]

-- what is told less is still told of the same runs
down_fits : (level : Level) (stretch : Stretch) (z : Option RunValue) → IfSome z (λ run. IsRunOf stretch run) → IfSome (told_down level z) (λ run. IsRunOf stretch run)
down_fits Gone stretch z of = tt
down_fits Deleted stretch None of = tt
down_fits Deleted stretch (Some run) of = record { id_is = of.id_is; len_is = of.len_is; left_is = of.left_is; right_is = of.right_is }

pub told_lowered : (runs : List Stretch) (level : Level) (old new : List (Option RunValue)) (span : Span) → AreTold runs old → LowersSpan runs level old new span → AreTold runs new
told_lowered runs level old new span are lowers = record {
  each = lowers.count ∙ are.each;
  fits = λ i lt. elim (begins_or (stretch_at runs i) span.client.0 span.clock (span.clock + span.len)) [
    | inl b ↦ subst (λ z. IfSome z (λ run. IsRunOf (stretch_at runs i) run)) (sym (lowers.within i lt b)) (down_fits level (stretch_at runs i) (run_at old i) (are.fits i lt))
    | inr out ↦ subst (λ z. IfSome z (λ run. IsRunOf (stretch_at runs i) run)) (sym (lowers.others i out)) (are.fits i lt)
  ];
}

noted_down : (noted : Mark) (level : Level) (z : Option RunValue) → IsNoted noted (told_down level z)
noted_down noted Gone z = tt
noted_down noted Deleted None = tt
noted_down noted Deleted (Some run) = λ alive full. absurd (true≢false full)

-- no content says more of what is told less
pub noted_lowered : (runs : List Stretch) (level : Level) (rows : List Mark) (old new : List (Option RunValue)) (span : Span) → length old ≡ length runs → AreNoted rows old → LowersSpan runs level old new span → AreNoted rows new
noted_lowered runs level rows old new span each are lowers = λ i lt.
    let il : i < length runs = omega (arith, lt, lowers.count, each) in
    elim (begins_or (stretch_at runs i) span.client.0 span.clock (span.clock + span.len)) [
      | inl b ↦ subst (IsNoted (mark_at rows i)) (sym (lowers.within i il b)) (noted_down (mark_at rows i) level (run_at old i))
      | inr out ↦ subst (IsNoted (mark_at rows i)) (sym (lowers.others i out)) (are i (omega (arith, il, each)))
    ]

-- ---- the operations of a run that is told less

known_trees : (ts : AnyTrees) → Each (λ u. 1 ≤ level_of u) (units_of_trees ts)
known_trees no_trees = tt
known_trees (tree t ts) = (omega arith, known_trees ts)

known_deleted : (n : ℕ) → Each (λ u. 1 ≤ level_of u) (deleted_units n)
known_deleted zero = tt
known_deleted (suc n) = (omega arith, known_deleted n)

known_map : {T : Type 0} (f : T → UnitContent) → ((t : T) → 1 ≤ level_of (f t)) → (ts : List T) → Each (λ u. 1 ≤ level_of u) (map f ts)
known_map f each [] = tt
known_map f each (t ∷ ts) = (each t, known_map f each ts)

-- no unit of a content is gone
known_units : (content : ContentValue) → Each (λ u. 1 ≤ level_of u) (units_of_content content)
known_units (json values) = known_map json_unit (λ t. omega arith) values
known_units (binary blob) = (omega arith, tt)
known_units (string units) = known_map text_unit (λ t. omega arith) units
known_units (embed t) = (omega arith, tt)
known_units (format key t) = (omega arith, tt)
known_units (nested kind) = (omega arith, tt)
known_units (any ts) = known_trees ts
known_units (deleted n) = known_deleted n

abbrev op : Id → Option Id → Option Id → Option DocList → UnitContent → Operation
op id left right list unit = record { id = id; left_origin = left; right_origin = right; list = list; content = unit }

one_deleted : (id : Id) (left right : Option Id) (list : Option DocList) (u : UnitContent) → 1 ≤ level_of u → op id left right list deleted_unit ≡ lowered_to 1 (op id left right list u)
one_deleted id left right list (text_unit unit) k = refl
one_deleted id left right list (any_unit value) k = refl
one_deleted id left right list (json_unit value) k = refl
one_deleted id left right list (bytes blob) k = refl
one_deleted id left right list (embedded value) k = refl
one_deleted id left right list (mark key value) k = refl
one_deleted id left right list (nested_type kind) k = refl
one_deleted id left right list deleted_unit k = refl
one_deleted id left right list gone_unit k = absurd (omega (arith, k))

one_gone : (id : Id) (left right : Option Id) (list : Option DocList) (u : UnitContent) → 1 ≤ level_of u → gone_operation id ≡ lowered_to 0 (op id left right list u)
one_gone id left right list (text_unit unit) k = refl
one_gone id left right list (any_unit value) k = refl
one_gone id left right list (json_unit value) k = refl
one_gone id left right list (bytes blob) k = refl
one_gone id left right list (embedded value) k = refl
one_gone id left right list (mark key value) k = refl
one_gone id left right list (nested_type kind) k = refl
one_gone id left right list deleted_unit k = refl
one_gone id left right list gone_unit k = absurd (omega (arith, k))

all_deleted : (id : Id) (left right : Option Id) (list : Option DocList) (us : List UnitContent) → Each (λ u. 1 ≤ level_of u) us → operations_from id left right list (deleted_units (length us)) ≡ map (lowered_to 1) (operations_from id left right list us)
all_deleted id left right list [] k = refl
all_deleted id left right list (u ∷ us) k = ap₂ (λ o os. o ∷ os) (one_deleted id left right list u k.0) (all_deleted (later_id id 1) (Some id) right None us k.1)

all_gone : (id : Id) (left right : Option Id) (list : Option DocList) (us : List UnitContent) → Each (λ u. 1 ≤ level_of u) us → gone_from id (length us) ≡ map (lowered_to 0) (operations_from id left right list us)
all_gone id left right list [] k = refl
all_gone id left right list (u ∷ us) k = ap₂ (λ o os. o ∷ os) (one_gone id left right list u k.0) (all_gone (later_id id 1) (Some id) right None us k.1)

-- what is gone stays so
gone_stays : (level : Level) (id : Id) (n : ℕ) → gone_from id n ≡ map (lowered_to (number_of level)) (gone_from id n)
gone_stays Gone id zero = refl
gone_stays Gone id (suc n) = ap (λ os. gone_operation id ∷ os) (gone_stays Gone (later_id id 1) n)
gone_stays Deleted id zero = refl
gone_stays Deleted id (suc n) = ap (λ os. gone_operation id ∷ os) (gone_stays Deleted (later_id id 1) n)

told_operations : (level : Level) (stretch : Stretch) (z : Option RunValue) → IfSome z (λ run. IsRunOf stretch run) → operations_told stretch (told_down level z) ≡ map (lowered_to (number_of level)) (operations_told stretch z)
told_operations Gone stretch None of = gone_stays Gone stretch.id stretch.len
told_operations Deleted stretch None of = gone_stays Deleted stretch.id stretch.len
told_operations Gone stretch (Some run) of =
    ap₂ gone_from (sym of.id_is) (sym of.len_is ∙ sym (length-units_of_content run.content)) ∙ all_gone run.id run.left run.right run.list (units_of_content run.content) (known_units run.content)
told_operations Deleted stretch (Some run) of =
    ap (λ n. operations_from run.id run.left run.right run.list (deleted_units n)) (sym (length-units_of_content run.content)) ∙ all_deleted run.id run.left run.right run.list (units_of_content run.content) (known_units run.content)

-- ---- the ids of a run's operations

-- an id is among so many from one on
pub record IsAmong (first : Id) (n : ℕ) (id : Id) : Type 0 where
  pub client : id.client ≡ first.client
  pub low : first.clock ≤ id.clock
  pub high : id.clock < first.clock + n

later_among : (first id : Id) (n : ℕ) → IsAmong (later_id first 1) n id → IsAmong first (suc n) id
later_among first id n a = record { client = a.client; low = omega (arith, a.low); high = omega (arith, a.high) }

pub from_among : (id : Id) (left right : Option Id) (list : Option DocList) (us : List UnitContent) (o : Operation) → IsIn o (operations_from id left right list us) → IsAmong id (length us) o.id
from_among id left right list [] o h = absurd h
from_among id left right list (u ∷ us) o (inl e) = subst (λ (x : Id). IsAmong id (suc (length us)) x) (sym (ap (λ (p : Operation). p.id) e)) (record { client = refl; low = omega arith; high = omega arith })
from_among id left right list (u ∷ us) o (inr h) = later_among id o.id (length us) (from_among (later_id id 1) (Some id) right None us o h)

pub gone_among : (id : Id) (n : ℕ) (o : Operation) → IsIn o (gone_from id n) → IsAmong id n o.id
gone_among id zero o h = absurd h
gone_among id (suc n) o (inl e) = subst (λ (x : Id). IsAmong id (suc n) x) (sym (ap (λ (p : Operation). p.id) e)) (record { client = refl; low = omega arith; high = omega arith })
gone_among id (suc n) o (inr h) = later_among id o.id n (gone_among (later_id id 1) n o h)

pub told_among : (stretch : Stretch) (z : Option RunValue) (o : Operation) → IfSome z (λ run. IsRunOf stretch run) → IsIn o (operations_told stretch z) → IsAmong stretch.id stretch.len o.id
told_among stretch None o of h = gone_among stretch.id stretch.len o h
told_among stretch (Some run) o of h =
    subst (λ (x : Id). IsAmong x stretch.len o.id) of.id_is
    (subst (λ n. IsAmong run.id n o.id) (length-units_of_content run.content ∙ of.len_is) (from_among run.id run.left run.right run.list (units_of_content run.content) o h))

-- ---- what is in the span

in_span_or : (span : Span) (id : Id) → ((is_in_span span id ≡ true) × InSpan span id) ⊎ ((is_in_span span id ≡ false) × (InSpan span id → ⊥))
in_span_or span id = elim (eq_says span.client.0 id.client.0) [
  | inr x ↦ inr (rw x.0 refl, (λ s. x.1 s.0))
  | inl x ↦ elim (lt_says id.clock span.clock) [
    | inl y ↦ inr (rw (x.0, y.0) refl, (λ s. omega (arith, s.1, y.1)))
    | inr y ↦ elim (lt_says id.clock (span.clock + span.len)) [
      | inl z ↦ inl (rw (x.0, y.0, z.0) refl, (x.1, y.1, z.1))
      | inr z ↦ inr (rw (x.0, y.0, z.0) refl, (λ s. omega (arith, s.2, z.1)))
    ]
  ]
]

pub lowered_inside : (span : Span) (level : ℕ) (o : Operation) → InSpan span o.id → lowered_in span level o ≡ lowered_to level o
lowered_inside span level o s = elim (in_span_or span o.id) [ inl x ↦ rw x.0 refl | inr x ↦ absurd (x.1 s) ]

pub lowered_outside : (span : Span) (level : ℕ) (o : Operation) → (InSpan span o.id → ⊥) → lowered_in span level o ≡ o
lowered_outside span level o out = elim (in_span_or span o.id) [ inl x ↦ absurd (out x.1) | inr x ↦ rw x.0 refl ]

map_same : (f g : Operation → Operation) (os : List Operation) → ((o : Operation) → IsIn o os → f o ≡ g o) → map f os ≡ map g os
map_same f g [] same = refl
map_same f g (o ∷ os) same = ap₂ (λ x xs. x ∷ xs) (same o (inl refl)) (map_same f g os (λ p h. same p (inr h)))

pub map_none : (f : Operation → Operation) (os : List Operation) → ((o : Operation) → IsIn o os → f o ≡ o) → map f os ≡ os
map_none f [] same = refl
map_none f (o ∷ os) same = ap₂ (λ x xs. x ∷ xs) (same o (inl refl)) (map_none f os (λ p h. same p (inr h)))

module _ (runs : List Stretch) (level : Level) (old new : List (Option RunValue)) (span : Span) (are : AreTold runs old) (front : IsBorder runs span.client.0 span.clock) (back : IsBorder runs span.client.0 (span.clock + span.len)) (lowers : LowersSpan runs level old new span) where
  inside : (i : ℕ) (o : Operation) → i < length runs → BeginsIn (stretch_at runs i) span.client.0 span.clock (span.clock + span.len) → IsIn o (operations_at runs old i) → InSpan span o.id
  inside i o lt b h =
      let a = told_among (stretch_at runs i) (run_at old i) o (are.fits i lt) h in (
        sym b.own ∙ sym (ap (λ (c : Client). c.0) a.client),
        omega (arith, b.from, a.low),
        (elim (back i lt b.own) [ inl y ↦ omega (arith, y, a.high) | inr y ↦ absurd (omega (arith, y, b.below)) ]),
      )

  outside : (i : ℕ) (o : Operation) → i < length runs → (BeginsIn (stretch_at runs i) span.client.0 span.clock (span.clock + span.len) → ⊥) → IsIn o (operations_at runs old i) → InSpan span o.id → ⊥
  outside i o lt out h s =
      let a = told_among (stretch_at runs i) (run_at old i) o (are.fits i lt) h in
      let own : (stretch_at runs i).id.client.0 ≡ span.client.0 = sym (ap (λ (c : Client). c.0) a.client) ∙ sym s.0 in
      out (record {
        filled = omega (arith, a.low, a.high);
        own = own;
        from = elim (front i lt own) [ inl y ↦ absurd (omega (arith, y, a.high, s.1)) | inr y ↦ y ];
        below = omega (arith, a.low, s.2);
      })

  pub at_place : (i : ℕ) → i < length runs → operations_at runs new i ≡ map (lowered_in span (number_of level)) (operations_at runs old i)
  at_place i lt = elim (begins_or (stretch_at runs i) span.client.0 span.clock (span.clock + span.len)) [
    | inl b ↦ ap (operations_told (stretch_at runs i)) (lowers.within i lt b) ∙ told_operations level (stretch_at runs i) (run_at old i) (are.fits i lt)
        ∙ sym (map_same (lowered_in span (number_of level)) (lowered_to (number_of level)) (operations_at runs old i) (λ o h. lowered_inside span (number_of level) o (inside i o lt b h)))
    | inr out ↦ ap (operations_told (stretch_at runs i)) (lowers.others i out)
        ∙ sym (map_none (lowered_in span (number_of level)) (operations_at runs old i) (λ o h. lowered_outside span (number_of level) o (outside i o lt out h)))
  ]
