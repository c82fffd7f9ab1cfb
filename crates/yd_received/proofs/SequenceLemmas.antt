-- Structs and blocks that are taken in one after another, whether they bring something, and for what entries are kept aside.
use Rattle.std.proofs.Common.{◌≡◌, ◌↔◌, ℕ, zero, suc, ◌+◌, ◌<◌, Bool, true, false, ◌||◌, List, [], ◌∷◌, ◌++◌, Option, length, take, map, get_or, inl, inr, refl, sym, ap, ap₂, ◌∙◌, subst, arith, append-nil, append_assoc, true≢false}
use Rattle.std.specs.Prelude.{IsTrue}
use Rattle.std.specs.Bool.{OnFalse}
use Rattle.std.proofs.lemmas.List.{map_more}
use Rattle.yd_words.specs.Member.{IsIn}
use Rattle.yd_words.proofs.MemberLemmas.{in_left_part, in_right_part, in_parts}
use Rattle.yd_ids.specs.declared.id.Client.{Client}
use Rattle.yd_ids.specs.declared.id.Id.{Id}
use Rattle.yd_ids.specs.Id.{IsClient}
use Rattle.yd_ops.specs.declared.runs.Run.{Run}
use Rattle.yd_ops.specs.declared.updates.Block.{Block}
use Rattle.yd_ops.specs.declared.updates.Struct.{Struct}
use Rattle.yd_ops.specs.Operation.{Operation, operations_of_struct, operations_of_structs, operations_of_blocks}
use Rattle.yd_ops.specs.Value.{RunValue, clocks_of, StructValue, item, gone, BlockValue}
use Rattle.yd_ops.specs.Valid.{AreStructsFrom}
use Rattle.yd_ops.specs.View.{struct_value, block_value}
use Rattle.yd_ops.specs.Received.{with_groups, groups_of_structs, groups_of_blocks}
use Rattle.yd_ops.proofs.GroupLemmas.{all_of, update_groups}
use Rattle.yd_ops.proofs.MendingLemmas.{paired_has, mended_whole}
use Rattle.yd_ops.proofs.TurnLemmas.{with_groups-append}
use Rattle.yd_entries.specs.declared.entry.Entry.{Entry}
use Rattle.yd_entries.specs.Entries.{AreTaken, operations_in, GrowBy}
use Rattle.yd_received.specs.Structs.{IsStructOf, TakesIn, KeepsToLower, gone_run}
use Rattle.yd_entries.specs.Taking.{BringsOne, IsRun, AreUnchanged}
use Rattle.yd_received.proofs.LoweringLemmas.{HasSource, groups_sources, keeps_more}
use Rattle.yd_received.proofs.StructLemmas.{unchanged_more}
use Rattle.yd_entries.proofs.StayingLemmas.{stays_none, stays_more}
use Rattle.yd_entries.proofs.TakenLemmas.{in_written, grow_none, grow_more}

-- ---- one after another

-- what is taken in so far, and whether it brings something
pub record IsTakenIn (old_runs : List Run) (old : List Entry) (runs : List Run) (taken : List Entry) (groups : List (List Operation)) (os : List Operation) (brings : Bool) : Type 0 where
  pub takes : TakesIn old_runs old runs taken groups
  pub brings_some : IsTrue brings ↔ BringsOne os (operations_in old_runs old)
  pub unchanged : OnFalse brings (AreUnchanged old_runs old runs taken)
  pub grows : GrowBy old_runs runs

-- nothing is taken in yet
pub taken_none : (runs : List Run) (old : List Entry) → AreTaken runs old → IsTakenIn runs old runs old [] [] false
taken_none runs old are = record {
  takes = record { received = refl; kept = are; places = stays_none runs old };
  brings_some = ((λ no. absurd (true≢false (sym no))), (λ brings. absurd brings.1));
  unchanged = (refl, refl);
  grows = grow_none runs;
}

pub taken_more : (a b c : List Run) (x y z : List Entry) (gs hs : List (List Operation)) (os ps : List Operation) (s t : Bool) → IsTakenIn a x b y gs os s → TakesIn b y c z hs →
    IsTrue t ↔ BringsOne ps (operations_in b y) → OnFalse t (AreUnchanged b y c z) → GrowBy b c → IsTakenIn a x c z (gs ++ hs) (os ++ ps) (s || t)
taken_more a b c x y z gs hs os ps s t first takes some same grows = record {
  takes = record {
    received = takes.received ∙ ap (λ qs. with_groups hs qs) first.takes.received ∙ sym (with_groups-append gs hs (operations_in a x));
    kept = takes.kept;
    places = stays_more a b c x y z first.grows first.takes.places takes.places;
  };
  brings_some = both s first.brings_some first.unchanged;
  unchanged = unchanged_more a b c x y z s t first.unchanged same;
  grows = grow_more a b c first.grows grows;
}
  where
    both : (s : Bool) → IsTrue s ↔ BringsOne os (operations_in a x) → OnFalse s (AreUnchanged a x b y) → IsTrue (s || t) ↔ BringsOne (os ++ ps) (operations_in a x)
    both true one unchanged = ((λ yes. let (o, i, news) = one.0 refl in (o, in_left_part o os ps i, news)), (λ brings. refl))
    both false one unchanged = (
      (λ yes. let (o, i, news) = subst (λ qs. BringsOne ps qs) there (some.0 yes) in (o, in_right_part o os ps i, news)),
      (λ brings. let (o, i, news) = brings in elim (in_parts o os ps i) [
        | inl j ↦ absurd (true≢false (sym (one.1 (o, j, news))))
        | inr j ↦ some.1 (subst (λ qs. BringsOne ps qs) (sym there) (o, j, news))
      ]),
    )
      where
        there : operations_in b y ≡ operations_in a x
        there = ap₂ (λ rs ts. operations_in rs ts) unchanged.0 unchanged.1

-- ---- structs

-- how many clocks structs take
abbrev pub clocks_of_all : List StructValue → ℕ
clocks_of_all [] = 0
clocks_of_all (s ∷ structs) = clocks_of s + clocks_of_all structs

groups_push : (client : Client) (clock : ℕ) (ss : List StructValue) (s : StructValue) →
    groups_of_structs client clock (ss ++ s ∷ []) ≡ groups_of_structs client clock ss ++ operations_of_struct client (clock + clocks_of_all ss) s ∷ []
groups_push client clock [] s = ap (λ n. operations_of_struct client n s ∷ []) none
  where
    none : clock ≡ clock + 0
    none = omega arith
groups_push client clock (r ∷ ss) s = ap (λ gs. operations_of_struct client clock r ∷ gs) (groups_push client (clock + clocks_of r) ss s
    ∙ ap (λ n. groups_of_structs client (clock + clocks_of r) ss ++ operations_of_struct client n s ∷ []) sum)
  where
    sum : clock + clocks_of r + clocks_of_all ss ≡ clock + (clocks_of r + clocks_of_all ss)
    sum = omega arith

operations_push : (client : Client) (clock : ℕ) (ss : List StructValue) (s : StructValue) →
    operations_of_structs client clock (ss ++ s ∷ []) ≡ operations_of_structs client clock ss ++ operations_of_struct client (clock + clocks_of_all ss) s
operations_push client clock [] s = append-nil (operations_of_struct client clock s) ∙ ap (λ n. operations_of_struct client n s) none
  where
    none : clock ≡ clock + 0
    none = omega arith
operations_push client clock (r ∷ ss) s =
    ap (λ os. operations_of_struct client clock r ++ os) (operations_push client (clock + clocks_of r) ss s)
    ∙ sym (append_assoc (operations_of_struct client clock r) (operations_of_structs client (clock + clocks_of r) ss) (operations_of_struct client (clock + clocks_of r + clocks_of_all ss) s))
    ∙ ap (λ n. (operations_of_struct client clock r ++ operations_of_structs client (clock + clocks_of r) ss) ++ operations_of_struct client n s) sum
  where
    sum : clock + clocks_of r + clocks_of_all ss ≡ clock + (clocks_of r + clocks_of_all ss)
    sum = omega arith

clocks_push : (ss : List StructValue) (s : StructValue) → clocks_of_all (ss ++ s ∷ []) ≡ clocks_of_all ss + clocks_of s
clocks_push [] s = omega arith
clocks_push (r ∷ ss) s = omega (arith, clocks_push ss s)

-- the next struct begins behind those before it
pub struct_next : (client : Client) (clock : ℕ) (xs : List Struct) (n at : ℕ) (d : Struct) → IsClient client → AreStructsFrom client clock (map struct_value xs) →
    n < length xs → d ≡ get_or xs n d →
    at ≡ clock + clocks_of_all (map struct_value (take n xs)) → IsStructOf (record { client = client; clock = at }) (struct_value d)
struct_next client clock [] n at d is from lt here e = absurd (omega arith)
struct_next client clock (x ∷ xs) zero at d is from lt here e =
    let same : at ≡ clock = omega (arith, e) in
    subst (λ s. IsStructOf (record { client = client; clock = at }) (struct_value s)) (sym here)
    (subst (λ m. IsStructOf (record { client = client; clock = m }) (struct_value x)) (sym same) (record { client = is; at = from.0; end = from.1 }))
struct_next client clock (x ∷ xs) (suc n) at d is from lt here e =
    struct_next client (clock + clocks_of (struct_value x)) xs n at d is from.2 (omega arith) here (omega (arith, e))

module _ (client : Client) (clock : ℕ) (a b c : List Run) (x y z : List Entry) (s t : Bool) where
  -- one struct more
  pub struct_more : (xs : List Struct) (n at : ℕ) (d : Struct) → n < length xs → d ≡ get_or xs n d → at ≡ clock + clocks_of_all (map struct_value (take n xs)) →
      IsTakenIn a x b y (groups_of_structs client clock (map struct_value (take n xs))) (operations_of_structs client clock (map struct_value (take n xs))) s →
      TakesIn b y c z (operations_of_struct client at (struct_value d) ∷ []) → IsTrue t ↔ BringsOne (operations_of_struct client at (struct_value d)) (operations_in b y) →
      OnFalse t (AreUnchanged b y c z) → GrowBy b c →
      IsTakenIn a x c z (groups_of_structs client clock (map struct_value (take (n + 1) xs))) (operations_of_structs client clock (map struct_value (take (n + 1) xs))) (s || t)
  struct_more xs n at d lt here e first takes some same grows =
      let all : map struct_value (take (n + 1) xs) ≡ map struct_value (take n xs) ++ struct_value d ∷ [] =
      map_more struct_value xs n d lt ∙ ap (λ r. map struct_value (take n xs) ++ struct_value r ∷ []) (sym here) in
      rw (all, groups_push client clock (map struct_value (take n xs)) (struct_value d), operations_push client clock (map struct_value (take n xs)) (struct_value d), sym e)
      (taken_more a b c x y z _ _ _ _ s t first takes some same grows)

pub clock_more : (clock at len : ℕ) (xs : List Struct) (n : ℕ) (d : Struct) → n < length xs → d ≡ get_or xs n d →
    at ≡ clock + clocks_of_all (map struct_value (take n xs)) → len ≡ clocks_of (struct_value d) →
    at + len ≡ clock + clocks_of_all (map struct_value (take (n + 1) xs))
clock_more clock at len xs n d lt here e is =
    let all : map struct_value (take (n + 1) xs) ≡ map struct_value (take n xs) ++ struct_value d ∷ [] =
    map_more struct_value xs n d lt ∙ ap (λ r. map struct_value (take n xs) ++ struct_value r ∷ []) (sym here) in
    omega (arith, e, is, ap clocks_of_all all, clocks_push (map struct_value (take n xs)) (struct_value d))

-- ---- blocks

groups_of_blocks-push : (bs : List BlockValue) (b : BlockValue) → groups_of_blocks (bs ++ b ∷ []) ≡ groups_of_blocks bs ++ groups_of_structs b.client b.clock b.structs
groups_of_blocks-push [] b = append-nil (groups_of_structs b.client b.clock b.structs)
groups_of_blocks-push (c ∷ bs) b =
    ap (λ gs. groups_of_structs c.client c.clock c.structs ++ gs) (groups_of_blocks-push bs b)
    ∙ sym (append_assoc (groups_of_structs c.client c.clock c.structs) (groups_of_blocks bs) (groups_of_structs b.client b.clock b.structs))

operations_of_blocks-push : (bs : List BlockValue) (b : BlockValue) →
    operations_of_blocks (bs ++ b ∷ []) ≡ operations_of_blocks bs ++ operations_of_structs b.client b.clock b.structs
operations_of_blocks-push [] b = append-nil (operations_of_structs b.client b.clock b.structs)
operations_of_blocks-push (c ∷ bs) b =
    ap (λ os. operations_of_structs c.client c.clock c.structs ++ os) (operations_of_blocks-push bs b)
    ∙ sym (append_assoc (operations_of_structs c.client c.clock c.structs) (operations_of_blocks bs) (operations_of_structs b.client b.clock b.structs))

module _ (a b c : List Run) (x y z : List Entry) (s t : Bool) where
  -- one block more
  pub block_more : (xs : List Block) (n : ℕ) (d : Block) → n < length xs → d ≡ get_or xs n d →
      IsTakenIn a x b y (groups_of_blocks (map block_value (take n xs))) (operations_of_blocks (map block_value (take n xs))) s →
      TakesIn b y c z (groups_of_structs (block_value d).client (block_value d).clock (block_value d).structs) →
      IsTrue t ↔ BringsOne (operations_of_structs (block_value d).client (block_value d).clock (block_value d).structs) (operations_in b y) →
      OnFalse t (AreUnchanged b y c z) → GrowBy b c →
      IsTakenIn a x c z (groups_of_blocks (map block_value (take (n + 1) xs))) (operations_of_blocks (map block_value (take (n + 1) xs))) (s || t)
  block_more xs n d lt here first takes some same grows =
      let all : map block_value (take (n + 1) xs) ≡ map block_value (take n xs) ++ block_value d ∷ [] =
      map_more block_value xs n d lt ∙ ap (λ e. map block_value (take n xs) ++ block_value e ∷ []) (sym here) in
      rw (all, groups_of_blocks-push (map block_value (take n xs)) (block_value d), operations_of_blocks-push (map block_value (take n xs)) (block_value d))
      (taken_more a b c x y z _ _ _ _ s t first takes some same grows)

-- ---- what is kept aside

groups_all : (bs : List BlockValue) → all_of (groups_of_blocks bs) ≡ operations_of_blocks bs
groups_all bs = update_groups (record { blocks = bs; deletes = [] })

-- those of structs are those of a block of them
structs_all : (client : Client) (clock : ℕ) (ss : List StructValue) → all_of (groups_of_structs client clock ss) ≡ operations_of_structs client clock ss
structs_all client clock ss = ap all_of (sym (append-nil (groups_of_structs client clock ss))) ∙ groups_all (record { client = client; clock = clock; structs = ss } ∷ [])
    ∙ append-nil (operations_of_structs client clock ss)

module _ (a b : List Run) (x y : List Entry) (s : Bool) (k l m : Option (List Entry)) (are : AreTaken a x) where
  keeps_next : (gs : List (List Operation)) (os ps : List Operation) → all_of gs ≡ os → IsTakenIn a x b y gs os s →
      KeepsToLower k l os (operations_in a x) → KeepsToLower l m ps (operations_in b y) → KeepsToLower k m (os ++ ps) (operations_in a x)
  keeps_next gs os ps all first kept next = keeps_more k l m os ps (operations_in a x) (operations_in b y) from kept next
    where
      from : (q : Operation) → IsIn q (operations_in b y) → HasSource (operations_in a x ++ os) q
      from q i = subst (λ rs. HasSource (operations_in a x ++ rs) q) all
          (groups_sources gs (operations_in a x) (in_written a x are.each are.in_order) q (subst (λ rs. IsIn q rs) first.takes.received i))

  -- one struct more
  pub struct_keeps : (client : Client) (clock : ℕ) (xs : List Struct) (n at : ℕ) (d : Struct) → n < length xs → d ≡ get_or xs n d → at ≡ clock + clocks_of_all (map struct_value (take n xs)) →
      IsTakenIn a x b y (groups_of_structs client clock (map struct_value (take n xs))) (operations_of_structs client clock (map struct_value (take n xs))) s →
      KeepsToLower k l (operations_of_structs client clock (map struct_value (take n xs))) (operations_in a x) →
      KeepsToLower l m (operations_of_struct client at (struct_value d)) (operations_in b y) →
      KeepsToLower k m (operations_of_structs client clock (map struct_value (take (n + 1) xs))) (operations_in a x)
  struct_keeps client clock xs n at d lt here e first kept next =
      let all : map struct_value (take (n + 1) xs) ≡ map struct_value (take n xs) ++ struct_value d ∷ [] =
      map_more struct_value xs n d lt ∙ ap (λ r. map struct_value (take n xs) ++ struct_value r ∷ []) (sym here) in
      rw (all, operations_push client clock (map struct_value (take n xs)) (struct_value d), sym e)
      (keeps_next _ _ _ (structs_all client clock (map struct_value (take n xs))) first kept next)

  -- one block more
  pub block_keeps : (xs : List Block) (n : ℕ) (d : Block) → n < length xs → d ≡ get_or xs n d →
      IsTakenIn a x b y (groups_of_blocks (map block_value (take n xs))) (operations_of_blocks (map block_value (take n xs))) s →
      KeepsToLower k l (operations_of_blocks (map block_value (take n xs))) (operations_in a x) →
      KeepsToLower l m (operations_of_structs (block_value d).client (block_value d).clock (block_value d).structs) (operations_in b y) →
      KeepsToLower k m (operations_of_blocks (map block_value (take (n + 1) xs))) (operations_in a x)
  block_keeps xs n d lt here first kept next =
      let all : map block_value (take (n + 1) xs) ≡ map block_value (take n xs) ++ block_value d ∷ [] =
      map_more block_value xs n d lt ∙ ap (λ e. map block_value (take n xs) ++ block_value e ∷ []) (sym here) in
      rw (all, operations_of_blocks-push (map block_value (take n xs)) (block_value d))
      (keeps_next _ _ _ (groups_all (map block_value (take n xs))) first kept next)

-- ---- one struct

-- a skip brings nothing
pub skip_takes : (runs : List Run) (old : List Entry) → AreTaken runs old → TakesIn runs old runs old ([] ∷ [])
skip_takes runs old are = record { received = sym (mended_whole (operations_in runs old) (paired_has (operations_in runs old) are.paired)); kept = are; places = stays_none runs old }

pub run_is : (id : Id) (run : RunValue) → IsStructOf id (item run) → IsRun false run
run_is id run is = record {
  has_units = is.at.has_units;
  origins = (is.at.left, is.at.right, is.at.list);
  content = is.at.content;
  client = subst IsClient (sym (ap (λ (x : Id). x.client) is.at.begins)) is.client;
  end = omega (arith, is.end, ap (λ (x : Id). x.clock) is.at.begins);
}

pub gone_is : (id : Id) (count : ℕ) → IsStructOf id (gone count) → IsRun true (gone_run id count)
gone_is id count is = record {
  has_units = is.at;
  origins = refl;
  content = tt;
  client = is.client;
  end = is.end;
}
