-- A block that grows at its end keeps its operations and is valid still.
use Rattle.std.proofs.Common.{◌≡◌, ◌∙◌, ℕ, ◌+◌, List, [], ◌∷◌, ◌++◌, inl, inr, refl, sym, ap, subst, arith, append-nil, append_assoc}
use Rattle.std.specs.Prelude.{Option, Some, None, true}
use Rattle.yd_ids.specs.Id.{IsClock}
use Rattle.yd_ids.specs.declared.id.Client.{Client}
use Rattle.yd_ids.specs.declared.id.Id.{Id}
use Rattle.yd_ops.specs.Joining.{joined_run, run_joins}
use Rattle.yd_ops.specs.Operation.{operations_of_run, operations_of_struct, operations_of_structs}
use Rattle.yd_ops.specs.Valid.{AreStructsFrom, CarriesList, IsRunAt, IsStructAt}
use Rattle.yd_ops.specs.Value.{RunValue, StructValue, clocks_of, gone, item, len_of, skip}
use Rattle.yd_ops.specs.declared.lists.List.{List as DocList}
use Rattle.yd_ops.proofs.CutLemmas.{joined_valid}
use Rattle.yd_ops.proofs.JoinLemmas.{runs_have, runs_long}
use Rattle.yd_reading.specs.Taking.{IsPlaced}
use Rattle.yd_gathering.specs.Growing.{Grows, IsPut, end_from, end_of, joined_struct, struct_joins, structs_of}
use Rattle.yd_gathering.specs.declared.growing.Growing.{Growing}

-- ---- structs in two lists

end-append : (clock : ℕ) (ss ts : List StructValue) → end_from clock (ss ++ ts) ≡ end_from (end_from clock ss) ts
end-append clock [] ts = refl
end-append clock (s ∷ ss) ts = end-append (clock + clocks_of s) ss ts

operations-append : (client : Client) (clock : ℕ) (ss ts : List StructValue) →
    operations_of_structs client clock (ss ++ ts) ≡ operations_of_structs client clock ss ++ operations_of_structs client (end_from clock ss) ts
operations-append client clock [] ts = refl
operations-append client clock (s ∷ ss) ts = ap (λ os. operations_of_struct client clock s ++ os) (operations-append client (clock + clocks_of s) ss ts)
    ∙ sym (append_assoc (operations_of_struct client clock s) (operations_of_structs client (clock + clocks_of s) ss) (operations_of_structs client (end_from (clock + clocks_of s) ss) ts))

valid_append : (client : Client) (clock : ℕ) (ss ts : List StructValue) → AreStructsFrom client clock ss → AreStructsFrom client (end_from clock ss) ts → AreStructsFrom client clock (ss ++ ts)
valid_append client clock [] ts front behind = behind
valid_append client clock (s ∷ ss) ts front behind = (front.0, front.1, valid_append client (clock + clocks_of s) ss ts front.2 behind)

valid_front : (client : Client) (clock : ℕ) (ss ts : List StructValue) → AreStructsFrom client clock (ss ++ ts) → AreStructsFrom client clock ss
valid_front client clock [] ts valid = tt
valid_front client clock (s ∷ ss) ts valid = (valid.0, valid.1, valid_front client (clock + clocks_of s) ss ts valid.2)

valid_behind : (client : Client) (clock : ℕ) (ss ts : List StructValue) → AreStructsFrom client clock (ss ++ ts) → AreStructsFrom client (end_from clock ss) ts
valid_behind client clock [] ts valid = valid
valid_behind client clock (s ∷ ss) ts valid = valid_behind client (clock + clocks_of s) ss ts valid.2

-- ---- structs that end at a clock

-- structs from a clock on are valid, and end there
record End (client : Client) (clock end : ℕ) (structs : List StructValue) : Type 0 where
  pub valid : AreStructsFrom client clock structs
  pub ends : end_from clock structs ≡ end

-- and with one struct more, they are so too, with its operations
record More (client : Client) (clock end : ℕ) (old new : List StructValue) (s : StructValue) : Type 0 where
  pub there : End client clock (end + clocks_of s) new
  pub operations : operations_of_structs client clock new ≡ operations_of_structs client clock old ++ operations_of_struct client end s

more_behind : (client : Client) (clock end : ℕ) (old : List StructValue) (s : StructValue) → End client clock end old → IsStructAt client end s → IsClock (end + clocks_of s) →
    More client clock end old (old ++ s ∷ []) s
more_behind client clock end old s is at fits = record {
  there = record {
    valid = valid_append client clock old (s ∷ []) is.valid (rw is.ends (at, fits, tt));
    ends = end-append clock old (s ∷ []) ∙ ap (λ e. e + clocks_of s) is.ends;
  };
  operations = operations-append client clock old (s ∷ []) ∙ ap (λ os. operations_of_structs client clock old ++ os)
      (append-nil (operations_of_struct client (end_from clock old) s) ∙ ap (λ e. operations_of_struct client e s) is.ends);
}

-- a run behind a left origin carries no list
no_list : (left right : Option Id) (list : Option DocList) → CarriesList left right list → (y : Id) → left ≡ Some y → list ≡ None
no_list None right list carries y is = absurd cc
no_list (Some left) right None carries y is = refl
no_list (Some left) right (Some list) carries y is = absurd carries

more_joined : (client : Client) (clock end : ℕ) (front : List StructValue) (run next : RunValue) → End client clock end (front ++ item run ∷ []) → IsRunAt client end next → IsClock (end + len_of next.content) →
    run_joins run next ≡ true → More client clock end (front ++ item run ∷ []) (front ++ item (joined_run run next) ∷ []) (item next)
more_joined client clock end front run next is at fits joins =
    let begins = end_from clock front in
    let last : AreStructsFrom client begins (item run ∷ []) = valid_behind client clock front (item run ∷ []) is.valid in
    let ends : begins + len_of run.content ≡ end = sym (end-append clock front (item run ∷ [])) ∙ is.ends in
    let long : len_of (joined_run run next).content ≡ len_of run.content + len_of next.content = runs_long run next joins in
    let sums : begins + len_of (joined_run run next).content ≡ end + len_of next.content = omega (arith, ends, long) in
    let have : operations_of_run (joined_run run next) ≡ operations_of_run run ++ operations_of_run next = runs_have run next last.0.has_units joins (no_list next.left next.right next.list at.list) in
    record {
      there = record {
        valid = valid_append client clock front (item (joined_run run next) ∷ []) (valid_front client clock front (item run ∷ []) is.valid)
            (joined_valid client begins run next joins last.0 at.content, subst IsClock (sym sums) fits, tt);
        ends = end-append clock front (item (joined_run run next) ∷ []) ∙ sums;
      };
      operations = operations-append client clock front (item (joined_run run next) ∷ [])
          ∙ ap (λ os. operations_of_structs client clock front ++ os) (append-nil (operations_of_run (joined_run run next)) ∙ have)
          ∙ sym (append_assoc (operations_of_structs client clock front) (operations_of_run run) (operations_of_run next))
          ∙ ap (λ os. os ++ operations_of_run next)
          (ap (λ os. operations_of_structs client clock front ++ os) (sym (append-nil (operations_of_run run))) ∙ sym (operations-append client clock front (item run ∷ [])));
    }

more_last : (client : Client) (clock end : ℕ) (front : List StructValue) (last s : StructValue) → struct_joins last s ≡ true → End client clock end (front ++ last ∷ []) → IsStructAt client end s → IsClock (end + clocks_of s) →
    More client clock end (front ++ last ∷ []) (front ++ joined_struct last s ∷ []) s
more_last client clock end front (item run) (item next) joins is at fits = more_joined client clock end front run next is at fits joins
more_last client clock end front (item run) (skip count) joins is at fits = absurd cc
more_last client clock end front (item run) (gone count) joins is at fits = absurd cc
more_last client clock end front (skip count) s joins is at fits = absurd cc
more_last client clock end front (gone count) s joins is at fits = absurd cc

more_put : (client : Client) (clock end : ℕ) (old new : List StructValue) (s : StructValue) → IsPut old s new → End client clock end old → IsStructAt client end s → IsClock (end + clocks_of s) →
    More client clock end old new s
more_put client clock end old new s (inl e) is at fits = rw e (more_behind client clock end old s is at fits)
more_put client clock end old new s (inr j) is at fits = rw (j.there, j.joined) (more_last client clock end j.front j.last s j.joins (subst (End client clock end) j.there is) at fits)

-- ---- lemmas for callers

-- a block that grows by one struct
pub grows : (old new : Growing) (s : StructValue) → new.client ≡ old.client → new.clock ≡ old.clock → new.end ≡ old.end + clocks_of s → IsPut (structs_of old) s (structs_of new) → IsPlaced (end_of old) s →
    Grows old new s
grows old new s client clock sum put placed = λ is.
    let more = more_put old.client old.clock old.end (structs_of old) (structs_of new) s put (record { valid = is.valid.structs; ends = is.ends }) placed.is_struct placed.end in
    record {
      grown = record {
        valid = record { client = rw client is.valid.client; clock = rw clock is.valid.clock; structs = rw (client, clock) more.there.valid };
        ends = rw clock (more.there.ends ∙ sym sum);
      };
      operations = rw (client, clock) more.operations;
    }
