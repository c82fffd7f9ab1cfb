-- What an addition and a cut do to an arena, over the index and the lists together.
use Rattle.std.proofs.Common.{◌≡◌, ℕ, ◌+◌, ◌<◌, [], ◌∷◌, ◌++◌, Option, length, get_or, set, sym, ap, ap₂, ◌∙◌, subst, arith}
use Rattle.std.proofs.lemmas.List.{length-set, get_or-set_same, get_or-set_other}
use Rattle.std.specs.Prelude.{IfSome}
use Rattle.yd_ids.specs.declared.id.Id.{Id}
use Rattle.yd_words.specs.Member.{IsIn}
use Rattle.yd_chains.specs.Chain.{put_behind}
use Rattle.yd_scan.specs.declared.stretch.Stretch.{Stretch}
use Rattle.yd_scan.specs.Stretches.{stretch_at, units_at, HasOrigins, IsNoLater, EndsLeft}
use Rattle.yd_scan.specs.Scanning.{IsReady, IsScanPlace}
use Rattle.yd_scan.proofs.GrowingLemmas.{lists_grow}
use Rattle.yd_index.specs.Lines.{next_of, Adds}
use Rattle.yd_index.specs.Holding.{places_of, cut_stretches}
use Rattle.yd_index.proofs.RowLemmas.{index_finds}
use Rattle.yd_arena.specs.Lists.{Linked, list_at, AreLists, PutsBehind}
use Rattle.yd_arena.specs.Arena.{Placed, IsArena, CutsRun, GrowsByRun}
use Rattle.yd_arena.proofs.ArenaLemmas.{new_unheld}
use Rattle.yd_arena.proofs.UnitsLemmas.{cuts_keep_units}

-- what lists are, whatever the room
are_same : (a b : Linked) → b.stretches ≡ a.stretches → b.lists ≡ a.lists → AreLists b → AreLists a
are_same a b es el are =
    subst (λ ls. AreLists (record { stretches = a.stretches; lists = ls; room = a.room })) el
    (subst (λ ss. AreLists (record { stretches = ss; lists = b.lists; room = a.room })) es same)
  where
    same : AreLists (record { stretches = b.stretches; lists = b.lists; room = a.room })
    same = record { distinct = are.distinct; within = are.within; filled = are.filled; apart = are.apart }

-- a cut of lists that have got room
pub run_cut : (old new : Placed) (roomy : Linked) (place n more : ℕ) → roomy.stretches ≡ old.linked.stretches → roomy.lists ≡ old.linked.lists → AreLists roomy →
    place < length old.linked.stretches → n < (stretch_at old.linked.stretches place).len →
    new.linked.stretches ≡ cut_stretches roomy.stretches place n → more ≡ length roomy.stretches → PutsBehind roomy.lists new.linked.lists place more →
    ((k : ℕ) → next_of new.lines k ≡ next_of old.lines k) → CutsRun old new place n
run_cut old new roomy place n more es el are within inside cut em puts nexts =
    let runs : new.linked.stretches ≡ cut_stretches old.linked.stretches place n = cut ∙ ap (λ ss. cut_stretches ss place n) es in
    let lists : PutsBehind old.linked.lists new.linked.lists place (length old.linked.stretches) =
    subst (λ ls. PutsBehind ls new.linked.lists place (length old.linked.stretches)) el (subst (λ m. PutsBehind roomy.lists new.linked.lists place m) (em ∙ ap length es) puts) in
    record {
      runs = runs;
      lists = lists;
      nexts = nexts;
      units = cuts_keep_units old.linked new.linked place n (are_same old.linked roomy es el are) within (omega (arith, inside)) runs lists;
    }

module _ (old new : Placed) (list : ℕ) (after behind : Option ℕ) (run : Stretch) (a : IsArena old.lines old.linked.stretches) (are : AreLists old.linked) (ll : list < length old.linked.lists)
    (has : IfSome after (λ p. IsIn p (list_at old.linked list))) (ends : EndsLeft old.linked.stretches run.left after)
    (begins : IsNoLater old.linked.stretches (list_at old.linked list) run.right)
    (at_next : run.id.clock ≡ next_of old.lines run.id.client.0) (filled : 0 < run.len)
    (found : (left right : Id → Option Id) → HasOrigins left right old.linked.stretches (list_at old.linked list) run → IsScanPlace old.linked.stretches (list_at old.linked list) run behind left right)
    (ch : Adds old.lines new.lines run.id.client.0 (length old.linked.stretches) run.len)
    (runs : new.linked.stretches ≡ old.linked.stretches ++ run ∷ [])
    (lists : new.linked.lists ≡ set old.linked.lists list (put_behind behind (length old.linked.stretches) (list_at old.linked list))) where
  ready : IsReady (places_of old.lines) old.linked.stretches (list_at old.linked list) after run
  ready = record {
    index = index_finds old.lines old.linked.stretches a.holds;
    filled = λ i h. are.filled list i ll h;
    within = λ i h. are.within list i ll h;
    distinct = are.distinct list ll;
    has_after = has;
    ends_left = ends;
    right_begins = begins;
  }

  own : list_at new.linked list ≡ put_behind behind (length old.linked.stretches) (list_at old.linked list)
  own = ap (λ ls. get_or ls list []) lists ∙ get_or-set_same old.linked.lists list (put_behind behind (length old.linked.stretches) (list_at old.linked list)) [] ll

  pub run_grows : GrowsByRun old new list run
  run_grows = record {
    after = behind;
    runs = runs;
    count = ap length lists ∙ length-set old.linked.lists list (put_behind behind (length old.linked.stretches) (list_at old.linked list));
    place = own;
    units = λ left right o r lefts.
        ap₂ units_at runs own
        ∙ lists_grow left right (places_of old.lines) old.linked.stretches (list_at old.linked list) after behind run ready o
        (record { is_run = r; filled = filled; unheld = new_unheld old.lines old.linked.stretches run a at_next filled; held_lefts = lefts }) (found left right o);
    others = λ k ne. ap (λ ls. get_or ls k []) lists ∙ get_or-set_other old.linked.lists list k (put_behind behind (length old.linked.stretches) (list_at old.linked list)) [] ne;
    next = ch.next_is ∙ ap (λ m. m + run.len) (sym at_next);
    other_nexts = ch.other_nexts;
  }
