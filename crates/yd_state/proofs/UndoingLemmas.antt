-- Where runs are parted after entries came into a store, the entries can be taken out again still.
use Rattle.std.proofs.Common.{◌≡◌, ℕ, List, sym, ap, ◌∙◌, subst, arith}
use Rattle.std.proofs.Math.Path.{fun_ext}
use Rattle.std.specs.Prelude.{filter, nat_lt}
use Rattle.yd_origins.specs.Table.{Row}
use Rattle.yd_arena.specs.Arena.{Placed, count_of, next_clock}
use Rattle.yd_arena.specs.Rows.{rows_in}
use Rattle.yd_kept.specs.Back.{HasGoneBack}
use Rattle.yd_kept.specs.Kept.{KeptValue, KeepsHeld}
use Rattle.yd_held.specs.Held.{HeldValue}
use Rattle.yd_held.specs.Turn.{AreHeldInTurn}
use Rattle.yd_state.specs.Back.{CanBeTakenOut, TakesOut, CanBeUndone}

module _ (k : HeldValue) (order : List ℕ) (mid new : KeptValue) (keeps : KeepsHeld mid new) (names : new.names ≡ mid.names)
    (count : count_of new.store.placed ≡ count_of mid.store.placed) where
  nexts : next_clock new.store.placed ≡ next_clock mid.store.placed
  nexts = fun_ext keeps.nexts

  turn_on : (clocks : ℕ → ℕ) → AreHeldInTurn k.received.runs k.received.entries clocks order (next_clock mid.store.placed) →
      AreHeldInTurn k.received.runs k.received.entries clocks order (next_clock new.store.placed)
  turn_on clocks turn = subst (λ (f : ℕ → ℕ). AreHeldInTurn k.received.runs k.received.entries clocks order f) (sym nexts) turn

  -- what has gone back from a store has gone back from it where its runs are parted
  gone_on : (from : Placed) → HasGoneBack from mid.store.placed → HasGoneBack from new.store.placed
  gone_on from gone = record {
    count = count ∙ gone.count;
    rows = λ list lt. keeps.rows list (omega (arith, lt, gone.count)) ∙ gone.rows list lt
        ∙ ap (λ (f : ℕ → ℕ). filter (λ (row : Row). nat_lt row.id.clock (f row.id.client.0)) (rows_in from list)) (sym nexts);
  }

  takes_out : (back : KeptValue) → TakesOut k order new back → TakesOut k order mid back
  takes_out back out = record {
    names = out.names ∙ names;
    leaves = record {
      count = out.leaves.count ∙ count;
      lists = λ test above list lt. out.leaves.lists test above list (omega (arith, lt, count)) ∙ ap (filter test) (keeps.lists list lt);
      fewer = λ o h. (keeps.operations o).0 (out.leaves.fewer o h);
      left = λ o h lt. out.leaves.left o ((keeps.operations o).1 h) lt;
      fewer_marks = λ id m. (keeps.marks id).0 (out.leaves.fewer_marks id m);
      left_marks = λ id m lt. out.leaves.left_marks id ((keeps.marks id).1 m) lt;
      borders = λ client clock border. out.leaves.borders client clock (keeps.borders client clock border);
      gone = λ from gone. out.leaves.gone from (gone_on from gone);
    };
    nexts = λ clocks turn. out.nexts clocks (turn_on clocks turn);
  }

  -- ---- lemmas for callers

  pub still_out : CanBeTakenOut k order mid → CanBeTakenOut k order new
  still_out can = record {
    clocks = can.clocks;
    turn = turn_on can.clocks can.turn;
    borders = λ at t i got. keeps.borders t.id.client.0 t.id.clock (can.borders at t i got);
  }

  pub still_undone : (old : KeptValue) → CanBeUndone k order old mid → CanBeUndone k order old new
  still_undone old can = record { can = still_out can.can; undone = λ back sound out. can.undone back sound (takes_out back out) }
