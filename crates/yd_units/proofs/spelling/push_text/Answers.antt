use Rattle.std.proofs.Common.{◌≡◌, ℕ, ◌≤◌, List, ◌++◌, length, take, refl, sym, ap, ◌∙◌, append_assoc, append-nil, arith}
use Rattle.std.proofs.Math.Seq.{take-length}
use Rattle.std.proofs.lemmas.List.{drop_all, length-take, take-append-le}
use Rattle.yd_units.proofs.TextLemmas.{text_of-step, text_of-nil, units_text}
use Rattle.yd_units.proofs.spelling.push_text.Goals as goal

-- what stood at the front stays there behind a push
kept_more : (n : ℕ) (old now more : List ℕ) → length old ≡ n → take n now ≡ old → take n (now ++ more) ≡ old
kept_more n old now more len e =
    let within : n ≤ length now = omega (arith, length-take n now, ap length e) in
    take-append-le n now more within ∙ e

pub loop-at-init : goal.loop-at-init
loop-at-init c = record { kept = rw c.args.out.now.ok.0 (take-length c.args.out.now.items); joined = refl }

pub loop-at-preserved : goal.loop-at-preserved
loop-at-preserved c =
    let held = c.loop-at.invariant in
    let old = c.args.out.now in
    record {
      kept = rw c.in_ok-push_char.ensures.written (kept_more old.len old.items c.loop-at.out.items _ (sym old.ok.0) held.kept);
      joined = rw (c.in_ok-push_char.ensures.written, append_assoc, c.unwrap_or.ensures) (rw (text_of-step _ _ c.char_at-c.result.0 c.char_at-c.ensures.first) at held.joined);
    }

pub returns-in_err-push_char-clause-kept : goal.returns-in_err-push_char-clause-kept
returns-in_err-push_char-clause-kept c = rw c.in_err-push_char.ensures.unchanged c.loop-at.invariant.kept

pub returns-clause-kept : goal.returns-clause-kept
returns-clause-kept c = c.loop-at.invariant.kept

pub returns-clause-written : goal.returns-clause-written
returns-clause-written c = sym (append-nil _) ∙ rw (drop_all c.loop-at.at c.args.units.now c.loop-at-test.false, text_of-nil) at c.loop-at.invariant.joined

pub returns-in_err-push_char-clause-is_text : goal.returns-in_err-push_char-clause-is_text
returns-in_err-push_char-clause-is_text c = units_text c.args.units.now (λ i. let fits = c.type_inv.units i in omega arith)

pub returns-clause-is_text : goal.returns-clause-is_text
returns-clause-is_text c = units_text c.args.units.now (λ i. let fits = c.type_inv.units i in omega arith)
