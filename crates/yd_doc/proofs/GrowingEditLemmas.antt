-- The update of an edit spells all in full, so it says less of nothing.
use Rattle.std.proofs.Common.{◌≡◌, ℕ, ◌+◌, ◌≤◌, List, [], ◌∷◌, inl, inr, refl, ◌∙◌, sym, subst, arith}
use Rattle.yd_words.specs.Each.{Each}
use Rattle.yd_words.specs.Member.{IsIn}
use Rattle.yd_words.proofs.MemberLemmas.{in_parts, in_right_part}
use Rattle.yd_ids.specs.declared.id.Client.{Client}
use Rattle.yd_ops.specs.declared.lists.List.{List as DocList}
use Rattle.yd_ops.specs.Operation.{UnitContent, text_unit, any_unit, json_unit, bytes, embedded, mark, nested_type, deleted_unit, gone_unit, Operation, level_of, operations_of_run}
use Rattle.yd_ops.specs.Value.{ContentValue, json, binary, string, embed, format, nested, any, deleted, len_of}
use Rattle.yd_entries.specs.Lowering.{level_of_content}
use Rattle.yd_entries.proofs.SpelledLemmas.{run_level}
use Rattle.yd_received.specs.Received.{LowersOne}
use Rattle.yd_editing.specs.Law.{IsMakeable, MakesContent}
use Rattle.yd_editing.specs.Made.{runs_of, run_of_step, lists_with, operations_of_runs}
use Rattle.yd_editing.specs.Step.{Step, make, remove}

-- no unit says more than one that is full
at_most_full : (unit : UnitContent) → level_of unit ≤ 2
at_most_full (text_unit u) = omega arith
at_most_full (any_unit t) = omega arith
at_most_full (json_unit t) = omega arith
at_most_full (bytes b) = omega arith
at_most_full (embedded t) = omega arith
at_most_full (mark key t) = omega arith
at_most_full (nested_type kind) = omega arith
at_most_full deleted_unit = omega arith
at_most_full gone_unit = omega arith

-- what a step makes is full
made_full : (content : ContentValue) → IsMakeable content → level_of_content content ≡ 2
made_full (json values) m = refl
made_full (binary blob) m = refl
made_full (string units) m = refl
made_full (embed t) m = refl
made_full (format key t) m = refl
made_full (nested kind) m = refl
made_full (any ts) m = refl
made_full (deleted count) m = absurd m

-- so is all that steps make
pub steps_full : (client : Client) (clock : ℕ) (lists : DocList → List Operation) (steps : List Step) → Each MakesContent steps → (o : Operation) →
    IsIn o (operations_of_runs (runs_of client clock lists steps)) → level_of o.content ≡ 2
steps_full client clock lists [] each o i = absurd i
steps_full client clock lists (make name after content ∷ steps) each o i =
    let run = run_of_step client clock lists name after content in
    elim (in_parts o (operations_of_run run) _ i) [
      | inl here ↦ run_level run o here ∙ made_full content each.0
      | inr rest ↦ steps_full client (clock + len_of content) (lists_with lists name after (operations_of_run run)) steps each.1 o rest
    ]
steps_full client clock lists (remove spans ∷ steps) each o i = steps_full client clock lists steps each.1 o i

-- what is full says less of nothing
pub full_lowers_none : (os received : List Operation) → ((o : Operation) → IsIn o os → level_of o.content ≡ 2) → LowersOne os received → ⊥
full_lowers_none os received full l =
    let here : IsIn l.less os = subst (IsIn l.less) (sym l.among) (in_right_part l.less l.earlier (l.less ∷ l.later) (inl refl)) in
    omega (arith, l.says_less, at_most_full l.more.content, full l.less here)
