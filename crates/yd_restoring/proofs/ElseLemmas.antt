-- Steps that make nothing in a list, or one run.
use Rattle.std.proofs.Common.{◌≡◌, ◌≢◌, ◌⊎◌, ℕ, ◌+◌, ◌≤◌, List, [], ◌∷◌, ◌++◌, Option, inl, inr, refl, sym, ap, ◌∙◌, subst, arith}
use Rattle.std.proofs.lemmas.Bool.{false_from_ne_true}
use Rattle.std.specs.Prelude.{if◌then◌else◌}
use Rattle.yd_words.specs.Each.{Each}
use Rattle.yd_words.proofs.EachLemmas.{each_append}
use Rattle.yd_ids.specs.declared.id.Client.{Client}
use Rattle.yd_ids.specs.declared.id.Id.{Id}
use Rattle.yd_ops.specs.declared.lists.List.{List as DocList}
use Rattle.yd_ops.specs.Operation.{Operation, operations_of_run}
use Rattle.yd_ops.specs.Value.{ContentValue, len_of}
use Rattle.yd_meaning.specs.ListNames.{same_list_decides}
use Rattle.yd_meaning.specs.Names.{same_list}
use Rattle.yd_editing.specs.Made.{put_behind, run_of_step, made_run, lists_with, lists_after}
use Rattle.yd_editing.specs.Step.{Step, make, remove}
use Rattle.yd_restoring.specs.Keyed.{MakesElse}

pub other_list : (name : DocList) (lists : DocList → List Operation) (other : DocList) → other ≢ name → (after : Option Id) (news : List Operation) →
    lists_with lists other after news name ≡ lists name
other_list name lists other differ after news = ap (λ t. if t then put_behind after news (lists name) else lists name)
    (false_from_ne_true (same_list name other) (λ e. differ (sym ((same_list_decides name other).0 e))))

-- the list stays
pub else_stays : (name : DocList) (client : Client) (steps : List Step) → Each (MakesElse name) steps → (lists : DocList → List Operation) (clock : ℕ) →
    lists_after client clock lists steps name ≡ lists name
else_stays name client [] each lists clock = refl
else_stays name client (make other after content ∷ steps) each lists clock =
    else_stays name client steps each.1 (lists_with lists other after (operations_of_run (run_of_step client clock lists other after content))) (clock + len_of content)
    ∙ other_list name lists other each.0 after (operations_of_run (run_of_step client clock lists other after content))
else_stays name client (remove spans ∷ steps) each lists clock = else_stays name client steps each.1 lists clock

-- ---- one run

-- just one step makes something in the list: this
abbrev pub MakesOnce : DocList → Option Id → ContentValue → List Step → Type 0
MakesOnce name after content [] = ⊥
MakesOnce name after content (step ∷ steps) = ((step ≡ make name after content) × Each (MakesElse name) steps) ⊎ (MakesElse name step × MakesOnce name after content steps)

pub once_then : (name : DocList) (after : Option Id) (content : ContentValue) (steps more : List Step) → MakesOnce name after content steps → Each (MakesElse name) more →
    MakesOnce name after content (steps ++ more)
once_then name after content [] more f g = absurd f
once_then name after content (step ∷ steps) more (inl (e, each)) g = inl (e, each_append (MakesElse name) steps more each g)
once_then name after content (step ∷ steps) more (inr (e, f)) g = inr (e, once_then name after content steps more f g)

pub then_once : (name : DocList) (after : Option Id) (content : ContentValue) (steps more : List Step) → Each (MakesElse name) steps → MakesOnce name after content more →
    MakesOnce name after content (steps ++ more)
then_once name after content [] more f g = g
then_once name after content (step ∷ steps) more f g = inr (f.0, then_once name after content steps more f.1 g)

-- the list with the run, at some clock
pub record Once (name : DocList) (client : Client) (after : Option Id) (content : ContentValue) (steps : List Step) (lists : DocList → List Operation) (clock : ℕ) : Type 0 where
  pub at : ℕ
  pub on : clock ≤ at
  pub evolved : lists_after client clock lists steps name ≡ put_behind after (operations_of_run (made_run client at (lists name) name after content)) (lists name)

pub once_evolves : (name : DocList) (client : Client) (after : Option Id) (content : ContentValue) (steps : List Step) → MakesOnce name after content steps →
    (lists : DocList → List Operation) (clock : ℕ) → Once name client after content steps lists clock
once_evolves name client after content [] f lists clock = absurd f
once_evolves name client after content (step ∷ steps) (inl (e, each)) lists clock = subst (λ s. Once name client after content (s ∷ steps) lists clock) (sym e) (record {
  at = clock;
  on = omega arith;
  evolved = else_stays name client steps each (lists_with lists name after (operations_of_run (run_of_step client clock lists name after content))) (clock + len_of content)
      ∙ ap (λ t. if t then put_behind after (operations_of_run (run_of_step client clock lists name after content)) (lists name) else lists name) ((same_list_decides name name).1 refl);
})
once_evolves name client after content (make other before c ∷ steps) (inr (e, f)) lists clock =
    let o = once_evolves name client after content steps f (lists_with lists other before (operations_of_run (run_of_step client clock lists other before c))) (clock + len_of c) in
    let same = other_list name lists other e before (operations_of_run (run_of_step client clock lists other before c)) in record {
      at = o.at;
      on = omega (arith, o.on);
      evolved = o.evolved ∙ ap (λ os. put_behind after (operations_of_run (made_run client o.at os name after content)) os) same;
    }
once_evolves name client after content (remove spans ∷ steps) (inr (e, f)) lists clock =
    let o = once_evolves name client after content steps f lists clock in record { at = o.at; on = o.on; evolved = o.evolved }
