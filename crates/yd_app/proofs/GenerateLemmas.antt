-- What `generate` writes: it is one line, and it ends with `equal yes`.
use Rattle.std.proofs.Common.{◌≡◌, ◌∙◌, ℕ, ◌≤◌, ◌++◌, Bool, true, false, List, append_assoc, length, refl, sym, ap, subst, arith}
use Rattle.std.specs.Prelude.{IsTrue, codes}
use Rattle.yd_meaning.specs.Document.{document_of}
use Rattle.yd_meaning.specs.Held.{count_of_ids, held_set}
use Rattle.yd_editing.specs.TextEdit.{counted_units}
use Rattle.yd_generator.specs.Generated.{delete_set_of, ended, generation, text_list}
use Rattle.yd_generator.specs.Law.{AreEqual}
use Rattle.yd_generator.proofs.GenerationLemmas.{generations_accepted, generations_shared}
use Rattle.yd_generator.proofs.SharedLemmas.{rounds_equal}
use Rattle.yd_generating.specs.Line.{IsFoundOf}
use Rattle.yd_generating.specs.declared.generating.Generated.{Generated}
use Rattle.yd_ending.specs.Writing.{TakesAll}
use Rattle.yd_asking.specs.Command.{generate}
use Rattle.yd_app.proofs.MergeLemmas.{written_of}
use Rattle.yd_app.specs.Commands.Generate.{IsGenerated, generated_line, number_text, told_line}
use Rattle.yd_app.specs.Law.{GeneratesEqual}

-- the three are equal behind steps of so few
generated_equal : (steps : ℕ) → steps ≤ 1000000 → AreEqual (ended steps)
generated_equal steps few = rounds_equal (generation steps).three (generations_shared steps (generations_accepted steps (omega (arith, few))))

-- so the last word is one
is_yes : (steps : ℕ) (bytes : List ℕ) → steps ≤ 1000000 → (is : IsGenerated steps bytes) → is.equal ≡ true
is_yes steps bytes few is = is.tells.1 (generated_equal steps few)

-- the front of the line
front : ℕ → ℕ → ℕ → List ℕ
front held deleted len = number_text (codes "held") held ++ number_text (codes "deleted") deleted ++ number_text (codes "length") len

-- ---- lemmas for callers

-- what was found is so written
pub found_written : (steps : ℕ) (found : Generated) (bytes : List ℕ) → IsFoundOf steps found → bytes ≡ told_line found.held found.deleted found.length found.equal → IsGenerated steps bytes
found_written steps found bytes is bytes_are = record {
  equal = found.equal;
  tells = is.line.equal;
  bytes_are = bytes_are
      ∙ ap (λ n. told_line n found.deleted found.length found.equal) is.line.held
      ∙ ap (λ n. told_line (length (held_set (ended steps).first.operations)) n found.length found.equal) is.line.deleted
      ∙ ap (λ n. told_line (length (held_set (ended steps).first.operations)) (count_of_ids (delete_set_of (ended steps).first)) n found.equal) is.line.len;
}

-- two such lines are one
pub generated_one : (steps : ℕ) (bytes other : List ℕ) → IsGenerated steps bytes → IsGenerated steps other → bytes ≡ other
generated_one steps bytes other a b = a.bytes_are ∙ ap (generated_line (ended steps)) (same a.equal b.equal (λ e. b.tells.1 (a.tells.0 e)) (λ e. a.tells.1 (b.tells.0 e))) ∙ sym b.bytes_are
  where
    same : (s t : Bool) → (IsTrue s → IsTrue t) → (IsTrue t → IsTrue s) → s ≡ t
    same true true there back = refl
    same true false there back = sym (there refl)
    same false true there back = back refl
    same false false there back = refl

-- and there is one
pub generated_some : (steps : ℕ) → steps ≤ 1000000 → IsGenerated steps (generated_line (ended steps) true)
generated_some steps few = record { equal = true; tells = ((λ e. generated_equal steps few), (λ equal. refl)); bytes_are = refl }

-- it is the line that says yes
pub generated_is : (steps : ℕ) (bytes : List ℕ) → steps ≤ 1000000 → IsGenerated steps bytes → bytes ≡ generated_line (ended steps) true
generated_is steps bytes few is = is.bytes_are ∙ ap (generated_line (ended steps)) (is_yes steps bytes few is)

-- and ends so
ends_yes : (before : List ℕ) → ((before ++ codes "equal ") ++ codes "yes") ++ codes "\n" ≡ before ++ codes "equal yes\n"
ends_yes before = append_assoc (before ++ codes "equal ") (codes "yes") (codes "\n") ∙ append_assoc before (codes "equal ") (codes "yes" ++ codes "\n")

line_ends : (held deleted len : ℕ) → told_line held deleted len true ≡ front held deleted len ++ codes "equal yes\n"
unfolding front
line_ends held deleted len = ends_yes (front held deleted len)

pub generated_ends : (steps : ℕ) (bytes : List ℕ) → steps ≤ 1000000 → IsGenerated steps bytes → (before : List ℕ) × (bytes ≡ before ++ codes "equal yes\n")
generated_ends steps bytes few is =
    let g = ended steps in (
      front (length (held_set g.first.operations)) (count_of_ids (delete_set_of g.first)) (length (counted_units (document_of g.first) text_list)),
      generated_is steps bytes few is ∙ line_ends (length (held_set g.first.operations)) (count_of_ids (delete_set_of g.first)) (length (counted_units (document_of g.first) text_list)),
    )

-- and a run has written it
pub generates_equal : GeneratesEqual
generates_equal = record {
  line = λ steps inputs bytes few is. generated_is steps bytes few is;
  ends = λ steps inputs bytes few is. generated_ends steps bytes few is;
  runs = λ steps inputs words shelf link taken now runs.
      let x = written_of (generate steps) inputs words shelf link taken now (λ bytes over. over) runs in
      subst (λ (l : List ℕ). TakesAll taken now l) (generated_is steps x.0 runs.asks.in_range x.1) x.2;
}
