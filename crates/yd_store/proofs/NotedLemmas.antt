-- What the marks of runs say of their units stays what their contents say.
use Rattle.std.proofs.Common.{◌≡◌, ℕ, true, false, ◌<◌, inl, inr, List, [], ◌∷◌, ◌++◌, Option, Some, None, length, set, refl, sym, ap, ◌∙◌, subst, arith, true≢false}
use Rattle.std.proofs.lemmas.List.{length-append, length-set, get_or_append_left, get_or_at, get_or-set_same, get_or-set_other}
use Rattle.yd_ops.specs.Value.{ContentValue, json, binary, string, embed, format, nested, any, deleted, RunValue}
use Rattle.yd_ops.specs.Cutting.{content_before, content_behind}
use Rattle.yd_scan.specs.declared.stretch.Stretch.{Stretch}
use Rattle.yd_index.proofs.LinesLemmas.{eq_says}
use Rattle.yd_index.proofs.HoldingLemmas.{below_or_last}
use Rattle.yd_arena.specs.declared.mark.Mark.{Mark}
use Rattle.yd_arena.specs.Marks.{no_mark, mark_at, MarksClocks}
use Rattle.yd_store.specs.Contents.{counts, is_lowered, run_at, told_before, told_behind, cut_runs}
use Rattle.yd_store.specs.Store.{IsNoted, AreNoted}
use Rattle.yd_store.specs.Halves.{IsString, HoldsText, told_as}

-- ---- of one run

kind_before : (n : ℕ) (c : ContentValue) → (is_lowered (content_before n c) ≡ is_lowered c) × (counts (content_before n c) ≡ counts c)
kind_before n (json values) = (refl, refl)
kind_before n (binary blob) = (refl, refl)
kind_before n (string units) = (refl, refl)
kind_before n (embed t) = (refl, refl)
kind_before n (format key t) = (refl, refl)
kind_before n (nested kind) = (refl, refl)
kind_before n (any ts) = (refl, refl)
kind_before n (deleted count) = (refl, refl)

kind_behind : (n : ℕ) (c : ContentValue) → (is_lowered (content_behind n c) ≡ is_lowered c) × (counts (content_behind n c) ≡ counts c)
kind_behind n (json values) = (refl, refl)
kind_behind n (binary blob) = (refl, refl)
kind_behind n (string units) = (refl, refl)
kind_behind n (embed t) = (refl, refl)
kind_behind n (format key t) = (refl, refl)
kind_behind n (nested kind) = (refl, refl)
kind_behind n (any ts) = (refl, refl)
kind_behind n (deleted count) = (refl, refl)

noted_before : (mark : Mark) (n : ℕ) (z : Option RunValue) → IsNoted mark z → IsNoted mark (told_before n z)
noted_before mark n None of = tt
noted_before mark n (Some run) of = λ alive full. (let k = kind_before n run.content in of alive (sym k.0 ∙ full) ∙ sym k.1)

noted_behind : (mark : Mark) (n : ℕ) (z : Option RunValue) → IsNoted mark z → IsNoted mark (told_behind n z)
noted_behind mark n None of = tt
noted_behind mark n (Some run) of = λ alive full. (let k = kind_behind n run.content in of alive (sym k.0 ∙ full) ∙ sym k.1)

-- the mark says of a run what it says of its first units
pub noted_whole : (mark : Mark) (n : ℕ) (run : RunValue) → IsNoted mark (told_before n (Some run)) → IsNoted mark (Some run)
noted_whole mark n run of = λ alive full. (let k = kind_before n run.content in of alive (k.0 ∙ full) ∙ k.1)

-- what is deleted counts no unit
pub noted_dead : (mark : Mark) (z : Option RunValue) → mark.deleted ≡ true → IsNoted mark z
noted_dead mark None dead = tt
noted_dead mark (Some run) dead = λ alive full. absurd (true≢false (sym dead ∙ alive))

-- another text counts as the text did
noted_text : (mark : Mark) (units : List ℕ) (z : Option RunValue) → HoldsText z → IsNoted mark z → IsNoted mark (told_as units z)
noted_text mark units None text of = tt
noted_text mark units (Some run) text of = λ alive full. go run.content text (of alive)
  where
    go : (c : ContentValue) → IsString c → (is_lowered c ≡ false → mark.counted ≡ counts c) → mark.counted ≡ true
    go (string us) is so = so refl
    go (json values) is so = absurd is
    go (binary blob) is so = absurd is
    go (embed t) is so = absurd is
    go (format key t) is so = absurd is
    go (nested kind) is so = absurd is
    go (any ts) is so = absurd is
    go (deleted count) is so = absurd is

-- ---- of all runs

noted_set : (rows : List Mark) (told : List (Option RunValue)) (place : ℕ) (z : Option RunValue) → AreNoted rows told → place < length told → IsNoted (mark_at rows place) z → AreNoted rows (set told place z)
noted_set rows told place z are within of = λ i lt. elim (eq_says i place) [
  | inl y ↦ subst (λ j. IsNoted (mark_at rows j) (run_at (set told place z) j)) (sym y.1) (subst (IsNoted (mark_at rows place)) (sym (get_or-set_same told place z None within)) of)
  | inr y ↦ subst (IsNoted (mark_at rows i)) (sym (get_or-set_other told place i z None y.1)) (are i (omega (arith, lt, length-set told place z)))
]

pub noted_more : (rows : List Mark) (told : List (Option RunValue)) (mark : Mark) (z : Option RunValue) → AreNoted rows told → length rows ≡ length told → IsNoted mark z → AreNoted (rows ++ mark ∷ []) (told ++ z ∷ [])
noted_more rows told mark z are each of = λ i lt. elim (below_or_last i (length told) (omega (arith, lt, length-append told (z ∷ [])))) [
  | inl low ↦ subst (λ m. IsNoted m (run_at (told ++ z ∷ []) i)) (sym (get_or_append_left rows (mark ∷ []) no_mark i (omega (arith, low, each))))
      (subst (IsNoted (mark_at rows i)) (sym (get_or_append_left told (z ∷ []) None i low)) (are i low))
  | inr e ↦ subst (λ j. IsNoted (mark_at (rows ++ mark ∷ []) j) (run_at (told ++ z ∷ []) j)) (sym e)
      (subst (λ m. IsNoted m (run_at (told ++ z ∷ []) (length told))) (sym (get_or_at rows mark [] no_mark (length told) each))
      (subst (IsNoted mark) (sym (get_or_at told z [] None (length told) refl)) of))
]

pub noted_cut : (rows : List Mark) (told : List (Option RunValue)) (place n : ℕ) → AreNoted rows told → length rows ≡ length told → place < length told → AreNoted (rows ++ mark_at rows place ∷ []) (cut_runs told place n)
noted_cut rows told place n are each within =
    let was = are place within in
    let front = told_before n (run_at told place) in
    noted_more rows (set told place front) (mark_at rows place) (told_behind n (run_at told place))
    (noted_set rows told place front are within (noted_before (mark_at rows place) n (run_at told place) was))
    (each ∙ sym (length-set told place front)) (noted_behind (mark_at rows place) n (run_at told place) was)

pub noted_put : (rows : List Mark) (told : List (Option RunValue)) (place : ℕ) (units : List ℕ) → AreNoted rows told → place < length told → HoldsText (run_at told place) →
    AreNoted rows (set told place (told_as units (run_at told place)))
noted_put rows told place units are within text = noted_set rows told place (told_as units (run_at told place)) are within (noted_text (mark_at rows place) units (run_at told place) text (are place within))

pub noted_emptied : (rows : List Mark) (told : List (Option RunValue)) (place : ℕ) → AreNoted rows told → place < length told → AreNoted rows (set told place None)
noted_emptied rows told place are within = noted_set rows told place None are within tt

-- a run that is marked counts no unit, and each other has its mark
pub noted_marked : (runs : List Stretch) (old new : List Mark) (told : List (Option RunValue)) (client first end : ℕ) → MarksClocks runs old new client first end → length told ≡ length runs → AreNoted old told → AreNoted new told
noted_marked runs old new told client first end marks each are = λ i lt. go i (omega (arith, lt, each)) (run_at told i) (are i lt)
  where
    go : (i : ℕ) → i < length runs → (z : Option RunValue) → IsNoted (mark_at old i) z → IsNoted (mark_at new i) z
    go i il None of = tt
    go i il (Some run) of = λ alive full.
        let same : mark_at new i ≡ mark_at old i = marks.others i (λ b. true≢false (sym (marks.within i il b) ∙ alive)) in
        ap (λ (m : Mark). m.counted) same ∙ of (ap (λ (m : Mark). m.deleted) (sym same) ∙ alive) full
