-- The units of lists where a run is cut, and where one is added.
use Rattle.std.proofs.Common.{◌≡◌, ℕ, ◌<◌, inl, inr, List, [], ◌∷◌, ◌++◌, length, refl, sym, ap, ap₂, ◌∙◌, subst}
use Rattle.std.proofs.lemmas.List.{get_or_append_left, get_or_at, append_assoc}
use Rattle.yd_words.specs.Member.{IsIn}
use Rattle.yd_words.proofs.MemberLemmas.{in_left_part, in_right_part}
use Rattle.yd_chains.specs.Chain.{up_to, behind}
use Rattle.yd_chains.proofs.ChainLemmas.{has_place, parts_are}
use Rattle.yd_scan.specs.declared.stretch.Stretch.{Stretch}
use Rattle.yd_scan.specs.Stretches.{no_stretch, units_of, units_at}
use Rattle.yd_scan.proofs.UnitLemmas.{units_append}
use Rattle.yd_index.specs.Holding.{cut_stretches}
use Rattle.yd_index.proofs.CuttingLemmas.{cut_keeps_units, cut_keeps_others}
use Rattle.yd_arena.specs.Lists.{list_at}
use Rattle.yd_arena.specs.Law.{CutsKeepUnits, AddsPutUnits}

pub cuts_keep_units : CutsKeepUnits
cuts_keep_units = λ old new place n lists lt le cut puts k kl.
    ap (λ ss. units_at ss (list_at new k)) cut
    ∙ elim (has_place place (list_at old k)) [
      | inl h ↦ ap (units_at (cut_stretches old.stretches place n)) (puts.own k kl h)
          ∙ cut_keeps_units old.stretches (list_at old k) place n lt le (λ j m. lists.within k j kl m) (lists.distinct k kl) h
      | inr h ↦ ap (units_at (cut_stretches old.stretches place n)) (puts.others k kl h)
          ∙ cut_keeps_others old.stretches (list_at old k) place n lt (λ j m. lists.within k j kl m) h
    ]

others_same : (stretches : List Stretch) (new : Stretch) (places : List ℕ) → ((i : ℕ) → IsIn i places → i < length stretches) → units_at (stretches ++ new ∷ []) places ≡ units_at stretches places
others_same stretches new [] within = refl
others_same stretches new (p ∷ ps) within =
    ap₂ (λ xs ys. xs ++ ys) (ap units_of (get_or_append_left stretches (new ∷ []) no_stretch p (within p (inl refl)))) (others_same stretches new ps (λ i h. within i (inr h)))

pub adds_put_units : AddsPutUnits
adds_put_units = λ stretches list after new within.
    let front = up_to after list in
    let back = behind after list in
    units_append (stretches ++ new ∷ []) front (length stretches ∷ back)
    ∙ ap₂ (λ xs ys. xs ++ ys) (others_same stretches new front (λ i h. within i (subst (IsIn i) (parts_are after list) (in_left_part i front back h))))
    (ap₂ (λ xs ys. xs ++ ys) (ap units_of (get_or_at stretches new [] no_stretch (length stretches) refl))
    (others_same stretches new back (λ i h. within i (subst (IsIn i) (parts_are after list) (in_right_part i front back h)))))
    ∙ sym (append_assoc (units_at stretches front) (units_of new) (units_at stretches back))
