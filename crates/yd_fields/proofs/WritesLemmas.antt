-- Fields that are written one behind the other.
use Rattle.std.proofs.Common.{◌≡◌, ℕ, ◌+◌, ◌<◌, List, [], ◌∷◌, ◌++◌, length, get_or, drop, refl, sym, ap, ◌∙◌, subst}
use Rattle.std.proofs.lemmas.List.{drop_more}
use Rattle.yd_words.specs.Each.{Each}
use Rattle.yd_words.proofs.EachLemmas.{each_append}
use Rattle.yd_fields.specs.Field.{Field}
use Rattle.yd_fields.specs.Writes.{Writes, with_fields}

-- fields behind fields
with_fields-append : {W : Type 0} (put : Field → W → W) (fs gs : List Field) (w : W) → with_fields put (fs ++ gs) w ≡ with_fields put gs (with_fields put fs w)
with_fields-append put [] gs w = refl
with_fields-append put (f ∷ fs) gs w = with_fields-append put fs gs (put f w)

-- ---- lemmas for callers

-- fields, and then fields
pub writes_then : {W : Type 0} {put : Field → W → W} {is_spelled : Field → Type 0} {fs gs : List Field} {old mid new : W} → Writes put is_spelled fs old mid → Writes put is_spelled gs mid new → Writes put is_spelled (fs ++ gs) old new
writes_then {W} {put} {is_spelled} {fs} {gs} {old} {mid} {new} a b = record {
  written = b.written ∙ ap (with_fields put gs) a.written ∙ sym (with_fields-append put fs gs old);
  spelled = each_append is_spelled fs gs a.spelled b.spelled;
}

-- one field, and then fields
pub writes_more : {W : Type 0} {put : Field → W → W} {is_spelled : Field → Type 0} {gs : List Field} {mid new : W} (f : Field) (old : W) → mid ≡ put f old → is_spelled f → Writes put is_spelled gs mid new → Writes put is_spelled (f ∷ gs) old new
writes_more {W} {put} {is_spelled} {gs} {mid} {new} f old e s b = record {
  written = b.written ∙ ap (with_fields put gs) e;
  spelled = (s, b.spelled);
}

-- ---- loops

-- of all fields these are still to be written
pub record Remain {W : Type 0} (put : Field → W → W) (is_spelled : Field → Type 0) (all rest : List Field) (old now : W) : Type 0 where
  pub written : with_fields put rest now ≡ with_fields put all old
  pub spelled : Each is_spelled rest → Each is_spelled all

-- the next of them are written
pub remain_less : {W : Type 0} {put : Field → W → W} {is_spelled : Field → Type 0} {all before : List Field} {old now next : W} (fs rest : List Field) → before ≡ fs ++ rest → Remain put is_spelled all before old now → Writes put is_spelled fs now next → Remain put is_spelled all rest old next
remain_less {W} {put} {is_spelled} {all} {before} {old} {now} {next} fs rest e r w = record {
  written = ap (with_fields put rest) w.written ∙ sym (with_fields-append put fs rest now) ∙ ap (λ (l : List Field). with_fields put l now) (sym e) ∙ r.written;
  spelled = λ each. r.spelled (subst (Each is_spelled) (sym e) (each_append is_spelled fs rest w.spelled each));
}

-- the fields of one more item of a list are written
pub remain_item : {W X : Type 0} {put : Field → W → W} {is_spelled : Field → Type 0} {all : List Field} {old now next : W} (fields_of : List X → List Field) (one : X → List Field)
    → ((x : X) (xs : List X) → fields_of (x ∷ xs) ≡ one x ++ fields_of xs)
    → (items : List X) (i : ℕ) (x : X) → i < length items → x ≡ get_or items i x
    → Remain put is_spelled all (fields_of (drop i items)) old now → Writes put is_spelled (one x) now next → Remain put is_spelled all (fields_of (drop (i + 1) items)) old next
remain_item {W} {X} {put} {is_spelled} {all} {old} {now} {next} fields_of one step items i x lt here r w =
    let at : drop i items ≡ x ∷ drop (i + 1) items = drop_more items i x lt ∙ ap (λ (y : X). y ∷ drop (i + 1) items) (sym here) in
    remain_less (one x) (fields_of (drop (i + 1) items)) (ap fields_of at ∙ step x (drop (i + 1) items)) r w
