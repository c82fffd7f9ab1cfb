-- What a piece lends of a run: all of its units, or the last one.
use Rattle.std.proofs.Common.{◌≡◌, ℕ, zero, suc, ◌-◌, ◌<◌, Bool, List, [], ◌∷◌, ◌++◌, length, take, drop, sym, ap, ◌∙◌, arith}
use Rattle.std.proofs.lemmas.List.{append_assoc, take_all}
use Rattle.yd_ids.specs.declared.id.Id.{Id}
use Rattle.yd_ops.specs.Operation.{UnitContent, later_id, units_of_content}
use Rattle.yd_ops.specs.Value.{len_of}
use Rattle.yd_ops.specs.View.{content_value}
use Rattle.yd_ops.proofs.OperationLemmas.{length-units_of_content, later_none, later_later}
use Rattle.yd_listing.specs.Lending.{Lent, lent_from, units_of_run}
use Rattle.yd_listing.specs.declared.lent.LentRun.{LentRun}
use Rattle.yd_listing.specs.Listing.{EndIn}

-- the last of some units, behind the others
end_parts : (id : Id) (deleted : Bool) (units : List UnitContent) (k : ℕ) → length units ≡ suc k →
    lent_from id deleted units ≡ lent_from id deleted (take k units) ++ lent_from (later_id id k) deleted (take 1 (drop k units))
end_parts id deleted [] k e = absurd (omega (arith, e))
end_parts id deleted (u ∷ []) zero e = ap (λ (x : Id). lent_from x deleted (u ∷ [])) (sym (later_none id))
end_parts id deleted (u ∷ v ∷ us) zero e = absurd (omega (arith, e))
end_parts id deleted (u ∷ us) (suc k) e =
    let f : length us ≡ suc k = omega (arith, e) in
    let later : later_id (later_id id 1) k ≡ later_id id (suc k) = later_later id 1 k ∙ ap (later_id id) (omega arith) in
    ap (λ (ls : List Lent). record { id = id; content = u; is_deleted = deleted } ∷ ls)
    (end_parts (later_id id 1) deleted us k f
    ∙ ap (λ (x : Id). lent_from (later_id id 1) deleted (take k us) ++ lent_from x deleted (take 1 (drop k us))) later)

-- ---- lemmas for callers

module _ (run : LentRun) (len : run.len ≡ len_of (content_value run.content.now)) where
  abbrev units : List UnitContent
  units = units_of_content (content_value run.content.now)

  long : length units ≡ run.len
  long = length-units_of_content (content_value run.content.now) ∙ sym len

  pub whole_units : lent_from run.id run.deleted (take run.len (drop 0 units)) ≡ units_of_run run
  whole_units = ap (lent_from run.id run.deleted) (take_all run.len units (omega (arith, long)))

  pub end_units : 0 < run.len → (front : List Lent) × (units_of_run run ≡ front ++ lent_from (later_id run.id (run.len - 1)) run.deleted (take 1 (drop (run.len - 1) units)))
  end_units some = (lent_from run.id run.deleted (take (run.len - 1) units), end_parts run.id run.deleted units (run.len - 1) (omega (arith, long, some)))

-- the last of the last are the last
pub end_both : (all mid units : List Lent) → EndIn all mid → EndIn mid units → EndIn all units
end_both all mid units a b = (a.0 ++ b.0, a.1 ∙ ap (λ (us : List Lent). a.0 ++ us) b.1 ∙ sym (append_assoc a.0 b.0 units))
