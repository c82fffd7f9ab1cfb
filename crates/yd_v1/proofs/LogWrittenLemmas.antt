-- A written log is read again.
use Rattle.std.proofs.Common.{◌≡◌, ◌∙◌, ◌+◌, ◌<◌, ◌≤◌, ℕ, List, [], ◌∷◌, ◌++◌, length, map, take, get_or, append-nil, append_assoc, refl, sym, ap, subst, arith}
use Rattle.std.specs.Prelude.{None}
use Rattle.std.proofs.lemmas.List.{get_or-map, length-map, map-append, take_all, take_more}
use Rattle.yd_num.proofs.WrittenLemmas.{blob_spells}
use Rattle.yd_num.specs.Writing.{shortest_blob}
use Rattle.yd_fields.proofs.UpdateExpectLemmas.{update_expects}
use Rattle.yd_fields.specs.UpdateFields.{fields_of_update}
use Rattle.yd_fields.specs.UpdatePlan.{update_plan}
use Rattle.yd_fields.specs.Writes.{with_fields}
use Rattle.yd_words.proofs.EachLemmas.{each_append, each_at}
use Rattle.yd_words.specs.Each.{Each}
use Rattle.yd_ops.specs.Valid.{IsValidUpdate}
use Rattle.yd_ops.specs.Value.{UpdateValue}
use Rattle.yd_ops.specs.View.{update_value}
use Rattle.yd_ops.specs.declared.updates.Update.{Update}
use Rattle.yd_parts.specs.Part.{Unread, all_of, behind}
use Rattle.yd_parts.specs.declared.fault.Column.TheVariants.{Whole}
use Rattle.yd_v1.proofs.WrittenLemmas.{with_v1_bytes, written_fills}
use Rattle.yd_v1.specs.Bytes.{V1Spells, v1_bytes}
use Rattle.yd_v1.specs.Grammar.{StandsForV1}
use Rattle.yd_v1.specs.Log.{AreEntries, StandsBody, StandsForLog}
use Rattle.yd_v1.specs.LogWriting.{AreBodies, IsBody, LogsComeBack, body_of, log_bytes, log_of}

-- bodies behind their lengths are entries
are_entries : (bodies : List (List ℕ)) (us : List UpdateValue) (left : Unread) → AreBodies bodies us → left.bytes ≡ log_of bodies → AreEntries left us
are_entries [] [] left are bytes = bytes
are_entries [] (u ∷ us) left are bytes = absurd are
are_entries (body ∷ bodies) [] left are bytes = absurd are
are_entries (body ∷ bodies) (u ∷ us) left are bytes =
    let next = behind left (log_of bodies) in
    let stands : StandsBody left body next = record { front = shortest_blob body; rest = log_of bodies; spells = blob_spells body are.0.fits; joined = bytes; spot = refl; next_is = refl } in
    (next, (body, stands, are.0.stands), are_entries bodies us next are.1 refl)

-- bodies of updates, one for each
pub are_bodies : (us : List UpdateValue) → Each (λ u. IsBody (body_of u) u) us → AreBodies (map body_of us) us
are_bodies [] each = tt
are_bodies (u ∷ us) each = (each.0, are_bodies us each.1)

-- one body more
pub log_more : (bodies : List (List ℕ)) (body : List ℕ) → log_of (bodies ++ body ∷ []) ≡ log_of bodies ++ shortest_blob body
log_more [] body = append-nil (shortest_blob body)
log_more (b ∷ bodies) body = ap (λ (l : List ℕ). shortest_blob b ++ l) (log_more bodies body) ∙ sym (append_assoc (shortest_blob b) (log_of bodies) (shortest_blob body))

-- ---- lemmas for callers

-- a log of bodies stands for their updates
pub logs_back : LogsComeBack
logs_back = λ bodies us are. are_entries bodies us (all_of Whole (log_of bodies)) are refl

-- so many updates were written
pub record WrittenFront (updates : List Update) (count : ℕ) (log : List ℕ) : Type 0 where
  pub written : log ≡ log_bytes (map update_value (take count updates))
  pub again : Each (λ u. IsBody (body_of u) u) (map update_value (take count updates))

-- the update of this number is valid
pub valid_at : (updates : List Update) (i : ℕ) (item : Update) → i < length updates → item ≡ get_or updates i item → Each IsValidUpdate (map update_value updates) → IsValidUpdate (update_value item)
valid_at updates i item lt is valid =
    subst IsValidUpdate (get_or-map update_value updates i item (update_value item) lt ∙ ap update_value (sym is))
    (each_at IsValidUpdate (map update_value updates) i (update_value item) valid (omega (arith, lt, length-map updates update_value)))

-- one more was written
pub written_more : (updates : List Update) (i : ℕ) (item : Update) (old new : List ℕ) → i < length updates → item ≡ get_or updates i item → WrittenFront updates i old
    → new ≡ old ++ shortest_blob (body_of (update_value item)) → IsBody (body_of (update_value item)) (update_value item) → WrittenFront updates (i + 1) new
written_more updates i item old new lt is front appended body =
    let us = map update_value (take i updates) in
    let u = update_value item in
    let longer : map update_value (take (i + 1) updates) ≡ us ++ u ∷ [] =
    ap (map update_value) (take_more updates i item lt ∙ ap (λ (x : Update). take i updates ++ x ∷ []) (sym is)) ∙ map-append update_value (take i updates) (item ∷ []) in
    record {
      written = appended ∙ ap (λ (l : List ℕ). l ++ shortest_blob (body_of u)) front.written
          ∙ sym (ap log_bytes longer ∙ ap log_of (map-append body_of us (u ∷ [])) ∙ log_more (map body_of us) (body_of u));
      again = rw longer (each_append (λ v. IsBody (body_of v) v) us (u ∷ []) front.again (body, tt));
    }

-- all were written: the log stands for them
pub written_all : (updates : List Update) (count : ℕ) (log : List ℕ) → length updates ≤ count → WrittenFront updates count log → StandsForLog log (map update_value updates)
written_all updates count log all front =
    let whole : take count updates ≡ updates = take_all count updates all in
    let us = map update_value updates in
    let each : Each (λ u. IsBody (body_of u) u) us = subst (λ (list : List Update). Each (λ u. IsBody (body_of u) u) (map update_value list)) whole front.again in
    subst (λ (l : List ℕ). StandsForLog l us) (sym (front.written ∙ ap (λ (list : List Update). log_bytes (map update_value list)) whole)) (logs_back (map body_of us) us (are_bodies us each))

-- the body of an update was made behind no byte
pub record MakesBody (body : List ℕ) (u : UpdateValue) : Type 0 where
  pub body_is : body ≡ body_of u
  pub stands : StandsForV1 (body_of u) u

pub body_made : (u : UpdateValue) (none body : List ℕ) → IsValidUpdate u → none ≡ [] → body ≡ with_fields (λ f bytes. bytes ++ v1_bytes f) (fields_of_update u) none → Each V1Spells (fields_of_update u) → MakesBody body u
body_made u none body valid is_none made spelled = record {
  body_is = made ∙ ap (λ (old : List ℕ). with_fields (λ f bytes. bytes ++ v1_bytes f) (fields_of_update u) old) is_none ∙ with_v1_bytes (fields_of_update u) [];
  stands = written_fills (fields_of_update u) (update_plan None) u (update_expects u valid) spelled;
}
