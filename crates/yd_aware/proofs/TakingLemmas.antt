-- Entries taken one after another: a step of the way.
use Rattle.std.proofs.Common.{◌≡◌, ◌<◌, ℕ, ◌+◌, List, [], ◌∷◌, ◌++◌, length, drop, get_or, Option, refl, sym, ap, ◌∙◌, append_assoc}
use Rattle.std.specs.Prelude.{OnOk, Result, Ok, Err}
use Rattle.std.proofs.lemmas.List.{drop_more}
use Rattle.yd_ids.specs.declared.id.Client.{Client}
use Rattle.yd_sync.specs.declared.entry.AwareEntry.{AwareEntry}
use Rattle.yd_sync.specs.Table.{Row, after_entries, after_entry, is_taken, taken_of, where_so}

-- the entries that are left begin with this one
left_with : (es : List AwareEntry) (i : ℕ) (e : AwareEntry) → i < length es → e ≡ get_or es i e → drop i es ≡ e ∷ drop (i + 1) es
left_with es i e less here = drop_more es i e less ∙ ap (λ (f : AwareEntry). f ∷ drop (i + 1) es) (sym here)

pub after_step : (own : Option Client) (now source : ℕ) (es : List AwareEntry) (i : ℕ) (e : AwareEntry) (rows new : List Row) → i < length es → e ≡ get_or es i e →
    new ≡ after_entry own now source e rows →
    after_entries own now source (drop (i + 1) es) new ≡ after_entries own now source (drop i es) rows
after_step own now source es i e rows new less here step =
    ap (after_entries own now source (drop (i + 1) es)) step
    ∙ sym (ap (λ fs. after_entries own now source fs rows) (left_with es i e less here))

pub taken_step : (own : Option Client) (now source : ℕ) (es : List AwareEntry) (i : ℕ) (e : AwareEntry) (rows new : List Row) (taken more : List AwareEntry) →
    i < length es → e ≡ get_or es i e → new ≡ after_entry own now source e rows → more ≡ taken ++ where_so (is_taken own rows e) e →
    more ++ taken_of own now source (drop (i + 1) es) new ≡ taken ++ taken_of own now source (drop i es) rows
taken_step own now source es i e rows new taken more less here step told =
    ap (λ t. t ++ taken_of own now source (drop (i + 1) es) new) told
    ∙ ap (λ t. (taken ++ where_so (is_taken own rows e) e) ++ taken_of own now source (drop (i + 1) es) t) step
    ∙ append_assoc taken (where_so (is_taken own rows e) e) (taken_of own now source (drop (i + 1) es) (after_entry own now source e rows))
    ∙ sym (ap (λ fs. taken ++ taken_of own now source fs rows) (left_with es i e less here))

-- what holds whatever the call answers
pub on_ok : {X E : Type 0} (P : Type 0) (result : Result X E) → P → OnOk result P
on_ok P (Ok x) p = p
on_ok P (Err e) p = tt

pub and_nothing : {X : Type 0} (xs : List X) → xs ++ [] ≡ xs
and_nothing [] = refl
and_nothing (x ∷ xs) = ap (λ ys. x ∷ ys) (and_nothing xs)
