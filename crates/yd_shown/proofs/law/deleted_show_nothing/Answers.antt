use Rattle.std.proofs.Common.{◌≡◌, ℕ, Bool, true, false, ◌&&◌, not, List, Some, None, refl, sym, ap, ◌∙◌, true≢false}
use Rattle.std.specs.Prelude.{if◌then◌else◌}
use Rattle.yd_ops.specs.declared.lists.Parent.{Parent}
use Rattle.yd_ops.specs.Operation.{Operation}
use Rattle.yd_meaning.specs.Document.{Document}
use Rattle.yd_shown.specs.Shown.{key_list, last_unit, if_shown, unit_under, is_counted, most_types}
use Rattle.yd_shown.proofs.LiveLemmas.{live_is_full, live_in_none}
use Rattle.yd_shown.proofs.AlikeLemmas.{shown_alike}
use Rattle.yd_shown.proofs.law.deleted_show_nothing.Goals as goal

-- a deleted unit does not stand under its key
no_unit : (d : Document) (p : Parent) (k : List ℕ) (o : Operation) → last_unit (d.units (key_list p k)) ≡ Some o →
    d.deleted o.id ≡ true → unit_under d p k ≡ None
no_unit d p k o e f = ap (if_shown d.deleted) e ∙ go (d.deleted o.id) f
  where
    go : (t : Bool) → t ≡ true → (if not t && is_counted o.content then Some o else None) ≡ None
    go true g = refl
    go false g = absurd (true≢false (sym g))

pub returns : goal.returns
returns c = record {
  alike = λ one other alike parent mode. shown_alike one other alike most_types parent mode;
  under_key = no_unit;
  live = λ r received document of_r list o i. live_is_full r document of_r received list o i;
  honest = λ r honest document of_r list o i. live_in_none r document of_r honest list o i;
}
