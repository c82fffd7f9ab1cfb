-- What actions order, one behind another.
use Rattle.std.proofs.Common.{◌≡◌, ℕ, false, List, [], ◌∷◌, ◌++◌, length, refl, sym, ap, ◌∙◌, subst, append_assoc, nat_eq, true≢false}
use Rattle.yd_sync.specs.declared.entry.AwareEntry.{AwareEntry}
use Rattle.yd_sync.specs.Message.{aware}
use Rattle.yd_sync.specs.declared.message.Message.TheVariants.{Aware}
use Rattle.yd_hub.specs.declared.action.Action.{Action}
use Rattle.yd_hub.specs.declared.action.Action.TheVariants.{Send}
use Rattle.yd_hub.specs.Actions.{ActionValue, entries_to, to_each}
use Rattle.yd_hub.specs.Orders.{orders_in, orders_of}

pub orders_append : (xs ys : List Action) → orders_of (xs ++ ys) ≡ orders_of xs ++ orders_of ys
orders_append [] ys = refl
orders_append (x ∷ xs) ys = ap (λ zs. orders_in x ++ zs) (orders_append xs ys) ∙ sym (append_assoc (orders_in x) (orders_of xs) (orders_of ys))

-- one action more
pub orders_with : (xs : List Action) (x : Action) → orders_of (xs ++ x ∷ []) ≡ orders_of xs ++ orders_in x
orders_with xs x = orders_append xs (x ∷ []) ∙ ap (λ zs. orders_of xs ++ zs) (append_none (orders_in x))
  where
    append_none : (zs : List ActionValue) → zs ++ [] ≡ zs
    append_none [] = refl
    append_none (z ∷ zs) = ap (λ ys. z ∷ ys) (append_none zs)

-- entries that are there go to each session
pub entries_go : (es : List AwareEntry) (to : List ℕ) → nat_eq (length es) 0 ≡ false → entries_to es to ≡ to_each (aware es) to
entries_go [] to some = absurd (true≢false some)
entries_go (e ∷ es) to some = refl

pub entries_ordered : (old new : List Action) (es lent : List AwareEntry) (to : List ℕ) → new ≡ old ++ Send to (Aware es) ∷ [] → lent ≡ es → false ≡ nat_eq (length lent) 0 →
    orders_of new ≡ orders_of old ++ entries_to es to
entries_ordered old new es lent to e f g = ap orders_of e ∙ orders_with old (Send to (Aware es))
    ∙ ap (λ zs. orders_of old ++ zs) (sym (entries_go es to (subst (λ l. nat_eq (length l) 0 ≡ false) f (sym g))))
