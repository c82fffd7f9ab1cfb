-- Entries are kept aside only where one of the operations says less than one that was there.
use Rattle.std.proofs.Common.{◌≡◌, ◌<◌, ◌≤◌, ◌⊎◌, true, List, [], ◌∷◌, ◌++◌, Option, Some, None, inl, inr, refl, sym, ap, ◌∙◌, subst, arith, append_assoc}
use Rattle.yd_words.specs.Member.{IsIn}
use Rattle.yd_words.proofs.MemberLemmas.{in_left_part, in_right_part, in_parts}
use Rattle.yd_ops.specs.Operation.{Operation, level_of}
use Rattle.yd_ops.specs.Pairs.{as_torn}
use Rattle.yd_ops.specs.Received.{IsWritten, lowered, with_groups}
use Rattle.yd_ops.proofs.GroupLemmas.{all_of}
use Rattle.yd_ops.proofs.LevelLemmas.{half_full, lowered-id, lowered-level}
use Rattle.yd_ops.proofs.PartnerLemmas.{IsHalf}
use Rattle.yd_ops.proofs.TurnLemmas.{groups_hold}
use Rattle.yd_entries.specs.declared.entry.Entry.{Entry}
use Rattle.yd_received.specs.Received.{LowersOne}
use Rattle.yd_received.specs.Structs.{KeepsToLower}

-- ---- where what is there came from

-- one of the operations has the id and says as much
abbrev pub HasSource : List Operation → Operation → Type 0
HasSource os q = (p : Operation) × IsIn p os × (p.id ≡ q.id) × (level_of q.content ≤ level_of p.content)

-- what is there once groups were taken in says no more than what was there before, or came with them
pub groups_sources : (groups : List (List Operation)) (taken : List Operation) → IsWritten taken → (q : Operation) → IsIn q (with_groups groups taken) → HasSource (taken ++ all_of groups) q
groups_sources groups taken w = groups_hold (HasSource (taken ++ all_of groups)) lowers tears groups taken w
    (λ o i. (o, in_right_part o taken (all_of groups) i, refl, omega arith))
    (λ o i. (o, in_left_part o taken (all_of groups) i, refl, omega arith))
  where
    lowers : (p o : Operation) → HasSource (taken ++ all_of groups) p → HasSource (taken ++ all_of groups) o → p.id ≡ o.id → HasSource (taken ++ all_of groups) (lowered p o)
    lowers p o (r, i, id, le) other same = (r, i, id ∙ sym (lowered-id p o), omega (arith, le, (lowered-level p o).1))

    tears : (o : Operation) → IsHalf o.content → HasSource (taken ++ all_of groups) o → HasSource (taken ++ all_of groups) (as_torn true o)
    tears o half (r, i, id, le) = (r, i, id, omega (arith, le, half_full o.content half))

-- ---- operations before others

-- later ones say less than what is there, which came from what was received and the earlier ones
lowers_later : (os ps received there : List Operation) → ((q : Operation) → IsIn q there → HasSource (received ++ os) q) → LowersOne ps there → LowersOne (os ++ ps) received
lowers_later os ps received there from l = go (in_parts l.more there l.earlier l.there)
  where
    by : (p : Operation) → IsIn p (received ++ (os ++ l.earlier)) → p.id ≡ l.less.id → level_of l.less.content < level_of p.content → LowersOne (os ++ ps) received
    by p i id less = record {
      earlier = os ++ l.earlier;
      later = l.later;
      less = l.less;
      more = p;
      among = ap (λ qs. os ++ qs) l.among ∙ sym (append_assoc os l.earlier (l.less ∷ l.later));
      there = i;
      same_id = id;
      says_less = less;
    }

    go : IsIn l.more there ⊎ IsIn l.more l.earlier → LowersOne (os ++ ps) received
    go (inl i) = let (p, j, id, le) = from l.more i in
        by p (subst (λ qs. IsIn p qs) (append_assoc received os l.earlier) (in_left_part p (received ++ os) l.earlier j)) (id ∙ l.same_id) (omega (arith, le, l.says_less))
    go (inr i) = by l.more (in_right_part l.more received (os ++ l.earlier) (in_right_part l.more os l.earlier i)) l.same_id l.says_less

lowers_earlier : (os ps received : List Operation) → LowersOne os received → LowersOne (os ++ ps) received
lowers_earlier os ps received l = record {
  earlier = l.earlier;
  later = l.later ++ ps;
  less = l.less;
  more = l.more;
  among = ap (λ qs. qs ++ ps) l.among ∙ append_assoc l.earlier (l.less ∷ l.later) ps;
  there = l.there;
  same_id = l.same_id;
  says_less = l.says_less;
}

-- one of them says less than a received one
pub lowers_received : (os received : List Operation) (o p : Operation) → IsIn o os → IsIn p received → p.id ≡ o.id → level_of o.content < level_of p.content → LowersOne os received
lowers_received [] received o p i j id less = absurd i
lowers_received (q ∷ os) received o p (inl e) j id less = record {
  earlier = [];
  later = os;
  less = q;
  more = p;
  among = refl;
  there = in_left_part p received [] j;
  same_id = id ∙ ap (λ (r : Operation). r.id) e;
  says_less = omega (arith, less, ap (λ (r : Operation). level_of r.content) e);
}
lowers_received (q ∷ os) received o p (inr i) j id less =
    lowers_later (q ∷ []) os received received (λ r k. (r, in_left_part r received (q ∷ []) k, refl, omega arith)) (lowers_received os received o p i j id less)

-- ---- what is kept aside

pub keeps_none : (kept : Option (List Entry)) (os received : List Operation) → KeepsToLower kept kept os received
keeps_none None os received = tt
keeps_none (Some before) os received = tt

pub keeps_more : (k l m : Option (List Entry)) (os ps received there : List Operation) → ((q : Operation) → IsIn q there → HasSource (received ++ os) q) →
    KeepsToLower k l os received → KeepsToLower l m ps there → KeepsToLower k m (os ++ ps) received
keeps_more (Some before) l m os ps received there from first next = tt
keeps_more None l None os ps received there from first next = tt
keeps_more None None (Some kept) os ps received there from first next = lowers_later os ps received there from next
keeps_more None (Some mid) (Some kept) os ps received there from first next = lowers_earlier os ps received first
