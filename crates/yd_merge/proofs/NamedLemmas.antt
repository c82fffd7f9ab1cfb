-- Spans of ids that updates delete by name: they are spans, and have the ids that are received as deleted.
use Rattle.std.proofs.Common.{◌≡◌, ◌↔◌, ℕ, ◌+◌, ◌<◌, ◌≤◌, List, [], ◌∷◌, ◌++◌, inl, inr, map, drop, length, get_or, sym, ap, ◌∙◌, subst, append_assoc, append-nil}
use Rattle.std.proofs.lemmas.List.{drop_all, drop_more}
use Rattle.yd_words.specs.Each.{Each}
use Rattle.yd_words.proofs.EachLemmas.{each_append}
use Rattle.yd_ids.specs.declared.id.Client.{Client}
use Rattle.yd_ids.specs.declared.id.Id.{Id}
use Rattle.yd_ids.specs.declared.id.Span.{Span}
use Rattle.yd_ids.specs.Id.{IsClient, IsClock, IsSpan}
use Rattle.yd_ids.specs.Set.{AreMaximal, HasId, HaveSameIds}
use Rattle.yd_ids.proofs.SetLemmas.{has_front, has_either}
use Rattle.yd_ids.proofs.SetOfLemmas.{maximal_spans}
use Rattle.yd_ids.proofs.UnionLemmas.{sets_same}
use Rattle.yd_ops.specs.declared.updates.Update.{Update}
use Rattle.yd_ops.specs.Valid.{AreStructsFrom, IsStructAt, IsValidBlock, IsValidUpdate}
use Rattle.yd_ops.specs.Value.{BlockValue, ContentValue, StructValue, UpdateValue, any, binary, clocks_of, deleted, embed, format, gone, item, json, len_of, nested, skip, string}
use Rattle.yd_ops.specs.View.{update_value}
use Rattle.yd_ops.specs.Agreement.{DeleteId}
use Rattle.yd_ops.specs.Deletes.{blocks_spans, content_spans, deletes_of, struct_spans, structs_spans}
use Rattle.yd_ops.specs.Received.{received_set}
use Rattle.yd_ops.proofs.AgreementLemmas.{received_deletes, received_maximal}
use Rattle.yd_ops.proofs.GroupLemmas.{deletes_of-spans}
use Rattle.yd_merge.specs.Named.{all_named, named_spans}

-- ---- they are spans

content_are_spans : (id : Id) (content : ContentValue) → IsClient id.client → IsClock (id.clock + len_of content) → Each IsSpan (content_spans id content)
content_are_spans id (deleted count) client end = (record { client = client; end = end }, tt)
content_are_spans id (json values) client end = tt
content_are_spans id (binary blob) client end = tt
content_are_spans id (string units) client end = tt
content_are_spans id (embed t) client end = tt
content_are_spans id (format key t) client end = tt
content_are_spans id (nested kind) client end = tt
content_are_spans id (any ts) client end = tt

struct_are_spans : (client : Client) (clock : ℕ) (s : StructValue) → IsClient client → IsStructAt client clock s → IsClock (clock + clocks_of s) → Each IsSpan (struct_spans client clock s)
struct_are_spans client clock (item run) is valid end = content_are_spans run.id run.content (rw valid.begins is) (rw valid.begins end)
struct_are_spans client clock (skip count) is valid end = tt
struct_are_spans client clock (gone count) is valid end = (record { client = is; end = end }, tt)

structs_are_spans : (client : Client) (clock : ℕ) (structs : List StructValue) → IsClient client → AreStructsFrom client clock structs → Each IsSpan (structs_spans client clock structs)
structs_are_spans client clock [] is valid = tt
structs_are_spans client clock (s ∷ structs) is valid = each_append IsSpan (struct_spans client clock s) (structs_spans client (clock + clocks_of s) structs)
    (struct_are_spans client clock s is valid.0 valid.1) (structs_are_spans client (clock + clocks_of s) structs is valid.2)

blocks_are_spans : (blocks : List BlockValue) → Each IsValidBlock blocks → Each IsSpan (blocks_spans blocks)
blocks_are_spans [] valid = tt
blocks_are_spans (block ∷ blocks) valid = each_append IsSpan (structs_spans block.client block.clock block.structs) (blocks_spans blocks)
    (structs_are_spans block.client block.clock block.structs valid.0.client valid.0.structs) (blocks_are_spans blocks valid.1)

all_are_spans : (updates : List UpdateValue) → Each IsValidUpdate updates → Each IsSpan (all_named updates)
all_are_spans [] valid = tt
all_are_spans (update ∷ updates) valid = each_append IsSpan (named_spans update) (all_named updates)
    (each_append IsSpan (blocks_spans update.blocks) update.deletes (blocks_are_spans update.blocks valid.0.blocks) (maximal_spans update.deletes valid.0.deletes))
    (all_are_spans updates valid.1)

-- ---- their ids

named_ids : (update : UpdateValue) (x : Id) → HasId (named_spans update) x ↔ HasId (deletes_of update) x
named_ids update x = (
  (λ h. (deletes_of-spans update x).1 (has_front (blocks_spans update.blocks) update.deletes x h)),
  (λ h. has_either (blocks_spans update.blocks) update.deletes x ((deletes_of-spans update x).0 h)),
)

all_ids : (updates : List UpdateValue) (x : Id) → HasId (all_named updates) x ↔ DeleteId updates x
all_ids [] x = ((λ h. h), (λ h. h))
all_ids (update ∷ updates) x = (
  (λ h. elim (has_front (named_spans update) (all_named updates) x h) [
    | inl k ↦ inl ((named_ids update x).0 k)
    | inr k ↦ inr ((all_ids updates x).0 k)
  ]),
  (λ h. has_either (named_spans update) (all_named updates) x (elim h [
    | inl k ↦ inl ((named_ids update x).1 k)
    | inr k ↦ inr ((all_ids updates x).1 k)
  ])),
)

-- ---- lemmas for callers

pub named_are_spans : (updates : List UpdateValue) (spans : List Span) → Each IsValidUpdate updates → spans ≡ all_named updates → Each IsSpan spans
named_are_spans updates spans valid e = subst (Each IsSpan) (sym e) (all_are_spans updates valid)

-- the set of all of them is what is received as deleted
pub named_received : (updates : List UpdateValue) (spans set : List Span) → Each IsValidUpdate updates → spans ≡ all_named updates → AreMaximal set → HaveSameIds set spans →
    set ≡ (received_set updates).deletes
named_received updates spans set valid e maximal same = sets_same set (received_set updates).deletes maximal (received_maximal updates valid) (λ x. (
  (λ h. (received_deletes updates x).1 ((all_ids updates x).0 (subst (λ ss. HasId ss x) e ((same x).0 h)))),
  (λ h. (same x).1 (subst (λ ss. HasId ss x) (sym e) ((all_ids updates x).1 ((received_deletes updates x).0 h)))),
))

-- one more is noted: an update, a block, a struct, a span
pub note_next : {X : Type 0} (f : List X → List Span) (front : X → List Span) (xs : List X) (i : ℕ) (x : X) (old new : List Span) →
    ((rest : List X) → f (x ∷ rest) ≡ front x ++ f rest) → i < length xs → x ≡ get_or xs i x → new ≡ old ++ front x → new ++ f (drop (i + 1) xs) ≡ old ++ f (drop i xs)
note_next {X} f front xs i x old new says lt at e = ap (λ ss. ss ++ f (drop (i + 1) xs)) e ∙ append_assoc old (front x) (f (drop (i + 1) xs))
    ∙ ap (λ ss. old ++ ss) (sym (says (drop (i + 1) xs)))
    ∙ ap (λ us. old ++ f us) (sym (drop_more xs i x lt ∙ ap (λ (u : X). u ∷ drop (i + 1) xs) (sym at)))

-- at the end no update is left
pub all_noted : (updates : List Update) (i : ℕ) (spans : List Span) → length updates ≤ i →
    spans ++ all_named (map update_value (drop i updates)) ≡ all_named (map update_value updates) → spans ≡ all_named (map update_value updates)
all_noted updates i spans le e = sym (append-nil spans) ∙ ap (λ us. spans ++ all_named (map update_value us)) (sym (drop_all i updates le)) ∙ e

-- what one update names alone
pub one_noted : (update : UpdateValue) (old new : List Span) → old ≡ [] → new ≡ old ++ named_spans update → new ≡ all_named (update ∷ [])
one_noted update old new none e = e ∙ ap (λ ss. ss ++ named_spans update) none ∙ sym (append-nil (named_spans update))
