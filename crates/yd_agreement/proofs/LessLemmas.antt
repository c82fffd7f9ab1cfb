-- The ids that an update spells less than full, as spans.
use Rattle.std.proofs.Common.{◌≡◌, ◌↔◌, ℕ, ◌+◌, ◌<◌, ◌≤◌, List, [], ◌∷◌, ◌++◌, inl, inr, map, drop, length, get_or, sym, ap, ◌∙◌, subst, append_assoc, append-nil}
use Rattle.std.proofs.lemmas.List.{drop_all, drop_more}
use Rattle.yd_words.specs.Each.{Each}
use Rattle.yd_words.proofs.EachLemmas.{each_append}
use Rattle.yd_ids.specs.declared.id.Client.{Client}
use Rattle.yd_ids.specs.declared.id.Id.{Id}
use Rattle.yd_ids.specs.declared.id.Span.{Span}
use Rattle.yd_ids.specs.Id.{IsClient, IsClock, IsSpan}
use Rattle.yd_ids.specs.Set.{HasId, HaveSameIds}
use Rattle.yd_ops.specs.Operation.{operations_of}
use Rattle.yd_ops.specs.Valid.{AreStructsFrom, IsStructAt, IsValidBlock, IsValidUpdate}
use Rattle.yd_ops.specs.Value.{BlockValue, ContentValue, StructValue, UpdateValue, any, binary, clocks_of, deleted, embed, format, gone, item, json, len_of, nested, skip, string}
use Rattle.yd_ops.specs.View.{block_value}
use Rattle.yd_ops.specs.declared.updates.Block.{Block}
use Rattle.yd_ops.specs.Deletes.{SpellLess, blocks_spans, content_spans, struct_spans, structs_spans}
use Rattle.yd_ops.proofs.GroupLemmas.{deletes_of-ids, deletes_of-spans}

-- ---- they are spans

content_are_spans : (id : Id) (content : ContentValue) → IsClient id.client → IsClock (id.clock + len_of content) → Each IsSpan (content_spans id content)
content_are_spans id (deleted count) client end = (record { client = client; end = end }, tt)
content_are_spans id (json values) client end = tt
content_are_spans id (binary blob) client end = tt
content_are_spans id (string units) client end = tt
content_are_spans id (embed t) client end = tt
content_are_spans id (format key t) client end = tt
content_are_spans id (nested kind) client end = tt
content_are_spans id (any ts) client end = tt

struct_are_spans : (client : Client) (clock : ℕ) (s : StructValue) → IsClient client → IsStructAt client clock s → IsClock (clock + clocks_of s) →
    Each IsSpan (struct_spans client clock s)
struct_are_spans client clock (item run) is valid end = content_are_spans run.id run.content (rw valid.begins is) (rw valid.begins end)
struct_are_spans client clock (skip count) is valid end = tt
struct_are_spans client clock (gone count) is valid end = (record { client = is; end = end }, tt)

structs_are_spans : (client : Client) (clock : ℕ) (structs : List StructValue) → IsClient client → AreStructsFrom client clock structs →
    Each IsSpan (structs_spans client clock structs)
structs_are_spans client clock [] is valid = tt
structs_are_spans client clock (s ∷ structs) is valid = each_append IsSpan (struct_spans client clock s) (structs_spans client (clock + clocks_of s) structs)
    (struct_are_spans client clock s is valid.0 valid.1) (structs_are_spans client (clock + clocks_of s) structs is valid.2)

blocks_are_spans : (blocks : List BlockValue) → Each IsValidBlock blocks → Each IsSpan (blocks_spans blocks)
blocks_are_spans [] valid = tt
blocks_are_spans (block ∷ blocks) valid = each_append IsSpan (structs_spans block.client block.clock block.structs) (blocks_spans blocks)
    (structs_are_spans block.client block.clock block.structs valid.0.client valid.0.structs) (blocks_are_spans blocks valid.1)

-- an update that deletes nothing besides
abbrev bare : UpdateValue → UpdateValue
bare update = record { blocks = update.blocks; deletes = [] }

-- ---- lemmas for callers

-- one more is noted
pub note_next : {X : Type 0} (f : List X → List Span) (front : X → List Span) (xs : List X) (i : ℕ) (x : X) (old new : List Span) →
    ((rest : List X) → f (x ∷ rest) ≡ front x ++ f rest) → i < length xs → x ≡ get_or xs i x → new ≡ old ++ front x → new ++ f (drop (i + 1) xs) ≡ old ++ f (drop i xs)
note_next {X} f front xs i x old new says lt at e = ap (λ ss. ss ++ f (drop (i + 1) xs)) e ∙ append_assoc old (front x) (f (drop (i + 1) xs))
    ∙ ap (λ ss. old ++ ss) (sym (says (drop (i + 1) xs)))
    ∙ ap (λ us. old ++ f us) (sym (drop_more xs i x lt ∙ ap (λ (u : X). u ∷ drop (i + 1) xs) (sym at)))

-- at the end no block is left
pub all_noted : (blocks : List Block) (i : ℕ) (spans : List Span) → length blocks ≤ i →
    spans ++ blocks_spans (map block_value (drop i blocks)) ≡ blocks_spans (map block_value blocks) → spans ≡ blocks_spans (map block_value blocks)
all_noted blocks i spans le e = sym (append-nil spans) ∙ ap (λ bs. spans ++ blocks_spans (map block_value bs)) (sym (drop_all i blocks le)) ∙ e

pub noted_are_spans : (update : UpdateValue) (spans : List Span) → IsValidUpdate update → spans ≡ blocks_spans update.blocks → Each IsSpan spans
noted_are_spans update spans valid e = subst (Each IsSpan) (sym e) (blocks_are_spans update.blocks valid.blocks)

-- a set of the same ids has those that are spelled less than full
pub less_is : (update : UpdateValue) (spans set : List Span) → spans ≡ blocks_spans update.blocks → HaveSameIds set spans → (x : Id) →
    SpellLess (operations_of update) x ↔ HasId set x
less_is update spans set e same x = (
  (λ less. (same x).1 (subst (λ ss. HasId ss x) (sym e) (elim ((deletes_of-spans (bare update) x).0 ((deletes_of-ids (bare update) x).1
      (inl less))) [ inl h ↦ h | inr h ↦ absurd h ]))),
  (λ h. elim ((deletes_of-ids (bare update) x).0 ((deletes_of-spans (bare update) x).1 (inl (subst (λ ss. HasId ss x) e ((same x).0 h))))) [ inl less ↦ less | inr k ↦ absurd k ]),
)
