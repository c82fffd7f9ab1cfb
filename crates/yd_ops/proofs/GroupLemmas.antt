-- The operations of each struct of an update: each half has its partner, gone ones are bare, and which ids are deleted by name.
use Rattle.std.proofs.Common.{◌≡◌, ◌↔◌, ℕ, ◌+◌, List, [], ◌∷◌, ◌++◌, ◌⊎◌, inl, inr, refl, sym, ap, ◌∙◌, append_assoc}
use Rattle.yd_words.specs.Each.{Each}
use Rattle.yd_words.proofs.EachLemmas.{each_append}
use Rattle.yd_words.proofs.MemberLemmas.{in_left_part, in_right_part, in_parts}
use Rattle.yd_ids.specs.declared.id.Client.{Client}
use Rattle.yd_ids.specs.declared.id.Id.{Id}
use Rattle.yd_ids.specs.declared.id.Span.{Span}
use Rattle.yd_ids.specs.Id.{IsClient, IsClock, IsSpan}
use Rattle.yd_ids.specs.Set.{HasId, AreMaximal, with_span, union_of}
use Rattle.yd_ids.proofs.SetLemmas.{has_front, has_either}
use Rattle.yd_ids.proofs.UnionLemmas.{with_maximal, union_ids}
use Rattle.yd_ops.specs.Operation.{Operation, operations_of_struct, operations_of_structs, operations_of_blocks, operations_of}
use Rattle.yd_ops.specs.Value.{ContentValue, json, binary, string, embed, format, nested, any, deleted, len_of, clocks_of, StructValue, item, skip, gone, BlockValue, UpdateValue}
use Rattle.yd_ops.specs.Valid.{IsStructAt, AreStructsFrom, IsValidBlock, IsValidUpdate}
use Rattle.yd_ops.specs.Received.{IsWritten, groups_of_structs, groups_of_blocks, groups_of}
use Rattle.yd_ops.specs.Deletes.{content_spans, struct_spans, structs_spans, blocks_spans, deletes_of, SpellLess}
use Rattle.yd_ops.specs.ReceivedLaw.{HaveOneRight}
use Rattle.yd_ops.proofs.LevelLemmas.{AreBare}
use Rattle.yd_ops.proofs.MendingLemmas.{HasPartners}
use Rattle.yd_ops.proofs.SpellingLemmas.{content_less, gone_less, run_bare, gone_bare, gone_partners, gone_rights, gone_written}
use Rattle.yd_ops.proofs.RunLemmas.{run_partners, run_rights, run_written}

-- ---- groups

-- the operations of all groups
abbrev pub all_of : List (List Operation) → List Operation
all_of [] = []
all_of (group ∷ groups) = group ++ all_of groups

pub all_of-append : (groups others : List (List Operation)) → all_of (groups ++ others) ≡ all_of groups ++ all_of others
all_of-append [] others = refl
all_of-append (group ∷ groups) others = ap (λ os. group ++ os) (all_of-append groups others) ∙ sym (append_assoc group (all_of groups) (all_of others))

structs_groups : (client : Client) (clock : ℕ) (structs : List StructValue) → all_of (groups_of_structs client clock structs) ≡ operations_of_structs client clock structs
structs_groups client clock [] = refl
structs_groups client clock (s ∷ structs) = ap (λ os. operations_of_struct client clock s ++ os) (structs_groups client (clock + clocks_of s) structs)

blocks_groups : (blocks : List BlockValue) → all_of (groups_of_blocks blocks) ≡ operations_of_blocks blocks
blocks_groups [] = refl
blocks_groups (block ∷ blocks) = all_of-append (groups_of_structs block.client block.clock block.structs) (groups_of_blocks blocks)
    ∙ rw (structs_groups block.client block.clock block.structs, blocks_groups blocks) refl

-- ---- partners

struct_partners : (client : Client) (clock : ℕ) (s : StructValue) → IsStructAt client clock s → HasPartners (operations_of_struct client clock s)
struct_partners client clock (item run) valid = run_partners run valid.content
struct_partners client clock (skip count) valid = λ o i half. absurd i
struct_partners client clock (gone count) valid = gone_partners count (record { client = client; clock = clock })

struct_written : (client : Client) (clock : ℕ) (s : StructValue) → IsWritten (operations_of_struct client clock s)
struct_written client clock (item run) = run_written run
struct_written client clock (skip count) = tt
struct_written client clock (gone count) = gone_written count (record { client = client; clock = clock })

structs_written : (client : Client) (clock : ℕ) (structs : List StructValue) → Each IsWritten (groups_of_structs client clock structs)
structs_written client clock [] = tt
structs_written client clock (s ∷ structs) = (struct_written client clock s, structs_written client (clock + clocks_of s) structs)

blocks_written : (blocks : List BlockValue) → Each IsWritten (groups_of_blocks blocks)
blocks_written [] = tt
blocks_written (block ∷ blocks) = each_append IsWritten (groups_of_structs block.client block.clock block.structs) (groups_of_blocks blocks)
    (structs_written block.client block.clock block.structs) (blocks_written blocks)

struct_rights : (client : Client) (clock : ℕ) (s : StructValue) → HaveOneRight (operations_of_struct client clock s)
struct_rights client clock (item run) = λ high low i j e. run_rights run high low i j
struct_rights client clock (skip count) = λ high low i j e. absurd i
struct_rights client clock (gone count) = λ high low i j e. gone_rights count (record { client = client; clock = clock }) high i ∙ sym (gone_rights count (record { client = client; clock = clock }) low j)

structs_rights : (client : Client) (clock : ℕ) (structs : List StructValue) → Each HaveOneRight (groups_of_structs client clock structs)
structs_rights client clock [] = tt
structs_rights client clock (s ∷ structs) = (struct_rights client clock s, structs_rights client (clock + clocks_of s) structs)

blocks_rights : (blocks : List BlockValue) → Each HaveOneRight (groups_of_blocks blocks)
blocks_rights [] = tt
blocks_rights (block ∷ blocks) = each_append HaveOneRight (groups_of_structs block.client block.clock block.structs) (groups_of_blocks blocks)
    (structs_rights block.client block.clock block.structs) (blocks_rights blocks)

structs_partners : (client : Client) (clock : ℕ) (structs : List StructValue) → AreStructsFrom client clock structs → Each HasPartners (groups_of_structs client clock structs)
structs_partners client clock [] valid = tt
structs_partners client clock (s ∷ structs) valid = (struct_partners client clock s valid.0, structs_partners client (clock + clocks_of s) structs valid.2)

blocks_partners : (blocks : List BlockValue) → Each IsValidBlock blocks → Each HasPartners (groups_of_blocks blocks)
blocks_partners [] valid = tt
blocks_partners (block ∷ blocks) valid = each_append HasPartners (groups_of_structs block.client block.clock block.structs) (groups_of_blocks blocks)
    (structs_partners block.client block.clock block.structs valid.0.structs) (blocks_partners blocks valid.1)

-- ---- gone ones

pub bare_append : (os ps : List Operation) → AreBare os → AreBare ps → AreBare (os ++ ps)
bare_append os ps a b o i none = elim (in_parts o os ps i) [ inl j ↦ a o j none | inr j ↦ b o j none ]

struct_bare : (client : Client) (clock : ℕ) (s : StructValue) → AreBare (operations_of_struct client clock s)
struct_bare client clock (item run) = run_bare run
struct_bare client clock (skip count) = λ o i none. absurd i
struct_bare client clock (gone count) = gone_bare count (record { client = client; clock = clock })

structs_bare : (client : Client) (clock : ℕ) (structs : List StructValue) → AreBare (operations_of_structs client clock structs)
structs_bare client clock [] = λ o i none. absurd i
structs_bare client clock (s ∷ structs) = bare_append (operations_of_struct client clock s) (operations_of_structs client (clock + clocks_of s) structs)
    (struct_bare client clock s) (structs_bare client (clock + clocks_of s) structs)

blocks_bare : (blocks : List BlockValue) → AreBare (operations_of_blocks blocks)
blocks_bare [] = λ o i none. absurd i
blocks_bare (block ∷ blocks) = bare_append (operations_of_structs block.client block.clock block.structs) (operations_of_blocks blocks)
    (structs_bare block.client block.clock block.structs) (blocks_bare blocks)

-- ---- what is spelled less than full

less_append : (os ps : List Operation) (ss ts : List Span) (x : Id) → SpellLess os x ↔ HasId ss x → SpellLess ps x ↔ HasId ts x → SpellLess (os ++ ps) x ↔ HasId (ss ++ ts) x
less_append os ps ss ts x a b = (there, λ h. back (has_front ss ts x h))
  where
    there : SpellLess (os ++ ps) x → HasId (ss ++ ts) x
    there (o, i, e, low) = has_either ss ts x (elim (in_parts o os ps i) [ inl j ↦ inl (a.0 (o, j, e, low)) | inr j ↦ inr (b.0 (o, j, e, low)) ])

    back : HasId ss x ⊎ HasId ts x → SpellLess (os ++ ps) x
    back (inl h) = let (o, i, e, low) = a.1 h in (o, in_left_part o os ps i, e, low)
    back (inr h) = let (o, i, e, low) = b.1 h in (o, in_right_part o os ps i, e, low)

struct_less : (client : Client) (clock : ℕ) (s : StructValue) (x : Id) → SpellLess (operations_of_struct client clock s) x ↔ HasId (struct_spans client clock s) x
struct_less client clock (item run) x = content_less run.id run.left run.right run.list run.content x
struct_less client clock (skip count) x = ((λ less. absurd less.1), (λ h. absurd h))
struct_less client clock (gone count) x = gone_less count (record { client = client; clock = clock }) x

structs_less : (client : Client) (clock : ℕ) (structs : List StructValue) (x : Id) → SpellLess (operations_of_structs client clock structs) x ↔ HasId (structs_spans client clock structs) x
structs_less client clock [] x = ((λ less. absurd less.1), (λ h. absurd h))
structs_less client clock (s ∷ structs) x = less_append (operations_of_struct client clock s) (operations_of_structs client (clock + clocks_of s) structs)
    (struct_spans client clock s) (structs_spans client (clock + clocks_of s) structs) x (struct_less client clock s x) (structs_less client (clock + clocks_of s) structs x)

blocks_less : (blocks : List BlockValue) (x : Id) → SpellLess (operations_of_blocks blocks) x ↔ HasId (blocks_spans blocks) x
blocks_less [] x = ((λ less. absurd less.1), (λ h. absurd h))
blocks_less (block ∷ blocks) x = less_append (operations_of_structs block.client block.clock block.structs) (operations_of_blocks blocks)
    (structs_spans block.client block.clock block.structs) (blocks_spans blocks) x (structs_less block.client block.clock block.structs x) (blocks_less blocks x)

content_are_spans : (id : Id) (content : ContentValue) → IsClient id.client → IsClock (id.clock + len_of content) → Each IsSpan (content_spans id content)
content_are_spans id (deleted count) client end = (record { client = client; end = end }, tt)
content_are_spans id (json values) client end = tt
content_are_spans id (binary blob) client end = tt
content_are_spans id (string units) client end = tt
content_are_spans id (embed t) client end = tt
content_are_spans id (format key t) client end = tt
content_are_spans id (nested kind) client end = tt
content_are_spans id (any ts) client end = tt

struct_are_spans : (client : Client) (clock : ℕ) (s : StructValue) → IsClient client → IsStructAt client clock s → IsClock (clock + clocks_of s) → Each IsSpan (struct_spans client clock s)
struct_are_spans client clock (item run) is valid end = content_are_spans run.id run.content (rw valid.begins is) (rw valid.begins end)
struct_are_spans client clock (skip count) is valid end = tt
struct_are_spans client clock (gone count) is valid end = (record { client = is; end = end }, tt)

structs_are_spans : (client : Client) (clock : ℕ) (structs : List StructValue) → IsClient client → AreStructsFrom client clock structs → Each IsSpan (structs_spans client clock structs)
structs_are_spans client clock [] is valid = tt
structs_are_spans client clock (s ∷ structs) is valid = each_append IsSpan (struct_spans client clock s) (structs_spans client (clock + clocks_of s) structs)
    (struct_are_spans client clock s is valid.0 valid.1) (structs_are_spans client (clock + clocks_of s) structs is valid.2)

blocks_are_spans : (blocks : List BlockValue) → Each IsValidBlock blocks → Each IsSpan (blocks_spans blocks)
blocks_are_spans [] valid = tt
blocks_are_spans (block ∷ blocks) valid = each_append IsSpan (structs_spans block.client block.clock block.structs) (blocks_spans blocks)
    (structs_are_spans block.client block.clock block.structs valid.0.client valid.0.structs) (blocks_are_spans blocks valid.1)

-- the union with spans, which need not be maximal
spans_maximal : (spans set : List Span) → Each IsSpan spans → AreMaximal set → AreMaximal (union_of spans set)
spans_maximal [] set each maximal = maximal
spans_maximal (span ∷ spans) set each maximal = spans_maximal spans (with_span span set) each.1 (with_maximal span set each.0 maximal)

-- ---- lemmas for callers

pub update_groups : (update : UpdateValue) → all_of (groups_of update) ≡ operations_of update
update_groups update = blocks_groups update.blocks

-- the operations of each struct are in the order of writing
pub update_written : (update : UpdateValue) → Each IsWritten (groups_of update)
update_written update = blocks_written update.blocks

pub update_rights : (update : UpdateValue) → Each HaveOneRight (groups_of update)
update_rights update = blocks_rights update.blocks

-- in each struct of a valid update each half has its partner
pub update_partners : (update : UpdateValue) → IsValidUpdate update → Each HasPartners (groups_of update)
update_partners update valid = blocks_partners update.blocks valid.blocks

pub all_partners : (groups : List (List Operation)) → Each HasPartners groups → HasPartners (all_of groups)
all_partners [] each o i half = absurd i
all_partners (group ∷ groups) each o i half = elim (in_parts o group (all_of groups) i) [
  | inl j ↦ let (p, k, pair) = each.0 o j half in (p, in_left_part p group (all_of groups) k, pair)
  | inr j ↦ let (p, k, pair) = all_partners groups each.1 o j half in (p, in_right_part p group (all_of groups) k, pair)
]

pub update_bare : (update : UpdateValue) → AreBare (operations_of update)
update_bare update = blocks_bare update.blocks

-- an update deletes by name what its spans and its deletions name
pub deletes_of-spans : (update : UpdateValue) (x : Id) → HasId (deletes_of update) x ↔ (HasId (blocks_spans update.blocks) x ⊎ HasId update.deletes x)
deletes_of-spans update x = union_ids (blocks_spans update.blocks) update.deletes x

-- these are what it spells less than full
pub deletes_of-ids : (update : UpdateValue) (x : Id) → HasId (deletes_of update) x ↔ (SpellLess (operations_of update) x ⊎ HasId update.deletes x)
deletes_of-ids update x = let both = union_ids (blocks_spans update.blocks) update.deletes x in let less = blocks_less update.blocks x in (
  (λ h. elim (both.0 h) [ inl k ↦ inl (less.1 k) | inr k ↦ inr k ]),
  (λ h. elim h [ inl k ↦ both.1 (inl (less.0 k)) | inr k ↦ both.1 (inr k) ]),
)

pub deletes_of-maximal : (update : UpdateValue) → IsValidUpdate update → AreMaximal (deletes_of update)
deletes_of-maximal update valid = spans_maximal (blocks_spans update.blocks) update.deletes (blocks_are_spans update.blocks valid.blocks) valid.deletes
