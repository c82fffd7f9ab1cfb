-- The ids of an update's structs are spans; what it deleted that was not noted; and an entry more on a stack.
use Rattle.std.proofs.Common.{◌≡◌, ◌↔◌, ℕ, ◌+◌, ◌-◌, ◌≤◌, not, Bool, true, false, List, [], ◌∷◌, ◌++◌, length, take, drop, refl, sym, ap, ◌∙◌, arith, true≢false}
use Rattle.yd_words.specs.Each.{Each}
use Rattle.yd_words.proofs.EachLemmas.{each_append}
use Rattle.yd_ids.specs.declared.id.Client.{Client}
use Rattle.yd_ids.specs.declared.id.Id.{Id}
use Rattle.yd_ids.specs.declared.id.Span.{Span}
use Rattle.yd_ids.specs.Id.{IsClient, IsClock, IsSpan}
use Rattle.yd_ids.specs.Set.{HasId, AreMaximal}
use Rattle.yd_ids.proofs.SetOfLemmas.{maximal_spans}
use Rattle.yd_ops.specs.Valid.{AreStructsFrom, IsValidBlock}
use Rattle.yd_ops.specs.Value.{BlockValue, StructValue, item, skip, gone, clocks_of}
use Rattle.yd_meaning.specs.Held.{is_named}
use Rattle.yd_state.proofs.NamedLemmas.{has_named, named_has}
use Rattle.yd_subsets.specs.Part.{part_that}
use Rattle.yd_subsets.proofs.PartLemmas.{part_alone}
use Rattle.yd_undo.specs.declared.entry.Entry.{Entry}
use Rattle.yd_undo.specs.Entry.{struct_ids, structs_ids, blocks_ids}
use Rattle.yd_undo.specs.Stacks.{newest}

-- ---- they are spans

struct_spans : (client : Client) (clock : ℕ) (s : StructValue) → IsClient client → IsClock (clock + clocks_of s) → Each IsSpan (struct_ids client clock s)
struct_spans client clock (item run) is end = (record { client = is; end = end }, tt)
struct_spans client clock (skip count) is end = tt
struct_spans client clock (gone count) is end = (record { client = is; end = end }, tt)

structs_spans : (client : Client) (clock : ℕ) (structs : List StructValue) → IsClient client → AreStructsFrom client clock structs → Each IsSpan (structs_ids client clock structs)
structs_spans client clock [] is valid = tt
structs_spans client clock (s ∷ structs) is valid = each_append IsSpan (struct_ids client clock s) (structs_ids client (clock + clocks_of s) structs)
    (struct_spans client clock s is valid.1) (structs_spans client (clock + clocks_of s) structs is valid.2)

pub blocks_spans : (blocks : List BlockValue) → Each IsValidBlock blocks → Each IsSpan (blocks_ids blocks)
blocks_spans [] valid = tt
blocks_spans (block ∷ blocks) valid = each_append IsSpan (structs_ids block.client block.clock block.structs) (blocks_ids blocks)
    (structs_spans block.client block.clock block.structs valid.0.client valid.0.structs) (blocks_spans blocks valid.1)

-- ---- what was not noted

pub not_noted : (deletes noted part : List Span) → AreMaximal deletes → AreMaximal part → ((x : Id) → HasId part x ↔ (HasId deletes x × (HasId noted x → ⊥))) →
    part ≡ part_that (λ x. not (is_named noted x)) deletes
not_noted deletes noted part maximal is ids = part_alone (λ x. not (is_named noted x)) deletes part (maximal_spans deletes maximal) is
    (λ x. ((λ h. let (a, b) = (ids x).0 h in (a, none x b)), (λ h. (ids x).1 (h.0, there x h.1))))
  where
    none : (x : Id) → (HasId noted x → ⊥) → not (is_named noted x) ≡ true
    none x b = go (is_named noted x) refl
      where
        go : (t : Bool) → is_named noted x ≡ t → not t ≡ true
        go true e = absurd (b (named_has noted x e))
        go false e = refl

    there : (x : Id) → not (is_named noted x) ≡ true → HasId noted x → ⊥
    there x e h = true≢false (sym (sym (ap not (has_named noted x h)) ∙ e))

-- ---- a stack with one entry more

pub newest_all : (depth : ℕ) (entries : List Entry) → length entries ≤ depth → entries ≡ newest depth entries
newest_all depth entries le = let none : length entries - depth ≡ 0 = omega (arith, le) in ap (λ n. drop n entries) (sym none)

pub newest_less : (depth : ℕ) (entries new : List Entry) → length entries ≡ depth + 1 → new ≡ take 0 entries ++ drop (0 + 1) entries → new ≡ newest depth entries
newest_less depth entries new e is = let one : 0 + 1 ≡ length entries - depth = omega (arith, e) in is ∙ ap (λ n. drop n entries) one
