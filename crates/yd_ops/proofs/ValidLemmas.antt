-- What valid contents, structs and blocks have.
use Rattle.std.proofs.Common.{◌≡◌, ℕ, suc, ◌+◌, length, ap, List, [], ◌∷◌, refl}
use Rattle.std.specs.Prelude.{IsTrue}
use Rattle.std.proofs.lemmas.Bool.{and_from}
use Rattle.yd_words.specs.Each.{Each}
use Rattle.yd_words.proofs.EachLemmas.{each_weaker}
use Rattle.yd_any.specs.Tree.{AnyTrees, no_trees, tree}
use Rattle.yd_any.specs.AnyView.{items_trees}
use Rattle.yd_any.specs.declared.any_value.Any.{Any}
use Rattle.yd_any.specs.Valid.{is_valid_any, are_valid_any}
use Rattle.yd_ids.specs.declared.id.Client.{Client}
use Rattle.yd_ops.specs.Value.{StructValue, item, skip, gone, len_of, count_of, BlockValue}
use Rattle.yd_ops.specs.Valid.{AreValidTrees, HasValidContent, HasValidContents, AreStructsFrom, IsValidBlock}

pub count_items : (vs : List Any) → count_of (items_trees vs) ≡ length vs
count_items [] = refl
count_items (v ∷ vs) = ap suc (count_items vs)

pub valid_trees : (ts : AnyTrees) → AreValidTrees ts → IsTrue (are_valid_any ts)
valid_trees no_trees v = refl
valid_trees (tree t ts) v = and_from (is_valid_any t) (are_valid_any ts) v.0 (valid_trees ts v.1)

structs_contents : (client : Client) (clock : ℕ) (ss : List StructValue) → AreStructsFrom client clock ss → Each HasValidContent ss
structs_contents client clock [] v = tt
structs_contents client clock (item run ∷ ss) v = (v.0.content, structs_contents client (clock + len_of run.content) ss v.2)
structs_contents client clock (skip count ∷ ss) v = (tt, structs_contents client (clock + count) ss v.2)
structs_contents client clock (gone count ∷ ss) v = (tt, structs_contents client (clock + count) ss v.2)

-- the runs of valid blocks have valid contents
pub blocks_contents : (blocks : List BlockValue) → Each IsValidBlock blocks → Each HasValidContents blocks
blocks_contents = each_weaker IsValidBlock HasValidContents (λ block v. structs_contents block.client block.clock block.structs v.structs)
