-- Small updates, and their merges, cuts and vectors (the updates are Yjs's; the rows are own).
use Rattle.std.specs.Prelude.{◌≡◌, ℕ, List, [], ◌∷◌, Some, None}
use Rattle.yd_ids.specs.Vector.{clock_of}
use Rattle.yd_ids.specs.declared.id.Span.{Span}
use Rattle.yd_ops.specs.Value.{BlockValue, StructValue, UpdateValue, deleted, gone, item, skip, string}
use Rattle.yd_meaning.specs.Collected.{abc_deleted, abc_put, span_of, unit_id}
use Rattle.yd_meaning.specs.Example.{first_update, in_root}
use Rattle.yd_grouping.specs.Disagreement.{disagreement_of}
use Rattle.yd_grouping.specs.Merged.{cut_update, merge_of}
use Rattle.yd_grouping.specs.Reach.{reach_of}

-- a vector of one client
abbrev pub vector_at : ℕ → ℕ → ℕ → ℕ
vector_at client clock = clock_of ((record { 0 = client }, clock) ∷ [])

-- an update of one block of client 1
abbrev pub one_block : ℕ → List StructValue → List Span → UpdateValue
one_block clock structs deletes = record { blocks = record { client = record { 0 = 1 }; clock = clock; structs = structs } ∷ []; deletes = deletes }

-- ---- a pair that a vector would part

-- client 1 put one character of two units
abbrev pub pair_put : UpdateValue
pair_put = first_update 1 None (Some in_root) (string (0xD83D ∷ 0xDE00 ∷ []))

-- and the two units as deleted ones, which are no pair any more
abbrev pub pair_deleted : UpdateValue
pair_deleted = one_block 0 (item (record { id = unit_id 1 0; left = None; right = None; list = Some in_root; content = deleted 2 }) ∷ []) (span_of 1 0 2 ∷ [])

-- the cut between its units moves one unit back, and behind it nothing is left; deleted units are cut where the vector says
pub record CutInPair : Type 0 where
  pub inside : cut_update pair_put (vector_at 1 1) ≡ pair_put
  pub behind : cut_update pair_put (vector_at 1 2) ≡ record { blocks = []; deletes = [] }
  pub deleted_pair : cut_update pair_deleted (vector_at 1 1)
      ≡ one_block 1 (item (record { id = unit_id 1 1; left = Some (unit_id 1 0); right = None; list = None; content = deleted 1 }) ∷ []) (span_of 1 0 2 ∷ [])

-- ---- two clients

-- client 1 put "a", and client 2 put "b"
abbrev pub a_put : UpdateValue
a_put = first_update 1 None (Some in_root) (string (97 ∷ []))

abbrev pub b_put : UpdateValue
b_put = first_update 2 None (Some in_root) (string (98 ∷ []))

-- a block of one text that a client put in the root
abbrev pub text_block : ℕ → List ℕ → BlockValue
text_block client units = record {
  client = record { 0 = client };
  clock = 0;
  structs = item (record { id = unit_id client 0; left = None; right = None; list = Some in_root; content = string units }) ∷ [];
}

-- the merge has the greater client first, in both orders, and its vector has both clients
pub record TwoClients : Type 0 where
  pub merged : merge_of (a_put ∷ b_put ∷ []) ≡ record { blocks = text_block 2 (98 ∷ []) ∷ text_block 1 (97 ∷ []) ∷ []; deletes = [] }
  pub other_order : merge_of (b_put ∷ a_put ∷ []) ≡ merge_of (a_put ∷ b_put ∷ [])
  pub vector : reach_of (merge_of (a_put ∷ b_put ∷ [])) ≡ (record { 0 = 1 }, 1) ∷ (record { 0 = 2 }, 1) ∷ []

-- ---- a text cut in two

-- "bc", behind a first unit that is not there
abbrev pub bc_alone : UpdateValue
bc_alone = one_block 1 (item (record { id = unit_id 1 1; left = Some (unit_id 1 0); right = None; list = None; content = string (98 ∷ 99 ∷ []) }) ∷ []) []

-- the cut of "abc" has no list at its new front, but the left origin; its vector is empty; and with all of the text it is the text again
pub record TextCut : Type 0 where
  pub cut : cut_update abc_put (vector_at 1 1) ≡ bc_alone
  pub vector : reach_of bc_alone ≡ []
  pub merged : merge_of (bc_alone ∷ abc_put ∷ []) ≡ abc_put
  pub back : merge_of (first_update 1 None (Some in_root) (string (97 ∷ [])) ∷ bc_alone ∷ []) ≡ abc_put

-- ---- a gap

-- the third unit alone
abbrev pub c_alone : UpdateValue
c_alone = one_block 2 (item (record { id = unit_id 1 2; left = Some (unit_id 1 1); right = None; list = None; content = string (99 ∷ []) }) ∷ []) []

-- one skip stands for what is missing, and the vector ends before it
pub record GapSkipped : Type 0 where
  pub merged : merge_of (c_alone ∷ a_put ∷ []) ≡ one_block 0 (
      item (record { id = unit_id 1 0; left = None; right = None; list = Some in_root; content = string (97 ∷ []) })
      ∷ skip 1
      ∷ item (record { id = unit_id 1 2; left = Some (unit_id 1 1); right = None; list = None; content = string (99 ∷ []) }) ∷ []
      ) []
  pub vector : reach_of (merge_of (c_alone ∷ a_put ∷ [])) ≡ (record { 0 = 1 }, 1) ∷ []

-- ---- full, deleted and gone

-- the first unit is gone
abbrev pub first_gone : UpdateValue
first_gone = one_block 0 (gone 1 ∷ []) []

-- and the other two, each as a struct
abbrev pub others_gone : UpdateValue
others_gone = one_block 1 (gone 1 ∷ gone 1 ∷ []) []

-- a deleted text lowers the full one, in both orders; a part of it that is deleted stands in a run of its own; and gone units
-- join, under their deletions
pub record FullAndLess : Type 0 where
  pub lowered : merge_of (abc_put ∷ abc_deleted ∷ []) ≡ one_block 0 (item (record { id = unit_id 1 0; left = None; right = None; list = Some in_root; content = deleted 3 }) ∷ [])
      (span_of 1 0 3 ∷ [])
  pub other_order : merge_of (abc_deleted ∷ abc_put ∷ []) ≡ merge_of (abc_put ∷ abc_deleted ∷ [])
  pub front_gone : merge_of (abc_deleted ∷ first_gone ∷ []) ≡ one_block 0 (
      gone 1
      ∷ item (record { id = unit_id 1 1; left = Some (unit_id 1 0); right = None; list = None; content = deleted 2 }) ∷ []
      ) (span_of 1 0 3 ∷ [])
  pub gone_join : merge_of (first_gone ∷ others_gone ∷ []) ≡ one_block 0 (gone 3 ∷ []) (span_of 1 0 3 ∷ [])

-- ---- disagreement

-- another client 1 put "z" where the first put "a"
abbrev pub z_put : UpdateValue
z_put = first_update 1 None (Some in_root) (string (122 ∷ []))

-- the first half of the pair is spelled deleted, and the second is not spelled
abbrev pub half_deleted : UpdateValue
half_deleted = one_block 0 (item (record { id = unit_id 1 0; left = None; right = None; list = Some in_root; content = deleted 1 }) ∷ []) (span_of 1 0 1 ∷ [])

-- two contents of one id disagree, and so do updates that collect a half without its partner, as a cut inside a deleted pair does;
-- a longer deleted text between two contents hides nothing; a full text and a deleted one agree
pub record WhereTheyDisagree : Type 0 where
  pub contents : disagreement_of (a_put ∷ z_put ∷ []) ≡ Some (unit_id 1 0)
  pub half : disagreement_of (pair_put ∷ half_deleted ∷ []) ≡ Some (unit_id 1 0)
  pub cut_half : disagreement_of (pair_put ∷ cut_update pair_deleted (vector_at 1 1) ∷ []) ≡ Some (unit_id 1 0)
  pub behind_deleted : disagreement_of (a_put ∷ abc_deleted ∷ z_put ∷ []) ≡ Some (unit_id 1 0)
  pub both_halves : disagreement_of (pair_put ∷ pair_deleted ∷ []) ≡ None
  pub lowered : disagreement_of (abc_put ∷ abc_deleted ∷ first_gone ∷ []) ≡ None
  pub others : disagreement_of (b_put ∷ bc_alone ∷ abc_put ∷ []) ≡ None
