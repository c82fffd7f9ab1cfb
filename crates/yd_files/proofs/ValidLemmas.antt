-- What a file stands for is valid.
use Rattle.std.proofs.Common.{ℕ, List, [], ◌∷◌, None, Some, sym, subst, arith}
use Rattle.yd_words.specs.Each.{Each}
use Rattle.yd_reading.proofs.UpdateFitLemmas.{update_read_valid}
use Rattle.yd_fields.specs.UpdatePlan.{update_plan}
use Rattle.yd_ops.specs.Valid.{IsValidUpdate}
use Rattle.yd_ops.specs.Value.{UpdateValue}
use Rattle.yd_parts.proofs.ExactLemmas.{given_read}
use Rattle.yd_parts.proofs.PartExactLemmas.{parts_exact}
use Rattle.yd_parts.proofs.PartFitLemmas.{part_fits}
use Rattle.yd_parts.specs.Part.{Unread, all_of, here}
use Rattle.yd_parts.specs.Part as part
use Rattle.yd_parts.specs.declared.fault.Column.TheVariants.{Strings, Whole}
use Rattle.yd_v1.proofs.ExactLemmas.{fields_exact as v1_fields_exact}
use Rattle.yd_v1.proofs.FitLemmas.{v1_fits}
use Rattle.yd_v1.specs.Grammar as v1_grammar
use Rattle.yd_v1.specs.Reading.{IsSoundV1, v1_at, v1_spot, v1_start}
use Rattle.yd_v2.proofs.FieldExactLemmas.{v2_fields_exact}
use Rattle.yd_v2.proofs.SoundLemmas.{v2_fits}
use Rattle.yd_v2.specs.Grammar.{BeginsV2}
use Rattle.yd_v2.specs.Grammar as v2_grammar
use Rattle.yd_v2.specs.Reading.{V2Now, most_structs, v2_at, v2_spot}
use Rattle.yd_v2.specs.Sound.{IsSoundV2}
use Rattle.yd_v1.specs.Grammar.{StandsForV1}
use Rattle.yd_v1.specs.Log.{AreEntries}
use Rattle.yd_v2.specs.Grammar.{StandsForV2}
use Rattle.yd_files.specs.Verdict.{Content, StandsIn, updates_of}
use Rattle.yd_files.specs.declared.kind.Kind.{Kind}
use Rattle.yd_files.specs.declared.kind.Kind.TheVariants.{V1, V2, Log, Vector, Script}

-- a file in V2 leads to a sound reader
begins_sound : (bytes : List ℕ) (start : V2Now) → BeginsV2 bytes start → IsSoundV2 start
begins_sound bytes start begins =
    let column = begins.columns.strings in
    let text = parts_exact.only part.text (all_of Strings column) begins.strings.text (here (all_of Strings column)) begins.joined.behind begins.joined.stands in
    subst IsSoundV2 (sym begins.start_is)
    (record {
      left = record { clients = omega arith; kinds = omega arith; lengths = omega arith; text = part_fits part.text (all_of Strings column) begins.strings.text begins.joined.behind text.0 };
      known = tt;
    })

-- what a file in V1 stands for
v1_valid : (bytes : List ℕ) (u : UpdateValue) → StandsForV1 bytes u → IsValidUpdate u
v1_valid bytes u stands =
    update_read_valid v1_at v1_spot IsSoundV1 None (v1_start bytes) u stands.0 v1_fits tt
    (given_read v1_at v1_spot v1_grammar.StandsField v1_grammar.FailsField v1_fields_exact (update_plan None) (v1_start bytes) u stands.0 stands.1)

-- in V2
v2_valid : (bytes : List ℕ) (u : UpdateValue) → StandsForV2 bytes u → IsValidUpdate u
v2_valid bytes u stands =
    update_read_valid v2_at v2_spot IsSoundV2 (Some most_structs) stands.start u stands.end v2_fits (begins_sound bytes stands.start stands.begins)
    (given_read v2_at v2_spot v2_grammar.StandsField v2_grammar.FailsField v2_fields_exact (update_plan (Some most_structs)) stands.start u stands.end stands.fields)

-- what entries of a log stand for
entries_valid : (us : List UpdateValue) (left : Unread) → AreEntries left us → Each IsValidUpdate us
entries_valid [] left entries = tt
entries_valid (u ∷ us) left entries = (v1_valid entries.1.0 u entries.1.2, entries_valid us entries.0 entries.2)

-- what a file stands for is valid, whatever its kind
pub stands_valid : (kind : Kind) (bytes : List ℕ) (content : Content) → StandsIn kind bytes content → Each IsValidUpdate (updates_of content)
stands_valid V1 bytes content stands = rw stands.1 (v1_valid bytes stands.0 stands.2, tt)
stands_valid V2 bytes content stands = rw stands.1 (v2_valid bytes stands.0 stands.2, tt)
stands_valid Log bytes content stands = rw stands.1 (entries_valid stands.0 (all_of Whole bytes) stands.2)
stands_valid Vector bytes content stands = rw stands.1 tt
stands_valid Script bytes content stands = rw stands.1 tt
