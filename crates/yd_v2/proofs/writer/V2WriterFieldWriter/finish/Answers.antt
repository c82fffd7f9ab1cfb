use Rattle.std.proofs.Common.{◌≡◌, ◌∙◌, ◌++◌, ℕ, List, ap, subst}
use Rattle.yd_cols.specs.Writing.{byte_column, diff_column, string_column, uint_column}
use Rattle.yd_num.specs.Writing.{shortest, shortest_blob}
use Rattle.yd_v2.proofs.PushLemmas.{Behind, then_more, then_three}
use Rattle.yd_v2.proofs.WrittenLemmas.{written_again}
use Rattle.yd_v2.specs.Writing.{FitsFile, V2Written, columns_written, file_bytes, v2_bytes}
use Rattle.yd_v2.proofs.writer.V2WriterFieldWriter.finish.Goals as goal

pub returns : goal.returns
returns c =
    let now = c.self.inside in
    let w : V2Written = record { keys = now.keys; clients = now.clients; lefts = now.lefts; rights = now.rights; infos = now.infos; strings = now.strings; parents = now.parents; kinds = now.kinds; lengths = now.lengths; rest = now.rest; known = now.known } in
    let is_self : w ≡ c.args.self = c.self.view_is in
    let names = c.in_ok-push_names.ensures in
    let items = c.in_ok-push_items.ensures in
    let counts = c.in_ok-push_counts.ensures in
    let rest = c.as_slice.result.now in
    let from_parents = shortest_blob (byte_column now.parents) ++ (shortest_blob (uint_column now.kinds) ++ (shortest_blob (uint_column now.lengths) ++ rest)) in
    let from_rights = shortest_blob (diff_column now.rights) ++ (shortest_blob (byte_column now.infos) ++ (shortest_blob (string_column now.strings) ++ from_parents)) in
    let file : Behind c.new-file.result (file_bytes (columns_written w) rest) c.into_vec.result.items =
    then_more (shortest 0) c.in_ok-push_unsigned.ensures.appended
    (then_three from_rights names (then_three from_parents items.pushed (then_three rest counts (record { is = c.into_vec.ensures ∙ c.in_ok-push_all.ensures.appended })))) in
    record {
      written = file.is ∙ ap (λ (old : List ℕ). old ++ file_bytes (columns_written w) rest) c.new-file.ensures ∙ ap (λ (bytes : List ℕ). file_bytes (columns_written w) bytes) c.as_slice.ensures ∙ ap v2_bytes is_self;
      whole = subst FitsFile is_self (record {
        columns = record {
          keys = names.first_fits;
          clients = names.second_fits;
          lefts = names.third_fits;
          rights = items.pushed.first_fits;
          infos = items.pushed.second_fits;
          strings = items.pushed.third_fits;
          parents = counts.first_fits;
          kinds = counts.second_fits;
          lengths = counts.third_fits;
        };
        text = items.fits;
        known = c.self.invariant;
      });
      read_again = written_again;
    }
