use Rattle.std.proofs.Common.{rules, ◌++◌, ◌∙◌, List, map, ap, sym}
use Rattle.yd_files.specs.Files.{File}
use Rattle.yd_files.specs.Seen.{file_of as seen}
use Rattle.yd_asking.specs.Command.{command_of as command_seen, words_of}
use Rattle.yd_asking.proofs.RequestLemmas.{asking_stopped}
use Rattle.yd_asking.proofs.TableLemmas.{command_found, range_found}
use Rattle.yd_asking.proofs.WordLemmas.{no_command, no_files, unwanted}
use Rattle.yd_asking.proofs.request.request_of.Goals as goal

pub returns-clause-found : goal.returns-clause-found
returns-clause-found c =
    let command = command_seen c.in-Some.command in
    let named = map seen c.in_ok-named.named.items in
    record {
      named = named;
      words_are = command_found c.args.words.now command c.in-Some.names.now c.in-Some.ensures.found ∙ ap (words_of command) c.in_ok-named.ensures.found.0;
      in_range = range_found c.args.words.now command c.in-Some.names.now c.in-Some.ensures.found;
      are_wanted = search rules;
      are_named = c.in_ok-named.ensures.found.1;
      files_are = c.in_ok-files.ensures ∙ ap (λ (fs : List File). fs ++ named) (sym c.own_file.ensures);
    }

pub returns-in_default-clause-stops : goal.returns-in_default-clause-stops
returns-in_default-clause-stops c = no_command c.args.words.now c.in_default.ensures.none

pub returns-in_err-named-clause-stops : goal.returns-in_err-named-clause-stops
returns-in_err-named-clause-stops c =
    let command = command_seen c.in-Some.command in
    asking_stopped c.args.words.now c.in-Some.names.now c.from_residual.result c.in_err-named.field-0.0 c.from_residual.ensures
    (no_files c.args.words.now command c.in-Some.names.now (range_found c.args.words.now command c.in-Some.names.now c.in-Some.ensures.found) (command_found c.args.words.now command c.in-Some.names.now c.in-Some.ensures.found))
    c.in_err-named.ensures.stops

pub returns-then-not-are_wanted-clause-stops : goal.returns-then-not-are_wanted-clause-stops
returns-then-not-are_wanted-clause-stops c =
    let command = command_seen c.in-Some.command in
    let files = map seen c.in_ok-named.named.items in
    let range = range_found c.args.words.now command c.in-Some.names.now c.in-Some.ensures.found in
    let is = command_found c.args.words.now command c.in-Some.names.now c.in-Some.ensures.found ∙ ap (words_of command) c.in_ok-named.ensures.found.0 in
    unwanted c.args.words.now command files range is c.in_ok-named.ensures.found.1 (search rules)
