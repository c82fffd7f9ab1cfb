use Rattle.std.proofs.lemmas.List.{length-drop}
use Rattle.yd_world.specs.MemoryLibrary.{bytes_at}
use Rattle.yd_world.proofs.MemoryLibraryLemmas.{bytes_at-get_or, drop-bytes_at}
use Rattle.yd_world.proofs.memory_library.read_at.Goals as goal

pub split_at-requires : goal.split_at-requires
split_at-requires c = rw (c.as_slice-bytes.ensures, ← bytes_at-get_or _ _ _ c.requires.0) c.requires.1

pub returns-clause-count : goal.returns-clause-count
returns-clause-count c =
    let rest = drop-bytes_at c.args.files.now c.args.place.file c.args.place.at _ _ _ c.requires.0 c.as_slice-bytes.ensures c.split_at.ensures.back in
    rw (← length-drop c.args.place.at (bytes_at c.args.files.now c.args.place.file), ← rest) c.copy_front.ensures.count

pub returns-clause-bytes : goal.returns-clause-bytes
returns-clause-bytes c =
    let rest = drop-bytes_at c.args.files.now c.args.place.file c.args.place.at _ _ _ c.requires.0 c.as_slice-bytes.ensures c.split_at.ensures.back in
    rw (← rest) c.copy_front.ensures.bytes
