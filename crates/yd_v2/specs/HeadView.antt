-- What stands for the head that was read.
use Rattle.yd_v2.specs.Reading.{Columns}
use Rattle.yd_v2.specs.declared.head.Head.{Head}

-- the bytes of its columns
abbrev pub columns_of : Head → Columns
columns_of head = record {
  keys = head.keys.now;
  clients = head.clients.now;
  lefts = head.lefts.now;
  rights = head.rights.now;
  infos = head.infos.now;
  strings = head.strings.now;
  parents = head.parents.now;
  kinds = head.kinds.now;
  lengths = head.lengths.now;
}
