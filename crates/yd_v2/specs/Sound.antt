-- Which readers files lead to: those whose values in hand are in range, and whose texts are UTF-8 (own).
use Rattle.std.specs.Prelude.{◌^◌, ◌<◌, IsUtf8}
use Rattle.yd_words.specs.Each.{Each}
use Rattle.yd_v2.specs.Left.{V2Left}
use Rattle.yd_v2.specs.Reading.{V2Now}

-- numbers in hand are below 2^53, and the text of the strings is UTF-8
pub record IsSoundLeft (left : V2Left) : Type 0 where
  pub clients : left.clients.value < 2 ^ 53
  pub kinds : left.kinds.value < 2 ^ 53
  pub lengths : left.lengths.value < 2 ^ 53
  pub text : IsUtf8 left.strings.text

-- so are the columns, and the keys that are known are UTF-8
pub record IsSoundV2 (now : V2Now) : Type 0 where
  pub left : IsSoundLeft now.left
  pub known : Each IsUtf8 now.known
