-- The worked examples, each by computing what is played.
use Rattle.std.proofs.Common.{refl}
use Rattle.std.specs.Fmt.{digits}
use Rattle.memory.specs.Blocks.{written, empty_blocks}
use Rattle.sheet.specs.Format.{front}
use Rattle.sheet.specs.Readings.{reading_by, reading}
use Rattle.player.specs.Contents.{filled_by}
use Rattle.player.specs.Plays.{lines_by}
use Rattle.player.specs.Examples.{Examples}

pub worked : Examples
unfolding lines_by digits written empty_blocks front reading_by reading filled_by
worked = record {
  spelled = refl;
  sixty = refl;
  under_moesif = refl;
  under_mesi = refl;
  accepted = refl;
  written_back = refl;
  bounds = refl;
  nine_caches = refl;
  many_blocks = refl;
  last_block = refl;
  head_of_nine_caches = refl;
  head_of_many_blocks = refl;
  head_of_most_blocks = refl;
  version_two = refl;
  word_two = refl;
  upgrade_accepted = refl;
  victim_accepted = refl;
  victim_written_back = refl;
  before = refl;
}
