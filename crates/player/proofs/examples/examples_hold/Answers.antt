use Rattle.player.proofs.Worked.{worked}
use Rattle.player.proofs.examples.examples_hold.Goals as goal

pub returns : goal.returns
returns c = worked
