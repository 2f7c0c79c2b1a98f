use Rattle.machine.proofs.Worked.{worked}
use Rattle.machine.proofs.examples.examples_hold.Goals as goal

pub returns : goal.returns
returns c = worked
