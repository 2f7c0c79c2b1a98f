use Rattle.machine.proofs.RunsCohere.{coherence}
use Rattle.machine.proofs.coherence.coherent.Goals as goal

pub returns : goal.returns
returns c = coherence
