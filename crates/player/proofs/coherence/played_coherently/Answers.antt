use Rattle.player.proofs.Coheres.{all_coherent}
use Rattle.player.proofs.coherence.played_coherently.Goals as goal

pub returns : goal.returns
returns c = all_coherent c.coherent.ensures
