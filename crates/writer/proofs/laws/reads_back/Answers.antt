use Rattle.writer.proofs.RoundTrips.{reads_back}
use Rattle.writer.proofs.laws.reads_back.Goals as goal

pub returns : goal.returns
returns c = reads_back
