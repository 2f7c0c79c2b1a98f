use Rattle.writer.proofs.RoundTrips.{writes_back_holds}
use Rattle.writer.proofs.laws.writes_back.Goals as goal

pub returns : goal.returns
returns c = writes_back_holds
