use Rattle.std.proofs.Common.{◌≡◌, ◌+◌, ◌≤◌, ◌++◌, length}
use Rattle.machine.specs.Acceptance.{dismiss}
use Rattle.directory.specs.Alone.{alone}
use Rattle.directory.proofs.state.Directory.dismiss.Given as goal

abbrev pub invariant-loop-cache : goal.invariant-loop-cache
invariant-loop-cache l =
    (length l.batch.items ≤ 1 + l.cache)
    × (l.batch.items ≡ l.initial.batch.items ++ dismiss (alone l.self) l.request.cache l.request.block l.cache)
