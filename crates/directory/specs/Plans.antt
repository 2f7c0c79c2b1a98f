-- What accepting a request decides, where the row and the owner were looked up.
use Rattle.std.specs.Prelude.{ℕ, cond, Some, None, Option, ◌==◌}
use Rattle.protocols.specs.declared.row.Row.{Row}
use Rattle.messages.specs.declared.request.Request.{Request}
use Rattle.machine.specs.declared.transaction.Source.{Source}
use Rattle.machine.specs.declared.transaction.Source.TheVariants.{Owner}
use Rattle.machine.specs.declared.transaction.Job.{Job}
use Rattle.machine.specs.Machines.{Machine}
use Rattle.machine.specs.Directory.{shown_way, shown_state, or_zero}
use Rattle.machine.specs.Acceptance.{upgrading, unowned_source}

abbrev pub source_with : Machine → Request → Row → Option ℕ → Source
source_with m q row None = unowned_source (upgrading m q)
source_with m q row (Some c) =
    cond (c == q.cache) (unowned_source (upgrading m q))
    (Owner c (or_zero (shown_way m c q.block)) (shown_state m c q.block) row.owner row.writeback)

abbrev pub job_with : Machine → Request → Row → Option ℕ → Job
job_with m q row o = record { access = q.access; requestor = q.cache; block = q.block; way = q.way; next = row.requestor; upgrade = upgrading m q; source = source_with m q row o }
