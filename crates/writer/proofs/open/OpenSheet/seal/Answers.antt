use Rattle.writer.specs.Pages.{open_page}
use Rattle.writer.proofs.Holding.{holds_reads}
use Rattle.writer.proofs.open.OpenSheet.seal.Goals as goal

pub returns-clause-reads : goal.returns-clause-reads
returns-clause-reads c = λ h xs held. holds_reads (open_page c.args.self) h xs held
