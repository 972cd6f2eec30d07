use Rattle.table_end.specs.Lawful.{told_lawful}
use Rattle.table_end.proofs.RawTable.proof.Goals as goal

pub returns-clause-lawful : goal.returns-clause-lawful
returns-clause-lawful c = told_lawful c.args.self.bytes.now c.requires
