use Rattle.authority_report.proofs.OwnersSmall.{owner_listed}
use Rattle.authority_report.proofs.SealsOwn.{seals_own}
use Rattle.authority_report.proofs.laws.seals_are_own.Goals as goal

pub returns : goal.returns
returns c s part o linked its = seals_own s linked o (owner_listed s.owners part o its)
