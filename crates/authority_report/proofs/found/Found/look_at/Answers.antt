use Rattle.std.proofs.Common.{◌≡◌, false, Option, Some, None, refl, arith}
use Rattle.std.specs.Prelude.{is_some}
use Rattle.authority_report.proofs.FoundLemmas.{look_none, look_one}
use Rattle.authority_report.proofs.found.Found.look_at.Goals as goal

missing : {A : Type 0} (o : Option A) → false ≡ is_some o → o ≡ None
missing None e = refl
missing (Some x) e = absurd cc

pub returns-then-not-has_cell : goal.returns-then-not-has_cell
returns-then-not-has_cell c = record {
  closed = λ end low h. look_none c.args.state.now.maps c.args.owner.now c.args.self.now c.args.at end low h
      (missing _ c.if-not-has_cell.ensures.is);
  fewer = omega arith;
}

pub returns-clause-closed : goal.returns-clause-closed
returns-clause-closed c end low h =
    look_one c.args.state.now.maps c.args.owner.now c.args.self.now c.args.at end low h c.add.new.self
    c.cell.result.now c.cell.ensures c.in_ok-add.ensures

pub returns-clause-fewer : goal.returns-clause-fewer
returns-clause-fewer c = c.in_ok-add.ensures.read.fewer
