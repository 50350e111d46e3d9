use Rattle.std.proofs.Common.{◌≤◌, length, sym, subst}
use Rattle.lcm_isa.proofs.TextLemmas.{mnemonic_short}
use Rattle.lcm_isa.proofs.Instr.mnemonic.Goals as goal

pub returns-clause-short : goal.returns-clause-short
returns-clause-short c = subst (λ t. length t ≤ 8) (sym c.first_word.ensures) (mnemonic_short c.args.self.now)
