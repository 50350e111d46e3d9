use Rattle.std.proofs.Common.{◌≡◌, rules, None}
use Rattle.lcm_isa.specs.Numbers.{decode_of}
use Rattle.lcm_isa.proofs.NumberLemmas.{decoded_none}
use Rattle.lcm_isa.proofs.decode.Goals as goal

pub returns-then-n-lt2251799813685248-clause-none : goal.returns-then-n-lt2251799813685248-clause-none
unfolding decode_of
returns-then-n-lt2251799813685248-clause-none c =
    let same : c.instr_of.result ≡ decode_of c.args.word = search rules in
    decoded_none c.args.word c.instr_of.result same

pub returns-else-n-lt2251799813685248-clause-none : goal.returns-else-n-lt2251799813685248-clause-none
unfolding decode_of
returns-else-n-lt2251799813685248-clause-none c =
    let same : None ≡ decode_of c.args.word = search rules in
    decoded_none c.args.word None same
