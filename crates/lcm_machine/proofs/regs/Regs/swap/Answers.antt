use Rattle.std.proofs.Common.{◌≡◌, ◌<◌, length, arith}
use Rattle.std.specs.Prelude.{slice_set}
use Rattle.cap_words.specs.Linear.{zero_word}
use Rattle.lcm_isa.specs.Numbers.{reg_number}
use Rattle.lcm_machine.specs.Maps.{regs_of}
use Rattle.lcm_machine.specs.Places.{set_reg}
use Rattle.lcm_machine.proofs.RegLists.{set_listed}
use Rattle.lcm_machine.proofs.regs.Regs.swap.Goals as goal

pub returns-clause-now : goal.returns-clause-now
returns-clause-now g c =
    let zero = zero_word g.W.MachineWord.plain in
    let words = c.self.inside.words in
    let is : c.swap_at.new.slots ≡ slice_set words (reg_number c.args.r) c.args.word =
    rw (← c.number.ensures.value) c.swap_at.ensures.now in
    let all : length words ≡ 16 = c.self.invariant in
    let there : reg_number c.args.r < length words =
    omega (arith, all, c.number.ensures.value, c.number.ensures.below) in
    let set : regs_of zero c.swap_at.new.slots ≡ set_reg (regs_of zero words) c.args.r c.args.word =
    rw is (set_listed zero words c.args.r c.args.word there) in
    rw (← c.self.view_is) set
