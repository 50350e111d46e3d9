use Rattle.std.proofs.Common.{rules, ◌+◌, ◌-◌, pos, length, slice_set, ap, ◌∙◌}
use Rattle.lcm_isa.specs.declared.Reg.TheVariants.{T2}
use Rattle.lcm_isa.specs.declared.Operand.TheVariants.{Imm}
use Rattle.lcm_isa.specs.declared.Instr.TheVariants.{Cca}
use Rattle.proc_templates.specs.Items.{word_of}
use Rattle.proc_compiler.specs.Drafts.{with_code}
use Rattle.proc_compiler.proofs.Aimed.{aims}
use Rattle.proc_compiler.proofs.draft.Draft.lead.Goals as goal

pub returns : goal.returns
returns c =
    let d = c.args.self.now in
    aims c.args.at (pos (length d.laid.code + c.args.beyond - c.args.at)) d c.replace.new.self
    (c.replace.ensures
    ∙ ap (λ z. with_code (slice_set d.laid.code (c.args.at + 1) (word_of (Cca T2 (Imm z)))) d)
    (search rules))
