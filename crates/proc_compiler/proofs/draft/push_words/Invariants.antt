use Rattle.std.proofs.Common.{◌≡◌, ◌++◌, map, take}
use Rattle.proc_templates.specs.Items.{word_of}
use Rattle.proc_compiler.proofs.draft.push_words.Given as goal

abbrev pub invariant-loop-instr : goal.invariant-loop-instr
invariant-loop-instr l = l.code.items ≡ l.fn.code.items ++ map word_of (take l.instr-index l.instrs)
