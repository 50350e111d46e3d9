use Rattle.std.proofs.Common.{◌≡◌, ◌++◌, map, take}
use Rattle.proc_templates.specs.Compiled.{int_word}
use Rattle.proc_compiler.proofs.lists.push_integers.Given as goal

abbrev pub invariant-loop-number : goal.invariant-loop-number
invariant-loop-number l = l.words.items ≡ l.fn.words.items ++ map int_word (take l.number-index l.numbers)
