use Rattle.std.proofs.Common.{◌≡◌, ◌++◌, pos, replicate}
use Rattle.cap_words.specs.declared.Word.TheVariants.{Int}
use Rattle.proc_compiler.proofs.lists.push_zeros.Given as goal

abbrev pub invariant-loop : goal.invariant-loop
invariant-loop l = l.words.items ≡ l.fn.words.items ++ replicate l.counter (Int (pos 0))
