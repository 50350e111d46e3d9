use Rattle.std.proofs.Common.{Some}
use Rattle.std.proofs.lemmas.List.{replicate-append-replicate}
use Rattle.cap_words.specs.Linear.{zero_word}
use Rattle.lcm_machine.proofs.parts.Slots.zeros.Goals as goal

pub loop-i-preserved : goal.loop-i-preserved
loop-i-preserved g c =
    rw (c.in_ok-push.ensures.items, c.from_word.ensures, c.loop-i.invariant)
    (replicate-append-replicate c.loop-i._i 1 (Some (zero_word g.W.MachineWord.plain)))
