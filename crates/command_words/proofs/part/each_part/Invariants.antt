use Rattle.std.proofs.Common.{◌≡◌, drop, length}
use Rattle.command_words.specs.Part.{parts_in}
use Rattle.command_words.specs.Texts.{texts_of}
use Rattle.command_words.proofs.PartLemmas.{behind}
use Rattle.command_words.proofs.part.each_part.Given as goal

abbrev pub invariant-loop-word : goal.invariant-loop-word
invariant-loop-word l =
    (parts_in (texts_of l.words) ≡ behind l.parts.items (parts_in (texts_of (drop l.word-index l.words))))
    × (length l.parts.items ≡ l.word-index)
