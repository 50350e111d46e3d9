-- What a source's reader tells.
use Rattle.std.proofs.Common.{◌≡◌, ℕ, List}
use Rattle.phrases.proofs.Offers as readers
use Rattle.proc_grammar.specs.declared.fault.ParseFault.TheVariants.{Expected, TooMany}
use Rattle.proc_grammar.specs.Lexemes.{Lexeme}
use Rattle.proc_grammar.specs.Grammar.{Phrase}
use Rattle.proc_grammar.specs.Reader.{Reader, tells}

expected_once : (m n : ℕ) → Expected m ≡ Expected n → m ≡ n
expected_once m n e = cc

pub many_apart : (n at : ℕ) → TooMany n ≡ Expected at → ⊥
many_apart n at e = absurd cc

pub distinct : readers.Distinct tells
distinct = record { once = expected_once; apart = many_apart }

abbrev pub Reads : {A : Type 0} → ℕ → Phrase A → Phrase A → (List Lexeme → Type 0) → Reader A → Type 0
Reads = readers.Reads tells
