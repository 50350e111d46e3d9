use Rattle.text_scan.proofs.Texts.{text_is_read, read_is_text}
use Rattle.text_scan.proofs.Faults.{fault_is_read, read_is_fault}
use Rattle.text_scan.proofs.laws.reading_keeps_the_grammar.Goals as goal

pub returns-clause-tokens : goal.returns-clause-tokens
returns-clause-tokens c = λ text tokens. (text_is_read text tokens, read_is_text text tokens)

pub returns-clause-fault : goal.returns-clause-fault
returns-clause-fault c = λ text fault. (fault_is_read text fault, read_is_fault text fault)
