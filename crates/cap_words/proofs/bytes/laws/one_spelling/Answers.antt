use Rattle.readers.proofs.Offers.{one_text}
use Rattle.cap_words.proofs.Words.{word_reads}
use Rattle.cap_words.proofs.bytes.laws.one_spelling.Goals as goal

pub returns : goal.returns
returns c = one_text word_reads
