-- Readers of bytes that take just what a spelling has.
use Rattle.std.proofs.Common.{ℕ, ◌<◌, List, get_or}
use Rattle.readers.specs.Readers.{Reader}
use Rattle.readers.proofs.Offers.{Took as TookOf, Reads as ReadsOf}
use Rattle.cap_words.specs.Reading.{Input}

abbrev pub IsBytes : List ℕ → Type 0
IsBytes bytes = (i : ℕ) → get_or bytes i 0 < 256

abbrev pub Took : Input → List ℕ → Input → Type 0
Took i text j = TookOf IsBytes i text j

abbrev pub Reads : {F A : Type 0} → (ℕ → F) → (A → Type 0) → (A → Type 0) → (A → List ℕ) → Reader Input F A
    → Type 0
Reads short K P text r = ReadsOf IsBytes short K P text r
