-- What becomes of the tokens of modules that were accepted.
use Rattle.std.specs.Prelude.{◌≡◌, ℕ, ◌+◌, ◌≤◌, ◌⊎◌, false, List, [], map, All, Contains}
use Rattle.source_events.specs.declared.Item.{Item}
use Rattle.source_events.specs.declared.Told.{Told}
use Rattle.proc_language.specs.declared.module.ModuleFields.{ModuleFields}
use Rattle.proc_language.specs.Limits.{Each, IsModule}
use Rattle.proc_names.specs.NameFaults.{name_faults}
use Rattle.proc_program.specs.Lower.{part_of}
use Rattle.proc_semantics.specs.Meaning.{meaning}
use Rattle.token_language.specs.declared.module.TokenModuleFields.{TokenModuleFields}
use Rattle.token_language.specs.Tokens.{tokens_of}
use Rattle.token_language.specs.Limits.{IsTokenModule}
use Rattle.token_language.specs.Erased.{erased}
use Rattle.token_language.specs.TokenFaults.{IsTokenResolved}
use Rattle.token_check.specs.Typing.{IsTyped}
use Rattle.token_semantics.specs.Hands.{Hands, Ledger, spent_by, count}
use Rattle.token_semantics.specs.Told.{TokensTold}
use Rattle.token_semantics.specs.Meaning.{token_meaning}
use Rattle.token_semantics.specs.Plain.{tokened}

abbrev pub HasNoTokens : TokenModuleFields → Type 0
HasNoTokens m = Each (λ p. tokens_of p ≡ []) m.procs

-- a resolved module whose tokens were checked, or one without tokens
pub record IsAccepted (m : TokenModuleFields) : Type 0 where
  pub limits : IsTokenModule m
  pub resolved : IsTokenResolved m
  pub checked : IsTyped m ⊎ HasNoTokens m

-- it was spent once, and by a procedure that ended
abbrev pub IsSpent : Ledger → ℕ → Type 0
IsSpent book n = (count n book.spent ≡ 1) × (count n (spent_by book.ended) ≡ 1)

-- of a procedure that ended, and the numbers that were made in it or handed to it
pub record IsSettled (book : Ledger) (hands : Hands) : Type 0 where
  -- it got none twice
  pub once : (n : ℕ) → count n hands.got ≤ 1
  -- what it got, and nothing else, it spent once or handed on once, and never both
  pub used : (n : ℕ) → count n hands.got ≡ count n hands.spent + count n hands.gave
  -- what it got is spent, by itself or by another
  pub spent : (n : ℕ) → Contains hands.got n → IsSpent book n

pub record AreSpent (t : TokensTold) (plain : Told) : Type 0 where
  -- it is never stuck
  pub goes : t.stuck ≡ false
  -- events, end and ticks are those without tokens
  pub told : t.told ≡ plain
  -- no number is spent twice
  pub once : (n : ℕ) → count n t.ledger.spent ≤ 1
  -- of each procedure that ended by `return` or after its last statement
  pub settled : All (IsSettled t.ledger) t.ledger.ended

abbrev pub TokensAreSpent : Type 0
TokensAreSpent =
    (modules : List TokenModuleFields) → All IsAccepted modules
    → (stack : ℕ) (feed : List Item) (fuel : ℕ)
    → AreSpent (token_meaning modules stack feed fuel)
    (meaning (map part_of (map erased modules)) stack feed fuel)

-- ---- plain modules are modules with tokens

pub record IsPlain (m : ModuleFields) (t : TokenModuleFields) : Type 0 where
  -- without its tokens it is the plain one
  pub same : erased t ≡ m
  pub accepted : IsAccepted t

abbrev pub PlainAreAccepted : Type 0
PlainAreAccepted = (m : ModuleFields) → IsModule m → name_faults m ≡ [] → IsPlain m (tokened m)
