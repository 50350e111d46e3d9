-- The modules with tokens that sources in either language spell, and what these mean.
use Rattle.std.specs.Prelude.{◌≡◌, ℕ, List, map, All, Result, Ok}
use Rattle.readers.specs.Results.{◌>>=◌}
use Rattle.source_events.specs.declared.Item.{Item}
use Rattle.proc_language.specs.declared.module.ModuleFields.{ModuleFields}
use Rattle.proc_program.specs.Lower.{part_of}
use Rattle.proc_semantics.specs.Meaning.{meaning}
use Rattle.proc_language.specs.declared.dialect.Dialect.{Dialect}
use Rattle.proc_language.specs.declared.dialect.Dialect.TheVariants.{Plain, Tokens}
use Rattle.token_language.specs.declared.module.TokenModuleFields.{TokenModuleFields}
use Rattle.token_language.specs.Erased.{erased}
use Rattle.proc_sources.specs.declared.fault.SourceFault.{SourceFault}
use Rattle.proc_sources.specs.Sources.{token_module_in, module_in}
use Rattle.token_semantics.specs.Plain.{tokened}
use Rattle.token_semantics.specs.Meaning.{token_meaning}
use Rattle.token_semantics.specs.Law.{IsAccepted, AreSpent}

-- the module with tokens that a text in this language spells, or the first fault; a plain one has no tokens
abbrev pub spelled_in : Dialect → List ℕ → Result TokenModuleFields SourceFault
spelled_in Plain text = do
  m ← module_in Plain text
  Ok (tokened m)
spelled_in Tokens text = token_module_in text

-- the module of a source is what is left of the one with tokens that its text spells, which is accepted
pub record IsLeft (d : Dialect) (text : List ℕ) (m : ModuleFields) : Type 0 where
  pub tokens : TokenModuleFields
  pub spelled : spelled_in d text ≡ Ok tokens
  pub left : erased tokens ≡ m
  pub accepted : IsAccepted tokens

-- ---- of any sources, each in its language

pub record Source : Type 0 where
  pub language : Dialect
  pub text : List ℕ

abbrev pub module_of : Source → Result ModuleFields SourceFault
module_of s = module_in s.language s.text

abbrev pub spelled_of : Source → Result TokenModuleFields SourceFault
spelled_of s = spelled_in s.language s.text

-- their modules are what is left of those with tokens that their texts spell, which are accepted
pub record AreLeft (sources : List Source) (modules : List ModuleFields) : Type 0 where
  pub tokens : List TokenModuleFields
  pub spelled : map spelled_of sources ≡ map (λ t. Ok t) tokens
  pub left : map erased tokens ≡ modules
  pub accepted : All IsAccepted tokens

-- what modules mean is what these with tokens mean, and of that the law of tokens holds
abbrev pub MeanAsErased : List TokenModuleFields → List ModuleFields → Type 0
MeanAsErased tokens modules =
    (stack : ℕ) (feed : List Item) (fuel : ℕ)
    → AreSpent (token_meaning tokens stack feed fuel) (meaning (map part_of modules) stack feed fuel)
