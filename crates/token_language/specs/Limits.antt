-- What a module with tokens is: without its tokens it keeps the limits, and no procedure has too many.
use Rattle.std.specs.Prelude.{◌≤◌, length}
use Rattle.proc_language.specs.Limits.{IsModule, Each}
use Rattle.proc_language.specs.declared.TheConstants.{MOST_TOKENS}
use Rattle.token_language.specs.declared.module.TokenProc.{TokenProc}
use Rattle.token_language.specs.declared.module.TokenModuleFields.{TokenModuleFields}
use Rattle.token_language.specs.Tokens.{tokens_of}
use Rattle.token_language.specs.Erased.{erased}

abbrev pub TokensFit : TokenProc → Type 0
TokensFit p = length (tokens_of p) ≤ MOST_TOKENS

pub record IsTokenModule (m : TokenModuleFields) : Type 0 where
  pub plain : IsModule (erased m)
  pub tokens : Each TokensFit m.procs
