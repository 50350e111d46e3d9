-- The names of what a procedure has of its own, and those of its tokens.
use Rattle.std.specs.Prelude.{List, [], ◌∷◌, ◌++◌}
use Rattle.proc_language.specs.declared.tree.Name.{Name}
use Rattle.token_language.specs.declared.module.TokenParam.{TokenParam}
use Rattle.token_language.specs.declared.module.TokenParam.TheVariants as param
use Rattle.token_language.specs.declared.module.TokenLocal.{TokenLocal}
use Rattle.token_language.specs.declared.module.TokenLocal.TheVariants as local
use Rattle.token_language.specs.declared.module.TokenProc.{TokenProc}

abbrev pub param_name : TokenParam → Name
param_name (param.Plain q) = q.name
param_name (param.Token x) = x

abbrev pub local_name : TokenLocal → Name
local_name (local.Plain x) = x
local_name (local.Token x) = x

-- ---- tokens

abbrev pub param_tokens : List TokenParam → List Name
param_tokens [] = []
param_tokens (param.Plain q ∷ params) = param_tokens params
param_tokens (param.Token x ∷ params) = x ∷ param_tokens params

abbrev pub local_tokens : List TokenLocal → List Name
local_tokens [] = []
local_tokens (local.Plain x ∷ locals) = local_tokens locals
local_tokens (local.Token x ∷ locals) = x ∷ local_tokens locals

-- its token parameters, and then its other tokens
abbrev pub tokens_of : TokenProc → List Name
tokens_of p = param_tokens p.params ++ local_tokens p.locals
