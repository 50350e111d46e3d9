-- What a source is where it is taken.
use Rattle.std.proofs.Common.{◌≡◌, ℕ, List, [], refl, sym, ap, subst}
use Rattle.std.specs.Prelude.{Option, Some, None, Result, Ok, Err, if◌then◌else◌, Bool, true, false, nat_lt}
use Rattle.readers.specs.Readers.{told_by}
use Rattle.readers.specs.Results.{◌>>=◌}
use Rattle.component_file.specs.declared.component.ComponentFields.{ComponentFields}
use Rattle.proc_language.specs.declared.module.ModuleFields.{ModuleFields}
use Rattle.proc_language.specs.Limits.{IsModule}
use Rattle.proc_grammar.specs.declared.fault.ParseFault.{ParseFault}
use Rattle.proc_parse.specs.Text.{parsed_text}
use Rattle.proc_names.proofs.Offers.{first_none}
use Rattle.proc_names.specs.declared.fault.NameFault.{NameFault}
use Rattle.proc_names.specs.Faults.{first}
use Rattle.proc_names.specs.NameFaults.{name_faults, none_or, resolved}
use Rattle.proc_names.specs.Calls.{module_calls}
use Rattle.proc_templates.specs.Compiled.{compiled}
use Rattle.proc_compiler.specs.declared.fault.CompileFault.{CompileFault}
use Rattle.proc_compiler.specs.declared.fault.CompileFault.TheVariants.{TooLarge, SealsShort}
use Rattle.proc_language.specs.declared.dialect.Dialect.{Dialect}
use Rattle.proc_language.specs.declared.dialect.Dialect.TheVariants.{Plain, Tokens}
use Rattle.token_language.specs.declared.module.TokenModuleFields.{TokenModuleFields}
use Rattle.token_language.specs.Limits.{IsTokenModule}
use Rattle.token_language.specs.Erased.{erased}
use Rattle.token_parse.specs.Text.{parsed_text as parsed_tokens}
use Rattle.token_language.specs.TokenFaults.{IsTokenResolved, token_name_faults, resolved_tokens}
use Rattle.token_check.specs.declared.fault.TokenFault.{TokenFault}
use Rattle.token_check.specs.Walk.{module_walk}
use Rattle.proc_sources.specs.declared.fault.SourceFault.{SourceFault}
use Rattle.proc_sources.specs.declared.fault.SourceFault.TheVariants.{Text, Name, Token, Size}
use Rattle.proc_sources.specs.Sources.{is_large, compile_answer, plain_in, token_module_in, erased_in}
use Rattle.proc_sources.specs.Sources.{module_in, sourced, checked_tokens, without_tokens}

-- ---- the module

named_so : (x m : ModuleFields) (r : Result (Unit {0}) NameFault)
    → (let q : Result ModuleFields SourceFault = told_by Name r >>= (λ u. Ok x) in q) ≡ Ok m
    → (r ≡ Ok tt) × (x ≡ m)
named_so x m (Ok u) e = let s : x ≡ m = cc in (refl, s)
named_so x m (Err f) e = absurd (cc)

-- a text that has a module was parsed to it, and its names are resolved
module_so : (r : Result ModuleFields ParseFault) (m : ModuleFields)
    → (told_by Text r >>= (λ x. told_by Name (resolved x) >>= (λ u. Ok x))) ≡ Ok m
    → (r ≡ Ok m) × (resolved m ≡ Ok tt)
module_so (Ok x) m e =
    let n = named_so x m (resolved x) e in (ap (λ y. Ok y) n.1, subst (λ y. resolved y ≡ Ok tt) n.1 n.0)
module_so (Err f) m e = absurd (cc)

plain_parts : (text : List ℕ) (m : ModuleFields) → plain_in text ≡ Ok m
    → (parsed_text text ≡ Ok m) × (resolved m ≡ Ok tt)
unfolding plain_in
plain_parts text m e = module_so (parsed_text text) m e

-- ---- the module with tokens

-- a text with tokens that has a module was parsed to it, its names are resolved, and its tokens typed
pub record TokenParts (text : List ℕ) (m : TokenModuleFields) : Type 0 where
  pub parsed : parsed_tokens text ≡ Ok m
  pub names : resolved_tokens m ≡ Ok tt
  pub typed : module_walk m ≡ Ok tt

typed_so : (x m : TokenModuleFields) (r : Result (Unit {0}) TokenFault)
    → (let q : Result TokenModuleFields SourceFault = told_by Token r >>= (λ u. Ok x) in q) ≡ Ok m
    → (r ≡ Ok tt) × (x ≡ m)
typed_so x m (Ok u) e = let s : x ≡ m = cc in (refl, s)
typed_so x m (Err f) e = absurd (cc)

token_named_so : (x m : TokenModuleFields) (r : Result (Unit {0}) NameFault)
    → (let q : Result TokenModuleFields SourceFault =
    told_by Name r >>= (λ u. told_by Token (module_walk x) >>= (λ v. Ok x)) in q) ≡ Ok m
    → (r ≡ Ok tt) × (module_walk x ≡ Ok tt) × (x ≡ m)
token_named_so x m (Ok u) e = let t = typed_so x m (module_walk x) e in (refl, t.0, t.1)
token_named_so x m (Err f) e = absurd (cc)

token_module_so : (text : List ℕ) (r : Result TokenModuleFields ParseFault) (m : TokenModuleFields)
    → parsed_tokens text ≡ r
    → (told_by Text r >>= (λ x. told_by Name (resolved_tokens x) >>= (λ u. told_by Token (module_walk x)
    >>= (λ v. Ok x)))) ≡ Ok m
    → TokenParts text m
token_module_so text (Ok x) m p e =
    let n = token_named_so x m (resolved_tokens x) e in
    subst (TokenParts text) n.2 (record { parsed = p; names = n.0; typed = n.1 })
token_module_so text (Err f) m p e = absurd (cc)

pub token_parts : (text : List ℕ) (m : TokenModuleFields) → token_module_in text ≡ Ok m → TokenParts text m
unfolding token_module_in
token_parts text m e = token_module_so text (parsed_tokens text) m refl e

-- what is left of it
erased_so : (r : Result TokenModuleFields SourceFault) (m : ModuleFields)
    → (r >>= (λ t. Ok (erased t))) ≡ Ok m
    → (t : TokenModuleFields) × (r ≡ Ok t) × (m ≡ erased t)
erased_so (Ok t) m e = (t, refl, cc)
erased_so (Err f) m e = absurd (cc)

pub erased_of : (text : List ℕ) (m : ModuleFields) → erased_in text ≡ Ok m
    → (t : TokenModuleFields) × (token_module_in text ≡ Ok t) × (m ≡ erased t)
unfolding erased_in
erased_of text m e = erased_so (token_module_in text) m e

-- what is left of what was parsed
pub erased_steps : (text : List ℕ) → erased_in text ≡ (told_by Text (parsed_tokens text) >>= without_tokens)
unfolding erased_in token_module_in
erased_steps text = by (told_by Text (parsed_tokens text))
  where
    by : (r : Result TokenModuleFields SourceFault)
        → ((r >>= checked_tokens) >>= (λ t. Ok (erased t))) ≡ (r >>= without_tokens)
    by (Ok m) = refl
    by (Err f) = refl

-- ---- its limits

-- what texts are read as keeps the limits
pub record ReadLaws : Type 0 where
  pub plain : (text : List ℕ) (m : ModuleFields) → parsed_text text ≡ Ok m → IsModule m
  pub tokens : (text : List ℕ) (m : TokenModuleFields) → parsed_tokens text ≡ Ok m → IsTokenModule m

pub keeps_limits : ReadLaws → (d : Dialect) (text : List ℕ) (m : ModuleFields) → module_in d text ≡ Ok m
    → IsModule m
keeps_limits laws Plain text m e = laws.plain text m (plain_parts text m e).0
keeps_limits laws Tokens text m e =
    let t = erased_of text m e in
    let p = token_parts text t.0 t.1 in
    subst IsModule (sym t.2) (laws.tokens text t.0 p.parsed).plain

-- ---- its names

none_of : (o : Option NameFault) → none_or o ≡ Ok tt → o ≡ None
none_of None e = refl
none_of (Some f) e = absurd (cc)

plain_resolved : (m : ModuleFields) → resolved m ≡ Ok tt → name_faults m ≡ []
plain_resolved m e = first_none (name_faults m) (none_of (first (name_faults m)) e)

pub tokens_resolved : (m : TokenModuleFields) → resolved_tokens m ≡ Ok tt → IsTokenResolved m
tokens_resolved m e = first_none (token_name_faults m) (none_of (first (token_name_faults m)) e)

pub names_resolved : ((m : TokenModuleFields) → IsTokenResolved m → name_faults (erased m) ≡ [])
    → (d : Dialect) (text : List ℕ) (m : ModuleFields) → module_in d text ≡ Ok m → name_faults m ≡ []
names_resolved law Plain text m e = plain_resolved m (plain_parts text m e).1
names_resolved law Tokens text m e =
    let t = erased_of text m e in
    let p = token_parts text t.0 t.1 in
    subst (λ x. name_faults x ≡ []) (sym t.2) (law t.0 (tokens_resolved t.0 p.names))

-- ---- its component

sized_so : (b s : Bool) (c d : ComponentFields) (f g : CompileFault)
    → (let q : Result ComponentFields SourceFault =
    told_by Size (if b then Err f else (if s then Err g else Ok c)) in q) ≡ Ok d → c ≡ d
sized_so true s c d f g e = absurd (cc)
sized_so false true c d f g e = absurd (cc)
sized_so false false c d f g e = cc

compiled_so : (m : ModuleFields) (c : ComponentFields) → told_by Size (compile_answer m) ≡ Ok c
    → c ≡ compiled m
unfolding compile_answer
compiled_so m c e =
    sym (sized_so (is_large m) (nat_lt m.return_count (module_calls m)) (compiled m) c TooLarge SealsShort e)

component_so : (r : Result ModuleFields SourceFault) (c : ComponentFields)
    → (r >>= (λ m. told_by Size (compile_answer m))) ≡ Ok c
    → (m : ModuleFields) × (r ≡ Ok m) × (c ≡ compiled m)
component_so (Ok m) c e = (m, refl, compiled_so m c e)
component_so (Err f) c e = absurd (cc)

pub is_compiled : (d : Dialect) (text : List ℕ) (c : ComponentFields) → sourced d text ≡ Ok c
    → (m : ModuleFields) × (module_in d text ≡ Ok m) × (c ≡ compiled m)
unfolding sourced
is_compiled d text c e = component_so (module_in d text) c e
