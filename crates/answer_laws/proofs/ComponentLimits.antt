-- The component of a part keeps the limits of components, whatever form its bytes have.
use Rattle.std.proofs.Common.{◌≡◌, ℕ, ◌<◌, ◌≤◌, List, [], length, refl, sym, subst, arith, get_or}
use Rattle.std.specs.Prelude.{Bool, true, false, ◌||◌, nat_lt, All, Result, Ok, Err, if◌then◌else◌}
use Rattle.std.proofs.lemmas.Bool.Decides.{nat_tests}
use Rattle.std.proofs.lemmas.List.{get_or_past}
use Rattle.std.proofs.lemmas.List.Elements.{All-get_or}
use Rattle.readers.specs.Readers.{told_by}
use Rattle.readers.specs.Results.{◌>>=◌}
use Rattle.cap_words.proofs.Offers.{IsBytes}
use Rattle.command_words.specs.declared.part.Ending.{Ending}
use Rattle.command_words.specs.declared.part.Ending.TheVariants.{Source, Assembler, Component}
use Rattle.component_file.specs.declared.TheConstants.{MOST_WORDS}
use Rattle.component_file.specs.declared.component.ComponentFields.{ComponentFields}
use Rattle.component_file.specs.Limits.{IsComponent}
use Rattle.component_file.proofs.Offers.{found_whole}
use Rattle.assembler.specs.Assembled.{assembled}
use Rattle.proc_language.specs.declared.dialect.Dialect.{Dialect}
use Rattle.proc_language.specs.declared.module.ModuleFields.{ModuleFields}
use Rattle.proc_language.specs.Limits.{IsModule}
use Rattle.proc_names.specs.NameFaults.{name_faults}
use Rattle.proc_names.specs.Calls.{module_calls}
use Rattle.proc_program.specs.declared.program.Program.{Program}
use Rattle.proc_program.specs.Calls.{part_calls}
use Rattle.proc_program.specs.Limits.{IsProgram}
use Rattle.proc_program.specs.Lower.{part_of}
use Rattle.proc_templates.specs.Compiled.{code_words, data_count, component_of, compiled}
use Rattle.proc_templates.specs.Kept.{FitsComponent, NamesDiffer}
use Rattle.proc_compiler.specs.declared.fault.CompileFault.TheVariants.{TooLarge, SealsShort}
use Rattle.proc_sources.specs.declared.fault.SourceFault.{SourceFault}
use Rattle.proc_sources.specs.declared.fault.SourceFault.TheVariants.{Size}
use Rattle.proc_sources.specs.Sources.{is_large, compile_answer, module_in, sourced}
use Rattle.link_tool.specs.Parts.{HasForm}

-- what holds of texts, modules and programs
pub record LimitLaws : Type 0 where
  pub spelled : (text : List ℕ) (c : ComponentFields) → assembled text ≡ Ok c → IsComponent c
  pub limits : (d : Dialect) (text : List ℕ) (m : ModuleFields) → module_in d text ≡ Ok m → IsModule m
  pub resolved : (d : Dialect) (text : List ℕ) (m : ModuleFields) → module_in d text ≡ Ok m
      → name_faults m ≡ []
  pub programs : (m : ModuleFields) → IsModule m → IsProgram (part_of m)
  pub calls : (m : ModuleFields) → part_calls (part_of m) ≡ module_calls m
  pub differ : (m : ModuleFields) → name_faults m ≡ [] → NamesDiffer (part_of m).procs
  pub components : (m : Program) → FitsComponent m → NamesDiffer m.procs
      → part_calls m ≤ m.header.return_count → IsComponent (component_of m)

-- ---- what is small enough to be compiled

above : (n m : ℕ) → nat_lt n m ≡ false → m ≤ n
above n m h = grind (arith, nat_tests)

under : (n m : ℕ) → nat_lt n m ≡ true → n < m
under n m h = grind (arith, nat_tests)

neither : (a b : Bool) → (a || b) ≡ false → (a ≡ false) × (b ≡ false)
neither true b e = absurd (cc)
neither false b e = (refl, e)

-- a module that is compiled, with the tests that it passed
record Passed (m : ModuleFields) (c : ComponentFields) : Type 0 where
  small : is_large m ≡ false
  sealed : nat_lt m.return_count (module_calls m) ≡ false
  is : compiled m ≡ c

by_tests : (m : ModuleFields) (c : ComponentFields) (large short : Bool) → is_large m ≡ large
    → nat_lt m.return_count (module_calls m) ≡ short
    → (let r : Result ComponentFields SourceFault =
    told_by Size (if large then Err TooLarge else (if short then Err SealsShort else Ok (compiled m))) in r)
    ≡ Ok c
    → Passed m c
by_tests m c true short l s e = absurd (cc)
by_tests m c false true l s e = absurd (cc)
by_tests m c false false l s e = let q : compiled m ≡ c = cc in record { small = l; sealed = s; is = q }

passed : (m : ModuleFields) (c : ComponentFields) → told_by Size (compile_answer m) ≡ Ok c → Passed m c
unfolding compile_answer
passed m c e = by_tests m c (is_large m) (nat_lt m.return_count (module_calls m)) refl refl e

-- ---- the forms

module _ (laws : LimitLaws) where
  fits : (m : ModuleFields) (c : ComponentFields) → IsModule m → name_faults m ≡ [] → Passed m c
      → IsComponent c
  fits m c l n p =
      let t =
      neither (nat_lt MOST_WORDS (code_words (part_of m))) (nat_lt MOST_WORDS (data_count (part_of m)))
      p.small in
      let f : FitsComponent (part_of m) =
      record {
        limits = laws.programs m l;
        code = above MOST_WORDS (code_words (part_of m)) t.0;
        data_words = above MOST_WORDS (data_count (part_of m)) t.1;
      } in
      let s : part_calls (part_of m) ≤ m.return_count =
      subst (λ k. k ≤ m.return_count) (sym (laws.calls m)) (above m.return_count (module_calls m) p.sealed) in
      subst IsComponent p.is (laws.components (part_of m) f (laws.differ m n) s)

  module_fits : (d : Dialect) (text : List ℕ) (c : ComponentFields) (r : Result ModuleFields SourceFault)
      → module_in d text ≡ r → (r >>= (λ m. told_by Size (compile_answer m))) ≡ Ok c → IsComponent c
  module_fits d text c (Ok m) is e =
      fits m c (laws.limits d text m is) (laws.resolved d text m is) (passed m c e)
  module_fits d text c (Err f) is e = absurd (cc)

  source_fits : (d : Dialect) (text : List ℕ) (c : ComponentFields) → sourced d text ≡ Ok c → IsComponent c
  unfolding sourced
  source_fits d text c e = module_fits d text c (module_in d text) refl e

  -- all are bytes, also the 0 that stands after the last
  bytes_by : (bytes : List ℕ) (i : ℕ) (b : Bool) → nat_lt i (length bytes) ≡ b → All (λ x. x < 256) bytes
      → get_or bytes i 0 < 256
  bytes_by bytes i true e h =
      All-get_or (λ x. x < 256) bytes i 0 (under i (length bytes) e) h
  bytes_by bytes i false e h =
      subst (λ x. x < 256) (sym (get_or_past bytes i 0 (above i (length bytes) e))) (omega arith)

  are_bytes : (bytes : List ℕ) → All (λ x. x < 256) bytes → IsBytes bytes
  are_bytes bytes h i = bytes_by bytes i (nat_lt i (length bytes)) refl h

  -- of a component's file it is asked that it holds bytes
  pub form_fits : (ending : Ending) (bytes : List ℕ) (c : ComponentFields)
      → (ending ≡ Component → All (λ x. x < 256) bytes) → HasForm ending bytes c → IsComponent c
  form_fits (Source d) bytes c b h = source_fits d bytes c h
  form_fits Assembler bytes c b h = laws.spelled bytes c h
  form_fits Component bytes c b h = (found_whole bytes c (are_bytes bytes (b refl)) h).0
