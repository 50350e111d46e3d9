-- What compiling answers.
use Rattle.std.proofs.Common.{◌≡◌, ◌≢◌, ◌<◌, ◌≤◌, inl, inr, ℕ, refl, arith}
use Rattle.std.specs.Prelude.{Bool, true, false, nat_lt, ◌||◌, Ok, Err}
use Rattle.std.proofs.lemmas.Bool.Decides.{nat_tests}
use Rattle.component_file.specs.declared.TheConstants.{MOST_WORDS}
use Rattle.proc_language.specs.declared.module.ModuleFields.{ModuleFields}
use Rattle.proc_names.specs.Calls.{module_calls}
use Rattle.proc_program.specs.Lower.{part_of}
use Rattle.proc_templates.specs.Compiled.{code_words, data_count, compiled}
use Rattle.proc_compiler.specs.Fault.{Compiles, CausesFault}
use Rattle.proc_compiler.specs.declared.fault.CompileFault.{CompileFault}
use Rattle.proc_compiler.specs.declared.fault.CompileFault.TheVariants.{TooLarge, SealsShort, NoMemory}
use Rattle.proc_sources.specs.Sources.{is_large, compile_answer}

not_below : (n m : ℕ) → m ≤ n → nat_lt n m ≡ false
not_below n m h = grind (arith, nat_tests)

below : (n m : ℕ) → n < m → nat_lt n m ≡ true
below n m h = grind (arith, nat_tests)

or_left : (a b : Bool) → a ≡ true → (a || b) ≡ true
or_left true b e = refl
or_left false b e = absurd (cc)

or_right : (a b : Bool) → b ≡ true → (a || b) ≡ true
or_right true b e = refl
or_right false b e = e

none_of : (a b : Bool) → a ≡ false → b ≡ false → (a || b) ≡ false
none_of true b e f = absurd (cc)
none_of false b e f = f

small : (m : ModuleFields) → code_words (part_of m) ≤ MOST_WORDS → data_count (part_of m) ≤ MOST_WORDS
    → is_large m ≡ false
small m c d =
    none_of _ _ (not_below MOST_WORDS (code_words (part_of m)) c)
    (not_below MOST_WORDS (data_count (part_of m)) d)

pub compiles_so : (m : ModuleFields) → Compiles m → compile_answer m ≡ Ok (compiled m)
unfolding compile_answer
compiles_so m c = rw (small m c.0.0 c.0.1, not_below m.return_count (module_calls m) c.1) refl

pub fails_so : (m : ModuleFields) (f : CompileFault) → f ≢ NoMemory → CausesFault m f
    → compile_answer m ≡ Err f
unfolding compile_answer
fails_so m TooLarge n (inl c) =
    rw (or_left _ (nat_lt MOST_WORDS (data_count (part_of m))) (below MOST_WORDS (code_words (part_of m)) c))
    refl
fails_so m TooLarge n (inr d) =
    rw (or_right (nat_lt MOST_WORDS (code_words (part_of m))) _ (below MOST_WORDS (data_count (part_of m)) d))
    refl
fails_so m SealsShort n c =
    rw (small m c.0.0 c.0.1, below m.return_count (module_calls m) c.1) refl
fails_so m NoMemory n c = absurd (n refl)
