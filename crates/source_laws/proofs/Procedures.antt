-- The pieces of a procedure's code, as the laws of the machine take them.
use Rattle.std.proofs.Common.{◌≡◌, ℕ, zero, suc, ◌+◌, ◌-◌, ◌*◌, ◌≤◌, Bool, true, false, pos, List, [], ◌∷◌}
use Rattle.std.proofs.Common.{◌++◌, length, replicate, refl, ap, ◌∙◌, arith}
use Rattle.std.specs.Prelude.{map, take}
use Rattle.lcm_isa.specs.declared.Reg.{Reg}
use Rattle.lcm_isa.specs.declared.Reg.TheVariants.{Rcode, Rdata, Stk, T1, T2}
use Rattle.lcm_isa.specs.declared.Operand.TheVariants.{Imm}
use Rattle.lcm_isa.specs.declared.Instr.{Instr}
use Rattle.lcm_isa.specs.declared.Instr.TheVariants.{Cca, Load, Store, Xjmp}
use Rattle.linked_starts.specs.Parts.{PartSeen}
use Rattle.overlay_machine.specs.declared.words.OWord.{OWord}
use Rattle.overlay_machine.specs.State.{OpenFrame}
use Rattle.overlay_machine.specs.Link.{Link, IsTrusted}
use Rattle.overlay_machine.specs.Linked.{IsLink}
use Rattle.proc_templates.specs.Items.{does, leaves, zero_of, wiped}
use Rattle.proc_templates.specs.Templates.{arguments, check_params, checks_words, push, pushed, wipe}
use Rattle.proc_templates.specs.Templates.{take_back}
use Rattle.source_laws.proofs.Handed.{places}
use Rattle.template_runs.proofs.Offers.{Code, Stand, words_in, prologue, pops, epilogue}
use Rattle.source_laws.proofs.Bodies.{argument_regs}

-- ---- sizes

pub checks_size : (bs : List Bool) (i : ℕ) → words_in (check_params i bs) ≡ checks_words bs
checks_size [] i = refl
checks_size (false ∷ bs) i = let e = checks_size bs (i + 1) in omega (arith, e)
checks_size (true ∷ bs) i = let e = checks_size bs (i + 2) in omega (arith, e)

-- seven words for each register, at most
pub checks_few : (bs : List Bool) → checks_words bs ≤ 7 * places bs
checks_few [] = omega arith
checks_few (false ∷ bs) = let h = checks_few bs in omega (arith, h)
checks_few (true ∷ bs) = let h = checks_few bs in omega (arith, h)

pub push_size : (rs : List Reg) → words_in (push rs) ≡ 2 * length rs
push_size [] = refl
push_size (r ∷ rs) = let e = push_size rs in omega (arith, e)

-- ---- registers that a prologue stores

first_arguments : (n : ℕ) → n ≤ 4 → take n arguments ≡ argument_regs 0 n
first_arguments zero le = refl
first_arguments (suc zero) le = refl
first_arguments (suc (suc zero)) le = refl
first_arguments (suc (suc (suc zero))) le = refl
first_arguments (suc (suc (suc (suc zero)))) le = refl
first_arguments (suc (suc (suc (suc (suc n))))) le = absurd (omega (arith, le))

pub pushed_are : (n w : ℕ) → n ≤ 4
    → pushed n w ≡ Rcode ∷ Rdata ∷ (argument_regs 0 n ++ replicate (w - 2 - n) T1)
pushed_are n w le =
    let z : w - (2 + n) ≡ w - 2 - n = omega arith in
    ap (λ x. Rcode ∷ Rdata ∷ (x ++ replicate (w - (2 + n)) T1)) (first_arguments n le)
    ∙ ap (λ x. Rcode ∷ Rdata ∷ (argument_regs 0 n ++ replicate x T1)) z

-- ---- instructions in a row

-- rdata and rcode are taken back, the other registers cleared, and the procedure is left
abbrev last_words : List Instr
last_words =
    Cca Stk (Imm (pos 1)) ∷ Load Rdata Stk ∷ Store Stk T1 ∷ Cca Stk (Imm (pos 1)) ∷ Load Rcode Stk ∷ Store Stk
    T1
    ∷ zero_of T2 ∷ (map zero_of wiped ++ (Xjmp Rcode Rdata ∷ []))

module _ (g : Link) (linked : IsLink g) (p : PartSeen) (ip : IsTrusted g p) (end top : ℕ) (mem : ℕ → OWord)
    (fs : List OpenFrame) where
  pub prologue_of : (rs : List Reg) (k : ℕ) → Stand g linked p end k (push rs)
      → Code g linked p k (prologue g linked p ip top mem fs rs)
  prologue_of [] k h = tt
  prologue_of (r ∷ rs) k h = (h.0, (h.1.0, prologue_of rs (k + 1 + 1) h.1.1))

  -- what stands after slots that are wiped
  pub epilogue_of : (j k : ℕ) → Stand g linked p end k (does (zero_of T1) ∷ (wipe j
      ++ (take_back Rdata ++ (take_back Rcode ++ (leaves ∷ [])))))
      → Code g linked p k (epilogue g linked p ip top mem fs j)
  epilogue_of j k h = (h.0, wiped_too j (k + 1) h.1)
    where
      wiped_too : (j k : ℕ)
          → Stand g linked p end k (wipe j ++ (take_back Rdata ++ (take_back Rcode ++ (leaves ∷ []))))
          → Code g linked p k (pops g linked p ip top mem fs j ++ last_words)
      wiped_too zero k h =
          (h.0, (h.1.0, (h.1.1.0, (h.1.1.1.0, (h.1.1.1.1.0, (h.1.1.1.1.1.0, h.1.1.1.1.1.1.0))))))
      wiped_too (suc j) k h = (h.0, (h.1.0, wiped_too j (k + 1 + 1) h.1.1))
