-- Items that are written word by word, and the end of a procedure.
use Rattle.std.proofs.Common.{◌≡◌, ℕ, ◌+◌, ◌-◌, ◌*◌, ◌≤◌, ℤ, List, [], ◌∷◌, ◌++◌, length, map, refl, ap, ◌∙◌}
use Rattle.std.proofs.Common.{append_assoc, arith}
use Rattle.cap_words.specs.declared.Word.{Word}
use Rattle.lcm_isa.specs.declared.Reg.{Reg}
use Rattle.lcm_isa.specs.declared.Reg.TheVariants.{Pc, Rcode, Rdata, T1, T2, C1, C2, A1, A2, A3, G0, G1, G2}
use Rattle.lcm_isa.specs.declared.Operand.TheVariants.{R, Imm}
use Rattle.lcm_isa.specs.declared.Instr.TheVariants.{Move, Cca, Xjmp}
use Rattle.call_sequence.specs.declared.TheConstants.{RETURN_WORDS}
use Rattle.call_sequence.specs.Sequences.{distance}
use Rattle.proc_templates.specs.Items.{does, guards, leaves, FAIL_AT, zero_of, word_of, instrs, put}
use Rattle.proc_templates.specs.Templates.{check_half, wipe, take_back, epilogue}
use Rattle.proc_compiler.specs.declared.counts.TheConstants.{CALLBACK_WORDS, EPILOGUE_WORDS}
use Rattle.proc_compiler.specs.Drafts.{Drafted, with_items, with_words, Emits}
use Rattle.proc_compiler.proofs.Emitted.{then, counted, single}

words_then : (a b : List Word) (d : Drafted) → with_words b (with_words a d) ≡ with_words (a ++ b) d
words_then a b d = ap (λ ws. record
    { laid = record (d.laid) { code = ws }; spot = d.spot; first = d.first; seals = d.seals })
    (append_assoc d.laid.code a b)

words_both : (a b : List Word) (d e f : Drafted) → e ≡ with_words a d → f ≡ with_words b e
    → f ≡ with_words (a ++ b) d
words_both a b d e f g h = h ∙ ap (with_words b) g ∙ words_then a b d

pub pair_written : {far : ℤ} {d0 d1 d2 d3 d4 : Drafted} (r q : Reg)
    → far ≡ distance (length d0.laid.code) FAIL_AT
    → d1 ≡ with_words (map word_of (Move T2 (R Pc) ∷ Cca T2 (Imm far) ∷ [])) d0
    → d2 ≡ with_words (map word_of (check_half r)) d1 → d3 ≡ with_words (map word_of (check_half q)) d2
    → d4 ≡ with_words (map word_of (zero_of T2 ∷ [])) d3
    → Emits (guards (check_half r ++ check_half q) ∷ []) CALLBACK_WORDS 0 d0 d4
unfolding put instrs with_items
pair_written {far = far} {d0 = d0} {d1 = d1} {d2 = d2} {d3 = d3} {d4 = d4} r q is h1 h2 h3 h4 =
    let x = word_of (zero_of T2) ∷ [] in
    let b = map word_of (check_half q) ++ x in
    let a = map word_of (check_half r) ++ b in
    single (guards (check_half r ++ check_half q)) CALLBACK_WORDS d0 d4 (λ o. omega arith) (λ o. refl)
    (words_both (word_of (Move T2 (R Pc)) ∷ word_of (Cca T2 (Imm far)) ∷ []) a d0 d1 d4 h1
    (words_both (map word_of (check_half r)) b d1 d2 d4 h2
    (words_both (map word_of (check_half q)) x d2 d3 d4 h3 h4))
    ∙ ap (λ z. with_words (word_of (Move T2 (R Pc)) ∷ word_of (Cca T2 (Imm z)) ∷ a) d0) is)

pub leave_written : (d e : Drafted) → e ≡ with_words (map word_of (zero_of T2 ∷ zero_of C1 ∷ zero_of C2
    ∷ zero_of A1 ∷ zero_of A2 ∷ zero_of A3 ∷ zero_of G0 ∷ zero_of G1 ∷ zero_of G2 ∷ Xjmp Rcode Rdata ∷ [])) d
    → Emits (leaves ∷ []) RETURN_WORDS 0 d e
unfolding put instrs with_items
leave_written d e h = single leaves RETURN_WORDS d e (λ o. refl) (λ o. refl) h

pub epilogue_written : {d0 d1 d2 d3 d4 d5 : Drafted} (w : ℕ) → 2 ≤ w
    → Emits (does (zero_of T1) ∷ []) 1 0 d0 d1 → Emits (wipe (w - 2)) (2 * (w - 2)) 0 d1 d2
    → Emits (take_back Rdata) 3 0 d2 d3 → Emits (take_back Rcode) 3 0 d3 d4
    → Emits (leaves ∷ []) RETURN_WORDS 0 d4 d5 → Emits (epilogue w) (2 * w + EPILOGUE_WORDS) 0 d0 d5
epilogue_written w least first slots rdata rcode last =
    counted (omega (arith, least)) (omega arith) (then first (then slots (then rdata (then rcode last))))
