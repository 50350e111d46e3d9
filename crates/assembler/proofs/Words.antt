-- Words and instructions that lines give.
use Rattle.std.proofs.Common.{◌≡◌, ℕ, ◌<◌, Bool, true, false, cond, List, [], ◌∷◌, Option, Some, None, refl}
use Rattle.std.proofs.Common.{ap, ◌∙◌, subst, arith}
use Rattle.std.specs.Prelude.{ℤ, pos, negsuc, find, nat_lt, nat_le, FitsSigned}
use Rattle.std.specs.Int.{w32, w64}
use Rattle.std.specs.Str.{bytes_eq}
use Rattle.std.specs.List.{AllByRecursion, list_any}
use Rattle.std.proofs.lemmas.Bool.Decides.{nat_tests}
use Rattle.cap_words.specs.declared.TheConstants.{LAST_PLACE}
use Rattle.cap_words.specs.declared.CapFields.{CapFields}
use Rattle.cap_words.specs.declared.SealFields.{SealFields}
use Rattle.cap_words.specs.declared.Word.{Word}
use Rattle.cap_words.specs.declared.Word.TheVariants as word
use Rattle.cap_words.specs.WordBytes.{WordFits, IsUnsealed}
use Rattle.cap_words.specs.Face.{CapInOrder, SealsInOrder}
use Rattle.lcm_isa.specs.declared.Reg.{Reg}
use Rattle.lcm_isa.specs.declared.Reg.TheVariants.{Pc}
use Rattle.lcm_isa.specs.declared.Operand.{Operand}
use Rattle.lcm_isa.specs.declared.Operand.TheVariants.{R, Imm}
use Rattle.lcm_isa.specs.declared.Instr.{Instr}
use Rattle.lcm_isa.specs.Numbers.{all_with, number_of, decode_of, if_numbered, candidate, IsInstr, IsOperand}
use Rattle.lcm_isa.specs.Texts.{mnemonic_of, operands_of}
use Rattle.lcm_isa.proofs.Offers.{decode_of-number_of}
use Rattle.assembler.specs.Patch.{has_immediate}
use Rattle.asm_fields.specs.declared.directives.WordKind.{WordKind}
use Rattle.asm_fields.specs.declared.directives.WordKind.TheVariants.{Int, Cap, Seal}
use Rattle.asm_fields.specs.declared.fault.AsmFault.TheVariants as fault
use Rattle.asm_fields.specs.Fields.{place, at_sign, percent, meant, proper_name_from, sign_at, end_at}
use Rattle.cap_words.specs.Text.{named, perm_named, lin_named}
use Rattle.asm_fields.specs.Words.{i64_at, cap_at, seals_at, word_behind, word_line}
use Rattle.asm_fields.specs.Instrs.{Last, Plain, Code, Data, plain, reg_at, plain_at, last_at, shape_of}
use Rattle.asm_fields.specs.Instrs.{row_named, is_imm, reg_if, last_if, operands_at}
use Rattle.assembler.proofs.Gets.{Gets, Any, gets_any, gets_then, gets_done, gets_some, gets_if, gets_looking}
use Rattle.assembler.proofs.Gets.{integer_within, natural_within, fits_64, fits_32}

-- a word of code or data
abbrev pub IsPartWord : Word → Type 0
IsPartWord w = WordFits w × IsUnsealed w

i64_fits : Gets (FitsSigned w64) i64_at
i64_fits =
    record {
      gets =
          λ i x j h.
          fits_64 x ((integer_within (negsuc 9223372036854775807) (pos 9223372036854775807)).gets i x j h);
    }

cap_fits : Gets (λ c. CapInOrder c × FitsSigned w64 c.addr) cap_at
unfolding cap_at
cap_fits =
    let P : CapFields → Type 0 = λ c. CapInOrder c × FitsSigned w64 c.addr in
    gets_then Any P _ _ (gets_any (meant perm_named)) (λ perm _.
    gets_then Any P _ _ (gets_any (meant lin_named)) (λ lin _.
    gets_then _ P _ _ (natural_within 0 LAST_PLACE) (λ base _.
    gets_then _ P _ _ (natural_within base LAST_PLACE) (λ end within.
    gets_then _ P _ _ i64_fits (λ addr fits.
    gets_done P _ (within, fits))))))

seals_fit : Gets (λ s. SealsInOrder s × FitsSigned w64 s.cur) seals_at
unfolding seals_at
seals_fit =
    let P : SealFields → Type 0 = λ s. SealsInOrder s × FitsSigned w64 s.cur in
    gets_then _ P _ _ (natural_within 0 LAST_PLACE) (λ base _.
    gets_then _ P _ _ (natural_within base LAST_PLACE) (λ end within.
    gets_then _ P _ _ i64_fits (λ cur fits.
    gets_done P _ (within, fits))))

behind_fits : (kind : WordKind) → Gets IsPartWord (word_behind kind)
behind_fits Int = gets_then _ IsPartWord _ _ i64_fits (λ n fits. gets_done IsPartWord (word.Int n) (fits, tt))
behind_fits Cap = gets_then _ IsPartWord _ _ cap_fits (λ c fits. gets_done IsPartWord (word.Mem c) (fits, tt))
behind_fits Seal =
    gets_then _ IsPartWord _ _ seals_fit (λ s fits. gets_done IsPartWord (word.Seal s) (fits, tt))

pub line_fits : (kind : WordKind) → Gets IsPartWord (word_line kind)
unfolding word_line
line_fits kind =
    gets_then _ IsPartWord _ _ (behind_fits kind) (λ w fits.
    gets_then Any IsPartWord _ _ (gets_any end_at) (λ _ _.
    gets_done IsPartWord w fits))

-- ---- instructions

abbrev pub IsLabel : Last → Type 0
IsLabel (Plain o) = ⊥
IsLabel _ = Unit {0}

zero_fits : FitsSigned w32 (pos 0)
zero_fits = record { sfits = omega arith }

plain_fits : Gets IsOperand plain_at
unfolding plain_at
plain_fits = gets_looking IsOperand _ (λ i.
    gets_if IsOperand _ _ _
    (λ _. gets_then Any IsOperand _ _ (gets_any reg_at) (λ r _. gets_done IsOperand (R r) tt))
    (λ _. gets_then _ IsOperand _ _ (integer_within (negsuc 2147483647) (pos 2147483647))
    (λ z within. gets_done IsOperand (Imm z) (fits_32 z within))))

last_fits : Gets (λ n. IsOperand (plain n)) last_at
unfolding last_at
last_fits =
    let P : Last → Type 0 = λ n. IsOperand (plain n) in
    gets_then Any P _ _ (gets_any place) (λ at _.
    gets_then Any P _ _ (gets_any (sign_at at_sign)) (λ code _.
    gets_if P code _ _
    (λ _. gets_then Any P _ _ (gets_any (proper_name_from at))
    (λ name _. gets_done P (Code at name) zero_fits))
    (λ _. gets_then Any P _ _ (gets_any (sign_at percent)) (λ data_label _.
    gets_if P data_label _ _
    (λ _. gets_then Any P _ _ (gets_any (proper_name_from at))
    (λ name _. gets_done P (Data at name) zero_fits))
    (λ _. gets_then _ P _ _ plain_fits (λ o fits. gets_done P (Plain o) fits))))))

-- the last operand fits, and is a label only where one is wanted
abbrev IsLast : Bool → Last → Type 0
IsLast wanted n = IsOperand (plain n) × (IsLabel n → wanted ≡ true)

last_if_fits : (wanted : Bool) → Gets (IsLast wanted) (last_if wanted)
last_if_fits true = record { gets = λ i n j h. (last_fits.gets i n j h, λ _. refl) }
last_if_fits false = gets_done (IsLast false) (Plain (Imm (pos 0))) (zero_fits, λ l. absurd l)

by_test : {A : Type 0} (P : A → Type 0) (b : Bool) (x y : A) (o : Option A) → P y → (o ≡ Some x → P x)
    → cond b (Some y) o ≡ Some x → P x
by_test P true x y o here there h = let e : y ≡ x = cc in subst P e here
by_test P false x y o here there h = there h

-- what is found in a list is one of it
found_in : {A : Type 0} (P : A → Type 0) (test : A → Bool) (xs : List A) → AllByRecursion P xs → (x : A)
    → find test xs ≡ Some x → P x
found_in P test [] all x h = absurd cc
found_in P test (y ∷ xs) all x h = by_test P (test y) x y (find test xs) all.0 (found_in P test xs all.1 x) h

all_are : (a b c : Reg) (n : Operand) → IsOperand n → AllByRecursion IsInstr (all_with a b c n)
unfolding all_with
all_are a b c n h = (
  tt,
  (
    tt,
    (
      tt,
      (
        tt,
        (
          tt,
          (
            tt,
            (
              tt,
              (
                tt,
                (tt, (tt, (h, (tt, (tt, (h, (h, (h, (h, (h, (tt, (tt, (tt, (h, (tt, tt))))))))))))))),
              ),
            ),
          ),
        ),
      ),
    ),
  ),
)

-- two rows of one instruction, with other operands: of one name, and where the one has an immediate so has
-- the other
abbrev AreAlike : Instr → Instr → Type 0
AreAlike x y =
    (mnemonic_of x ≡ mnemonic_of y) × (list_any is_imm (operands_of x) ≡ true → has_immediate y ≡ true)

abbrev AllAlike : List Instr → List Instr → Type 0
AllAlike [] ys = Unit {0}
AllAlike (x ∷ xs) [] = ⊥
AllAlike (x ∷ xs) (y ∷ ys) = AreAlike x y × AllAlike xs ys

rows_alike : (a b c : Reg) (z : ℤ) → AllAlike (all_with Pc Pc Pc (Imm (pos 0))) (all_with a b c (Imm z))
unfolding all_with
rows_alike a b c z = (
  (refl, λ h. h),
  (
    (refl, λ h. h),
    (
      (refl, λ h. h),
      (
        (refl, λ h. h),
        (
          (refl, λ h. h),
          (
            (refl, λ h. h),
            (
              (refl, λ h. h),
              (
                (refl, λ h. h),
                (
                  (refl, λ h. h),
                  (
                    (refl, λ h. h),
                    (
                      (refl, λ h. h),
                      (
                        (refl, λ h. h),
                        (
                          (refl, λ h. h),
                          (
                            (refl, λ h. h),
                            (
                              (refl, λ h. h),
                              (
                                (refl, λ h. h),
                                (
                                  (refl, λ h. h),
                                  (
                                    (refl, λ h. h),
                                    (
                                      (refl, λ h. h),
                                      (
                                        (refl, λ h. h),
                                        ((refl, λ h. h), ((refl, λ h. h), ((refl, λ h. h), tt))),
                                      ),
                                    ),
                                  ),
                                ),
                              ),
                            ),
                          ),
                        ),
                      ),
                    ),
                  ),
                ),
              ),
            ),
          ),
        ),
      ),
    ),
  ),
)

by_tests : (p q : Bool) (row x r y : Instr) (o u : Option Instr) → p ≡ q → AreAlike x y
    → (o ≡ Some row → u ≡ Some r → list_any is_imm (operands_of row) ≡ true → has_immediate r ≡ true)
    → cond p (Some x) o ≡ Some row → cond q (Some y) u ≡ Some r → list_any is_imm (operands_of row) ≡ true
    → has_immediate r ≡ true
by_tests true true row x r y o u same alike there h k imm =
    let e : x ≡ row = cc in
    let f : y ≡ r = cc in
    subst (λ i. has_immediate i ≡ true) f (alike.1 (ap (λ i. list_any is_imm (operands_of i)) e ∙ imm))
by_tests true false row x r y o u same alike there h k imm = absurd cc
by_tests false true row x r y o u same alike there h k imm = absurd cc
by_tests false false row x r y o u same alike there h k imm = there h k imm

found_alike : (name : List ℕ) (xs ys : List Instr) → AllAlike xs ys → (row i : Instr)
    → named mnemonic_of xs name ≡ Some row → named mnemonic_of ys name ≡ Some i
    → list_any is_imm (operands_of row) ≡ true → has_immediate i ≡ true
found_alike name [] ys all row i h k = absurd cc
found_alike name (x ∷ xs) [] all row i h k = absurd all
found_alike name (x ∷ xs) (y ∷ ys) all row i h k =
    by_tests (bytes_eq (mnemonic_of x) name) (bytes_eq (mnemonic_of y) name)
    row x i y (named mnemonic_of xs name) (named mnemonic_of ys name)
    (ap (λ m. bytes_eq m name) all.0.0) all.0 (found_alike name xs ys all.1 row i) h k

label_is_0 : (n : Last) → IsLabel n → plain n ≡ Imm (pos 0)
label_is_0 (Plain o) l = absurd l
label_is_0 (Code at name) l = refl
label_is_0 (Data at name) l = refl

-- an instruction that fits, and has an immediate where its last operand is a label
abbrev pub IsLine : Instr × Last → Type 0
IsLine x = IsInstr x.0 × (IsLabel x.1 → has_immediate x.0 ≡ true)

pub operands_fit : (at : ℕ) (name : List ℕ) (row : Instr) → row_named name ≡ Some row
    → Gets IsLine (operands_at at name (shape_of row))
unfolding operands_at
operands_fit at name row is =
    let shape = shape_of row in
    gets_then Any IsLine _ _ (gets_any (reg_if (nat_le 1 shape.regs))) (λ a _.
    gets_then Any IsLine _ _ (gets_any (reg_if (nat_le 2 shape.regs))) (λ b _.
    gets_then Any IsLine _ _ (gets_any (reg_if (nat_le 3 shape.regs))) (λ c _.
    gets_then _ IsLine _ _ (last_if_fits shape.last) (λ n fits.
    gets_then Any IsLine _ _ (gets_any end_at) (λ _ _.
    gets_then _ IsLine _ _ (gets_some (fault.Unknown at) (named mnemonic_of (all_with a b c (plain n)) name))
    (λ i found.
    gets_done IsLine (i, n) (
      found_in IsInstr _ (all_with a b c (plain n)) (all_are a b c (plain n) fits.0) i found,
      λ l. found_alike name _ _ (rows_alike a b c (pos 0)) row i is
          (subst (λ o. named mnemonic_of (all_with a b c o) name ≡ Some i) (label_is_0 n l) found) (fits.1 l),
    )))))))

-- ---- instructions as words

below : (n : ℕ) (i : Instr) → decode_of (pos n) ≡ Some i → n < 2251799813685248
unfolding decode_of
below n i h = by_bound (nat_lt n 2251799813685248) refl h
  where
    by_bound : (b : Bool) → nat_lt n 2251799813685248 ≡ b → cond b (if_numbered n (candidate n)) None ≡ Some i
        → n < 2251799813685248
    by_bound true is h = grind (arith, nat_tests, is)
    by_bound false is h = absurd cc

pub instr_fits : (i : Instr) → IsInstr i → IsPartWord (word.Int (pos (number_of i)))
instr_fits i h =
    let lt = below (number_of i) i (decode_of-number_of i h) in
    (record { sfits = omega (arith, lt) }, tt)
