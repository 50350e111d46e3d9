-- The rows of the table of templates that have values: an index, and two operands.
use Rattle.std.proofs.Common.{◌≡◌, ℕ, ◌+◌, ◌<◌, ◌≤◌, ℤ, pos, negsuc, List, length, Option, Some, None, Bool}
use Rattle.std.proofs.Common.{true, false, refl, sym, ap, ◌∙◌, subst, arith, ltb-false}
use Rattle.std.specs.Prelude.{nat_lt, int_lt, if◌then◌else◌}
use Rattle.std.specs.Ordering.{int_eq}
use Rattle.std.proofs.lemmas.Bool.{ltb-true}
use Rattle.cap_words.specs.declared.Word.TheVariants.{Int}
use Rattle.lcm_isa.specs.declared.Instr.TheVariants.{Fail, Plus, Cca}
use Rattle.lcm_machine.specs.Table.{fits_64, bit}
use Rattle.linked_starts.specs.Parts.{PartSeen}
use Rattle.overlay_machine.specs.declared.words.OWord.{OWord}
use Rattle.overlay_machine.specs.declared.words.OWord.TheVariants.{Plain}
use Rattle.overlay_machine.specs.State.{OpenFrame, OState}
use Rattle.overlay_machine.specs.Link.{Link, IsTrusted}
use Rattle.overlay_machine.specs.Linked.{IsLink}
use Rattle.proc_language.specs.declared.tree.Op.{Op}
use Rattle.proc_language.specs.declared.tree.Op.TheVariants as operator
use Rattle.proc_program.specs.declared.program.Array.{Array}
use Rattle.proc_templates.specs.Templates.{op_code}
use Rattle.source_laws.proofs.Refined.{Comp, World, Then, element, with_place, operated, with_number}
use Rattle.source_laws.proofs.Refined.{result_of}
use Rattle.proc_semantics.specs.Values.{Store}
use Rattle.proc_semantics.specs.Values as values
use Rattle.template_runs.proofs.Offers.{At, Placed, Code, Away, Stand, guarded, words_in, index_tests}
use Rattle.template_runs.proofs.Offers.{index_goes, below_fails, past_fails, to_element, value_by}
use Rattle.template_runs.proofs.Offers.{operator_goes, operator_fails, Owing, used}
use Rattle.lcm_isa.specs.declared.Reg.TheVariants.{Dat, G0}
use Rattle.lcm_isa.specs.declared.Operand.TheVariants.{R as InReg, Imm}
use Rattle.source_laws.proofs.Upto.{UpTo, upto, failing}

bit_same : (b : Bool) → bit b ≡ values.bit b
bit_same true = refl
bit_same false = refl

value_is : (u : Op) (x y : ℤ) → value_by u x y ≡ result_of u x y
value_is operator.Plus x y = refl
value_is operator.Minus x y = refl
value_is operator.Less x y = ap Some (bit_same (int_lt x y))
value_is operator.Equal x y = ap Some (bit_same (int_eq x y))

module _ (world : World) (g : Link) (linked : IsLink g) (p : PartSeen) (ip : IsTrusted g p) (w top : ℕ)
    (fs : List OpenFrame)
    (ow : Owing fs) (n : ℕ) where
  abbrev Inside : ℤ → List OWord → (ℕ → OWord) → OState → Type 0
  Inside = Away g linked p ip w top fs

  -- the test of an index, which is in g0
  pub index_law : (fail : Placed g linked p 0 Fail) (a : Array) (k c b : ℕ) (x : ℤ) (words : List OWord)
      (mem : ℕ → OWord) (o : OState) (z : ℤ) (kk : ℕ → Comp)
      → Code g linked p k (guarded g linked p 0 k (index_tests a.length)) → At g linked p k o
      → Inside z words mem o
      → o.maps.regs.g0 ≡ Plain (Int x)
      → ((i : ℕ) (q : OState) → x ≡ pos i → i < a.length → Inside z words mem q → At g linked p (k + 8) q
      → q.maps.regs.g0 ≡ Plain (Int (pos i)) → q.maps.regs.a0 ≡ o.maps.regs.a0
      → UpTo g ow.owes (used w top) n b q (kk (a.first + i)))
      → 8 + b ≤ c → UpTo g ow.owes (used w top) n c o (element world a x kk)
  index_law fail a k c b (negsuc i) words mem o z kk code at h e u le =
      below_fails g linked p ip w top fs fail a.length (failing g ow.owes (used w top) n) k c i words mem
      o z code at h e
      (omega (arith, le))
  index_law fail a k c b (pos i) words mem o z kk code at h e u le = by (nat_lt i a.length) refl
    where
      by : (t : Bool) → nat_lt i a.length ≡ t → UpTo g ow.owes (used w top) n c o (element world a (pos i) kk)
      by true t =
          let lt : i < a.length = ltb-true i a.length t in
          subst (UpTo g ow.owes (used w top) n c o)
          (sym (ap (λ y. with_place world (if y then Some (a.first + i) else None) kk) t))
          (index_goes g linked p ip w top fs fail a.length
          (upto g ow.owes (used w top) n (kk (a.first + i))) k c b i words
          mem o z code at h e lt
          (λ q h2 at2 g2 a2. u i q refl lt h2 at2 g2 a2) le)
      by false t =
          subst (UpTo g ow.owes (used w top) n c o)
          (sym (ap (λ y. with_place world (if y then Some (a.first + i) else None) kk) t))
          (past_fails g linked p ip w top fs fail a.length (failing g ow.owes (used w top) n) k c i words
          mem o z code at h
          e (ltb-false i a.length t) (omega (arith, le)))

  -- the data register at the element whose index is in g0, of an array that begins after so many words
  pub reach_law : (before first : ℕ) (words : List OWord) (mem : ℕ → OWord) (m : Comp) (k c b i : ℕ)
      (o : OState)
      → Placed g linked p k (Plus G0 G0 (Imm (pos (before + first))))
      → Placed g linked p (k + 1) (Cca Dat (InReg G0))
      → At g linked p k o → Inside (pos p.component.data_base) words mem o
      → o.maps.regs.g0 ≡ Plain (Int (pos i))
      → before + (first + i) < length p.component.data_words
      → ((q : OState) → Inside (pos (p.component.data_base + (before + (first + i)))) words mem q
      → At g linked p (k + 1 + 1) q → q.maps.regs.g0 ≡ Plain (Int (pos (before + (first + i))))
      → q.maps.regs.a0 ≡ o.maps.regs.a0 → UpTo g ow.owes (used w top) n b q m)
      → 2 + b ≤ c → UpTo g ow.owes (used w top) n c o m
  reach_law before first words mem m k c b i o code1 code2 at h e lt u le =
      let z : before + first + i ≡ before + (first + i) = omega arith in
      to_element g linked p ip w top fs (before + first) words mem (upto g ow.owes (used w top) n m) k c b
      i o code1 code2
      at h e
      (subst (λ x. x < length p.component.data_words) (sym z) lt)
      (λ q h2 at2 g2 a2. u q (subst (λ x. Inside (pos (p.component.data_base + x)) words mem q) z h2) at2
      (g2 ∙ ap (λ x. Plain (Int (pos x))) z) a2) le

  -- all four operators, within five words
  pub operator_law : (end k c : ℕ) (x y z : ℤ) (words : List OWord) (mem : ℕ → OWord) (kk : Then) (st : Store)
      (o : OState)
      → At g linked p k o → Inside z words mem o → o.maps.regs.g0 ≡ Plain (Int x)
      → o.maps.regs.g1 ≡ Plain (Int y)
      → (u : Op) → Stand g linked p end k (op_code u)
      → ((v : ℤ) (q : OState) → At g linked p (k + words_in (op_code u)) q → Inside z words mem q
      → q.maps.regs.g0 ≡ Plain (Int v) → fits_64 v ≡ true → UpTo g ow.owes (used w top) n c q (kk v st))
      → UpTo g ow.owes (used w top) n (5 + c) o (operated world u x y kk st)
  operator_law end k c x y z words mem kk st o at h ex ey u code cont = by (value_by u x y) refl
    where
      by : (r : Option ℤ) → value_by u x y ≡ r → UpTo g ow.owes (used w top) n (5 + c) o
          (operated world u x y kk st)
      by (Some v) e =
          subst (UpTo g ow.owes (used w top) n (5 + c) o)
          (ap (λ t. with_number world t kk st) (sym e ∙ value_is u x y))
          (operator_goes g linked p ip w top fs end k c x y z words mem o at h ex ey
          (upto g ow.owes (used w top) n (kk v st)) u v code e (λ q at2 h2 e2 f2. cont v q at2 h2 e2 f2))
      by None e =
          subst (UpTo g ow.owes (used w top) n (5 + c) o)
          (ap (λ t. with_number world t kk st) (sym e ∙ value_is u x y))
          (operator_fails g linked p ip w top fs end k c x y z words mem o at h ex ey
          (failing g ow.owes (used w top) n) u
          code e)
