-- The check of a callback: two registers hold sealed words that aren't linear, or it fails.
use Rattle.std.proofs.Common.{◌≡◌, ℕ, ◌+◌, ◌≤◌, ℤ, pos, negsuc, ◌+ℤ◌, ◌-ℤ◌, [], ◌∷◌, Bool, true, false, refl}
use Rattle.std.proofs.Common.{sym, ap, ◌∙◌, subst, arith}
use Rattle.std.specs.Prelude.{if◌then◌else◌}
use Rattle.std.proofs.lemmas.Int.{ints}
use Rattle.cap_words.specs.declared.Word.{Word}
use Rattle.cap_words.specs.declared.Word.TheVariants.{Int, Mem, Seal, Sealed}
use Rattle.cap_words.specs.declared.Sealable.{Sealable}
use Rattle.cap_words.specs.declared.Sealable.TheVariants.{Mem as MemIn, Seal as SealIn}
use Rattle.cap_words.specs.Linear.{is_linear}
use Rattle.cap_words.specs.Face.{face_of}
use Rattle.cap_words.specs.Faces.{face_number, face_linear}
use Rattle.lcm_isa.specs.declared.Reg.{Reg}
use Rattle.lcm_isa.specs.declared.Reg.TheVariants.{Pc, T1, T2}
use Rattle.lcm_isa.specs.declared.Operand.TheVariants.{R as InReg, Imm}
use Rattle.lcm_isa.specs.declared.Instr.TheVariants.{Fail, Move, Cca, Gettype, Getlin, Minus, Jnz}
use Rattle.lcm_machine.specs.declared.Place.TheVariants.{R}
use Rattle.lcm_machine.specs.Maps.{State, Regs}
use Rattle.lcm_machine.specs.Places.{reg}
use Rattle.lcm_machine.specs.Table.{fits_64, is_zero, bit}
use Rattle.lcm_machine.specs.Row.{put}
use Rattle.lcm_machine.specs.Runs.{code_cap}
use Rattle.lcm_machine.proofs.Offers.{is_linear-face, stays, fail_fails, gettype_goes, getlin_goes}
use Rattle.lcm_machine.proofs.Offers.{minus_goes, jnz_goes, jnz_jumps, move_goes, cca_goes}
use Rattle.call_sequence.specs.Holds.{code_at}
use Rattle.linked_starts.specs.Parts.{PartSeen}
use Rattle.overlay_machine.specs.declared.words.OWord.{OWord}
use Rattle.overlay_machine.specs.declared.words.OWord.TheVariants.{Plain}
use Rattle.overlay_machine.specs.Words.{look}
use Rattle.overlay_machine.specs.State.{OState}
use Rattle.overlay_machine.specs.Link.{Link, IsTrusted, ranges_of}
use Rattle.overlay_machine.specs.Linked.{IsLink}
use Rattle.overlay_machine.proofs.Offers.{in_code, code_small}
use Rattle.template_runs.proofs.Numbers.{fits_small}
use Rattle.std.proofs.lemmas.Option.{slice_get_within}
use Rattle.proc_templates.specs.Templates.{check_half}
use Rattle.template_runs.specs.Runs.{RunsOn, Failing}
use Rattle.template_runs.proofs.Valid.{Valid}
use Rattle.template_runs.proofs.Steps.{At, Placed, Code, next_pc, go, go_to, stop}

-- sealed, and not linear
abbrev pub is_half : Word → Bool
is_half (Int z) = false
is_half (Mem c) = false
is_half (Seal s) = false
is_half (Sealed n x) = if is_linear (Sealed n x) then false else true

module _ (g : Link) (linked : IsLink g) (p : PartSeen) (f : ℕ) (failing : Placed g linked p f Fail) where
  -- the word at the part's `fail`
  pub fail_law : (want : Failing g.layout) → (o : OState) (c : ℕ) → Valid g linked o → At g linked p f o
      → 1 ≤ c → want.runs.Good c o
  fail_law want o c v at le =
      stop g linked p f Fail o v at failing refl want c _ _
      (fail_fails look Plain (next_pc g linked p f) o.maps) le

  abbrev tested : State OWord → ℤ → ℕ → State OWord
  tested s x i = put (put s (R T1) (Plain (Int x))) (R Pc) (Plain (next_pc g linked p i))

  -- the test of t1, with t2 the pc of the `fail`
  jump_fails : (want : Failing g.layout) → (k c : ℕ) (z : ℤ) (o : OState) → Valid g linked o
      → At g linked p k o → Placed g linked p k (Jnz T2 T1)
      → o.maps.regs.t2 ≡ Plain (Mem (code_at (ranges_of p) f)) → o.maps.regs.t1 ≡ Plain (Int z)
      → is_zero z ≡ false → 2 ≤ c → want.runs.Good c o
  jump_fails want k c z o v at code t2 t1 nz le =
      let less : 1 + 1 ≤ c = omega (arith, le) in
      let one : 1 ≤ 1 = omega arith in
      want.runs.spend (1 + 1) c o less
      (go_to g linked p k (Jnz T2 T1) o v at code refl want.runs 1 f (put o.maps (R Pc) o.maps.regs.t2)
      (jnz_jumps look Plain T2 T1 _ o.maps o.maps z (ap look t1) nz
      (stays look Plain o.maps (R T2) (ap (λ x. is_linear (look x)) t2))) (ap look t2) refl
      (λ v1 at1. fail_law want (record o { maps = put o.maps (R Pc) o.maps.regs.t2 }) 1 v1 at1 one))

  -- a register that t1 and pc aren't
  abbrev pub Keeps : Reg → Type 0
  Keeps h = (rs : Regs OWord) (x y : OWord) → reg (record rs { pc = x; t1 = y }) h ≡ reg rs h

  abbrev pub half_tested : OState → ℕ → OState
  half_tested o k = record o {
    maps =
        record o.maps {
          regs =
              record o.maps.regs {
                pc = Plain (next_pc g linked p (k + 1 + 1 + 1 + 1));
                t1 = Plain (Int (pos 0));
              };
        };
  }

  module _ (h : Reg) (keeps : Keeps h) (k : ℕ) (o : OState) (v : Valid g linked o) (at : At g linked p k o)
      (code : Code g linked p k (check_half h)) (t2 : o.maps.regs.t2 ≡ Plain (Mem (code_at (ranges_of p) f)))
    where
      pub half_goes : (want : RunsOn g.layout) → (c b s : ℕ) (x : Sealable)
          → look (reg o.maps.regs h) ≡ Sealed s x → is_linear (Sealed s x) ≡ false
          → (Valid g linked (half_tested o k) → At g linked p (k + 1 + 1 + 1 + 1 + 1) (half_tested o k)
          → want.Good b (half_tested o k)) → 5 + b ≤ c → want.Good c o
      half_goes want c b s x e nl u le =
          let less : 1 + (1 + (1 + (1 + (1 + b)))) ≤ c = omega (arith, le) in
          let s1 = tested o.maps (face_number (face_of (Sealed s x))) k in
          let three : face_number (face_of (Sealed s x)) ≡ pos 3 = number_sealed s x in
          let s2 = tested s1 (pos 0) (k + 1) in
          let s3 = put s2 (R Pc) (Plain (next_pc g linked p (k + 1 + 1))) in
          let s4 = tested s3 (bit (face_linear (face_of (Sealed s x)))) (k + 1 + 1 + 1) in
          let lin : bit (face_linear (face_of (Sealed s x))) ≡ pos 0 =
          ap bit (sym (is_linear-face (Sealed s x)) ∙ nl) in
          let s5 = put s4 (R Pc) (Plain (next_pc g linked p (k + 1 + 1 + 1 + 1))) in
          let h3 : look (reg s3.regs h) ≡ Sealed s x = ap look (keeps o.maps.regs _ _) ∙ e in
          want.spend _ c o less
          (go g linked p k (Gettype T1 h) o v at code.0 refl want _ s1
          (gettype_goes look Plain T1 h _ o.maps (Sealed s x) refl e) refl refl (λ v1 at1.
          go g linked p (k + 1) (Minus T1 T1 (Imm (pos 3))) (record o { maps = s1 }) v1 at1 code.1.0 refl want
          _ s2 (minus_goes look Plain T1 T1 (Imm (pos 3)) _ s1 (face_number (face_of (Sealed s x))) (pos 3)
          (pos 0) refl refl refl (ap (λ y. y -ℤ pos 3) three) refl) refl refl (λ v2 at2.
          go g linked p (k + 1 + 1) (Jnz T2 T1) (record o { maps = s2 }) v2 at2 code.1.1.0 refl want _ s3
          (jnz_goes look Plain T2 T1 _ s2 (pos 0) refl refl) refl refl (λ v3 at3.
          go g linked p (k + 1 + 1 + 1) (Getlin T1 h) (record o { maps = s3 }) v3 at3 code.1.1.1.0 refl want
          _ s4 (getlin_goes look Plain T1 h _ s3 (Sealed s x) refl h3) refl refl (λ v4 at4.
          go g linked p (k + 1 + 1 + 1 + 1) (Jnz T2 T1) (record o { maps = s4 }) v4 at4 code.1.1.1.1.0 refl
          want
          b s5 (jnz_goes look Plain T2 T1 _ s4 (bit (face_linear (face_of (Sealed s x)))) refl
          (ap is_zero lin)) refl refl (λ v5 at5.
          ended b s x lin u v5 at5))))))
        where
          number_sealed : (s : ℕ) (x : Sealable) → face_number (face_of (Sealed s x)) ≡ pos 3
          number_sealed s (MemIn c) = refl
          number_sealed s (SealIn c) = refl

          ended : (b s : ℕ) (x : Sealable) → bit (face_linear (face_of (Sealed s x))) ≡ pos 0
              → (Valid g linked (half_tested o k) → At g linked p (k + 1 + 1 + 1 + 1 + 1) (half_tested o k)
              → want.Good b (half_tested o k))
              → Valid g linked (record
              o {
                maps = record o.maps {
                  regs =
                      record o.maps.regs {
                        pc = Plain (next_pc g linked p (k + 1 + 1 + 1 + 1));
                        t1 = Plain (Int (bit (face_linear (face_of (Sealed s x)))));
                      };
                };
              })
              → At g linked p (k + 1 + 1 + 1 + 1 + 1)
              (record o {
                maps = record o.maps {
                  regs =
                      record o.maps.regs {
                        pc = Plain (next_pc g linked p (k + 1 + 1 + 1 + 1));
                        t1 = Plain (Int (bit (face_linear (face_of (Sealed s x)))));
                      };
                };
              })
              → want.Good b (record
              o {
                maps = record o.maps {
                  regs =
                      record o.maps.regs {
                        pc = Plain (next_pc g linked p (k + 1 + 1 + 1 + 1));
                        t1 = Plain (Int (bit (face_linear (face_of (Sealed s x)))));
                      };
                };
              })
          ended b s x lin u v5 at5 =
              let same : record o {
                maps =
                    record o.maps {
                      regs =
                          record o.maps.regs {
                            pc = Plain (next_pc g linked p (k + 1 + 1 + 1 + 1));
                            t1 = Plain (Int (bit (face_linear (face_of (Sealed s x)))));
                          };
                    };
              } ≡ half_tested o k =
              ap (λ z. record o {
                maps =
                    record o.maps {
                      regs =
                          record o.maps.regs {
                            pc = Plain (next_pc g linked p (k + 1 + 1 + 1 + 1));
                            t1 = Plain (Int z);
                          };
                    };
              }) lin in
              subst (λ y. want.Good b y) (sym same)
              (u (subst (Valid g linked) same v5) (subst (At g linked p (k + 1 + 1 + 1 + 1 + 1)) same at5))

      -- any other word fails
      type_fails : (want : Failing g.layout) → (c : ℕ) (x : Word) (d : ℤ) → look (reg o.maps.regs h) ≡ x
          → face_number (face_of x) -ℤ pos 3 ≡ d → fits_64 d ≡ true → is_zero d ≡ false → 4 ≤ c
          → want.runs.Good c o
      type_fails want c x d e ed fit nz le =
          let less : 1 + (1 + 2) ≤ c = omega (arith, le) in
          let two : 2 ≤ 2 = omega arith in
          let s1 = tested o.maps (face_number (face_of x)) k in
          let s2 = tested s1 d (k + 1) in
          want.runs.spend _ c o less
          (go g linked p k (Gettype T1 h) o v at code.0 refl want.runs _ s1
          (gettype_goes look Plain T1 h _ o.maps x refl e) refl refl (λ v1 at1.
          go g linked p (k + 1) (Minus T1 T1 (Imm (pos 3))) (record o { maps = s1 }) v1 at1 code.1.0 refl
          want.runs 2 s2 (minus_goes look Plain T1 T1 (Imm (pos 3)) _ s1 (face_number (face_of x)) (pos 3) d
          refl refl refl ed fit) refl refl (λ v2 at2.
          jump_fails want (k + 1 + 1) 2 d (record o { maps = s2 }) v2 at2 code.1.1.0 t2 refl nz two)))

      linear_fails : (want : Failing g.layout) → (c s : ℕ) (x : Sealable)
          → look (reg o.maps.regs h) ≡ Sealed s x → face_number (face_of (Sealed s x)) ≡ pos 3
          → is_linear (Sealed s x) ≡ true → 6 ≤ c → want.runs.Good c o
      linear_fails want c s x e three l le =
          let less : 1 + (1 + (1 + (1 + 2))) ≤ c = omega (arith, le) in
          let two : 2 ≤ 2 = omega arith in
          let s1 = tested o.maps (face_number (face_of (Sealed s x))) k in
          let s2 = tested s1 (pos 0) (k + 1) in
          let s3 = put s2 (R Pc) (Plain (next_pc g linked p (k + 1 + 1))) in
          let s4 = tested s3 (bit (face_linear (face_of (Sealed s x)))) (k + 1 + 1 + 1) in
          let lin : is_zero (bit (face_linear (face_of (Sealed s x)))) ≡ false =
          ap (λ y. is_zero (bit y)) (sym (is_linear-face (Sealed s x)) ∙ l) in
          let h3 : look (reg s3.regs h) ≡ Sealed s x = ap look (keeps o.maps.regs _ _) ∙ e in
          want.runs.spend _ c o less
          (go g linked p k (Gettype T1 h) o v at code.0 refl want.runs _ s1
          (gettype_goes look Plain T1 h _ o.maps (Sealed s x) refl e) refl refl (λ v1 at1.
          go g linked p (k + 1) (Minus T1 T1 (Imm (pos 3))) (record o { maps = s1 }) v1 at1 code.1.0 refl
          want.runs _ s2 (minus_goes look Plain T1 T1 (Imm (pos 3)) _ s1
          (face_number (face_of (Sealed s x))) (pos 3) (pos 0) refl refl refl (ap (λ y. y -ℤ pos 3) three)
          refl) refl refl (λ v2 at2.
          go g linked p (k + 1 + 1) (Jnz T2 T1) (record o { maps = s2 }) v2 at2 code.1.1.0 refl want.runs _ s3
          (jnz_goes look Plain T2 T1 _ s2 (pos 0) refl refl) refl refl (λ v3 at3.
          go g linked p (k + 1 + 1 + 1) (Getlin T1 h) (record o { maps = s3 }) v3 at3 code.1.1.1.0 refl
          want.runs 2 s4 (getlin_goes look Plain T1 h _ s3 (Sealed s x) refl h3) refl refl (λ v4 at4.
          jump_fails want (k + 1 + 1 + 1 + 1) 2 (bit (face_linear (face_of (Sealed s x))))
          (record o { maps = s4 }) v4 at4 code.1.1.1.1.0 t2 refl lin two)))))

      pub half_fails : (want : Failing g.layout) → (c : ℕ) (x : Word) → look (reg o.maps.regs h) ≡ x
          → is_half x ≡ false → 6 ≤ c → want.runs.Good c o
      half_fails want c (Int z) e i le =
          type_fails want c (Int z) (negsuc 2) e refl refl refl (omega (arith, le))
      half_fails want c (Mem z) e i le =
          type_fails want c (Mem z) (negsuc 1) e refl refl refl (omega (arith, le))
      half_fails want c (Seal z) e i le =
          type_fails want c (Seal z) (negsuc 0) e refl refl refl (omega (arith, le))
      half_fails want c (Sealed s (MemIn x)) e i le =
          linear_fails want c s (MemIn x) e refl (linear_is (is_linear (Sealed s (MemIn x))) i) le
        where
          linear_is : (b : Bool) → (if b then false else true) ≡ false → b ≡ true
          linear_is true h = refl
          linear_is false h = cc
      half_fails want c (Sealed s (SealIn x)) e i le = absurd (let k : true ≡ false = i in cc)

  -- ---- the pc of the `fail`, before the tests

  abbrev pub at_fail : OState → ℕ → OState
  at_fail o k = record o {
    maps =
        record o.maps {
          regs =
              record o.maps.regs {
                pc = Plain (next_pc g linked p (k + 1));
                t2 = Plain (Mem (code_at (ranges_of p) f));
              };
        };
  }

  pub fail_pc_law : (want : RunsOn g.layout) → (k c b : ℕ) (o : OState) → IsTrusted g p → Valid g linked o
      → At g linked p k o → Code g linked p k (Move T2 (InReg Pc) ∷ Cca T2 (Imm (pos f -ℤ pos k)) ∷ [])
      → (Valid g linked (at_fail o k) → At g linked p (k + 1 + 1) (at_fail o k) → want.Good b (at_fail o k))
      → 2 + b ≤ c → want.Good c o
  fail_pc_law want k c b o ip v at code u le =
      let less : 1 + (1 + b) ≤ c = omega (arith, le) in
      let here = code_cap (ranges_of p).code_base (ranges_of p).code_last (p.component.code_base + k) in
      let s1 = put (put o.maps (R T2) o.maps.regs.pc) (R Pc) (Plain (next_pc g linked p k)) in
      let s2 = put (put s1 (R T2) (Plain (Mem (code_at (ranges_of p) f)))) (R Pc)
      (Plain (next_pc g linked p (k + 1))) in
      let top = in_code g linked p f ip (slice_get_within p.component.code f _ failing.has) in
      let small = code_small g linked p ip in
      let fit : fits_64 (pos (p.component.code_base + f)) ≡ true =
      fits_small (p.component.code_base + f) (omega (arith, top, small)) in
      let e : pos (p.component.code_base + k) +ℤ (pos f -ℤ pos k) ≡ pos (p.component.code_base + f) =
      omega (arith, ints) in
      want.spend _ c o less
      (go g linked p k (Move T2 (InReg Pc)) o v at code.0 refl want _ s1
      (move_goes look Plain T2 Pc _ o.maps o.maps refl
      (stays look Plain o.maps (R Pc) (ap is_linear at.pc))) refl refl (λ v1 at1.
      go g linked p (k + 1) (Cca T2 (Imm (pos f -ℤ pos k))) (record o { maps = s1 }) v1 at1 code.1.0 refl want
      b s2 (cca_goes look Plain T2 (Imm (pos f -ℤ pos k)) _ s1 here (pos f -ℤ pos k)
      (pos (p.component.code_base + f)) refl at.pc refl e fit) refl refl (λ v2 at2. u v2 at2)))
