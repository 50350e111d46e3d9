-- The value of a call from outside, and where untrusted code runs.
use Rattle.std.proofs.Common.{◌≡◌, ◌≢◌, ℕ, ◌+◌, ◌≤◌, ℤ, pos, Option, Some, None, Bool, true, false, refl, sym}
use Rattle.std.proofs.Common.{ap, ◌∙◌}
use Rattle.std.specs.Prelude.{if◌then◌else◌}
use Rattle.cap_words.specs.declared.Word.{Word}
use Rattle.cap_words.specs.declared.Word.TheVariants.{Int, Mem, Seal, Sealed}
use Rattle.lcm_isa.specs.declared.Reg.{Reg}
use Rattle.lcm_isa.specs.declared.Reg.TheVariants.{Pc, A0, G0}
use Rattle.lcm_isa.specs.declared.Operand.TheVariants.{Imm}
use Rattle.lcm_isa.specs.declared.Instr.TheVariants.{Plus}
use Rattle.lcm_machine.specs.declared.Place.TheVariants.{R}
use Rattle.lcm_machine.specs.Places.{reg}
use Rattle.lcm_machine.specs.Table.{fits_64}
use Rattle.lcm_machine.specs.Row.{put}
use Rattle.lcm_machine.proofs.Offers.{plus_goes}
use Rattle.linked_starts.specs.Parts.{PartSeen}
use Rattle.trusted_border.specs.declared.layout.SiteCode.{SiteCode}
use Rattle.overlay_machine.specs.declared.words.OWord.{OWord}
use Rattle.overlay_machine.specs.declared.words.OWord.TheVariants.{Plain, RetCode, RetData}
use Rattle.overlay_machine.specs.Words.{look}
use Rattle.overlay_machine.specs.State.{OpenFrame, OState}
use Rattle.overlay_machine.specs.Flat.{flat, flat_range}
use Rattle.overlay_machine.specs.Link.{Link}
use Rattle.overlay_machine.specs.Linked.{IsLink}
use Rattle.overlay_machine.specs.Safe.{IsMet}
use Rattle.overlay_machine.proofs.Offers.{frame_in}
use Rattle.overlay_machine.specs.Invariant.{PcPart, at_fail, at_row, outside}
use Rattle.run_lines.specs.Views.{flat_view}
use Rattle.run_lines.specs.Feed.{integer_in}
use Rattle.template_runs.proofs.Numbers.{zero_more}
use Rattle.template_runs.proofs.Entries.{plus_fails}
use Rattle.template_runs.specs.Public.{IsPublic}
use Rattle.template_runs.specs.Runs.{is_inside, RunsOn, Failing}
use Rattle.template_runs.proofs.Valid.{Valid}
use Rattle.template_runs.proofs.Steps.{At, Placed, next_pc, go, stop, inside_here}
use Rattle.template_runs.proofs.Outside.{Out}

pub int_back : (l : Word) (v : ℤ) → integer_in l ≡ Some v → (l ≡ Int v) × (fits_64 v ≡ true)
int_back (Int z) v e = by (fits_64 z) refl e
  where
    by : (b : Bool) → fits_64 z ≡ b → (if b then Some z else None) ≡ Some v → (Int z ≡ Int v)
        × (fits_64 v ≡ true)
    by true f e = let s : z ≡ v = cc in (ap Int s, ap fits_64 (sym s) ∙ f)
    by false f e = absurd cc
int_back (Mem c) v e = absurd cc
int_back (Seal c) v e = absurd cc
int_back (Sealed n x) v e = absurd cc

-- untrusted code runs where pc isn't trusted
module _ (g : Link) (linked : IsLink g) where
  pub out_of : (o : OState) → Valid g linked o → is_inside g.layout o ≡ false
      → ((r : Reg) → IsPublic g (reg o.maps.regs r)) → Out g linked o
  out_of o v left public = by v.holds.pc
    where
      inside : (p : PartSeen) (k : ℕ) → At g linked p k o → ⊥
      inside p k at = let bad : true ≡ false = sym (inside_here g linked p k o at) ∙ left in cc

      by : PcPart g o.frames o.maps.regs → Out g linked o
      by (at_fail p k ip f h) = absurd (inside p k (record { trusted = ip; pc = h }))
      by (at_row p k ip st) = absurd (inside p k (record { trusted = ip; pc = st.at_pc }))
      by (outside h) = record { valid = v; safe = λ r. (h r, public r) }

  -- ---- the value of a call

  module _ (p : PartSeen) (k : ℕ) (q : OState) (v : Valid g linked q) (at : At g linked p k q)
      (code : Placed g linked p k (Plus G0 A0 (Imm (pos 0)))) where
    abbrev pub took : ℤ → OState
    took z = record q { maps = put (put q.maps (R G0) (Plain (Int z))) (R Pc) (Plain (next_pc g linked p k)) }

    pub take_law : (want : RunsOn g.layout) (z : ℤ) (c b : ℕ) → look q.maps.regs.a0 ≡ Int z → fits_64 z ≡ true
        → (Valid g linked (took z) → At g linked p (k + 1) (took z) → want.Good b (took z)) → 1 + b ≤ c
        → want.Good c q
    take_law want z c b e fit u le =
        want.spend (1 + b) c q le
        (go g linked p k (Plus G0 A0 (Imm (pos 0))) q v at code refl want b _
        (plus_goes look Plain G0 A0 (Imm (pos 0)) _ q.maps z (pos 0) z refl e refl (zero_more z) fit) refl
        refl u)

    pub take_fails : (want : Failing g.layout) (c : ℕ) → integer_in (look q.maps.regs.a0) ≡ None → 1 ≤ c
        → want.runs.Good c q
    take_fails want c i le =
        let f = plus_fails g linked p k G0 A0 (next_pc g linked p k) q.maps refl i (look q.maps.regs.a0)
        refl in
        stop g linked p k (Plus G0 A0 (Imm (pos 0))) q v at code refl want c f.0 _ f.1 le

  -- what the flat word of a met word shows is what the word shows
  pub flat_int : (q : OState) → Valid g linked q
      → integer_in ((flat_view g.layout q).reg A0) ≡ integer_in (look q.maps.regs.a0)
  unfolding flat
  flat_int q v = by q.maps.regs.a0 refl (v.holds.met (R A0) q.maps.regs.a0 refl)
    where
      by_frame : (o : Option SiteCode) (f : OpenFrame) → o ≢ None → integer_in (flat_range f o) ≡ None
      by_frame None f ne = absurd (ne refl)
      by_frame (Some s) f ne = refl

      by : (w : OWord) → q.maps.regs.a0 ≡ w → IsMet g q.frames w
          → integer_in (flat g.layout q.frames q.maps.regs.a0) ≡ integer_in (look q.maps.regs.a0)
      by (Plain x) is m = rw is refl
      by (RetCode i) is m = rw (is, m.1) refl
      by (RetData k) is m =
          let f = frame_in q.frames k m.0 m.1 in
          let fit = v.holds.frames_fit m.0 f.0 in
          rw (is, m.1, fit.code_is) refl
