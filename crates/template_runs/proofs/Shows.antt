-- What registers hold where trusted code lets go of control: after a call, and after the end of a
-- procedure.
use Rattle.std.proofs.Common.{◌≡◌, ◌≢◌, ◌⊎◌, inl, inr, ℕ, ◌+◌, ◌-◌, ◌≤◌, pos, List, Some, refl, sym, ap, ◌∙◌}
use Rattle.std.proofs.Common.{IsSome, arith}
use Rattle.cap_words.specs.declared.Word.{Word}
use Rattle.cap_words.specs.declared.Word.TheVariants.{Int, Mem, Seal, Sealed}
use Rattle.cap_words.specs.declared.CapFields.{CapFields}
use Rattle.cap_words.specs.declared.Opened.{Opened as WordOpened}
use Rattle.cap_words.specs.declared.Sealable.{Sealable}
use Rattle.cap_words.specs.declared.Sealable.TheVariants.{Mem as MemIn, Seal as SealIn}
use Rattle.cap_words.specs.declared.Content.{Content}
use Rattle.cap_words.specs.declared.Content.TheVariants.{Mem as MemC, Seal as SealC}
use Rattle.cap_words.specs.Face.{opened_of}
use Rattle.cap_words.specs.Linear.{left_of, zero_word}
use Rattle.lcm_isa.specs.declared.Reg.{Reg}
use Rattle.lcm_isa.specs.declared.Reg.TheVariants.{Pc, Rcode, Rdata, Stk, Dat, T1, T2, C1, C2, A0, A1, A2, A3}
use Rattle.lcm_isa.specs.declared.Reg.TheVariants.{G0, G1, G2}
use Rattle.lcm_machine.specs.Places.{reg}
use Rattle.lcm_machine.specs.Table.{unsealed}
use Rattle.call_sequence.specs.Holds.{part_stack_cap as stack_at}
use Rattle.call_sequence.specs.SequenceRuns.{stack_cap}
use Rattle.linked_starts.specs.Parts.{PartSeen}
use Rattle.trusted_border.specs.declared.layout.SiteCode.{SiteCode}
use Rattle.overlay_machine.specs.declared.words.OWord.{OWord}
use Rattle.overlay_machine.specs.declared.words.OWord.TheVariants.{Plain}
use Rattle.overlay_machine.specs.Words.{look}
use Rattle.overlay_machine.specs.State.{OpenFrame, OState}
use Rattle.overlay_machine.specs.Step.{new_frame}
use Rattle.overlay_machine.specs.Link.{Link, IsTrusted, ranges_of}
use Rattle.overlay_machine.specs.Linked.{IsLink}
use Rattle.overlay_machine.proofs.Offers.{Crossed, mem_safe, stack_cells, mem_plain}
use Rattle.template_runs.specs.Border.{Opened, code_word, half_word, content_of, zero, ShowsCall, ShowsLeave}
use Rattle.template_runs.proofs.Outside.{opened_is}
use Rattle.template_runs.proofs.Ends.{Keeps}
use Rattle.template_runs.proofs.Calls.{Pair, SiteHere, called_to}
use Rattle.template_runs.proofs.Steps.{At}
use Rattle.template_runs.proofs.Rows.{Here}
use Rattle.template_runs.proofs.Valid.{Valid}
use Rattle.lcm_machine.specs.Cells.{cell}
use Rattle.overlay_machine.specs.Safe.{IsSafe}

abbrev seal_in : Content → Sealable
seal_in (MemC c) = MemIn c
seal_in (SealC s) = SealIn s

content_back : (c : Content) → content_of (seal_in c) ≡ c
content_back (MemC c) = refl
content_back (SealC s) = refl

opened_word : (w : Word) (h : WordOpened) → opened_of w ≡ Some h → w ≡ Sealed h.seal (seal_in h.content)
opened_word (Int z) h e = absurd cc
opened_word (Mem c) h e = absurd cc
opened_word (Seal c) h e = absurd cc
opened_word (Sealed n (MemIn c)) h e =
    let k : record { seal = n; content = MemC c } ≡ h = cc in
    ap (λ (x : WordOpened). Sealed x.seal (seal_in x.content)) k
opened_word (Sealed n (SealIn c)) h e =
    let k : record { seal = n; content = SealC c } ≡ h = cc in
    ap (λ (x : WordOpened). Sealed x.seal (seal_in x.content)) k

plain_is : (w : OWord) (x : Word) → w ≡ Plain x → look w ≡ x
plain_is w x e = ap look e

still_zero : (x y : OWord) → (x ≡ y) ⊎ (x ≡ zero_word Plain) → y ≡ zero → x ≡ zero
still_zero x y (inl e) z = e ∙ z
still_zero x y (inr e) z = e

module _ (g : Link) (linked : IsLink g) where
  -- a stack that is given away is all there
  pub given_there : (q : OState) → Valid g linked q → (end : ℕ) → end ≤ g.layout.stack.end
      → q.maps.regs.stk ≡ Plain (Mem (stack_cap g.layout.stack.base end end))
      → IsSafe g q.frames q.maps.regs.stk
      → (a : ℕ) → g.layout.stack.base ≤ a → a ≤ end → IsSome (cell q.maps.cells a)
  given_there q v end within is safe a lo hi =
      let s = mem_safe g q.frames q.maps.regs.stk (stack_cap g.layout.stack.base end end) (ap look is) safe in
      stack_cells g linked q.maps.cells q.frames v.holds.there a
      (lo, omega (arith, hi, within), s.free a lo hi)

  -- the end of a procedure, at which all registers but those of the return, the stack and the value hold 0
  module _ (p : PartSeen) (ip : IsTrusted g p) (top : ℕ) (o q : OState) (x y : Word)
      (ex : o.maps.regs.rcode ≡ Plain x) (ey : o.maps.regs.rdata ≡ Plain y)
      (stk : look o.maps.regs.stk ≡ Mem (stack_at (ranges_of p) top (pos top)))
      (clean : (d : Reg) → d ≢ Pc → d ≢ Dat → d ≢ Stk → d ≢ Rcode → d ≢ Rdata → d ≢ A0
      → reg o.maps.regs d ≡ zero)
      (r : Crossed Rcode Rdata o.maps q.maps) (k : Keeps o.maps q.maps) where
    abbrev pub pair_left : Opened
    pair_left = record { seal = r.code.seal; code = r.cap; half = seal_in r.half.content }

    code_is : o.maps.regs.rcode ≡ code_word pair_left
    code_is = ex ∙ ap Plain (opened_is x r.code r.cap (sym (ap (λ w. opened_of (look w)) ex) ∙ r.opens_code)
        r.memory)

    pub half_is : o.maps.regs.rdata ≡ half_word pair_left
    half_is = ey ∙ ap Plain (opened_word y r.half (sym (ap (λ w. opened_of (look w)) ey) ∙ r.opens_half))
        ∙ ap (λ n. Plain (Sealed n (seal_in r.half.content))) (sym r.one_seal)

    zero_in : (d : Reg) → d ≢ Pc → d ≢ Dat → d ≢ Stk → d ≢ Rcode → d ≢ Rdata → d ≢ A0
        → reg q.maps.regs d ≡ zero
    zero_in d n1 n2 n3 n4 n5 n6 =
        still_zero (reg q.maps.regs d) (reg o.maps.regs d) (r.others d n1 n2) (clean d n1 n2 n3 n4 n5 n6)

    pub shows_leave : ShowsLeave g.layout pair_left top q
    shows_leave = record {
      pc = r.pc;
      dat = r.dat ∙ ap (λ c. Plain (unsealed c)) (sym (content_back r.half.content));
      rcode = k.rcode ∙ code_is;
      rdata = k.rdata ∙ ap (left_of look Plain) half_is;
      stk = k.stk ∙ mem_plain o.maps.regs.stk _ stk
          ∙ ap (λ b. Plain (Mem (record (stack_cap b top top) { base = b }))) (linked.stack_bases p ip);
      t1 = zero_in T1 (λ e. cc) (λ e. cc) (λ e. cc) (λ e. cc) (λ e. cc) (λ e. cc);
      t2 = zero_in T2 (λ e. cc) (λ e. cc) (λ e. cc) (λ e. cc) (λ e. cc) (λ e. cc);
      c1 = zero_in C1 (λ e. cc) (λ e. cc) (λ e. cc) (λ e. cc) (λ e. cc) (λ e. cc);
      c2 = zero_in C2 (λ e. cc) (λ e. cc) (λ e. cc) (λ e. cc) (λ e. cc) (λ e. cc);
      a1 = zero_in A1 (λ e. cc) (λ e. cc) (λ e. cc) (λ e. cc) (λ e. cc) (λ e. cc);
      a2 = zero_in A2 (λ e. cc) (λ e. cc) (λ e. cc) (λ e. cc) (λ e. cc) (λ e. cc);
      a3 = zero_in A3 (λ e. cc) (λ e. cc) (λ e. cc) (λ e. cc) (λ e. cc) (λ e. cc);
      g0 = zero_in G0 (λ e. cc) (λ e. cc) (λ e. cc) (λ e. cc) (λ e. cc) (λ e. cc);
      g1 = zero_in G1 (λ e. cc) (λ e. cc) (λ e. cc) (λ e. cc) (λ e. cc) (λ e. cc);
      g2 = zero_in G2 (λ e. cc) (λ e. cc) (λ e. cc) (λ e. cc) (λ e. cc) (λ e. cc);
    }

  -- a call, before which g0, g1 and g2 hold 0
  module _ (p : PartSeen) (w top : ℕ) (words : List OWord) (mem : ℕ → OWord) (fs : List OpenFrame)
      (o : OState) (h : Here g linked p w top words mem fs o)
      (k i : ℕ) (u : SiteCode) (at : At g linked p k o) (s : SiteHere g linked p k i u)
      (room : g.layout.stack.base + w + 2 ≤ top + 1)
      (c : CapFields) (d : Sealable) (seal : ℕ) (pair : Pair g linked c d seal o)
      (g0 : o.maps.regs.g0 ≡ zero) (g1 : o.maps.regs.g1 ≡ zero) (g2 : o.maps.regs.g2 ≡ zero) where
    pub shows_call : ShowsCall g.layout (record { seal = seal; code = c; half = d })
        (new_frame i (top - w) top o)
        (called_to g linked p w top words mem fs o h k i u at s room c d seal pair)
    shows_call = record {
      older = o.frames;
      newest = refl;
      pc = refl;
      dat = refl;
      c1 = pair.code;
      c2 = pair.half;
      rcode = refl;
      rdata = refl;
      stk = ap (λ b. Plain (Mem (record (stack_cap b (top - w - 1) (top - w - 1)) { base = b })))
          (linked.stack_bases p at.trusted);
      t1 = refl;
      t2 = refl;
      g0 = g0;
      g1 = g1;
      g2 = g2;
    }
