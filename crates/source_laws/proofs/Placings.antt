-- From what a component carries to what stands in its part: instructions, and sites by their numbers.
use Rattle.std.proofs.Common.{◌≡◌, ℕ, ◌+◌, ◌<◌, length, pos, List, [], ◌∷◌, Option, Some, None, true, false}
use Rattle.std.proofs.Common.{refl, sym, ap, ◌∙◌, subst}
use Rattle.std.specs.Prelude.{slice_get, map, ◌++◌}
use Rattle.cap_words.specs.declared.Word.{Word}
use Rattle.cap_words.specs.declared.Word.TheVariants.{Int, Mem, Seal, Sealed}
use Rattle.lcm_isa.specs.declared.Instr.{Instr}
use Rattle.lcm_isa.specs.Numbers.{number_of, IsInstr}
use Rattle.lcm_isa.proofs.Offers.{number_of-decode_of, decode_of-fits}
use Rattle.call_sequence.specs.Places.{begins_site}
use Rattle.call_sequence.specs.Walk.{instr_at, instr_in}
use Rattle.linked_starts.specs.Parts.{PartSeen}
use Rattle.trusted_border.specs.declared.layout.SiteCode.{SiteCode}
use Rattle.trusted_border.specs.Layout.{site_at}
use Rattle.overlay_machine.specs.Link.{Link, IsTrusted}
use Rattle.overlay_machine.specs.Linked.{IsLink}
use Rattle.overlay_machine.proofs.Offers.{site_of}
use Rattle.run_lines.specs.Layout.{site_of as numbered_site}
use Rattle.proc_templates.specs.Items.{Spot, Item, does, guards, goes, goes_if, finishes, label, site, entry}
use Rattle.proc_templates.specs.Items.{leaves, zero_of, wiped, leading, FAIL_AT}
use Rattle.proc_templates.specs.Free.{behind}
use Rattle.call_sequence.specs.Sequences.{distance}
use Rattle.lcm_isa.specs.declared.Reg.TheVariants.{Pc, Rcode, Rdata, T2}
use Rattle.lcm_isa.specs.declared.Operand.TheVariants.{R, Imm}
use Rattle.lcm_isa.specs.declared.Instr.TheVariants.{Move, Cca, Jmp, Jnz, Xjmp}
use Rattle.proc_templates.proofs.Offers.{Stands, Run, Starts, Here, Carries}
use Rattle.template_runs.proofs.Offers.{SiteHere, Placed, Code, Called, One, Stand}
use Rattle.source_laws.proofs.PieceSizes.{behind-words}

-- the word of an instruction
word_is : (o : Option Word) (i : Instr) → instr_in o ≡ Some i
    → (o ≡ Some (Int (pos (number_of i)))) × IsInstr i
word_is None i e = absurd cc
word_is (Some (Int z)) i e = (ap (λ y. Some (Int y)) (number_of-decode_of z i e), decode_of-fits z i e)
word_is (Some (Mem c)) i e = absurd cc
word_is (Some (Seal c)) i e = absurd cc
word_is (Some (Sealed n x)) i e = absurd cc

module _ (g : Link) (linked : IsLink g) (p : PartSeen) where
  pub placed_of : (k : ℕ) (i : Instr) → Stands p.component k i → Placed g linked p k i
  unfolding instr_at
  placed_of k i s =
      let w = word_is (slice_get p.component.code k) i s.instr in
      record { has = w.0; ok = w.1; site = s.site; entry = s.entry }

  run_of : (k : ℕ) (is : List Instr) → Run p.component k is → Code g linked p k is
  run_of k [] h = tt
  run_of k (i ∷ is) h = (placed_of k i h.0.stands, run_of (k + 1) is h.1)

  starts_of : (k : ℕ) (is : List Instr) → Starts p.component k is → Code g linked p k is
  starts_of k [] h = tt
  starts_of k (i ∷ is) h = (placed_of k i h.0.stands, run_of (k + 1) is h.1)

  one_of : (spot : Spot) (k : ℕ) (x : Item) → Here p.component spot k x → One g linked p spot.epilogue k x
  one_of spot k (does i) h = placed_of k i h.stands
  one_of spot k (guards is) h =
      starts_of k (Move T2 (R Pc) ∷ Cca T2 (Imm (distance k FAIL_AT)) ∷ (is ++ (zero_of T2 ∷ []))) h
  one_of spot k (goes far) h = starts_of k (leading far (Jmp T2)) h
  one_of spot k (goes_if far r) h = starts_of k (leading far (Jnz T2 r)) h
  one_of spot k finishes h = starts_of k (leading (distance k spot.epilogue) (Jmp T2)) h
  one_of spot k label h = tt
  one_of spot k site h = tt
  one_of spot k entry h = h.entry
  one_of spot k leaves h = starts_of k (zero_of T2 ∷ (map zero_of wiped ++ (Xjmp Rcode Rdata ∷ []))) h

  -- the pieces that a component carries stand in its part
  pub stand_of : (spot : Spot) (k : ℕ) (xs : List Item) → Carries p.component spot k xs
      → Stand g linked p spot.epilogue k xs
  stand_of spot k [] h = tt
  stand_of spot k (x ∷ xs) h = (
    one_of spot k x h.0,
    subst (λ q. Stand g linked p spot.epilogue q xs) (behind-words k x) (stand_of spot (behind k x) xs h.1),
  )

module _ (g : Link) (linked : IsLink g) (p : PartSeen) (end : ℕ) where
  -- where a site begins, the layout has it
  pub site_here : (k : ℕ) → IsTrusted g p → k < length p.component.code → begins_site p.component k ≡ true
      → (i : ℕ) × (u : SiteCode) × SiteHere g linked p k i u
  site_here k ip within b = by (site_at g.layout (p.component.code_base + k)) refl
    where
      by : (o : Option ℕ) → site_at g.layout (p.component.code_base + k) ≡ o → (i : ℕ) × (u : SiteCode)
          × SiteHere g linked p k i u
      by None e = absurd (let bad : true ≡ false = sym b ∙ linked.no_site p k ip within e in cc)
      by (Some j) e = let f = site_of g linked p k j ip within e in
          (j, f.0, record { index = f.2; site = f.3; offset_is = f.4; code_is = f.1; found = e })

  -- the call of a number stands where the component's site of that number begins, if a part's sites are all
  -- different and the layout counts them as the part does
  pub called_of : IsTrusted g p
      → ((i j k : ℕ) → slice_get p.component.sites i ≡ Some k → slice_get p.component.sites j ≡ Some k
      → i ≡ j) → ((k i : ℕ) (u : SiteCode) (s : SiteHere g linked p k i u)
      → (numbered_site g.layout i).index ≡ s.index)
      → ((k : ℕ) → begins_site p.component k ≡ true → k < length p.component.code) → (k n : ℕ)
      → begins_site p.component k ≡ true → slice_get p.component.sites n ≡ Some k
      → Called g linked p end k n
  called_of ip unique counted within k n b is =
      let s = site_here k ip (within k b) b in
      record {
        number = s.0;
        code = s.1;
        here = s.2;
        index_is = counted k s.0 s.1 s.2
            ∙ unique s.2.index n k (s.2.site.offset_is ∙ ap Some s.2.offset_is) is;
      }
