-- Where a step is no call and no entry, pc is at no word inside a site; and within a sequence no other site
-- ends.
use Rattle.call_sequence.specs.declared.TheConstants.{SITE_WORDS}
use Rattle.std.proofs.Common.{◌≡◌, ℕ, ◌+◌, ◌-◌, ◌<◌, ◌≤◌, inr, true, List, length, Option, Some, None, refl}
use Rattle.std.proofs.Common.{sym, ap, ◌∙◌, subst, arith}
use Rattle.std.specs.Prelude.{option_and_then}
use Rattle.cap_words.specs.declared.Word.{Word}
use Rattle.cap_words.specs.declared.Face.TheVariants.{Memory}
use Rattle.lcm_isa.specs.declared.Reg.{Reg}
use Rattle.lcm_isa.specs.declared.Reg.TheVariants.{Pc}
use Rattle.lcm_isa.specs.declared.Instr.{Instr}
use Rattle.lcm_isa.specs.declared.Instr.TheVariants.{Fail}
use Rattle.lcm_machine.specs.Maps.{State}
use Rattle.lcm_machine.specs.Row.{faces, cell_faces, fetch, some}
use Rattle.call_sequence.specs.Holds.{code_at}
use Rattle.call_sequence.specs.Places.{begins_entry, begins_site}
use Rattle.call_sequence.proofs.Offers.{Inside, no_row_inside, placed_lists}
use Rattle.linked_starts.specs.Parts.{PartSeen}
use Rattle.trusted_border.specs.declared.layout.SiteCode.{SiteCode}
use Rattle.overlay_machine.specs.declared.words.OWord.{OWord}
use Rattle.overlay_machine.specs.declared.cases.Case.TheVariants.{Back, Other}
use Rattle.overlay_machine.specs.Words.{look}
use Rattle.overlay_machine.specs.State.{OpenFrame}
use Rattle.overlay_machine.specs.Link.{Link, IsTrusted, ranges_of}
use Rattle.overlay_machine.specs.Linked.{IsLink, SiteOf}
use Rattle.overlay_machine.specs.Safe.{IsSafe}
use Rattle.overlay_machine.specs.Invariant.{StandsAt}
use Rattle.overlay_machine.proofs.Offers.{in_code, one_part, View, in_part, failing, out, pc_untrusted}
use Rattle.call_sequence.proofs.Offers.{target_code}
use Rattle.run_lines.specs.Layout.{site_before, site_word}
use Rattle.headline.proofs.alike.Laying.{NoEnd, word_none}
use Rattle.headline.proofs.alike.Sites.{word_is}

module _ (g : Link) (linked : IsLink g) where
  -- nothing begins inside a sequence, and no row is there
  pub site_outer : (p : PartSeen) (o : ℕ) → IsTrusted g p → begins_site p.component o ≡ true
      → Inside p.component o → ⊥
  site_outer p o ip e = let is =
      linked.parts p ip.0 in ((placed_lists p.component (is.flow ip.1).placed is.limits).sites o e).2

  pub entry_outer : (p : PartSeen) (o : ℕ) → IsTrusted g p → begins_entry p.component o ≡ true
      → Inside p.component o → ⊥
  entry_outer p o ip e = let is =
      linked.parts p ip.0 in ((placed_lists p.component (is.flow ip.1).placed is.limits).entries o e).2

  -- the part and offset of a site's word
  not_found : (off a : ℕ)
      → ((i : ℕ) (s : SiteCode) (p : PartSeen) (n : ℕ) → IsTrusted g p → SiteOf p n s → a ≡ s.at + off → ⊥)
      → site_before g.layout off a ≡ None
  not_found off a never = by_found (site_before g.layout off a) refl
    where
      by_found : (r : Option ℕ) → site_before g.layout off a ≡ r → r ≡ None
      by_found None e = refl
      by_found (Some i) e =
          (let k = word_is g linked i off a e in let m =
          linked.sites i k.0 k.1 in absurd (never i k.0 m.0 m.1 m.2 m.3 k.2))

  -- a site's word at an address of a part's code is within that part
  inside_of : (p q : PartSeen) (n : ℕ) (s : SiteCode) (o off a : ℕ) → IsTrusted g p → IsTrusted g q
      → SiteOf q n s → a ≡ s.at + off → a ≡ p.component.code_base + o → o < length p.component.code → 0 < off
      → off < SITE_WORDS → Inside p.component o
  inside_of p q n s o off a ip iq st e ea lt pos_off small =
      let ai = st.at_is in
      let ins = st.inside in
      let top = in_code g linked q (st.offset + off) iq (omega (arith, small, ins)) in
      let same : q ≡ p = one_part g linked q p a iq ip (omega (arith, ai, e)) (omega (arith, ai, e, top))
      (omega (arith, ea)) (let t = in_code g linked p o ip lt in omega (arith, ea, t)) in
      moved same st (omega (arith, e, ea))
    where
      moved : q ≡ p → SiteOf q n s → s.at + off ≡ p.component.code_base + o → Inside p.component o
      moved same st w =
          let st' : SiteOf p n s = subst (λ y. SiteOf y n s) same st in
          let ai = st'.at_is in
          record {
            start = st'.offset;
            size = SITE_WORDS;
            seq = inr (st'.site, refl);
            after =
                omega (arith, ai, w, pos_off);
            before_end = omega (arith, ai, w, small);
          }

  off_sequence : (p : PartSeen) (o off : ℕ) → IsTrusted g p → o < length p.component.code
      → (Inside p.component o → ⊥) → 0 < off → off < SITE_WORDS
      → site_before g.layout off (p.component.code_base + o) ≡ None
  off_sequence p o off ip lt free pos_off small =
      not_found off (p.component.code_base + o)
      (λ i s q n iq st e.
      free (inside_of p q n s o off (p.component.code_base + o) ip iq st e refl lt pos_off small))

  -- a sequence that begins inside no other: no site ends at its words
  pub no_end : (p : PartSeen) (o n : ℕ) → IsTrusted g p → (Inside p.component o → ⊥)
      → o + n ≤ length p.component.code → n ≤ (SITE_WORDS - 1)
      → NoEnd g.layout (p.component.code_base + o) (p.component.code_base + o + n)
  no_end p o n ip free inside few = λ a lo hi. not_found (SITE_WORDS - 1) a (λ i s q k iq st e.
      let ai = st.at_is in
      let ins = st.inside in
      let top = in_code g linked q (st.offset + (SITE_WORDS - 1)) iq (omega (arith, ins)) in
      let mine = in_code g linked p (a - p.component.code_base) ip (omega (arith, lo, hi, inside)) in
      let same : q ≡ p = one_part g linked q p a iq ip (omega (arith, ai, e)) (omega (arith, ai, e, top))
      (omega (arith, lo)) (omega (arith, lo, mine)) in
      free (before a lo hi q k s same st e))
    where
      -- it would begin before the sequence, and end within it
      before : (a : ℕ) → p.component.code_base + o ≤ a → a < p.component.code_base + o + n
          → (q : PartSeen) (k : ℕ) (s : SiteCode) → q ≡ p → SiteOf q k s → a ≡ s.at + (SITE_WORDS - 1)
          → Inside p.component o
      before a lo hi q k s same st e =
          let st' : SiteOf p k s = subst (λ y. SiteOf y k s) same st in
          let ai = st'.at_is in
          record {
            start = st'.offset;
            size = SITE_WORDS;
            seq = inr (st'.site, refl);
            after =
                omega (arith, ai, e, hi, few);
            before_end = omega (arith, ai, e, lo);
          }

  module _ (fs : List OpenFrame) (s : State OWord) (n : Instr) (next : Word)
      (f : fetch (faces look s Pc) (cell_faces look s) ≡ some n next) (goes : n ≡ Fail → ⊥) (off : ℕ)
      (pos_off : 0 < off) (small : off < SITE_WORDS) where
    abbrev pub Off : Type 0
    Off = site_word g.layout off (faces look s Pc) ≡ None

    at_part : (p : PartSeen) (o : ℕ) → IsTrusted g p → StandsAt g fs p o s.regs → Off
    unfolding faces
    at_part p o ip at =
        let lt = at.inside in
        let is = linked.parts p ip.0 in
        let flow = is.flow ip.1 in
        rw at.at_pc
        (word_none g.layout off (p.component.code_base + o) (Memory (code_at (ranges_of p) o))
        (target_code p.component.code_base (ranges_of p).code_last (p.component.code_base + o)
        (omega arith) (in_code g linked p o ip lt))
        (off_sequence p o off ip lt
        (λ i. no_row_inside p.component flow.walked (placed_lists p.component flow.placed is.limits)
        o i at.there at.row) pos_off small))

    at_safe : IsSafe g fs s.regs.pc → Off
    unfolding site_word
    at_safe h = ap (option_and_then (site_before g.layout off)) (pc_untrusted g linked fs s h)

    pub other_apart : View g fs s Other → Off
    other_apart (in_part p o ip ne ns at c) = at_part p o ip at
    other_apart (failing after p o ip lt h e) =
        absurd (goes (let q : some n next ≡ some Fail after = sym f ∙ e in cc))
    other_apart (out h c) = at_safe (h Pc)

    pub back_apart : (r1 r2 : Reg) → View g fs s (Back r1 r2) → Off
    back_apart r1 r2 (in_part p o ip ne ns at c) = at_part p o ip at
    back_apart r1 r2 (out h c) = at_safe (h Pc)
