-- Which kind of step comes, from where pc is.
use Rattle.std.proofs.Common.{◌≡◌, ℕ, ◌+◌, ◌<◌, ◌≤◌, pos, Bool, true, false, List, [], ◌∷◌, length, Option}
use Rattle.std.proofs.Common.{Some, None, refl, sym, ap, ◌∙◌, subst, arith, le-leb}
use Rattle.std.specs.Prelude.{slice_get, slice_index, if◌then◌else◌, is_some, find, ◌+ℤ◌}
use Rattle.std.proofs.lemmas.Option.{get_or_from_slice_get}
use Rattle.cap_words.specs.declared.Word.{Word}
use Rattle.cap_words.specs.declared.Word.TheVariants.{Int, Mem, Seal, Sealed}
use Rattle.cap_words.specs.declared.Sealable.{Sealable}
use Rattle.cap_words.specs.declared.Sealable.TheVariants.{Mem as MemIn, Seal as SealIn}
use Rattle.cap_words.specs.declared.CapFields.{CapFields}
use Rattle.cap_words.specs.declared.Face.TheVariants.{Memory}
use Rattle.cap_words.specs.Face.{face_of}
use Rattle.cap_words.specs.Faces.{target_of}
use Rattle.lcm_isa.specs.declared.Reg.{Reg}
use Rattle.lcm_isa.specs.declared.Reg.TheVariants.{Pc, Stk, Dat, T2}
use Rattle.lcm_isa.specs.declared.Instr.{Instr}
use Rattle.lcm_isa.specs.declared.Instr.TheVariants.{Fail, Store, Move}
use Rattle.lcm_isa.specs.declared.Operand.TheVariants.{R as InReg}
use Rattle.lcm_isa.specs.Numbers.{number_of, decode_of, IsInstr}
use Rattle.lcm_isa.proofs.Offers.{decode_of-number_of}
use Rattle.lcm_machine.specs.Maps.{State}
use Rattle.lcm_machine.specs.Places.{reg}
use Rattle.lcm_machine.specs.Row.{faces, cell_faces, fetch, Fetched, some}
use Rattle.lcm_machine.proofs.Offers.{fetch_some}
use Rattle.call_sequence.specs.Sequences.{call_code, entry_code}
use Rattle.call_sequence.specs.Standing.{CodeStands}
use Rattle.call_sequence.specs.Holds.{code_at, PcAt}
use Rattle.call_sequence.specs.Places.{begins_entry, begins_site}
use Rattle.linked_starts.specs.declared.owners.Owner.{Owner}
use Rattle.linked_starts.specs.Parts.{PartSeen}
use Rattle.trusted_border.specs.declared.layout.SiteCode.{SiteCode}
use Rattle.trusted_border.specs.Layout.{runs_part, trusted_at, site_at, site_code, has_entry_at}
use Rattle.overlay_machine.specs.declared.words.OWord.{OWord}
use Rattle.overlay_machine.specs.declared.cases.Case.{Case}
use Rattle.overlay_machine.specs.declared.cases.Case.TheVariants.{Call, Entry, Other}
use Rattle.overlay_machine.specs.Words.{look}
use Rattle.overlay_machine.specs.State.{OpenFrame}
use Rattle.overlay_machine.specs.Step.{case_at, case_fetched, case_of}
use Rattle.overlay_machine.specs.Link.{Link, IsTrusted, ranges_of, CodeIn}
use Rattle.overlay_machine.specs.Linked.{IsLink, SiteOf}
use Rattle.overlay_machine.specs.Safe.{IsSafe}
use Rattle.overlay_machine.specs.Invariant.{StandsAt, PcPart, at_fail, at_row, outside}
use Rattle.overlay_machine.proofs.invariant.Facts.{in_code, one_part, mem_safe, not_trusted, stands}

-- what is known before a step, by its kind
pub data View (g : Link) (fs : List OpenFrame) (s : State OWord) : Case → Type 0 where
  at_site : {i : ℕ} (p : PartSeen) (index : ℕ) (u : SiteCode) → IsTrusted g p → site_code g.layout i ≡ Some u
      → (st : SiteOf p index u) → StandsAt g fs p st.offset s.regs → View g fs s (Call i)
  at_entry : {a : ℕ} (p : PartSeen) (o : ℕ) → IsTrusted g p → a ≡ p.component.code_base + o
      → begins_entry p.component o ≡ true → StandsAt g fs p o s.regs → View g fs s (Entry a)
  in_part : {c : Case} (p : PartSeen) (o : ℕ) → IsTrusted g p → begins_entry p.component o ≡ false
      → begins_site p.component o ≡ false → StandsAt g fs p o s.regs
      → c ≡ case_fetched s (fetch (faces look s Pc) (cell_faces look s)) → View g fs s c
  failing : (next : Word) (p : PartSeen) (o : ℕ) → IsTrusted g p → o < length p.component.code
      → PcAt look (ranges_of p) o s.regs → fetch (faces look s Pc) (cell_faces look s) ≡ some Fail next
      → View g fs s Other
  out : {c : Case} → ((r : Reg) → IsSafe g fs (reg s.regs r))
      → c ≡ case_fetched s (fetch (faces look s Pc) (cell_faces look s)) → View g fs s c

-- the word of one instruction isn't that of another
pub one_word : (i j : Instr) → IsInstr i → IsInstr j
    → Some (Int (pos (number_of i))) ≡ Some (Int (pos (number_of j))) → Some i ≡ Some j
one_word i j oi oj e = let n : number_of i ≡ number_of j =
    cc in sym (decode_of-number_of i oi) ∙ ap (λ k. decode_of (pos k)) n ∙ decode_of-number_of j oj

-- the first instruction of code that stands in words
pub first_stands : (words : List Word) (at : ℕ) (i : Instr) (code : List Instr) → slice_get code 0 ≡ Some i
    → CodeStands words at code → slice_get words at ≡ Some (Int (pos (number_of i)))
first_stands words at i code e h = let z : at + 0 ≡ at = omega arith in ap (slice_get words) (sym z) ∙ h 0 i e

module _ (g : Link) (linked : IsLink g) where
  -- a site at an offset of a part is one of that part
  pub site_of : (p : PartSeen) (o j : ℕ) → IsTrusted g p → o < length p.component.code
      → site_at g.layout (p.component.code_base + o) ≡ Some j
      → (u : SiteCode) × (site_code g.layout j ≡ Some u) × (index : ℕ) × (st : SiteOf p index u)
      × (st.offset ≡ o)
  site_of p o j ip lt e =
      let f = linked.site_found j (p.component.code_base + o) e in
      let k = linked.sites j f.0 f.1 in
      let st = k.3 in
      let low : (ranges_of k.0).code_base ≤ p.component.code_base + o =
      (let a = st.at_is in let b = f.2 in omega (arith, a, b)) in
      let lt' : st.offset < length k.0.component.code = (let i = st.inside in omega (arith, i)) in
      let top : (ranges_of k.0).code_base + st.offset ≤ (ranges_of k.0).code_last =
      in_code g linked k.0 st.offset k.2 lt' in
      let high : p.component.code_base + o ≤ (ranges_of k.0).code_last =
      (let a = st.at_is in let b = f.2 in omega (arith, a, b, top)) in
      let same : k.0 ≡ p = one_part g linked k.0 p (p.component.code_base + o) k.2 ip low high (omega arith)
      (in_code g linked p o ip lt) in
      moved k.0 p same k.1 f.0 st o (f.2) f.1
    where
      moved : (q r : PartSeen) → q ≡ r → (index : ℕ) (u : SiteCode) → SiteOf q index u → (o : ℕ)
          → u.at ≡ r.component.code_base + o → site_code g.layout j ≡ Some u
          → (u : SiteCode) × (site_code g.layout j ≡ Some u) × (index : ℕ) × (st : SiteOf r index u)
          × (st.offset ≡ o)
      moved q r same index u st o at is =
          let st' : SiteOf r index u = subst (λ x. SiteOf x index u) same st in
          (u, is, index, st', (let a = st'.at_is in omega (arith, a, at)))

  -- a safe pc is no trusted one
  module _ (fs : List OpenFrame) (s : State OWord) where
    pub pc_untrusted : IsSafe g fs s.regs.pc → trusted_at g.layout (faces look s Pc) ≡ None
    unfolding faces
    pc_untrusted h = by_look (look s.regs.pc) refl
      where
        by_owner : (c : CapFields) (r : Option Owner) → look s.regs.pc ≡ Mem c
            → find (runs_part c) g.layout.owners ≡ r
            → (if is_some r then target_of (Memory c) else None) ≡ None
        by_owner c None e q = refl
        by_owner c (Some x) e q =
            let k = linked.owners c x q in
            absurd (not_trusted g linked fs k.0 c k.1 (mem_safe g fs s.regs.pc c e h) (ap (λ x. x.base) k.2)
            (ap (λ x. x.end) k.2))

        by_sealed : (o : ℕ) (c : Sealable) → trusted_at g.layout (face_of (Sealed o c)) ≡ None
        by_sealed o (MemIn m) = refl
        by_sealed o (SealIn m) = refl

        by_look : (x : Word) → look s.regs.pc ≡ x → trusted_at g.layout (face_of x) ≡ None
        by_look (Int z) e = refl
        by_look (Mem c) e = by_owner c (find (runs_part c) g.layout.owners) e refl
        by_look (Seal c) e = refl
        by_look (Sealed o c) e = by_sealed o c

  module _ (fs : List OpenFrame) (s : State OWord) (code : (p : PartSeen) → IsTrusted g p → CodeIn p s.cells)
    where
      abbrev Got : Fetched
      Got = fetch (faces look s Pc) (cell_faces look s)

      pub pc_trusted : (p : PartSeen) (o : ℕ) → IsTrusted g p → o < length p.component.code
          → PcAt look (ranges_of p) o s.regs
          → trusted_at g.layout (faces look s Pc) ≡ Some (p.component.code_base + o)
      unfolding faces
      pc_trusted p o ip lt h =
          let low : p.component.code_base ≤ p.component.code_base + o = omega arith in
          let high : p.component.code_base + o ≤ (ranges_of p).code_last = in_code g linked p o ip lt in
          rw (
            h,
            linked.owned p (pos (p.component.code_base + o))
                ip,
            le-leb p.component.code_base (p.component.code_base + o)
                low,
            le-leb (p.component.code_base + o) (ranges_of p).code_last high,
          ) refl

      -- the word at a part's fail is no site's and no entry's first
      fail_fetched : (p : PartSeen) (o : ℕ) → IsTrusted g p → p.component.fail_at ≡ Some o
          → PcAt look (ranges_of p) o s.regs → (next : Word) × (Got ≡ some Fail next)
      unfolding faces cell_faces
      fail_fetched p o ip f h =
          let lt = (linked.fails p o ip f).0 in
          let w = stands p s.cells (code p ip) (p.component.code_base + o) o refl (Fail ∷ [])
          (linked.fails p o ip f).1 in
          let low : p.component.code_base ≤ p.component.code_base + o = omega arith in
          let high : p.component.code_base + o ≤ (ranges_of p).code_last = in_code g linked p o ip lt in (
            Mem (record (code_at (ranges_of p) o) { addr = pos (p.component.code_base + o) +ℤ pos 1 }),
            rw h (fetch_some (Memory (code_at (ranges_of p) o)) (cell_faces look s) (code_at (ranges_of p) o)
                (p.component.code_base + o) (pos (number_of Fail)) Fail refl refl refl
                (rw (
                  le-leb p.component.code_base (p.component.code_base + o)
                      low,
                  le-leb (p.component.code_base + o) (ranges_of p).code_last high,
                ) refl)
                w.0 (decode_of-number_of Fail tt)),
          )

      pub fail_no_site : (p : PartSeen) (o index : ℕ) (u : SiteCode) → IsTrusted g p
          → p.component.fail_at ≡ Some o → (st : SiteOf p index u) → st.offset ≡ o → ⊥
      unfolding call_code
      fail_no_site p o index u ip f st eo =
          let at : slice_index p.component.sites index ≡ o =
          get_or_from_slice_get p.component.sites index st.offset 0 st.offset_is ∙ eo in
          let a = first_stands p.component.code o Fail (Fail ∷ []) refl (linked.fails p o ip f).1 in
          let b = first_stands p.component.code (slice_index p.component.sites index) (Store Stk Dat)
          (call_code st.stands.literal (slice_index p.component.sites index) index) refl st.stands.call in
          let bad =
          one_word Fail (Store Stk Dat) tt tt (sym a ∙ ap (slice_get p.component.code) (sym at) ∙ b) in cc

      pub fail_no_entry : (p : PartSeen) (o : ℕ) → IsTrusted g p → p.component.fail_at ≡ Some o
          → begins_entry p.component o ≡ true → ⊥
      unfolding entry_code
      fail_no_entry p o ip f e =
          let a = first_stands p.component.code o Fail (Fail ∷ []) refl (linked.fails p o ip f).1 in
          let b = first_stands p.component.code o (Move T2 (InReg Pc))
          (entry_code (linked.entries p o ip e).stands.fail o p.component.stack_base)
          refl (linked.entries p o ip e).stands.entry in
          let bad = one_word Fail (Move T2 (InReg Pc)) tt tt (sym a ∙ b) in cc

      -- at a trusted pc
      view_at : (p : PartSeen) (o : ℕ) → IsTrusted g p → StandsAt g fs p o s.regs → (n : Option ℕ)
          → site_at g.layout (p.component.code_base + o) ≡ n → (b : Bool)
          → has_entry_at g.layout (p.component.code_base + o) ≡ b
          → View g fs s (case_at g.layout (p.component.code_base + o) n (case_fetched s Got))
      view_at p o ip at (Some j) e b eb =
          let k = site_of p o j ip at.inside e in
          at_site p k.2 k.0 ip k.1 k.3 (subst (λ x. StandsAt g fs p x s.regs) (sym k.4) at)
      view_at p o ip at None e true eb =
          rw eb (at_entry p o ip refl (sym (linked.entry_found p o ip at.inside) ∙ eb) at)
      view_at p o ip at None e false eb =
          rw eb (in_part p o ip (sym (linked.entry_found p o ip at.inside) ∙ eb)
          (linked.no_site p o ip at.inside e) at refl)

      fail_view : (p : PartSeen) (o : ℕ) → IsTrusted g p → p.component.fail_at ≡ Some o
          → PcAt look (ranges_of p) o s.regs → (n : Option ℕ)
          → site_at g.layout (p.component.code_base + o) ≡ n
          → (b : Bool) → has_entry_at g.layout (p.component.code_base + o) ≡ b
          → View g fs s (case_at g.layout (p.component.code_base + o) n (case_fetched s Got))
      fail_view p o ip f h (Some j) e b eb = let k =
          site_of p o j ip (linked.fails p o ip f).0 e in absurd (fail_no_site p o k.2 k.0 ip f k.3 k.4)
      fail_view p o ip f h None e true eb =
          absurd (fail_no_entry p o ip f (sym (linked.entry_found p o ip (linked.fails p o ip f).0) ∙ eb))
      fail_view p o ip f h None e false eb = let q =
          fail_fetched p o ip f h in rw (eb, q.1) (failing q.0 p o ip (linked.fails p o ip f).0 h q.1)

      pub view : PcPart g fs s.regs → View g fs s (case_of g.layout s)
      unfolding case_of
      view (at_fail p o ip f h) =
          rw (pc_trusted p o ip (linked.fails p o ip f).0 h) (fail_view p o ip f h _ refl _ refl)
      view (at_row p o ip at) = rw (pc_trusted p o ip at.inside at.at_pc) (view_at p o ip at _ refl _ refl)
      view (outside h) = rw (pc_untrusted fs s (h Pc)) (out h refl)
