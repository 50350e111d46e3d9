-- The invariant makes the next step ready, whatever its kind.
use Rattle.std.proofs.Common.{◌≡◌, ◌≢◌, ◌⊎◌, inl, inr, ℕ, ◌+◌, ◌-◌, ◌≤◌, ℤ, Bool, true, false, List, [], ◌∷◌}
use Rattle.std.proofs.Common.{length, Option, Some, None, refl, sym, ap, ◌∙◌, subst, arith}
use Rattle.std.specs.Prelude.{slice_get, slice_index, if◌then◌else◌, ◌&&◌}
use Rattle.std.specs.List.{Contains}
use Rattle.std.proofs.lemmas.Option.{get_or_from_slice_get, slice_get_within}
use Rattle.std.proofs.lemmas.Bool.{and_parts}
use Rattle.cap_words.specs.declared.Word.{Word}
use Rattle.cap_words.specs.declared.Word.TheVariants.{Int, Mem, Seal, Sealed}
use Rattle.cap_words.specs.declared.Sealable.TheVariants.{Mem as MemIn, Seal as SealIn}
use Rattle.cap_words.specs.declared.CapFields.{CapFields}
use Rattle.cap_words.specs.declared.Face.TheVariants.{Memory}
use Rattle.cap_words.specs.Face.{face_of, FaceInOrder}
use Rattle.cap_words.specs.Faces.{target_of}
use Rattle.component_file.specs.declared.component.Kind.{Kind}
use Rattle.component_file.specs.declared.component.Kind.TheVariants as kind
use Rattle.lcm_isa.specs.declared.Reg.{Reg}
use Rattle.lcm_isa.specs.declared.Reg.TheVariants.{Pc, Dat, Stk, C1}
use Rattle.lcm_isa.specs.declared.Instr.TheVariants.{Xjmp, Fail}
use Rattle.lcm_machine.specs.declared.Place.TheVariants.{R}
use Rattle.lcm_machine.specs.Maps.{State}
use Rattle.lcm_machine.specs.Places.{reg}
use Rattle.lcm_machine.specs.Cells.{cell}
use Rattle.lcm_machine.specs.Table.{is_pc, target}
use Rattle.lcm_machine.specs.Regions.{IsLinearAt}
use Rattle.lcm_machine.specs.Row.{faces, cell_faces, fetch, Fetched, none, some}
use Rattle.call_sequence.specs.declared.TheConstants.{CALL_WORDS}
use Rattle.call_sequence.specs.Sequences.{call_code, return_code, entry_code}
use Rattle.call_sequence.specs.Standing.{CodeStands}
use Rattle.call_sequence.specs.SequenceRuns.{stack_cap, FailsAt}
use Rattle.call_sequence.specs.Kinds.{Row, kind_of, below_any, entry_row}
use Rattle.call_sequence.specs.Flow.{is_stk}
use Rattle.call_sequence.specs.Holds.{data_cap, code_at, PcAt, HasKind, Up}
use Rattle.call_sequence.specs.Places.{begins_entry}
use Rattle.call_sequence.specs.Walk.{is_data, passes, site_ready, RowAt}
use Rattle.call_sequence.proofs.Offers.{is_safe, site_flows}
use Rattle.linked_starts.specs.Parts.{PartSeen}
use Rattle.linked_starts.specs.TrustedCode.{all_seals}
use Rattle.trusted_border.specs.declared.layout.SiteCode.{SiteCode}
use Rattle.trusted_border.specs.Layout.{site_code}
use Rattle.overlay_machine.specs.declared.words.OWord.{OWord}
use Rattle.overlay_machine.specs.declared.words.OWord.TheVariants.{Plain, RetCode, RetData}
use Rattle.overlay_machine.specs.declared.cases.Case.{Case}
use Rattle.overlay_machine.specs.declared.cases.Case.TheVariants.{Call, Entry, Back, Other}
use Rattle.overlay_machine.specs.Words.{look, is_plain}
use Rattle.overlay_machine.specs.State.{OpenFrame, OState, Cells, framed, frame_of}
use Rattle.overlay_machine.specs.Step.{case_fetched, case_of, rest_words}
use Rattle.overlay_machine.specs.Flat.{flat, flat_code, flat_data, flat_range}
use Rattle.overlay_machine.specs.Agree.{Looks, HasSite, SitesStand, IsForeign, IsKnown, AllKnown, AtSite}
use Rattle.overlay_machine.specs.Agree.{AtEntry, AtReturn, FrameSound, ReadyFor}
use Rattle.overlay_machine.specs.Link.{Link, IsTrusted, ranges_of, data_region, stack_region, regions}
use Rattle.overlay_machine.specs.Link.{IsStackCell, CodeIn}
use Rattle.overlay_machine.specs.Linked.{IsLink, SiteOf}
use Rattle.overlay_machine.specs.Safe.{IsSafeCap, IsSafe, IsMet, IsTrustedHalf, IsOpenSeal}
use Rattle.overlay_machine.specs.Invariant.{StandsAt, FramesLie, Invariant}
use Rattle.overlay_machine.proofs.invariant.Facts.{in_code, length_is, stands, safe_int, safe_stk, mem_safe}
use Rattle.overlay_machine.proofs.invariant.Facts.{code_small, stack_small, stack_order, stack_apart}
use Rattle.overlay_machine.proofs.invariant.Facts.{same_region, stack_there, stack_cells}
use Rattle.overlay_machine.proofs.invariant.View.{View, at_site, at_entry, in_part, failing, out, view}
use Rattle.overlay_machine.proofs.invariant.Glue.{glue_shows, glue_area}
use Rattle.overlay_machine.proofs.invariant.Crossing.{half_seal, seal_is}
use Rattle.overlay_machine.proofs.FlatLemmas.{mem_of_face}
use Rattle.overlay_machine.proofs.invariant.Targets.{target_bounds, target_reg}
use Rattle.overlay_machine.proofs.invariant.FrameFacts.{frame_known, lies_of, framed_in, framed_by}
use Rattle.overlay_machine.proofs.invariant.FrameFacts.{word_in_frame, unframed, frames_apart, frame_in}
use Rattle.overlay_machine.proofs.invariant.FrameFacts.{first_of}
use Rattle.overlay_machine.proofs.invariant.FrameFacts.{frame_none, frame_of-cons, contains_first, below_all}
use Rattle.overlay_machine.proofs.FrameWords.{word_of-within}
use Rattle.overlay_machine.proofs.invariant.HeldFlat.{pair_apart, one_place, in_no_frame}

-- the kinds of stk and data where a row is ready for a call
stk_kind : (k : Kind) → is_stk k ≡ true → k ≡ kind.Stk
stk_kind kind.Stk e = refl
stk_kind kind.Any e = cc
stk_kind kind.Int e = cc
stk_kind kind.DataCap e = cc
stk_kind (kind.Pc o) e = cc
stk_kind kind.Top e = cc

data_kind : (k : Kind) → is_data k ≡ true → k ≡ kind.DataCap
data_kind kind.DataCap e = refl
data_kind kind.Any e = cc
data_kind kind.Int e = cc
data_kind kind.Stk e = cc
data_kind (kind.Pc o) e = cc
data_kind kind.Top e = cc

-- a case that is read off the fetched instruction
pub fetched_case : (s : State OWord) (f : Fetched) (c : Case) → c ≡ case_fetched s f
    → (c ≡ Other)
    ⊎ ((r1 : Reg) × (r2 : Reg) × (next : Word) × (c ≡ Back r1 r2) × (f ≡ some (Xjmp r1 r2) next))
fetched_case s (none x) c e = inl e
fetched_case s (some (Xjmp r1 r2) next) c e =
    by_plain (is_plain (reg s.regs r1) && is_plain (reg s.regs r2)) e
  where
    by_plain : (b : Bool) → c ≡ (if b then Other else Back r1 r2)
        → (c ≡ Other)
        ⊎ ((q1 : Reg) × (q2 : Reg) × (n : Word) × (c ≡ Back q1 q2)
        × (some (Xjmp r1 r2) next ≡ some (Xjmp q1 q2) n))
    by_plain true h = inl h
    by_plain false h = inr (r1, r2, next, h, refl)
fetched_case s (some _ next) c e = inl e

pub entry_kind : (p : PartSeen) (off : ℕ) (r : Row) → begins_entry p.component off ≡ true
    → RowAt p.component off r → r ≡ entry_row
entry_kind p off r e (inl h) = h.1
entry_kind p off r e (inr h) = let bad : true ≡ false = sym e ∙ h.0 in cc

module _ (g : Link) (linked : IsLink g) where
  -- a safe word is under no return seal
  pub foreign : (fs : List OpenFrame) (w : Word) → IsSafe g fs (Plain w) → IsForeign g.layout w
  foreign fs (Int z) h x i s e q = λ same. cc
  foreign fs (Mem z) h x i s e q = λ same. cc
  foreign fs (Seal z) h x i s e q = λ same. cc
  foreign fs (Sealed n c) h x i s e q = λ same. by_safe h (seal_is g linked fs n c x e ∙ same)
    where
      by_half : (k : IsTrustedHalf g (Sealed n c)) → n ≡ s.seal → ⊥
      by_half k e = linked.return_other i s k.0.part q k.1 (sym (half_seal g linked fs k.0 n c k.3) ∙ e)

      by_safe : IsSafe g fs (Plain (Sealed n c)) → n ≡ s.seal → ⊥
      by_safe (inl k) e = linked.return_closed i s q (subst (λ y. IsOpenSeal g y) e k.0)
      by_safe (inr k) e = by_half k e

  -- the ranges of a safe word are in order
  safe_order : (fs : List OpenFrame) (w : OWord) → IsSafe g fs w → FaceInOrder (face_of (look w))
  safe_order fs (Plain (Int z)) h = tt
  safe_order fs (Plain (Mem c)) h = (
    h.order,
    (let k = linked.small h.area (linked.usable h.area h.runs h.usable) in let e =
        h.high in omega (arith, k, e)),
  )
  safe_order fs (Plain (Seal c)) h =
      (h.order, (let k = linked.seals_small h.of h.untrusted.0 in let e = h.high in omega (arith, k, e)))
  safe_order fs (Plain (Sealed n (MemIn c))) h = tt
  safe_order fs (Plain (Sealed n (SealIn c))) h = tt
  safe_order fs (RetCode i) h = tt
  safe_order fs (RetData k) h = tt

  -- ---- code that stands

  pub fails_at : (p : PartSeen) (m : Cells) (fail : ℕ) → IsTrusted g p → CodeIn p m
      → p.component.fail_at ≡ Some fail → FailsAt look m (ranges_of p).code_base (ranges_of p).code_last fail
  fails_at p m fail ip code e =
      let f = linked.fails p fail ip e in (
        stands p m code (p.component.code_base + fail) fail refl (Fail ∷ [])
            f.1,
        in_code g linked p fail ip f.0,
      )

  site_stands : (p : PartSeen) (index : ℕ) (s : SiteCode) (m : Cells) → IsTrusted g p → CodeIn p m
      → SiteOf p index s → HasSite g.layout m s
  site_stands p index s m ip code st =
      let c = p.component in
      let off = st.offset in
      let at : slice_index c.sites index ≡ off = get_or_from_slice_get c.sites index off 0 st.offset_is in
      let bi = st.base_is in
      let ei = st.end_is in
      let ai = st.at_is in
      let ins = st.inside in
      let len = length_is g linked p ip in
      let si = st.seal_is in
      let sn = st.seal_in in
      let ll = slice_get_within c.code st.stands.literal _ st.seals_are in
      let sb = linked.stack_bases p ip in
      let call : CodeStands c.code off (call_code st.stands.literal off index) =
      subst (λ k. CodeStands c.code k (call_code st.stands.literal k index)) at st.stands.call in
      let back : CodeStands c.code (off + CALL_WORDS)
      (return_code st.stands.fail (off + CALL_WORDS) c.stack_base) =
      subst (λ k. CodeStands c.code (k + CALL_WORDS)
      (return_code st.stands.fail (k + CALL_WORDS) c.stack_base))
      at st.stands.back in
      record {
        call = record {
          offset = off;
          literal = st.stands.literal;
          number = index;
          at_is = omega (arith, bi, ai);
          code = stands p m code s.at off ai (call_code st.stands.literal off index) call;
          ends = omega (arith, ai, ei, ins, len);
          small = (let k = code_small g linked p ip in omega (arith, ei, k));
          literal_in = omega (arith, bi, ei, len, ll);
          word = Plain (Seal (all_seals c));
          word_is = rw bi (code st.stands.literal (Seal (all_seals c)) st.seals_are);
          seals = all_seals c;
          shows = refl;
          first = refl;
          seal_is = omega (arith, si);
          seal_in = omega (arith, si, sn);
          small_seal = st.seal_small;
        };
        back = record {
          offset = off + CALL_WORDS;
          fail = st.stands.fail;
          at_is = omega (arith, bi, ai);
          code = stands p m code (s.at + CALL_WORDS) (off + CALL_WORDS) (omega (arith, ai))
              (return_code st.stands.fail (off + CALL_WORDS) g.layout.stack.base)
              (subst (λ b. CodeStands c.code (off + CALL_WORDS)
              (return_code st.stands.fail (off + CALL_WORDS) b)) sb back);
          ends = omega (arith, ai, ei, ins, len);
          small = (let k = code_small g linked p ip in omega (arith, ei, k));
          fails = rw (bi, ei) (fails_at p m st.stands.fail ip code st.stands.fail_is);
        };
        apart = λ a low high. rw (bi, ei) (stack_apart g linked p ip a low high);
      }

  pub sites_stand : (m : Cells) → ((p : PartSeen) → IsTrusted g p → CodeIn p m) → SitesStand g.layout m
  sites_stand m code i s e = let k = linked.sites i s e in site_stands k.0 k.1 s m k.2 (code k.0 k.2) k.3

  module _ (o : OState) (t : State Word) (inv : Invariant g o t) where
    abbrev fs : List OpenFrame
    fs = o.frames

    pub linear : (a : ℕ) → g.layout.stack.base ≤ a → a ≤ g.layout.stack.end → IsLinearAt (regions g) a
    linear a low high = (stack_region g.layout, stack_there g linked, refl, low, high)

    -- the stack's capability and the data capability of a row
    own_stk : (p : PartSeen) (off : ℕ) (ip : IsTrusted g p) (at : StandsAt g fs p off o.maps.regs)
        → kind_of at.there Stk ≡ kind.Stk
        → (end : ℕ) × (to : ℤ)
        × (look o.maps.regs.stk ≡ Mem (record (stack_cap g.layout.stack.base end 0) { addr = to }))
        × Up (IsStackCell g fs) (ranges_of p) end
    own_stk p off ip at e =
        let h : HasKind look (IsSafe g fs) (IsStackCell g fs) (ranges_of p) kind.Stk (reg o.maps.regs Stk) =
        (let x = at.fits.each Stk refl in rw e at x) in (
          h.0,
          h.1,
          h.2
              ∙ ap (λ b. Mem (record (stack_cap b h.0 0) { addr = h.1 })) (linked.stack_bases p ip),
          h.3,
        )

    pub own_dat : (p : PartSeen) (off : ℕ) (at : StandsAt g fs p off o.maps.regs)
        → kind_of at.there Dat ≡ kind.DataCap
        → (to : ℤ) × (look o.maps.regs.dat ≡ Mem (data_cap (ranges_of p) to))
    own_dat p off at e = let h : HasKind look (IsSafe g fs) (IsStackCell g fs) (ranges_of p)
        kind.DataCap (reg o.maps.regs Dat) = (let x = at.fits.each Dat refl in rw e at x) in h

    pub known : AllKnown o
    known = record {
      places = λ p w e. by_word w (inv.met p w e);
      frames = λ a w e. by_word w (inv.met_in_frames a w e);
    }
      where
        by_word : (w : OWord) → IsMet g fs w → IsKnown o.calls w
        by_word (Plain w) e = tt
        by_word (RetCode i) e = tt
        by_word (RetData n) e = frame_known g.layout o.maps.cells o.calls fs n e.0 inv.frames e.1

    -- ---- a call

    module _ (i : ℕ) (p : PartSeen) (index : ℕ) (u : SiteCode) (ip : IsTrusted g p)
        (eu : site_code g.layout i ≡ Some u) (st : SiteOf p index u)
        (at : StandsAt g fs p st.offset o.maps.regs) where
      row_ready : site_ready at.there ≡ true
      row_ready =
          (site_flows p.component (linked.parts p ip.0).limits ((linked.parts p ip.0).flow ip.1)
          st.offset at.there st.site at.row).0

      pub stk_is : kind_of at.there Stk ≡ kind.Stk
      unfolding site_ready
      stk_is = stk_kind (kind_of at.there Stk) (and_parts (is_stk (kind_of at.there Stk)) _ row_ready).0

      pub dat_is : kind_of at.there Dat ≡ kind.DataCap
      unfolding site_ready
      dat_is = data_kind (kind_of at.there Dat)
          (and_parts (is_data (kind_of at.there Dat))
          _ (and_parts (is_stk (kind_of at.there Stk)) _ row_ready).1).0

      pub passes_on : passes at.there ≡ true
      unfolding site_ready
      passes_on =
          (and_parts (is_data (kind_of at.there Dat))
          _ (and_parts (is_stk (kind_of at.there Stk)) _ row_ready).1).1

      c1_safe : IsSafe g fs o.maps.regs.c1
      c1_safe =
          is_safe look (IsSafe g fs) (IsStackCell g fs) (ranges_of p) (safe_int g fs)
          (safe_stk g linked fs p ip) (kind_of at.there C1) (reg o.maps.regs C1)
          (and_parts (below_any (kind_of at.there C1)) _ passes_on).0 (at.fits.each C1 refl)

      pub call_ready : AtSite g.layout i o
      call_ready =
          let S = own_stk p st.offset ip at stk_is in
          let D = own_dat p st.offset at dat_is in
          let up = S.3 in
          let sb = linked.stack_bases p ip in
          let low = up.0 in
          let top = (up.1 S.0 low (omega arith)).1 in
          record {
            site = u;
            is_site = eu;
            sites = sites_stand o.maps.cells inv.code;
            pc = rw (st.base_is, st.end_is, st.at_is) at.at_pc;
            end = S.0;
            to = S.1;
            stk = S.2;
            owned = λ a lo hi.
                stack_cells g linked o.maps.cells fs inv.there a (up.1 a (omega (arith, sb, lo)) hi);
            in_stack = top;
            small_stack = stack_small g linked;
            dat = rw (D.1) refl;
            foreign = λ w e. foreign fs w (subst (λ y. IsSafe g fs y) e c1_safe);
            apart = λ d e q lo hi. pair_apart (regions g)
                g.layout o t inv.flat inv.once linear S.0
                (record (stack_cap g.layout.stack.base S.0 0) { addr = S.1 }) d S.2 refl refl top e lo hi;
            known = known;
          }

    -- ---- an entry

    pub entry_ready : (p : PartSeen) (off a : ℕ) → IsTrusted g p → a ≡ p.component.code_base + off
        → begins_entry p.component off ≡ true → StandsAt g fs p off o.maps.regs → AtEntry g.layout a o
    unfolding kind_of
    entry_ready p off a ip ea e at =
        let st = linked.entries p off ip e in
        let len = length_is g linked p ip in
        let ins = st.inside in
        let r = entry_kind p off at.there e at.row in
        let safe : IsSafe g fs o.maps.regs.stk = (let h = at.fits.each Stk refl in rw r at h) in
        let code : CodeStands p.component.code off (entry_code st.stands.fail off g.layout.stack.base) =
        subst (λ b. CodeStands p.component.code off (entry_code st.stands.fail off b))
        (linked.stack_bases p ip) st.stands.entry in
        record {
          base = (ranges_of p).code_base;
          end = (ranges_of p).code_last;
          pc = rw ea at.at_pc;
          entry = record {
            offset = off;
            fail = st.stands.fail;
            at_is = ea;
            code = stands p o.maps.cells (inv.code p ip)
                a off ea (entry_code st.stands.fail off g.layout.stack.base) code;
            ends = omega (arith, ea, ins, len);
            small = code_small g linked p ip;
            fails = fails_at p o.maps.cells st.stands.fail ip (inv.code p ip) st.stands.fail_is;
          };
          small_stack = (let x = stack_order g linked in let y = stack_small g linked in omega (arith, x, y));
          in_order = safe_order fs o.maps.regs.stk safe;
        }

    -- ---- a return

    pc_free : (p : PartSeen) (off : ℕ) → IsTrusted g p → PcAt look (ranges_of p) off o.maps.regs → (a : ℕ)
        → target_of (faces look o.maps Pc) ≡ Some a → framed fs a ≡ None
    unfolding faces
    pc_free p off ip h a e =
        let b = target_bounds (face_of (look o.maps.regs.pc)) a e in
        let q : code_at (ranges_of p) off ≡ b.0 =
        (let x : Memory (code_at (ranges_of p) off) ≡ Memory b.0 = sym (ap face_of h) ∙ b.1 in cc) in
        let lo : (ranges_of p).code_base ≤ a =
        (let y = ap (λ x. x.base) q in let z = b.2 in omega (arith, y, z)) in
        let hi : a ≤ (ranges_of p).code_last =
        (let y = ap (λ x. x.end) q in let z = b.3 in omega (arith, y, z)) in
        unframed g.layout o.maps.cells o.calls fs a inv.frames
        (λ l r. elim (stack_apart g linked p ip a l r) as (λ _. ⊥)
        [ inl x ↦ omega (arith, x, lo) | inr x ↦ omega (arith, x, hi) ])

    safe_free : (w : OWord) (a : ℕ) → IsSafe g fs w → target_of (face_of (look w)) ≡ Some a
        → framed fs a ≡ None
    safe_free w a h e =
        let b = target_bounds (face_of (look w)) a e in
        let c = mem_safe g fs w b.0 (mem_of_face (look w) b.0 b.1) h in
        c.free a b.2 b.3

    -- a frame is sound for a return
    sound : (f : OpenFrame) → Contains fs f → FrameSound g.layout o.maps.cells f
    sound f c =
        let s = lies_of g.layout o.maps.cells o.calls fs f inv.frames c in
        let k = inv.frames_fit f c in
        let z : f.base - f.base ≡ 0 = omega arith in
        let first : slice_get f.words 0 ≡ Some (Plain (Mem (data_cap (ranges_of k.part) k.to))) =
        ap (slice_get f.words) (sym z) ∙ sym (word_of-within f f.base (omega arith)) ∙ k.first in
        let words = first_of f.words (Plain (Mem (data_cap (ranges_of k.part) k.to))) first in
        record {
          above = s.above;
          order = s.order;
          in_stack = s.within;
          gone = s.gone;
          first = Mem (data_cap (ranges_of k.part) k.to);
          rest = rest_words f.words;
          words = words;
          normal = refl;
          as_long = (let a = ap length words in let b = s.words in omega (arith, a, b));
        }

    -- what reaches from the stack's base to a frame reaches to the newest
    newest : IsSafe g fs o.maps.regs.stk → (n : ℕ) (f : OpenFrame) (c : CapFields) → frame_of fs n ≡ Some f
        → look o.maps.regs.stk ≡ Mem c → c.base ≡ g.layout.stack.base → c.end + 1 ≡ f.base
        → (gs : List OpenFrame) × (fs ≡ f ∷ gs) × (n ≡ f.call)
    newest safe n f c ef es eb ee = by_frames fs refl ef inv.frames
      where
        cap : IsSafeCap g fs c
        cap = mem_safe g fs o.maps.regs.stk c es safe

        by_frames : (xs : List OpenFrame) → fs ≡ xs → frame_of xs n ≡ Some f
            → FramesLie g.layout o.maps.cells o.calls xs
            → (gs : List OpenFrame) × (fs ≡ f ∷ gs) × (n ≡ f.call)
        by_frames [] e h fr = absurd (frame_none n f h)
        by_frames (x ∷ xs) e h fr =
            elim (frame_of-cons x xs n f h) as (λ _. (gs : List OpenFrame) × (fs ≡ f ∷ gs) × (n ≡ f.call)) [
              | inl q ↦ (xs, e ∙ ap (λ y. y ∷ xs) q.1, sym q.0 ∙ ap (λ y. y.call) q.1)
              | inr q ↦
                  (let below = below_all g.layout o.maps.cells o.calls x xs f fr (frame_in xs n f q.1).0 in
                  let s = fr.0 in let ab = s.above in let od = s.order in
                  let nothing : framed fs x.base ≡ None =
                  cap.free x.base (omega (arith, ab, eb)) (omega (arith, below, ee, od)) in
                  absurd (framed_in g.layout o.maps.cells o.calls (x ∷ xs) x x.base fr (contains_first x xs)
                  (omega arith) od (sym (ap (λ y. framed y x.base) e) ∙ nothing)))
            ]

    pub back_ready : (r1 r2 : Reg) (next : Word)
        → fetch (faces look o.maps Pc) (cell_faces look o.maps) ≡ some (Xjmp r1 r2) next
        → ((a : ℕ) → target_of (faces look o.maps Pc) ≡ Some a → framed fs a ≡ None)
        → ((d : Reg) → is_pc d ≡ false → d ≢ Dat → IsSafe g fs (reg o.maps.regs d))
        → IsSafe g fs (reg o.maps.regs r1) → IsSafe g fs (reg o.maps.regs r2) → AtReturn g.layout r1 r2 o
    back_ready r1 r2 next e free shown s1 s2 = record {
      next = next;
      fetched = e;
      free = free;
      sites = sites_stand o.maps.cells inv.code;
      small_stack = stack_small g linked;
      small_base = (let x = stack_order g linked in let y = stack_small g linked in omega (arith, x, y));
      in_order = safe_order fs o.maps.regs.stk (shown Stk refl (λ x. cc));
      foreign = λ r w which ew. elim which as (λ _. IsForeign g.layout w) [
        | inl a ↦ foreign fs w (subst (λ y. IsSafe g fs y) (sym (ap (reg o.maps.regs) a) ∙ ew) s1)
        | inr a ↦ foreign fs w (subst (λ y. IsSafe g fs y) (sym (ap (reg o.maps.regs) a) ∙ ew) s2)
      ];
      one_seal = linked.one_seal;
      frames = λ f gs q. sound f (subst (λ y. Contains y f) (sym q) (contains_first f gs));
      apart = λ f gs a w q h. frames_apart g.layout o.maps.cells o.calls f gs a w
          (subst (λ y. FramesLie g.layout o.maps.cells o.calls y) q inv.frames) h;
      newest = newest (shown Stk refl (λ x. cc));
      one_place =
          λ n q w er ew ne.
          (let c = opened r2 n er in one_place (regions g)
          g.layout o t inv.flat inv.once linear n c.0 c.1 c.2 c.3 c.4 c.5 c.6 r2 er q w ew ne);
      in_frames =
          λ n a w er ew.
          (let c = opened r2 n er in in_no_frame (regions g)
          g.layout o t inv.flat inv.once linear n c.0 c.1 c.2 c.3 c.4 c.5 c.6 r2 er a w (gone a w ew) ew);
    }
      where
        opened : (r : Reg) (n : ℕ) → reg o.maps.regs r ≡ RetData n
            → (f : OpenFrame) × (s : SiteCode) × (frame_of fs n ≡ Some f)
            × (site_code g.layout f.site ≡ Some s) × (g.layout.stack.base ≤ f.base) × (f.base ≤ f.end)
            × (f.end ≤ g.layout.stack.end)
        opened r n er =
            let c : IsMet g fs (RetData n) = inv.met (R r) (RetData n) (ap Some er) in
            let k = (frame_in fs n c.0 c.1).0 in
            let s = lies_of g.layout o.maps.cells o.calls fs c.0 inv.frames k in
            let f = inv.frames_fit c.0 k in
            (c.0, f.code, c.1, f.code_is, (let a = s.above in omega (arith, a)), s.order, s.within)

        gone : (a : ℕ) (w : OWord) → framed fs a ≡ Some w → cell o.maps.cells a ≡ None
        gone a w ew =
            let b = framed_by fs a w ew in
            let s = lies_of g.layout o.maps.cells o.calls fs b.0 inv.frames b.1 in
            let r = word_in_frame g.layout o.maps.cells b.0 a w s b.2 in
            s.gone a r.0 r.1

    -- ---- every kind of step

    data_free : (p : PartSeen) (a : ℕ) → IsTrusted g p → (ranges_of p).data_base ≤ a
        → a ≤ (ranges_of p).data_last → framed fs a ≡ None
    data_free p a ip lo hi = unframed g.layout o.maps.cells o.calls fs a inv.frames (λ l h.
        let e = same_region g linked (data_region p) (stack_region g.layout) a (linked.data_there p ip)
        (stack_there g linked) lo hi l h in
        let bad : false ≡ true = ap (λ r. r.linear) e in cc)

    ready_by : (c : Case) → View g fs o.maps c → ReadyFor g.layout o c
    unfolding faces
    ready_by (Call i) (at_site p index u ip eu st at) = call_ready i p index u ip eu st at
    ready_by (Entry a) (at_entry p off ip ea e at) = entry_ready p off a ip ea e at
    ready_by Other (failing next p off ip lt h e) = record {
      at_pc = pc_free p off ip h;
      at_target =
          λ n nx a f q.
          (let same : some Fail next ≡ some n nx = sym e ∙ f in let i : Fail ≡ n =
          cc in let bad : None ≡ Some a = ap (λ x. target x (faces look o.maps)) i ∙ q in cc);
    }
    ready_by c (in_part p off ip ne ns at ec) =
        elim (fetched_case o.maps _ c ec) as (λ _. ReadyFor g.layout o c) [
          | inl e ↦ rw e (record {
            at_pc = pc_free p off ip at.at_pc;
            at_target =
                λ n nx a f q.
                elim (glue_area g linked fs o.maps p ip (inv.code p ip) inv.cells off at ne ns n nx a f q)
                as (λ _. framed fs a ≡ None) [ inl d ↦ data_free p a ip d.0 d.1 | inr d ↦ d.2 ];
          })
          | inr e ↦
              rw (e.3) (let sh =
              glue_shows g linked fs o.maps p ip (inv.code p ip) inv.cells off at ne ns e.0 e.1 e.2 e.4 in
              back_ready e.0 e.1 e.2 e.4 (pc_free p off ip at.at_pc) sh.0 sh.1 sh.2)
        ]
    ready_by c (out h ec) = elim (fetched_case o.maps _ c ec) as (λ _. ReadyFor g.layout o c) [
      | inl e ↦ rw e (record {
        at_pc = λ a q. safe_free o.maps.regs.pc a (h Pc) q;
        at_target =
            λ n nx a f q.
            (let r = target_reg n (faces look o.maps) a q in safe_free (reg o.maps.regs r.0) a (h r.0) r.1);
      })
      | inr e ↦
          rw (e.3) (back_ready e.0 e.1 e.2 e.4 (λ a q. safe_free o.maps.regs.pc a (h Pc) q) (λ d _ _. h d)
          (h e.0) (h e.1))
    ]

    pub ready : ReadyFor g.layout o (case_of g.layout o.maps)
    ready = ready_by _ (view g linked fs o.maps inv.code inv.pc)

    -- ---- how words look

    shows : (w : OWord) → IsMet g fs w → face_of (flat g.layout fs w) ≡ face_of (look w)
    unfolding flat
    shows (Plain w) h = refl
    shows (RetCode i) h = ap (λ x. face_of (flat_code x)) h.1
    shows (RetData k) h =
        let f = inv.frames_fit h.0 (frame_in fs k h.0 h.1).0 in
        ap (λ x. face_of (flat_data g.layout x)) h.1 ∙ ap (λ x. face_of (flat_range h.0 x)) f.code_is

    pub looks : Looks g.layout o
    looks = ((λ p w e. shows w (inv.met p w e)), (λ a w e. shows w (inv.met_in_frames a w e)))

-- ---- and back

met_code : (g : Link) (fs : List OpenFrame) (i : ℕ) (x : Option SiteCode) → site_code g.layout i ≡ x
    → face_of (flat_code x) ≡ face_of (look (RetCode i)) → IsMet g fs (RetCode i)
met_code g fs i None e h = cc
met_code g fs i (Some s) e h = (s, e)

met_data : (g : Link) (fs : List OpenFrame) (k : ℕ) (x : Option OpenFrame) → frame_of fs k ≡ x
    → face_of (flat_data g.layout x) ≡ face_of (look (RetData k)) → IsMet g fs (RetData k)
met_data g fs k None e h = cc
met_data g fs k (Some f) e h = (f, e)

-- a word that looks as it should is met
pub met_of : (g : Link) (fs : List OpenFrame) (w : OWord) → face_of (flat g.layout fs w) ≡ face_of (look w)
    → IsMet g fs w
unfolding flat
met_of g gs (Plain w) h = tt
met_of g gs (RetCode i) h = met_code g gs i _ refl h
met_of g gs (RetData k) h = met_data g gs k _ refl h
