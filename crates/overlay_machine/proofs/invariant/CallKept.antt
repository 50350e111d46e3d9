-- The invariant is kept by a call that goes on.
use Rattle.std.proofs.Common.{◌≡◌, ◌≢◌, ◌⊎◌, inl, inr, ℕ, suc, ◌+◌, ◌-◌, ◌<◌, ◌≤◌, ℤ, pos, negsuc, Bool, true}
use Rattle.std.proofs.Common.{false, List, ◌∷◌, length, Option, Some, None, refl, sym, ap, ◌∙◌, subst, arith}
use Rattle.std.proofs.Common.{is_some, IsSome, leb-true, ltb-true}
use Rattle.std.specs.Prelude.{◌&&◌, not, int_lt, nat_le, slice_get, unwrap_or}
use Rattle.std.specs.Option.{option_or}
use Rattle.std.specs.List.{Contains}
use Rattle.std.proofs.lemmas.Bool.{and_parts, and_right}
use Rattle.std.proofs.lemmas.Option.{slice_get_within}
use Rattle.cap_words.specs.declared.Word.{Word}
use Rattle.cap_words.specs.declared.Word.TheVariants.{Int, Mem, Seal, Sealed}
use Rattle.cap_words.specs.declared.Sealable.TheVariants.{Mem as MemIn, Seal as SealIn}
use Rattle.cap_words.specs.declared.CapFields.{CapFields}
use Rattle.cap_words.specs.declared.Perm.TheVariants.{Rw}
use Rattle.cap_words.specs.declared.Lin.TheVariants.{Linear}
use Rattle.cap_words.specs.Faces.{covers, address}
use Rattle.cap_words.specs.Linear.{zero_word}
use Rattle.lcm_isa.specs.declared.Reg.{Reg}
use Rattle.lcm_isa.specs.declared.Reg.TheVariants.{Pc, Rcode, Rdata, Stk, Dat, T1, T2, C1, C2, A0, A1, A2, A3}
use Rattle.lcm_isa.specs.declared.Reg.TheVariants.{G0, G1, G2}
use Rattle.lcm_isa.specs.declared.Instr.TheVariants.{Xjmp}
use Rattle.lcm_machine.specs.declared.Place.{Place}
use Rattle.lcm_machine.specs.declared.Place.TheVariants.{R, Cell}
use Rattle.lcm_machine.specs.Maps.{State}
use Rattle.lcm_machine.specs.Places.{reg}
use Rattle.lcm_machine.specs.Cells.{cell, without}
use Rattle.lcm_machine.specs.Regions.{memory_of}
use Rattle.lcm_machine.specs.Row.{word_at, row, went}
use Rattle.lcm_machine.proofs.Offers.{contains_cases, cell-without_in, cell-without_out}
use Rattle.call_sequence.specs.Kinds.{kind_of, below_any}
use Rattle.call_sequence.specs.Holds.{data_cap, HasKind}
use Rattle.call_sequence.proofs.Offers.{is_safe}
use Rattle.linked_starts.specs.Parts.{PartSeen}
use Rattle.linked_starts.specs.Regions.{in_regions}
use Rattle.trusted_border.specs.declared.layout.Layout.{Layout}
use Rattle.trusted_border.specs.declared.layout.SiteCode.{SiteCode}
use Rattle.trusted_border.specs.Layout.{site_code}
use Rattle.overlay_machine.specs.declared.words.OWord.{OWord}
use Rattle.overlay_machine.specs.declared.words.OWord.TheVariants.{Plain, RetCode, RetData}
use Rattle.overlay_machine.specs.Words.{look, is_plain}
use Rattle.overlay_machine.specs.State.{OpenFrame, OState, Cells, framed, word_of}
use Rattle.overlay_machine.specs.Flat.{flat}
use Rattle.overlay_machine.specs.Step.{goes, own_stack, new_frame, at_call, call_step}
use Rattle.overlay_machine.specs.Agree.{IsKnown, AllKnown}
use Rattle.overlay_machine.specs.Link.{Link, IsTrusted, ranges_of, regions, has_cell, IsStackCell, IsOpenAt}
use Rattle.overlay_machine.specs.Linked.{IsLink, SiteOf}
use Rattle.overlay_machine.specs.Safe.{IsSafeCap, IsSafe}
use Rattle.overlay_machine.specs.Invariant.{StandsAt, PcPart, FrameLies, FramesLie, FrameFits, Invariant}
use Rattle.overlay_machine.proofs.FlatLemmas.{flat-mem}
use Rattle.overlay_machine.proofs.FrameWords.{words_from-at, word_of-within, frame_of-later, frame_of-newest}
use Rattle.overlay_machine.proofs.invariant.Facts.{safe_int, safe_stk, mem_safe, in_code, closed, stack_cells}
use Rattle.overlay_machine.proofs.invariant.Facts.{open_stack_at, in_stack}
use Rattle.overlay_machine.proofs.invariant.HeldFlat.{one_holder, place_flat, framed_flat}
use Rattle.overlay_machine.proofs.invariant.Ready.{own_dat, dat_is, stk_is, passes_on, linear, known}
use Rattle.overlay_machine.proofs.OwnStack.{own_is}
use Rattle.overlay_machine.proofs.invariant.EntryKept.{need_goes}
use Rattle.overlay_machine.proofs.invariant.OtherKept.{went_other, cross_safe}
use Rattle.overlay_machine.proofs.invariant.Standing.{Stand}
use Rattle.overlay_machine.proofs.invariant.ReturnKept.{ask_goes, where_in}
use Rattle.overlay_machine.proofs.invariant.FramesKept.{call_keeps}
use Rattle.overlay_machine.proofs.invariant.FrameFacts.{lies_of, word_in_frame, word_out, has_word}
use Rattle.overlay_machine.proofs.invariant.Popped.{framed_at}
use Rattle.overlay_machine.proofs.invariant.Crossing.{Crossed, xjmp_crossed}

-- what a call that goes on was
pub record Called (l : Layout) (i : ℕ) (o q : OState) : Type 0 where
  pub site : SiteCode
  pub cap : CapFields
  pub site_is : site_code l i ≡ Some site
  pub own : own_stack l o.maps ≡ Some cap
  pub above : l.stack.base < address cap.addr
  pub within : address cap.addr ≤ cap.end
  pub plain1 : is_plain o.maps.regs.c1 ≡ true
  pub plain2 : is_plain o.maps.regs.c2 ≡ true
  pub maps : State OWord
  pub row_is : row look Plain (Xjmp C1 C2) (Int (pos 0)) (at_call i site cap o) ≡ went maps
  pub result : q ≡ record
      { maps = maps; frames = new_frame i (address cap.addr) cap.end o ∷ o.frames; calls = o.calls + 1 }

cursor : (low : ℕ) (c : CapFields) (z : ℤ) → (int_lt (pos low) z && covers c z) ≡ true
    → (low < address z) × (address z ≤ c.end)
cursor low c (pos n) h = let p = and_parts (int_lt (pos low) (pos n)) (covers c (pos n)) h in let b =
    and_parts (nat_le c.base n) (nat_le n c.end) p.1 in (ltb-true low n p.0, leb-true n c.end b.1)
cursor low c (negsuc n) h = let p =
    and_parts (int_lt (pos low) (negsuc n)) (covers c (negsuc n)) h in let bad : false ≡ true = p.1 in cc

pub called : (l : Layout) (i : ℕ) (o q : OState) → call_step l i o ≡ goes q → Called l i o q
unfolding call_step
called l i o q h =
    let a = need_goes (site_code l i) _ q h in
    let b = need_goes (own_stack l o.maps) _ q a.2 in
    let c = ask_goes _ _ q b.2 in
    let d = ask_goes _ _ q c.1 in
    let e = ask_goes _ _ q d.1 in
    let p = and_parts (is_plain o.maps.regs.c1) (is_plain o.maps.regs.c2) e.0 in
    let w = went_other _ (o.calls + 1) _ q e.1 in
    let k = cursor l.stack.base b.0 b.0.addr c.0 in
    record {
      site = a.0;
      cap = b.0;
      site_is = a.1;
      own = b.1;
      above = k.0;
      within = k.1;
      plain1 =
          p.0;
      plain2 = p.1;
      maps = w.0;
      row_is = w.1;
      result = w.2;
    }

pub mem_plain : (w : OWord) (c : CapFields) → look w ≡ Mem c → w ≡ Plain (Mem c)
mem_plain (Plain x) c e = ap Plain e
mem_plain (RetCode i) c e = cc
mem_plain (RetData k) c e = cc

-- the registers that a call passes on
passed_at : (b1 b2 b3 b4 b5 b6 b7 b8 b9 : Bool)
    → (b1 && (b2 && (b3 && (b4 && (b5 && (b6 && (b7 && (b8 && (b9 && true))))))))) ≡ true
    → (b1 ≡ true) × (b2 ≡ true) × (b3 ≡ true) × (b4 ≡ true) × (b5 ≡ true) × (b6 ≡ true) × (b7 ≡ true)
    × (b8 ≡ true) × (b9 ≡ true)
passed_at true true true true true true true true true h =
    (refl, refl, refl, refl, refl, refl, refl, refl, refl)
passed_at false b2 b3 b4 b5 b6 b7 b8 b9 h = cc
passed_at true false b3 b4 b5 b6 b7 b8 b9 h = cc
passed_at true true false b4 b5 b6 b7 b8 b9 h = cc
passed_at true true true false b5 b6 b7 b8 b9 h = cc
passed_at true true true true false b6 b7 b8 b9 h = cc
passed_at true true true true true false b7 b8 b9 h = cc
passed_at true true true true true true false b8 b9 h = cc
passed_at true true true true true true true false b9 h = cc
passed_at true true true true true true true true false h = cc

module _ (g : Link) (linked : IsLink g) (o : OState) (t : State Word) (inv : Invariant g o t)
    (i : ℕ) (p : PartSeen) (index : ℕ) (u : SiteCode) (ip : IsTrusted g p)
    (eu : site_code g.layout i ≡ Some u) (st : SiteOf p index u)
    (at : StandsAt g o.frames p st.offset o.maps.regs) (q : OState) (x : Called g.layout i o q) where
  abbrev fs : List OpenFrame
  fs = o.frames

  abbrev m : Cells
  m = o.maps.cells

  abbrev c : CapFields
  c = x.cap

  abbrev A : ℕ
  A = address x.cap.addr

  abbrev F : OpenFrame
  F = new_frame i (address x.cap.addr) x.cap.end o

  own : (look o.maps.regs.stk ≡ Mem c)
      × (c ≡ record { perm = Rw; lin = Linear; base = g.layout.stack.base; end = c.end; addr = c.addr })
  own = own_is g.layout o.maps c x.own

  base_is : c.base ≡ g.layout.stack.base
  base_is = ap (λ y. y.base) own.1

  kind_safe : (d : Reg) → below_any (kind_of at.there d) ≡ true
      → HasKind look (IsSafe g fs) (IsStackCell g fs) (ranges_of p) (kind_of at.there d) (reg o.maps.regs d)
      → IsSafe g fs (reg o.maps.regs d)
  kind_safe d b h = is_safe look (IsSafe g fs) (IsStackCell g fs) (ranges_of p) (safe_int g fs)
      (safe_stk g linked fs p ip) (kind_of at.there d) (reg o.maps.regs d) b h

  stk_safe : IsSafe g fs o.maps.regs.stk
  stk_safe =
      kind_safe Stk (ap below_any (stk_is g linked o t inv i p index u ip eu st at)) (at.fits.each Stk refl)

  cap : IsSafeCap g fs c
  cap = mem_safe g fs o.maps.regs.stk c own.0 stk_safe

  top : c.end ≤ g.layout.stack.end
  top = in_stack g linked fs c cap base_is

  owned : (a : ℕ) → g.layout.stack.base ≤ a → a ≤ c.end → IsSome (cell m a)
  owned a low high =
      stack_cells g linked m fs inv.there a (
        low,
        (let b = top in omega (arith, high, b)),
        cap.free a (let b = base_is in omega (arith, b, low))
            high,
      )

  dat : (to : ℤ) × (look o.maps.regs.dat ≡ Mem (data_cap (ranges_of p) to))
  dat = own_dat g linked o t inv p st.offset at (dat_is g linked o t inv i p index u ip eu st at)

  frames_after : FramesLie g.layout (without m A c.end) (o.calls + 1) (F ∷ fs)
  frames_after = call_keeps g.layout i A c.end o owned x.above x.within top inv.frames

  lies : FrameLies g.layout (without m A c.end) F
  lies = frames_after.0

  -- ---- nothing else is over the frame's addresses

  abbrev Off : OWord → Type 0
  Off w = (d : CapFields) → memory_of (flat g.layout fs w) ≡ Some d → (a : ℕ) → d.base ≤ a → a ≤ d.end → A ≤ a
      → a ≤ c.end → ⊥

  at_stk : memory_of (reg t.regs Stk) ≡ Some c
  at_stk = ap memory_of (inv.flat.regs Stk ∙ flat-mem g.layout fs o.maps.regs.stk c own.0)

  holder : (r : Place) (w : Word) (d : CapFields) (a : ℕ) → word_at t r ≡ Some w → memory_of w ≡ Some d
      → d.base ≤ a → a ≤ d.end → A ≤ a → a ≤ c.end → r ≡ R Stk
  holder r w d a er ed b1 b2 b3 b4 =
      let ab = x.above in
      let b = base_is in
      let tp = top in
      one_holder (regions g) g.layout o t inv.flat inv.once (linear g linked o t inv) r (R Stk)
      w (reg t.regs Stk) d c a er ed refl at_stk b1 b2 (omega (arith, b, ab, b3))
      b4 (omega (arith, ab, b3)) (omega (arith, tp, b4))

  off_place : (r : Place) (w : OWord) → word_at o.maps r ≡ Some w → r ≢ R Stk → Off w
  off_place r w er ne d ed a b1 b2 b3 b4 =
      ne (holder r (flat g.layout fs w)
      d a (place_flat (regions g) g.layout o t inv.flat inv.once (linear g linked o t inv) r w er)
      ed b1 b2 b3 b4)

  off_frame : (b : ℕ) (w : OWord) → cell m b ≡ None → framed fs b ≡ Some w → Off w
  off_frame b w gone er d ed a b1 b2 b3 b4 =
      let e = holder (Cell b) (flat g.layout fs w)
      d a (framed_flat (regions g) g.layout o t inv.flat inv.once (linear g linked o t inv) b w gone er)
      ed b1 b2 b3 b4 in cc

  out_of_frame : (a : ℕ) → (A ≤ a → a ≤ c.end → ⊥) → word_of F a ≡ None
  out_of_frame a never = by_word (word_of F a) refl
    where
      by_word : (w : Option OWord) → word_of F a ≡ w → w ≡ None
      by_word None e = refl
      by_word (Some w) e = let r =
          word_in_frame g.layout (without m A c.end) F a w lies e in absurd (never r.0 r.1)

  both_none : (a : ℕ) → word_of F a ≡ None → framed fs a ≡ None → framed (F ∷ fs) a ≡ None
  both_none a e h = ap (λ y. option_or y (framed fs a)) e ∙ h

  cap_pushed : (d : CapFields) → ((a : ℕ) → d.base ≤ a → a ≤ d.end → A ≤ a → a ≤ c.end → ⊥) → IsSafeCap g fs d
      → IsSafeCap g (F ∷ fs) d
  cap_pushed d never h =
      record {
        area = h.area;
        runs = h.runs;
        usable = h.usable;
        low = h.low;
        order = h.order;
        high =
            h.high;
        lin = h.lin;
        may = h.may;
        free =
            λ a low high. both_none a (out_of_frame a (never a low high)) (h.free a low high);
      }

  pushed : (w : OWord) → IsSafe g fs w → IsKnown o.calls w → Off w → IsSafe g (F ∷ fs) w
  unfolding flat
  pushed (Plain (Int z)) h n f = tt
  pushed (Plain (Mem d)) h n f = cap_pushed d (f d refl) h
  pushed (Plain (Seal d)) h n f = h
  pushed (Plain (Sealed k (MemIn d))) (inl h) n f = inl (h.0, cap_pushed d (f d refl) h.1)
  pushed (Plain (Sealed k (SealIn d))) (inl h) n f = inl h
  pushed (Plain (Sealed k y)) (inr h) n f = inr h
  pushed (RetCode j) h n f = h
  pushed (RetData k) h n f =
      (h.0, frame_of-later F fs k (let ne : k ≢ o.calls = omega (arith, n) in ne) ∙ h.1)

  all_known : AllKnown o
  all_known = known g linked o t inv

  pushed_at : (r : Place) (w : OWord) → word_at o.maps r ≡ Some w → r ≢ R Stk → IsSafe g fs w
      → IsSafe g (F ∷ fs) w
  pushed_at r w er ne h = pushed w h (all_known.places r w er) (off_place r w er ne)

  -- ---- the registers at the call's `xjmp`

  abbrev s : State OWord
  s = at_call i x.site c o

  below : (below_any (kind_of at.there C1) ≡ true) × (below_any (kind_of at.there C2) ≡ true)
      × (below_any (kind_of at.there A0) ≡ true) × (below_any (kind_of at.there A1) ≡ true)
      × (below_any (kind_of at.there A2) ≡ true)
      × (below_any (kind_of at.there A3) ≡ true) × (below_any (kind_of at.there G0) ≡ true)
      × (below_any (kind_of at.there G1) ≡ true) × (below_any (kind_of at.there G2) ≡ true)
  below = passed_at _ _ _ _ _ _ _ _ _ (passes_on g linked o t inv i p index u ip eu st at)

  passed : (d : Reg) → R d ≢ R Stk → below_any (kind_of at.there d) ≡ true
      → HasKind look (IsSafe g fs) (IsStackCell g fs) (ranges_of p) (kind_of at.there d) (reg o.maps.regs d)
      → IsSafe g (F ∷ fs) (reg o.maps.regs d)
  passed d ne b h = pushed_at (R d) (reg o.maps.regs d) refl ne (kind_safe d b h)

  stk_after : IsSafeCap g (F ∷ fs) (record c { end = A - 1; addr = pos (A - 1) })
  stk_after =
      let ab = x.above in
      let w = x.within in
      let b = base_is in
      let e = cap.high in
      record {
        area = cap.area;
        runs = cap.runs;
        usable = cap.usable;
        low = cap.low;
        order = omega (arith, ab, b);
        high = omega (arith, w, e);
        lin = cap.lin;
        may = cap.may;
        free = λ a low high. both_none a (out_of_frame a (λ l r. omega (arith, l, high, ab)))
            (cap.free a low (omega (arith, high, w)));
      }

  shown : (d : Reg) → d ≢ Pc → d ≢ Dat → IsSafe g (F ∷ fs) (reg s.regs d)
  shown Pc n1 n2 = absurd (n1 refl)
  shown Dat n1 n2 = absurd (n2 refl)
  shown Rcode n1 n2 = (x.site, x.site_is)
  shown Rdata n1 n2 = (F, frame_of-newest F fs)
  shown Stk n1 n2 = stk_after
  shown T1 n1 n2 = tt
  shown T2 n1 n2 = tt
  shown C1 n1 n2 = passed C1 (λ e. cc) below.0 (at.fits.each C1 refl)
  shown C2 n1 n2 = passed C2 (λ e. cc) below.1 (at.fits.each C2 refl)
  shown A0 n1 n2 = passed A0 (λ e. cc) below.2 (at.fits.each A0 refl)
  shown A1 n1 n2 = passed A1 (λ e. cc) below.3 (at.fits.each A1 refl)
  shown A2 n1 n2 = passed A2 (λ e. cc) below.4 (at.fits.each A2 refl)
  shown A3 n1 n2 = passed A3 (λ e. cc) below.5 (at.fits.each A3 refl)
  shown G0 n1 n2 = passed G0 (λ e. cc) below.6 (at.fits.each G0 refl)
  shown G1 n1 n2 = passed G1 (λ e. cc) below.7 (at.fits.each G1 refl)
  shown G2 n1 n2 = passed G2 (λ e. cc) below.8 (at.fits.each G2 refl)

  crossed : Crossed C1 C2 s x.maps
  crossed = xjmp_crossed s x.maps C1 C2 (Int (pos 0)) x.row_is

  pc_after : PcPart g (F ∷ fs) x.maps.regs
  pc_after = cross_safe g linked (F ∷ fs) s x.maps C1 C2 x.plain1 x.plain2 (shown C1 (λ e. cc) (λ e. cc))
      (shown C2 (λ e. cc) (λ e. cc)) shown crossed

  -- ---- cells

  cell_is : (a : ℕ) → cell x.maps.cells a ≡ cell (without m A c.end) a
  cell_is a = ap (λ y. cell y a) crossed.cells

  there_after : (a : ℕ) → is_some (cell x.maps.cells a) ≡ has_cell g (F ∷ fs) a
  there_after a = elim (where_in a A c.end) as (λ _. is_some (cell x.maps.cells a) ≡ has_cell g (F ∷ fs) a) [
    | inl out ↦ ap is_some (cell_is a ∙ cell-without_out m A c.end a out) ∙ inv.there a
        ∙ ap (λ y. in_regions a (regions g) && not (is_some (option_or y (framed fs a))))
        (sym (word_out g.layout (without m A c.end) F a lies out))
    | inr inn ↦ (let v = has_word g.layout (without m A c.end) F a lies inn.0 inn.1 in
        ap is_some (cell_is a ∙ cell-without_in m A c.end a inn.0 inn.1)
        ∙ sym (ap (λ y. in_regions a (regions g) && not (is_some (option_or y (framed fs a)))) v.1
        ∙ and_right (in_regions a (regions g)) false refl))
  ]

  code_out : (r : PartSeen) (n : ℕ) → IsTrusted g r → n < length r.component.code
      → (r.component.code_base + n < A) ⊎ (c.end < r.component.code_base + n)
  code_out r n ir lt =
      elim (where_in (r.component.code_base + n) A c.end)
      as (λ _. (r.component.code_base + n < A) ⊎ (c.end < r.component.code_base + n)) [
        | inl out ↦ out
        | inr inn ↦
            absurd (closed g linked r ir (r.component.code_base + n) (omega arith)
            (in_code g linked r n ir lt)
            (open_stack_at g linked (r.component.code_base + n)
            (let a = x.above in let b = inn.0 in omega (arith, a, b))
            (let a = top in let b = inn.1 in omega (arith, a, b))))
      ]

  cells_after : (a : ℕ) (w : OWord) → IsOpenAt g a → cell x.maps.cells a ≡ Some w → IsSafe g (F ∷ fs) w
  cells_after a w op e = elim (where_in a A c.end) as (λ _. IsSafe g (F ∷ fs) w) [
    | inl out ↦
        (let k : cell m a ≡ Some w = sym (cell_is a ∙ cell-without_out m A c.end a out)
        ∙ e in pushed_at (Cell a) w k (λ y. cc) (inv.cells a w op k))
    | inr inn ↦
        (let n = cell_is a ∙ cell-without_in m A c.end a inn.0 inn.1 in let bad : None ≡ Some w =
        sym n ∙ e in cc)
  ]

  -- ---- frames

  first_is : word_of F F.base ≡ Some (Plain (Mem (data_cap (ranges_of p) dat.0)))
  first_is =
      let z : A - A ≡ 0 = omega arith in
      word_of-within F A (omega arith) ∙ ap (slice_get F.words) z
      ∙ ap Some (mem_plain o.maps.regs.dat (data_cap (ranges_of p) dat.0) dat.1)

  others_safe : (a : ℕ) (w : OWord) → A < a → word_of F a ≡ Some w → IsSafe g (F ∷ fs) w
  others_safe a w lt e =
      let r = word_in_frame g.layout (without m A c.end) F a w lies e in
      at_index (a - A - 1) (omega (arith, lt)) r.1
    where
      by_cell : (v : Option OWord) → cell m a ≡ v → IsSome v → w ≡ unwrap_or v (zero_word Plain) → a ≤ c.end
          → IsSafe g (F ∷ fs) w
      by_cell None k h q high = cc
      by_cell (Some v) k h q high =
          let ab = x.above in let tp = top in
          let kw : cell m a ≡ Some w = k ∙ ap Some (sym q) in
          pushed_at (Cell a) w kw (λ y. cc)
          (inv.cells a w (open_stack_at g linked a (omega (arith, ab, lt)) (omega (arith, tp, high))) kw)

      at_index : (j : ℕ) → A + suc j ≡ a → a ≤ c.end → IsSafe g (F ∷ fs) w
      at_index j ej high =
          let d : a - A ≡ suc j = omega (arith, ej) in
          let n : A + 1 + j ≡ a = omega (arith, ej) in
          let k : Some w ≡ Some (unwrap_or (cell m (A + 1 + j)) (zero_word Plain)) =
          sym e ∙ word_of-within F a (omega (arith, lt)) ∙ ap (slice_get F.words) d
          ∙ words_from-at m (A + 1) (c.end - A) j (omega (arith, ej, high)) in
          let kq : w ≡ unwrap_or (cell m (A + 1 + j)) (zero_word Plain) = cc in
          let ab = x.above in
          by_cell (cell m a) refl (owned a (omega (arith, ab, lt)) high)
          (kq ∙ ap (λ y. unwrap_or (cell m y) (zero_word Plain)) n) high

  new_fits : FrameFits g (F ∷ fs) F
  new_fits =
      record {
        part = p;
        trusted = ip;
        code = u;
        code_is = eu;
        index = index;
        site = st;
        there =
            at.there;
        row = at.row;
        to = dat.0;
        first = first_is;
        others = others_safe;
      }

  old_fits : (h : OpenFrame) → Contains fs h → FrameFits g (F ∷ fs) h
  old_fits h k =
      let f = inv.frames_fit h k in
      record {
        part = f.part;
        trusted = f.trusted;
        code = f.code;
        code_is = f.code_is;
        index = f.index;
        site = f.site;
        there = f.there;
        row = f.row;
        to = f.to;
        first = f.first;
        others = λ a w lt e. (let fa = framed_at g.layout m o.calls fs h a w inv.frames k e in
            let sd = lies_of g.layout m o.calls fs h inv.frames k in
            let r = word_in_frame g.layout m h a w sd e in
            pushed w (f.others a w lt e) (all_known.frames a w fa) (off_frame a w (sd.gone a r.0 r.1) fa));
      }

  pub call_kept : Stand g q
  call_kept = subst (λ y. Stand g y) (sym x.result) (record {
    pc = pc_after;
    there = there_after;
    code = λ r ir n w e. cell_is (r.component.code_base + n)
        ∙ cell-without_out m A c.end (r.component.code_base + n)
        (code_out r n ir (slice_get_within r.component.code n w e)) ∙ inv.code r ir n w e;
    cells = cells_after;
    frames = subst (λ y. FramesLie g.layout y (o.calls + 1) (F ∷ fs)) (sym crossed.cells) frames_after;
    frames_fit = λ h k. elim (contains_cases F fs h k) as (λ _. FrameFits g (F ∷ fs) h)
        [ inl e ↦ subst (λ y. FrameFits g (F ∷ fs) y) e new_fits | inr k2 ↦ old_fits h k2 ];
  })
