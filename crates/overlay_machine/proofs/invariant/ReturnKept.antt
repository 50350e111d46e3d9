-- The invariant is kept by a return that succeeds.
use Rattle.call_sequence.specs.declared.TheConstants.{SITE_WORDS}
use Rattle.std.proofs.Common.{◌≡◌, ◌≢◌, ◌⊎◌, inl, inr, ℕ, suc, ◌+◌, ◌-◌, ◌<◌, ◌≤◌, pos, Bool, true, false}
use Rattle.std.proofs.Common.{List, [], ◌∷◌, length, Option, Some, None, refl, sym, ap, ◌∙◌, subst, arith}
use Rattle.std.proofs.Common.{is_some, eqb-true}
use Rattle.std.specs.Prelude.{◌==◌, ◌&&◌, not, slice_get}
use Rattle.std.specs.Option.{option_or}
use Rattle.std.specs.List.{Contains}
use Rattle.std.proofs.lemmas.Bool.{cases_lt, and_parts}
use Rattle.std.proofs.lemmas.Option.{slice_get_within, same_Some}
use Rattle.cap_words.specs.declared.Word.{Word}
use Rattle.cap_words.specs.declared.Word.TheVariants.{Mem}
use Rattle.cap_words.specs.declared.CapFields.{CapFields}
use Rattle.cap_words.specs.declared.Perm.TheVariants.{Rw}
use Rattle.cap_words.specs.declared.Lin.TheVariants.{Linear}
use Rattle.cap_words.specs.Linear.{zero_word}
use Rattle.lcm_isa.specs.declared.Reg.{Reg}
use Rattle.lcm_isa.specs.declared.Reg.TheVariants.{Pc, Rcode, Rdata, Stk, Dat, T1, T2, C1, C2, A0, A1, A2, A3}
use Rattle.lcm_isa.specs.declared.Reg.TheVariants.{G0, G1, G2}
use Rattle.lcm_machine.specs.declared.Place.TheVariants.{R, Cell}
use Rattle.lcm_machine.specs.Maps.{Regs, State}
use Rattle.lcm_machine.specs.Places.{reg, set_reg}
use Rattle.lcm_machine.specs.Cells.{cell, put_back}
use Rattle.lcm_machine.specs.Table.{is_pc}
use Rattle.lcm_machine.specs.Row.{put}
use Rattle.lcm_machine.specs.Runs.{code_cap}
use Rattle.lcm_machine.proofs.Offers.{cases_reg, reg-set_same, reg-set_other}
use Rattle.call_sequence.specs.Holds.{data_cap, part_stack_cap, Up}
use Rattle.call_sequence.proofs.Offers.{site_flows}
use Rattle.linked_starts.specs.Parts.{PartSeen}
use Rattle.linked_starts.specs.Regions.{in_regions}
use Rattle.linked_starts.proofs.Offers.{in_regions_is}
use Rattle.trusted_border.specs.declared.layout.Layout.{Layout}
use Rattle.trusted_border.specs.declared.layout.SiteCode.{SiteCode}
use Rattle.trusted_border.specs.Layout.{site_code}
use Rattle.overlay_machine.specs.declared.words.OWord.{OWord}
use Rattle.overlay_machine.specs.declared.words.OWord.TheVariants.{Plain, RetCode, RetData}
use Rattle.overlay_machine.specs.Words.{look}
use Rattle.overlay_machine.specs.State.{OpenFrame, OState, Cells, framed, word_of}
use Rattle.overlay_machine.specs.Step.{Ending, goes, ask, own_stack, return_by, return_step, state_resumed}
use Rattle.overlay_machine.specs.Step.{first_word, rest_words}
use Rattle.overlay_machine.specs.Agree.{IsOther, AtReturn}
use Rattle.overlay_machine.specs.Link.{Link, IsTrusted, ranges_of, regions, stack_region, has_cell}
use Rattle.overlay_machine.specs.Link.{IsStackCell, IsOpenAt}
use Rattle.overlay_machine.specs.Linked.{IsLink}
use Rattle.overlay_machine.specs.Safe.{IsSafeCap, IsSafe}
use Rattle.overlay_machine.specs.Invariant.{StandsAt, at_row, FrameLies, FramesLie, FrameFits, Invariant}
use Rattle.overlay_machine.proofs.OutLemmas.{put_back-other}
use Rattle.overlay_machine.proofs.FrameWords.{put_back-in, word_of-within}
use Rattle.overlay_machine.proofs.invariant.Facts.{mem_safe, in_code, closed, stack_there, open_stack_at}
use Rattle.overlay_machine.proofs.invariant.Facts.{stk_cap_safe}
use Rattle.overlay_machine.proofs.invariant.Clean.{clean_fits, stands_clean}
use Rattle.overlay_machine.proofs.OwnStack.{own_is}
use Rattle.overlay_machine.proofs.invariant.EntryKept.{need_goes}
use Rattle.overlay_machine.proofs.invariant.Standing.{Stand}
use Rattle.overlay_machine.proofs.invariant.FramesKept.{return_keeps}
use Rattle.overlay_machine.proofs.invariant.FrameFacts.{word_out, has_word, contains_first, contains_rest}
use Rattle.overlay_machine.proofs.invariant.FrameFacts.{frames_apart, first_of}
use Rattle.overlay_machine.proofs.invariant.Popped.{popped, fits_popped, frames_up, framed_at, none_rest}

-- what a return that goes on was
pub record Returned (l : Layout) (r1 r2 : Reg) (o q : OState) : Type 0 where
  pub site : SiteCode
  pub cap : CapFields
  pub frame : OpenFrame
  pub older : List OpenFrame
  pub code_is : reg o.maps.regs r1 ≡ RetCode frame.site
  pub data_is : reg o.maps.regs r2 ≡ RetData frame.call
  pub frames_are : o.frames ≡ frame ∷ older
  pub site_is : site_code l frame.site ≡ Some site
  pub own : own_stack l o.maps ≡ Some cap
  pub joins : cap.end + 1 ≡ frame.base
  pub result : q ≡ state_resumed site cap frame older (put o.maps (R r2) (zero_word Plain)) o

pub ask_goes : (b : Bool) (e : Ending) (q : OState) → ask b e ≡ goes q → (b ≡ true) × (e ≡ goes q)
unfolding ask
ask_goes true e q h = (refl, h)
ask_goes false e q h = cc

goes_same : (p q : OState) → goes p ≡ goes q → p ≡ q
goes_same p q h = cc

return_goes : (l : Layout) (r1 r2 : Reg) (o q : OState) (x y : OWord) (fs : List OpenFrame)
    → reg o.maps.regs r1 ≡ x → reg o.maps.regs r2 ≡ y → o.frames ≡ fs → return_by l x y r2 fs o ≡ goes q
    → Returned l r1 r2 o q
return_goes l r1 r2 o q (RetCode i) (RetData k) (f ∷ fs) e1 e2 ef h =
    let a = ask_goes _ _ q h in
    let ab = and_parts (k == f.call) (i == f.site) a.0 in
    let b = need_goes (site_code l i) _ q a.1 in
    let c = need_goes (own_stack l o.maps) _ q b.2 in
    let d = ask_goes _ _ q c.2 in
    let ei : i ≡ f.site = eqb-true i f.site ab.1 in
    record {
      site = b.0;
      cap = c.0;
      frame = f;
      older = fs;
      code_is = e1 ∙ ap RetCode ei;
      data_is = e2 ∙ ap RetData (eqb-true k f.call ab.0);
      frames_are = ef;
      site_is = sym (ap (site_code l) ei) ∙ b.1;
      own = c.1;
      joins = eqb-true (c.0.end + 1) f.base d.0;
      result = sym (goes_same (state_resumed b.0 c.0 f fs (put o.maps (R r2) (zero_word Plain)) o) q d.1);
    }
return_goes l r1 r2 o q (RetCode i) (RetData k) [] e1 e2 ef h = cc
return_goes l r1 r2 o q (RetCode i) (Plain w) fs e1 e2 ef h = cc
return_goes l r1 r2 o q (RetCode i) (RetCode j) fs e1 e2 ef h = cc
return_goes l r1 r2 o q (Plain w) y fs e1 e2 ef h = cc
return_goes l r1 r2 o q (RetData k) y fs e1 e2 ef h = cc

pub returned : (l : Layout) (r1 r2 : Reg) (o q : OState) → return_step l r1 r2 o ≡ goes q
    → Returned l r1 r2 o q
unfolding return_step
returned l r1 r2 o q h = return_goes l r1 r2 o q _ _ _ refl refl refl h

stk_not_dat : Stk ≢ Dat
stk_not_dat e = cc

reg_of_place : (a b : Reg) → R a ≡ R b → a ≡ b
reg_of_place a b e = cc

cell_not_reg : (a : ℕ) (r : Reg) → Cell a ≢ R r
cell_not_reg a r e = cc

-- where something would leave none of a word that is there, it isn't there
none_beside : (x o : Option OWord) (w : OWord) → o ≡ Some w → ((v : OWord) → x ≡ Some v → o ≡ None) → x ≡ None
none_beside None o w e h = refl
none_beside (Some v) o w e h = let n : o ≡ None = h v refl in cc

code_cap_is : (b e a c f d : ℕ) → b ≡ c → e ≡ f → a ≡ d → code_cap b e a ≡ code_cap c f d
code_cap_is b e a c f d p q r =
    ap (λ x. code_cap x e a) p ∙ ap (λ x. code_cap c x a) q ∙ ap (λ x. code_cap c f x) r

-- an address before, past or in a stretch
pub where_in : (a b e : ℕ) → ((a < b) ⊎ (e < a)) ⊎ ((b ≤ a) × (a ≤ e))
where_in a b e = elim (cases_lt a b) as (λ _. ((a < b) ⊎ (e < a)) ⊎ ((b ≤ a) × (a ≤ e))) [
  | inl lt ↦ inl (inl lt)
  | inr ge ↦ elim (cases_lt e a) as (λ _. ((a < b) ⊎ (e < a)) ⊎ ((b ≤ a) × (a ≤ e)))
      [ inl lt ↦ inl (inr lt) | inr le ↦ inr (ge, le) ]
]

module _ (g : Link) (linked : IsLink g) (o : OState) (t : State Word) (inv : Invariant g o t) (r1 r2 : Reg)
    (q : OState) (x : Returned g.layout r1 r2 o q) (rd : AtReturn g.layout r1 r2 o)
    (shown : (d : Reg) → is_pc d ≡ false → d ≢ Dat → IsSafe g o.frames (reg o.maps.regs d)) where
  abbrev F : OpenFrame
  F = x.frame

  abbrev gs : List OpenFrame
  gs = x.older

  abbrev m : Cells
  m = o.maps.cells

  here : (w : OWord) → IsSafe g o.frames w → IsSafe g (F ∷ gs) w
  here w h = subst (λ y. IsSafe g y w) x.frames_are h

  k : FramesLie g.layout m o.calls (F ∷ gs)
  k = subst (λ y. FramesLie g.layout m o.calls y) x.frames_are inv.frames

  lies : FrameLies g.layout m F
  lies = k.0

  in_all : (h : OpenFrame) → Contains (F ∷ gs) h → Contains o.frames h
  in_all h c = subst (λ y. Contains y h) (sym x.frames_are) c

  fit : FrameFits g (F ∷ gs) F
  fit = subst (λ y. FrameFits g y F) x.frames_are (inv.frames_fit F (in_all F (contains_first F gs)))

  abbrev off : ℕ
  off = fit.site.offset

  same_site : fit.code ≡ x.site
  same_site = same_Some fit.code x.site (sym fit.code_is ∙ x.site_is)

  own : (look o.maps.regs.stk ≡ Mem x.cap)
      × (x.cap ≡ record
      { perm = Rw; lin = Linear; base = g.layout.stack.base; end = x.cap.end; addr = x.cap.addr })
  own = own_is g.layout o.maps x.cap x.own

  cap_safe : IsSafeCap g (F ∷ gs) x.cap
  cap_safe = mem_safe g (F ∷ gs) o.maps.regs.stk x.cap own.0 (here _ (shown Stk refl stk_not_dat))

  base_is : x.cap.base ≡ g.layout.stack.base
  base_is = ap (λ y. y.base) own.1

  framed_here : (a : ℕ) (w : OWord) → framed (F ∷ gs) a ≡ Some w → framed o.frames a ≡ Some w
  framed_here a w e = ap (λ y. framed y a) x.frames_are ∙ e

  -- the frame's addresses are in no older frame
  older_free : (a : ℕ) → F.base ≤ a → a ≤ F.end → framed gs a ≡ None
  older_free a low high =
      let v = has_word g.layout m F a lies low high in
      none_beside (framed gs a) (word_of F a) v.0 v.1 (λ w e. frames_apart g.layout m o.calls F gs a w k e)

  up : Up (IsStackCell g gs) (ranges_of fit.part) F.end
  up =
      let sb = linked.stack_bases fit.part fit.trusted in
      let ab = lies.above in
      let od = lies.order in
      let top = lies.within in
      let j = x.joins in (
        omega (arith, sb, ab, od),
        (λ a low high. (
          omega (arith, sb, low),
          omega (arith, high, top),
          elim (cases_lt a F.base) as (λ _. framed gs a ≡ None) [
            | inl lt ↦
                none_rest F gs a
                (cap_safe.free a (let b = base_is in omega (arith, sb, b, low)) (omega (arith, lt, j)))
            | inr ge ↦ older_free a ge high
          ],
        )),
      )

  abbrev zeroed : Regs OWord
  zeroed = set_reg o.maps.regs r2 (zero_word Plain)

  abbrev after : Regs OWord
  after = record zeroed {
    pc = Plain (Mem (code_cap x.site.base x.site.end (x.site.at + SITE_WORDS)));
    stk = Plain (Mem (record x.cap { end = F.end; addr = pos F.base }));
    dat = first_word F.words;
    t1 = zero_word Plain;
    t2 = zero_word Plain;
  }

  stk_is : Mem (record x.cap { end = F.end; addr = pos F.base })
      ≡ Mem (part_stack_cap (ranges_of fit.part) F.end (pos F.base))
  stk_is = ap (λ y. Mem (record y { end = F.end; addr = pos F.base })) own.1
      ∙ ap (λ b. Mem (record { perm = Rw; lin = Linear; base = b; end = F.end; addr = pos F.base }))
      (sym (linked.stack_bases fit.part fit.trusted))

  zeroed_safe : (d : Reg) → is_pc d ≡ false → d ≢ Dat → IsSafe g gs (reg zeroed d)
  zeroed_safe d p ne = elim (cases_reg d r2) as (λ _. IsSafe g gs (reg zeroed d)) [
    | inl e ↦
        subst (λ w. IsSafe g gs w) (sym (ap (reg zeroed) e ∙ reg-set_same o.maps.regs r2 (zero_word Plain)))
        tt
    | inr nq ↦ subst (λ w. IsSafe g gs w) (sym (reg-set_other o.maps.regs r2 d (zero_word Plain) nq))
        (popped g F gs (reg o.maps.regs d) (here _ (shown d p ne))
        (rd.one_place F.call (R d) (reg o.maps.regs d) x.data_is refl (λ e. nq (reg_of_place d r2 e))))
  ]

  safe_after : (d : Reg) → is_pc d ≡ false → d ≢ Dat → IsSafe g gs (reg after d)
  safe_after Pc p ne = cc
  safe_after Dat p ne = absurd (ne refl)
  safe_after Stk p ne =
      subst (λ w. IsSafe g gs (Plain w)) (sym stk_is)
      (stk_cap_safe g linked gs fit.part F.end (pos F.base) fit.trusted up)
  safe_after T1 p ne = tt
  safe_after T2 p ne = tt
  safe_after Rcode p ne = zeroed_safe Rcode p ne
  safe_after Rdata p ne = zeroed_safe Rdata p ne
  safe_after C1 p ne = zeroed_safe C1 p ne
  safe_after C2 p ne = zeroed_safe C2 p ne
  safe_after A0 p ne = zeroed_safe A0 p ne
  safe_after A1 p ne = zeroed_safe A1 p ne
  safe_after A2 p ne = zeroed_safe A2 p ne
  safe_after A3 p ne = zeroed_safe A3 p ne
  safe_after G0 p ne = zeroed_safe G0 p ne
  safe_after G1 p ne = zeroed_safe G1 p ne
  safe_after G2 p ne = zeroed_safe G2 p ne

  abbrev saved : OWord
  saved = Plain (Mem (data_cap (ranges_of fit.part) fit.to))

  head_is : slice_get F.words 0 ≡ Some saved
  head_is = let z : F.base - F.base ≡ 0 =
      omega arith in ap (slice_get F.words) (sym z) ∙ sym (word_of-within F F.base (omega arith)) ∙ fit.first

  words_are : F.words ≡ saved ∷ rest_words F.words
  words_are = first_of F.words saved head_is

  first_is : first_word F.words ≡ saved
  first_is = ap first_word words_are

  stands_after : StandsAt g gs fit.part (off + SITE_WORDS) after
  stands_after =
      let st = fit.site in
      let ins = st.inside in
      let part = linked.parts fit.part (fit.trusted).0 in
      let leads =
      (site_flows fit.part.component part.limits (part.flow (fit.trusted).1)
      off fit.there st.site fit.row).1 in
      let bi : x.site.base ≡ (ranges_of fit.part).code_base = ap (λ y. y.base) (sym same_site) ∙ st.base_is in
      let ei : x.site.end ≡ (ranges_of fit.part).code_last = ap (λ y. y.end) (sym same_site) ∙ st.end_is in
      let far : x.site.at + SITE_WORDS ≡ (ranges_of fit.part).code_base + (off + SITE_WORDS) =
      (let a = st.at_is in let b = ap (λ y. y.at) same_site in omega (arith, a, b)) in
      stands_clean g linked gs fit.part fit.trusted after (off + SITE_WORDS)
      leads (ap Mem (code_cap_is _ _ _ _ _ _ bi ei far))
      (clean_fits g linked gs fit.part fit.trusted after F.end (pos F.base)
      fit.to stk_is up (ap look first_is) refl refl safe_after)

  -- ---- cells

  abbrev ws : List OWord
  ws = zero_word Plain ∷ rest_words F.words

  long : F.base + length ws ≡ F.end + 1
  long = let a = ap length words_are in let b = lies.words in omega (arith, a, b)

  abbrev back_cells : Cells
  back_cells = put_back m F.base ws

  cell_out : (a : ℕ) → (a < F.base) ⊎ (F.end < a) → cell back_cells a ≡ cell m a
  cell_out a (inl lt) = put_back-other m F.base ws a (inl lt)
  cell_out a (inr lt) = put_back-other m F.base ws a (inr (let l = long in omega (arith, l, lt)))

  other_in : (a : ℕ) (w : OWord) → framed (F ∷ gs) a ≡ Some w → IsOther F.call w
  other_in a w e = rd.in_frames F.call a w x.data_is (framed_here a w e)

  cell_in : (a : ℕ) → F.base ≤ a → a ≤ F.end → (w : OWord) × (cell back_cells a ≡ Some w) × IsSafe g gs w
  cell_in a low high =
      elim (cases_lt F.base a) as (λ _. (w : OWord) × (cell back_cells a ≡ Some w) × IsSafe g gs w) [
        | inl lt ↦ later (a - F.base - 1) (omega (arith, lt)) lt
        | inr ge ↦ (
          zero_word Plain,
          (let e : F.base + 0 ≡ a =
              omega (arith, low, ge) in subst (λ y. cell back_cells y ≡ Some (zero_word Plain))
              e (put_back-in m F.base ws 0 (omega arith))),
          tt,
        )
      ]
    where
      later : (i : ℕ) → F.base + suc i ≡ a → F.base < a
          → (w : OWord) × (cell back_cells a ≡ Some w) × IsSafe g gs w
      later i e lt =
          let v = has_word g.layout m F a lies low high in
          let d : a - F.base ≡ suc i = omega (arith, e) in
          let at : slice_get (rest_words F.words) i ≡ Some v.0 =
          sym (word_of-within F a low ∙ ap (slice_get F.words) d
          ∙ ap (λ ys. slice_get ys (suc i)) words_are) ∙ v.1 in
          let inside : suc i < length ws = (let l = long in omega (arith, l, e, high)) in (
            v.0,
            subst (λ y. cell back_cells y ≡ Some v.0) e (put_back-in m F.base ws (suc i) inside ∙ at),
            popped g F gs v.0 (fit.others a v.0 lt v.1)
                (other_in a v.0 (framed_at g.layout m o.calls (F ∷ gs) F a v.0 k (contains_first F gs) v.1)),
          )

  frame_out : (a : ℕ) → (a < F.base) ⊎ (F.end < a) → word_of F a ≡ None
  frame_out a out = word_out g.layout m F a lies out

  in_stack_region : (a : ℕ) → F.base ≤ a → a ≤ F.end → in_regions a (regions g) ≡ true
  in_stack_region a low high = in_regions_is a (regions g) (stack_region g.layout) (stack_there g linked)
      (let x = lies.above in omega (arith, x, low)) (let x = lies.within in omega (arith, x, high))

  there_after : (a : ℕ) → is_some (cell back_cells a) ≡ has_cell g gs a
  there_after a = elim (where_in a F.base F.end) as (λ _. is_some (cell back_cells a) ≡ has_cell g gs a) [
    | inl out ↦
        ap is_some (cell_out a out) ∙ inv.there a
        ∙ ap (λ y. in_regions a (regions g) && not (is_some (framed y a))) x.frames_are
        ∙ ap (λ y. in_regions a (regions g) && not (is_some (option_or y (framed gs a)))) (frame_out a out)
    | inr inn ↦
        ap is_some (cell_in a inn.0 inn.1).1
        ∙ sym (ap (λ y. in_regions a (regions g) && not (is_some y)) (older_free a inn.0 inn.1)
        ∙ ap (λ b. b && true) (in_stack_region a inn.0 inn.1))
  ]

  code_out : (p : PartSeen) (n : ℕ) → IsTrusted g p → n < length p.component.code
      → (p.component.code_base + n < F.base) ⊎ (F.end < p.component.code_base + n)
  code_out p n ip lt =
      elim (where_in (p.component.code_base + n) F.base F.end)
      as (λ _. (p.component.code_base + n < F.base) ⊎ (F.end < p.component.code_base + n)) [
        | inl out ↦ out
        | inr inn ↦
            absurd (closed g linked p ip (p.component.code_base + n) (omega arith)
            (in_code g linked p n ip lt)
            (open_stack_at g linked (p.component.code_base + n)
            (let a = lies.above in let b = inn.0 in omega (arith, a, b))
            (let a = lies.within in let b = inn.1 in omega (arith, a, b))))
      ]

  cells_after : (a : ℕ) (w : OWord) → IsOpenAt g a → cell back_cells a ≡ Some w → IsSafe g gs w
  cells_after a w op e = elim (where_in a F.base F.end) as (λ _. IsSafe g gs w) [
    | inl out ↦
        (let c : cell m a ≡ Some w = sym (cell_out a out) ∙ e in popped g F gs w (here w (inv.cells a w op c))
        (rd.one_place F.call (Cell a) w x.data_is c (cell_not_reg a r2)))
    | inr inn ↦
        (let v = cell_in a inn.0 inn.1 in
        subst (λ y. IsSafe g gs y) (same_Some v.0 w (sym v.1 ∙ e)) v.2)
  ]

  pub return_kept : Stand g q
  return_kept = subst (λ y. Stand g y) (sym x.result) (record {
    pc = at_row fit.part (off + SITE_WORDS) fit.trusted stands_after;
    there = there_after;
    code = λ p ip n w e. cell_out (p.component.code_base + n)
        (code_out p n ip (slice_get_within p.component.code n w e)) ∙ inv.code p ip n w e;
    cells = cells_after;
    frames = frames_up g.layout back_cells F.call o.calls gs (let c = k.1 in omega (arith, c))
        (return_keeps g.layout m o.calls F gs ws long k);
    frames_fit =
        λ h c. fits_popped g F gs h
        (λ a w e. other_in a w (framed_at g.layout m o.calls (F ∷ gs) h a w k (contains_rest F h gs c) e))
        (subst (λ y. FrameFits g y h) x.frames_are (inv.frames_fit h (in_all h (contains_rest F h gs c))));
  })
