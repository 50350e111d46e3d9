-- The invariant is kept by an entry.
use Rattle.call_sequence.specs.declared.TheConstants.{ENTRY_WORDS}
use Rattle.std.proofs.Common.{◌≡◌, ◌≢◌, inl, inr, ℕ, ◌+◌, pos, Bool, true, false, List, Option, Some, None}
use Rattle.std.proofs.Common.{refl, sym, ap, ◌∙◌, subst, arith}
use Rattle.cap_words.specs.declared.Word.{Word}
use Rattle.cap_words.specs.declared.Word.TheVariants.{Mem}
use Rattle.cap_words.specs.declared.CapFields.{CapFields}
use Rattle.cap_words.specs.declared.Perm.TheVariants.{Rw}
use Rattle.cap_words.specs.declared.Lin.TheVariants.{Linear}
use Rattle.cap_words.specs.Face.{face_of}
use Rattle.cap_words.specs.Faces.{memory_in}
use Rattle.cap_words.specs.Linear.{zero_word}
use Rattle.lcm_isa.specs.declared.Reg.{Reg}
use Rattle.lcm_isa.specs.declared.Reg.TheVariants.{Pc, Rcode, Rdata, Stk, Dat, T1, T2, C1, C2, A0, A1, A2, A3}
use Rattle.lcm_isa.specs.declared.Reg.TheVariants.{G0, G1, G2}
use Rattle.lcm_machine.specs.Maps.{Regs, State}
use Rattle.lcm_machine.specs.Places.{reg}
use Rattle.lcm_machine.specs.Table.{is_pc}
use Rattle.lcm_machine.specs.Row.{faces, Fetched}
use Rattle.call_sequence.specs.Kinds.{kind_of, entry_row}
use Rattle.call_sequence.specs.Holds.{part_stack_cap, code_at, Up, HasKind}
use Rattle.call_sequence.specs.Places.{begins_entry}
use Rattle.call_sequence.proofs.Offers.{entry_flows}
use Rattle.linked_starts.specs.Parts.{PartSeen}
use Rattle.overlay_machine.specs.declared.words.OWord.{OWord}
use Rattle.overlay_machine.specs.declared.words.OWord.TheVariants.{Plain}
use Rattle.overlay_machine.specs.declared.cases.Case.{Case}
use Rattle.overlay_machine.specs.declared.cases.Case.TheVariants.{Call, Entry, Back, Other}
use Rattle.overlay_machine.specs.Words.{look}
use Rattle.overlay_machine.specs.State.{OpenFrame, OState}
use Rattle.overlay_machine.specs.Step.{case_fetched, Ending, goes, need, own_stack, entry_step}
use Rattle.overlay_machine.specs.Link.{Link, IsTrusted, ranges_of, IsStackCell}
use Rattle.overlay_machine.specs.Linked.{IsLink}
use Rattle.overlay_machine.specs.Safe.{IsSafeCap, IsSafe}
use Rattle.overlay_machine.specs.Invariant.{StandsAt, at_row, Invariant}
use Rattle.overlay_machine.proofs.OwnStack.{own_is}
use Rattle.overlay_machine.proofs.invariant.Facts.{mem_safe, in_stack}
use Rattle.overlay_machine.proofs.invariant.View.{View, at_entry, in_part, out}
use Rattle.overlay_machine.proofs.invariant.Ready.{fetched_case, entry_kind}
use Rattle.overlay_machine.proofs.invariant.Standing.{Stand}
use Rattle.overlay_machine.proofs.invariant.Clean.{clean_fits, stands_clean}

pub need_goes : {A : Type 0} (x : Option A) (k : A → Ending) (q : OState) → need x k ≡ goes q → (a : A)
    × (x ≡ Some a) × (k a ≡ goes q)
unfolding need
need_goes None k q h = cc
need_goes (Some a) k q h = (a, refl, h)

-- the case of a fetched instruction is neither a call nor an entry
abbrev pub is_sequence : Case → Bool
is_sequence (Call i) = true
is_sequence (Entry a) = true
is_sequence (Back r1 r2) = false
is_sequence Other = false

pub never_sequence : (s : State OWord) (f : Fetched) (c : Case) → c ≡ case_fetched s f → is_sequence c ≡ true
    → ⊥
never_sequence s f c e t = elim (fetched_case s f c e) as (λ _. ⊥) [
  | inl h ↦ (let bad : true ≡ false = sym t ∙ ap is_sequence h in cc)
  | inr h ↦ (let bad : true ≡ false = sym t ∙ ap is_sequence h.3 in cc)
]

pub never_entry : (s : State OWord) (f : Fetched) (a : ℕ) → Entry a ≡ case_fetched s f → ⊥
never_entry s f a e = never_sequence s f (Entry a) e refl

pub never_call : (s : State OWord) (f : Fetched) (i : ℕ) → Call i ≡ case_fetched s f → ⊥
never_call s f i e = never_sequence s f (Call i) e refl

module _ (g : Link) (linked : IsLink g) (fs : List OpenFrame) where
  -- a safe own stack reaches over stack cells in memory
  pub own_up : (p : PartSeen) → IsTrusted g p → (c : CapFields) → IsSafeCap g fs c
      → c.base ≡ g.layout.stack.base → Up (IsStackCell g fs) (ranges_of p) c.end
  own_up p ip c h b =
      let sb = linked.stack_bases p ip in
      let top = in_stack g linked fs c h b in
      let order = h.order in (
        (omega (arith, sb, b, order)),
        (λ a low high. (
          (omega (arith, sb, low)),
          (omega (arith, top, high)),
          h.free a (omega (arith, sb, b, low))
              high,
        )),
      )

module _ (g : Link) (linked : IsLink g) (o : OState) (t : State Word) (inv : Invariant g o t) where
  abbrev fs : List OpenFrame
  fs = o.frames

  -- the registers after an entry at an address
  abbrev pub after : ℕ → CapFields → CapFields → Regs OWord
  after a p c = record o.maps.regs {
    pc = Plain (Mem (record p { addr = pos (a + ENTRY_WORDS) }));
    stk = Plain (Mem (record c { addr = pos c.end }));
    t1 = zero_word Plain;
    t2 = zero_word Plain;
  }

  pub entered : (q : OState) (a : ℕ) (p : CapFields) → look o.maps.regs.pc ≡ Mem p
      → entry_step g.layout a o ≡ goes q → (c : CapFields) × (own_stack g.layout o.maps ≡ Some c)
      × (q ≡ record o { maps = record o.maps { regs = after a p c } })
  unfolding entry_step faces
  entered q a p h e =
      let x = need_goes (memory_in (face_of (look o.maps.regs.pc))) _ q e in
      let y = need_goes (own_stack g.layout o.maps) _ q x.2 in
      let same : x.0 ≡ p = (let k : Some x.0 ≡ Some p = sym x.1 ∙ ap (λ w. memory_in (face_of w)) h in cc) in
      let r : goes (record o { maps = record o.maps { regs = after a x.0 y.0 } }) ≡ goes q = y.2 in
      let z : q ≡ record o { maps = record o.maps { regs = after a x.0 y.0 } } = cc in
      (y.0, y.1, z ∙ ap (λ d. record o { maps = record o.maps { regs = after a d y.0 } }) same)

  kept_at : (q : OState) (p : PartSeen) (off a : ℕ) (ip : IsTrusted g p) → a ≡ p.component.code_base + off
      → begins_entry p.component off ≡ true → (at : StandsAt g fs p off o.maps.regs) → at.there ≡ entry_row
      → entry_step g.layout a o ≡ goes q → Stand g q
  unfolding kind_of
  kept_at q p off a ip ea en at er e =
      let k = entered q a (code_at (ranges_of p) off) at.at_pc e in
      let c = k.0 in
      let own = own_is g.layout o.maps c k.1 in
      let any : (d : Reg) → is_pc d ≡ false
      → HasKind look (IsSafe g fs) (IsStackCell g fs) (ranges_of p) (kind_of entry_row d)
      (reg o.maps.regs d) =
      (λ d n. subst
      (λ r. HasKind look (IsSafe g fs) (IsStackCell g fs) (ranges_of p) (kind_of r d) (reg o.maps.regs d))
      er (at.fits.each d n)) in
      let cap : IsSafeCap g fs c = mem_safe g fs o.maps.regs.stk c own.0 (any Stk refl) in
      let base : c.base ≡ g.layout.stack.base = ap (λ x. x.base) own.1 in
      let cap' : IsSafeCap g fs (record c { addr = pos c.end }) =
      record {
        area = cap.area;
        runs = cap.runs;
        usable = cap.usable;
        low = cap.low;
        order =
            cap.order;
        high = cap.high;
        lin = cap.lin;
        may = cap.may;
        free = cap.free;
      } in
      let safe : (d : Reg) → is_pc d ≡ false → d ≢ Dat
      → IsSafe g fs (reg (after a (code_at (ranges_of p) off) c) d) = each c cap' any in
      let sb = linked.stack_bases p ip in
      let stk : Mem (record c { addr = pos c.end }) ≡ Mem (part_stack_cap (ranges_of p) c.end (pos c.end)) =
      ap (λ x. Mem (record x { addr = pos c.end })) own.1
      ∙ ap (λ b. Mem (record { perm = Rw; lin = Linear; base = b; end = c.end; addr = pos c.end }))
      (sym sb) in
      let far : a + ENTRY_WORDS ≡ p.component.code_base + (off + ENTRY_WORDS) = omega (arith, ea) in
      let fits = clean_fits g linked fs p ip (after a (code_at (ranges_of p) off) c) c.end (pos c.end)
      (any Dat refl).0 stk (own_up g linked fs p ip c cap base) (any Dat refl).1 refl refl safe in
      let part = linked.parts p ip.0 in
      subst (λ x. Stand g x) (sym k.2) (record {
        pc = at_row p (off + ENTRY_WORDS)
            ip (stands_clean g linked fs p ip (after a (code_at (ranges_of p) off) c) (off + ENTRY_WORDS)
            (entry_flows p.component part.limits (part.flow ip.1) off en)
            (ap (λ y. Mem (record (code_at (ranges_of p) 0) { addr = pos y })) far) fits);
        there = inv.there;
        code = inv.code;
        cells = inv.cells;
        frames = inv.frames;
        frames_fit = inv.frames_fit;
      })
    where
      each : (c : CapFields) → IsSafeCap g fs (record c { addr = pos c.end })
          → ((d : Reg) → is_pc d ≡ false
          → HasKind look (IsSafe g fs) (IsStackCell g fs) (ranges_of p) (kind_of entry_row d)
          (reg o.maps.regs d)) → (d : Reg) → is_pc d ≡ false → d ≢ Dat
          → IsSafe g fs (reg (after a (code_at (ranges_of p) off) c) d)
      each c h any Pc n ne = cc
      each c h any Dat n ne = absurd (ne refl)
      each c h any Stk n ne = h
      each c h any T1 n ne = tt
      each c h any T2 n ne = tt
      each c h any Rcode n ne = any Rcode refl
      each c h any Rdata n ne = any Rdata refl
      each c h any C1 n ne = any C1 refl
      each c h any C2 n ne = any C2 refl
      each c h any A0 n ne = any A0 refl
      each c h any A1 n ne = any A1 refl
      each c h any A2 n ne = any A2 refl
      each c h any A3 n ne = any A3 refl
      each c h any G0 n ne = any G0 refl
      each c h any G1 n ne = any G1 refl
      each c h any G2 n ne = any G2 refl

  pub entry_kept : (a : ℕ) (q : OState) → View g fs o.maps (Entry a) → entry_step g.layout a o ≡ goes q
      → Stand g q
  entry_kept a q (at_entry p off ip ea en at) e =
      kept_at q p off a ip ea en at (entry_kind p off at.there en at.row) e
  entry_kept a q (in_part p off ip ne ns at ec) e = absurd (never_entry o.maps _ a ec)
  entry_kept a q (out h ec) e = absurd (never_entry o.maps _ a ec)
