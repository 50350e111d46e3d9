-- What a step of untrusted code does: it stays outside, enters a procedure, returns to the newest frame, or
-- ends.
use Rattle.std.proofs.Common.{◌≡◌, ◌≢◌, inl, inr, ℕ, ◌+◌, ◌≤◌, pos, ◌+ℤ◌, List, [], ◌∷◌, Option, Some}
use Rattle.std.proofs.Common.{None, Bool, true, false, refl, sym, ap, ◌∙◌, subst, arith, eqb-true}
use Rattle.std.specs.Prelude.{find, is_some, option_map, option_and_then, ◌&&◌, ◌==◌, if◌then◌else◌}
use Rattle.std.proofs.lemmas.Bool.{and_parts, cases_lt}
use Rattle.cap_words.specs.declared.Content.{Content}
use Rattle.cap_words.specs.Faces.{address}
use Rattle.call_sequence.specs.SequenceRuns.{IsOutsideRange}
use Rattle.lcm_machine.specs.Closed.{Closed, AllAre, OpensTo}
use Rattle.cap_words.specs.declared.Word.{Word}
use Rattle.cap_words.specs.declared.Word.TheVariants.{Int, Mem, Seal, Sealed}
use Rattle.cap_words.specs.declared.Sealable.{Sealable}
use Rattle.cap_words.specs.declared.Sealable.TheVariants.{Mem as MemIn, Seal as SealIn}
use Rattle.cap_words.specs.declared.Content.TheVariants.{Mem as MemC, Seal as SealC}
use Rattle.cap_words.specs.declared.CapFields.{CapFields}
use Rattle.cap_words.specs.declared.Opened.{Opened}
use Rattle.cap_words.specs.Face.{face_of, opened_of}
use Rattle.lcm_isa.specs.declared.Reg.{Reg}
use Rattle.lcm_isa.specs.declared.Reg.TheVariants.{Pc, Dat}
use Rattle.lcm_isa.specs.declared.Instr.{Instr}
use Rattle.lcm_isa.specs.declared.Instr.TheVariants.{Xjmp}
use Rattle.lcm_machine.specs.Maps.{State}
use Rattle.lcm_machine.specs.Places.{reg}
use Rattle.lcm_machine.specs.Cells.{cell}
use Rattle.lcm_machine.specs.Table.{target, unsealed, memory_content}
use Rattle.lcm_machine.specs.Row.{went, faces, opens, cell_faces, fetch, some, row, step_of}
use Rattle.lcm_machine.proofs.Offers.{cases_reg, fetch_normal, after_went, row_others, fetched_row}
use Rattle.lcm_machine.proofs.Offers.{used_target, row_keeps, is_none}
use Rattle.call_sequence.specs.Holds.{data_cap, code_at, PcAt}
use Rattle.call_sequence.specs.Places.{begins_entry}
use Rattle.linked_starts.specs.Parts.{PartSeen}
use Rattle.linked_starts.specs.declared.owners.Owner.{Owner}
use Rattle.linked_starts.proofs.Offers.{found, listed_at}
use Rattle.trusted_border.specs.declared.events.Event.TheVariants.{Returned as ReturnedTo}
use Rattle.trusted_border.specs.Layout.{trusted_owner, runs_part}
use Rattle.trusted_border.specs.Reaches.{closure_owner}
use Rattle.overlay_machine.specs.declared.words.OWord.{OWord}
use Rattle.overlay_machine.specs.declared.words.OWord.TheVariants.{Plain}
use Rattle.overlay_machine.specs.declared.cases.Case.{Case}
use Rattle.overlay_machine.specs.declared.cases.Case.TheVariants.{Call, Entry, Back, Other}
use Rattle.overlay_machine.specs.Words.{look}
use Rattle.overlay_machine.specs.State.{OpenFrame, OState, Cells}
use Rattle.overlay_machine.specs.Step.{goes, case_of, case_fetched, step_by, other_step, overlay_step}
use Rattle.overlay_machine.specs.Events.{step_event, note_by, note_return, note_jump, event_after, owner_now}
use Rattle.overlay_machine.specs.Events.{jump_seal, entered_event}
use Rattle.overlay_machine.specs.Link.{Link, IsTrusted, ranges_of, data_region}
use Rattle.overlay_machine.specs.Safe.{IsSafe, IsSafeCap, IsOpenSeal}
use Rattle.overlay_machine.specs.Linked.{IsLink}
use Rattle.overlay_machine.proofs.Offers.{mem_of_face, plain_both, target_bounds, target_reg, mem_safe}
use Rattle.overlay_machine.proofs.Offers.{not_trusted, open_safe, same_region, safe_closed, pc_untrusted}
use Rattle.overlay_machine.proofs.Offers.{Crossed, xjmp_crossed, Leads_to, to_safe, to_entry, leads_to}
use Rattle.overlay_machine.proofs.Offers.{plain_is, went_other, never_call, never_entry, Returned, returned}
use Rattle.overlay_machine.proofs.Offers.{is_xjmp}
use Rattle.template_runs.specs.Runs.{is_inside}
use Rattle.template_runs.specs.Sharing as sharing
use Rattle.template_runs.specs.Public.{IsPublic, IsShown, IsFreeAt, IsSharedAt, FramesPublic}
use Rattle.template_runs.proofs.Valid.{Valid, valid_next, valid_same, valid_back, zero_public}

true_by : {X : Type 0} (p : X → Bool) (y x : X) (rest : Option X) (b : Bool) → p y ≡ b
    → (rest ≡ Some x → p x ≡ true) → (if b then Some y else rest) ≡ Some x → p x ≡ true
true_by p y x rest true h more e = let s : y ≡ x = cc in subst (λ z. p z ≡ true) s h
true_by p y x rest false h more e = more e

found_true : {X : Type 0} (p : X → Bool) (xs : List X) (x : X) → find p xs ≡ Some x → p x ≡ true
found_true p [] x e = cc
found_true p (y ∷ ys) x e = true_by p y x (find p ys) (p y) refl (found_true p ys x) e

-- a word that opens to a capability
pub opened_is : (w : Word) (code : Opened) (c : CapFields) → opened_of w ≡ Some code
    → memory_content code.content ≡ Some c → w ≡ Sealed code.seal (MemIn c)
opened_is (Int z) code c o m = absurd cc
opened_is (Mem d) code c o m = absurd cc
opened_is (Seal s) code c o m = absurd cc
opened_is (Sealed n (SealIn s)) code c o m =
    let k : record { seal = n; content = SealC s } ≡ code = cc in
    absurd (let e : None ≡ Some c = ap (λ (x : Opened). memory_content x.content) k ∙ m in cc)
opened_is (Sealed n (MemIn d)) code c o m =
    let k : record { seal = n; content = MemC d } ≡ code = cc in
    let e : Some d ≡ Some c = ap (λ (x : Opened). memory_content x.content) k ∙ m in
    let s : d ≡ c = cc in
    ap (λ x. Sealed n (MemIn x)) s ∙ ap (λ (x : Opened). Sealed x.seal (MemIn c)) k

-- and to the code of a part, under its closure seal
pub half_at : (w : Word) (code : Opened) (c : CapFields) (p : PartSeen) (k : ℕ) → opened_of w ≡ Some code
    → memory_content code.content ≡ Some c → code.seal ≡ p.component.closure → c ≡ code_at (ranges_of p) k
    → w ≡ Sealed p.component.closure (MemIn (code_at (ranges_of p) k))
half_at w code c p k o m under ec =
    opened_is w code c o m ∙ ap (λ n. Sealed n (MemIn c)) under
    ∙ ap (λ y. Sealed p.component.closure (MemIn y)) ec

-- what is unsealed is not sealed
pub unsealed_public : (g : Link) (c : Content) → IsPublic g (Plain (unsealed c))
unsealed_public g (MemC c) p k ip e = cc
unsealed_public g (SealC s) p k ip e = cc

module _ (g : Link) (linked : IsLink g) where
  -- untrusted code runs
  pub record Out (o : OState) : Type 0 where
    pub valid : Valid g linked o
    pub safe : (r : Reg) → IsShown g o.frames (reg o.maps.regs r)

  -- the data of trusted parts stays
  abbrev pub SameData : Cells → Cells → Type 0
  SameData m n = sharing.SameData g m n

  pub data Leaves (o q : OState) : Type 0 where
    stays : Out q → q.frames ≡ o.frames → SameData o.maps.cells q.maps.cells → step_event g.layout o q ≡ None
        → Leaves o q
    enters : (p : PartSeen) (k : ℕ) → Valid g linked q → IsTrusted g p → begins_entry p.component k ≡ true
        → PcAt look (ranges_of p) k q.maps.regs
        → look q.maps.regs.dat ≡ Mem (data_cap (ranges_of p) (pos p.component.data_base))
        → ((d : Reg) → d ≢ Pc → d ≢ Dat → IsShown g q.frames (reg q.maps.regs d))
        → IsSharedAt p.component k
        → q.frames ≡ o.frames → q.maps.cells ≡ o.maps.cells
        → step_event g.layout o q ≡ option_and_then (entered_event g.layout q)
        (closure_owner g.layout p.component.closure) → Leaves o q
    returns : (r1 r2 : Reg) → Valid g linked q → (r : Returned g.layout r1 r2 o q)
        → step_event g.layout o q ≡ Some (ReturnedTo false r.frame.site r.frame.base r.frame.end) → Leaves o q

  module _ (fs : List OpenFrame) where
    -- what is sealed around content that is safe is no half of a trusted part
    sealed_public : (n : ℕ) (c : CapFields) → IsSafeCap g fs c → IsPublic g (Plain (Sealed n (MemIn c)))
    sealed_public n c h p k ip e =
        let s : c ≡ code_at (ranges_of p) k = content e in
        absurd (not_trusted g linked fs p c ip h (ap (λ y. y.base) s) (ap (λ y. y.end) s))
      where
        content : {m : ℕ} {d : CapFields} → Sealed n (MemIn c) ≡ Sealed m (MemIn d) → c ≡ d
        content e = cc

    pub shown_closed : Closed look Plain (IsShown g fs)
    shown_closed =
        let s = safe_closed g linked fs in
        record {
          ints = λ z. (s.ints z, λ p k ip e. cc);
          moved = λ w c z e h. (s.moved w c z e h.0, λ p k ip e. cc);
          lessened = λ w c p e b h. (s.lessened w c p e b h.0, λ p k ip e. cc);
          turned = λ w c z e h. (s.turned w c z e h.0, λ p k ip e. cc);
          cut_low = λ w c z e b h. (s.cut_low w c z e b h.0, λ p k ip e. cc);
          cut_high = λ w c z e b h. (s.cut_high w c z e b h.0, λ p k ip e. cc);
          joined = λ u v a b eu ev t j hu hv. (s.joined u v a b eu ev t j hu.0 hv.0, λ p k ip e. cc);
          sealed_memory = λ u v c q eu ev b hu hv. (
            s.sealed_memory u v c q eu ev b hu.0 hv.0,
            sealed_public (address q.cur) c (mem_safe g fs u c eu hu.0),
          );
          sealed_seals = λ u v c q eu ev b hu hv. (s.sealed_seals u v c q eu ev b hu.0 hv.0, λ p k ip e. cc);
        }

  -- an open seal is no trusted part's closure seal
  pub open_no_owner : (n : ℕ) → IsOpenSeal g n → closure_owner g.layout n ≡ None
  open_no_owner n h = by (closure_owner g.layout n) refl
    where
      by : (x : Option Owner) → closure_owner g.layout n ≡ x → x ≡ None
      by None e = refl
      by (Some x) e =
          let t = and_parts x.trusted (x.closure == n)
          (found_true (λ (y : Owner). y.trusted && (y.closure == n)) g.layout.owners x e) in
          let at = found (λ (y : Owner). y.trusted && (y.closure == n)) g.layout.owners x e in
          let c = linked.closures x (listed_at g.layout.owners _ x at) t.0 in
          absurd (linked.closure_closed c.0 c.1
          (subst (λ y. IsOpenSeal g y) (sym (c.2 ∙ eqb-true x.closure n t.1)) h))

  -- where pc holds a safe word code outside runs
  pub safe_outside : (fs : List OpenFrame) (o : OState) → IsSafe g fs o.maps.regs.pc
      → is_inside g.layout o ≡ false
  unfolding faces
  safe_outside fs o h = by_look (look o.maps.regs.pc) refl
    where
      by_owner : (c : CapFields) (r : Option Owner) → look o.maps.regs.pc ≡ Mem c
          → find (runs_part c) g.layout.owners ≡ r → is_some r ≡ false
      by_owner c None e q = refl
      by_owner c (Some x) e q =
          let k = linked.owners c x q in
          absurd (not_trusted g linked fs k.0 c k.1 (mem_safe g fs o.maps.regs.pc c e h)
          (ap (λ y. y.base) k.2) (ap (λ y. y.end) k.2))

      by_sealed : (n : ℕ) (c : Sealable) → is_some (trusted_owner g.layout (face_of (Sealed n c))) ≡ false
      by_sealed n (MemIn m) = refl
      by_sealed n (SealIn m) = refl

      by_look : (x : Word) → look o.maps.regs.pc ≡ x → is_some (trusted_owner g.layout (face_of x)) ≡ false
      by_look (Int z) e = refl
      by_look (Mem c) e = by_owner c (find (runs_part c) g.layout.owners) e refl
      by_look (Seal c) e = refl
      by_look (Sealed n c) e = by_sealed n c

  module _ (o : OState) (h : Out o) where
    pub outside_here : is_inside g.layout o ≡ false
    outside_here = safe_outside o.frames o (h.safe Pc).0

    no_owner_now : owner_now g.layout o ≡ None
    no_owner_now = is_none (owner_now g.layout o) outside_here

    case_out : case_of g.layout o.maps ≡ case_fetched o.maps
        (fetch (faces look o.maps Pc) (cell_faces look o.maps))
    unfolding case_of
    case_out = rw (pc_untrusted g linked o.frames o.maps (h.safe Pc).0) refl

    module _ (q : OState) (step : overlay_step g.layout o ≡ goes q) where
      back : (r1 r2 : Reg) → case_of g.layout o.maps ≡ Back r1 r2 → step_by g.layout (Back r1 r2) o ≡ goes q
          → Leaves o q
      unfolding step_event
      back r1 r2 c e =
          let r = returned g.layout r1 r2 o q e in
          let v = valid_back g linked o q h.valid step r.frame r.older r.frames_are
          (ap (λ x. x.frames) r.result) (ap (λ x. x.maps.cells) r.result) in
          returns r1 r2 v r (ap (λ x. event_after g.layout (note_by g.layout o x) q) c
          ∙ ap (λ b. event_after g.layout (note_return b o.frames) q) outside_here
          ∙ ap (λ fs. event_after g.layout (note_return false fs) q) r.frames_are)

      -- data of a trusted part is no target
      target_data : (n : Instr) (a : ℕ) (p : PartSeen) → IsTrusted g p → (data_region p).base ≤ a
          → a ≤ (data_region p).end → target n (faces look o.maps) ≡ Some a → ⊥
      unfolding faces
      target_data n a p ip low high e =
          let r = target_reg n (faces look o.maps) a e in
          let b = target_bounds (face_of (look (reg o.maps.regs r.0))) a r.1 in
          let s = mem_safe g o.frames (reg o.maps.regs r.0) b.0
          (mem_of_face (look (reg o.maps.regs r.0)) b.0 b.1) (h.safe r.0).0 in
          let l = s.low in
          let u = s.high in
          let bl = b.2 in
          let bh = b.3 in
          linked.data_closed s.area s.runs p s.usable ip
          (same_region g linked s.area (data_region p) a (linked.usable s.area s.runs s.usable)
          (linked.data_there p ip) (omega (arith, l, bl)) (omega (arith, u, bh)) low high)

      data_out : (n : Instr) (a : ℕ) (p : PartSeen) → IsTrusted g p → target n (faces look o.maps) ≡ Some a
          → IsOutsideRange a (ranges_of p).data_base (ranges_of p).data_last
      data_out n a p ip e =
          elim (cases_lt a (ranges_of p).data_base)
          as (λ _. IsOutsideRange a (ranges_of p).data_base (ranges_of p).data_last) [
            | inl low ↦ inl low
            | inr l1 ↦ elim (cases_lt (ranges_of p).data_last a)
                as (λ _. IsOutsideRange a (ranges_of p).data_base (ranges_of p).data_last) [
                  | inl high ↦ inr high
                  | inr l2 ↦ absurd (target_data n a p ip l1 l2 e)
                ]
          ]

      next_safe : (n : Instr) (next : Word)
          → fetch (faces look o.maps Pc) (cell_faces look o.maps) ≡ some n next
          → IsShown g o.frames (Plain next)
      unfolding faces
      next_safe n next e =
          let k = fetch_normal (look o.maps.regs.pc) (cell_faces look o.maps) n next e in
          let x = (shown_closed o.frames).moved o.maps.regs.pc k.0 (k.0.addr +ℤ pos 1) k.1 (h.safe Pc) in
          subst (λ w. IsShown g o.frames (Plain w)) (sym k.3) x

      opens_none : (n : Instr) → ((r1 r2 : Reg) → n ≡ Xjmp r1 r2 → ⊥)
          → OpensTo look Plain (IsShown g o.frames) o.maps n
      opens_none (Xjmp r1 r2) f = absurd (f r1 r2 refl)
      opens_none _ f = tt

      target_open : (n : Instr) (a : ℕ) → target n (faces look o.maps) ≡ Some a → IsFreeAt g a
      unfolding faces
      target_open n a e =
          let r = target_reg n (faces look o.maps) a e in
          let b = target_bounds (face_of (look (reg o.maps.regs r.0))) a r.1 in (
            open_safe g linked o.frames b.0 a (mem_safe g o.frames (reg o.maps.regs r.0) b.0
                (mem_of_face (look (reg o.maps.regs r.0)) b.0 b.1) (h.safe r.0).0) b.2 b.3,
            λ p ip. data_out n a p ip e,
          )

      -- registers and cells hold words that untrusted code may be shown
      all_shown : AllAre (IsShown g o.frames) (IsFreeAt g) o.maps
      all_shown = (
        h.safe,
        λ a w free there. (h.valid.holds.cells a w free.0 there, h.valid.private.cells a w free there),
      )

      no_seal : (n : Instr) (next : Word) → ((r1 r2 : Reg) → n ≡ Xjmp r1 r2 → ⊥)
          → jump_seal o.maps (some n next) ≡ None
      no_seal (Xjmp r1 r2) next f = absurd (f r1 r2 refl)
      no_seal _ next f = refl

      other_event : (n : Instr) (next : Word) (s : Option ℕ) → case_of g.layout o.maps ≡ Other
          → fetch (faces look o.maps Pc) (cell_faces look o.maps) ≡ some n next
          → jump_seal o.maps (some n next) ≡ s
          → step_event g.layout o q ≡ event_after g.layout (note_jump None s) q
      unfolding step_event
      other_event n next s c f e =
          ap (λ x. event_after g.layout (note_by g.layout o x) q) c
          ∙ ap (λ x. event_after g.layout
          (note_jump (option_map (λ p. p.part) x)
          (jump_seal o.maps (fetch (faces look o.maps Pc) (cell_faces look o.maps)))) q) no_owner_now
          ∙ ap (λ x. event_after g.layout (note_jump None (jump_seal o.maps x)) q) f
          ∙ ap (λ x. event_after g.layout (note_jump None x) q) e

      module _ (s' : State OWord) (is : q ≡ record { maps = s'; frames = o.frames; calls = o.calls }) where
        same_frames : q.frames ≡ o.frames
        same_frames = ap (λ x. x.frames) is

        safe_in : (r : Reg) → IsShown g o.frames (reg s'.regs r) → IsShown g q.frames (reg q.maps.regs r)
        safe_in r x = subst (λ y. IsShown g y.frames (reg y.maps.regs r)) (sym is) x

        straight : (n : Instr) (next : Word) → case_of g.layout o.maps ≡ Other
            → fetch (faces look o.maps Pc) (cell_faces look o.maps) ≡ some n next
            → row look Plain n next o.maps ≡ went s' → ((r1 r2 : Reg) → n ≡ Xjmp r1 r2 → ⊥) → Leaves o q
        straight n next c f e never =
            let k = after_went (AllAre (IsShown g o.frames) (IsFreeAt g)) _ s'
            (row_keeps look Plain (IsShown g o.frames) (IsFreeAt g) (shown_closed o.frames) o.maps all_shown
            next
            (next_safe n next f) n (opens_none n never)
            (λ a u. target_open n a (used_target n (faces look o.maps) (cell_faces look o.maps) a u))) e in
            let v = valid_next g linked o q h.valid step (record {
              cells = λ a w free there. (k.1 a w free (ap (λ x. cell x.maps.cells a) (sym is) ∙ there)).1;
              frames = subst (FramesPublic g) (sym same_frames) h.valid.private.frames;
            }) in
            stays (record { valid = v; safe = λ r. safe_in r (k.0 r) }) same_frames
            (λ p d ip lt. ap (λ x. cell x.maps.cells (p.component.data_base + d)) is
            ∙ row_others look Plain o.maps s' n next e (p.component.data_base + d)
            (λ t. target_data n (p.component.data_base + d) p ip (omega arith) (omega (arith, lt)) t))
            (other_event n next None c f (no_seal n next never))

        crossing : (r1 r2 : Reg) (next : Word) → case_of g.layout o.maps ≡ Other
            → fetch (faces look o.maps Pc) (cell_faces look o.maps) ≡ some (Xjmp r1 r2) next
            → row look Plain (Xjmp r1 r2) next o.maps ≡ went s' → Leaves o q
        unfolding opens
        crossing r1 r2 next c f e =
            let x = xjmp_crossed o.maps s' r1 r2 next e in
            let pl = plain_both o.maps r1 r2 next (sym (ap (case_fetched o.maps) f) ∙ sym case_out ∙ c) in
            let a = plain_is (reg o.maps.regs r1) pl.0 in
            let b = plain_is (reg o.maps.regs r2) pl.1 in
            let s1 = subst (λ w. IsShown g o.frames w) a.1 (h.safe r1) in
            let s2 = subst (λ w. IsShown g o.frames w) b.1 (h.safe r2) in
            let o1 : opened_of a.0 ≡ Some x.code = sym (ap (λ w. opened_of (look w)) a.1) ∙ x.opens_code in
            let o2 : opened_of b.0 ≡ Some x.half = sym (ap (λ w. opened_of (look w)) b.1) ∙ x.opens_half in
            let event : step_event g.layout o q ≡ option_and_then (entered_event g.layout q)
            (closure_owner g.layout x.code.seal) =
            other_event (Xjmp r1 r2) next (Some x.code.seal) c f
            (ap (option_map (λ k. k.seal)) x.opens_code) in
            let others = λ (d : Reg) (np : d ≢ Pc) (nd : d ≢ Dat).
            elim (x.others d np nd) as (λ _. IsShown g o.frames (reg s'.regs d)) [
              | inl y ↦ subst (λ w. IsShown g o.frames w) (sym y) (h.safe d)
              | inr y ↦ subst (λ w. IsShown g o.frames w) (sym y) (tt, zero_public g)
            ] in
            by_lead x a.0 s1 o1 event others
            (leads_to g linked o.frames a.0 b.0 x.code x.half x.cap s1.0 s2.0 o1 o2 x.one_seal x.memory
            x.runs x.no_code)
          where
            valid_at : Crossed r1 r2 o.maps s' → Valid g linked q
            valid_at x =
                valid_same g linked o q h.valid step (ap (λ y. y.maps.cells) is ∙ x.cells) same_frames

            by_lead : (x : Crossed r1 r2 o.maps s') (w : Word) → IsShown g o.frames (Plain w)
                → opened_of w ≡ Some x.code
                → step_event g.layout o q ≡ option_and_then (entered_event g.layout q)
                (closure_owner g.layout x.code.seal)
                → ((d : Reg) → d ≢ Pc → d ≢ Dat → IsShown g o.frames (reg s'.regs d))
                → Leads_to g linked o.frames x.code.seal x.cap (unsealed x.half.content) → Leaves o q
            by_lead x w s1 o1 event others (to_safe under a b) =
                stays (record {
                  valid = valid_at x;
                  safe = λ r. safe_in r (elim (cases_reg r Pc) as (λ _. IsShown g o.frames (reg s'.regs r)) [
                    | inl e ↦ subst (λ y. IsShown g o.frames y) (sym (ap (reg s'.regs) e ∙ x.pc))
                        (a, λ p k ip e. cc)
                    | inr np ↦ elim (cases_reg r Dat) as (λ _. IsShown g o.frames (reg s'.regs r)) [
                      | inl e ↦ subst (λ y. IsShown g o.frames y) (sym (ap (reg s'.regs) e ∙ x.dat))
                          (b, unsealed_public g x.half.content)
                      | inr nd ↦ others r np nd
                    ]
                  ]);
                }) same_frames
                (λ p d ip lt. ap (λ y. cell y.maps.cells (p.component.data_base + d)) is
                ∙ ap (λ y. cell y (p.component.data_base + d)) x.cells)
                (event ∙ ap (option_and_then (entered_event g.layout q)) (open_no_owner x.code.seal under))
            by_lead x w s1 o1 event others (to_entry p k ip en under ec hd) =
                enters p k (valid_at x) ip en
                (ap (λ y. look (reg y.maps.regs Pc)) is ∙ ap look x.pc ∙ ap Mem ec)
                (ap (λ y. look (reg y.maps.regs Dat)) is ∙ ap look x.dat ∙ hd)
                (λ d np nd. safe_in d (others d np nd))
                (s1.1 p k ip (half_at w x.code x.cap p k o1 x.memory under ec))
                same_frames
                (ap (λ y. y.maps.cells) is ∙ x.cells)
                (event ∙ ap (λ n. option_and_then (entered_event g.layout q) (closure_owner g.layout n))
                under)

      other : case_of g.layout o.maps ≡ Other → step_by g.layout Other o ≡ goes q → Leaves o q
      unfolding other_step
      other c e =
          let k = went_other o.frames o.calls (step_of look Plain o.maps) q e in
          let f = fetched_row look Plain o.maps k.0 k.1 in
          elim (is_xjmp f.0) as (λ _. Leaves o q) [
            | inl x ↦ crossing k.0 k.2 x.0 x.1 f.1 c (f.2 ∙ ap (λ i. some i f.1) x.2)
                (sym (ap (λ i. row look Plain i f.1 o.maps) x.2) ∙ f.3)
            | inr never ↦ straight k.0 k.2 f.0 f.1 c f.2 f.3 never
          ]

      by_case : (c : Case) → case_of g.layout o.maps ≡ c → step_by g.layout c o ≡ goes q → Leaves o q
      by_case (Call i) c e = absurd (never_call o.maps _ i (sym c ∙ case_out))
      by_case (Entry a) c e = absurd (never_entry o.maps _ a (sym c ∙ case_out))
      by_case (Back r1 r2) c e = back r1 r2 c e
      by_case Other c e = other c e

    pub leaves : (q : OState) → overlay_step g.layout o ≡ goes q → Leaves o q
    unfolding overlay_step
    leaves q e = by_case q e (case_of g.layout o.maps) refl e
