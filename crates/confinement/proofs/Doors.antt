-- Code outside comes into trusted code at exports, and at return points of open calls, alone.
use Rattle.std.proofs.Common.{◌≡◌, ◌⊎◌, inl, inr, ℕ, ◌+◌, ◌-◌, ◌<◌, ◌≤◌, pos, Bool, true, false, List, ◌∷◌}
use Rattle.std.proofs.Common.{Some, None, refl, sym, ap, subst, ◌∙◌, arith, eqb-true}
use Rattle.std.specs.Prelude.{slice_get, ◌==◌, ◌&&◌, ◌+ℤ◌, if◌then◌else◌}
use Rattle.std.specs.List.{Contains}
use Rattle.cap_words.specs.declared.CapFields.{CapFields}
use Rattle.cap_words.specs.declared.Face.TheVariants.{Memory}
use Rattle.cap_words.specs.declared.Word.{Word}
use Rattle.cap_words.specs.declared.Word.TheVariants.{Mem}
use Rattle.cap_words.specs.Face.{face_of, opened_of}
use Rattle.cap_words.specs.Faces.{covers, target_of}
use Rattle.component_file.specs.declared.component.Export.{Export}
use Rattle.lcm_isa.specs.declared.Reg.{Reg}
use Rattle.lcm_isa.specs.declared.Reg.TheVariants.{Pc}
use Rattle.lcm_isa.specs.declared.Instr.{Instr}
use Rattle.lcm_isa.specs.declared.Instr.TheVariants.{Xjmp}
use Rattle.lcm_machine.specs.Maps.{State}
use Rattle.lcm_machine.specs.Places.{reg}
use Rattle.lcm_machine.specs.Table.{target, unsealed}
use Rattle.lcm_machine.specs.Row.{faces, cell_faces, fetch, some, row, step_of, went, halted, failed}
use Rattle.lcm_machine.specs.Run.{plain, fresh}
use Rattle.lcm_machine.specs.Runs.{run_of, code_cap}
use Rattle.lcm_machine.specs.Refusals.{HasFailed}
use Rattle.lcm_machine.specs.Closed.{AllAre, OpensTo}
use Rattle.lcm_machine.specs.Acts.{Fetches}
use Rattle.lcm_machine.proofs.Offers.{after_went, fetch_mapped, fetched_row, row_keeps, run_one, fetch_normal}
use Rattle.lcm_machine.proofs.Offers.{run_then, used_target}
use Rattle.call_sequence.specs.declared.TheConstants.{CALL_WORDS, RETURN_WORDS}
use Rattle.call_sequence.specs.Holds.{code_at}
use Rattle.call_sequence.specs.Places.{begins_entry}
use Rattle.linked_starts.specs.declared.owners.Site.{Site}
use Rattle.linked_starts.specs.Owners.{AreSites}
use Rattle.linked_starts.specs.Parts.{PartSeen}
use Rattle.linked_starts.specs.Start.{data_of}
use Rattle.linked_starts.specs.Started.{StartSeen}
use Rattle.linked_starts.proofs.Offers.{sites_in}
use Rattle.trusted_border.specs.declared.layout.Layout.{Layout}
use Rattle.trusted_border.specs.declared.layout.SiteCode.{SiteCode}
use Rattle.trusted_border.specs.Layout.{site_code}
use Rattle.overlay_machine.specs.declared.cases.Case.{Case}
use Rattle.overlay_machine.specs.declared.cases.Case.TheVariants.{Back, Other}
use Rattle.overlay_machine.specs.declared.words.OWord.{OWord}
use Rattle.overlay_machine.specs.declared.words.OWord.TheVariants.{Plain, RetCode, RetData}
use Rattle.overlay_machine.specs.Words.{look, is_plain, is_ret_code}
use Rattle.overlay_machine.specs.State.{OpenFrame, OState, frame_of}
use Rattle.overlay_machine.specs.Step.{Ending, goes, halts, fails, case_fetched, case_of, other_step}
use Rattle.overlay_machine.specs.Step.{overlay_step, return_by, return_step, step_by, weight_by, weight_of}
use Rattle.overlay_machine.specs.Flat.{flat, beside, IsFlat}
use Rattle.overlay_machine.specs.Agree.{Looks, AtReturn, ReadyFor}
use Rattle.overlay_machine.specs.Runs.{goes_on, plain_run}
use Rattle.overlay_machine.specs.Link.{Link, IsTrusted, IsOpenAt, ranges_of}
use Rattle.overlay_machine.specs.Safe.{IsSafeCap, IsSafe}
use Rattle.overlay_machine.specs.Keeping.{link_of, HoldsFor}
use Rattle.overlay_machine.specs.Starting.{overlay_at, AgreesFromStart}
use Rattle.overlay_machine.proofs.Offers.{any_of, beside-none, frame_in, frame_of-newest, in_code, is_xjmp}
use Rattle.overlay_machine.proofs.Offers.{leads_to, Leads_to, listed_at, looks, mem_of_face, mem_safe}
use Rattle.overlay_machine.proofs.Offers.{one_part, open_safe, plain_is, ready, returned, safe_closed}
use Rattle.overlay_machine.proofs.Offers.{target_bounds, target_reg, to_entry, to_safe, went_other}
use Rattle.run_lines.specs.Layout.{layout, part_name}
use Rattle.headline.specs.Brackets.{lines_told, LinesAreBracketed}
use Rattle.headline.specs.Headline.{Headline}
use Rattle.confinement.specs.Confined.{InCode, Enters, AtExport, AtReturnPoint}
use Rattle.confinement.proofs.Jumping.{id, Jumped, xjmp_jumped, fetched_is, fetched_at, fetched_in}
use Rattle.confinement.proofs.Pairs.{OfPair, of_pair}
use Rattle.confinement.proofs.Calling.{not_failed}
use Rattle.confinement.proofs.Areas.{code_range, usable_no_code}
use Rattle.confinement.proofs.Told.{held, line_of, line_of_frame, site_there}
use Rattle.confinement.proofs.Here.{Here, here, has_gone, after_is, next_step, one_state}

both_plain : (s : State OWord) (r1 r2 : Reg) (next : Word) (b : Bool)
    → (is_plain (reg s.regs r1) && is_plain (reg s.regs r2)) ≡ b
    → case_fetched s (some (Xjmp r1 r2) next) ≡ (if b then Other else Back r1 r2)
both_plain s r1 r2 next b e = ap (λ x. if x then Other else Back r1 r2) e

no_jump : (s : State OWord) (i : Instr) (next : Word)
    → ((r1 r2 : Reg) → i ≡ Xjmp r1 r2 → ⊥) → case_fetched s (some i next) ≡ Other
no_jump s (Xjmp r1 r2) next never = absurd (never r1 r2 refl)
no_jump s _ next never = refl

opens_none : (S : OWord → Type 0) (s : State OWord) (i : Instr)
    → ((r1 r2 : Reg) → i ≡ Xjmp r1 r2 → ⊥) → OpensTo look Plain S s i
opens_none S s (Xjmp r1 r2) never = absurd (never r1 r2 refl)
opens_none S s _ never = tt

-- an entry is an export's
export_of : (part : PartSeen) (o : ℕ) → begins_entry part.component o ≡ true
    → (e : Export) × Contains part.component.exports e × ((e.offset == o) ≡ true)
unfolding begins_entry
export_of part o e = any_of (λ y. y.offset == o) part.component.exports e

-- a pc over code leads to its own address alone
leads_there : (base last a b : ℕ) → target_of (Memory (code_cap base last a)) ≡ Some b → b ≡ a
leads_there base last a b e = by_cover (covers (code_cap base last a) (pos a)) e
  where
    by_cover : (y : Bool) → (if y then Some a else None) ≡ Some b → b ≡ a
    by_cover true q = (let w : a ≡ b = cc in sym w)
    by_cover false q = cc

module _ (parts : List PartSeen) (size : ℕ) (s : StartSeen)
    (h : HoldsFor parts size (overlay_at s) s.state.maps) (is : s.state ≡ fresh s.state.maps)
    (agrees : AgreesFromStart parts size s) (headline : Headline s)
    (brackets : LinesAreBracketed (layout s) (overlay_at s).state) (sites : AreSites parts s.sites) where
  abbrev l : Layout
  l = layout s

  abbrev g : Link
  g = link_of parts size (overlay_at s)

  module _ (n : ℕ) (x : Here parts size s h is agrees headline brackets n) (v : State Word)
      (ran : plain_run (n + 1) s.state.maps ≡ went v) where
    m : IsFlat l x.p x.u
    m = x.inv.flat

    k : Looks l x.p
    k = looks g h.linked x.p x.u x.inv

    goes_so : step_of id id x.u ≡ went v
    goes_so = next_step n s.state.maps x.u v x.ran ran

    -- ---- the overlay's step

    weight_is : (c : Case) → case_of l x.p.maps ≡ c → weight_of l x.p ≡ weight_by x.p.maps c
    unfolding weight_of
    weight_is c e = ap (weight_by x.p.maps) e

    step_is : (c : Case) → case_of l x.p.maps ≡ c → overlay_step l x.p ≡ step_by l c x.p
    unfolding overlay_step
    step_is c e = ap (λ y. step_by l y x.p) e

    not_halted : overlay_step l x.p ≡ halts → ⊥
    not_halted e =
        let b = agrees.runs.overlay_halts n x.p x.reached e in
        let same = one_state n s.state.maps b.0 x.u b.1 x.ran in
        let bad : halted ≡ went v = sym (subst (λ y. step_of id id y ≡ halted) same b.2) ∙ goes_so in
        cc

    not_failed_first : weight_of l x.p ≡ 1 → overlay_step l x.p ≡ fails → ⊥
    not_failed_first w e =
        let b = agrees.runs.overlay_fails n x.p x.reached e in
        let at = b.3 in
        let le : n ≤ b.0 = b.1 in
        let lt : b.0 < n + weight_of l x.p = b.2 in
        let z : b.0 ≡ n = omega (arith, le, lt, w) in
        let same = one_state n s.state.maps at.0 x.u (subst (λ i. plain_run i s.state.maps ≡ went at.0)
        z at.3)
        x.ran in
        let bad : failed at.1 at.2 ≡ went v =
        sym (subst (λ y. step_of id id y ≡ failed at.1 at.2) same at.4) ∙ goes_so in
        cc

    -- a step of one instruction goes as the instruction does
    overlay_goes : weight_of l x.p ≡ 1 → (q : OState) × (overlay_step l x.p ≡ goes q)
    overlay_goes w = by_end (overlay_step l x.p) refl
      where
        by_end : (e : Ending) → overlay_step l x.p ≡ e → (q : OState) × (overlay_step l x.p ≡ goes q)
        by_end (goes q) e = (q, e)
        by_end halts e = absurd (not_halted e)
        by_end fails e = absurd (not_failed_first w e)

    -- ---- what is fetched

    free : (a : ℕ) → target_of (faces look x.p.maps Pc) ≡ Some a → beside l x.p.frames a ≡ None
    unfolding faces
    free a e =
        let b = target_bounds (face_of (look x.p.maps.regs.pc)) a e in
        let safe = mem_safe g x.p.frames x.p.maps.regs.pc b.0 (mem_of_face (look x.p.maps.regs.pc) b.0 b.1)
        (x.outside.safe Pc) in
        beside-none l x.p.frames a (safe.free a b.2 b.3)

    same_fetch : fetch (faces id x.u Pc) (cell_faces id x.u)
        ≡ fetch (faces look x.p.maps Pc) (cell_faces look x.p.maps)
    same_fetch = fetch_mapped look id (flat l x.p.frames) (beside l x.p.frames) x.p.maps x.u m k.0 free

    target_open : (i : Instr) (a : ℕ) → target i (faces look x.p.maps) ≡ Some a → IsOpenAt g a
    unfolding faces
    target_open i a e =
        let r = target_reg i (faces look x.p.maps) a e in
        let b = target_bounds (face_of (look (reg x.p.maps.regs r.0))) a r.1 in
        open_safe g h.linked x.p.frames b.0 a
        (mem_safe g x.p.frames (reg x.p.maps.regs r.0) b.0
        (mem_of_face (look (reg x.p.maps.regs r.0)) b.0 b.1) (x.outside.safe r.0)) b.2 b.3

    next_safe : (i : Instr) (next : Word) → fetch (faces look x.p.maps Pc)
        (cell_faces look x.p.maps) ≡ some i next
        → IsSafe g x.p.frames (Plain next)
    unfolding faces
    next_safe i next e =
        let k = fetch_normal (look x.p.maps.regs.pc) (cell_faces look x.p.maps) i next e in
        let safe = (safe_closed g h.linked x.p.frames).moved x.p.maps.regs.pc k.0 (k.0.addr +ℤ pos 1) k.1
        (x.outside.safe Pc) in
        subst (λ w. IsSafe g x.p.frames (Plain w)) (sym k.3) safe

    -- where all words of the return go, its frame is the newest
    goes_through : (r1 r2 : Reg) (rd : AtReturn l r1 r2 x.p) (P : OfPair l r1 r2 x.p x.u rd m k v)
        → case_of l x.p.maps ≡ Back r1 r2 → weight_of l x.p ≡ RETURN_WORDS + 1
        → (plain (n + 1 + RETURN_WORDS) s.state).end ≡ None
        → (older : List OpenFrame) × (x.p.frames ≡ P.frame ∷ older)
    goes_through r1 r2 rd P c weight ends = by_end (overlay_step l x.p) refl
      where
        by_end : (e : Ending) → overlay_step l x.p ≡ e
            → (older : List OpenFrame) × (x.p.frames ≡ P.frame ∷ older)
        by_end halts e = absurd (not_halted e)
        by_end fails e =
            let b = agrees.runs.overlay_fails n x.p x.reached e in
            let at = b.3 in
            let le : n ≤ b.0 = b.1 in
            let lt : b.0 < n + weight_of l x.p = b.2 in
            let w = has_gone s is (n + 1 + RETURN_WORDS) ends in
            let z : n + 1 + RETURN_WORDS ≡ b.0 + 1 + (n + RETURN_WORDS - b.0) =
            omega (arith, le, lt, weight) in
            let stops : run_of id id (b.0 + 1) s.state.maps ≡ failed at.1 at.2 =
            run_then id id b.0 1 s.state.maps at.0 _ at.3 (run_one id id at.0 ∙ at.4) in
            let f : HasFailed (run_of id id (b.0 + 1) s.state.maps) =
            subst (λ r. HasFailed r) (sym stops) tt in
            absurd (not_failed (b.0 + 1) (n + RETURN_WORDS - b.0) s.state.maps w.0 f
            (subst (λ i. run_of id id i s.state.maps ≡ went w.0) z w.1))
        by_end (goes q) e =
            let y = returned l r1 r2 x.p q (sym (step_is (Back r1 r2) c) ∙ e) in
            let call : P.call ≡ y.frame.call =
            (let w : RetData P.call ≡ RetData y.frame.call = sym P.data_is ∙ y.data_is in cc) in
            let same : P.frame ≡ y.frame =
            (let w : Some P.frame ≡ Some y.frame =
            sym P.frame_is ∙ ap (frame_of x.p.frames) call ∙ ap
            (λ fs. frame_of fs y.frame.call) y.frames_are
            ∙ frame_of-newest y.frame y.older in cc) in
            (y.older, y.frames_are ∙ ap (λ f. f ∷ y.older) (sym same))

    module _ (part : PartSeen) (ip : IsTrusted g part) (to : ℕ) (f : Fetches id v to)
        (inside : InCode part to)
      where
        abbrev Doors : Type 0
        Doors = AtExport s n part to ⊎ AtReturnPoint parts s n part to

        -- a safe capability isn't over a trusted part's code
        not_safe : (fs : List OpenFrame) (c : CapFields)
            → IsSafeCap g fs c → c.base ≤ to → to ≤ c.end → ⊥
        not_safe fs c safe low high =
            let lo = safe.low in
            let hi = safe.high in
            usable_no_code g h.linked safe.area safe.runs safe.usable to (omega (arith, lo, low))
            (omega (arith, hi, high)) part ip inside

        -- ---- an instruction that is no `xjmp`

        no_door : (i : Instr) (next : Word) → fetch (faces look x.p.maps Pc)
            (cell_faces look x.p.maps) ≡ some i next
            → ((r1 r2 : Reg) → i ≡ Xjmp r1 r2 → ⊥) → ⊥
        unfolding other_step
        no_door i next got never =
            let c : case_of l x.p.maps ≡ Other =
            x.outside.case_is ∙ ap (case_fetched x.p.maps) got ∙ no_jump x.p.maps i next never in
            let w : weight_of l x.p ≡ 1 = weight_is Other c in
            let q = overlay_goes w in
            let o = went_other x.p.frames x.p.calls (step_of look Plain x.p.maps) q.0
            (sym (step_is Other c) ∙ q.1) in
            let r = fetched_row look Plain x.p.maps o.0 o.1 in
            let one : i ≡ r.0 = (let y : some i next ≡ some r.0 r.1 = sym got ∙ r.2 in cc) in
            let all =
            after_went (AllAre (IsSafe g x.p.frames) (IsOpenAt g)) (row look Plain r.0 r.1 x.p.maps) o.0
            (row_keeps look Plain (IsSafe g x.p.frames) (IsOpenAt g) (safe_closed g h.linked x.p.frames)
            x.p.maps (x.outside.safe, x.inv.cells) r.1 (next_safe r.0 r.1 r.2) r.0
            (opens_none (IsSafe g x.p.frames) x.p.maps r.0 (λ a b e. never a b (one ∙ e)))
            (λ a u. target_open r.0 a (used_target r.0 (faces look x.p.maps)
            (cell_faces look x.p.maps) a u))) r.3 in
            let next_at = agrees.matched (n + weight_of l x.p) q.0 (goes_on x.reached q.1) in
            let same : next_at.0 ≡ v =
            one_state (n + 1) s.state.maps next_at.0 v
            (subst (λ i. plain_run (n + i) s.state.maps ≡ went next_at.0) w next_at.1) ran in
            let safe : IsSafe g q.0.frames (reg q.0.maps.regs Pc) =
            subst (λ (y : OState). IsSafe g y.frames (reg y.maps.regs Pc)) (sym o.2) (all.0 Pc) in
            let b = held g h.linked q.0 next_at.0 next_at.2 Pc safe to
            (subst (λ y. target_of (faces id y Pc) ≡ Some to) (sym same)
            (fetched_is (faces id v Pc) (cell_faces id v) to f)) in
            not_safe q.0.frames b.0 b.1 b.2 b.3

        -- ---- an `xjmp` of two plain words

        plain_door : (r1 r2 : Reg) → Jumped r1 r2 x.u v → (a b : Word) → reg x.p.maps.regs r1 ≡ Plain a
            → reg x.p.maps.regs r2 ≡ Plain b → Doors
        unfolding flat
        plain_door r1 r2 j a b ea eb =
            let fs = x.p.frames in
            by_lead (leads_to g h.linked fs a b j.code j.half j.cap
            (subst (λ w. IsSafe g fs w) ea (x.outside.safe r1))
            (subst (λ w. IsSafe g fs w) eb (x.outside.safe r2))
            (sym (ap opened_of (m.regs r1 ∙ ap (flat l fs) ea)) ∙ j.opens_code)
            (sym (ap opened_of (m.regs r2 ∙ ap (flat l fs) eb)) ∙ j.opens_half) j.one_seal j.memory j.runs
            j.no_code)
          where
            by_lead : Leads_to g h.linked x.p.frames j.code.seal j.cap (unsealed j.half.content) → Doors
            by_lead (to_safe under cap half) =
                let b = fetched_in v j.cap to j.pc f in absurd (not_safe x.p.frames j.cap cap b.0 b.1)
            by_lead (to_entry q o iq en under ec ed) =
                let inside_q = (h.linked.entries q o iq en).inside in
                let top = in_code g h.linked q o iq (omega (arith, inside_q)) in
                let at : to ≡ q.component.code_base + o =
                leads_there (ranges_of q).code_base (ranges_of q).code_last (q.component.code_base + o) to
                (fetched_at v (code_at (ranges_of q) o) to (j.pc ∙ ap Mem ec) f) in
                let r = code_range part to inside in
                let same : q ≡ part = one_part g h.linked q part to iq ip (omega (arith, at))
                (omega (arith, at, top))
                r.0 r.1 in
                let e = export_of part o (subst (λ (y : PartSeen). begins_entry y.component o ≡ true)
                same en) in
                let off : e.0.offset ≡ o = eqb-true e.0.offset o e.2 in
                inl (record {
                  export = e.0;
                  listed = e.1;
                  at = at ∙ ap (λ (y : PartSeen). y.component.code_base + o) same
                      ∙ ap (λ i. part.component.code_base + i) (sym off);
                  own_data = ap (λ (y : State Word). y.regs.dat) (after_is s is (n + 1) v ran) ∙ j.dat ∙ ed
                      ∙ ap (λ (y : PartSeen). Mem (data_of y)) same;
                })

        -- ---- one of a return word

        -- a site whose return is entered is of the part that is entered
        own_site : (i : ℕ) (c : SiteCode) → site_code l i ≡ Some c → (z : Site) → Contains s.sites z
            → z.at ≡ c.at
            → to ≡ c.at + CALL_WORDS → slice_get parts z.part ≡ Some part
        own_site i c e z there same at =
            let q = h.linked.sites i c e in
            let st = q.3 in
            let start_at = st.at_is in
            let room = st.inside in
            let first : c.at ≤ (ranges_of q.0).code_last =
            (let y = in_code g h.linked q.0 st.offset q.2 (omega (arith, room)) in omega
            (arith, start_at, y)) in
            let last : to ≤ (ranges_of q.0).code_last =
            (let y = in_code g h.linked q.0 (st.offset + CALL_WORDS) q.2 (omega (arith, room)) in
            omega (arith, start_at, at, y)) in
            let r = code_range part to inside in
            let one : q.0 ≡ part = one_part g h.linked q.0 part to q.2 ip
            (omega (arith, start_at, at)) last r.0 r.1
            in
            let k = (sites.all z).0 there in
            let ik : IsTrusted g k.of = (listed_at parts z.part k.of k.of_is, k.trusted) in
            let of_at = k.at in
            let within = sites_in k.of (h.linked.parts k.of ik.0) k.trusted z.index k.offset k.offset_is in
            let low : (ranges_of k.of).code_base ≤ c.at = omega (arith, of_at, same) in
            let high : c.at ≤ (ranges_of k.of).code_last =
            (let y = in_code g h.linked k.of k.offset ik within in omega (arith, of_at, same, y)) in
            let two : k.of ≡ q.0 =
            one_part g h.linked k.of q.0 c.at ik q.2 low high (omega (arith, start_at)) first in
            k.of_is ∙ ap Some (two ∙ one)

        return_door : (r1 r2 : Reg) → case_of l x.p.maps ≡ Back r1 r2 → (i : ℕ)
            → reg x.p.maps.regs r1 ≡ RetCode i
            → Doors
        return_door r1 r2 c i e1 =
            let rd : AtReturn l r1 r2 x.p =
            subst (λ y. ReadyFor l x.p y) c (ready g h.linked x.p x.u x.inv) in
            let P = of_pair l r1 r2 x.p x.u rd m k i e1 v goes_so in
            let there = (frame_in x.p.frames P.call P.frame P.frame_is).0 in
            let line = line_of_frame l x.p.maps.cells x.p.calls x.p.frames P.frame x.inv.frames there in
            let site = site_there l P.frame.site P.site P.site_is in
            let at : to ≡ P.site.at + CALL_WORDS =
            leads_there P.site.base P.site.end (P.site.at + CALL_WORDS) to
            (fetched_at v (code_cap P.site.base P.site.end (P.site.at + CALL_WORDS)) to P.pc f) in
            let weight : weight_of l x.p ≡ RETURN_WORDS + 1 =
            weight_is (Back r1 r2) c ∙ ap (λ z. if is_ret_code z then RETURN_WORDS + 1 else 1) e1 in
            inr (record {
              site = site.0;
              is_site = listed_at l.sites P.frame.site site.0 site.1;
              own = own_site P.frame.site P.site P.site_is site.0
                  (listed_at l.sites P.frame.site site.0 site.1) site.3 at;
              at = at ∙ ap (λ y. y + CALL_WORDS) (sym site.3);
              told = line_of l P.frame line.0;
              part = ap (λ y. part_name l y.part) (sym site.2);
              index = ap (λ y. y.index) (sym site.2);
              is_open = subst (λ cs. Contains cs (line_of l P.frame line.0)) (sym x.opened) line.1;
              range = ap (λ (y : State Word). y.regs.dat) (after_is s is (n + 1) v ran) ∙ P.dat;
              newest = λ ends. (let q = goes_through r1 r2 rd P c weight ends in
                  (lines_told l q.0, x.opened ∙ line.2 q.0 q.1));
            })

        back_door : (r1 r2 : Reg) → case_of l x.p.maps ≡ Back r1 r2 → Doors
        unfolding return_step
        back_door r1 r2 c = by_word (reg x.p.maps.regs r1) refl
          where
            no_step : (y : OWord) → reg x.p.maps.regs r1 ≡ y → is_ret_code y ≡ false
                → overlay_step l x.p ≡ fails → Doors
            no_step y e n f = absurd (not_failed_first
                (weight_is (Back r1 r2) c ∙ ap (λ z. if is_ret_code z then RETURN_WORDS + 1 else 1) e
                ∙ ap (λ b. if b then RETURN_WORDS + 1 else 1) n) f)

            by_word : (y : OWord) → reg x.p.maps.regs r1 ≡ y → Doors
            by_word (RetCode i) e = return_door r1 r2 c i e
            by_word (Plain w) e =
                no_step (Plain w) e refl (step_is (Back r1 r2) c
                ∙ ap (λ y. return_by l y (reg x.p.maps.regs r2) r2 x.p.frames x.p) e)
            by_word (RetData w) e =
                no_step (RetData w) e refl (step_is (Back r1 r2) c
                ∙ ap (λ y. return_by l y (reg x.p.maps.regs r2) r2 x.p.frames x.p) e)

        -- ---- whatever it is

        pub door : Doors
        door =
            let r = fetched_row id id x.u v goes_so in
            by_instr r.0 r.1 (sym same_fetch ∙ r.2) r.3
          where
            by_instr : (i : Instr) (next : Word)
                → fetch (faces look x.p.maps Pc) (cell_faces look x.p.maps) ≡ some i next
                → row id id i next x.u ≡ went v → Doors
            by_instr i next got e = elim (is_xjmp i) as (λ _. Doors) [
              | inr never ↦ absurd (no_door i next got never)
              | inl y ↦
                  (let r1 = y.0 in
                  let r2 = y.1 in
                  let j = xjmp_jumped x.u v r1 r2 next (sym (ap (λ z. row id id z next x.u) y.2) ∙ e) in
                  let c = x.outside.case_is ∙ ap (case_fetched x.p.maps)
                  (got ∙ ap (λ z. some z next) y.2) in
                  by_plain r1 r2 next j c (is_plain (reg x.p.maps.regs r1))
                  (is_plain (reg x.p.maps.regs r2)) refl refl)
            ]
              where
                by_plain : (r1 r2 : Reg) (next : Word) → Jumped r1 r2 x.u v
                    → case_of l x.p.maps ≡ case_fetched x.p.maps (some (Xjmp r1 r2) next)
                    → (a b : Bool) → is_plain (reg x.p.maps.regs r1) ≡ a → is_plain
                    (reg x.p.maps.regs r2) ≡ b
                    → Doors
                by_plain r1 r2 next j c true true ea eb =
                    let a = plain_is (reg x.p.maps.regs r1) ea in
                    let b = plain_is (reg x.p.maps.regs r2) eb in
                    plain_door r1 r2 j a.0 b.0 a.1 b.1
                by_plain r1 r2 next j c false b ea eb =
                    back_door r1 r2 (c ∙ both_plain x.p.maps r1 r2 next false
                    (ap (λ y. y && is_plain (reg x.p.maps.regs r2)) ea))
                by_plain r1 r2 next j c true false ea eb =
                    back_door r1 r2 (c ∙ both_plain x.p.maps r1 r2 next false
                    (ap (λ y. y && is_plain (reg x.p.maps.regs r2)) ea ∙ eb))

  -- where an instruction of code outside leads into a trusted part
  pub doors : (n to : ℕ) (part : PartSeen) → Enters parts s n part to
      → AtExport s n part to ⊎ AtReturnPoint parts s n part to
  doors n to part e =
      let x = here parts size s h is agrees headline brackets n e.from in
      let v = has_gone s is (n + 1) e.comes.0 in
      door n x v.0 v.1 part e.trusted to
      (subst (λ y. Fetches id y to) (after_is s is (n + 1) v.0 v.1) e.comes.1) e.inside
