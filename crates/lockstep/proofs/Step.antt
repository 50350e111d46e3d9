-- A step of code outside does the same in two runs, from states that are alike to it.
use Rattle.std.proofs.Common.{◌≡◌, ◌≢◌, inl, inr, ℕ, ◌+◌, pos, List, [], ◌∷◌, Option, Some, None, Bool, true}
use Rattle.std.proofs.Common.{false, refl, sym, ap, ◌∙◌, subst, eqb-true, eq-eqb}
use Rattle.std.specs.Prelude.{◌==◌, ◌&&◌, is_some, ◌↔◌, if◌then◌else◌}
use Rattle.std.specs.List.{Contains}
use Rattle.std.proofs.lemmas.Bool.{cases_Bool, and_parts, cases_eq}
use Rattle.cap_words.specs.declared.Word.{Word}
use Rattle.cap_words.specs.declared.Word.TheVariants.{Int, Mem, Seal, Sealed}
use Rattle.cap_words.specs.declared.Sealable.TheVariants.{Mem as MemIn, Seal as SealIn}
use Rattle.cap_words.specs.declared.CapFields.{CapFields}
use Rattle.cap_words.specs.declared.Opened.{Opened}
use Rattle.cap_words.specs.declared.Content.{Content}
use Rattle.cap_words.specs.declared.Content.TheVariants.{Mem as MemC}
use Rattle.cap_words.specs.Face.{face_of, opened_of}
use Rattle.cap_words.specs.Faces.{may_run, target_of, memory_in, perm_number}
use Rattle.cap_words.specs.Linear.{zero_word, lin_is}
use Rattle.lcm_isa.specs.declared.Reg.{Reg}
use Rattle.lcm_isa.specs.declared.Reg.TheVariants.{Pc, Dat, Stk, A0}
use Rattle.lcm_isa.specs.declared.Instr.{Instr}
use Rattle.lcm_isa.specs.declared.Instr.TheVariants.{Xjmp}
use Rattle.lcm_machine.specs.declared.FailCause.{FailCause}
use Rattle.lcm_machine.specs.declared.Place.TheVariants.{R}
use Rattle.lcm_machine.specs.Maps.{State}
use Rattle.lcm_machine.specs.Places.{reg, set_reg}
use Rattle.lcm_machine.specs.Cells.{cell}
use Rattle.lcm_machine.specs.Table.{target, unsealed, memory_content, runs_in, no_effect, made}
use Rattle.lcm_machine.specs.Table as tbl
use Rattle.lcm_machine.specs.declared.plan.Effect.{Effect}
use Rattle.lcm_machine.specs.Row.{went, halted, failed, Outcome, faces, opens, cell_faces, fetch, Fetched}
use Rattle.lcm_machine.specs.Row.{none, some, row, step_fetched, put, perform, clear, plan_in}
use Rattle.lcm_machine.specs.Refusals.{HasFailed, Refuses}
use Rattle.lcm_machine.proofs.Offers.{reg-set_other, look_seals, xjmp_fails, xjmp_runs_fails, OpensSame}
use Rattle.call_sequence.specs.Holds.{code_at}
use Rattle.linked_starts.specs.Parts.{PartSeen}
use Rattle.linked_starts.specs.Start.{Exported, code_half, data_half, code_of, data_of}
use Rattle.trusted_border.specs.declared.layout.Layout.{Layout}
use Rattle.trusted_border.specs.declared.layout.SiteCode.{SiteCode}
use Rattle.trusted_border.specs.Layout.{site_code}
use Rattle.overlay_machine.specs.declared.words.OWord.{OWord}
use Rattle.overlay_machine.specs.declared.words.OWord.TheVariants.{Plain, RetCode, RetData}
use Rattle.overlay_machine.specs.declared.cases.Case.TheVariants.{Back, Other}
use Rattle.overlay_machine.specs.Words.{look, is_plain}
use Rattle.overlay_machine.specs.State.{OpenFrame, OState}
use Rattle.overlay_machine.specs.Step.{goes, fails, with_frames, overlay_step, case_fetched, return_step}
use Rattle.overlay_machine.specs.Step.{return_by, own_stack, if_own, ask, need, state_resumed}
use Rattle.overlay_machine.specs.Events.{step_event}
use Rattle.overlay_machine.specs.Link.{Link, IsTrusted, ranges_of}
use Rattle.overlay_machine.specs.Linked.{IsLink}
use Rattle.overlay_machine.specs.Safe.{IsOpenSeal, IsSafe}
use Rattle.overlay_machine.proofs.Offers.{seals_safe, crossing_code_is as code_is, is_xjmp, open_seal}
use Rattle.template_runs.proofs.Offers.{safe_outside}
use Rattle.template_runs.specs.Public.{IsFreeAt}
use Rattle.lockstep.specs.Related.{StandsOutside, SameNames, Calls, AreCalls, OneToOne, IsOurs, SameWord}
use Rattle.lockstep.specs.Related.{ours, code_halves, data_halves, ret_codes, ret_datas, Newest, Alike}
use Rattle.lockstep.specs.Related.{StepsAlike, both_halt, both_fail, both_stay, both_come}
use Rattle.lockstep.specs.Related.{OutsideStepsAlike}
use Rattle.lockstep.proofs.Rows.{Fresh, EndsTwin, fetch_twin, row_twin, faces_twin, clear_twin, put_twin}
use Rattle.lockstep.proofs.Outer.{not_code_fails, pc_inside, site_inside, safe, pc_free, target_free}
use Rattle.lockstep.proofs.Outer.{pc_there, target_there, other_is, back_is, next_mem, straight_pc}
use Rattle.lockstep.proofs.Outer.{cross_pc}
use Rattle.lockstep.proofs.Comes.{enter_event, return_event, straight_event, own_event}

eqb_same : (k f m e : ℕ) → (k ≡ f) ↔ (m ≡ e) → (k == f) ≡ (m == e)
eqb_same k f m e h = elim (cases_Bool (k == f)) as (λ _. (k == f) ≡ (m == e)) [
  | inl t ↦ t ∙ sym (eq-eqb m e (h.0 (eqb-true k f t)))
  | inr n ↦ elim (cases_Bool (m == e)) as (λ _. (k == f) ≡ (m == e)) [
    | inl t ↦ absurd (let k' = eq-eqb k f (h.1 (eqb-true m e t)) in
        let bad : false ≡ true = sym n ∙ k' in cc)
    | inr n' ↦ n ∙ sym n'
  ]
]

opens_never : (v w : Reg → Option Opened) (n : Instr) → ((r1 r2 : Reg) → n ≡ Xjmp r1 r2 → ⊥) → OpensSame v w n
opens_never v w (Xjmp r1 r2) f = absurd (f r1 r2 refl)
opens_never v w _ f = tt

other_never : (s : State OWord) (n : Instr) (next : Word) → ((r1 r2 : Reg) → n ≡ Xjmp r1 r2 → ⊥)
    → case_fetched s (some n next) ≡ Other
other_never s (Xjmp r1 r2) next f = absurd (f r1 r2 refl)
other_never s _ next f = refl

failed_fails : (fs : List OpenFrame) (n : ℕ) (a : Outcome OWord) → HasFailed a → with_frames fs n a ≡ fails
failed_fails fs n (went s) h = absurd h
failed_fails fs n halted h = absurd h
failed_fails fs n (failed c at) h = refl

-- a word of untrusted code beside an opened half of a trusted part
refuse_second : (g : Link) (lg : IsLink g) (p : PartSeen) (w : Word) (y : Opened) → IsTrusted g p → IsOurs g w
    → y.seal ≡ p.component.closure → Refuses (opened_of w) (Some y)
refuse_second g lg p (Int z) y ip o e = tt
refuse_second g lg p (Mem z) y ip o e = tt
refuse_second g lg p (Seal z) y ip o e = tt
refuse_second g lg p (Sealed n (MemIn c)) y ip o e =
    inl (λ s. lg.closure_closed p ip (subst (IsOpenSeal g) (s ∙ e) o))
refuse_second g lg p (Sealed n (SealIn c)) y ip o e =
    inl (λ s. lg.closure_closed p ip (subst (IsOpenSeal g) (s ∙ e) o))

refuse_first : (g : Link) (lg : IsLink g) (p : PartSeen) (w : Word) (y : Opened) → IsTrusted g p → IsOurs g w
    → y.seal ≡ p.component.closure → Refuses (Some y) (opened_of w)
refuse_first g lg p (Int z) y ip o e = tt
refuse_first g lg p (Mem z) y ip o e = tt
refuse_first g lg p (Seal z) y ip o e = tt
refuse_first g lg p (Sealed n (MemIn c)) y ip o e =
    inl (λ s. lg.closure_closed p ip (subst (IsOpenSeal g) (sym s ∙ e) o))
refuse_first g lg p (Sealed n (SealIn c)) y ip o e =
    inl (λ s. lg.closure_closed p ip (subst (IsOpenSeal g) (sym s ∙ e) o))

abbrev code_opened : Exported → Opened
code_opened x = record { seal = x.part.component.closure; content = MemC (code_of x) }

abbrev data_opened : Exported → Opened
data_opened x = record { seal = x.part.component.closure; content = MemC (data_of x.part) }

runs_code : (x : Exported) → x.part.trusted ≡ true → may_run (code_of x).perm ≡ true
runs_code x t = rw t refl

abbrev jump_effect : Reg → CapFields → Content → Effect
jump_effect b c d =
    record no_effect { spent = Some b; first = made Pc (Mem c); second = made Dat (unsealed d) }

-- an `xjmp` that goes, and the registers after it
jump_goes : (s : State OWord) (a b : Reg) (next : Word) (x y : Opened) (c : CapFields)
    → opened_of (look (reg s.regs a)) ≡ Some x → opened_of (look (reg s.regs b)) ≡ Some y
    → (x.seal == y.seal) ≡ true → memory_content x.content ≡ Some c → lin_is c.lin ≡ false
    → may_run c.perm ≡ true → runs_in y.content ≡ false
    → row look Plain (Xjmp a b) next s ≡ went (perform look Plain s (jump_effect b c y.content))
unfolding row plan_in opens tbl.ask tbl.need
jump_goes s a b next x y c ha hb e m l r n = rw (ha, hb, e, m, l, r, n) refl

jump_pc : (s : State OWord) (b : Reg) (c : CapFields) (d : Content)
    → reg (perform look Plain s (jump_effect b c d)).regs Pc ≡ Plain (Mem c)
unfolding perform
jump_pc s b c d = refl

jump_other : (s : State OWord) (b : Reg) (c : CapFields) (d : Content) (r : Reg) → r ≢ Pc → r ≢ Dat
    → reg (perform look Plain s (jump_effect b c d)).regs r ≡ reg (clear look Plain s (R b)).regs r
unfolding perform
jump_other s b c d r np nd =
    let x : State OWord = clear look Plain s (R b) in
    rw (
      reg-set_other (set_reg x.regs Pc (Plain (Mem c))) Dat r (Plain (unsealed d)) nd,
      reg-set_other x.regs Pc r (Plain (Mem c)) np,
    ) refl

opens_to : (s : State OWord) (a : Reg) (w : OWord) (x : Opened) → reg s.regs a ≡ w
    → opened_of (look w) ≡ Some x → opened_of (look (reg s.regs a)) ≡ Some x
opens_to s a w x e k = ap (λ y. opened_of (look y)) e ∙ k

not_code : (a b : Reg) (next : Word) (s : State OWord) (x : Exported) (k : Opened)
    → opened_of (look (reg s.regs a)) ≡ Some (data_opened x)
    → opened_of (look (reg s.regs b)) ≡ Some k → x.part.component.closure ≡ k.seal
    → HasFailed (row look Plain (Xjmp a b) next s)
unfolding opens
not_code a b next s x k ha hb e =
    not_code_fails a b next s (data_opened x) k (data_of x.part) ha hb
    (eq-eqb x.part.component.closure k.seal e) refl refl refl

code_code : (a b : Reg) (next : Word) (s : State OWord) (x u : Exported) → x.part.trusted ≡ true
    → u.part.trusted ≡ true
    → opened_of (look (reg s.regs a)) ≡ Some (code_opened x)
    → opened_of (look (reg s.regs b)) ≡ Some (code_opened u)
    → x.part.component.closure ≡ u.part.component.closure → HasFailed (row look Plain (Xjmp a b) next s)
code_code a b next s x u tx tu ha hb e =
    xjmp_runs_fails look Plain a b next s (code_opened x) (code_opened u) (code_of x) ha hb e refl refl
    (runs_code x tx) (runs_code u tu)

pub own_of : (l m : Layout) → l.stack.base ≡ m.stack.base → (c : Option CapFields) → if_own l c ≡ if_own m c
own_of l m e None = refl
own_of l m e (Some c) =
    ap (λ b. if lin_is c.lin && (perm_number c.perm == 2) && (c.base == b) then Some c else None) e

-- what a return of a pair comes to
return_fails : (l : Layout) (i k : ℕ) (r2 : Reg) (f : OpenFrame) (fs : List OpenFrame) (o : OState)
    → ((k == f.call) && (i == f.site)) ≡ false
    → return_by l (RetCode i) (RetData k) r2 (f ∷ fs) o ≡ fails
unfolding ask need
return_fails l i k r2 f fs o e = rw e refl

module _ (l : Layout) (i k : ℕ) (r2 : Reg) (f : OpenFrame) (fs : List OpenFrame) (o : OState) (s : SiteCode)
    (is : ((k == f.call) && (i == f.site)) ≡ true) (at : site_code l i ≡ Some s) where
  return_unowned : own_stack l o.maps ≡ None → return_by l (RetCode i) (RetData k) r2 (f ∷ fs) o ≡ fails
  unfolding ask need
  return_unowned e = rw (is, at, e) refl

  return_away : (c : CapFields) → own_stack l o.maps ≡ Some c → (c.end + 1 == f.base) ≡ false
      → return_by l (RetCode i) (RetData k) r2 (f ∷ fs) o ≡ fails
  unfolding ask need
  return_away c e n = rw (is, at, e, n) refl

  return_goes : (c : CapFields) → own_stack l o.maps ≡ Some c → (c.end + 1 == f.base) ≡ true
      → return_by l (RetCode i) (RetData k) r2 (f ∷ fs) o
      ≡ goes (state_resumed s c f fs (put o.maps (R r2) (zero_word Plain)) o)
  unfolding ask need
  return_goes c e n = rw (is, at, e, n) refl

module _ (g h : Link) (names : SameNames g h) (cs : Calls) where
  abbrev Rel : OWord → OWord → Type 0
  Rel = SameWord g h names cs

  pub face_is : (w v : OWord) → Rel w v → face_of (look v) ≡ face_of (look w)
  face_is _ _ (ours w o) = refl
  face_is _ _ (code_halves x y t) = refl
  face_is _ _ (data_halves x y t) = refl
  face_is _ _ (ret_codes i j s) = refl
  face_is _ _ (ret_datas k m c) = refl

  pub plain_is : (w v : OWord) → Rel w v → is_plain v ≡ is_plain w
  plain_is _ _ (ours w o) = refl
  plain_is _ _ (code_halves x y t) = refl
  plain_is _ _ (data_halves x y t) = refl
  plain_is _ _ (ret_codes i j s) = refl
  plain_is _ _ (ret_datas k m c) = refl

  ours_too : (w : Word) → IsOurs g w → IsOurs h w
  ours_too (Int z) o = tt
  ours_too (Mem z) o = tt
  ours_too (Seal z) o = tt
  ours_too (Sealed n x) o = (names.seals n).0 o

  module _ (lg : IsLink g) (lh : IsLink h) (one : OneToOne cs) (q r : OState) (oq : StandsOutside g q)
      (or : StandsOutside h r) (al : Alike g h names cs q r) where
    abbrev Free : ℕ → Type 0
    Free = IsFreeAt g

    fresh : (w : Word) → Fresh (faces look q.maps) w → Rel (Plain w) (Plain w)
    unfolding faces
    fresh (Int z) f = ours (Int z) tt
    fresh (Mem z) f = ours (Mem z) tt
    fresh (Seal z) f = ours (Seal z) tt
    fresh (Sealed n x) f =
        let k = look_seals (look (reg q.maps.regs f.0)) f.1 f.2 in
        let s = seals_safe g q.frames (reg q.maps.regs f.0) f.1 k (safe g lg q oq f.0) in
        ours (Sealed n x) (subst (IsOpenSeal g) (sym f.4) (open_seal g f.1 f.3 s))

    faces_same : faces look r.maps ≡ faces look q.maps
    faces_same = faces_twin look Plain Rel Free face_is q.maps r.maps al.seen

    pc_both : (a : ℕ) → target_of (faces look q.maps Pc) ≡ Some a
        → Free a × (is_some (cell q.maps.cells a) ≡ true) × (is_some (cell r.maps.cells a) ≡ true)
    pc_both a e = (
      pc_free g lg q oq a e,
      pc_there g lg q oq a e,
      pc_there h lh r or a (ap (λ x. target_of (x Pc)) faces_same ∙ e),
    )

    target_both : (n : Instr) (a : ℕ) → target n (faces look q.maps) ≡ Some a
        → Free a × (is_some (cell q.maps.cells a) ≡ true) × (is_some (cell r.maps.cells a) ≡ true)
    target_both n a e = (
      target_free g lg q oq n a e,
      target_there g lg q oq n a e,
      target_there h lh r or n a (ap (target n) faces_same ∙ e),
    )

    fetch_same : fetch (faces look r.maps Pc) (cell_faces look r.maps)
        ≡ fetch (faces look q.maps Pc) (cell_faces look q.maps)
    fetch_same = fetch_twin look Plain Rel Free face_is q.maps r.maps al.seen pc_both

    -- both ends of a row
    ended : (a b : Outcome OWord) → EndsTwin Rel Free a b
        → overlay_step g.layout q ≡ with_frames q.frames q.calls a
        → overlay_step h.layout r ≡ with_frames r.frames r.calls b
        → ((s : State OWord) → a ≡ went s → IsSafe g q.frames s.regs.pc)
        → ((s : State OWord) → b ≡ went s → IsSafe h r.frames s.regs.pc)
        → ((q' : OState) → step_event g.layout q q' ≡ None)
        → ((r' : OState) → step_event h.layout r r' ≡ None) → StepsAlike g h names cs q r
    ended (went s) (went t) tw eq er sq sr nq nr =
        let q' : OState = record { maps = s; frames = q.frames; calls = q.calls } in
        let r' : OState = record { maps = t; frames = r.frames; calls = r.calls } in
        both_stay q' r' eq er (safe_outside g lg q.frames q' (sq s refl))
        (safe_outside h lh r.frames r' (sr t refl)) (nq q') (nr r')
        (record { seen = tw; newest = al.newest })
    ended halted halted tw eq er sq sr nq nr = both_halt eq er
    ended (failed c at) (failed d to) tw eq er sq sr nq nr = both_fail eq er
    ended (went s) halted tw eq er sq sr nq nr = absurd tw
    ended (went s) (failed d to) tw eq er sq sr nq nr = absurd tw
    ended halted (went t) tw eq er sq sr nq nr = absurd tw
    ended halted (failed d to) tw eq er sq sr nq nr = absurd tw
    ended (failed c at) (went t) tw eq er sq sr nq nr = absurd tw
    ended (failed c at) halted tw eq er sq sr nq nr = absurd tw

    module _ (got : Fetched) (fq : fetch (faces look q.maps Pc) (cell_faces look q.maps) ≡ got)
        (fr : fetch (faces look r.maps Pc) (cell_faces look r.maps) ≡ got) where
      -- no jump
      straight : (n : Instr) (next : Word) → got ≡ some n next → ((r1 r2 : Reg) → n ≡ Xjmp r1 r2 → ⊥)
          → StepsAlike g h names cs q r
      straight n next e never =
          let k = next_mem g lg q oq n next (fq ∙ e) in
          let nx : Fresh (faces look q.maps) next = subst (Fresh (faces look q.maps)) (sym k.1) tt in
          ended (row look Plain n next q.maps) (row look Plain n next r.maps)
          (row_twin look Plain Rel Free face_is (ours (Int (pos 0)) tt) q.maps r.maps fresh n next nx al.seen
          (opens_never _ _ n never) (target_both n))
          (other_is g lg q oq (some n next) (fq ∙ e) (other_never q.maps n next never))
          (other_is h lh r or (some n next) (fr ∙ e) (other_never r.maps n next never))
          (λ s i. straight_pc g lg q oq n next s (fq ∙ e) i never)
          (λ s i. straight_pc h lh r or n next s (fr ∙ e) i never)
          (λ z. straight_event g lg q oq n next z (fq ∙ e) never)
          (λ z. straight_event h lh r or n next z (fr ∙ e) never)

      both_failing : (a b : Outcome OWord) → HasFailed a → HasFailed b
          → overlay_step g.layout q ≡ with_frames q.frames q.calls a
          → overlay_step h.layout r ≡ with_frames r.frames r.calls b → StepsAlike g h names cs q r
      both_failing a b ha hb eq er =
          both_fail (eq ∙ failed_fails q.frames q.calls a ha) (er ∙ failed_fails r.frames r.calls b hb)

      -- nothing that can run
      nothing : (c : FailCause) → got ≡ none c → StepsAlike g h names cs q r
      nothing c e =
          both_failing (step_fetched look Plain q.maps (none c)) (step_fetched look Plain r.maps (none c)) tt
          tt
          (other_is g lg q oq (none c) (fq ∙ e) refl) (other_is h lh r or (none c) (fr ∙ e) refl)

      module _ (r1 r2 : Reg) (next : Word) (e : got ≡ some (Xjmp r1 r2) next) where
        abbrev Jump : State OWord → Outcome OWord
        Jump s = row look Plain (Xjmp r1 r2) next s

        module _ (pq : (is_plain (reg q.maps.regs r1) && is_plain (reg q.maps.regs r2)) ≡ true)
            (pr : (is_plain (reg r.maps.regs r1) && is_plain (reg r.maps.regs r2)) ≡ true) where
          other_q : overlay_step g.layout q ≡ with_frames q.frames q.calls (Jump q.maps)
          other_q = other_is g lg q oq (some (Xjmp r1 r2) next) (fq ∙ e)
              (ap (λ b. if b then Other else Back r1 r2) pq)

          other_r : overlay_step h.layout r ≡ with_frames r.frames r.calls (Jump r.maps)
          other_r = other_is h lh r or (some (Xjmp r1 r2) next) (fr ∙ e)
              (ap (λ b. if b then Other else Back r1 r2) pr)

          failing : HasFailed (Jump q.maps) → HasFailed (Jump r.maps) → StepsAlike g h names cs q r
          failing a b = both_failing (Jump q.maps) (Jump r.maps) a b other_q other_r

          -- words under seals of untrusted code, or not sealed
          own_pair : (a b : Word) → reg q.maps.regs r1 ≡ Plain a → reg r.maps.regs r1 ≡ Plain a
              → reg q.maps.regs r2 ≡ Plain b → reg r.maps.regs r2 ≡ Plain b → IsOurs g a
              → StepsAlike g h names cs q r
          unfolding opens
          own_pair a b q1 v1 q2 v2 own =
              let k = next_mem g lg q oq (Xjmp r1 r2) next (fq ∙ e) in
              let nx : Fresh (faces look q.maps) next = subst (Fresh (faces look q.maps)) (sym k.1) tt in
              ended (Jump q.maps) (Jump r.maps)
              (row_twin look Plain Rel Free face_is (ours (Int (pos 0)) tt) q.maps r.maps fresh (Xjmp r1 r2)
              next nx al.seen (
                ap (λ w. opened_of (look w)) v1 ∙ sym (ap (λ w. opened_of (look w)) q1),
                ap (λ w. opened_of (look w)) v2 ∙ sym (ap (λ w. opened_of (look w)) q2),
              )
              (target_both (Xjmp r1 r2)))
              other_q other_r
              (λ s i. cross_pc g lg q oq r1 r2 next a s i q1 own)
              (λ s i. cross_pc h lh r or r1 r2 next a s i v1 (ours_too a own))
              (λ z. own_event g lg q oq r1 r2 next z a (fq ∙ e) pq q1 own)
              (λ z. own_event h lh r or r1 r2 next z a (fr ∙ e) pr v1 (ours_too a own))

          first_plain : {w : OWord} → reg q.maps.regs r1 ≡ w → is_plain w ≡ true
          first_plain e' = ap is_plain (sym e') ∙ (and_parts _ _ pq).0

          second_plain : {w : OWord} → reg q.maps.regs r2 ≡ w → is_plain w ≡ true
          second_plain e' = ap is_plain (sym e') ∙ (and_parts _ _ pq).1

          -- a half of a trusted part, opened
          module _ (x y : Exported) (t : Contains names.twins (x, y)) where
            ipx : IsTrusted g x.part
            ipx = (names.exports x y t).0.0

            ipy : IsTrusted h y.part
            ipy = (names.exports x y t).1.0

            own_half : (a : Word) (j k : Opened) → reg q.maps.regs r1 ≡ Plain a → reg r.maps.regs r1 ≡ Plain a
                → IsOurs g a → IsOurs h a
                → opened_of (look (reg q.maps.regs r2)) ≡ Some j
                → opened_of (look (reg r.maps.regs r2)) ≡ Some k
                → j.seal ≡ x.part.component.closure → k.seal ≡ y.part.component.closure
                → StepsAlike g h names cs q r
            own_half a j k q1 v1 own own' q2 v2 ej ek =
                failing
                (xjmp_fails look Plain r1 r2 next q.maps (opened_of a) (Some j)
                (ap (λ w. opened_of (look w)) q1) q2 (refuse_second g lg x.part a j ipx own ej))
                (xjmp_fails look Plain r1 r2 next r.maps (opened_of a) (Some k)
                (ap (λ w. opened_of (look w)) v1) v2 (refuse_second h lh y.part a k ipy own' ek))

            half_own : (a : Word) (j k : Opened) → reg q.maps.regs r2 ≡ Plain a → reg r.maps.regs r2 ≡ Plain a
                → IsOurs g a → IsOurs h a
                → opened_of (look (reg q.maps.regs r1)) ≡ Some j
                → opened_of (look (reg r.maps.regs r1)) ≡ Some k
                → j.seal ≡ x.part.component.closure → k.seal ≡ y.part.component.closure
                → StepsAlike g h names cs q r
            half_own a j k q2 v2 own own' q1 v1 ej ek =
                failing
                (xjmp_fails look Plain r1 r2 next q.maps (Some j) (opened_of a) q1
                (ap (λ w. opened_of (look w)) q2) (refuse_first g lg x.part a j ipx own ej))
                (xjmp_fails look Plain r1 r2 next r.maps (Some k) (opened_of a) v1
                (ap (λ w. opened_of (look w)) v2) (refuse_first h lh y.part a k ipy own' ek))

            -- two halves
            module _ (u v : Exported) (t' : Contains names.twins (u, v)) where
              ipu : IsTrusted g u.part
              ipu = (names.exports u v t').0.0

              ipv : IsTrusted h v.part
              ipv = (names.exports u v t').1.0

              -- of two parts
              apart : (j k j' k' : Opened) → opened_of (look (reg q.maps.regs r1)) ≡ Some j
                  → opened_of (look (reg r.maps.regs r1)) ≡ Some k
                  → opened_of (look (reg q.maps.regs r2)) ≡ Some j'
                  → opened_of (look (reg r.maps.regs r2)) ≡ Some k'
                  → j.seal ≢ j'.seal → k.seal ≢ k'.seal → StepsAlike g h names cs q r
              apart j k j' k' q1 v1 q2 v2 nj nk =
                  failing (xjmp_fails look Plain r1 r2 next q.maps (Some j) (Some j') q1 q2 (inl nj))
                  (xjmp_fails look Plain r1 r2 next r.maps (Some k) (Some k') v1 v2 (inl nk))

              other_apart : x.part.component.closure ≢ u.part.component.closure
                  → y.part.component.closure ≢ v.part.component.closure
              other_apart ne e' =
                  ne (ap (λ p. p.component.closure)
                  ((names.one_part x y u v t t').1 (lh.one_closure y.part v.part ipy ipv e')))

              other_same : x.part.component.closure ≡ u.part.component.closure
                  → y.part.component.closure ≡ v.part.component.closure
              other_same e' =
                  ap (λ p. p.component.closure)
                  ((names.one_part x y u v t t').0 (lg.one_closure x.part u.part ipx ipu e'))

              -- the pair of an export
              entered : reg q.maps.regs r1 ≡ Plain (code_half x) → reg r.maps.regs r1 ≡ Plain (code_half y)
                  → reg q.maps.regs r2 ≡ Plain (data_half u) → reg r.maps.regs r2 ≡ Plain (data_half v)
                  → x.part.component.closure ≡ u.part.component.closure
                  → y.part.component.closure ≡ v.part.component.closure → StepsAlike g h names cs q r
              entered q1 v1 q2 v2 e1 e2 =
                  let sq : State OWord =
                  perform look Plain q.maps (jump_effect r2 (code_of x) (MemC (data_of u.part))) in
                  let sr : State OWord =
                  perform look Plain r.maps (jump_effect r2 (code_of y) (MemC (data_of v.part))) in
                  let gq = jump_goes q.maps r1 r2 next (code_opened x) (data_opened u) (code_of x)
                  (ap (λ w. opened_of (look w)) q1) (ap (λ w. opened_of (look w)) q2)
                  (eq-eqb x.part.component.closure u.part.component.closure e1) refl refl
                  (runs_code x ipx.1) refl in
                  let gr = jump_goes r.maps r1 r2 next (code_opened y) (data_opened v) (code_of y)
                  (ap (λ w. opened_of (look w)) v1) (ap (λ w. opened_of (look w)) v2)
                  (eq-eqb y.part.component.closure v.part.component.closure e2) refl refl
                  (runs_code y ipy.1) refl in
                  let q' : OState = record { maps = sq; frames = q.frames; calls = q.calls } in
                  let r' : OState = record { maps = sr; frames = r.frames; calls = r.calls } in
                  let pq' : look (reg sq.regs Pc) ≡ Mem (code_at (ranges_of x.part) x.export.offset) =
                  ap look (jump_pc q.maps r2 (code_of x) (MemC (data_of u.part))) ∙ ap Mem (code_is x ipx.1)
                  in
                  let pr' : look (reg sr.regs Pc) ≡ Mem (code_at (ranges_of y.part) y.export.offset) =
                  ap look (jump_pc r.maps r2 (code_of y) (MemC (data_of v.part))) ∙ ap Mem (code_is y ipy.1)
                  in
                  let cl = clear_twin look Plain Rel Free face_is (ours (Int (pos 0)) tt) q.maps r.maps (R r2)
                  tt
                  al.seen in
                  both_come q' r'
                  (other_q ∙ ap (with_frames q.frames q.calls) gq)
                  (other_r ∙ ap (with_frames r.frames r.calls) gr)
                  (pc_inside g lg x.part x.export.offset q' ipx pq')
                  (pc_inside h lh y.part y.export.offset r' ipy pr')
                  (inl (record {
                    one = x;
                    other = y;
                    twins = t;
                    pc = pq';
                    pc_other = pr';
                    words = λ d np nd. words_by d np nd (cl.0 d);
                    frames = refl;
                    frames_other = refl;
                    event = enter_event g lg q oq r1 r2 next q' (code_opened x) (fq ∙ e) pq
                        (ap (λ w. opened_of (look w)) q1);
                    event_other = enter_event h lh r or r1 r2 next r' (code_opened y) (fr ∙ e) pr
                        (ap (λ w. opened_of (look w)) v1);
                  }))
                where
                  words_by : (d : Reg) → d ≢ Pc → d ≢ Dat
                      → Rel (reg (clear look Plain q.maps (R r2)).regs d)
                      (reg (clear look Plain r.maps (R r2)).regs d)
                      → Rel (reg (perform look Plain q.maps
                      (jump_effect r2 (code_of x) (MemC (data_of u.part)))).regs d)
                      (reg (perform look Plain r.maps
                      (jump_effect r2 (code_of y) (MemC (data_of v.part)))).regs d)
                  words_by d np nd k =
                      rw (
                        jump_other q.maps r2 (code_of x) (MemC (data_of u.part)) d np nd,
                        jump_other r.maps r2 (code_of y) (MemC (data_of v.part)) d np nd,
                      ) k

          jump : (w1 v1 w2 v2 : OWord) → reg q.maps.regs r1 ≡ w1 → reg r.maps.regs r1 ≡ v1
              → reg q.maps.regs r2 ≡ w2 → reg r.maps.regs r2 ≡ v2 → Rel w1 v1 → Rel w2 v2
              → StepsAlike g h names cs q r
          jump _ _ _ _ q1 v1 q2 v2 (ours a o) (ours b o') = own_pair a b q1 v1 q2 v2 o
          jump _ _ _ _ q1 v1 q2 v2 (ours a o) (code_halves x y t) =
              own_half x y t a (code_opened x) (code_opened y) q1 v1 o (ours_too a o)
              (opens_to q.maps r2 _ _ q2 refl) (opens_to r.maps r2 _ _ v2 refl) refl refl
          jump _ _ _ _ q1 v1 q2 v2 (ours a o) (data_halves x y t) =
              own_half x y t a (data_opened x) (data_opened y) q1 v1 o (ours_too a o)
              (opens_to q.maps r2 _ _ q2 refl) (opens_to r.maps r2 _ _ v2 refl) refl refl
          jump _ _ _ _ q1 v1 q2 v2 (code_halves x y t) (ours a o) =
              half_own x y t a (code_opened x) (code_opened y) q2 v2 o (ours_too a o)
              (opens_to q.maps r1 _ _ q1 refl) (opens_to r.maps r1 _ _ v1 refl) refl refl
          jump _ _ _ _ q1 v1 q2 v2 (data_halves x y t) (ours a o) =
              half_own x y t a (data_opened x) (data_opened y) q2 v2 o (ours_too a o)
              (opens_to q.maps r1 _ _ q1 refl) (opens_to r.maps r1 _ _ v1 refl) refl refl
          jump _ _ _ _ q1 v1 q2 v2 (code_halves x y t) (code_halves u v t') =
              let oq1 = opens_to q.maps r1 _ (code_opened x) q1 refl in
              let or1 = opens_to r.maps r1 _ (code_opened y) v1 refl in
              let oq2 = opens_to q.maps r2 _ (code_opened u) q2 refl in
              let or2 = opens_to r.maps r2 _ (code_opened v) v2 refl in
              elim (cases_eq x.part.component.closure u.part.component.closure)
              as (λ _. StepsAlike g h names cs q r) [
                | inl same ↦ failing
                    (code_code r1 r2 next q.maps x u (ipx x y t).1 (ipu x y t u v t').1 oq1 oq2 same)
                    (code_code r1 r2 next r.maps y v (ipy x y t).1 (ipv x y t u v t').1 or1 or2
                    (other_same x y t u v t' same))
                | inr ne ↦ apart x y t u v t' (code_opened x) (code_opened y) (code_opened u) (code_opened v)
                    oq1 or1 oq2 or2 ne (other_apart x y t u v t' ne)
              ]
          jump _ _ _ _ q1 v1 q2 v2 (code_halves x y t) (data_halves u v t') =
              let oq1 = opens_to q.maps r1 _ (code_opened x) q1 refl in
              let or1 = opens_to r.maps r1 _ (code_opened y) v1 refl in
              let oq2 = opens_to q.maps r2 _ (data_opened u) q2 refl in
              let or2 = opens_to r.maps r2 _ (data_opened v) v2 refl in
              elim (cases_eq x.part.component.closure u.part.component.closure)
              as (λ _. StepsAlike g h names cs q r) [
                | inl same ↦ entered x y t u v t' q1 v1 q2 v2 same (other_same x y t u v t' same)
                | inr ne ↦ apart x y t u v t' (code_opened x) (code_opened y) (data_opened u) (data_opened v)
                    oq1 or1 oq2 or2 ne (other_apart x y t u v t' ne)
              ]
          jump _ _ _ _ q1 v1 q2 v2 (data_halves x y t) (code_halves u v t') =
              let oq1 = opens_to q.maps r1 _ (data_opened x) q1 refl in
              let or1 = opens_to r.maps r1 _ (data_opened y) v1 refl in
              let oq2 = opens_to q.maps r2 _ (code_opened u) q2 refl in
              let or2 = opens_to r.maps r2 _ (code_opened v) v2 refl in
              elim (cases_eq x.part.component.closure u.part.component.closure)
              as (λ _. StepsAlike g h names cs q r) [
                | inl same ↦ failing (not_code r1 r2 next q.maps x (code_opened u) oq1 oq2 same)
                    (not_code r1 r2 next r.maps y (code_opened v) or1 or2 (other_same x y t u v t' same))
                | inr ne ↦ apart x y t u v t' (data_opened x) (data_opened y) (code_opened u) (code_opened v)
                    oq1 or1 oq2 or2 ne (other_apart x y t u v t' ne)
              ]
          jump _ _ _ _ q1 v1 q2 v2 (data_halves x y t) (data_halves u v t') =
              let oq1 = opens_to q.maps r1 _ (data_opened x) q1 refl in
              let or1 = opens_to r.maps r1 _ (data_opened y) v1 refl in
              let oq2 = opens_to q.maps r2 _ (data_opened u) q2 refl in
              let or2 = opens_to r.maps r2 _ (data_opened v) v2 refl in
              elim (cases_eq x.part.component.closure u.part.component.closure)
              as (λ _. StepsAlike g h names cs q r) [
                | inl same ↦ failing (not_code r1 r2 next q.maps x (data_opened u) oq1 oq2 same)
                    (not_code r1 r2 next r.maps y (data_opened v) or1 or2 (other_same x y t u v t' same))
                | inr ne ↦ apart x y t u v t' (data_opened x) (data_opened y) (data_opened u) (data_opened v)
                    oq1 or1 oq2 or2 ne (other_apart x y t u v t' ne)
              ]
          jump _ _ _ _ q1 v1 q2 v2 (ret_codes i j s) k =
              absurd (let bad : false ≡ true = first_plain q1 in cc)
          jump _ _ _ _ q1 v1 q2 v2 (ret_datas i j s) k =
              absurd (let bad : false ≡ true = first_plain q1 in cc)
          jump _ _ _ _ q1 v1 q2 v2 k (ret_codes i j s) =
              absurd (let bad : false ≡ true = second_plain q2 in cc)
          jump _ _ _ _ q1 v1 q2 v2 k (ret_datas i j s) =
              absurd (let bad : false ≡ true = second_plain q2 in cc)

        -- a return word
        module _ (bq : (is_plain (reg q.maps.regs r1) && is_plain (reg q.maps.regs r2)) ≡ false)
            (br : (is_plain (reg r.maps.regs r1) && is_plain (reg r.maps.regs r2)) ≡ false) where
          back_q : (w1 w2 : OWord) → reg q.maps.regs r1 ≡ w1 → reg q.maps.regs r2 ≡ w2
              → overlay_step g.layout q ≡ return_by g.layout w1 w2 r2 q.frames q
          unfolding return_step
          back_q w1 w2 e1 e2 =
              back_is g lg q oq r1 r2 (some (Xjmp r1 r2) next) (fq ∙ e)
              (ap (λ b. if b then Other else Back r1 r2) bq)
              ∙ ap (λ w. return_by g.layout w (reg q.maps.regs r2) r2 q.frames q) e1
              ∙ ap (λ w. return_by g.layout w1 w r2 q.frames q) e2

          back_r : (w1 w2 : OWord) → reg r.maps.regs r1 ≡ w1 → reg r.maps.regs r2 ≡ w2
              → overlay_step h.layout r ≡ return_by h.layout w1 w2 r2 r.frames r
          unfolding return_step
          back_r w1 w2 e1 e2 =
              back_is h lh r or r1 r2 (some (Xjmp r1 r2) next) (fr ∙ e)
              (ap (λ b. if b then Other else Back r1 r2) br)
              ∙ ap (λ w. return_by h.layout w (reg r.maps.regs r2) r2 r.frames r) e1
              ∙ ap (λ w. return_by h.layout w1 w r2 r.frames r) e2

          same_stack : own_stack g.layout q.maps ≡ own_stack h.layout r.maps
          unfolding own_stack
          same_stack =
              own_of g.layout h.layout names.stack (memory_in (faces look q.maps Stk))
              ∙ ap (λ x. if_own h.layout (memory_in (x Stk)))
              (sym (faces_twin look Plain Rel Free face_is q.maps r.maps al.seen))

          module _ (i j k m : ℕ) (q1 : reg q.maps.regs r1 ≡ RetCode i) (v1 : reg r.maps.regs r1 ≡ RetCode j)
              (q2 : reg q.maps.regs r2 ≡ RetData k) (v2 : reg r.maps.regs r2 ≡ RetData m)
              (sites : Contains names.sites (i, j)) (calls : AreCalls cs k m) where
            met_q : (s : SiteCode) × (site_code g.layout i ≡ Some s)
            met_q = subst (IsSafe g q.frames) q1 (safe g lg q oq r1)

            met_r : (s : SiteCode) × (site_code h.layout j ≡ Some s)
            met_r = subst (IsSafe h r.frames) v1 (safe h lh r or r1)

            module _ (f e' : OpenFrame) (fs es : List OpenFrame) (ef : q.frames ≡ f ∷ fs)
                (ee : r.frames ≡ e' ∷ es)
                (nc : AreCalls cs f.call e'.call) (ns : Contains names.sites (f.site, e'.site))
                (nb : f.base ≡ e'.base)
              where
                step_q : overlay_step g.layout q ≡ return_by g.layout (RetCode i) (RetData k) r2 (f ∷ fs) q
                step_q = back_q (RetCode i) (RetData k) q1 q2
                    ∙ ap (λ x. return_by g.layout (RetCode i) (RetData k) r2 x q) ef

                step_r : overlay_step h.layout r ≡ return_by h.layout (RetCode j) (RetData m) r2 (e' ∷ es) r
                step_r = back_r (RetCode j) (RetData m) v1 v2
                    ∙ ap (λ x. return_by h.layout (RetCode j) (RetData m) r2 x r) ee

                same_pair : ((k == f.call) && (i == f.site)) ≡ ((m == e'.call) && (j == e'.site))
                same_pair =
                    ap (λ b. b && (i == f.site))
                    (eqb_same k f.call m e'.call (one k m f.call e'.call calls nc))
                    ∙ ap (λ b. (m == e'.call) && b)
                    (eqb_same i f.site j e'.site (names.one_site i j f.site e'.site sites ns))

                value : (c d : CapFields) → Rel
                    (reg (state_resumed met_q.0 c f fs (put q.maps (R r2) (zero_word Plain)) q).maps.regs A0)
                    (reg (state_resumed met_r.0 d e' es (put r.maps (R r2) (zero_word Plain)) r).maps.regs A0)
                value c d =
                    (put_twin look Plain Rel Free face_is q.maps r.maps (R r2) (zero_word Plain)
                    (zero_word Plain) (ours (Int (pos 0)) tt) al.seen).0 A0

                returned : (c : CapFields) → own_stack g.layout q.maps ≡ Some c
                    → ((k == f.call) && (i == f.site)) ≡ true → (b : Bool) → (c.end + 1 == f.base) ≡ b
                    → StepsAlike g h names cs q r
                returned c own same false n =
                    both_fail (step_q ∙ return_away g.layout i k r2 f fs q met_q.0 same met_q.1 c own n)
                    (step_r ∙ return_away h.layout j m r2 e' es r met_r.0 (sym same_pair ∙ same) met_r.1 c
                    (sym same_stack ∙ own) (ap (λ x. c.end + 1 == x) (sym nb) ∙ n))
                returned c own same true n =
                    let q' : OState = state_resumed met_q.0 c f fs (put q.maps (R r2) (zero_word Plain)) q in
                    let r' : OState = state_resumed met_r.0 c e' es (put r.maps (R r2) (zero_word Plain)) r in
                    both_come q' r'
                    (step_q ∙ return_goes g.layout i k r2 f fs q met_q.0 same met_q.1 c own n)
                    (step_r ∙ return_goes h.layout j m r2 e' es r met_r.0 (sym same_pair ∙ same) met_r.1 c
                    (sym same_stack ∙ own) (ap (λ x. c.end + 1 == x) (sym nb) ∙ n))
                    (site_inside g lg i _ met_q.0 q' met_q.1 refl)
                    (site_inside h lh j _ met_r.0 r' met_r.1 refl) (inr (record {
                      frame = f;
                      frame_other = e';
                      frames = ef;
                      frames_other = ee;
                      calls = nc;
                      sites = ns;
                      base = nb;
                      value = value c c;
                      event = return_event g lg q oq r1 r2 next q' (fq ∙ e) bq f fs ef;
                      event_other = return_event h lh r or r1 r2 next r' (fr ∙ e) br e' es ee;
                    }))

                by_own : (o : Option CapFields) → own_stack g.layout q.maps ≡ o
                    → ((k == f.call) && (i == f.site)) ≡ true → StepsAlike g h names cs q r
                by_own None own same =
                    both_fail (step_q ∙ return_unowned g.layout i k r2 f fs q met_q.0 same met_q.1 own)
                    (step_r ∙ return_unowned h.layout j m r2 e' es r met_r.0 (sym same_pair ∙ same) met_r.1
                    (sym same_stack ∙ own))
                by_own (Some c) own same = returned c own same (c.end + 1 == f.base) refl

                by_pair : (b : Bool) → ((k == f.call) && (i == f.site)) ≡ b → StepsAlike g h names cs q r
                by_pair true same = by_own (own_stack g.layout q.maps) refl same
                by_pair false differ =
                    both_fail (step_q ∙ return_fails g.layout i k r2 f fs q differ)
                    (step_r ∙ return_fails h.layout j m r2 e' es r (sym same_pair ∙ differ))

            by_frames : (fs es : List OpenFrame) → q.frames ≡ fs → r.frames ≡ es → Newest g h names cs fs es
                → StepsAlike g h names cs q r
            by_frames [] [] ef ee n =
                both_fail (back_q (RetCode i) (RetData k) q1 q2
                ∙ ap (λ x. return_by g.layout (RetCode i) (RetData k) r2 x q) ef)
                (back_r (RetCode j) (RetData m) v1 v2
                ∙ ap (λ x. return_by h.layout (RetCode j) (RetData m) r2 x r) ee)
            by_frames [] (x ∷ es) ef ee n = absurd n
            by_frames (f ∷ fs) [] ef ee n = absurd n
            by_frames (f ∷ fs) (x ∷ es) ef ee n =
                by_pair f x fs es ef ee n.0 n.1 n.2 ((k == f.call) && (i == f.site)) refl

          -- every other pair with a return word fails
          back : (w1 v1 w2 v2 : OWord) → reg q.maps.regs r1 ≡ w1 → reg r.maps.regs r1 ≡ v1
              → reg q.maps.regs r2 ≡ w2 → reg r.maps.regs r2 ≡ v2 → Rel w1 v1 → Rel w2 v2
              → StepsAlike g h names cs q r
          back _ _ _ _ q1 v1 q2 v2 (ret_codes i j s) (ret_datas k m c) =
              by_frames i j k m q1 v1 q2 v2 s c q.frames r.frames refl refl al.newest
          back _ _ w2 v2' q1 v1 q2 v2 (ours a o) _ = both_fail (back_q _ w2 q1 q2) (back_r _ v2' v1 v2)
          back _ _ w2 v2' q1 v1 q2 v2 (code_halves x y t) _ =
              both_fail (back_q _ w2 q1 q2) (back_r _ v2' v1 v2)
          back _ _ w2 v2' q1 v1 q2 v2 (data_halves x y t) _ =
              both_fail (back_q _ w2 q1 q2) (back_r _ v2' v1 v2)
          back _ _ w2 v2' q1 v1 q2 v2 (ret_datas k m c) _ = both_fail (back_q _ w2 q1 q2) (back_r _ v2' v1 v2)
          back _ _ _ _ q1 v1 q2 v2 (ret_codes i j s) (ours a o) =
              both_fail (back_q _ _ q1 q2) (back_r _ _ v1 v2)
          back _ _ _ _ q1 v1 q2 v2 (ret_codes i j s) (code_halves x y t) =
              both_fail (back_q _ _ q1 q2) (back_r _ _ v1 v2)
          back _ _ _ _ q1 v1 q2 v2 (ret_codes i j s) (data_halves x y t) =
              both_fail (back_q _ _ q1 q2) (back_r _ _ v1 v2)
          back _ _ _ _ q1 v1 q2 v2 (ret_codes i j s) (ret_codes k m c) =
              both_fail (back_q _ _ q1 q2) (back_r _ _ v1 v2)

        same_plain : (is_plain (reg r.maps.regs r1) && is_plain (reg r.maps.regs r2))
            ≡ (is_plain (reg q.maps.regs r1) && is_plain (reg q.maps.regs r2))
        same_plain =
            ap (λ b. b && is_plain (reg r.maps.regs r2)) (plain_is _ _ (al.seen.0 r1))
            ∙ ap (λ b. is_plain (reg q.maps.regs r1) && b) (plain_is _ _ (al.seen.0 r2))

        jumps : StepsAlike g h names cs q r
        jumps = elim (cases_Bool (is_plain (reg q.maps.regs r1) && is_plain (reg q.maps.regs r2)))
            as (λ _. StepsAlike g h names cs q r) [
              | inl t ↦ jump t (same_plain ∙ t) _ _ _ _ refl refl refl refl (al.seen.0 r1) (al.seen.0 r2)
              | inr n ↦ back n (same_plain ∙ n) _ _ _ _ refl refl refl refl (al.seen.0 r1) (al.seen.0 r2)
            ]

    by_fetch : (f : Fetched) → fetch (faces look q.maps Pc) (cell_faces look q.maps) ≡ f
        → fetch (faces look r.maps Pc) (cell_faces look r.maps) ≡ f → StepsAlike g h names cs q r
    by_fetch (none c) fq fr = nothing (none c) fq fr c refl
    by_fetch (some n next) fq fr = elim (is_xjmp n) as (λ _. StepsAlike g h names cs q r) [
      | inl x ↦ jumps (some n next) fq fr x.0 x.1 next (ap (λ i. some i next) x.2)
      | inr never ↦ straight (some n next) fq fr n next refl never
    ]

    pub step_alike : StepsAlike g h names cs q r
    step_alike = by_fetch _ refl fetch_same

pub outside_steps_alike : (g h : Link) (names : SameNames g h) → OutsideStepsAlike g h names
outside_steps_alike g h names cs q r lg lh one oq or al = step_alike g h names cs lg lh one q r oq or al
