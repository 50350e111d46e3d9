-- The instance: its call stays open from after its `xjmp` to the load of its return.
use Rattle.call_sequence.specs.declared.TheConstants.{CALL_WORDS}
use Rattle.call_sequence.specs.Sequences.{load_word, wipe_word}
use Rattle.std.proofs.Common.{◌≡◌, inl, inr, ℕ, zero, suc, ◌+◌, ◌-◌, ◌<◌, ◌≤◌, [], ◌∷◌, Some, None}
use Rattle.std.proofs.Common.{pos, refl, sym, ap, ◌∙◌, subst, arith}
use Rattle.std.specs.Prelude.{Option}
use Rattle.std.specs.List.{Contains}
use Rattle.cap_words.specs.declared.Word.{Word}
use Rattle.cap_words.specs.declared.Word.TheVariants.{Int, Mem}
use Rattle.lcm_isa.specs.declared.Reg.{Reg}
use Rattle.lcm_machine.specs.Maps.{State}
use Rattle.lcm_machine.specs.Cells.{cell, set_cell}
use Rattle.lcm_machine.specs.Mapped.{mapped_or}
use Rattle.lcm_machine.specs.Run.{Run, plain, fresh}
use Rattle.lcm_machine.specs.Row.{Outcome, went, halted, failed, step_of, jump_at, jump_in}
use Rattle.lcm_machine.specs.Runs.{and_then, run_of}
use Rattle.lcm_machine.proofs.Offers.{run_of-add, run_then, cell-set_same, cell-set_other, cell-without_in}
use Rattle.linked_starts.proofs.Offers.{pair, start}
use Rattle.trusted_border.specs.declared.layout.Layout.{Layout}
use Rattle.overlay_machine.specs.Flat.{flat, beside}
use Rattle.overlay_machine.specs.State.{word_of}
use Rattle.overlay_machine.specs.Agree.{AtSite, ReadyFor}
use Rattle.overlay_machine.specs.Link.{Link}
use Rattle.overlay_machine.specs.Runs.{plain_run, RunsAgree}
use Rattle.overlay_machine.specs.Keeping.{link_of, HoldsFor}
use Rattle.overlay_machine.specs.Starting.{overlay_at}
use Rattle.overlay_machine.proofs.Offers.{is_linked, looks, matched, ready}
use Rattle.run_lines.specs.Runs.{written}
use Rattle.headline.specs.Alike.{LinesAgree}
use Rattle.headline.specs.OpenCalls.{LineTold, after, IsOwnReturn}
use Rattle.headline.proofs.Agreeing.{HaltsAlone, state_is}
use Rattle.headline.proofs.InstanceRun.{L, M, o0, o4, o5, own_data, call_line, case4, weight5, told4, told5}
use Rattle.headline.proofs.InstanceRun.{to_call, to_callee}
use Rattle.run_lines.proofs.Offers.{reached_by}
use Rattle.headline.proofs.alike.Calm.{id, IsQuiet, Calm}
use Rattle.headline.proofs.alike.Alike.{site_free}
use Rattle.headline.proofs.alike.CallLine.{whole_calm}
use Rattle.headline.proofs.privacy.UseInstance.{there, told, to_load}
use Rattle.headline.specs.Secrecy.{SecretThere}
use Rattle.headline.proofs.privacy.TouchAt.{first_step, run_none}

-- ---- runs that go

-- a front of a run that goes, and the rest of it
front : (i n : ℕ) (s u : State Word) → i ≤ n → run_of id id n s ≡ went u
    → (v : State Word) × (run_of id id i s ≡ went v) × (run_of id id (n - i) v ≡ went u)
front i n s u le e =
    let z : n ≡ i + (n - i) = omega (arith, le) in
    by_outcome (run_of id id i s) refl
    (sym (run_of-add id id i (n - i) s) ∙ subst (λ k. run_of id id k s ≡ went u) z e)
  where
    by_outcome : (r : Outcome Word) → run_of id id i s ≡ r → and_then r (run_of id id (n - i)) ≡ went u
        → (v : State Word) × (run_of id id i s ≡ went v) × (run_of id id (n - i) v ≡ went u)
    by_outcome (went v) m k = (v, m, k)
    by_outcome halted m k = cc
    by_outcome (failed c at) m k = cc

-- each of n calm instructions that go is quiet
calm_at : (l : Layout) (i n : ℕ) (s v u : State Word) → Calm l n s → i < n → run_of id id i s ≡ went v
    → step_of id id v ≡ went u → IsQuiet l v
calm_at l i zero s v u h lt e f = absurd (omega (arith, lt))
calm_at l zero (suc n) s v u h lt e f =
    let same : s ≡ v = run_none s v e in
    subst (λ x. IsQuiet l x) same (h u (subst (λ x. step_of id id x ≡ went u) (sym same) f)).0
calm_at l (suc i) (suc n) s v u h lt e f =
    let k = first_step i s v e in calm_at l i n k.0 v u (h k.0 k.1).1 (omega (arith, lt)) k.2 f

jumps_not : (o : Option Reg) (r : Reg) → o ≡ None → o ≡ Some r → ⊥
jumps_not o r e h = let bad : None ≡ Some r = sym e ∙ h in cc

only_told : (c d : LineTold) → Contains (c ∷ []) d → c ≡ d
only_told c d (zero, lt, e) = e
only_told c d (suc k, lt, e) = absurd (omega (arith, lt))

-- ---- the instance

module _ (h : HoldsFor pair 4 (overlay_at start) start.state.maps) (alone : HaltsAlone)
    (runs : RunsAgree L o0 start.state.maps) (agree : LinesAgree L o0 start.state.maps) where
  abbrev g : Link
  g = link_of pair 4 (overlay_at start)

  fresh_is : start.state ≡ fresh start.state.maps
  fresh_is = refl

  after_is : (n : ℕ) (v : State Word) → plain_run n start.state.maps ≡ went v → after start n ≡ v
  after_is n v e = ap (λ (r : Run). r.maps) (state_is start fresh_is alone runs n v e)

  -- at the call, and after its `xjmp`
  before_call : (u : State Word) × (plain_run to_call start.state.maps ≡ went u) × Calm L (CALL_WORDS - 1) u
  before_call =
      let at = matched g h.linked o0 start.state.maps h.holds to_call o4
      (reached_by L o0 to_call [] o4 told4) in
      let k = looks g h.linked o4 at.0 at.2 in
      let a : AtSite L 0 o4 = subst (λ c. ReadyFor L o4 c) case4 (ready g h.linked o4 at.0 at.2) in (
        at.0,
        at.1,
        whole_calm g h.linked 0 o4 at.0 a at.2.flat k
            (λ q lo hi. site_free g h.linked 0 a.site a.is_site q lo (omega (arith, hi))),
      )

  -- the instructions of the call before its `xjmp` are no `xjmp`
  no_jump_in : (b : ℕ) → to_call ≤ b → b < to_callee - 1 → jump_at id (after start b) ≡ None
  no_jump_in b low high =
      let c = before_call in
      let whole = there h alone runs agree in
      let behind = front to_call to_load start.state.maps whole.0 (omega arith) whole.1 in
      let same : c.0 ≡ behind.0 = (let e : went c.0 ≡ went behind.0 = sym c.1 ∙ behind.1 in cc) in
      let calm : Calm L (CALL_WORDS - 1) behind.0 = subst (λ x. Calm L (CALL_WORDS - 1) x) same c.2 in
      let upto = front (CALL_WORDS - 1) (to_load - to_call) behind.0 whole.0 (omega arith) behind.2 in
      let mid = front (b - to_call) (CALL_WORDS - 1) behind.0 upto.0 (omega (arith, low, high)) upto.1 in
      let z : to_call + (b - to_call) ≡ b = omega (arith, low) in
      let here : plain_run b start.state.maps ≡ went mid.0 =
      subst (λ n. run_of id id n start.state.maps ≡ went mid.0) z
      (run_then id id to_call (b - to_call) start.state.maps behind.0 _ behind.1 mid.1) in
      let left : (CALL_WORDS - 1) - (b - to_call) ≡ suc (to_callee - 2 - b) = omega (arith, low, high) in
      let next = first_step (to_callee - 2 - b) mid.0 upto.0
      (subst (λ n. run_of id id n mid.0 ≡ went upto.0) left mid.2)
      in
      rw (after_is b mid.0 here)
      (calm_at L (b - to_call) (CALL_WORDS - 1) behind.0 mid.0 next.0 calm (omega (arith, low, high))
      mid.1 next.1).0

  not_own : (k word : ℕ) (c : LineTold) → k < load_word → load_word ≤ word → word ≤ wipe_word
      → ¬ (IsOwnReturn start (to_callee + k) c word)
  unfolding jump_at
  not_own k word c lt low high r =
      let so = r.so_many in
      jumps_not _ r.r1 (no_jump_in r.before (omega (arith, so, lt, low, high)) (omega (arith, so, lt, low)))
      (ap jump_in r.jumps)

  abbrev O : State Word
  O = record (after start to_callee) { cells = set_cell (after start to_callee).cells 90 (Int (pos 7)) }

  lines_are : (k : ℕ) → k ≤ load_word → written start (to_callee + k) ≡ call_line ∷ []
  lines_are k le =
      agree.between to_callee (to_callee + k) (call_line ∷ []) o5 told5 (omega arith)
      (rw weight5 (omega (arith, le)))

  goes_on : (plain (to_callee + load_word) start.state).end ≡ None
  goes_on =
      let whole = there h alone runs agree in
      let k = front (to_callee + load_word) to_load start.state.maps whole.0 (omega arith) whole.1 in
      ap (λ (r : Run). r.end) (state_is start fresh_is alone runs (to_callee + load_word) k.0 k.1)

  first_word : cell (after start to_callee).cells 90 ≡ Some (Mem (own_data 75))
  unfolding flat beside word_of
  first_word =
      let at = matched g h.linked o0 start.state.maps h.holds to_callee o5
      (reached_by L o0 to_callee (call_line ∷ []) o5 told5) in
      ap (λ (x : State Word). cell x.cells 90) (after_is to_callee at.0 at.1) ∙ at.2.flat.cells 90
      ∙ ap (λ o. mapped_or (flat L o5.frames) o (beside L o5.frames 90))
      (cell-without_in M 90 90 90 (omega arith) (omega arith))

  pub secret_there : SecretThere
  secret_there = record {
    parts = pair;
    size = 4;
    start = start;
    linked = is_linked;
    n = to_callee;
    m = load_word;
    told = told;
    stays = record {
      opened = λ k c le is. rw (lines_are k le) (subst (λ x. Contains (told ∷ []) x) (only_told told c is)
          (0, omega arith, refl));
      unread = λ k c lt is own. elim own as (λ _. ⊥) [
        | inl r ↦ not_own k load_word c lt (omega arith) (omega arith) r
        | inr r ↦ not_own k wipe_word c lt (omega arith) (omega arith) r
      ];
    };
    more = omega arith;
    goes = goes_on;
    other = O;
    same = record {
      regs = refl;
      cells = λ a off. cell-set_other (after start to_callee).cells 90 a (Int (pos 7))
          (λ e. off (told, (0, omega arith, refl), omega (arith, e), omega (arith, e)));
      spans = refl;
    };
    differs = λ e.
        (let bad : Some (Int (pos 7)) ≡ Some (Mem (own_data 75)) =
        sym (cell-set_same (after start to_callee).cells 90 (Int (pos 7))) ∙ e ∙ first_word in cc);
  }
