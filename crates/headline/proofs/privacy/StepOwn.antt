-- Of the plain instructions of one overlay step, whether it goes or ends, none touches an address of an open
-- frame but the two of the frame's own return.
use Rattle.std.proofs.Common.{◌+◌, ◌≡◌, inl, inr, ℕ, zero, suc, ◌<◌, ◌≤◌, None, Some, refl, sym, ap, ◌∙◌}
use Rattle.std.proofs.Common.{subst, arith}
use Rattle.std.specs.Prelude.{if◌then◌else◌}
use Rattle.std.proofs.lemmas.Bool.{cases_lt}
use Rattle.cap_words.specs.declared.Word.{Word}
use Rattle.cap_words.specs.declared.Word.TheVariants.{Mem}
use Rattle.lcm_isa.specs.declared.Reg.{Reg}
use Rattle.lcm_machine.specs.Maps.{State}
use Rattle.lcm_machine.specs.Cells.{cell}
use Rattle.lcm_machine.specs.Row.{went}
use Rattle.lcm_machine.specs.Runs.{run_of, code_cap}
use Rattle.lcm_machine.specs.Touched.{Touches, Untouched}
use Rattle.call_sequence.specs.declared.TheConstants.{CALL_WORDS, ENTRY_WORDS}
use Rattle.call_sequence.specs.SequenceRuns.{IsOutsideRange}
use Rattle.call_sequence.specs.Holds.{code_at}
use Rattle.trusted_border.specs.declared.layout.Layout.{Layout}
use Rattle.overlay_machine.specs.declared.cases.Case.{Case}
use Rattle.overlay_machine.specs.declared.cases.Case.TheVariants.{Call, Entry, Back, Other}
use Rattle.overlay_machine.specs.declared.words.OWord.{OWord}
use Rattle.overlay_machine.specs.declared.words.OWord.TheVariants.{Plain, RetCode, RetData}
use Rattle.overlay_machine.specs.Words.{is_ret_code}
use Rattle.overlay_machine.specs.State.{OState, framed}
use Rattle.overlay_machine.specs.Step.{case_of, weight_by, weight_of}
use Rattle.overlay_machine.specs.Flat.{IsFlat}
use Rattle.overlay_machine.specs.Agree.{Looks, ReadyFor, AtSite, AtEntry, AtReturn}
use Rattle.overlay_machine.specs.Link.{Link, ranges_of}
use Rattle.overlay_machine.specs.Linked.{IsLink}
use Rattle.overlay_machine.specs.Invariant.{Invariant}
use Rattle.overlay_machine.proofs.Offers.{View, at_entry, in_part, out, view, looks, ready, never_entry}
use Rattle.overlay_machine.proofs.Offers.{stack_apart, where_is, other_quiet, back_first}
use Rattle.headline.proofs.alike.Calm.{id}
use Rattle.headline.proofs.privacy.TouchAt.{untouched_at}
use Rattle.headline.proofs.privacy.StepSpares.{call_step, entry_step}
use Rattle.headline.proofs.privacy.CallTail.{tail_spares}
use Rattle.headline.proofs.privacy.ReturnTail.{OwnTouch, tail_own}

module _ (g : Link) (linked : IsLink g) (o : OState) (t : State Word) (inv : Invariant g o t) (a : ℕ)
    (w : OWord) (fa : framed o.frames a ≡ Some w) where
  abbrev l : Layout
  l = g.layout

  m : IsFlat l o t
  m = inv.flat

  k : Looks l o
  k = looks g linked o t inv

  abbrev here : (l.stack.base ≤ a) × (a ≤ l.stack.end) × (cell o.maps.cells a ≡ None)
  here = where_is g linked o t inv a w fa

  -- an instruction after so many others of the step
  module _ (i : ℕ) (v : State Word) (ran : run_of id id i t ≡ went v) (x : Touches id v a) where
    abbrev Own : Type 0
    Own = (word : ℕ) × (i ≡ suc word) × OwnTouch l o t v a word

    spared : (n : ℕ) → Untouched id id a n t → i < n → Own
    spared n h lt = absurd (untouched_at a n i t v h ran lt x)

    call_own : (s : ℕ) → AtSite l s o → i < weight_by o.maps (Call s) → Own
    call_own s r lt = by_word o.maps.regs.c1 refl
      where
        words : Untouched id id a CALL_WORDS t
        words = call_step l o t m k a here.0 here.1 here.2 s r

        by_word : (y : OWord) → o.maps.regs.c1 ≡ y → Own
        by_word (Plain z) e =
            (let n : weight_by o.maps (Call s) ≡ CALL_WORDS =
            ap (λ y. if is_ret_code y then CALL_WORDS + 1 else CALL_WORDS) e in spared CALL_WORDS words
            (omega (arith, lt, n)))
        by_word (RetData z) e =
            (let n : weight_by o.maps (Call s) ≡ CALL_WORDS =
            ap (λ y. if is_ret_code y then CALL_WORDS + 1 else CALL_WORDS) e in spared CALL_WORDS words
            (omega (arith, lt, n)))
        by_word (RetCode j) e = elim (cases_lt i CALL_WORDS) as (λ _. Own) [
          | inl few ↦ spared CALL_WORDS words few
          | inr ge ↦ (let n : weight_by o.maps (Call s)
              ≡ (CALL_WORDS + 1) = ap (λ y. if is_ret_code y then CALL_WORDS + 1 else CALL_WORDS) e in
              let last : i ≡ CALL_WORDS = omega (arith, lt, n, ge) in
              absurd (tail_spares l s o t r m k a here.0 here.1 j e v
              (subst (λ y. run_of id id y t ≡ went v) last ran) x))
        ]

    entry_own : (at : ℕ) → View g o.frames o.maps (Entry at) → AtEntry l at o → i < ENTRY_WORDS → Own
    entry_own at (at_entry p off ip ea en st) r lt =
        let s : Mem (code_cap r.base r.end at) ≡ Mem (code_at (ranges_of p) off) = sym r.pc ∙ st.at_pc in
        let c : code_cap r.base r.end at ≡ code_at (ranges_of p) off = cc in
        let b1 = ap (λ y. y.base) c in
        let b2 = ap (λ y. y.end) c in
        let away : IsOutsideRange a r.base r.end =
        elim (stack_apart g linked p ip a here.0 here.1) as (λ _. IsOutsideRange a r.base r.end)
        [ inl y ↦ inl (omega (arith, y, b1)) | inr y ↦ inr (omega (arith, y, b2)) ] in
        spared ENTRY_WORDS (entry_step l o t m k a here.0 here.1 here.2 at r away) lt
    entry_own at (in_part p off ip ne ns at_row ec) r lt = absurd (never_entry o.maps _ at ec)
    entry_own at (out h ec) r lt = absurd (never_entry o.maps _ at ec)

  back_own : (r1 r2 : Reg) → AtReturn l r1 r2 o → (i : ℕ) (v : State Word) (ran : run_of id id i t ≡ went v)
      (x : Touches id v a) → i < weight_by o.maps (Back r1 r2) → Own i v ran x
  back_own r1 r2 rd zero v ran x lt =
      spared zero v ran x 1 (back_first l o t m k a here.0 here.1 w fa here.2 r1 r2 rd) (omega arith)
  back_own r1 r2 rd (suc word) v ran x lt =
      (word, refl, tail_own l r1 r2 o t rd m k a here.0 here.1 v x word ran lt)

  own_by : (c : Case) → View g o.frames o.maps c → ReadyFor l o c → (i : ℕ) (v : State Word)
      (ran : run_of id id i t ≡ went v) (x : Touches id v a) → i < weight_by o.maps c → Own i v ran x
  own_by (Call s) y r i v ran x lt = call_own i v ran x s r lt
  own_by (Entry at) y r i v ran x lt = entry_own i v ran x at y r lt
  own_by (Back r1 r2) y r i v ran x lt = back_own r1 r2 r i v ran x lt
  own_by Other y r i v ran x lt = spared i v ran x 1 (other_quiet l o t m k a here.0 here.1 w fa here.2 r) lt

  pub step_own : (i : ℕ) (v : State Word) → run_of id id i t ≡ went v → Touches id v a → i < weight_of l o
      → (word : ℕ) × (i ≡ suc word) × OwnTouch l o t v a word
  unfolding weight_of
  step_own i v ran x lt = own_by (case_of l o.maps) (view g linked o.frames o.maps inv.code inv.pc)
      (ready g linked o t inv) i v ran x lt
