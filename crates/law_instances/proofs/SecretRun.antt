-- The frame of the call is secret while the teller counts and enters the trusted part.
use Rattle.std.proofs.Common.{◌≡◌, inl, inr, ℕ, ◌+◌, ◌≤◌, ◌<◌, Bool, true, false, List, [], ◌∷◌, ◌++◌}
use Rattle.std.proofs.Common.{Some, None, pos, refl, sym, ap, ◌∙◌, subst, arith}
use Rattle.std.specs.List.{Contains}
use Rattle.std.proofs.lemmas.Bool.{cases_lt}
use Rattle.cap_words.specs.declared.Word.{Word}
use Rattle.cap_words.specs.declared.Word.TheVariants.{Int, Mem}
use Rattle.cap_words.specs.Faces.{may_write}
use Rattle.lcm_isa.specs.declared.Reg.TheVariants.{Pc}
use Rattle.lcm_machine.specs.Maps.{State}
use Rattle.lcm_machine.specs.Cells.{cell, set_cell}
use Rattle.lcm_machine.specs.Mapped.{mapped_or}
use Rattle.lcm_machine.specs.Run.{plain}
use Rattle.lcm_machine.specs.Runs.{code_cap}
use Rattle.lcm_machine.specs.Blind.{SameBut}
use Rattle.lcm_machine.proofs.Offers.{cell-set_other, cell-set_same}
use Rattle.call_sequence.specs.Sequences.{load_word, wipe_word}
use Rattle.overlay_machine.specs.declared.words.OWord.{OWord}
use Rattle.overlay_machine.specs.declared.words.OWord.TheVariants.{Plain, RetCode, RetData}
use Rattle.overlay_machine.specs.State.{OpenFrame, OState, word_of}
use Rattle.overlay_machine.specs.Flat.{flat, beside, IsFlat}
use Rattle.source_events.specs.declared.FeedBack.TheVariants as way
use Rattle.run_lines.specs.Lines.{Line}
use Rattle.run_lines.specs.Runs.{written}
use Rattle.run_lines.specs.Told.{Told}
use Rattle.run_lines.proofs.Offers.{reached_by}
use Rattle.headline.specs.Alike.{LinesAgree}
use Rattle.headline.specs.Headline.{Agrees}
use Rattle.headline.specs.OpenCalls.{LineTold, after, open_behind, IsOwnReturn}
use Rattle.headline.specs.Secrecy.{InRanges, StayOpen, FramesAreSecret, SecretThere, other_lines}
use Rattle.law_instances.specs.Secret.{SecretLineThere}
use Rattle.law_instances.proofs.Teller.{parts}
use Rattle.law_instances.proofs.Start.{start, is_linked_start}
use Rattle.law_instances.proofs.Counting.{main_data}
use Rattle.law_instances.proofs.CallRun.{L, o0, frame, runs_outside, call_line, enter_line, gone}
use Rattle.law_instances.proofs.CallRun.{told_called, counts, told_inside, stack, args}

abbrev line_told : LineTold
line_told = record { part = 116 ∷ []; site = 0; base = 90; last = 90; words = Mem (main_data 75) ∷ [] }

-- pc of trusted code may not write
not_trusted : (fs : List OpenFrame) (w : OWord) (first end at : ℕ) → runs_outside w ≡ true
    → flat L fs w ≡ Mem (code_cap first end at) → ⊥
unfolding flat
not_trusted fs (Plain (Mem c)) first end at e same =
    let bad : true ≡ false = sym e ∙ ap writes same in cc
  where
    writes : Word → Bool
    writes (Mem c) = may_write c.perm
    writes _ = false
not_trusted fs (Plain _) first end at e same = absurd cc
not_trusted fs (RetCode i) first end at e same = absurd cc
not_trusted fs (RetData i) first end at e same = absurd cc

tails : {A : Type 0} (x : A) (xs ys : List A) → x ∷ xs ≡ x ∷ ys → xs ≡ ys
tails x xs ys e = cc

module _ (agree : LinesAgree L o0 start.state.maps) (agrees : Agrees start)
    (secret : FramesAreSecret start) where
  -- at a matched point
  lines_at : {j : ℕ} {ls : List Line} {p : OState} → Told L o0 j ls p → written start j ≡ ls
  lines_at {j} {ls} {p} told = agree.matched j ls p told

  flat_at : {j : ℕ} {ls : List Line} {p : OState} → Told L o0 j ls p
      → ((plain j start.state).end ≡ None) × IsFlat L p (after start j)
  flat_at {j} {ls} {p} told = agrees.matched j p (reached_by L o0 j ls p told)

  opened : (k : ℕ) (c : LineTold) → k ≤ 8 → Contains (line_told ∷ []) c
      → Contains (open_behind [] (written start (39 + k))) c
  opened k c le is = elim (cases_lt k 8) as (λ _. Contains (open_behind [] (written start (39 + k))) c) [
    | inl lt ↦ rw (lines_at (counts.0 k (omega (arith, lt))).1) is
    | inr ge ↦
        (let e : 8 ≡ k = omega (arith, le, ge) in
        let last : Contains (open_behind [] (written start 47)) c = rw (lines_at told_inside.2) is in
        subst (λ x. Contains (open_behind [] (written start (39 + x))) c) e last)
  ]

  own_not : (k word : ℕ) (c : LineTold) → k < 8 → IsOwnReturn start (39 + k) c word → ⊥
  own_not k word c lt r =
      let p = counts.0 k (omega (arith, lt)) in
      not_trusted p.0.frames p.0.maps.regs.pc r.first r.end _ p.2 (sym ((flat_at p.1).1.regs Pc) ∙ r.at_pc)

  stays : StayOpen start 39 8 (line_told ∷ [])
  stays = record {
    opened = opened;
    unread = λ k c lt is own. elim own as (λ _. ⊥) [
      | inl r ↦ own_not k load_word c lt r
      | inr r ↦ own_not k wipe_word c lt r
    ];
  }

  first_word : cell (after start 39).cells 90 ≡ Some (Mem (main_data 75))
  unfolding flat beside word_of
  first_word =
      (flat_at told_called).1.cells 90
      ∙ ap (λ o. mapped_or (flat L (frame ∷ [])) o (beside L (frame ∷ []) 90)) gone

  abbrev other : State Word
  other = record (after start 39) { cells = set_cell (after start 39).cells 90 (Int (pos 7)) }

  same : SameBut (InRanges (line_told ∷ [])) (after start 39) other
  same = record {
    regs = refl;
    cells = λ a off. cell-set_other (after start 39).cells 90 a (Int (pos 7))
        (λ e. off (line_told, (0, omega arith, refl), omega (arith, e), omega (arith, e)));
    spans = refl;
  }

  secret_there : SecretThere
  secret_there = record {
    parts = parts;
    size = 4;
    start = start;
    linked = is_linked_start;
    n = 39;
    m = 8;
    told = line_told;
    stays = stays;
    more = omega arith;
    goes = (flat_at told_inside.2).0;
    other = other;
    same = same;
    differs = λ e.
        (let bad : Some (Int (pos 7)) ≡ Some (Mem (main_data 75)) =
        sym (cell-set_same (after start 39).cells 90 (Int (pos 7))) ∙ e ∙ first_word in cc);
  }

  wrote : written start 47 ≡ written start 39 ++ enter_line ∷ []
  wrote = lines_at told_inside.2 ∙ sym (ap (λ ls. ls ++ enter_line ∷ []) (lines_at told_called))

  wrote_too : (t : State Word) → SameBut (InRanges (line_told ∷ [])) (after start 39) t
      → other_lines start 39 t 8 ≡ enter_line ∷ []
  wrote_too t h =
      let r = secret 39 8 (line_told ∷ []) t stays h in
      let e : call_line ∷ enter_line ∷ [] ≡ call_line ∷ other_lines start 39 t 8 =
      sym (lines_at told_inside.2) ∙ r.lines
      ∙ ap (λ ls. ls ++ other_lines start 39 t 8) (lines_at told_called) in
      sym (tails _ _ _ e)

  pub secret_line : SecretLineThere
  unfolding secret_there
  secret_line = record {
    there = secret_there;
    part = 116 ∷ [];
    export = 109 ∷ 97 ∷ 105 ∷ 110 ∷ [];
    stk = Mem (stack 89);
    args = args;
    back = way.Pair (116 ∷ []) 0 90;
    line = wrote;
    line_too = wrote_too;
  }
