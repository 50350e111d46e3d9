-- In a gap no site ends, so an instruction there that is no `xjmp` has no line.
use Rattle.std.proofs.Common.{◌≡◌, ℕ, ◌+◌, ◌-◌, ◌<◌, ◌≤◌, ℤ, pos, negsuc, Bool, true, false, [], Option, Some}
use Rattle.std.proofs.Common.{None, List, length, get_or, refl, sym, ap, subst, ◌∙◌, arith}
use Rattle.std.specs.Prelude.{◌==◌, nat_le, nat_lt, if◌then◌else◌, is_some, option_and_then, position}
use Rattle.std.specs.List.{position_or_len}
use Rattle.std.proofs.lemmas.Bool.{leb-true, ltb-true, ne_eqb, false_from_ne_true}
use Rattle.std.proofs.lemmas.List.Sums.{position_or_len_is}
use Rattle.cap_words.specs.declared.Face.{Face}
use Rattle.cap_words.specs.declared.Word.{Word}
use Rattle.cap_words.specs.declared.Face.TheVariants.{Number, Memory, Seals, Sealed}
use Rattle.cap_words.specs.Faces.{covers, address}
use Rattle.lcm_isa.specs.declared.Reg.TheVariants.{Pc}
use Rattle.lcm_machine.specs.declared.Step.{Step}
use Rattle.lcm_machine.specs.declared.Step.TheVariants.{Went, Halted, Failed}
use Rattle.lcm_machine.specs.declared.End.{End}
use Rattle.lcm_machine.specs.Maps.{State}
use Rattle.lcm_machine.specs.Row.{faces, pc_of, pc_at}
use Rattle.lcm_machine.specs.Run.{Run, next_state, answer, jump_by, next_jump}
use Rattle.call_sequence.specs.declared.TheConstants.{SITE_WORDS}
use Rattle.linked_starts.specs.declared.owners.Site.{Site}
use Rattle.linked_starts.specs.Started.{StartSeen}
use Rattle.trusted_border.specs.declared.layout.Layout.{Layout}
use Rattle.trusted_border.specs.Layout.{numbered, trusted_owner}
use Rattle.trace_tool.specs.declared.gap.Gap.{Gap}
use Rattle.run_lines.specs.Layout.{layout, no_site, site_before, site_word}
use Rattle.trace_tool.specs.Gaps.{has, IsGap}
use Rattle.run_lines.specs.Events.{inward_after}
use Rattle.run_lines.specs.Runs.{Watched, watching, if_went, watched_next, line_next}
use Rattle.headline.proofs.Offers.{id, at_state, IsQuiet, noted_quiet, quiet_line, over, over_next}
use Rattle.headline.proofs.Offers.{over_line}

-- ---- no site ends there

none_placed : (sites : List Site) (o : ℕ) → ((k : ℕ) → k < length sites → (get_or sites k no_site).at ≡ o → ⊥)
    → position (λ (s : Site). s.at == o) sites ≡ None
none_placed sites o other =
    let last : position_or_len (λ (s : Site). s.at == o) sites ≡ length sites =
    position_or_len_is _ sites (length sites) no_site (omega arith)
    (λ k lt. ne_eqb (get_or sites k no_site).at o (other k lt)) (λ lt. absurd (omega (arith, lt))) in
    let past : nat_lt (length sites) (length sites) ≡ false =
    false_from_ne_true _ (λ e. let lt = ltb-true (length sites) (length sites) e in omega (arith, lt)) in
    rw (last, past) refl

module _ (l : Layout) (g : Gap) (free : IsGap l.sites g) where
  none_ends : (a : ℕ) → has g (pos a) ≡ true → site_before l (SITE_WORDS - 1) a ≡ None
  none_ends a h = by_place (nat_le (SITE_WORDS - 1) a) refl
    where
      by_place : (b : Bool) → nat_le (SITE_WORDS - 1) a ≡ b
          → (if b
          then option_and_then numbered (position (λ (s : Site). s.at == a - (SITE_WORDS - 1)) l.sites)
          else None)
          ≡ None
      by_place false e = refl
      by_place true e =
          ap (option_and_then numbered) (none_placed l.sites (a - (SITE_WORDS - 1)) (λ i lt same.
          let ends : has g (pos ((get_or l.sites i no_site).at + (SITE_WORDS - 1))) ≡ false =
          free i no_site lt in
          let le : (SITE_WORDS - 1) ≤ a = leb-true (SITE_WORDS - 1) a e in
          let at : (get_or l.sites i no_site).at + (SITE_WORDS - 1) ≡ a = omega (arith, same, le) in
          let other : has g (pos a) ≡ false = ap (λ n. has g (pos n)) (sym at) ∙ ends in
          cc))

  by_face : (f : Face) (z : ℤ) → pc_of f ≡ z → has g z ≡ true → site_word l (SITE_WORDS - 1) f ≡ None
  unfolding site_word
  by_face (Number n) z e h = refl
  by_face (Seals s) z e h = refl
  by_face (Sealed s) z e h = refl
  by_face (Memory c) (negsuc n) e h = cc
  by_face (Memory c) (pos a) e h = by_tests (is_some (trusted_owner l (Memory c))) (covers c c.addr)
    where
      by_tests : (t b : Bool) → option_and_then (site_before l (SITE_WORDS - 1))
          (if t then (if b then Some (address c.addr) else None) else None) ≡ None
      by_tests false b = refl
      by_tests true false = refl
      by_tests true true = ap (λ z. site_before l (SITE_WORDS - 1) (address z)) e ∙ none_ends a h

-- ---- so there is no line

inward_same : (a : Step) (inward : Bool) → if_went a inward inward ≡ inward
inward_same Went inward = refl
inward_same Halted inward = refl
inward_same (Failed c at) inward = refl

abbrev pub HasNone : Layout → Watched → Type 0
HasNone l w = (line_next l w ≡ []) × ((watched_next l w).inward ≡ w.inward)

quiet_none : (l : Layout) (s : State Word) (n : ℕ) (inward : Bool) → IsQuiet l s
    → HasNone l (at_state s n inward)
quiet_none l s n inward q =
    let r : Step = answer (next_state (at_state s n inward).run) in (
      quiet_line l s n inward q,
      ap (λ k. if_went r (inward_after k inward) inward) (noted_quiet l s q)
          ∙ inward_same r inward,
    )

over_none : (l : Layout) (s : State Word) (n : ℕ) (e : End) (inward : Bool) → HasNone l (over s n e inward)
over_none l s n e inward =
    (over_line l s n e inward, ap (λ (w : Watched). w.inward) (over_next l s n e inward))

pub none_in_gap : (start : StartSeen) (g : Gap) (inward : Bool) → IsGap start.sites g
    → has g (pc_at id start.state.maps) ≡ true → next_jump start.state ≡ None
    → HasNone (layout start) (watching start inward)
unfolding next_jump pc_at
none_in_gap start g inward free h j = by_end start.state.end refl j
  where
    by_end : (o : Option End) → start.state.end ≡ o → jump_by o start.state ≡ None
        → HasNone (layout start) (watching start inward)
    by_end None e k =
        let same : watching start inward ≡ at_state start.state.maps start.state.count inward =
        ap (λ o. let r : Run = record { maps = start.state.maps; count = start.state.count; end = o } in
        let w : Watched = record { run = r; inward = inward } in w) e in
        subst (HasNone (layout start)) (sym same)
        (quiet_none (layout start)
        start.state.maps start.state.count inward (
          k,
          by_face (layout start) g free (faces id start.state.maps Pc)
              (pc_of (faces id start.state.maps Pc)) refl h,
        ))
    by_end (Some x) e k =
        let same : watching start inward ≡ over start.state.maps start.state.count x inward =
        ap (λ o. let r : Run = record { maps = start.state.maps; count = start.state.count; end = o } in
        let w : Watched = record { run = r; inward = inward } in w) e in
        subst (HasNone (layout start)) (sym same)
        (over_none (layout start) start.state.maps start.state.count x inward)
