-- The instance: its run loads the first word of its frame while the call line is open.
use Rattle.std.proofs.Common.{◌≡◌, ℕ, ◌+◌, [], ◌∷◌, refl, sym, ap, subst, arith}
use Rattle.cap_words.specs.declared.Word.{Word}
use Rattle.cap_words.specs.declared.Word.TheVariants.{Mem}
use Rattle.lcm_isa.specs.declared.Reg.TheVariants.{Rcode, Rdata}
use Rattle.lcm_machine.specs.Maps.{State}
use Rattle.lcm_machine.specs.Run.{Run, fresh}
use Rattle.lcm_machine.specs.Row.{went}
use Rattle.lcm_machine.specs.Touched.{Touches}
use Rattle.lcm_machine.proofs.Offers.{run_then}
use Rattle.call_sequence.specs.Sequences.{load_word}
use Rattle.linked_starts.proofs.Offers.{pair, start}
use Rattle.overlay_machine.specs.Agree.{AtReturn, ReadyFor}
use Rattle.overlay_machine.specs.Link.{Link}
use Rattle.overlay_machine.specs.Runs.{plain_run, RunsAgree}
use Rattle.overlay_machine.specs.Keeping.{link_of, HoldsFor}
use Rattle.overlay_machine.specs.Starting.{overlay_at}
use Rattle.overlay_machine.proofs.Offers.{is_linked, looks, matched, ready, returned}
use Rattle.run_lines.specs.Runs.{written}
use Rattle.headline.specs.Alike.{LinesAgree}
use Rattle.headline.specs.OpenCalls.{LineTold, UseThere}
use Rattle.headline.proofs.Agreeing.{HaltsAlone, gone, state_is}
use Rattle.headline.proofs.InstanceRun.{L, o0, o5, o6, frame, own_data, call_line, case5, returned5}
use Rattle.headline.proofs.InstanceRun.{weight5, told5, to_callee}
use Rattle.run_lines.proofs.Offers.{reached_by}
use Rattle.headline.proofs.alike.Calm.{id}
use Rattle.headline.proofs.privacy.UsesFirst.{uses_first}

abbrev pub told : LineTold
told = record { part = 116 ∷ []; site = 0; base = 90; last = 90; words = Mem (own_data 75) ∷ [] }

-- so many instructions lead to the load
abbrev pub to_load : ℕ
to_load = to_callee + (1 + load_word)

module _ (h : HoldsFor pair 4 (overlay_at start) start.state.maps) (alone : HaltsAlone)
    (runs : RunsAgree L o0 start.state.maps) (agree : LinesAgree L o0 start.state.maps) where
  abbrev g : Link
  g = link_of pair 4 (overlay_at start)

  -- the call line is written, and some more instructions lead to the load
  pub there : (v : State Word) × (plain_run to_load start.state.maps ≡ went v) × Touches id v 90
  there =
      let at = matched g h.linked o0 start.state.maps h.holds to_callee o5
      (reached_by L o0 to_callee (call_line ∷ []) o5 told5) in
      let rd : AtReturn L Rcode Rdata o5 =
      subst (λ c. ReadyFor L o5 c) case5 (ready g h.linked o5 at.0 at.2) in
      let x = returned L Rcode Rdata o5 o6 returned5 in
      let used = uses_first L Rcode Rdata o5 at.0 rd at.2.flat (looks g h.linked o5 at.0 at.2) o6 x in
      let same : frame ≡ x.frame = (let e : frame ∷ [] ≡ x.frame ∷ x.older = x.frames_are in cc) in (
        used.0,
        run_then id id to_callee (1 + load_word) start.state.maps at.0 _ at.1 used.1,
        subst (λ f. Touches id used.0 f.base)
            (sym same) used.2,
      )

  fresh_is : start.state ≡ fresh start.state.maps
  fresh_is = refl

  state_at : Run
  state_at = gone there.0 to_load

  lines_are : written start to_load ≡ call_line ∷ []
  lines_are = agree.between to_callee to_load (call_line ∷ []) o5 told5 (omega arith)
      (rw weight5 (omega arith))

  pub use_there : UseThere
  use_there =
      let here = state_is start fresh_is alone runs to_load there.0 there.1 in
      record {
        parts = pair;
        size = 4;
        start = start;
        linked = is_linked;
        n = to_load;
        address = 90;
        told = told;
        used = record {
          goes = ap (λ (r : Run). r.end) here;
          is_open = rw lines_are (0, omega arith, refl);
          low = omega arith;
          high = omega arith;
          touches = subst (λ (r : Run). Touches id r.maps 90) (sym here) there.2;
        };
      }
