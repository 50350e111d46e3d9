-- Runs of the plain machine without an `xjmp`; and what a run shows that is blind to some cells.
use Rattle.std.proofs.Common.{◌≡◌, ℕ, zero, suc, Bool, true, false, Some, None, refl, sym, ap, ◌∙◌, subst}
use Rattle.std.proofs.Common.{arith}
use Rattle.cap_words.specs.declared.Word.{Word}
use Rattle.lcm_isa.specs.declared.Instr.{Instr}
use Rattle.lcm_isa.specs.declared.Reg.TheVariants.{Pc}
use Rattle.lcm_machine.specs.Maps.{State}
use Rattle.lcm_machine.specs.Cells.{cell}
use Rattle.lcm_machine.specs.Row.{Outcome, went, halted, failed, faces, cell_faces, fetch, some, row, step_of}
use Rattle.lcm_machine.specs.Row.{jump_of, jump_in}
use Rattle.lcm_machine.specs.Runs.{run_of}
use Rattle.lcm_machine.specs.Acts.{JumpsUnder}
use Rattle.lcm_machine.specs.Blind.{SameBut, Keeps, EndsAlike}
use Rattle.authority_report.specs.Within.{Authority}
use Rattle.authority_report.specs.Bounds.{plain_run, StaysIn}
use Rattle.authority_report.specs.Influence.{Unread}
use Rattle.headline.proofs.Offers.{id}

-- so many instructions go, none of which is an `xjmp`
pub data Straight : ℕ → State Word → State Word → Type 0 where
  here : {s : State Word} → Straight 0 s s
  on : {n : ℕ} {s t u : State Word} (i : Instr) (next : Word)
      → fetch (faces id s Pc) (cell_faces id s) ≡ some i next → jump_of i ≡ None
      → row id id i next s ≡ went t → Straight n t u → Straight (suc n) s u

pub one_on : (n : ℕ) (s t : State Word) (i : Instr) (next : Word)
    → fetch (faces id s Pc) (cell_faces id s) ≡ some i next → row id id i next s ≡ went t
    → run_of id id (suc n) s ≡ run_of id id n t
unfolding run_of step_of
one_on n s t i next f r = rw (f, r) refl

pub straight_runs : {n : ℕ} {s u : State Word} → Straight n s u → plain_run n s ≡ went u
unfolding run_of
straight_runs here = refl
straight_runs (on {n = n} {s = s} {t = t} i next f x r more) =
    one_on n s t i next f r ∙ straight_runs more

no_jump : (s : State Word) (i : Instr) (next : Word) (seal : ℕ)
    → fetch (faces id s Pc) (cell_faces id s) ≡ some i next → jump_of i ≡ None → JumpsUnder id id s seal → ⊥
no_jump s i next seal f x (r1, r2, is, code, opened, at, t, e) =
    let bad : None ≡ Some r1 = sym x ∙ ap jump_in (sym f ∙ is.1) in cc

pub straight_stays : (own : ℕ → Bool) {n : ℕ} {s u : State Word} → Straight n s u → StaysIn own n s
unfolding run_of
straight_stays own here k v seal lt e j = absurd (omega (arith, lt))
straight_stays own (on {s = s} i next f x r more) zero v seal lt e j =
    let same : s ≡ v = cc in
    absurd (no_jump s i next seal f x (subst (λ y. JumpsUnder id id y seal) (sym same) j))
straight_stays own (on {s = s} {t = t} i next f x r more) (suc k) v seal lt e j =
    straight_stays own more k v seal (omega (arith, lt)) (sym (one_on k s t i next f r) ∙ e) j

-- ---- cells that aren't read, some of them: other words in these, and the same run

module _ (g : Authority) (apart : ℕ → Type 0) (unread : (a : ℕ) → apart a → Unread g a) where
  pub fewer : (s t : State Word) → SameBut apart s t → SameBut (Unread g) s t
  fewer s t is = record {
    regs = is.regs;
    cells = λ a seen. is.cells a (λ h. seen (unread a h));
    spans = is.spans;
  }

  pub narrowed : (s t u : State Word) (r : Outcome Word) → SameBut apart s t
      → EndsAlike (Unread g) s t (went u) r
      → (v : State Word) × (r ≡ went v) × SameBut apart u v × Keeps apart t v
  narrowed s t u (went v) is (same, kept, kept_too) = (
    v,
    refl,
    record {
      regs = same.regs;
      cells = λ a other. by (g.read a) a refl other;
      spans = same.spans;
    },
    λ a h. kept_too a (unread a h),
  )
    where
      by : (b : Bool) (a : ℕ) → g.read a ≡ b → (apart a → ⊥) → cell v.cells a ≡ cell u.cells a
      by true a e other = same.cells a (λ f. let bad : true ≡ false = sym e ∙ f in cc)
      by false a e other = kept_too a e ∙ is.cells a other ∙ sym (kept a e)
  narrowed s t u halted is e = absurd e
  narrowed s t u (failed c at) is e = absurd e
