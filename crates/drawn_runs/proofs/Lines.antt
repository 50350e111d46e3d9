-- The events of a run's text are those of its lines, and of the end line.
use Rattle.std.proofs.Common.{◌≡◌, ℕ, zero, suc, ◌<◌, ◌≤◌, List, [], ◌∷◌, ◌++◌, length, Some, refl, sym, ap}
use Rattle.std.proofs.Common.{◌∙◌, subst, arith, inl, inr, append-nil, append_assoc, map, length-append}
use Rattle.std.specs.List.{AllZip}
use Rattle.std.proofs.lemmas.Bool.{cases_lt}
use Rattle.std.proofs.lemmas.List.{map-append}
use Rattle.lcm_machine.specs.Run.{Run, plain}
use Rattle.trusted_border.specs.declared.layout.Layout.{Layout}
use Rattle.run_lines.specs.Lines.{Line, call, ret, enter, pass, leave}
use Rattle.run_lines.specs.Texts.{lines_text}
use Rattle.run_lines.specs.EndLines.{end_line}
use Rattle.run_lines.specs.Fits.{LineFits, LinesFit}
use Rattle.run_lines.specs.Runs.{Watched, watched, begun, line_next, lines_of, run_text}
use Rattle.line_fields.specs.Fields.{lines}
use Rattle.audited_runs.proofs.Offers.{body, line_text_is, IsPassedOver, end_is, end_line_is, lines_are}
use Rattle.run_audit.specs.Lines.{line_in}
use Rattle.run_picture.specs.Events.{EventSeen, event_of, events_in, events}
use Rattle.run_picture.proofs.Offers.{IsSame, line_is}
use Rattle.audited_runs.specs.Audited.{line_seen}
use Rattle.audited_runs.specs.Spelling.{LineIsSpelled, LinesAreRead, FittingHaveTexts}

-- ---- lines of a text

abbrev line_event : Line → EventSeen
line_event l = event_of (body l)

bodies_are : (ls : List Line) (t : List ℕ) (e : IsPassedOver t) → LinesFit ls
    → lines (lines_text ls ++ t) ≡ map body ls ++ e.0 ∷ [] ∷ []
bodies_are [] t e fit = end_line_is t e
bodies_are (l ∷ ls) t e fit = lines_are l ls t fit.0 ∙ ap (λ ts. body l ∷ ts) (bodies_are ls t e fit.1)

events_are : (ls : List Line) (b : List ℕ)
    → events_in (map body ls ++ b ∷ [] ∷ []) ≡ map line_event ls ++ event_of b ∷ []
events_are [] b = refl
events_are (l ∷ []) b = refl
events_are (l ∷ k ∷ ls) b = ap (λ es. line_event l ∷ es) (events_are (k ∷ ls) b)

text_events : (ls : List Line) (t : List ℕ) (e : IsPassedOver t) → LinesFit ls
    → events (lines_text ls ++ t) ≡ map line_event ls ++ event_of e.0 ∷ []
text_events ls t e fit = ap events_in (bodies_are ls t e fit) ∙ events_are ls e.0

-- ---- what they change

abbrev pub Tells : List Line → List EventSeen → Type 0
Tells ls es = AllZip (λ (l : Line) (e : EventSeen). IsSame (line_seen l) e.turn) ls es

pub as_many : (ls : List Line) (es : List EventSeen) → Tells ls es → length ls ≡ length es
as_many [] [] h = refl
as_many [] (e ∷ es) h = absurd h
as_many (l ∷ ls) [] h = absurd h
as_many (l ∷ ls) (e ∷ es) h = ap suc (as_many ls es h.1)

module _ (read : LinesAreRead) (fitting : FittingHaveTexts) where
  spelled : (l : Line) → LineFits l → LineIsSpelled (body l) (line_seen l)
  spelled l h = record { line = l; has_text = fitting l h; is = line_text_is l; seen = refl }

  line_read : (l : Line) → LineFits l → line_in (body l) ≡ Some (line_seen l)
  line_read (call inward part site base last args words) h =
      let l = call inward part site base last args words in (read (body l) (line_seen l)).1 (spelled l h)
  line_read (ret inward part site base last a0 words) h =
      let l = ret inward part site base last a0 words in (read (body l) (line_seen l)).1 (spelled l h)
  line_read (enter part export stk args back) h =
      let l = enter part export stk args back in (read (body l) (line_seen l)).1 (spelled l h)
  line_read (pass p0 p1 p2) h =
      let l = pass p0 p1 p2 in (read (body l) (line_seen l)).1 (spelled l h)
  line_read (leave part a0) h =
      let l = leave part a0 in (read (body l) (line_seen l)).1 (spelled l h)

  tell : (ls : List Line) → LinesFit ls → Tells ls (map line_event ls)
  tell [] fit = tt
  tell (l ∷ ls) fit = (line_is (body l) (line_seen l) (line_read l fit.0), tell ls fit.1)

-- ---- the lines of fewer instructions are a front

front_of : (l : Layout) (w : Watched) (n steps : ℕ) → n ≤ steps
    → (more : List Line) × (lines_of l w steps ≡ lines_of l w n ++ more)
front_of l w n zero le =
    let is : 0 ≡ n = omega (arith, le) in
    subst (λ k. (more : List Line) × (lines_of l w 0 ≡ lines_of l w k ++ more)) is ([], refl)
front_of l w n (suc k) le =
    elim (cases_lt n (suc k)) as (λ _. (more : List Line) × (lines_of l w (suc k) ≡ lines_of l w n ++ more)) [
      | inl lt ↦
          let f = front_of l w n k (omega (arith, lt)) in
          let next = line_next l (watched l w k) in
          (f.0 ++ next, ap (λ ls. ls ++ next) f.1 ∙ append_assoc (lines_of l w n) f.0 next)
      | inr ge ↦
          let is : suc k ≡ n = omega (arith, le, ge) in
          subst (λ j. (more : List Line) × (lines_of l w (suc k) ≡ lines_of l w j ++ more)) is
          ([], sym (append-nil (lines_of l w (suc k))))
    ]

-- ---- the events of a run's text

-- those of these lines, and others, of which there is one at least
pub record Begins (es : List EventSeen) (ls : List Line) : Type 0 where
  pub front : List EventSeen
  pub next : EventSeen
  pub rest : List EventSeen
  pub are : es ≡ front ++ next ∷ rest
  pub told : Tells ls front

pub within : (text : List ℕ) (ls : List Line) → Begins (events text) ls → length ls < length (events text)
within text ls b =
    let many : length ls ≡ length b.front = as_many ls b.front b.told in
    let all : length (events text) ≡ length (b.front ++ b.next ∷ b.rest) = ap length b.are in
    omega (arith, many, all, length-append b.front (b.next ∷ b.rest))

begins_by : (es : List EventSeen) (ls more : List Line) (last : EventSeen) → Tells ls (map line_event ls)
    → es ≡ map line_event ls ++ (map line_event more ++ last ∷ []) → Begins es ls
begins_by es ls [] last told are = record {
  front = map line_event ls;
  next = last;
  rest = [];
  are = are;
  told = told;
}
begins_by es ls (k ∷ more) last told are = record {
  front = map line_event ls;
  next = line_event k;
  rest = map line_event more ++ last ∷ [];
  are = are;
  told = told;
}

module _ (read : LinesAreRead) (fitting : FittingHaveTexts) (l : Layout) (r : Run) (steps n : ℕ)
    (le : n ≤ steps) (all : LinesFit (lines_of l (begun r) steps))
    (some : LinesFit (lines_of l (begun r) n)) where
  pub begins : Begins (events (run_text l r steps)) (lines_of l (begun r) n)
  unfolding run_text
  begins =
      let w = begun r in
      let ls = lines_of l w n in
      let f = front_of l w n steps le in
      let end : IsPassedOver (end_line (plain steps r)) = (_, end_is (plain steps r)) in
      let last = event_of end.0 in
      begins_by _ ls f.0 last (tell read fitting ls some)
      (text_events (lines_of l w steps) (end_line (plain steps r)) end all
      ∙ ap (λ ks. map line_event ks ++ last ∷ []) f.1
      ∙ ap (λ es. es ++ last ∷ []) (map-append line_event ls f.0)
      ∙ append_assoc (map line_event ls) (map line_event f.0) (last ∷ []))
