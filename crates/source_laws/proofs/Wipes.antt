-- What a run has wiped where it lets go of control is what a meaning tells: how that goes over one step, one
-- tick, one event and one item.
use Rattle.std.proofs.Common.{◌≡◌, ℕ, zero, suc, ◌+◌, ◌≤◌, List, [], ◌∷◌, ◌++◌, length, Option, Some}
use Rattle.std.proofs.Common.{None, refl, sym, ap, ◌∙◌, subst, arith, append_assoc, length-append}
use Rattle.std.specs.Prelude.{slice_get}
use Rattle.trusted_border.specs.declared.layout.Layout.{Layout}
use Rattle.overlay_machine.specs.State.{OState}
use Rattle.overlay_machine.specs.Step.{Ending, goes, halts, fails, overlay_step}
use Rattle.overlay_machine.specs.Events.{step_event}
use Rattle.overlay_machine.specs.Link.{Link}
use Rattle.template_runs.specs.Runs.{is_inside}
use Rattle.template_runs.specs.Border.{Wiped}
use Rattle.source_laws.specs.Seen.{Shown, event_outs, event_items, trace}
use Rattle.source_laws.specs.Wiped.{low_of, last_outside, TellsSince, none_yet, and_then}
use Rattle.source_laws.proofs.Refined.{Comp, Thing, Event, Report, tick, ticks, emit, take_item}
use Rattle.source_laws.proofs.Forgets.{trace_step}

-- where trusted code lets go: the state in which code outside ran last before, and the one come to
pub record Crossing : Type 0 where
  pub before : OState
  pub behind : OState

-- one for each line that is shown
abbrev pub crossed : OState → OState → List Shown → List Crossing
crossed b q [] = []
crossed b q (x ∷ xs) = record { before = b; behind = q } ∷ crossed b q xs

module _ (l : Layout) where
  abbrev pub cross : OState → OState → Ending → (OState → OState → List Crossing) → List Crossing
  cross b o (goes q) rest =
      crossed b q (event_outs l q (step_event l o q)) ++ rest (last_outside (is_inside l o) b o) q
  cross b o halts rest = []
  cross b o fails rest = []

  -- those of so many steps from a state, where code outside ran last in another before
  unfoldable pub crossings : ℕ → OState → OState → List Crossing
  crossings zero b o = []
  crossings (suc n) b o = cross b o (overlay_step l o) (crossings n)

  pub cross_none : (b o : OState) → crossings zero b o ≡ []
  unfolding crossings
  cross_none b o = refl

  pub cross_more : (n : ℕ) (b o : OState) (e : Ending) → overlay_step l o ≡ e
      → crossings (suc n) b o ≡ cross b o e (crossings n)
  unfolding crossings
  cross_more n b o e i = ap (λ x. cross b o x (crossings n)) i

-- at each the cells are wiped from the one of a list on
abbrev pub AreWiped : Link → List Crossing → List (Option ℕ) → Type 0
AreWiped g [] [] = Unit {0}
AreWiped g [] (x ∷ xs) = ⊥
AreWiped g (c ∷ cs) [] = ⊥
AreWiped g (c ∷ cs) (x ∷ xs) = Wiped g x c.before c.behind × AreWiped g cs xs

-- events tell first of these
abbrev pub Tell : List (Option ℕ) → List Event → Type 0
Tell [] es = Unit {0}
Tell (x ∷ xs) [] = ⊥
Tell (x ∷ xs) (e ∷ es) = (low_of e ≡ x) × Tell xs es

-- what is wiped is what is told, under every large enough fuel
pub record Wipes (g : Link) (cs : List Crossing) (is : List Thing) (m : ℕ → List Thing → Report)
    : Type 0 where
  pub lows : List (Option ℕ)
  pub wiped : AreWiped g cs lows
  pub enough : ℕ
  pub told : (f : ℕ) → enough ≤ f → Tell lows (m f is).events

module _ (g : Link) where
  pub wipes_none : (is : List Thing) (m : ℕ → List Thing → Report) → Wipes g [] is m
  wipes_none is m = record { lows = []; wiped = tt; enough = 0; told = λ f le. tt }

  module _ (cs : List Crossing) (is : List Thing) (low : Option ℕ) where
    pub wipes_tick : (m : Comp) → Wipes g cs is (m low) → Wipes g cs is (tick m low)
    wipes_tick m w = record { lows = w.lows; wiped = w.wiped; enough = suc w.enough; told = told }
      where
        told : (f : ℕ) → suc w.enough ≤ f → Tell w.lows (tick m low f is).events
        told zero le = absurd (omega (arith, le))
        told (suc f) le = w.told f (omega (arith, le))

    pub wipes_ticks : (n : ℕ) (m : Comp) → Wipes g cs is (m low) → Wipes g cs is (ticks n m low)
    wipes_ticks zero m w = w
    wipes_ticks (suc n) m w = wipes_tick (ticks n m) (wipes_ticks n m w)

    -- one event, where it is let go
    pub wipes_said : (out : Option ℕ → Event) (m : Comp) (b q : OState)
        → ((x : Option ℕ) → low_of (out x) ≡ x)
        → Wiped g low b q → Wipes g cs is (m None)
        → Wipes g (record { before = b; behind = q } ∷ cs) is (emit out m low)
    wipes_said out m b q tells z w = record {
      lows = low ∷ w.lows;
      wiped = (z, w.wiped);
      enough = w.enough;
      told = λ f le. (tells low, w.told f le);
    }

    -- one item
    pub wipes_taken : (i : Thing) (m : Comp) (k : Thing → Comp) → m ≡ take_item k → Wipes g cs is (k i low)
        → Wipes g cs (i ∷ is) (m low)
    wipes_taken i m k e w = subst (λ x. Wipes g cs (i ∷ is) (x low)) (sym e)
        (record { lows = w.lows; wiped = w.wiped; enough = w.enough; told = w.told })

-- ---- from the first state on

length-crossed : (b q : OState) (es : List Shown) → length (crossed b q es) ≡ length es
length-crossed b q [] = refl
length-crossed b q (e ∷ es) = ap suc (length-crossed b q es)

-- after a run that has shown so much and got so much
pub record After (l : Layout) (o : OState) (es : List Shown) (is : List Thing) (b p : OState) : Type 0 where
  pub steps : ℕ
  pub passed : List Crossing
  pub as_many : length passed ≡ length es
  pub crossings_are : (k : ℕ) → crossings l (steps + k) o o ≡ passed ++ crossings l k b p
  pub items_are : (k : ℕ) → (trace l (steps + k) o).items ≡ is ++ (trace l k p).items

pub after : (l : Layout) (o : OState) (es : List Shown) (is : List Thing) (b p : OState)
    → TellsSince l o es is b p → After l o es is b p
after l o _ _ _ _ none_yet = record {
  steps = 0;
  passed = [];
  as_many = refl;
  crossings_are = λ k. let z : 0 + k ≡ k = omega arith in ap (λ x. crossings l x o o) z;
  items_are = λ k. let z : 0 + k ≡ k = omega arith in ap (λ x. (trace l x o).items) z;
}
after l o _ _ _ q (and_then {es = es} {is = is} {b = b} {p = p} s e) =
    let r = after l o es is b p s in
    let outs = event_outs l q (step_event l p q) in
    record {
      steps = r.steps + 1;
      passed = r.passed ++ crossed b q outs;
      as_many = (let x = length-append r.passed (crossed b q outs) in
          let y = length-append es outs in
          let z = length-crossed b q outs in
          let w = r.as_many in omega (arith, x, y, z, w));
      crossings_are = λ k. (
          let a : r.steps + 1 + k ≡ r.steps + suc k = omega arith in
          ap (λ x. crossings l x o o) a ∙ r.crossings_are (suc k)
          ∙ ap (λ x. r.passed ++ x) (cross_more l k b p (goes q) e)
          ∙ sym (append_assoc r.passed (crossed b q outs)
          (crossings l k (last_outside (is_inside l p) b p) q))
          );
      items_are = λ k. (
          let a : r.steps + 1 + k ≡ r.steps + suc k = omega arith in
          ap (λ x. (trace l x o).items) a ∙ r.items_are (suc k)
          ∙ ap (λ t. is ++ t.items) (trace_step l k p q e)
          ∙ sym (append_assoc is (event_items l q (step_event l p q)) (trace l k q).items)
          );
    }

-- the crossing after others, and what is told of it
pub wiped_last : (g : Link) (cs : List Crossing) (c : Crossing) (lows : List (Option ℕ))
    → AreWiped g (cs ++ c ∷ []) lows
    → (low : Option ℕ) × (slice_get lows (length cs) ≡ Some low) × Wiped g low c.before c.behind
wiped_last g [] c [] w = absurd w
wiped_last g [] c (x ∷ xs) w = (x, refl, w.0)
wiped_last g (d ∷ cs) c [] w = absurd w
wiped_last g (d ∷ cs) c (x ∷ xs) w = wiped_last g cs c xs w.1

pub told_at : (lows : List (Option ℕ)) (es : List Event) (n : ℕ) (low : Option ℕ)
    → slice_get lows n ≡ Some low
    → Tell lows es → (e : Event) × (slice_get es n ≡ Some e) × (low_of e ≡ low)
told_at [] es n low h t = absurd (let z : None ≡ Some low = h in cc)
told_at (x ∷ xs) [] n low h t = absurd t
told_at (x ∷ xs) (e ∷ es) zero low h t = (e, refl, t.0 ∙ (let z : x ≡ low = cc in z))
told_at (x ∷ xs) (e ∷ es) (suc n) low h t = told_at xs es n low h t.1
