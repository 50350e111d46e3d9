-- Lines that are followed spoil nothing, and lines that spoil nothing are followed.
use Rattle.std.proofs.Common.{◌≡◌, ℕ, ◌+◌, ◌<◌, ◌≤◌, Bool, true, false, List, [], ◌∷◌, ◌++◌, Result, Ok, Err}
use Rattle.std.proofs.Common.{refl, sym, ap, ◌∙◌, subst, arith, eq-eqb}
use Rattle.std.specs.Prelude.{not, if◌then◌else◌}
use Rattle.std.proofs.lemmas.Bool.{eqb-true, ltb-true, lt-ltb}
use Rattle.run_audit.specs.declared.fault.AuditFault.{AuditFault}
use Rattle.run_audit.specs.declared.fault.AuditFault.TheVariants.{Form, Width, Overlap, Mismatch}
use Rattle.run_audit.specs.declared.line.Line.{Line}
use Rattle.run_audit.specs.declared.line.Line.TheVariants.{Call, Ret, Enter, Pass, Leave, End}
use Rattle.run_audit.specs.Told.{ToldSeen, is_wide, same_told}
use Rattle.run_audit.specs.Lines.{is_end}
use Rattle.run_audit.specs.Brackets.{IsOther, LeavesOpen}
use Rattle.run_audit.specs.Brackets.LeavesOpen.{at_end, passes as goes_by, opens, closes}
use Rattle.run_audit.specs.Audit.{OpenSeen, below_newest, closed_by, stepped, audit_on, followed}
use Rattle.run_audit.specs.Traces.{InPlace, AreInPlace, lets_pass, IsWide, HasWidth, HaveWidth, LiesBelow}
use Rattle.run_audit.specs.Traces.{CallsAreApart, entered_by, Spoils, misplaced, call_width, ret_width}
use Rattle.run_audit.specs.Traces.{overlaps}
use Rattle.run_audit.specs.Traces.{unopened, differs}
use Rattle.run_audit.proofs.Same.{told_decides, told_same}
use Rattle.run_audit.proofs.Grammar.{then_leads}

abbrev pub at : List ToldSeen → Bool → OpenSeen
at calls entered = record { calls = calls; entered = entered }

-- of calls that are open, newest first, none begins above an older one
abbrev AllFrom : ℕ → List ToldSeen → Type 0
AllFrom b [] = Unit {0}
AllFrom b (o ∷ os) = (b ≤ o.base) × AllFrom b os

abbrev pub Descends : List ToldSeen → Type 0
Descends [] = Unit {0}
Descends (f ∷ fs) = AllFrom f.base fs × Descends fs

-- what a line that spoils nothing tells
pub record Goes (calls : List ToldSeen) (entered : Bool) (l : Line) (u : OpenSeen) : Type 0 where
  pub place : InPlace entered l
  pub width : HasWidth l
  pub leads : LeavesOpen calls (l ∷ []) u.calls
  pub entered_is : u.entered ≡ lets_pass l
  pub low : Descends calls → (t : ToldSeen) → l ≡ Call t → LiesBelow t calls
  pub descends : Descends calls → Descends u.calls

abbrev pub StepIs : List ToldSeen → Bool → ℕ → Line → Result OpenSeen AuditFault → Type 0
StepIs calls entered n l (Ok u) = Goes calls entered l u
StepIs calls entered n l (Err e) = Spoils entered n calls l e

pub wide_true : (t : ToldSeen) → IsWide t → is_wide t ≡ true
wide_true t h = eq-eqb _ _ h

not_wide : (t : ToldSeen) → is_wide t ≡ false → ¬ (IsWide t)
not_wide t h w = let e = wide_true t w in cc

pub true_wide : (t : ToldSeen) → is_wide t ≡ true → IsWide t
true_wide t h = eqb-true _ _ h

below_from : (t : ToldSeen) (b : ℕ) (os : List ToldSeen) → t.last < b → AllFrom b os → LiesBelow t os
below_from t b [] h d = tt
below_from t b (o ∷ os) h d = (omega (arith, h, d.0), below_from t b os h d.1)

all_below : (t : ToldSeen) (calls : List ToldSeen) → below_newest t calls ≡ true → Descends calls
    → LiesBelow t calls
all_below t [] h d = tt
all_below t (g ∷ gs) h d = let lt = ltb-true t.last g.base h in (lt, below_from t g.base gs lt d.0)

from_below : (t : ToldSeen) (os : List ToldSeen) → t.base ≤ t.last + 1 → LiesBelow t os → AllFrom t.base os
from_below t [] h d = tt
from_below t (o ∷ os) h d = (omega (arith, h, d.0), from_below t os h d.1)

same_call : (t u : ToldSeen) → Call t ≡ Call u → t ≡ u
same_call t u h = cc

lower_base : (t : ToldSeen) (calls : List ToldSeen) → IsWide t → below_newest t calls ≡ true → Descends calls
    → Descends (t ∷ calls)
lower_base t calls w h d = (from_below t calls (omega (arith, w)) (all_below t calls h d), d)

call_is : (calls : List ToldSeen) (entered : Bool) (n : ℕ) (t : ToldSeen) (w b : Bool) → is_wide t ≡ w
    → below_newest t calls ≡ b
    → StepIs calls entered n (Call t)
    (if not w then Err (Width n) else if not b then Err (Overlap n) else Ok (at (t ∷ calls) false))
call_is calls entered n t false b hw hb = call_width (not_wide t hw)
call_is [] entered n t true false hw hb = absurd cc
call_is (g ∷ gs) entered n t true false hw hb =
    overlaps (true_wide t hw) (λ lt. let e = lt-ltb t.last g.base lt in absurd cc)
call_is calls entered n t true true hw hb = record {
  place = tt;
  width = true_wide t hw;
  leads = opens at_end;
  entered_is = refl;
  low = λ d u e. subst (λ (x : ToldSeen). LiesBelow x calls) (same_call t u e) (all_below t calls hb d);
  descends = λ d. lower_base t calls (true_wide t hw) hb d;
}

closes_is : (newest : ToldSeen) (older : List ToldSeen) (entered : Bool) (n : ℕ) (t : ToldSeen) (b : Bool)
    → IsWide t → same_told newest t ≡ b
    → StepIs (newest ∷ older) entered n (Ret t) (if b then Ok (at older false) else Err (Mismatch n))
closes_is newest older entered n t false w h = differs w (λ e. let f = (told_decides newest t).1 e in
    absurd cc)
closes_is newest older entered n t true w h = record {
  place = tt;
  width = w;
  leads = subst (λ x. LeavesOpen (newest ∷ older) (Ret x ∷ []) older) ((told_decides newest t).0 h)
      (closes at_end);
  entered_is = refl;
  low = λ d u e. absurd (let f = e in cc);
  descends = λ d. d.1;
}

ret_by : (calls : List ToldSeen) (entered : Bool) (n : ℕ) (t : ToldSeen) → IsWide t
    → StepIs calls entered n (Ret t) (closed_by calls n t)
ret_by [] entered n t w = unopened w
ret_by (newest ∷ older) entered n t w = closes_is newest older entered n t (same_told newest t) w refl

ret_is : (calls : List ToldSeen) (entered : Bool) (n : ℕ) (t : ToldSeen) (w : Bool) → is_wide t ≡ w
    → StepIs calls entered n (Ret t) (if w then closed_by calls n t else Err (Width n))
ret_is calls entered n t false h = ret_width (not_wide t h)
ret_is calls entered n t true h = ret_by calls entered n t (true_wide t h)

-- a line that is neither a call nor a return leaves the open calls as they are
goes_past : (calls : List ToldSeen) (entered lets : Bool) (l : Line) → InPlace entered l → HasWidth l
    → IsOther l → lets ≡ lets_pass l → ((t : ToldSeen) → l ≡ Call t → ⊥)
    → Goes calls entered l (at calls lets)
goes_past calls entered lets l place width other is no_call = record {
  place = place;
  width = width;
  leads = goes_by other at_end;
  entered_is = is;
  low = λ d t e. absurd (no_call t e);
  descends = λ d. d;
}

pass_is : (calls : List ToldSeen) (entered : Bool) (n : ℕ)
    → StepIs calls entered n Pass (if entered then Ok (at calls false) else Err (Form n))
pass_is calls false n = misplaced refl
pass_is calls true n = goes_past calls true false Pass refl tt tt refl (λ u e. let f = e in cc)

pub step_is : (calls : List ToldSeen) (entered : Bool) (n : ℕ) (l : Line) → is_end l ≡ false
    → StepIs calls entered n l (stepped (at calls entered) n l)
unfolding stepped
step_is calls entered n (Call t) h = call_is calls entered n t (is_wide t) (below_newest t calls) refl refl
step_is calls entered n (Ret t) h = ret_is calls entered n t (is_wide t) refl
step_is calls entered n Enter h = goes_past calls entered true Enter tt tt tt refl (λ u e. let f = e in cc)
step_is calls entered n Pass h = pass_is calls entered n
step_is calls entered n Leave h = goes_past calls entered false Leave tt tt tt refl (λ u e. let f = e in cc)
step_is calls entered n End h = absurd cc

-- ---- lines that are followed

abbrev pub NoEnd : List Line → Type 0
NoEnd [] = Unit {0}
NoEnd (l ∷ ls) = (is_end l ≡ false) × NoEnd ls

pub record Clean (calls : List ToldSeen) (entered : Bool) (ls : List Line) (u : OpenSeen) : Type 0 where
  pub in_place : AreInPlace entered ls
  pub bracketed : LeavesOpen calls ls u.calls
  pub wide : HaveWidth ls
  pub apart : CallsAreApart calls ls
  pub entered_is : u.entered ≡ entered_by entered ls

-- what is followed by one line that goes
pub first_went : (r : Result OpenSeen AuditFault) (f : OpenSeen → Result OpenSeen AuditFault) (u : OpenSeen)
    → audit_on r f ≡ Ok u → (s : OpenSeen) × (r ≡ Ok s) × (f s ≡ Ok u)
first_went (Ok s) f u h = (s, refl, h)
first_went (Err e) f u h = absurd cc

leads_nowhere : {before now : List ToldSeen} → LeavesOpen before [] now → now ≡ before
leads_nowhere at_end = refl

-- the calls that are open after a line
after : List ToldSeen → Line → List ToldSeen
after calls (Call t) = t ∷ calls
after [] (Ret t) = []
after (o ∷ os) (Ret t) = os
after calls Enter = calls
after calls Pass = calls
after calls Leave = calls
after calls End = calls

leads_after : {a c : List ToldSeen} {ls : List Line} (l : Line) → LeavesOpen a (l ∷ ls) c
    → LeavesOpen (after a l) ls c
unfolding after
leads_after (Call t) (opens r) = r
leads_after (Call t) (goes_by o r) = elim o [ ]
leads_after (Ret t) (closes r) = r
leads_after (Ret t) (goes_by o r) = elim o [ ]
leads_after Enter (goes_by o r) = r
leads_after Pass (goes_by o r) = r
leads_after Leave (goes_by o r) = r
leads_after End (goes_by o r) = r

-- one line leads to one list of open calls
one_way : {a b c : List ToldSeen} {ls : List Line} (l : Line) → LeavesOpen a (l ∷ []) b
    → LeavesOpen a (l ∷ ls) c
    → LeavesOpen b ls c
one_way {c = c} {ls = ls} l r q = subst (λ xs. LeavesOpen xs ls c) (sym (leads_nowhere (leads_after l r)))
    (leads_after l q)

apart_by : (calls now : List ToldSeen) (l : Line) (ls : List Line)
    → ((t : ToldSeen) → l ≡ Call t → LiesBelow t calls)
    → LeavesOpen calls (l ∷ []) now → CallsAreApart now ls → CallsAreApart calls (l ∷ ls)
apart_by calls now l ls low leads rest [] back t there e r =
    subst (λ (xs : List ToldSeen). LiesBelow t xs) (sym (leads_nowhere r)) (low t (let f = e in cc))
apart_by calls now l ls low leads rest (x ∷ front) back t there e r =
    let same : x ≡ l = cc in
    let more : ls ≡ front ++ Call t ∷ back = cc in
    rest front back t there more (one_way l leads (subst (λ y. LeavesOpen calls (y ∷ front) there) same r))

pub clean_of : (ls : List Line) (calls : List ToldSeen) (entered : Bool) (n : ℕ) (u : OpenSeen) → NoEnd ls
    → followed (at calls entered) n ls ≡ Ok u → Descends calls → Clean calls entered ls u
clean_of [] calls entered n u no_end h d =
    let same : at calls entered ≡ u = cc in
    record {
      in_place = tt;
      bracketed = subst (λ (v : OpenSeen). LeavesOpen calls [] v.calls) same at_end;
      wide = tt;
      apart = λ front back t now e. absurd (nothing front back t e);
      entered_is = sym (ap (λ (v : OpenSeen). v.entered) same);
    }
  where
    nothing : (front back : List Line) (t : ToldSeen) → [] ≡ front ++ Call t ∷ back → ⊥
    nothing [] back t e = cc
    nothing (x ∷ front) back t e = cc
clean_of (l ∷ ls) calls entered n u no_end h d =
    let k = first_went (stepped (at calls entered) n l) (λ t. followed t (n + 1) ls) u h in
    let g : Goes calls entered l k.0 =
    subst (StepIs calls entered n l) k.1 (step_is calls entered n l no_end.0) in
    let r = clean_of ls k.0.calls k.0.entered (n + 1) u no_end.1 k.2 (g.descends d) in
    record {
      in_place = (g.place, subst (λ b. AreInPlace b ls) g.entered_is r.in_place);
      bracketed = then_leads (l ∷ []) g.leads r.bracketed;
      wide = (g.width, r.wide);
      apart = apart_by calls k.0.calls l ls (g.low d) g.leads r.apart;
      entered_is = r.entered_is ∙ ap (λ b. entered_by b ls) g.entered_is;
    }

-- ---- and back

newest_above : (t : ToldSeen) (calls : List ToldSeen) → LiesBelow t calls → below_newest t calls ≡ true
newest_above t [] h = refl
newest_above t (g ∷ gs) h = lt-ltb _ _ h.0

pub follow_clean : (ls : List Line) (calls now : List ToldSeen) (entered : Bool) (n : ℕ)
    → AreInPlace entered ls → LeavesOpen calls ls now → HaveWidth ls → CallsAreApart calls ls
    → followed (at calls entered) n ls ≡ Ok (at now (entered_by entered ls))
unfolding stepped
follow_clean [] calls _ entered n place at_end wide apart = refl
follow_clean (Call t ∷ ls) calls now entered n place (opens r) wide apart =
    let w = wide_true t wide.0 in
    let b = newest_above t calls (apart [] ls t calls refl at_end) in
    rw (w, b)
    (follow_clean ls (t ∷ calls) now false (n + 1) place.1 r wide.1
    (λ front back u at_now e k. apart (Call t ∷ front) back u at_now (ap (λ xs. Call t ∷ xs) e)
    (opens k)))
follow_clean (Call t ∷ ls) calls now entered n place (goes_by o r) wide apart = elim o [ ]
follow_clean (Ret t ∷ ls) calls now entered n place (goes_by o r) wide apart = elim o [ ]
follow_clean (Ret t ∷ ls) _ now entered n place (closes {before = before} r) wide apart =
    let w = wide_true t wide.0 in
    let b = told_same t in
    rw (w, b)
    (follow_clean ls before now false (n + 1) place.1 r wide.1
    (λ front back u at_now e k. apart (Ret t ∷ front) back u at_now (ap (λ xs. Ret t ∷ xs) e) (closes k)))
follow_clean (Enter ∷ ls) calls now entered n place (goes_by o r) wide apart =
    follow_clean ls calls now true (n + 1) place.1 r wide.1
    (λ front back u at_now e k. apart (Enter ∷ front) back u at_now (ap (λ xs. Enter ∷ xs) e)
    (goes_by o k))
follow_clean (Pass ∷ ls) calls now true n place (goes_by o r) wide apart =
    follow_clean ls calls now false (n + 1) place.1 r wide.1
    (λ front back u at_now e k. apart (Pass ∷ front) back u at_now (ap (λ xs. Pass ∷ xs) e) (goes_by o k))
follow_clean (Pass ∷ ls) calls now false n place (goes_by o r) wide apart = absurd (let f = place.0 in cc)
follow_clean (Leave ∷ ls) calls now entered n place (goes_by o r) wide apart =
    follow_clean ls calls now false (n + 1) place.1 r wide.1
    (λ front back u at_now e k. apart (Leave ∷ front) back u at_now (ap (λ xs. Leave ∷ xs) e)
    (goes_by o k))
follow_clean (End ∷ ls) calls now entered n place r wide apart = absurd place.0
