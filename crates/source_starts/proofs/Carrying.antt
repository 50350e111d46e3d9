-- What the compiler laid stands in the component, its sites in their order.
use Rattle.std.proofs.Common.{◌≡◌, ℕ, zero, suc, ◌+◌, ◌-◌, ◌<◌, ◌≤◌, Bool, List, [], ◌∷◌, ◌++◌, length, Some}
use Rattle.std.proofs.Common.{refl, sym, ap, ◌∙◌, subst, arith, length-append}
use Rattle.std.specs.Prelude.{slice_get}
use Rattle.component_file.specs.declared.TheConstants.{MOST_WORDS}
use Rattle.component_file.specs.declared.component.ComponentFields.{ComponentFields}
use Rattle.proc_program.specs.declared.program.Program.{Program}
use Rattle.proc_program.specs.declared.program.Procedure.{Procedure}
use Rattle.proc_program.specs.StepView.{block_of}
use Rattle.proc_program.specs.Calls.{procedure_calls, block_calls}
use Rattle.proc_templates.specs.Items.{Spot, Item, does, guards, goes, goes_if, finishes, label, site, entry}
use Rattle.proc_templates.specs.Items.{leaves, Laid, put, lay, FAIL_AT}
use Rattle.proc_templates.specs.Templates.{proc_code, before_epilogue, check_params, push, pushed, wipe}
use Rattle.proc_templates.specs.Templates.{block_code}
use Rattle.proc_templates.specs.Compiled.{frame_of, size_of_proc, head_of, lay_proc, lay_procs, laid_of}
use Rattle.proc_templates.specs.Compiled.{component_of}
use Rattle.proc_templates.specs.Kept.{FitsComponent}
use Rattle.proc_templates.proofs.Offers.{has_it, put-length, Rest, Sound, rest_lay, get-left, carries}
use Rattle.proc_templates.proofs.Offers.{Carries, ProcReady, AllReady, spot_of, proc_laid, laid-length}
use Rattle.proc_templates.proofs.Offers.{sound_proc, procs-length, rest_procs, head_sound, rest_whole, ready}
use Rattle.proc_templates.proofs.Offers.{code-length}
use Rattle.proc_templates.specs.declared.FrameShape.{FrameShape}
use Rattle.proc_program.specs.Program.{Block}
use Rattle.proc_program.specs.Limits.{registers_of}
use Rattle.cap_words.specs.declared.TheConstants.{LAST_PLACE}
use Rattle.source_laws.proofs.Offers.{count_both, checks_count, push_count, block_count}
use Rattle.source_laws.specs.Sites.{next_count, count, SiteAt, SitesAt}

-- what is written so far only grows
pub record Grows (l m : Laid) : Type 0 where
  pub at : (j x : ℕ) → slice_get l.sites j ≡ Some x → slice_get m.sites j ≡ Some x

grow_put : (spot : Spot) (l : Laid) (x : Item) → Grows l (put spot l x)
unfolding put
grow_put spot l (does i) = record { at = λ j x e. e }
grow_put spot l (guards is) = record { at = λ j x e. e }
grow_put spot l (goes far) = record { at = λ j x e. e }
grow_put spot l (goes_if far r) = record { at = λ j x e. e }
grow_put spot l finishes = record { at = λ j x e. e }
grow_put spot l label = record { at = λ j x e. e }
grow_put spot l site = record { at = λ j x e. get-left l.sites _ j x e }
grow_put spot l entry = record { at = λ j x e. e }
grow_put spot l leaves = record { at = λ j x e. e }

pub grow_lay : (spot : Spot) (xs : List Item) (l : Laid) → Grows l (lay spot l xs)
grow_lay spot [] l = record { at = λ j x e. e }
grow_lay spot (i ∷ xs) l =
    let a = grow_put spot l i in
    let b = grow_lay spot xs (put spot l i) in
    record { at = λ j x e. b.at j x (a.at j x e) }

counted : (spot : Spot) (l : Laid) (x : Item) → length (put spot l x).sites ≡ next_count (length l.sites) x
unfolding put
counted spot l (does i) = refl
counted spot l (guards is) = refl
counted spot l (goes far) = refl
counted spot l (goes_if far r) = refl
counted spot l finishes = refl
counted spot l label = refl
counted spot l site = length-append l.sites (length l.code ∷ []) ∙ omega arith
counted spot l entry = refl
counted spot l leaves = refl

module _ (c : ComponentFields) where
  site_here : (spot : Spot) (l : Laid) (x : Item) → Rest (put spot l x) c
      → Grows (put spot l x) (record { code = []; sites = c.sites; entries = []; labels = [] })
      → SiteAt c (length l.sites) (length l.code) x
  unfolding put
  site_here spot l (does i) r g = tt
  site_here spot l (guards is) r g = tt
  site_here spot l (goes far) r g = tt
  site_here spot l (goes_if far h) r g = tt
  site_here spot l finishes r g = tt
  site_here spot l label r g = tt
  site_here spot l site r g =
      let n = put-length spot l site in
      let lt : length l.code < length (put spot l site).code = omega (arith, n) in
      record {
        begins = r.sites (length l.code) lt ∙ has_it l.sites (length l.code);
        listed = g.at (length l.sites) (length l.code) (ends l.sites (length l.code));
      }
    where
      ends : (xs : List ℕ) (o : ℕ) → slice_get (xs ++ (o ∷ [])) (length xs) ≡ Some o
      ends [] o = refl
      ends (x ∷ xs) o = ends xs o
  site_here spot l entry r g = tt
  site_here spot l leaves r g = tt

  abbrev Lists : Laid
  Lists = record { code = []; sites = c.sites; entries = []; labels = [] }

  sites_at : (spot : Spot) (xs : List Item) (l : Laid) → Rest (lay spot l xs) c → Grows (lay spot l xs) Lists
      → SitesAt c (length l.sites) (length l.code) xs
  sites_at spot [] l r g = tt
  sites_at spot (x ∷ xs) l r g =
      let m = put spot l x in
      let grown = grow_lay spot xs m in (
        site_here spot l x (rest_lay spot xs m c r) (record { at = λ j y e. g.at j y (grown.at j y e) }),
        subst (λ n. SitesAt c (next_count (length l.sites) x) n xs) (put-length spot l x)
            (subst (λ n. SitesAt c n (length m.code) xs) (counted spot l x) (sites_at spot xs m r g)),
      )

-- ---- procedure by procedure

-- a procedure's code stands in a component, at an offset, after so many sites
pub record ProcStands (m : Program) (c : ComponentFields) (e j : ℕ) (p : Procedure) : Type 0 where
  pub carried : Carries c
      (record {
        stack_base = m.stack;
        epilogue = e + before_epilogue (frame_of m p) p.callbacks (block_of p.body);
      }) e
      (proc_code (frame_of m p) p.callbacks (block_of p.body))
  pub sited : SitesAt c j e (proc_code (frame_of m p) p.callbacks (block_of p.body))

-- where a procedure of a list begins, and how many sites stand before it
abbrev pub offset_from : ℕ → List Procedure → ℕ → ℕ
offset_from o [] i = o
offset_from o (p ∷ ps) zero = o
offset_from o (p ∷ ps) (suc i) = offset_from (o + size_of_proc p) ps i

abbrev pub calls_from : ℕ → List Procedure → ℕ → ℕ
calls_from n [] i = n
calls_from n (p ∷ ps) zero = n
calls_from n (p ∷ ps) (suc i) = calls_from (n + procedure_calls p) ps i

-- what is laid of a procedure has a site for each of its calls
proc_count : (f : FrameShape) (params : List Bool) (body : Block) (j : ℕ)
    → count j (proc_code f params body) ≡ j + block_calls body
proc_count f params body j =
    count_both j j (check_params 0 params) _ (checks_count params 0 j)
    ∙ count_both j j (push (pushed (registers_of params) f.words)) _
    (push_count (pushed (registers_of params) f.words) j)
    ∙ count_both j (j + block_calls body) (block_code f body) _ (block_count f body j)
    ∙ count_both (j + block_calls body) (j + block_calls body) (wipe (f.words - 2)) _
    (wipe_count (f.words - 2) (j + block_calls body))
  where
    wipe_count : (n j : ℕ) → count j (wipe n) ≡ j
    wipe_count zero j = refl
    wipe_count (suc n) j = wipe_count n j

lay_count : (spot : Spot) (xs : List Item) (l : Laid)
    → length (lay spot l xs).sites ≡ count (length l.sites) xs
lay_count spot [] l = refl
lay_count spot (x ∷ xs) l = lay_count spot xs (put spot l x) ∙ ap (λ j. count j xs) (counted spot l x)

proc_sites : (m : Program) (l : Laid) (p : Procedure)
    → length (lay_proc m l p).sites ≡ length l.sites + procedure_calls p
proc_sites m l p =
    ap (λ (x : Laid). length x.sites) (proc_laid m l p)
    ∙ lay_count (spot_of m l p) (proc_code (frame_of m p) p.callbacks (block_of p.body)) l
    ∙ proc_count (frame_of m p) p.callbacks (block_of p.body) (length l.sites)

module _ (m : Program) (c : ComponentFields) (fails : c.fail_at ≡ Some FAIL_AT) where
  one_stands : (l : Laid) (p : Procedure) → ProcReady m p → length (lay_proc m l p).code ≤ MOST_WORDS
      → Sound l
      → Rest (lay_proc m l p) c → Grows (lay_proc m l p) (Lists c)
      → ProcStands m c (length l.code) (length l.sites) p
  unfolding before_epilogue frame_of
  one_stands l p ready most s r g =
      let f = frame_of m p in
      let b = block_of p.body in
      let xs = proc_code f p.callbacks b in
      let spot = spot_of m l p in
      let e = laid-length m l p ready in
      let n : length (lay_proc m l p).code ≡ length (lay spot l xs).code =
      ap (λ (x : Laid). length x.code) (proc_laid m l p) in
      let low : spot.epilogue ≤ LAST_PLACE = omega (arith, e, most) in
      let r' : Rest (lay spot l xs) c = subst (λ x. Rest x c) (proc_laid m l p) r in
      let g' : Grows (lay spot l xs) (Lists c) = subst (λ x. Grows x (Lists c)) (proc_laid m l p) g in
      record {
        carried = carries c spot low xs l ready.items (omega (arith, n, most)) s r';
        sited = sites_at c spot xs l r' g';
      }

  grow_procs : (ps : List Procedure) (l : Laid) → Grows (lay_procs m l ps) (Lists c) → Grows l (Lists c)
  grow_procs [] l g = g
  grow_procs (p ∷ ps) l g =
      let a = grow_procs ps (lay_proc m l p) g in
      let b = subst (λ x. Grows l x) (sym (proc_laid m l p))
      (grow_lay (spot_of m l p) (proc_code (frame_of m p) p.callbacks (block_of p.body)) l) in
      record { at = λ j x e. a.at j x (b.at j x e) }

  procs_stand : (ps : List Procedure) (l : Laid) → AllReady m ps
      → length (lay_procs m l ps).code ≤ MOST_WORDS → Sound l → Rest (lay_procs m l ps) c
      → Grows (lay_procs m l ps) (Lists c) → (i : ℕ) (p : Procedure) → slice_get ps i ≡ Some p
      → ProcStands m c (offset_from (length l.code) ps i) (calls_from (length l.sites) ps i) p
  procs_stand [] l ready most s r g i p e = absurd cc
  procs_stand (q ∷ ps) l ready most s r g zero p e =
      let n = procs-length m ps (lay_proc m l q) ready.1 in
      let all : length (lay_procs m (lay_proc m l q) ps).code ≤ MOST_WORDS = most in
      let is : q ≡ p = cc in
      subst (ProcStands m c (length l.code) (length l.sites)) is
      (one_stands l q ready.0 (omega (arith, n, all)) s (rest_procs m c fails ps (lay_proc m l q) r)
      (grow_procs ps (lay_proc m l q) g))
  procs_stand (q ∷ ps) l ready most s r g (suc i) p e =
      subst (λ k. ProcStands m c k (calls_from (length l.sites + procedure_calls q) ps i) p)
      (ap (λ n. offset_from n ps i) (laid-length m l q ready.0))
      (subst (λ k. ProcStands m c (offset_from (length (lay_proc m l q).code) ps i) k p)
      (ap (λ n. calls_from n ps i) (proc_sites m l q))
      (procs_stand ps (lay_proc m l q) ready.1 most (sound_proc m l q s) r g i p e))

-- the procedures of a module stand in its component, from offset 2 on
pub all_stand : (m : Program) → FitsComponent m → (i : ℕ) (p : Procedure) → slice_get m.procs i ≡ Some p
    → ProcStands m (component_of m) (offset_from 2 m.procs i) (calls_from 0 m.procs i) p
unfolding laid_of component_of
all_stand m fits i p e =
    let n = code-length m fits in
    let most = fits.code in
    procs_stand m (component_of m) refl m.procs (head_of m) (ready m fits) (omega (arith, n, most))
    (head_sound m (component_of m) refl) (rest_whole m (ready m fits)) (record { at = λ j x e. e }) i p e
