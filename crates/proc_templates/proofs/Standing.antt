-- Items that were laid stand in the component.
use Rattle.std.proofs.Common.{◌≡◌, ℕ, suc, ◌+◌, ◌<◌, ◌≤◌, inl, inr, Bool, true, false, List, [], ◌∷◌}
use Rattle.std.proofs.Common.{◌++◌, length, map, Some, None, refl, ap, ◌∙◌, subst, arith, lt-ltb, pos}
use Rattle.std.specs.Prelude.{if◌then◌else◌, slice_get, nat_lt, FitsSigned}
use Rattle.std.specs.Int.{w32}
use Rattle.std.proofs.lemmas.Option.{slice_get_within}
use Rattle.cap_words.specs.declared.TheConstants.{LAST_PLACE}
use Rattle.component_file.specs.declared.component.ComponentFields.{ComponentFields}
use Rattle.component_file.proofs.Offers.{inside}
use Rattle.lcm_isa.specs.declared.Reg.TheVariants.{T2}
use Rattle.lcm_isa.specs.declared.Instr.{Instr}
use Rattle.lcm_isa.specs.Numbers.{IsInstr}
use Rattle.lcm_isa.proofs.Offers.{decode_of-number_of}
use Rattle.call_sequence.proofs.Offers.{near_operand}
use Rattle.call_sequence.specs.Places.{declared}
use Rattle.call_sequence.specs.Walk.{instr_at, instr_in}
use Rattle.proc_templates.specs.Items.{Spot, Item, does, guards, goes, goes_if, finishes, label, site, entry}
use Rattle.proc_templates.specs.Items.{leaves, instrs, zero_of, FAIL_AT, Laid, word_of, put, lay}
use Rattle.proc_templates.specs.Compiled.{label_row}
use Rattle.proc_templates.specs.Free.{behind, after}
use Rattle.proc_templates.specs.Fit.{AllFit, ItemFits, ItemsFit}
use Rattle.proc_templates.proofs.Onwards.{Stands, AtMostLabel}
use Rattle.proc_templates.proofs.Carried.{Run, Starts, Here, Carries}
use Rattle.proc_templates.proofs.Laying.{has, has_it, label_it, put-length, get-right, get-map, Rest, Sound}
use Rattle.proc_templates.proofs.Laying.{behind-least, rest_lay, sound_put, lay-length}

pub zero_fits : FitsSigned w32 (pos 0)
zero_fits = record { sfits = omega arith }

pub fit_both : (a b : List Instr) → AllFit a → AllFit b → AllFit (a ++ b)
fit_both [] b x y = y
fit_both (i ∷ a) b x y = (x.0, fit_both a b x.1 y)

pub after-least : (xs : List Item) (o : ℕ) → o ≤ after o xs
after-least [] o = omega arith
after-least (x ∷ xs) o = let h = after-least xs (behind o x) in let g = behind-least o x in
    omega (arith, h, g)

module _ (c : ComponentFields) where
  word_here : (l : Laid) (q : ℕ) (i : Instr) → Rest l c → IsInstr i → slice_get l.code q ≡ Some (word_of i)
      → has l.sites q ≡ false → has l.entries q ≡ false → Stands c q i
  unfolding instr_at
  word_here l q i r f e s n =
      let lt = slice_get_within l.code q (word_of i) e in
      record {
        instr = ap instr_in (r.code q (word_of i) e) ∙ decode_of-number_of i f;
        entry = r.entries q lt ∙ n;
        site = r.sites q lt ∙ s;
      }

  run_here : (l : Laid) → Rest l c → (is : List Instr) (q : ℕ) → AllFit is
      → ((j : ℕ) (i : Instr) → slice_get is j ≡ Some i → slice_get l.code (q + j) ≡ Some (word_of i))
      → ((x : ℕ) → q ≤ x → has l.sites x ≡ false) → ((x : ℕ) → q ≤ x → has l.entries x ≡ false)
      → ((x : ℕ) → q ≤ x → has l.labels x ≡ false)
      → Run c q is
  run_here l r [] q f w s e b = tt
  run_here l r (i ∷ is) q f w s e b =
      let q0 : q + 0 ≡ q = omega arith in
      let here = subst (λ z. slice_get l.code z ≡ Some (word_of i)) q0 (w 0 i refl) in
      let lt = slice_get_within l.code q (word_of i) here in (
        record {
          stands = word_here l q i r f.0 here (s q (omega arith)) (e q (omega arith));
          bare = r.labels q lt ∙ ap (λ t. if t then Some label_row else None) (b q (omega arith));
        },
        run_here l r is (q + 1) f.1
            (λ j k h. let z : q + suc j ≡ q + 1 + j = omega arith in
            subst (λ y. slice_get l.code y ≡ Some (word_of k)) z (w (suc j) k h))
            (λ x h. s x (omega (arith, h))) (λ x h. e x (omega (arith, h))) (λ x h. b x (omega (arith, h))),
      )

  most_label : (l : Laid) (q : ℕ) → Rest l c → q < length l.code → AtMostLabel c q
  most_label l q r lt = by (has l.labels q) (r.labels q lt)
    where
      by : (b : Bool) → declared c q ≡ (if b then Some label_row else None) → AtMostLabel c q
      by true e = inr e
      by false e = inl e

  starts_here : (l m : Laid) (is : List Instr) → Sound l → Rest m c → AllFit is
      → m.code ≡ l.code ++ map word_of is → m.sites ≡ l.sites → m.entries ≡ l.entries → m.labels ≡ l.labels
      → Starts c (length l.code) is
  starts_here l m [] s r f ec es en el = tt
  starts_here l m (i ∷ is) s r f ec es en el =
      let o = length l.code in
      let words = λ (j : ℕ) (k : Instr) (h : slice_get (i ∷ is) j ≡ Some k).
      (ap (λ ws. slice_get ws (o + j)) ec ∙ get-right l.code (map word_of (i ∷ is)) j
      ∙ get-map (i ∷ is) j k h) in
      let o0 : o + 0 ≡ o = omega arith in
      let here = subst (λ z. slice_get m.code z ≡ Some (word_of i)) o0 (words 0 i refl) in (
        record {
          stands = word_here m o i r f.0 here (ap (λ xs. has xs o) es ∙ s.sites o (omega arith))
              (ap (λ xs. has xs o) en ∙ s.entries o (omega arith));
          label = most_label m o r (slice_get_within m.code o (word_of i) here);
        },
        run_here m r is (o + 1) f.1
            (λ j k h. let z : o + suc j ≡ o + 1 + j = omega arith in
            subst (λ y. slice_get m.code y ≡ Some (word_of k)) z (words (suc j) k h))
            (λ x h. ap (λ xs. has xs x) es ∙ s.sites x (omega (arith, h)))
            (λ x h. ap (λ xs. has xs x) en ∙ s.entries x (omega (arith, h)))
            (λ x h. ap (λ xs. has xs x) el ∙ s.labels x (omega (arith, h))),
      )

  pub within_here : (l : Laid) (q : ℕ) → Rest l c → q < length l.code → nat_lt q (length c.code) ≡ true
  within_here l q r lt =
      let w = inside l.code q lt in
      lt-ltb q (length c.code) (slice_get_within c.code q w.0 (r.code q w.0 w.1))

  module _ (spot : Spot) (low : spot.epilogue ≤ LAST_PLACE) where
    pub here : (x : Item) (l : Laid) → ItemFits x → length l.code ≤ LAST_PLACE → Sound l
        → Rest (put spot l x) c → Here c spot (length l.code) x
    unfolding put instrs
    here (does i) l f b s r = (starts_here l (put spot l (does i)) (i ∷ []) s r (f, tt) refl refl refl refl).0
    here (guards is) l f b s r =
        starts_here l (put spot l (guards is)) (instrs spot (length l.code) (length l.sites) (guards is))
        s r (
          tt,
          (
            near_operand (length l.code) FAIL_AT b (omega arith),
            fit_both is (zero_of T2 ∷ []) f
                (zero_fits, tt),
          ),
        ) refl refl refl refl
    here (goes far) l f b s r = starts_here l (put spot l (goes far))
        (instrs spot (length l.code) (length l.sites) (goes far)) s r (tt, (f, (tt, tt))) refl refl refl refl
    here (goes_if far g) l f b s r =
        starts_here l (put spot l (goes_if far g))
        (instrs spot (length l.code) (length l.sites) (goes_if far g)) s r
        (tt, (f, (tt, tt))) refl refl refl refl
    here finishes l f b s r = starts_here l (put spot l finishes)
        (instrs spot (length l.code) (length l.sites) finishes) s r
        (tt, (near_operand (length l.code) spot.epilogue b low, (tt, tt))) refl refl refl refl
    here label l f b s r = r.marked (length l.code) (label_it l.labels (length l.code))
    here site l f b s r =
        let o = length l.code in
        let n = put-length spot l site in
        let lt : o < length (put spot l site).code = omega (arith, n) in
        record {
          within = within_here (put spot l site) o r lt;
          entry = r.entries o lt ∙ s.entries o (omega arith);
          site = r.sites o lt ∙ has_it l.sites o;
          label = most_label (put spot l site) o r lt;
        }
    here entry l f b s r =
        let o = length l.code in
        let n = put-length spot l entry in
        let lt : o < length (put spot l entry).code = omega (arith, n) in
        record {
          within = within_here (put spot l entry) o r lt;
          entry = r.entries o lt ∙ has_it l.entries o;
        }
    here leaves l f b s r =
        let z = zero_fits in
        starts_here l (put spot l leaves) (instrs spot (length l.code) (length l.sites) leaves) s r
        (z, (z, (z, (z, (z, (z, (z, (z, (z, (tt, tt)))))))))) refl refl refl refl

    pub carries : (xs : List Item) (l : Laid) → ItemsFit xs → length (lay spot l xs).code ≤ LAST_PLACE
        → Sound l → Rest (lay spot l xs) c → Carries c spot (length l.code) xs
    carries [] l f b s r = tt
    carries (x ∷ xs) l f b s r =
        let m = put spot l x in
        let n = put-length spot l x in
        let e = lay-length spot xs m in
        let g = after-least xs (length m.code) in
        let k = behind-least (length l.code) x in (
          here x l f.0 (omega (arith, b, n, e, g, k)) s (rest_lay spot xs m c r),
          subst (λ q. Carries c spot q xs) n (carries xs m f.1 b (sound_put spot l x s) r),
        )
