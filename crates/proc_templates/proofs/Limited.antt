-- The component of a module that fits, and in which no name stands twice, keeps the limits.
use Rattle.std.proofs.Common.{ne_eqb, ◌≡◌, ◌≢◌, ℕ, zero, suc, ◌+◌, ◌-◌, ◌*◌, ◌≤◌, inl, inr, Bool, true, false}
use Rattle.std.proofs.Common.{List, [], ◌∷◌, ◌++◌, length, map, replicate, Option, Some, None, refl, sym, ap}
use Rattle.std.proofs.Common.{◌∙◌, subst, arith, length-append, eq-eqb, lt-ltb, true≢false, ℤ, pos, negsuc}
use Rattle.std.specs.Prelude.{if◌then◌else◌, ◌||◌, ◌==◌, nat_lt, IfSome, FitsSigned, IsTrue, option_map}
use Rattle.std.specs.Int.{w32, w64}
use Rattle.std.proofs.lemmas.Bool.{cases_lt}
use Rattle.std.proofs.lemmas.List.{length-map, length-replicate}
use Rattle.cap_words.specs.declared.TheConstants.{LAST_PLACE}
use Rattle.cap_words.specs.declared.Word.{Word}
use Rattle.cap_words.specs.declared.Word.TheVariants.{Int}
use Rattle.cap_words.specs.WordBytes.{WordFits, IsUnsealed}
use Rattle.lcm_isa.specs.declared.Instr.{Instr}
use Rattle.lcm_isa.specs.Numbers.{number_of}
use Rattle.component_file.specs.declared.TheConstants.{LAST_OFFSET, MOST_WORDS, MOST_IMPORTS, MOST_EXPORTS}
use Rattle.component_file.specs.declared.TheConstants.{MOST_SITES, MOST_ROWS}
use Rattle.component_file.specs.declared.component.Import.{Import}
use Rattle.component_file.specs.declared.component.Export.{Export}
use Rattle.component_file.specs.declared.component.KindRow.{KindRow}
use Rattle.component_file.specs.Limits.{ascends, name_lt, Chain, ImportFits, ExportFits, SiteFits}
use Rattle.component_file.specs.Limits.{KindRowFits, StretchFits, IsComponent}
use Rattle.call_sequence.specs.declared.TheConstants.{CALL_WORDS, SITE_WORDS}
use Rattle.call_sequence.proofs.Offers.{near_operand, small_operand as near}
use Rattle.call_sequence.specs.Sequences.{call_code, return_code, entry_code}
use Rattle.proc_program.specs.declared.program.Program.{Program}
use Rattle.proc_program.specs.declared.program.ProgramImport as program
use Rattle.proc_program.specs.declared.program.Procedure.{Procedure}
use Rattle.proc_language.specs.Limits as language
use Rattle.proc_program.specs.StepView.{block_of}
use Rattle.proc_language.specs.Words.{is_source_name}
use Rattle.proc_program.specs.Limits as program_limits
use Rattle.proc_program.specs.Limits.{scope_of, ProcedureFits, IsProgram}
use Rattle.proc_templates.specs.Items.{is_last, Spot, Item, Laid, does, guards, goes, goes_if, finishes}
use Rattle.proc_templates.specs.Items.{label, site, entry, leaves, instrs, zero_of, FAIL_AT, LITERAL_AT}
use Rattle.proc_templates.specs.Items.{word_of, with_label, put, lay}
use Rattle.proc_templates.specs.Templates.{proc_code, before_epilogue}
use Rattle.proc_templates.specs.Compiled.{frame_of, int_word, seals_word, size_of_proc, pair_count}
use Rattle.proc_templates.specs.Compiled.{code_words, data_count, literal_of, literal_at_of, head_of}
use Rattle.proc_templates.specs.Compiled.{lay_proc, lay_procs, laid_of, first_data, import_slots, own_slots}
use Rattle.proc_templates.specs.Compiled.{imports_of, export_into, exports_from, exports_of, row_at_label}
use Rattle.proc_templates.specs.Compiled.{component_of}
use Rattle.proc_program.specs.Calls.{part_calls}
use Rattle.proc_templates.specs.Free.{behind}
use Rattle.proc_templates.specs.Fit.{AllFit, ItemFits, ItemsFit}
use Rattle.proc_templates.specs.Kept.{FitsComponent, NamesDiffer}
use Rattle.proc_templates.proofs.Laying.{has, or_false, put-length, behind-least, lay-length}
use Rattle.proc_templates.proofs.Standing.{zero_fits, fit_both, after-least}
use Rattle.proc_templates.proofs.Whole.{AllReady, ProcReady, spot_of, proc_laid, laid-length, procs-length}
use Rattle.proc_templates.proofs.Counted.{Spaced, spaced_put}
use Rattle.proc_templates.proofs.Listed.{labels_end}
use Rattle.proc_templates.proofs.Readies.{ready, code-length}
use Rattle.lcm_isa.proofs.Offers.{number_below}
use Rattle.proc_templates.proofs.Apart.{name_too, exports_chain}
use Rattle.proc_templates.proofs.OwnRules.{imports_length, own_length, one_at_least}

-- ---- words

abbrev WordGood : Word → Type 0
WordGood w = WordFits w × IsUnsealed w

abbrev AllGood : List Word → Type 0
AllGood [] = Unit {0}
AllGood (w ∷ ws) = WordGood w × AllGood ws

good_both : (a b : List Word) → AllGood a → AllGood b → AllGood (a ++ b)
good_both [] b x y = y
good_both (w ∷ a) b x y = (x.0, good_both a b x.1 y)

each_good : (ws : List Word) (b : Option Word) → AllGood ws → Chain (λ _. WordGood) b ws
each_good [] b g = tt
each_good (w ∷ ws) b g = (g.0, each_good ws (Some w) g.1)

instrs_good : (is : List Instr) → AllFit is → AllGood (map word_of is)
instrs_good [] f = tt
instrs_good (i ∷ is) f = let h = number_below i f.0 in
    ((record { sfits = omega (arith, h) }, tt), instrs_good is f.1)

last_fits : FitsSigned w32 (negsuc 0)
last_fits = record { sfits = omega arith }

call_fits : (o k : ℕ) → o + 1 ≤ LAST_PLACE → k ≤ LAST_PLACE → AllFit (call_code LITERAL_AT o k)
unfolding call_code
call_fits o k ho hk = (
  tt,
  (
    tt,
    (
      near_operand (o + 1) LITERAL_AT ho (omega arith),
      (
        tt,
        (
          near k hk,
          (
            tt,
            (
              near 1 (omega arith),
              (tt, (last_fits, (tt, (tt, (near 6 (omega arith), (tt, (zero_fits, (zero_fits, (tt, tt))))))))),
            ),
          ),
        ),
      ),
    ),
  ),
)

return_fits : (o base : ℕ) → o + 3 ≤ LAST_PLACE → base ≤ LAST_PLACE → AllFit (return_code FAIL_AT o base)
unfolding return_code
return_fits o base ho hb = (
  tt,
  (
    tt,
    (
      near base hb,
      (
        tt,
        (
          near_operand (o + 3) FAIL_AT ho (omega arith),
          (tt, (tt, (zero_fits, (tt, (zero_fits, tt))))),
        ),
      ),
    ),
  ),
)

entry_fits : (o base : ℕ) → o ≤ LAST_PLACE → base ≤ LAST_PLACE → AllFit (entry_code FAIL_AT o base)
unfolding entry_code
entry_fits o base ho hb =
    let b = near base hb in
    let one = near 1 (omega arith) in (
      tt,
      (
        near_operand o FAIL_AT ho (omega arith),
        (
          tt,
          (
            one,
            (
              tt,
              (
                tt,
                (
                  one,
                  (
                    tt,
                    (
                      tt,
                      (
                        near 2 (omega arith),
                        (
                          tt,
                          (tt, (b, (tt, (tt, (tt, (b, (tt, (zero_fits, (zero_fits, tt))))))))),
                        ),
                      ),
                    ),
                  ),
                ),
              ),
            ),
          ),
        ),
      ),
    )

instrs_fit : (spot : Spot) (o k : ℕ) (x : Item) → ItemFits x → o ≤ MOST_WORDS → k ≤ LAST_PLACE
    → spot.epilogue ≤ LAST_PLACE → spot.stack_base ≤ LAST_PLACE → AllFit (instrs spot o k x)
unfolding instrs
instrs_fit spot o k (does i) f ho hk he hb = (f, tt)
instrs_fit spot o k (guards is) f ho hk he hb = (
  tt,
  (
    near_operand o FAIL_AT (omega (arith, ho)) (omega arith),
    fit_both is (zero_of _ ∷ []) f
        (zero_fits, tt),
  ),
)
instrs_fit spot o k (goes far) f ho hk he hb = (tt, (f, (tt, tt)))
instrs_fit spot o k (goes_if far r) f ho hk he hb = (tt, (f, (tt, tt)))
instrs_fit spot o k finishes f ho hk he hb =
    (tt, (near_operand o spot.epilogue (omega (arith, ho)) he, (tt, tt)))
instrs_fit spot o k label f ho hk he hb = tt
instrs_fit spot o k site f ho hk he hb =
    fit_both (call_code LITERAL_AT o k) _ (call_fits o k (omega (arith, ho)) hk)
    (return_fits (o + CALL_WORDS) spot.stack_base (omega (arith, ho)) hb)
instrs_fit spot o k entry f ho hk he hb = entry_fits o spot.stack_base (omega (arith, ho)) hb
instrs_fit spot o k leaves f ho hk he hb = let z = zero_fits in
    (z, (z, (z, (z, (z, (z, (z, (z, (z, (tt, tt))))))))))

-- ---- labels ascend, none of them after an offset

abbrev Rising : ℕ → List ℕ → ℕ → Type 0
Rising low [] top = low ≤ suc top
Rising low (x ∷ xs) top = (low ≤ x) × Rising (suc x) xs top

rising_more : (low : ℕ) (xs : List ℕ) (top up : ℕ) → top ≤ up → Rising low xs top → Rising low xs up
rising_more low [] top up h r = omega (arith, h, r)
rising_more low (x ∷ xs) top up h r = (r.0, rising_more (suc x) xs top up h r.1)

or_left_false : (a b : Bool) → (a || b) ≡ false → a ≡ false
or_left_false true b e = cc
or_left_false false b e = refl

or_right_false : (a b : Bool) → (a || b) ≡ false → b ≡ false
or_right_false true b e = cc
or_right_false false b e = e

rising_last : (low : ℕ) (xs : List ℕ) (o : ℕ) → low ≢ suc o → has xs o ≡ false → Rising low xs o
    → Rising low (xs ++ (o ∷ [])) o
rising_last low [] o ne e r = (le_other low o r ne, omega arith)
  where
    le_other : (a b : ℕ) → a ≤ suc b → a ≢ suc b → a ≤ b
    le_other a b h n = elim (cases_lt a (suc b)) as (λ _. a ≤ b) [
      | inl lt ↦ omega (arith, lt)
      | inr ge ↦ absurd (n (omega (arith, h, ge)))
    ]
rising_last low (x ∷ xs) o ne e r = (
  r.0,
  rising_last (suc x) xs o
      (λ g. let same : x ≡ o = omega (arith, g) in
      true≢false (sym (eq-eqb x o same) ∙ or_left_false (x == o) (has xs o) e))
      (or_right_false (x == o) (has xs o) e) r.1,
)

rising_count : (low : ℕ) (xs : List ℕ) (top : ℕ) → Rising low xs top → low + length xs ≤ suc top
rising_count low [] top r = omega (arith, r)
rising_count low (x ∷ xs) top r = let h = rising_count (suc x) xs top r.1 in let g = r.0 in
    omega (arith, h, g)

-- an offset that isn't the last of them, and before which they all stand, is none of them
not_last : (low : ℕ) (xs : List ℕ) (o : ℕ) → Rising low xs o → is_last xs o ≡ false → has xs o ≡ false
not_last low [] o r e = refl
not_last low (x ∷ []) o r e = or_false (x == o) ∙ e
not_last low (x ∷ y ∷ ys) o r e =
    let n = rising_count (suc x) (y ∷ ys) o r.1 in
    let ne = ne_eqb x o (λ k. absurd (omega (arith, k, n))) in
    rw ne (not_last (suc x) (y ∷ ys) o r.1 e)

rising_label : (xs : List ℕ) (o : ℕ) → Rising 0 xs o → Rising 0 (with_label xs o) o
rising_label xs o r = by (is_last xs o) refl
  where
    by : (t : Bool) → is_last xs o ≡ t → Rising 0 (if t then xs else xs ++ (o ∷ [])) o
    by true e = r
    by false e = rising_last 0 xs o (λ z. absurd (omega (arith, z))) (not_last 0 xs o r e) r

rising_put : (spot : Spot) (l : Laid) (x : Item) → Rising 0 l.labels (length l.code)
    → Rising 0 (put spot l x).labels (length (put spot l x).code)
unfolding put
rising_put spot l x r = by x (put-length spot l x) (behind-least (length l.code) x)
  where
    more : (x : Item) → length (put spot l x).code ≡ behind (length l.code) x
        → length l.code ≤ behind (length l.code) x → (xs : List ℕ) → Rising 0 xs (length l.code)
        → Rising 0 xs (length (put spot l x).code)
    more x n m xs s = rising_more 0 xs (length l.code) _ (omega (arith, n, m)) s

    by : (x : Item) → length (put spot l x).code ≡ behind (length l.code) x
        → length l.code ≤ behind (length l.code) x
        → Rising 0 (put spot l x).labels (length (put spot l x).code)
    by label n m = more label n m (with_label l.labels (length l.code))
        (rising_label l.labels (length l.code) r)
    by (does i) n m = more (does i) n m l.labels r
    by (guards is) n m = more (guards is) n m l.labels r
    by (goes far) n m = more (goes far) n m l.labels r
    by (goes_if far g) n m = more (goes_if far g) n m l.labels r
    by finishes n m = more finishes n m l.labels r
    by site n m = more site n m l.labels r
    by entry n m = more entry n m l.labels r
    by leaves n m = more leaves n m l.labels r

-- ---- what is laid

spaced_count : (low : ℕ) (xs : List ℕ) (top : ℕ) → Spaced low xs top → low + SITE_WORDS * length xs ≤ top
spaced_count low [] top s = omega (arith, s)
spaced_count low (x ∷ xs) top s = let h = spaced_count (x + SITE_WORDS) xs top s.1 in let g = s.0 in
    omega (arith, h, g)

record Good (l : Laid) : Type 0 where
  words : AllGood l.code
  spaced : Spaced 0 l.sites (length l.code)
  rising : Rising 0 l.labels (length l.code)

module _ (spot : Spot) (low : spot.epilogue ≤ LAST_PLACE) (base : spot.stack_base ≤ LAST_PLACE) where
  good_put : (l : Laid) (x : Item) → ItemFits x → length l.code ≤ MOST_WORDS → Good l → Good (put spot l x)
  unfolding put
  good_put l x f h g =
      let k = spaced_count 0 l.sites (length l.code) g.spaced in
      record {
        words = good_both l.code _ g.words
            (instrs_good _ (instrs_fit spot (length l.code) (length l.sites) x f h
            (omega (arith, h, k)) low base));
        spaced = spaced_put spot l x g.spaced;
        rising = rising_put spot l x g.rising;
      }

  good_lay : (xs : List Item) (l : Laid) → ItemsFit xs → length (lay spot l xs).code ≤ MOST_WORDS → Good l
      → Good (lay spot l xs)
  good_lay [] l f h g = g
  good_lay (x ∷ xs) l f h g =
      let m = put spot l x in
      let n = put-length spot l x in
      let e = lay-length spot xs m in
      let a = after-least xs (length m.code) in
      let k = behind-least (length l.code) x in
      good_lay xs m f.1 h (good_put l x f.0 (omega (arith, h, n, e, a, k)) g)

module _ (m : Program) (stack : m.stack ≤ LAST_PLACE) where
  good_proc : (l : Laid) (p : Procedure) → ProcReady m p → length (lay_proc m l p).code ≤ MOST_WORDS → Good l
      → Good (lay_proc m l p)
  unfolding before_epilogue frame_of
  good_proc l p r h g =
      let e = laid-length m l p r in
      let n = ap (λ (x : Laid). length x.code) (proc_laid m l p) in
      subst Good (sym (proc_laid m l p))
      (good_lay (spot_of m l p) (omega (arith, e, h)) stack
      (proc_code (frame_of m p) p.callbacks (block_of p.body)) l r.items (omega (arith, n, h)) g)

  good_procs : (ps : List Procedure) (l : Laid) → AllReady m ps → length (lay_procs m l ps).code ≤ MOST_WORDS
      → Good l → Good (lay_procs m l ps)
  good_procs [] l r h g = g
  good_procs (p ∷ ps) l r h g =
      let e = procs-length m ps (lay_proc m l p) r.1 in
      let last : length (lay_procs m (lay_proc m l p) ps).code ≤ MOST_WORDS = h in
      good_procs ps (lay_proc m l p) r.1 h (good_proc l p r.0 (omega (arith, e, last)) g)

-- ---- data

same_good : (n : ℕ) (z : ℤ) → FitsSigned w64 z → AllGood (replicate n (Int z))
same_good zero z f = tt
same_good (suc n) z f = ((f, tt), same_good n z f)

globals_good : (zs : List ℤ) → language.Each (FitsSigned w64) zs → AllGood (map int_word zs)
globals_good [] f = tt
globals_good (z ∷ zs) f = ((f.0, tt), globals_good zs f.1)

data_words_good : (m : Program) → IsProgram m → AllGood (first_data m)
unfolding first_data
data_words_good m f =
    good_both (replicate (pair_count m) (Int (pos 0))) (map int_word m.globals)
    (same_good (pair_count m) (pos 0) (record { sfits = omega arith })) (globals_good m.globals f.globals)

pub data-length : (m : Program) → length (first_data m) ≡ data_count m
unfolding first_data data_count
data-length m =
    length-append (replicate (pair_count m) (Int (pos 0))) (map int_word m.globals)
    ∙ (let a = length-replicate (pair_count m) (Int (pos 0)) in let b = length-map m.globals int_word in
    omega (arith, a, b))

-- ---- slots

imports_chain : (xs : List program.ProgramImport) (s : ℕ) (before : Option Import) (ys : List Import)
    → language.Each program_limits.LoweredImportFits xs → s + 2 * length xs ≤ LAST_OFFSET
    → IsTrue (ascends nat_lt (option_map (λ (b : Import). b.slot) before) s)
    → ((b : Option Import) → IsTrue
    (ascends nat_lt (option_map (λ (b : Import). b.slot) b) (s + 2 * length xs)) → Chain ImportFits b ys)
    → Chain ImportFits before (import_slots s xs ++ ys)
imports_chain [] s before ys f h a k =
    k before (let e : s ≡ s + 2 * 0 = omega arith in
    subst (λ n. IsTrue (ascends nat_lt (option_map (λ (b : Import). b.slot) before) n)) e a)
imports_chain (x ∷ xs) s before ys f h a k =
    let e : s + 2 + 2 * length xs ≡ s + 2 * suc (length xs) = omega arith in (
      (name_too x.part f.0.part, name_too x.name f.0.name, omega (arith, h), a),
      imports_chain xs (s + 2) (Some _) ys f.1 (omega (arith, h)) (lt-ltb s (s + 2) (omega arith))
          (λ b g. k b (subst (λ n. IsTrue (ascends nat_lt (option_map (λ (b : Import). b.slot) b) n)) e g)),
    )

own_chain : (s0 : program_limits.Scope) (part : List ℕ) (named : IsTrue (is_source_name part))
    (ps : List Procedure)
    (s : ℕ) (before : Option Import) → language.Each (ProcedureFits s0) ps
    → s + 2 * length ps ≤ LAST_OFFSET + 1
    → IsTrue (ascends nat_lt (option_map (λ (b : Import). b.slot) before) s)
    → Chain ImportFits before (own_slots part s ps)
own_chain s0 part named [] s before f h a = tt
own_chain s0 part named (p ∷ ps) s before f h a = (
  (name_too part named, name_too p.name f.0.name, omega (arith, h), a),
  own_chain s0 part named ps (s + 2) (Some _) f.1 (omega (arith, h)) (lt-ltb s (s + 2) (omega arith)),
)

into-length : (e : Export) (es : List Export) → length (export_into e es) ≡ suc (length es)
into-length e [] = refl
into-length e (x ∷ xs) = by (name_lt e.name x.name) (into-length e xs)
  where
    by : (t : Bool) → length (export_into e xs) ≡ suc (length xs)
        → length (if t then e ∷ x ∷ xs else x ∷ export_into e xs) ≡ suc (suc (length xs))
    by true k = refl
    by false k = ap suc k

exports-length : (o : ℕ) (ps : List Procedure) → length (exports_from o ps) ≡ length ps
exports-length o [] = refl
exports-length o (p ∷ ps) = into-length _ (exports_from (o + size_of_proc p) ps)
    ∙ ap suc (exports-length (o + size_of_proc p) ps)

-- ---- sites and rows

sites_chain : (low : ℕ) (xs : List ℕ) (top : ℕ) (before : Option ℕ) → top ≤ MOST_WORDS
    → ((x : ℕ) → low ≤ x → IsTrue (ascends nat_lt before x)) → Spaced low xs top → Chain SiteFits before xs
sites_chain low [] top before h a s = tt
sites_chain low (x ∷ xs) top before h a s =
    let n = spaced_count (x + SITE_WORDS) xs top s.1 in (
      (omega (arith, n, h), a x s.0),
      sites_chain (x + SITE_WORDS) xs top (Some x) h
          (λ y le. lt-ltb x y (omega (arith, le))) s.1,
    )

rows_chain : (low : ℕ) (xs : List ℕ) (top : ℕ) (before : Option KindRow) → top ≤ LAST_OFFSET
    → ((x : ℕ) → low ≤ x → IsTrue (ascends nat_lt (option_map (λ (b : KindRow). b.offset) before) x))
    → Rising low xs top → Chain KindRowFits before (map row_at_label xs)
rows_chain low [] top before h a r = tt
rows_chain low (x ∷ xs) top before h a r =
    let n = rising_count (suc x) xs top r.1 in (
      (
        omega (arith, n, h),
        a x r.0,
        (
          refl,
          (
            tt,
            (
              tt,
              (
                tt,
                (
                  tt,
                  (
                    tt,
                    (tt, (tt, (tt, (tt, (tt, (tt, (tt, (tt, (tt, (tt, tt)))))))))),
                  ),
                ),
              ),
            ),
          ),
        ),
      ),
      rows_chain (suc x) xs top (Some (row_at_label x)) h (λ y le. lt-ltb x y (omega (arith, le))) r.1,
    )

-- the last of them isn't where nothing stands
rising_less : (low : ℕ) (xs : List ℕ) (top : ℕ) → low ≤ suc top → ((x : ℕ) → suc top ≤ x → has xs x ≡ false)
    → Rising low xs (suc top) → Rising low xs top
rising_less low [] top l h r = l
rising_less low (x ∷ xs) top l h r =
    (r.0, rising_less (suc x) xs top small (λ y le. or_right_false (x == y) (has xs y) (h y le)) r.1)
  where
    small : suc x ≤ suc top
    small = elim (cases_lt x (suc top)) as (λ _. suc x ≤ suc top) [
      | inl lt ↦ omega (arith, lt)
      | inr ge ↦ absurd (true≢false (sym (eq-eqb x x refl) ∙ or_left_false (x == x) (has xs x) (h x ge)))
    ]

-- ---- the component

module _ (m : Program) (f : FitsComponent m) (named : NamesDiffer m.procs)
    (seals : part_calls m ≤ m.header.return_count) where
  code : length (laid_of m).code ≤ MOST_WORDS
  code = let n = code-length m f in let h = f.code in omega (arith, n, h)

  literal_good : WordGood (literal_of m)
  literal_good = by (part_calls m == 0) refl
    where
      by : (t : Bool) → (part_calls m == 0) ≡ t → WordGood (if t then Int (pos 0) else seals_word m.header)
      by true e = (record { sfits = omega arith }, tt)
      by false e =
          let some = one_at_least (part_calls m) m.header.return_count e seals in
          let r = f.limits.header.returns in
          let a = r.0 in
          let b = r.2 in
          (((omega (arith, some), omega (arith, some, b)), record { sfits = omega (arith, a) }), tt)

  head_good : Good (head_of m)
  unfolding number_of
  head_good = record {
    words = ((record { sfits = omega arith }, tt), (literal_good, tt));
    spaced = omega arith;
    rising = omega arith;
  }

  good : Good (laid_of m)
  unfolding laid_of
  good = good_procs m f.limits.stack m.procs (head_of m) (ready m f) code head_good

  code-some : 1 ≤ length (laid_of m).code
  unfolding code_words
  code-some = let n = code-length m f in omega (arith, n)

  data-some : 1 ≤ length (first_data m)
  unfolding data_count
  data-some = let n = data-length m in let h = f.limits.some in omega (arith, n, h)

  pairs : 2 * (length m.imports + length m.procs) ≤ LAST_OFFSET
  pairs = let a = f.limits.imports.0 in let b = f.limits.procs.0 in omega (arith, a, b)

  imports_fit : (length (imports_of m) ≤ MOST_IMPORTS) × Chain ImportFits None (imports_of m)
  unfolding imports_of
  imports_fit =
      let a = f.limits.imports.0 in let b = f.limits.procs.0 in let h = pairs in
      let e = length-append (import_slots 0 m.imports) (own_slots m.name (2 * length m.imports) m.procs) in
      let x = imports_length 0 m.imports in let y = own_length m.name (2 * length m.imports) m.procs in (
        omega (arith, e, x, y, a, b),
        imports_chain m.imports 0 None (own_slots m.name (2 * length m.imports) m.procs) f.limits.imports.1
            (omega (arith, h)) refl
            (λ before g. own_chain (scope_of m) m.name f.limits.name m.procs
            (2 * length m.imports) before f.limits.procs.1 (omega (arith, h))
            (let n : 0 + 2 * length m.imports ≡ 2 * length m.imports = omega arith in
            subst (λ n. IsTrue (ascends nat_lt (option_map (λ (b : Import). b.slot) before) n)) n g)),
      )

  exports_fit : (length (exports_of m) ≤ MOST_EXPORTS) × Chain ExportFits None (exports_of m)
  unfolding exports_of code_words
  exports_fit =
      let b = f.limits.procs.0 in
      let n = exports-length 2 m.procs in
      (omega (arith, n, b), exports_chain m m.procs 2 f.limits.procs.1 named f.code)

  sites_fit : (length (laid_of m).sites ≤ MOST_SITES) × Chain SiteFits None (laid_of m).sites
  sites_fit =
      let n = spaced_count 0 (laid_of m).sites (length (laid_of m).code) good.spaced in
      let h = code in (
        omega (arith, n, h),
        sites_chain 0 (laid_of m).sites (length (laid_of m).code) None code
            (λ x h. refl) good.spaced,
      )

  labels_rise : Rising 0 (laid_of m).labels (length (laid_of m).code - 1)
  labels_rise =
      let s = code-some in
      let e : length (laid_of m).code ≡ suc (length (laid_of m).code - 1) = omega (arith, s) in
      rising_less 0 (laid_of m).labels (length (laid_of m).code - 1) (omega arith)
      (λ x h. labels_end m (ready m f) code x (omega (arith, h, s)))
      (subst (Rising 0 (laid_of m).labels) e good.rising)

  rows_fit : (length (map row_at_label (laid_of m).labels) ≤ MOST_ROWS)
      × Chain KindRowFits None (map row_at_label (laid_of m).labels)
  rows_fit =
      let n = rising_count 0 (laid_of m).labels (length (laid_of m).code - 1) labels_rise in
      let k = mapped-length (laid_of m).labels in
      let h = code in (
        omega (arith, n, k, h),
        rows_chain 0 (laid_of m).labels (length (laid_of m).code - 1) None
            (omega (arith, h)) (λ x h. refl) labels_rise,
      )
    where
      mapped-length : (ls : List ℕ) → length (map row_at_label ls) ≡ length ls
      mapped-length [] = refl
      mapped-length (l ∷ ls) = ap suc (mapped-length ls)

  seals_fit : StretchFits (if m.header.return_count == 0 then 0 else m.header.returns) m.header.return_count
  seals_fit =
      let r = f.limits.header.returns in
      let b = r.1 in
      (omega (arith, b), by (m.header.return_count == 0))
    where
      by : (t : Bool) → (if t then 0 else m.header.returns) ≤ (if t then 0 else LAST_PLACE)
      by true = omega arith
      by false = f.limits.header.returns.0

  literal_at : IfSome (literal_at_of m) (λ o. o ≤ LAST_OFFSET)
  literal_at = by (part_calls m == 0)
    where
      by : (t : Bool) → IfSome (if t then None else Some LITERAL_AT) (λ o. o ≤ LAST_OFFSET)
      by true = tt
      by false = omega arith

  pub limits_kept : IsComponent (component_of m)
  unfolding component_of
  limits_kept = record {
    name = name_too m.name f.limits.name;
    stack_base = f.limits.stack;
    closure = f.limits.header.closure;
    seals = seals_fit;
    linear = (omega arith, omega arith);
    code_base = f.limits.header.code;
    code = ((code-some, code), each_good (laid_of m).code None good.words);
    data_base = f.limits.header.data_base;
    data_words = (
      (data-some, (let n = data-length m in let h = f.data_words in omega (arith, n, h))),
      each_good (first_data m) None data_good,
    );
    imports = imports_fit;
    exports = exports_fit;
    sites = sites_fit;
    fail_at = omega arith;
    literal_at = literal_at;
    rows = rows_fit;
  }
    where
      data_good : AllGood (first_data m)
      data_good = data_words_good m f.limits
