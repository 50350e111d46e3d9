-- The walk over a procedure.
use Rattle.std.proofs.lemmas.Bool.{and_parts}
use Rattle.std.proofs.Common.{◌≡◌, ℕ, zero, suc, ◌+◌, ◌-◌, ◌*◌, ◌≤◌, Bool, true, false, List, [], ◌∷◌, ◌++◌}
use Rattle.std.proofs.Common.{length, take, Some, None, refl, sym, ap, ◌∙◌, subst, arith, length-append}
use Rattle.std.specs.Prelude.{replicate}
use Rattle.std.specs.List.{list_all}
use Rattle.component_file.specs.declared.TheConstants.{LAST_OFFSET}
use Rattle.component_file.specs.declared.component.ComponentFields.{ComponentFields}
use Rattle.lcm_isa.specs.declared.Reg.{Reg}
use Rattle.lcm_isa.specs.declared.Reg.TheVariants.{Rcode, Rdata, T1, A0, A1, A2, A3}
use Rattle.call_sequence.specs.declared.TheConstants.{ENTRY_WORDS}
use Rattle.proc_program.specs.Program.{Block}
use Rattle.proc_program.specs.Limits.{register_count, registers_of}
use Rattle.call_sequence.specs.declared.flow.Walk.TheVariants.{Before as before}
use Rattle.call_sequence.specs.Places.{declared}
use Rattle.call_sequence.specs.Walk.{Arrives}
use Rattle.proc_templates.specs.declared.FrameShape.{FrameShape}
use Rattle.proc_templates.specs.Items.{Spot, Item, does, label, entry, leaves, zero_of, FAIL_AT}
use Rattle.proc_templates.specs.Templates.{block_words, block_code, arguments, check_words, checks_words}
use Rattle.proc_templates.specs.Templates.{check_param, check_params, pushed, push, wipe, take_back, epilogue}
use Rattle.proc_templates.specs.Templates.{proc_code, before_epilogue, proc_words}
use Rattle.proc_templates.specs.Compiled.{label_row}
use Rattle.proc_templates.specs.Ready.{is_low, is_quiet}
use Rattle.proc_templates.specs.Free.{ends_or_goes, is_free, after}
use Rattle.proc_templates.proofs.Onwards.{Onward, clears, clear_quiet, leave, over_entry}
use Rattle.proc_templates.proofs.Carried.{Carries, carries_left, carries_right, over_all}
use Rattle.proc_templates.proofs.Sizes.{Long, nothing, same_size, both, one, guard, mark, after-append}
use Rattle.proc_templates.proofs.Sizes.{block-size}
use Rattle.proc_templates.proofs.Frees.{params_free, push_free, wipe_free}
use Rattle.proc_templates.proofs.Bodies.{over_block}

-- ---- sizes

param-size : (i : ℕ) (b : Bool) (xs : List Item) (n : ℕ) → Long xs n
    → Long (check_param i b ∷ xs) (check_words b + n)
param-size i false xs n l = one _ xs n l
param-size i true xs n l = guard _ xs n l

params-size : (ps : List Bool) (i : ℕ) → Long (check_params i ps) (checks_words ps)
params-size [] i = nothing
params-size (b ∷ bs) i = param-size i b _ (checks_words bs) (params-size bs (i + register_count b))

push-size : (rs : List Reg) → Long (push rs) (2 * length rs)
push-size [] = nothing
push-size (r ∷ rs) = same_size _ _ _ (omega arith) (one _ _ _ (one _ _ _ (push-size rs)))

wipe-size : (n : ℕ) → Long (wipe n) (2 * n)
wipe-size zero = nothing
wipe-size (suc n) = same_size _ _ _ (omega arith) (one _ _ _ (one _ _ _ (wipe-size n)))

-- ---- the last words

module _ (c : ComponentFields) (spot : Spot) where
  over_leaves : (o : ℕ) → Carries c spot o (leaves ∷ []) → Onward c o → Arrives c (before (o + 10) None)
  unfolding is_quiet
  over_leaves o h on =
      let e : o + 1 + 1 + 1 + 1 + 1 + 1 + 1 + 1 + 1 + 1 ≡ o + 10 = omega arith in
      let s = h.0 in
      let t1 = s.1 in
      let t2 = t1.1 in
      let t3 = t2.1 in
      let t4 = t3.1 in
      let t5 = t4.1 in
      let t6 = t5.1 in
      let t7 = t6.1 in
      let t8 = t7.1 in
      let k0 = clears c o s.0.stands s.0.label on in
      let k1 = clear_quiet c _ _ t1.0.stands t1.0.bare refl k0 in
      let k2 = clear_quiet c _ _ t2.0.stands t2.0.bare refl k1 in
      let k3 = clear_quiet c _ _ t3.0.stands t3.0.bare refl k2 in
      let k4 = clear_quiet c _ _ t4.0.stands t4.0.bare refl k3 in
      let k5 = clear_quiet c _ _ t5.0.stands t5.0.bare refl k4 in
      let k6 = clear_quiet c _ _ t6.0.stands t6.0.bare refl k5 in
      let k7 = clear_quiet c _ _ t7.0.stands t7.0.bare refl k6 in
      let k8 = clear_quiet c _ _ t8.0.stands t8.0.bare refl k7 in
      subst (λ z. Arrives c (before z None)) e (leave c _ t8.1.0.stands t8.1.0.bare k8)

-- ---- what is pushed

low_both : (a b : List Reg) → list_all is_low a ≡ true → list_all is_low b ≡ true
    → list_all is_low (a ++ b) ≡ true
low_both [] b x y = y
low_both (r ∷ a) b x y = rw ((and_parts (is_low r) (list_all is_low a) x).0)
    (low_both a b ((and_parts (is_low r) (list_all is_low a) x).1) y)

take_none : (n : ℕ) → take {A = Reg} n [] ≡ []
take_none zero = refl
take_none (suc n) = refl

args_low : (n : ℕ) → list_all is_low (take n arguments) ≡ true
args_low zero = refl
args_low (suc zero) = refl
args_low (suc (suc zero)) = refl
args_low (suc (suc (suc zero))) = refl
args_low (suc (suc (suc (suc n)))) = ap (λ xs. list_all is_low (A0 ∷ A1 ∷ A2 ∷ A3 ∷ xs)) (take_none n)

t1_low : (n : ℕ) → list_all is_low (replicate n T1) ≡ true
t1_low zero = refl
t1_low (suc n) = t1_low n

pub pushed_low : (n w : ℕ) → list_all is_low (pushed n w) ≡ true
pushed_low n w = low_both (take n arguments) (replicate (w - (2 + n)) T1) (args_low n) (t1_low (w - (2 + n)))

replicate-length : (n : ℕ) → length (replicate n T1) ≡ n
replicate-length zero = refl
replicate-length (suc n) = ap suc (replicate-length n)

args-length : (n : ℕ) → n ≤ 4 → length (take n arguments) ≡ n
args-length zero h = refl
args-length (suc zero) h = refl
args-length (suc (suc zero)) h = refl
args-length (suc (suc (suc zero))) h = refl
args-length (suc (suc (suc (suc n)))) h = let e : n ≡ 0 = omega (arith, h) in rw e refl

pushed-length : (n w : ℕ) → n ≤ 4 → 2 + n ≤ w → length (pushed n w) ≡ w
pushed-length n w h g =
    let e1 = args-length n h in
    let e2 = replicate-length (w - (2 + n)) in
    let e3 = length-append (take n arguments) (replicate (w - (2 + n)) T1) in
    omega (arith, e1, e2, e3, g)

last_size : Long (leaves ∷ []) 10
last_size = record { by = λ q. refl }

entry_size : (xs : List Item) (n : ℕ) → Long xs n → Long (entry ∷ xs) (ENTRY_WORDS + n)
entry_size xs n l = record { by = λ q. l.by (q + ENTRY_WORDS) ∙ omega arith }

-- ---- the whole

-- the numbers of a frame are in order: the parameters' slots are among its words
pub record FrameFits (f : FrameShape) (params : List Bool) : Type 0 where
  pub few : registers_of params ≤ 4
  pub room : 2 + registers_of params ≤ f.words

module _ (f : FrameShape) (params : List Bool) (fits : FrameFits f params) where
  head-size : Long (push (pushed (registers_of params) f.words)) (2 * f.words)
  head-size = same_size _ _ _ (ap (λ n. 2 * n)
      (pushed-length (registers_of params) f.words fits.few fits.room))
      (push-size (pushed (registers_of params) f.words))

  epilogue-size : Long (epilogue f.words) (2 * f.words + 13)
  epilogue-size =
      let r = fits.room in
      same_size _ _ _ (omega (arith, r))
      (one _ _ _ (both (wipe (f.words - 2)) _ _ _ (wipe-size (f.words - 2))
      (one _ _ _ (one _ _ _ (one _ _ _ (one _ _ _ (one _ _ _ (one _ _ 10 last_size))))))))

  pub proc-size : (body : Block) → Long (proc_code f params body) (proc_words f.words params body)
  proc-size body =
      same_size _ _ _ (omega arith)
      (entry_size _ _ (both _ _ (checks_words params) _ (params-size params 0)
      (both _ _ (2 * f.words) _ head-size
      (both _ _ (block_words body) _ (block-size f body) (one _ _ _ (mark _ _ epilogue-size))))))

module _ (c : ComponentFields) (fails : c.fail_at ≡ Some FAIL_AT) (spot : Spot)
    (low : spot.epilogue ≤ LAST_OFFSET) where
  over_epilogue : (w o : ℕ) → Carries c spot o (epilogue w) → Onward c o
      → Arrives c (before (after o (epilogue w)) None)
  unfolding is_free ends_or_goes is_quiet
  over_epilogue w o h on =
      let X : List Item = does (zero_of T1) ∷ wipe (w - 2) in
      let Y : List Item = take_back Rdata ++ take_back Rcode in
      let q = after o X in
      let hy = carries_right c spot o X (Y ++ (leaves ∷ [])) h in
      let on1 = over_all c fails spot o X (carries_left c spot o X (Y ++ (leaves ∷ [])) h)
      (wipe_free (w - 2)) on in
      let on2 = over_all c fails spot q Y (carries_left c spot q Y (leaves ∷ []) hy) refl on1 in
      let e : after o (epilogue w) ≡ after q Y + 10 = after-append o X (Y ++ (leaves ∷ [])) in
      subst (λ z. Arrives c (before z None)) (sym e)
      (over_leaves c spot (after q Y) (carries_right c spot q Y (leaves ∷ []) hy) on2)

  pub over_proc : (f : FrameShape) (params : List Bool) (body : Block) → FrameFits f params → (o : ℕ)
      → spot.epilogue ≡ o + before_epilogue f params body
      → Carries c spot o (proc_code f params body) → Arrives c (before o None)
      → Arrives c (before (after o (proc_code f params body)) None)
  unfolding before_epilogue is_free ends_or_goes is_quiet
  over_proc f params body fits o at h on =
      let P = check_params 0 params in
      let U = push (pushed (registers_of params) f.words) in
      let B = block_code f body in
      let E : List Item = does (zero_of A0) ∷ label ∷ epilogue f.words in
      let o1 = o + ENTRY_WORDS in
      let o2 = after o1 P in
      let o3 = after o2 U in
      let o4 = after o3 B in
      let h1 : Carries c spot o1 (P ++ (U ++ (B ++ E))) = h.1 in
      let h2 = carries_right c spot o1 P (U ++ (B ++ E)) h1 in
      let h3 = carries_right c spot o2 U (B ++ E) h2 in
      let h4 = carries_right c spot o3 B E h3 in
      let e2 : o2 ≡ o1 + checks_words params = (params-size params 0).by o1 in
      let e3 : o3 ≡ o2 + 2 * f.words = (head-size f params fits).by o2 in
      let e4 : o4 ≡ o3 + block_words body = (block-size f body).by o3 in
      let there : spot.epilogue ≡ o4 + 1 = omega (arith, at, e2, e3, e4) in
      let ends : declared c spot.epilogue ≡ Some label_row = ap (declared c) there ∙ h4.1.0 in
      let on1 = over_entry c o h.0 on in
      let on2 = over_all c fails spot o1 P (carries_left c spot o1 P (U ++ (B ++ E)) h1)
      (params_free params 0) on1 in
      let on3 = over_all c fails spot o2 U (carries_left c spot o2 U (B ++ E) h2)
      (push_free (pushed (registers_of params) f.words) (pushed_low (registers_of params) f.words)) on2 in
      let on4 = over_block c fails spot low ends f body o3 (carries_left c spot o3 B E h3)
      (omega (arith, there)) on3 in
      let on5 = over_all c fails spot o4 (does (zero_of A0) ∷ label ∷ []) (h4.0, (h4.1.0, tt)) refl on4 in
      let last = over_epilogue f.words (o4 + 1) h4.1.1 on5 in
      let e : after o (proc_code f params body) ≡ after (o4 + 1) (epilogue f.words) =
      after-append o1 P (U ++ (B ++ E)) ∙ after-append o2 U (B ++ E) ∙ after-append o3 B E in
      subst (λ z. Arrives c (before z None)) (sym e) last
