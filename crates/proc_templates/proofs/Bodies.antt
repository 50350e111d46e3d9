-- The walk over the statements of a body.
use Rattle.std.proofs.Common.{◌≡◌, ℕ, ◌+◌, ◌≤◌, List, [], ◌∷◌, ◌++◌, Some, refl, sym, ◌∙◌, subst, arith, pos}
use Rattle.component_file.specs.declared.TheConstants.{LAST_OFFSET}
use Rattle.component_file.specs.declared.component.ComponentFields.{ComponentFields}
use Rattle.lcm_isa.specs.declared.Reg.TheVariants.{G0}
use Rattle.call_sequence.specs.Sequences.{distance}
use Rattle.proc_program.specs.Program.{Statement, Set, SetAt, Do, If, While, Return, Halt}
use Rattle.proc_program.specs.Program.{Block, no_steps, step}
use Rattle.call_sequence.specs.Places.{declared}
use Rattle.proc_templates.specs.Items.{Spot, Item, does, goes, goes_if, finishes, label, FAIL_AT}
use Rattle.proc_templates.specs.declared.FrameShape.{FrameShape}
use Rattle.proc_templates.specs.Templates.{exp_words, block_words, code, answer, step_code, block_code}
use Rattle.proc_templates.specs.Templates.{if_code}
use Rattle.proc_templates.specs.Compiled.{label_row}
use Rattle.proc_templates.specs.Ready.{is_quiet}
use Rattle.proc_templates.specs.Free.{is_guarded, ends_or_goes, is_free, after}
use Rattle.proc_templates.proofs.Onwards.{Onward, label_target}
use Rattle.proc_templates.proofs.Carried.{Carries, carries_left, carries_right, over_all, over_go, over_go_if}
use Rattle.proc_templates.proofs.Carried.{led_on, led_back, led_there}
use Rattle.proc_templates.proofs.Sizes.{Long, after-append, code-size, block-size}
use Rattle.proc_templates.proofs.Frees.{AllFree, all_both, code_free, store_var_free}

module _ (c : ComponentFields) (fails : c.fail_at ≡ Some FAIL_AT) (spot : Spot)
    (low : spot.epilogue ≤ LAST_OFFSET) (ends : declared c spot.epilogue ≡ Some label_row) where
  -- from before items to after them
  abbrev Over : List Item → Type 0
  Over xs = (q : ℕ) → Carries c spot q xs → after q xs ≤ spot.epilogue → Onward c q → Onward c (after q xs)

  free_over : (xs : List Item) → AllFree xs → Over xs
  free_over xs f q h b on = over_all c fails spot q xs h f on

  over_if : (cs bs ds : List Item) (x m n : ℕ) → AllFree cs → Long cs x → Long bs m → Long ds n → Over bs
      → Over ds → Over (if_code cs bs m ds n)
  over_if cs bs ds x m n fc lc lb ld ob od o h bound on =
      let behind_block : List Item = goes (pos (n + 3)) ∷ label ∷ (ds ++ (label ∷ [])) in
      let behind_test : List Item = goes_if (pos 6) G0 ∷ goes (pos (m + 6)) ∷ label ∷ (bs ++ behind_block) in
      let q = after o cs in
      let hr = carries_right c spot o cs behind_test h in
      let hb = carries_left c spot (q + 3 + 3) bs behind_block hr.1.1.1 in
      let r = after (q + 3 + 3) bs in
      let hr2 = carries_right c spot (q + 3 + 3) bs behind_block hr.1.1.1 in
      let hd = carries_left c spot (r + 3) ds (label ∷ []) hr2.1.1 in
      let e = after (r + 3) ds in
      let he = carries_right c spot (r + 3) ds (label ∷ []) hr2.1.1 in
      let whole : after o (if_code cs bs m ds n) ≡ e = after-append o cs behind_test
      ∙ after-append (q + 3 + 3) bs behind_block
      ∙ after-append (r + 3) ds (label ∷ []) in
      let er : r ≡ q + 3 + 3 + m = lb.by (q + 3 + 3) in
      let ee : e ≡ r + 3 + n = ld.by (r + 3) in
      let last : e ≤ spot.epilogue = subst (λ z. z ≤ spot.epilogue) whole bound in
      let on1 : Onward c q = over_all c fails spot o cs (carries_left c spot o cs behind_test h) fc on in
      let on2 : Onward c (q + 3) = over_go_if c q (q + 3 + 3) (pos 6) G0 refl hr.0
      (led_on q 6 (q + 3 + 3) (omega arith) (omega (arith, er, ee, last, low)))
      (label_target c (q + 3 + 3) hr.1.1.0) on1 in
      let on3 : Onward c (q + 3 + 3) =
      over_go c (q + 3) (r + 3) (pos (m + 6)) hr.1.0
      (led_on (q + 3) (m + 6) (r + 3) (omega (arith, er)) (omega (arith, ee, last, low)))
      (label_target c (r + 3) hr2.1.0) on2 in
      let on4 : Onward c r = ob (q + 3 + 3) hb (omega (arith, ee, last)) on3 in
      let on5 : Onward c (r + 3) = over_go c r e (pos (n + 3)) hr2.0
      (led_on r (n + 3) e (omega (arith, ee)) (omega (arith, last, low))) (label_target c e he.0) on4 in
      let on6 : Onward c e = od (r + 3) hd last on5 in
      subst (Onward c) (sym whole) on6

  over_while : (cs bs : List Item) (x m : ℕ) → AllFree cs → Long cs x → Long bs m → Over bs
      → Over (label ∷ (cs ++ (goes_if (pos 6) G0 ∷ goes (pos (m + 6)) ∷ label
      ∷ (bs ++ (goes (distance (x + 6 + m) 0) ∷ label ∷ [])))))
  over_while cs bs x m fc lc lb ob o h bound on =
      let behind_block : List Item = goes (distance (x + 6 + m) 0) ∷ label ∷ [] in
      let behind_test : List Item = goes_if (pos 6) G0 ∷ goes (pos (m + 6)) ∷ label ∷ (bs ++ behind_block) in
      let q = after o cs in
      let hr = carries_right c spot o cs behind_test h.1 in
      let hb = carries_left c spot (q + 3 + 3) bs behind_block hr.1.1.1 in
      let r = after (q + 3 + 3) bs in
      let hr2 = carries_right c spot (q + 3 + 3) bs behind_block hr.1.1.1 in
      let whole : after o (cs ++ behind_test) ≡ r + 3 = after-append o cs behind_test
      ∙ after-append (q + 3 + 3) bs behind_block in
      let eq : q ≡ o + x = lc.by o in
      let er : r ≡ q + 3 + 3 + m = lb.by (q + 3 + 3) in
      let last : r + 3 ≤ spot.epilogue = subst (λ z. z ≤ spot.epilogue) whole bound in
      let on1 : Onward c q = over_all c fails spot o cs (carries_left c spot o cs behind_test h.1) fc on in
      let on2 : Onward c (q + 3) = over_go_if c q (q + 3 + 3) (pos 6) G0 refl hr.0
      (led_on q 6 (q + 3 + 3) (omega arith) (omega (arith, er, last, low)))
      (label_target c (q + 3 + 3) hr.1.1.0) on1 in
      let on3 : Onward c (q + 3 + 3) =
      over_go c (q + 3) (r + 3) (pos (m + 6)) hr.1.0
      (led_on (q + 3) (m + 6) (r + 3) (omega (arith, er)) (omega (arith, last, low)))
      (label_target c (r + 3) hr2.1.0) on2 in
      let on4 : Onward c r = ob (q + 3 + 3) hb (omega (arith, last)) on3 in
      let on5 : Onward c (r + 3) = over_go c r o (distance (x + 6 + m) 0) hr2.0
      (led_back r (x + 6 + m) o (omega (arith, eq, er)) (omega (arith, eq, er, last, low)))
      (label_target c o h.0) on4 in
      subst (Onward c) (sym whole) on5

  over_return : (cs : List Item) → AllFree cs → Over (cs ++ (does answer ∷ finishes ∷ []))
  unfolding is_free is_guarded ends_or_goes is_quiet
  over_return cs fc o h bound on =
      let ending : List Item = does answer ∷ finishes ∷ [] in
      let q = after o cs in
      let hr = carries_right c spot o cs ending h in
      let on1 : Onward c q = over_all c fails spot o cs (carries_left c spot o cs ending h) fc on in
      let on2 : Onward c (q + 1) = over_all c fails spot q (does answer ∷ []) (hr.0, tt) refl on1 in
      let on3 : Onward c (q + 1 + 3) =
      over_go c (q + 1) spot.epilogue (distance (q + 1) spot.epilogue) hr.1.0
      (led_there (q + 1) spot.epilogue low) (label_target c spot.epilogue ends) on2 in
      subst (Onward c) (sym (after-append o cs ending)) on3

  mutual
    unfolding is_free is_guarded ends_or_goes is_quiet

    pub over_stmt : (f : FrameShape) (s : Statement) → Over (step_code f s)
    over_stmt f (Set x e) = free_over _
        (all_both (code f f.temps e) _ (code_free f e f.temps) (store_var_free f x))
    over_stmt f (SetAt x i e) =
        free_over _ (all_both (code f f.temps i) _ (code_free f i f.temps)
        (all_both (code f (f.temps + 1) e) _ (code_free f e (f.temps + 1)) refl))
    over_stmt f (Do e) = free_over _ (code_free f e f.temps)
    over_stmt f (If k b d) = over_if (code f f.temps k) (block_code f b) (block_code f d) (exp_words k)
        (block_words b) (block_words d) (code_free f k f.temps) (code-size f k f.temps) (block-size f b)
        (block-size f d) (over_block f b) (over_block f d)
    over_stmt f (While k b) = over_while (code f f.temps k) (block_code f b) (exp_words k) (block_words b)
        (code_free f k f.temps) (code-size f k f.temps) (block-size f b) (over_block f b)
    over_stmt f (Return e) = over_return (code f f.temps e) (code_free f e f.temps)
    over_stmt f (Halt e) = free_over _ (all_both (code f f.temps e) _ (code_free f e f.temps) refl)

    pub over_block : (f : FrameShape) (b : Block) → Over (block_code f b)
    over_block f no_steps o h bound on = on
    over_block f (step s b) o h bound on =
        let q = after o (step_code f s) in
        let whole : after o (step_code f s ++ block_code f b) ≡ after q (block_code f b) =
        after-append o (step_code f s) (block_code f b) in
        let last : after q (block_code f b) ≤ spot.epilogue = subst (λ z. z ≤ spot.epilogue) whole bound in
        let eb : after q (block_code f b) ≡ q + block_words b = (block-size f b).by q in
        let on1 : Onward c q = over_stmt f s o (carries_left c spot o (step_code f s) (block_code f b) h)
        (omega (arith, eb, last)) on in
        subst (Onward c) (sym whole) (over_block f b q
        (carries_right c spot o (step_code f s) (block_code f b) h) last on1)
