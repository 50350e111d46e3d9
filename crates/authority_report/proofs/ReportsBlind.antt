-- A report doesn't depend on the cells that its part can't read, which are those in none of its spans.
use Rattle.std.proofs.Common.{◌≡◌, ◌≤◌, ◌↔◌, ℕ, zero, suc, Bool, true, false, ◌&&◌, ◌||◌, List, [], ◌∷◌, refl}
use Rattle.std.proofs.Common.{sym, ap, subst, ◌∙◌, arith}
use Rattle.std.specs.List.{list_any, All}
use Rattle.std.proofs.lemmas.Bool.{or_parts, false_from_ne_true, and_right}
use Rattle.cap_words.specs.declared.Word.{Word}
use Rattle.cap_words.specs.declared.Word.TheVariants.{Mem}
use Rattle.cap_words.specs.declared.Perm.{Perm}
use Rattle.cap_words.specs.declared.CapFields.{CapFields}
use Rattle.cap_words.specs.Faces.{may_read, may_write, may_run}
use Rattle.lcm_isa.specs.declared.Reg.TheVariants.{Stk}
use Rattle.lcm_machine.specs.Maps.{State}
use Rattle.lcm_machine.specs.Places.{reg}
use Rattle.lcm_machine.specs.Blind.{SameBut}
use Rattle.linked_starts.specs.declared.owners.Owner.{Owner}
use Rattle.authority_report.specs.declared.spans.ReachSpan.{ReachSpan}
use Rattle.authority_report.specs.Spans.{allows, span_has, IsSpan}
use Rattle.authority_report.specs.Reaches.{Reaches, its_code, its_data, the_stack, in_cell, opened}
use Rattle.authority_report.specs.Reaches.{Allows, SealsWith}
use Rattle.authority_report.specs.Within.{Authority}
use Rattle.authority_report.specs.Report.{IsJust, told_authority}
use Rattle.authority_report.specs.Influence.{Unread, UnreadIsInNoSpan, ReportsAreBlind}
use Rattle.authority_report.proofs.RunsWithin.{writes_read}
use Rattle.authority_report.proofs.RunsBlind.{runs_read}

module _ (m t : State Word) (o : Owner) (g : Authority) (just : IsJust m o g) (d : SameBut (Unread g) m t)
  where
    is_read : (c : CapFields) (a : ℕ) → Reaches m o (Mem c) → may_read c.perm ≡ true → c.base ≤ a → a ≤ c.end
        → ¬ (Unread g a)
    is_read c a r may low high f =
        let bad : true ≡ false =
        sym ((just.read a).1 (record { cap = c; reached = r; allowed = may; low = low; high = high })) ∙ f in
        cc

    there : (w : Word) → Reaches m o w → Reaches t o w
    there _ (its_code z) = its_code z
    there _ its_data = its_data
    there _ the_stack = subst (λ x. Reaches t o (reg x Stk)) d.regs the_stack
    there _ (in_cell c a w r may low high is) =
        in_cell c a w (there (Mem c) r) may low high (d.cells a (is_read c a r may low high) ∙ is)
    there _ (opened n x r e) = opened n x (there _ r) e

    back_again : (w : Word) → Reaches t o w → Reaches m o w
    back_again _ (its_code z) = its_code z
    back_again _ its_data = its_data
    back_again _ the_stack = subst (λ x. Reaches m o (reg x Stk)) (sym d.regs) the_stack
    back_again _ (in_cell c a w r may low high is) =
        let k = back_again (Mem c) r in
        in_cell c a w k may low high (sym (d.cells a (is_read c a k may low high)) ∙ is)
    back_again _ (opened n x r e) = opened n x (back_again _ r) e

    allows_same : (may : Perm → Bool) (a : ℕ) → Allows m o may a ↔ Allows t o may a
    allows_same may a = (
      λ x. record {
        cap = x.cap;
        reached = there _ x.reached;
        allowed = x.allowed;
        low = x.low;
        high = x.high;
      },
      λ x. record {
        cap = x.cap;
        reached = back_again _ x.reached;
        allowed = x.allowed;
        low = x.low;
        high = x.high;
      },
    )

    seals_same : (n : ℕ) → SealsWith m o n ↔ SealsWith t o n
    seals_same n = (
      λ x. record { cap = x.cap; reached = there _ x.reached; low = x.low; high = x.high },
      λ x. record { cap = x.cap; reached = back_again _ x.reached; low = x.low; high = x.high },
    )

    both : {A B C : Type 0} → A ↔ B → B ↔ C → A ↔ C
    both p q = (λ a. q.0 (p.0 a), λ c. p.1 (q.1 c))

    just_same : IsJust t o g
    just_same = record {
      read = λ a. both (just.read a) (allows_same may_read a);
      write = λ a. both (just.write a) (allows_same may_write a);
      run = λ a. both (just.run a) (allows_same may_run a);
      seal = λ n. both (just.seal n) (seals_same n);
    }

pub reports_are_blind : ReportsAreBlind
reports_are_blind m t o r d is =
    record { just = just_same m t o (told_authority o r) is.just d; spans = is.spans; seals = is.seals }

-- ---- cells in no span

module _ (m : State Word) (o : Owner) (g : Authority) (just : IsJust m o g) where
  -- what may be written or run may be read
  read_too : (may : Perm → Bool) → ((q : Perm) → may q ≡ true → may_read q ≡ true) → (a : ℕ)
      → Allows m o may a → Unread g a → ⊥
  read_too may more a x f =
      let bad : true ≡ false =
      sym ((just.read a).1 (record {
        cap = x.cap;
        reached = x.reached;
        allowed = more x.cap.perm x.allowed;
        low = x.low;
        high = x.high;
      })) ∙ f in
      cc

  unwritten : (a : ℕ) → Unread g a → g.write a ≡ false
  unwritten a f = false_from_ne_true (g.write a)
      (λ e. read_too may_write writes_read a ((just.write a).0 e) f)

  not_run : (a : ℕ) → Unread g a → g.run a ≡ false
  not_run a f = false_from_ne_true (g.run a) (λ e. read_too may_run runs_read a ((just.run a).0 e) f)

uncovered : (r w x c : Bool) → (r || (w || x)) ≡ true → (r && c) ≡ false → (w && c) ≡ false
    → (x && c) ≡ false → c ≡ false
uncovered r w x false e i j k = refl
uncovered true w x true e i j k = cc
uncovered false true x true e i j k = cc
uncovered false false true true e i j k = cc
uncovered false false false true e i j k = cc

in_none : (spans : List ReachSpan) (a : ℕ) → All IsSpan spans → allows (λ f. f.read) spans a ≡ false
    → allows (λ f. f.write) spans a ≡ false → allows (λ f. f.run) spans a ≡ false
    → list_any (λ s. span_has s a) spans ≡ false
in_none [] a each i j k = refl
in_none (s ∷ ss) a each i j k =
    let x = or_parts _ _ i in
    let y = or_parts _ _ j in
    let z = or_parts _ _ k in
    let here : span_has s a ≡ false =
    uncovered s.read s.write s.run (span_has s a) (each zero s (omega arith)).right x.0 y.0 z.0 in
    ap (λ b. b || list_any (λ q. span_has q a) ss) here
    ∙ in_none ss a (λ n d l. each (suc n) d (omega (arith, l))) x.1 y.1 z.1

unread_off : (spans : List ReachSpan) (a : ℕ) → list_any (λ s. span_has s a) spans ≡ false
    → allows (λ f. f.read) spans a ≡ false
unread_off [] a e = refl
unread_off (s ∷ ss) a e =
    let k = or_parts (span_has s a) (list_any (λ q. span_has q a) ss) e in
    ap (λ b. b || allows (λ f. f.read) ss a) (and_right s.read (span_has s a) k.0) ∙ unread_off ss a k.1

pub unread_in_no_span : UnreadIsInNoSpan
unread_in_no_span m o r is a =
    let g = told_authority o r in (
      λ f. in_none r.spans a is.spans.each f (unwritten m o g is.just a f) (not_run m o g is.just a f),
      λ e. unread_off r.spans a e,
    )
