-- There is one answer that is right of a part.
use Rattle.std.proofs.Common.{◌≡◌, inl, inr, Bool, true, false, Result, Ok, Err, refl, sym, ap, ◌∙◌}
use Rattle.std.specs.Prelude.{if◌then◌else◌}
use Rattle.std.specs.Result.{result_and}
use Rattle.component_check.specs.declared.rule.Broken.{Broken}
use Rattle.component_check.specs.declared.rule.Group.TheVariants.{C}
use Rattle.component_check.specs.RuleText.{broken_at}
use Rattle.component_check.specs.Verdict.{IsFirstBroken, NoneBroken, check_from}
use Rattle.component_check.proofs.Offers.{first_broken, is_tried}
use Rattle.call_sequence.specs.Verdict.{IsFirstOfFlow, flow_answer}
use Rattle.call_sequence.proofs.Offers.{flow_is, flow_answer_is}
use Rattle.linked_starts.specs.Parts.{PartSeen, rules_of, TriesFlow, Accepts}
use Rattle.linked_starts.specs.Accepted.{accepted}

-- ---- the rules K

asked : (p : PartSeen) (r : Result (Unit {0}) Broken) → TriesFlow p r
    → r ≡ (if p.trusted then flow_answer p.component else Ok tt)
asked p (Ok u) h = by_mark p.trusted refl
  where
    by_mark : (b : Bool) → p.trusted ≡ b → Ok u ≡ (if b then flow_answer p.component else Ok tt)
    by_mark true e = flow_is p.component (Ok u) (h e)
    by_mark false e = refl
asked p (Err b) h =
    flow_is p.component (Err b) h.1 ∙ sym (ap (λ t. if t then flow_answer p.component else Ok tt) h.0)

-- ---- all of them

pub accepts_is : (p : PartSeen) (r : Result PartSeen Broken) → Accepts p r → r ≡ accepted p
unfolding accepted
accepts_is p (Ok q) h =
    ap (λ x. Ok x) h.0 ∙ sym (after_c (Ok tt) h.1 ∙ ap (λ x. result_and x (Ok p)) (sym (asked p (Ok tt) h.2)))
  where
    after_c : (r : Result (Unit {0}) Broken) → NoneBroken (rules_of p)
        → result_and (check_from (broken_at C) 1 (rules_of p))
        (result_and (if p.trusted then flow_answer p.component else Ok tt) (Ok p))
        ≡ result_and (if p.trusted then flow_answer p.component else Ok tt) (Ok p)
    after_c r none =
        ap (λ x. result_and x (result_and (if p.trusted then flow_answer p.component else Ok tt) (Ok p)))
        (sym (is_tried (broken_at C) (rules_of p) (Ok tt) none))
accepts_is p (Err b) (inl h) =
    ap (λ x. result_and x (result_and (if p.trusted then flow_answer p.component else Ok tt) (Ok p)))
    (is_tried (broken_at C) (rules_of p) (Err b) h)
accepts_is p (Err b) (inr h) =
    sym (ap (λ x. result_and x (result_and (if p.trusted then flow_answer p.component else Ok tt) (Ok p)))
    (sym (is_tried (broken_at C) (rules_of p) (Ok tt) h.0))
    ∙ ap (λ x. result_and x (Ok p)) (sym (asked p (Err b) h.1)))

-- ---- and it is right

pub accepted_is : (p : PartSeen) → Accepts p (accepted p)
unfolding accepted
accepted_is p = by_c (check_from (broken_at C) 1 (rules_of p)) (first_broken (broken_at C) (rules_of p))
  where
    by_flow : NoneBroken (rules_of p) → p.trusted ≡ true → (r : Result (Unit {0}) Broken)
        → IsFirstOfFlow p.component r → Accepts p (result_and r (Ok p))
    by_flow f t (Ok u) h = (refl, f, λ e. h)
    by_flow f t (Err b) h = inr (f, (t, h))

    by_mark : NoneBroken (rules_of p) → (t : Bool) → p.trusted ≡ t
        → Accepts p (result_and (if t then flow_answer p.component else Ok tt) (Ok p))
    by_mark f true t = by_flow f t (flow_answer p.component) (flow_answer_is p.component)
    by_mark f false t = (refl, f, λ e. let k : false ≡ true = sym t ∙ e in absurd (cc))

    by_c : (r : Result (Unit {0}) Broken) → IsFirstBroken (broken_at C) (rules_of p) r
        → Accepts p (result_and r (result_and (if p.trusted then flow_answer p.component else Ok tt) (Ok p)))
    by_c (Ok u) f = by_mark f p.trusted refl
    by_c (Err b) f = inl f
