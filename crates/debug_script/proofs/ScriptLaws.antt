-- A script is read of the text of its commands alone, and refused at its first bad line.
use Rattle.std.proofs.Common.{◌≡◌, ◌≢◌, ℕ, suc, ◌+◌, ◌^◌, ◌<◌, ◌≤◌, true, List, [], ◌∷◌, ◌++◌, length, Option}
use Rattle.std.proofs.Common.{Some, None, Result, Ok, Err, refl, sym, ap, ◌∙◌, subst, append_assoc}
use Rattle.std.proofs.Common.{append-nil, length-append, arith, inl, inr}
use Rattle.std.specs.Prelude.{◌⊎◌, ◌↔◌, nat_le, All, decimal}
use Rattle.std.specs.List.{join_with_byte}
use Rattle.std.proofs.lemmas.Bool.{le-leb, cases_lt}
use Rattle.std.proofs.lemmas.List.Elements.{All-cons, All-head, All-nil, All-tail}
use Rattle.std.proofs.lemmas.List.Splits.{join_with_byte-slice_split}
use Rattle.lcm_isa.specs.declared.Reg.{Reg}
use Rattle.lcm_isa.specs.declared.Reg.TheVariants as reg
use Rattle.lcm_isa.specs.Texts.{reg_name}
use Rattle.line_fields.specs.Cuts.{cut, parts}
use Rattle.line_fields.specs.Fields.{lines}
use Rattle.line_fields.proofs.Offers.{parts_at, cut_is, is_free, cut_front, decimal_free}
use Rattle.debug_script.specs.declared.command.DebugCommand.{DebugCommand}
use Rattle.debug_script.specs.declared.command.DebugCommand.TheVariants.{Forward, Back, StopAt, Clear, Cell}
use Rattle.debug_script.specs.declared.command.DebugCommand.TheVariants.{Register}
use Rattle.debug_script.specs.declared.fault.ScriptFault.{ScriptFault}
use Rattle.debug_script.specs.declared.fault.ScriptFault.TheVariants.{Line}
use Rattle.debug_script.specs.declared.TheConstants.{MOST_LINES, MOST_STEPS, LAST_ADDRESS}
use Rattle.debug_script.specs.Commands.{Fits, command_text}
use Rattle.debug_script.specs.Script.{command_at, at_end, with_command, scripted_from, scripted}
use Rattle.debug_script.specs.Laws.{command_line, script_text, AreCommands, IsFirstBad}
use Rattle.debug_script.proofs.CommandLemmas.{command_again, command_is}
use Rattle.debug_script.proofs.ScriptLemmas.{lines_some, at_line, at_last, command_fits}

-- ---- a command's text has no newline

register_free : (r : Reg) → is_free 10 (reg_name r) ≡ true
register_free reg.Pc = refl
register_free reg.Rcode = refl
register_free reg.Rdata = refl
register_free reg.Stk = refl
register_free reg.Dat = refl
register_free reg.T1 = refl
register_free reg.T2 = refl
register_free reg.C1 = refl
register_free reg.C2 = refl
register_free reg.A0 = refl
register_free reg.A1 = refl
register_free reg.A2 = refl
register_free reg.A3 = refl
register_free reg.G0 = refl
register_free reg.G1 = refl
register_free reg.G2 = refl

number_free : (n most : ℕ) → n ≤ most → most < 2 ^ 64 → is_free 10 (decimal n) ≡ true
number_free n most le small = decimal_free 10 n (inl (omega arith)) (omega (arith, le, small))

text_free : (c : DebugCommand) → Fits c → is_free 10 (command_text c) ≡ true
text_free (Forward n) h = number_free n MOST_STEPS h.1 (omega arith)
text_free (Back n) h = number_free n MOST_STEPS h.1 (omega arith)
text_free (StopAt a) h = number_free a LAST_ADDRESS h (omega arith)
text_free (Clear a) h = number_free a LAST_ADDRESS h (omega arith)
text_free (Cell a) h = number_free a LAST_ADDRESS h (omega arith)
text_free (Register r) h = register_free r

-- ---- texts of commands

line_first : (c : DebugCommand) (rest : List ℕ) → command_line c ++ rest ≡ command_text c ++ 10 ∷ rest
line_first c rest = append_assoc (command_text c) (10 ∷ []) rest

text_first : (c : DebugCommand) (cs : List DebugCommand) (rest : List ℕ)
    → script_text (c ∷ cs) ++ rest ≡ command_text c ++ 10 ∷ (script_text cs ++ rest)
text_first c cs rest =
    append_assoc (command_line c) (script_text cs) rest ∙ line_first c (script_text cs ++ rest)

-- the first line of a text that begins with a command's
cut_command : (c : DebugCommand) (back : List ℕ) → Fits c
    → cut 10 (command_text c ++ 10 ∷ back) ≡ Some (command_text c, back)
cut_command c back h = cut_front 10 (command_text c) back (text_free c h)

command_there : (n : ℕ) (c : DebugCommand) → n ≤ MOST_LINES → Fits c → command_at n (command_text c) ≡ Some c
command_there n c le h =
    let few : nat_le n MOST_LINES ≡ true = le-leb n MOST_LINES le in
    rw few (command_again c h)

one_more : (n : ℕ) (c : DebugCommand) (cs : List DebugCommand) (rest : List ℕ) → n ≤ MOST_LINES → Fits c
    → scripted_from n (lines (script_text (c ∷ cs) ++ rest))
    ≡ with_command n (Some c) (scripted_from (n + 1) (lines (script_text cs ++ rest)))
one_more n c cs rest le h =
    ap (λ t. scripted_from n (lines t)) (text_first c cs rest)
    ∙ at_line n (command_text c ++ 10 ∷ (script_text cs ++ rest)) (command_text c) (script_text cs ++ rest)
    (sym (cut_command c (script_text cs ++ rest) h))
    ∙ ap (λ o. with_command n o (scripted_from (n + 1) (lines (script_text cs ++ rest))))
    (command_there n c le h)

nothing_left : (n : ℕ) → scripted_from n (lines []) ≡ Ok []
unfolding scripted_from parts
nothing_left n = refl

-- ---- a script is read

read_from : (n : ℕ) (cs : List DebugCommand) → All Fits cs → n + length cs ≤ MOST_LINES + 1
    → scripted_from n (lines (script_text cs ++ [])) ≡ Ok cs
read_from n [] fit few = nothing_left n
read_from n (c ∷ cs) fit few =
    one_more n c cs [] (omega (arith, few)) (All-head Fits c cs fit)
    ∙ ap (with_command n (Some c)) (read_from (n + 1) cs (All-tail Fits c cs fit) (omega (arith, few)))

pub script_read : (text : List ℕ) (cs : List DebugCommand) → AreCommands cs → text ≡ script_text cs
    → scripted text ≡ Ok cs
unfolding scripted
script_read text cs are e =
    ap (λ t. scripted_from 1 (lines t)) (e ∙ sym (append-nil (script_text cs)))
    ∙ read_from 1 cs are.fit (omega (arith, are.few))

-- ---- what is read is a script

first_ok : (n : ℕ) (o : Option DebugCommand) (r : Result (List DebugCommand) ScriptFault)
    (cs : List DebugCommand)
    → with_command n o r ≡ Ok cs
    → (c : DebugCommand) × (more : List DebugCommand) × (o ≡ Some c) × (r ≡ Ok more) × (cs ≡ c ∷ more)
first_ok n None r cs h = absurd cc
first_ok n (Some c) (Ok more) cs h = (c, more, refl, refl, cc)
first_ok n (Some c) (Err e) cs h = absurd cc

end_ok : (n : ℕ) (last : List ℕ) (cs : List DebugCommand) → at_end n last ≡ Ok cs → (last ≡ []) × (cs ≡ [])
end_ok n [] cs h = (refl, cc)
end_ok n (b ∷ bs) cs h = absurd cc

-- what a text of lines is, where it is read
record IsRead (n : ℕ) (ls : List (List ℕ)) (cs : List DebugCommand) : Type 0 where
  fit : All Fits cs
  few : n + length cs ≤ MOST_LINES + 1
  text : join_with_byte 10 ls ≡ script_text cs

read_is : (n : ℕ) (ls : List (List ℕ)) (cs : List DebugCommand) → n ≤ MOST_LINES + 1
    → scripted_from n ls ≡ Ok cs → IsRead n ls cs
unfolding scripted_from
read_is n [] cs le h =
    let none : cs ≡ [] = cc in
    subst (IsRead n []) (sym none) (record { fit = All-nil Fits; few = omega (arith, le); text = refl })
read_is n (last ∷ []) cs le h =
    let k = end_ok n last cs h in
    subst (IsRead n (last ∷ [])) (sym k.1)
    (record { fit = All-nil Fits; few = omega (arith, le); text = k.0 })
read_is n (line ∷ next ∷ rest) cs le h =
    let k = first_ok n (command_at n line) (scripted_from (n + 1) (next ∷ rest)) cs h in
    let at = command_fits n line k.0 k.2 in
    let is = command_is line k.0 at.1 in
    let more = read_is (n + 1) (next ∷ rest) k.1 (omega (arith, at.0)) k.3 in
    let text : line ++ 10 ∷ join_with_byte 10 (next ∷ rest) ≡ script_text (k.0 ∷ k.1) =
    ap (λ t. t ++ 10 ∷ join_with_byte 10 (next ∷ rest)) is.1 ∙ ap (λ t. command_text k.0 ++ 10 ∷ t) more.text
    ∙ sym (line_first k.0 (script_text k.1)) in
    subst (IsRead n (line ∷ next ∷ rest)) (sym k.4) (record {
      fit = All-cons Fits k.0 k.1 is.0 more.fit;
      few = omega (arith, more.few);
      text = text;
    })

pub script_is : (text : List ℕ) (cs : List DebugCommand) → scripted text ≡ Ok cs
    → AreCommands cs × (text ≡ script_text cs)
unfolding scripted parts
script_is text cs h =
    let r = read_is 1 (lines text) cs (omega arith) h in
    (record { fit = r.fit; few = omega (arith, r.few) }, sym (join_with_byte-slice_split 10 text) ∙ r.text)

-- ---- the first bad line

-- at the first line of a text, which has this number
abbrev IsBad : ℕ → List ℕ → Type 0
IsBad n rest = (n ≡ MOST_LINES + 1)
    ⊎ ((c : DebugCommand) (more : List ℕ) → Fits c → rest ≢ command_line c ++ more)

no_command : (n : ℕ) (line back rest : List ℕ) → rest ≡ line ++ 10 ∷ back → IsBad n rest
    → command_at n line ≡ None
no_command n line back rest e bad = by_command (command_at n line) refl
  where
    none_there : (c : DebugCommand) → command_at n line ≡ Some c → IsBad n rest → ⊥
    none_there c k (inl many) = let at = command_fits n line c k in omega (arith, many, at.0)
    none_there c k (inr other) =
        let at = command_fits n line c k in
        let is = command_is line c at.1 in
        other c back is.0 (e ∙ ap (λ t. t ++ 10 ∷ back) is.1 ∙ sym (line_first c back))

    by_command : (o : Option DebugCommand) → command_at n line ≡ o → o ≡ None
    by_command None k = refl
    by_command (Some c) k = absurd (none_there c k bad)

bad_at : (n : ℕ) (rest : List ℕ) → rest ≢ [] → IsBad n rest → scripted_from n (lines rest) ≡ Err (Line n)
bad_at n rest some bad = by_cut (cut 10 rest) refl
  where
    at_some : (t : List ℕ) → t ≢ [] → at_end n t ≡ Err (Line n)
    at_some [] ne = absurd (ne refl)
    at_some (b ∷ bs) ne = refl

    by_cut : (o : Option (List ℕ × List ℕ)) → cut 10 rest ≡ o → scripted_from n (lines rest) ≡ Err (Line n)
    by_cut None k = at_last n rest (sym k) ∙ at_some rest some
    by_cut (Some p) k =
        at_line n rest p.0 p.1 (sym k)
        ∙ ap (λ o. with_command n o (scripted_from (n + 1) (lines p.1)))
        (no_command n p.0 p.1 rest (cut_is 10 rest p.0 p.1 k) bad)

with_err : (n m : ℕ) (c : DebugCommand) (r : Result (List DebugCommand) ScriptFault) → r ≡ Err (Line m)
    → with_command n (Some c) r ≡ Err (Line m)
with_err n m c r h = ap (with_command n (Some c)) h

bad_from : (n : ℕ) (cs : List DebugCommand) (rest : List ℕ) → All Fits cs → n + length cs ≤ MOST_LINES + 1
    → rest ≢ []
    → IsBad (n + length cs) rest
    → scripted_from n (lines (script_text cs ++ rest)) ≡ Err (Line (n + length cs))
bad_from n [] rest fit few some bad =
    let same : n + 0 ≡ n = omega arith in
    bad_at n rest some (subst (λ k. IsBad k rest) same bad) ∙ ap (λ k. Err (Line k)) (sym same)
bad_from n (c ∷ cs) rest fit few some bad =
    let same : n + suc (length cs) ≡ n + 1 + length cs = omega arith in
    one_more n c cs rest (omega (arith, few)) (All-head Fits c cs fit)
    ∙ with_err n (n + 1 + length cs) c (scripted_from (n + 1) (lines (script_text cs ++ rest)))
    (bad_from (n + 1) cs rest (All-tail Fits c cs fit) (omega (arith, few)) some
    (subst (λ k. IsBad k rest) same bad))
    ∙ ap (λ k. Err (Line k)) (sym same)

pub bad_told : (text : List ℕ) (n : ℕ) → IsFirstBad text n → scripted text ≡ Err (Line n)
unfolding scripted
bad_told text n f =
    let same : 1 + length f.before ≡ n = omega (arith, f.number) in
    ap (λ t. scripted_from 1 (lines t)) f.split
    ∙ bad_from 1 f.before f.rest f.are.fit (omega (arith, f.are.few)) f.some (is_bad f.bad)
    ∙ ap (λ k. Err (Line k)) same
  where
    is_bad : (length f.before ≡ MOST_LINES) ⊎
        ((c : DebugCommand) (more : List ℕ) → Fits c → f.rest ≢ command_line c ++ more)
        → IsBad (1 + length f.before) f.rest
    is_bad (inl many) = inl (omega (arith, many))
    is_bad (inr other) = inr other

-- ---- what is refused is bad

-- where a text, whose first line has number n, is refused with a number
record IsRefused (n : ℕ) (text : List ℕ) (m : ℕ) : Type 0 where
  before : List DebugCommand
  rest : List ℕ
  fit : All Fits before
  few : n + length before ≤ MOST_LINES + 1
  split : text ≡ script_text before ++ rest
  number : m ≡ n + length before
  some : rest ≢ []
  bad : IsBad m rest

-- at its first line
refused_here : (n m : ℕ) (text : List ℕ) → n ≡ m → n ≤ MOST_LINES + 1 → text ≢ [] → IsBad n text
    → IsRefused n text m
refused_here n m text same le some bad = record {
  before = [];
  rest = text;
  fit = All-nil Fits;
  few = omega (arith, le);
  split = refl;
  number = omega (arith, same);
  some = some;
  bad = subst (λ k. IsBad k text) same bad;
}

refused_later : (n m : ℕ) (text line back : List ℕ) (c : DebugCommand) → text ≡ line ++ 10 ∷ back → Fits c
    → line ≡ command_text c → IsRefused (n + 1) back m → IsRefused n text m
refused_later n m text line back c e fits is r = record {
  before = c ∷ r.before;
  rest = r.rest;
  fit = All-cons Fits c r.before fits r.fit;
  few = omega (arith, r.few);
  split = e ∙ ap (λ t. t ++ 10 ∷ back) is ∙ ap (λ t. command_text c ++ 10 ∷ t) r.split
      ∙ sym (text_first c r.before r.rest);
  number = omega (arith, r.number);
  some = r.some;
  bad = r.bad;
}

end_err : (n m : ℕ) (last : List ℕ) → at_end n last ≡ Err (Line m) → (n ≡ m) × (last ≢ [])
end_err n m [] h = absurd cc
end_err n m (b ∷ bs) h = (cc, λ e. absurd (let k : b ∷ bs ≡ [] = e in cc))

data FirstErr (n m : ℕ) (o : Option DebugCommand) (r : Result (List DebugCommand) ScriptFault) : Type 0 where
  here : o ≡ None → n ≡ m → FirstErr n m o r
  later : (c : DebugCommand) → o ≡ Some c → r ≡ Err (Line m) → FirstErr n m o r

first_err : (n m : ℕ) (o : Option DebugCommand) (r : Result (List DebugCommand) ScriptFault)
    → with_command n o r ≡ Err (Line m) → FirstErr n m o r
first_err n m None r h = here refl cc
first_err n m (Some c) (Ok more) h = absurd cc
first_err n m (Some c) (Err e) h = later c refl (let same : e ≡ Line m = cc in ap Err same)

-- a text without a newline begins with no command's line
no_line : (text : List ℕ) → cut 10 text ≡ None → (c : DebugCommand) (more : List ℕ) → Fits c
    → text ≢ command_line c ++ more
no_line text k c more fits e =
    let other : cut 10 text ≡ Some (command_text c, more) =
    ap (cut 10) (e ∙ line_first c more) ∙ cut_command c more fits in
    absurd (let bad : None ≡ Some (command_text c, more) = sym k ∙ other in cc)

-- nor does one whose first line is no command
no_such_line : (n : ℕ) (text line back : List ℕ) → cut 10 text ≡ Some (line, back) → command_at n line ≡ None
    → n ≤ MOST_LINES → (c : DebugCommand) (more : List ℕ) → Fits c → text ≢ command_line c ++ more
no_such_line n text line back k none le c more fits e =
    let other : cut 10 text ≡ Some (command_text c, more) =
    ap (cut 10) (e ∙ line_first c more) ∙ cut_command c more fits in
    let both : Some (line, back) ≡ Some (command_text c, more) = sym k ∙ other in
    let pair : (line, back) ≡ (command_text c, more) = cc in
    let same : line ≡ command_text c = ap (λ (p : List ℕ × List ℕ). p.0) pair in
    let there : command_at n line ≡ Some c = ap (command_at n) same ∙ command_there n c le fits in
    absurd (let bad : None ≡ Some c = sym none ∙ there in cc)

starts_bad : (n : ℕ) (text line back : List ℕ) → cut 10 text ≡ Some (line, back) → command_at n line ≡ None
    → n ≤ MOST_LINES + 1 → IsBad n text
starts_bad n text line back k none le = elim (cases_lt n (MOST_LINES + 1)) as (λ _. IsBad n text) [
  | inl lt ↦ inr (no_such_line n text line back k none (omega (arith, lt)))
  | inr ge ↦ inl (omega (arith, le, ge))
]

not_empty : (text line back : List ℕ) → text ≡ line ++ 10 ∷ back → text ≢ []
not_empty text line back e none =
    let long = length-append line (10 ∷ back) in
    let same : length (line ++ 10 ∷ back) ≡ 0 = ap length (sym e ∙ none) in
    omega (arith, long, same)

refused_by : (n m : ℕ) (l : List ℕ) (ls : List (List ℕ)) (text : List ℕ) → l ∷ ls ≡ lines text
    → n ≤ MOST_LINES + 1
    → ((back : List ℕ) → ls ≡ lines back → n + 1 ≤ MOST_LINES + 1 → scripted_from (n + 1) ls ≡ Err (Line m)
    → IsRefused (n + 1) back m)
    → scripted_from n (l ∷ ls) ≡ Err (Line m) → IsRefused n text m
refused_by n m l ls text is le more h = by_cut (cut 10 text) refl
  where
    whole : scripted_from n (lines text) ≡ Err (Line m)
    whole = ap (scripted_from n) (sym is) ∙ h

    by_first : (p : List ℕ × List ℕ) → cut 10 text ≡ Some p
        → FirstErr n m (command_at n p.0) (scripted_from (n + 1) (lines p.1)) → IsRefused n text m
    by_first p k (here none same) =
        refused_here n m text same le (not_empty text p.0 p.1 (cut_is 10 text p.0 p.1 k))
        (starts_bad n text p.0 p.1 k none le)
    by_first p k (later c some err) =
        let at = command_fits n p.0 c some in
        let is_text = command_is p.0 c at.1 in
        let both : l ∷ ls ≡ p.0 ∷ lines p.1 = is ∙ parts_at 10 text p.0 p.1 (sym k) in
        let behind : ls ≡ lines p.1 = cc in
        refused_later n m text p.0 p.1 c (cut_is 10 text p.0 p.1 k) is_text.0 is_text.1
        (more p.1 behind (omega (arith, at.0)) (ap (scripted_from (n + 1)) behind ∙ err))

    by_cut : (o : Option (List ℕ × List ℕ)) → cut 10 text ≡ o → IsRefused n text m
    by_cut None k =
        let e = end_err n m text (sym (at_last n text (sym k)) ∙ whole) in
        refused_here n m text e.0 le e.1 (inr (no_line text k))
    by_cut (Some p) k =
        by_first p k (first_err n m (command_at n p.0) (scripted_from (n + 1) (lines p.1))
        (sym (at_line n text p.0 p.1 (sym k)) ∙ whole))

refused : (n m : ℕ) (ls : List (List ℕ)) (text : List ℕ) → ls ≡ lines text → n ≤ MOST_LINES + 1
    → scripted_from n ls ≡ Err (Line m) → IsRefused n text m
refused n m [] text is le h = absurd (omega (arith, ap length is, lines_some text))
refused n m (l ∷ ls) text is le h =
    refused_by n m l ls text is le (λ back at few err. refused (n + 1) m ls back at few err) h

pub told_bad : (text : List ℕ) (n : ℕ) → scripted text ≡ Err (Line n) → IsFirstBad text n
unfolding scripted
told_bad text n h =
    let r = refused 1 n (lines text) text refl (omega arith) h in
    record {
      before = r.before;
      rest = r.rest;
      are = record { fit = r.fit; few = omega (arith, r.few) };
      split = r.split;
      number = omega (arith, r.number);
      some = r.some;
      bad = is_bad r.before r.rest r.number r.bad;
    }
  where
    is_bad : (before : List DebugCommand) (rest : List ℕ) → n ≡ 1 + length before → IsBad n rest
        → (length before ≡ MOST_LINES) ⊎
        ((c : DebugCommand) (more : List ℕ) → Fits c → rest ≢ command_line c ++ more)
    is_bad before rest e (inl many) = inl (omega (arith, e, many))
    is_bad before rest e (inr other) = inr other

-- ---- both ways

pub scripts_are_read : (text : List ℕ) (cs : List DebugCommand)
    → (scripted text ≡ Ok cs) ↔ (AreCommands cs × (text ≡ script_text cs))
scripts_are_read text cs = (script_is text cs, λ h. script_read text cs h.0 h.1)

pub first_bad_is_told : (text : List ℕ) (n : ℕ) → (scripted text ≡ Err (Line n)) ↔ IsFirstBad text n
first_bad_is_told text n = (told_bad text n, bad_told text n)
