-- A feed read line by line.
use Rattle.std.proofs.Common.{◌≡◌, ℕ, ◌+◌, ◌≤◌, ◌<◌, ◌^◌, Bool, false, List, [], ◌∷◌, ◌++◌, length, Option}
use Rattle.std.proofs.Common.{Some, None, Result, Ok, Err, refl, sym, ap, ◌∙◌, append_assoc, append-nil}
use Rattle.std.proofs.Common.{arith}
use Rattle.source_events.specs.declared.Item.{Item}
use Rattle.line_fields.specs.Fields.{field, lines}
use Rattle.line_fields.proofs.Cuts.{parts_len, next_line}
use Rattle.line_fields.specs.declared.fault.FeedFault.{FeedFault}
use Rattle.line_fields.specs.declared.fault.FeedFault.TheVariants.{Line}
use Rattle.line_fields.specs.declared.line.FeedLine.{FeedLine}
use Rattle.line_fields.specs.Lines.{seen, is_enter}
use Rattle.line_fields.specs.Feed.{line_item, line_items, with_item, fed_line, fed_from, fed}

-- after items that are read already
abbrev pub behind_items : List Item → Result (List Item) FeedFault → Result (List Item) FeedFault
behind_items items (Ok more) = Ok (items ++ more)
behind_items items (Err e) = Err e

no_line : (left : List (List ℕ)) → field left ≡ None → left ≡ []
no_line [] h = refl
no_line (t ∷ ts) h = absurd (let k : Some (t, ts) ≡ None = h in cc)

behind_none : (r : Result (List Item) FeedFault) → behind_items [] r ≡ r
behind_none (Ok items) = refl
behind_none (Err e) = refl

behind_line : (items : List Item) (o : Option Item) (r : Result (List Item) FeedFault)
    → behind_items (items ++ line_items o) r ≡ behind_items items (with_item o r)
behind_line items None r = ap (λ x. behind_items x r) (append-nil items)
behind_line items (Some i) (Ok more) = ap Ok (append_assoc items (i ∷ []) more)
behind_line items (Some i) (Err e) = refl

pub begins : (items : List Item) (base : ℕ) (left : List (List ℕ)) (text : List ℕ) → items ≡ []
    → left ≡ lines text → behind_items items (fed_from base false 1 left) ≡ fed base text
unfolding fed
begins items base left text none is =
    ap (λ x. behind_items x (fed_from base false 1 left)) none ∙ behind_none (fed_from base false 1 left)
    ∙ ap (fed_from base false 1) is

pub few : (left : List (List ℕ)) (text : List ℕ) → left ≡ lines text → length text < 2 ^ 63
    → 1 + length left ≤ 2 ^ 63 + 1
few left text is lt = omega (arith, ap length is, parts_len 10 text)

pub one_line : (base : ℕ) (entry : Bool) (n : ℕ) (line : List ℕ) (rest : List (List ℕ))
    → fed_from base entry n (line ∷ rest)
    ≡ fed_line base n rest (seen entry line) (λ b. fed_from base b (n + 1) rest)
unfolding fed_from
one_line base entry n line rest = refl

pub nothing_left : (base : ℕ) (entry : Bool) (n : ℕ) → fed_from base entry n [] ≡ Ok []
unfolding fed_from
nothing_left base entry n = refl

module _ (items : List Item) (base : ℕ) (entry : Bool) (n : ℕ) (left : List (List ℕ)) where
  at_line : (line : List ℕ) (rest : List (List ℕ)) (found : Option FeedLine) → field left ≡ Some (line, rest)
      → found ≡ seen entry line
      → fed_from base entry n left ≡ fed_line base n rest found (λ b. fed_from base b (n + 1) rest)
  at_line line rest found at is =
      ap (fed_from base entry n) (next_line left line rest at) ∙ one_line base entry n line rest
      ∙ ap (λ f. fed_line base n rest f (λ b. fed_from base b (n + 1) rest)) (sym is)

  pub bad_line : (line : List ℕ) (rest : List (List ℕ)) → field left ≡ Some (line, rest)
      → None ≡ seen entry line → behind_items items (fed_from base entry n left) ≡ Err (Line n)
  bad_line line rest at is = ap (behind_items items) (at_line line rest None at is)

  pub good_line : (more : List Item) (line : List ℕ) (rest : List (List ℕ)) (found : FeedLine) (b : Bool)
      → field left ≡ Some (line, rest) → Some found ≡ seen entry line → b ≡ is_enter found
      → more ≡ items ++ line_items (line_item base found rest)
      → behind_items more (fed_from base b (n + 1) rest) ≡ behind_items items (fed_from base entry n left)
  good_line more line rest found b at is enters grown =
      let o = line_item base found rest in
      ap (λ x. behind_items x (fed_from base b (n + 1) rest)) grown
      ∙ behind_line items o (fed_from base b (n + 1) rest)
      ∙ ap (λ e. behind_items items (with_item o (fed_from base e (n + 1) rest))) enters
      ∙ sym (ap (behind_items items) (at_line line rest (Some found) at is))

  pub ends : field left ≡ None → behind_items items (fed_from base entry n left) ≡ Ok items
  ends none =
      ap (λ ls. behind_items items (fed_from base entry n ls)) (no_line left none)
      ∙ ap (behind_items items) (nothing_left base entry n) ∙ ap Ok (append-nil items)
