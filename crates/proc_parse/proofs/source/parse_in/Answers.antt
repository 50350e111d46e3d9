use Rattle.std.proofs.Common.{◌≡◌, ◌≤◌, sym, ap, subst, List, length, arith, inl, inr}
use Rattle.text_scan.specs.declared.token.Token.{Token}
use Rattle.text_scan.specs.Grammar.{HasTokens}
use Rattle.proc_grammar.specs.Fault.{AnswersAs}
use Rattle.proc_grammar.specs.Lexemes.{lexemes}
use Rattle.proc_grammar.specs.Reading.{full, parsed}
use Rattle.proc_parse.specs.Texts.{parsed_scan}
use Rattle.proc_parse.proofs.Texts.{answer_found, answer_only, answer_fails, answer_stops}
use Rattle.proc_parse.proofs.Steps.{stored_few}
use Rattle.proc_parse.proofs.source.parse_in.Goals as goal

pub returns : goal.returns
returns g c =
    let made = g.L.Language.made in
    let text = c.args.text.now in
    let tokens = c.in_ok-tokens.tokens.items in
    let read = subst (λ l. AnswersAs (λ m. m) c.parse_scanned.result
    (parsed made full (lexemes text l) (length text))) c.as_slice.ensures.value
    c.parse_scanned.ensures in
    let has = c.in_ok-tokens.ensures.found in
    let few = stored_few c.in_ok-tokens.tokens.ok c.in_ok-tokens.tokens.small in
    let short : length tokens ≤ full = omega (arith, few) in
    let one : (others : List Token) → HasTokens text others → tokens ≡ others = λ others there.
    elim (c.in_ok-tokens.ensures.only others there) [ inl e ↦ e | inr e ↦ absurd cc ] in
    record {
      exact = subst (λ r. AnswersAs (λ m. m) c.parse_scanned.result r)
          (ap (parsed_scan made text) (sym c.in_ok-tokens.ensures.exact)) read;
      found = answer_found made text tokens has short c.parse_scanned.result read;
      only = answer_only made text tokens has short one c.parse_scanned.result read;
      fails = answer_fails made text tokens has short c.parse_scanned.result read;
      scans = λ fault h. elim (c.in_ok-tokens.ensures.first fault h)
          [ inl e ↦ absurd cc | inr e ↦ absurd cc ];
      stops = answer_stops made text tokens has short one c.in_ok-tokens.ensures.placed
          c.in_ok-tokens.ensures.spelled c.parse_scanned.result read;
    }
