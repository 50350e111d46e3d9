-- What is left of a text's lines, as events.
use Rattle.std.proofs.Common.{◌≡◌, ℕ, ◌+◌, ◌<◌, ◌≤◌, ◌^◌, true, false, List, [], ◌∷◌, length}
use Rattle.std.proofs.Common.{Some, None, refl, ap, ◌∙◌, arith}
use Rattle.line_fields.specs.Fields.{field, lines, is_none_left}
use Rattle.line_fields.proofs.Offers.{next_line, parts_len}
use Rattle.run_picture.specs.Events.{event_of, events_in, events}

last_is : (line : List ℕ) (rest : List (List ℕ)) → is_none_left rest ≡ true → events_in (line ∷ rest) ≡ []
last_is line [] h = refl
last_is line (t ∷ ts) h = absurd cc

more_is : (line : List ℕ) (rest : List (List ℕ)) → is_none_left rest ≡ false
    → events_in (line ∷ rest) ≡ event_of line ∷ events_in rest
more_is line [] h = absurd cc
more_is line (t ∷ ts) h = refl

pub none_left : (left : List (List ℕ)) → field left ≡ None → events_in left ≡ []
none_left [] h = refl
none_left (t ∷ ts) h = absurd (let e : Some (t, ts) ≡ None = h in cc)

module _ (left : List (List ℕ)) (line : List ℕ) (rest : List (List ℕ))
    (at : field left ≡ Some (line, rest)) where
  pub fewer : length left ≡ length rest + 1
  fewer = omega (arith, ap length (next_line left line rest at))

  pub last_left : is_none_left rest ≡ true → events_in left ≡ []
  last_left h = ap events_in (next_line left line rest at) ∙ last_is line rest h

  pub more_left : is_none_left rest ≡ false → events_in left ≡ event_of line ∷ events_in rest
  more_left h = ap events_in (next_line left line rest at) ∙ more_is line rest h

-- there are few lines
pub few : (left : List (List ℕ)) (text : List ℕ) → left ≡ lines text → length text < 2 ^ 63
    → length left ≤ 2 ^ 63 + 1
few left text is lt = omega (arith, ap length is, parts_len 10 text)
