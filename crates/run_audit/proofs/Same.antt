-- Whether two lines tell the same.
use Rattle.std.proofs.Common.{◌≡◌, ℕ, true, List, refl, ap, ◌∙◌, eq-eqb}
use Rattle.std.specs.Bool.{Decides}
use Rattle.std.specs.Str.{bytes_eq}
use Rattle.std.specs.Prelude.{◌==◌}
use Rattle.std.proofs.lemmas.Bool.{eqb-true, and_parts}
use Rattle.std.proofs.lemmas.Slice.Eq.{bytes_eq-Decides, slice_eq-Decides}
use Rattle.run_audit.specs.Told.{ToldSeen, same_words, same_told}

texts_decide : (v w : List (List ℕ)) → Decides (same_words v w) (v ≡ w)
texts_decide v w = slice_eq-Decides bytes_eq-Decides v w (same_words v w) refl

-- they do exactly where they are equal
pub told_decides : (a b : ToldSeen) → Decides (same_told a b) (a ≡ b)
told_decides a b = (
  λ h.
      let one = and_parts _ _ h in
      let two = and_parts _ _ one.0 in
      let three = and_parts _ _ one.1 in
      let four = and_parts _ _ three.0 in
      let part = (bytes_eq-Decides a.part b.part).0 two.0 in
      let site = eqb-true _ _ two.1 in
      let base = eqb-true _ _ four.0 in
      let last = eqb-true _ _ four.1 in
      let words = (texts_decide a.words b.words).0 three.1 in
      ap (λ p. record { part = p; site = a.site; base = a.base; last = a.last; words = a.words }) part
      ∙ ap (λ s. record { part = b.part; site = s; base = a.base; last = a.last; words = a.words }) site
      ∙ ap (λ x. record { part = b.part; site = b.site; base = x; last = a.last; words = a.words }) base
      ∙ ap (λ x. record { part = b.part; site = b.site; base = b.base; last = x; words = a.words }) last
      ∙ ap (λ w. record { part = b.part; site = b.site; base = b.base; last = b.last; words = w }) words,
  λ e.
      let part : bytes_eq a.part b.part ≡ true =
      (bytes_eq-Decides a.part b.part).1 (ap (λ (t : ToldSeen). t.part) e) in
      let site : (a.site == b.site) ≡ true = eq-eqb a.site b.site (ap (λ (t : ToldSeen). t.site) e) in
      let base : (a.base == b.base) ≡ true = eq-eqb a.base b.base (ap (λ (t : ToldSeen). t.base) e) in
      let last : (a.last == b.last) ≡ true = eq-eqb a.last b.last (ap (λ (t : ToldSeen). t.last) e) in
      let words : same_words a.words b.words ≡ true =
      (texts_decide a.words b.words).1 (ap (λ (t : ToldSeen). t.words) e) in
      rw (part, site, base, last, words) refl,
)

pub told_same : (t : ToldSeen) → same_told t t ≡ true
told_same t = (told_decides t t).1 refl
