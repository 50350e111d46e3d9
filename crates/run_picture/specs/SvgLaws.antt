-- A picture is an SVG of few elements.
use Rattle.std.specs.Prelude.{◌≡◌, ◌⊎◌, ℕ, List, [], ◌∷◌, ◌++◌, codes}
use Rattle.run_picture.specs.declared.TheConstants.{STYLE}
use Rattle.run_picture.specs.Shapes.{escaped, Shape, Group, marked, shapes_text, groups_text}
use Rattle.run_picture.specs.Picture.{picture}

-- ---- texts

-- a byte that is no mark of SVG
abbrev pub IsPlain : ℕ → Type 0
IsPlain b = (b ≡ 38 → ⊥) × (b ≡ 60 → ⊥) × (b ≡ 62 → ⊥) × (b ≡ 34 → ⊥)

abbrev pub IsReference : List ℕ → Type 0
IsReference name =
    (name ≡ codes "&amp;") ⊎ ((name ≡ codes "&lt;") ⊎ ((name ≡ codes "&gt;") ⊎ (name ≡ codes "&quot;")))

-- plain bytes, and references to the others
pub data IsEscaped : List ℕ → Type 0 where
  none : IsEscaped []
  plain : {s : List ℕ} (b : ℕ) → IsPlain b → IsEscaped s → IsEscaped (b ∷ s)
  reference : {s : List ℕ} (name : List ℕ) → IsReference name → IsEscaped s → IsEscaped (name ++ s)

abbrev pub EscapesAreTexts : Type 0
EscapesAreTexts = (s : List ℕ) → IsEscaped (escaped s)

-- ---- the whole

-- how large it is, shapes of their own, and groups of shapes, each under its title
pub record Document : Type 0 where
  pub width : ℕ
  pub height : ℕ
  pub shapes : List Shape
  pub groups : List Group

-- its text
abbrev pub document_text : Document → List ℕ
document_text d =
    marked (codes "<svg xmlns=\"http://www.w3.org/2000/svg\" width=\"") d.width
    ++ marked (codes "\" height=\"") d.height ++ marked (codes "\" viewBox=\"0 0 ") d.width
    ++ marked (codes " ") d.height ++ codes "\">\n" ++ STYLE.now ++ shapes_text d.shapes
    ++ groups_text d.groups ++ codes "</svg>\n"

abbrev pub PicturesAreDocuments : Type 0
PicturesAreDocuments = (text : List ℕ) → (d : Document) × (picture text ≡ document_text d)
