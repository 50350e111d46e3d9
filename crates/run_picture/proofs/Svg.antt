-- A picture is a document of shapes and groups.
use Rattle.std.proofs.Common.{◌≡◌, ℕ, ◌-◌, Bool, true, false, List, [], ◌∷◌, ◌++◌}
use Rattle.std.proofs.Common.{refl, sym, ap, ◌∙◌, append_assoc, inl, inr}
use Rattle.std.specs.Prelude.{codes, nat_eq}
use Rattle.std.proofs.lemmas.Bool.{eqb-false}
use Rattle.run_picture.specs.declared.TheConstants.{STYLE}
use Rattle.run_picture.specs.Shapes.{escaped_byte, escaped, Shape, shapes_text, groups_text}
use Rattle.run_picture.specs.Events.{EventSeen, events}
use Rattle.run_picture.specs.Held.{nothing_held}
use Rattle.run_picture.specs.Page.{PageSeen, width, height}
use Rattle.run_picture.specs.Groups.{groups}
use Rattle.run_picture.specs.Picture.{lanes, mark, mark_above, marks_text, front, page_text, page_for}
use Rattle.run_picture.specs.Picture.{picture}
use Rattle.run_picture.specs.SvgLaws.{IsEscaped, none, plain, reference, EscapesAreTexts, Document}
use Rattle.run_picture.specs.SvgLaws.{document_text, PicturesAreDocuments}
use Rattle.run_picture.proofs.Joined.{shapes_append}

-- ---- texts

one_text : (b : ℕ) (s : List ℕ) → IsEscaped s → IsEscaped (escaped_byte b ++ s)
one_text b s h = amp (nat_eq b 38) refl
  where
    quot : nat_eq b 38 ≡ false → nat_eq b 60 ≡ false → nat_eq b 62 ≡ false → (t : Bool) → nat_eq b 34 ≡ t
        → IsEscaped (escaped_byte b ++ s)
    quot n1 n2 n3 true e = rw (n1, n2, n3, e) (reference (codes "&quot;") (inr (inr (inr refl))) h)
    quot n1 n2 n3 false e =
        rw (n1, n2, n3, e)
        (plain b (eqb-false b 38 n1, eqb-false b 60 n2, eqb-false b 62 n3, eqb-false b 34 e) h)

    gt : nat_eq b 38 ≡ false → nat_eq b 60 ≡ false → (t : Bool) → nat_eq b 62 ≡ t
        → IsEscaped (escaped_byte b ++ s)
    gt n1 n2 true e = rw (n1, n2, e) (reference (codes "&gt;") (inr (inr (inl refl))) h)
    gt n1 n2 false e = quot n1 n2 e (nat_eq b 34) refl

    lt : nat_eq b 38 ≡ false → (t : Bool) → nat_eq b 60 ≡ t → IsEscaped (escaped_byte b ++ s)
    lt n1 true e = rw (n1, e) (reference (codes "&lt;") (inr (inl refl)) h)
    lt n1 false e = gt n1 e (nat_eq b 62) refl

    amp : (t : Bool) → nat_eq b 38 ≡ t → IsEscaped (escaped_byte b ++ s)
    amp true e = rw e (reference (codes "&amp;") (inl refl) h)
    amp false e = lt e (nat_eq b 60) refl

pub escapes_are_texts : EscapesAreTexts
escapes_are_texts [] = none
escapes_are_texts (b ∷ bs) = one_text b (escaped bs) (escapes_are_texts bs)

-- ---- the whole

marks : PageSeen → List ℕ → List Shape
marks p [] = []
marks p (c ∷ []) = mark p c
marks p (c ∷ d ∷ cs) = mark_above p c d ++ marks p (d ∷ cs)

marks_are : (p : PageSeen) (cs : List ℕ) → marks_text p cs ≡ shapes_text (marks p cs)
unfolding marks
marks_are p [] = refl
marks_are p (c ∷ []) = refl
marks_are p (c ∷ d ∷ cs) =
    ap (λ t. shapes_text (mark_above p c d) ++ t) (marks_are p (d ∷ cs))
    ∙ sym (shapes_append (mark_above p c d) (marks p (d ∷ cs)))

page_document : PageSeen → List EventSeen → Document
page_document p es = record {
  width = width p;
  height = height p;
  shapes = lanes p ++ marks p p.cuts;
  groups = groups p 1 nothing_held es;
}

page_is : (p : PageSeen) (es : List EventSeen) → page_text p es ≡ document_text (page_document p es)
unfolding front page_document
page_is p es =
    let top = front p ++ STYLE.now in
    let gs = groups_text (groups p 1 nothing_held es) in
    let same : top ++ shapes_text (lanes p) ++ marks_text p p.cuts
    ≡ top ++ shapes_text (lanes p ++ marks p p.cuts) =
    append_assoc top (shapes_text (lanes p)) (marks_text p p.cuts)
    ∙ ap (λ t. top ++ t)
    (ap (λ t. shapes_text (lanes p) ++ t) (marks_are p p.cuts)
    ∙ sym (shapes_append (lanes p) (marks p p.cuts))) in
    ap (λ t. t ++ gs ++ codes "</svg>\n") same

pub pictures_are_documents : PicturesAreDocuments
unfolding picture
pictures_are_documents text =
    let es = events text in
    (page_document (page_for es) es, page_is (page_for es) es)
