-- The picture of a run.
use Rattle.std.specs.Prelude.{◌≡◌, ℕ, ◌-◌, ◌+◌, ◌*◌, nat_le, nat_lt, min, Bool, ◌||◌, List, [], ◌∷◌, ◌++◌}
use Rattle.std.specs.Prelude.{length, codes, decimal, Result, Ok, Err, if◌then◌else◌}
use Rattle.run_audit.specs.declared.fault.AuditFault.{AuditFault}
use Rattle.run_audit.specs.declared.fault.AuditFault.TheVariants.{NoMemory}
use Rattle.run_audit.specs.Audit.{audited}
use Rattle.run_picture.specs.declared.TheConstants.{STYLE, LAST_LENGTH, LAST_COUNT}
use Rattle.run_picture.specs.declared.fault.DrawFault.{DrawFault}
use Rattle.run_picture.specs.declared.fault.DrawFault.TheVariants.{TooLong, Audit}
use Rattle.run_picture.specs.declared.class.Class.TheVariants as class
use Rattle.run_picture.specs.Shapes.{Shape, box, line, label, marked, shapes_text, groups_text}
use Rattle.run_picture.specs.Events.{EventSeen, events}
use Rattle.run_picture.specs.Heights.{cuts_from}
use Rattle.run_picture.specs.Held.{nothing_held}
use Rattle.run_picture.specs.Page.{PageSeen, page_of, x, y, width, height}
use Rattle.run_picture.specs.Groups.{groups}

-- ---- what stands after the lines

-- the lanes, and the border between them
unfoldable pub lanes : PageSeen → List Shape
lanes p =
    box class.Trusted 132 100 (x p p.count) 130
    ∷ box class.Outside 132 220 (x p p.count) 250
    ∷ line class.Rule 12 214 (x p p.count) 214
    ∷ []

-- a cut, and the address below it
unfoldable pub mark : PageSeen → ℕ → List Shape
mark p c =
    line class.Rule 12 (y p c) (x p p.count) (y p c) ∷ label class.Note 12 (y p c + 12) (decimal (c - 1)) ∷ []

-- where it stands far enough above the next
unfoldable pub mark_above : PageSeen → ℕ → ℕ → List Shape
mark_above p c d = if nat_le 14 (p.scale.px * min (c - d) p.scale.most) then mark p c else []

-- those of cuts
abbrev pub marks_text : PageSeen → List ℕ → List ℕ
marks_text p [] = []
marks_text p (c ∷ []) = shapes_text (mark p c)
marks_text p (c ∷ d ∷ cs) = shapes_text (mark_above p c d) ++ marks_text p (d ∷ cs)

-- ---- the whole

unfoldable pub front : PageSeen → List ℕ
front p =
    marked (codes "<svg xmlns=\"http://www.w3.org/2000/svg\" width=\"") (width p)
    ++ marked (codes "\" height=\"") (height p) ++ marked (codes "\" viewBox=\"0 0 ") (width p)
    ++ marked (codes " ") (height p) ++ codes "\">\n"

abbrev pub page_text : PageSeen → List EventSeen → List ℕ
page_text p es =
    front p ++ STYLE.now ++ shapes_text (lanes p) ++ marks_text p p.cuts
    ++ groups_text (groups p 1 nothing_held es) ++ codes "</svg>\n"

-- the page of such lines
abbrev pub page_for : List EventSeen → PageSeen
page_for es = page_of (cuts_from [] es) (length es)

unfoldable pub picture : List ℕ → List ℕ
picture text = let es = events text in page_text (page_for es) es

-- ---- which texts are drawn

abbrev pub is_too_long : List ℕ → Bool
is_too_long text = nat_lt LAST_LENGTH (length text) || nat_lt LAST_COUNT (length (events text))

abbrev pub drawn_if : {A : Type 0} → Result A AuditFault → List ℕ → Result (List ℕ) DrawFault
drawn_if (Ok x) text = Ok (picture text)
drawn_if (Err e) text = Err (Audit e)

-- the picture of a text that passes the audit, where it isn't too long
unfoldable pub drawn : List ℕ → Result (List ℕ) DrawFault
drawn text = if is_too_long text then Err TooLong else drawn_if (audited text) text

-- the answer is the one that is due, unless memory is refused
abbrev pub Draws : {A : Type 0} → (A → List ℕ) → Result A DrawFault → Result (List ℕ) DrawFault → Type 0
Draws view (Ok v) due = due ≡ Ok (view v)
Draws view (Err TooLong) due = due ≡ Err TooLong
Draws view (Err (Audit NoMemory)) due = Unit {0}
Draws view (Err (Audit e)) due = due ≡ Err (Audit e)
