-- What loading answers, from what reading gives and linking answers.
use Rattle.std.proofs.Common.{◌≡◌, ◌⊎◌, inl, inr, List, ℕ, Result, Ok, Err, refl, sym, ap, subst, ◌∙◌}
use Rattle.std.specs.Prelude.{IsOk}
use Rattle.cap_words.proofs.Offers.{IsBytes}
use Rattle.readers.specs.Readers.{told_by}
use Rattle.readers.specs.Answers.{Fails}
use Rattle.linked_starts.specs.declared.fault.LinkFault.{LinkFault}
use Rattle.linked_starts.specs.declared.fault.LinkFault.TheVariants as link_faults
use Rattle.linked_starts.specs.Standing.{placed}
use Rattle.linked_starts.specs.Pairs.{NoneIsBroken}
use Rattle.linked_starts.specs.Links.{rules_of_link}
use Rattle.linked_starts.specs.Started.{StartSeen}
use Rattle.linked_starts.specs.Answer.{AnswersParts}
use Rattle.image_loader.specs.declared.fault.ImageFault.{ImageFault}
use Rattle.image_loader.specs.declared.fault.ImageFault.TheVariants.{NoMemory}
use Rattle.image_loader.specs.declared.reading.Image.{Image}
use Rattle.image_loader.specs.Fault.{is_refusal, not_linked}
use Rattle.image_loader.specs.Image.{IsImage, image_bytes, SpellsImage}
use Rattle.image_loader.specs.Reading.{image_of}
use Rattle.image_loader.specs.Answer.{LinksRead, LoadsImage}
use Rattle.image_loader.proofs.ImageLaws.{found_whole, read_whole}

-- ---- the answer is right

pub fault_told : (bytes : List ℕ) (e : ImageFault) → Fails is_refusal e (image_of bytes)
    → LoadsImage bytes (Err e)
fault_told bytes e f = by_fault e f
  where
    told : (e : ImageFault) → image_of bytes ≡ Err e → LoadsImage bytes (Err e)
    told e is = inl (subst (λ read. LinksRead read (Err e)) (sym is) refl)

    by_fault : (e : ImageFault) → Fails is_refusal e (image_of bytes) → LoadsImage bytes (Err e)
    by_fault NoMemory f = inr refl
    by_fault e f = told e f

pub linking_told : (bytes : List ℕ) (i : Image) (r : Result StartSeen LinkFault) → image_of bytes ≡ Ok i
    → AnswersParts i.parts i.stack r → LoadsImage bytes (told_by not_linked r)
linking_told bytes i r is answers =
    inl (subst (λ read. LinksRead read (told_by not_linked r)) (sym is) (r, answers, refl))

-- ---- what a right answer says

abbrev Found : List ℕ → StartSeen → Type 0
Found bytes s = (i : Image) × SpellsImage bytes i × AnswersParts i.parts i.stack (Ok s)

pub loads_found : (bytes : List ℕ) (s : StartSeen) → IsBytes bytes → LoadsImage bytes (Ok s) → Found bytes s
loads_found bytes s fits (inr e) = absurd cc
loads_found bytes s fits (inl h) = by_read (image_of bytes) refl h
  where
    by_link : (i : Image) → image_of bytes ≡ Ok i → (r : Result StartSeen LinkFault)
        → AnswersParts i.parts i.stack r → Ok s ≡ told_by not_linked r → Found bytes s
    by_link i is (Ok t) answers e =
        let same : t ≡ s = cc in
        (i, found_whole bytes i fits is, subst (λ t. AnswersParts i.parts i.stack (Ok t)) same answers)
    by_link i is (Err f) answers e = absurd cc

    by_read : (read : Result Image ImageFault) → image_of bytes ≡ read → LinksRead read (Ok s) → Found bytes s
    by_read (Ok i) is h = by_link i is h.0 h.1 h.2
    by_read (Err e) is h = absurd cc

pub loads_only : (bytes : List ℕ) (answer : Result StartSeen ImageFault) (i : Image) → LoadsImage bytes answer
    → SpellsImage bytes i → NoneIsBroken (rules_of_link (placed i.parts i.stack) i.stack)
    → IsOk answer ⊎ (answer ≡ Err NoMemory)
loads_only bytes answer i (inr e) spelled none = inr e
loads_only bytes answer i (inl h) spelled none =
    let read : image_of bytes ≡ Ok i = ap image_of spelled.1 ∙ read_whole i spelled.0 in
    let g : LinksRead (Ok i) answer = subst (λ q. LinksRead q answer) read h in
    by_link g.0 g.1 g.2
  where
    by_link : (r : Result StartSeen LinkFault) → AnswersParts i.parts i.stack r
        → answer ≡ told_by not_linked r
        → IsOk answer ⊎ (answer ≡ Err NoMemory)
    by_link (Ok s) answers e = inl (subst IsOk (sym e) refl)
    by_link (Err (link_faults.Rule at)) answers e =
        absurd (none answers.number answers.part answers.index answers.test answers.is answers.broken)
    by_link (Err link_faults.NoMemory) answers e = inr e

pub written_links : (i : Image) (answer : Result StartSeen ImageFault) → IsImage i
    → LoadsImage (image_bytes i) answer → LinksRead (Ok i) answer ⊎ (answer ≡ Err NoMemory)
written_links i answer fits (inr e) = inr e
written_links i answer fits (inl h) = inl (subst (λ read. LinksRead read answer) (read_whole i fits) h)
