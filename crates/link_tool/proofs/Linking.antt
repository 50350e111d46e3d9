-- Parts that link, and images that are loaded, as bodies find them.
use Rattle.std.proofs.Common.{◌≡◌, ◌≢◌, ℕ, List, inl, inr, refl, sym, ap, ◌∙◌}
use Rattle.std.specs.Prelude.{Result, Ok, Err}
use Rattle.outside_io.specs.FilesSeen.{FilesSeen}
use Rattle.command_words.specs.declared.part.PartWord.{PartWord}
use Rattle.linked_starts.specs.declared.fault.RuleAt.{RuleAt}
use Rattle.linked_starts.specs.declared.fault.LinkFault.{LinkFault}
use Rattle.linked_starts.specs.declared.fault.LinkFault.TheVariants as link_fault
use Rattle.linked_starts.specs.Answer.{AnswersParts}
use Rattle.linked_starts.specs.Parts.{PartSeen}
use Rattle.linked_starts.specs.Started.{StartSeen}
use Rattle.linked_starts.proofs.Offers.{keeps_all}
use Rattle.linked_starts.specs.Standing.{placed}
use Rattle.image_loader.specs.declared.fault.ImageFault.{ImageFault}
use Rattle.image_loader.specs.declared.fault.ImageFault.TheVariants as image
use Rattle.image_loader.specs.Fault.{not_linked}
use Rattle.image_loader.specs.Image.{ImageSeen, IsImage, image_bytes, SpellsImage}
use Rattle.readers.specs.Readers.{told_by}
use Rattle.image_loader.specs.Reading.{image_of}
use Rattle.image_loader.specs.Answer.{LinksRead, LoadsImage}
use Rattle.image_loader.proofs.Offers.{read_whole}
use Rattle.file_plans.specs.declared.refusal.Refusal.TheVariants as refusal
use Rattle.file_plans.specs.declared.refusal.Stop.{Stop}
use Rattle.file_plans.specs.declared.refusal.Stop.TheVariants.{Refused}
use Rattle.file_plans.specs.Plans.{unless, Made, ◌>>=◌, Comes, Follows, Meets, each_at}
use Rattle.link_tool.specs.Parts.{linked, linked_as, loaded_by, loaded, part_at}
use Rattle.link_tool.specs.Linked.{parts_plan, MeetsStart}
use Rattle.file_plans.proofs.Offers.{comes_bind, follows_bind, follows_end, meets_follows, unless_made}
use Rattle.file_plans.proofs.Offers.{unless_ended}
use Rattle.link_tool.proofs.FirstOf.{linked_none, linked_first}

abbrev pub image_with : ℕ → List PartSeen → ImageSeen
image_with size parts = record { stack = size; parts = parts }

-- ---- parts of words

-- they came, and keep the rules L
pub linked_comes : (words : List PartWord) (size : ℕ) (parts : List PartSeen) (old new : FilesSeen)
    → Comes (each_at part_at 0 words) old (Ok parts) new
    → (let r : Result (Unit {0}) Stop = Ok tt in Meets (unless refusal.Rule (linked parts size)) r)
    → Comes (parts_plan words size) old (Ok (image_with size parts)) new
unfolding parts_plan
linked_comes words size parts old new c m =
    comes_bind (each_at part_at 0 words) (λ ps. unless refusal.Rule (linked ps size) >>=
    (λ _. Made (image_with size ps))) old new new parts (Ok (image_with size parts)) c
    (comes_bind (unless refusal.Rule (linked parts size)) (λ _. Made (image_with size parts)) new new new tt
    (Ok (image_with size parts)) (meets_follows (unless refusal.Rule (linked parts size)) (Ok tt) m new)
    (refl, refl))

-- they did not come
pub linked_unread : (words : List PartWord) (size : ℕ) (old new : FilesSeen) (stop : Stop)
    → (let r : Result (List PartSeen) Stop = Err stop in Follows (each_at part_at 0 words) old r new)
    → (let r : Result ImageSeen Stop = Err stop in Follows (parts_plan words size) old r new)
unfolding parts_plan
linked_unread words size old new stop f = follows_end (each_at part_at 0 words)
    (λ ps. unless refusal.Rule (linked ps size) >>= (λ _. Made (image_with size ps))) old new stop f

-- they came, and linking them stopped
pub linked_stops : (words : List PartWord) (size : ℕ) (parts : List PartSeen) (old new : FilesSeen)
    (stop : Stop) → Comes (each_at part_at 0 words) old (Ok parts) new
    → (let r : Result (Unit {0}) Stop = Err stop in Meets (unless refusal.Rule (linked parts size)) r)
    → (let r : Result ImageSeen Stop = Err stop in Follows (parts_plan words size) old r new)
unfolding parts_plan
linked_stops words size parts old new stop c m =
    follows_bind (each_at part_at 0 words) (λ ps. unless refusal.Rule (linked ps size) >>=
    (λ _. Made (image_with size ps))) old new new parts (Err stop) c
    (follows_end (unless refusal.Rule (linked parts size)) (λ _. Made (image_with size parts)) new new stop
    (meets_follows (unless refusal.Rule (linked parts size)) (Err stop) m new))

-- ---- images

-- what was loaded was read, and its parts keep the rules L
pub loaded_read : (bytes : List ℕ) (i : ImageSeen) → loaded bytes ≡ Ok i → (image_of bytes ≡ Ok i)
    × (linked i.parts i.stack ≡ Ok tt)
unfolding loaded
loaded_read bytes i e = by_read (image_of bytes) refl e
  where
    by_link : (j : ImageSeen) (r : Result (Unit {0}) RuleAt) → linked j.parts j.stack ≡ r → image_of bytes
        ≡ Ok j → linked_as j r ≡ Ok i → (image_of bytes ≡ Ok i) × (linked i.parts i.stack ≡ Ok tt)
    by_link j (Ok u) l is e = let same : j ≡ i = cc in
        (is ∙ ap (λ k. Ok k) same, ap (λ (k : ImageSeen). linked k.parts k.stack) (sym same) ∙ l)
    by_link j (Err b) l is e = absurd (cc)

    by_read : (read : Result ImageSeen ImageFault) → image_of bytes ≡ read → loaded_by read ≡ Ok i
        → (image_of bytes ≡ Ok i) × (linked i.parts i.stack ≡ Ok tt)
    by_read (Ok j) is e = by_link j (linked j.parts j.stack) refl is e
    by_read (Err f) is e = absurd (cc)

-- an image whose parts keep the rules L is loaded from its bytes
pub loaded_again : (i : ImageSeen) → IsImage i → linked i.parts i.stack ≡ Ok tt → loaded (image_bytes i)
    ≡ Ok i
unfolding loaded
loaded_again i fits keep = ap loaded_by (read_whole i fits) ∙ ap (linked_as i) keep

-- bytes that spell an image whose parts link are loaded as it
pub loaded_is : (bytes : List ℕ) (i : ImageSeen) (s : StartSeen) → SpellsImage bytes i
    → AnswersParts i.parts i.stack (Ok s) → loaded bytes ≡ Ok i
loaded_is bytes i s spelled l =
    ap loaded spelled.1 ∙ loaded_again i spelled.0
    (linked_none i.parts i.stack (keeps_all (placed i.parts i.stack) i.stack l.room l.rules))

-- the start that was loaded is that of the image
pub loaded_starts : (bytes : List ℕ) (s : StartSeen)
    → ((i : ImageSeen) × SpellsImage bytes i × AnswersParts i.parts i.stack (Ok s))
    → MeetsStart (unless refusal.Image (loaded bytes)) (Ok s)
loaded_starts bytes s (i, spelled, l) = (
  i,
  unless_made refusal.Image (loaded bytes) i (sym (loaded_is bytes i s spelled l)),
  record { accepted = l.accepted; room = l.room; rules = l.rules; starts = l.starts },
)

-- what was not loaded is refused by its first fault
pub loaded_stops : (bytes : List ℕ) (f : ImageFault) → f ≢ image.NoMemory → LoadsImage bytes (Err f)
    → (let r : Result StartSeen Stop = Err (Refused (refusal.Image f)) in
    MeetsStart (unless refusal.Image (loaded bytes)) r)
unfolding loaded
loaded_stops bytes f differ (inr e) = absurd (differ cc)
loaded_stops bytes f differ (inl h) = unless_ended refusal.Image (loaded bytes) f
    (sym (by_read (image_of bytes) refl h))
  where
    by_link : (i : ImageSeen) (r : Result StartSeen LinkFault) → AnswersParts i.parts i.stack r → Err f
        ≡ told_by not_linked r → linked_as i (linked i.parts i.stack) ≡ Err f
    by_link i (Ok s) a e = absurd (cc)
    by_link i (Err (link_fault.Rule at)) a e =
        let same : image.Rule at ≡ f = cc in
        ap (linked_as i) (linked_first i.parts i.stack at a) ∙ ap (λ x. Err x) same
    by_link i (Err link_fault.NoMemory) a e = absurd (differ cc)

    by_read : (read : Result ImageSeen ImageFault) → image_of bytes ≡ read → LinksRead read (Err f)
        → loaded_by (image_of bytes) ≡ Err f
    by_read (Ok i) is h = ap loaded_by is ∙ by_link i h.0 h.1 h.2
    by_read (Err x) is h = let same : x ≡ f = cc in ap loaded_by is ∙ ap (λ y. Err y) same
