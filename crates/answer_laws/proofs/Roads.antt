-- Words beside words: each command comes to the same.
use Rattle.std.proofs.Common.{◌≡◌, ℕ, ◌≤◌, List, [], ◌∷◌, length, Option, Some, None, Bool, true, false, refl}
use Rattle.std.proofs.Common.{sym, ap, subst, ◌∙◌, le-leb}
use Rattle.std.proofs.lemmas.Bool.{leb-true}
use Rattle.std.specs.Prelude.{◌↔◌, nat_le, Result, Ok, Err, map}
use Rattle.command_words.specs.declared.part.Ending.{Ending}
use Rattle.command_words.specs.declared.part.Ending.TheVariants.{Source, Assembler, Component}
use Rattle.command_words.specs.declared.part.PartWord.{PartWord}
use Rattle.command_words.specs.declared.command.Linked.{Linked}
use Rattle.command_words.specs.declared.command.Linked.TheVariants as what
use Rattle.command_words.specs.declared.command.LinkDeed.TheVariants as link_deed
use Rattle.command_words.specs.declared.command.ComponentDeed.TheVariants as component_deed
use Rattle.command_words.specs.declared.command.Command.{Command}
use Rattle.command_words.specs.declared.command.Command.TheVariants.{Links, Takes, Checks, Mean}
use Rattle.command_words.specs.declared.command.Command.TheVariants as asked
use Rattle.assembler.specs.Assembled.{assembled}
use Rattle.disassembler.specs.Disassembled.{disassembled}
use Rattle.component_file.specs.declared.component.ComponentFields.{ComponentFields}
use Rattle.component_file.specs.Limits.{IsComponent}
use Rattle.component_file.specs.Spelling.{spelling}
use Rattle.component_file.specs.Reading.{decoded}
use Rattle.linked_starts.specs.Parts.{PartSeen}
use Rattle.linked_starts.specs.Accepted.{accepted}
use Rattle.image_loader.specs.Image.{ImageSeen, image_bytes}
use Rattle.debug_script.specs.Script.{scripted}
use Rattle.proc_language.specs.declared.module.ModuleFields.{ModuleFields}
use Rattle.proc_language.specs.Unplaced.{IsAlike}
use Rattle.alike_modules.specs.Alike.{AreAlike, IsSourceOf}
use Rattle.proc_program.specs.Lower.{part_of}
use Rattle.proc_sources.specs.Sources.{module_in, sourced}
use Rattle.module_rules.specs.Rules.{stack_base_of, ruled}
use Rattle.line_fields.specs.Feed.{fed}
use Rattle.source_events.specs.declared.Told.{Told}
use Rattle.proc_language.specs.declared.dialect.Dialect.TheVariants.{Plain, Tokens}
use Rattle.file_plans.specs.declared.TheConstants.{LONGEST_FILE}
use Rattle.file_plans.specs.declared.refusal.Refusal.{Refusal}
use Rattle.file_plans.specs.declared.refusal.Refusal.TheVariants as refusal
use Rattle.file_plans.specs.Plans.{Plan, Made, unless, each_at}
use Rattle.meaning_tool.specs.Subjects.{Subject, language_of, module_at, feed_at, unfed, subject_of}
use Rattle.meaning_tool.specs.Subjects.{subject_in, told_of}
use Rattle.command_words.specs.Part.{is_trusted_mark}
use Rattle.refusal_lines.specs.declared.status.Status.TheVariants.{Done}
use Rattle.link_tool.specs.Parts.{broken_in, linked, loaded, form_by, HasForm, component_at, part_at}
use Rattle.ready_tasks.specs.Debugs.{unscripted, script_at}
use Rattle.ready_tasks.specs.Commands.{Task, Tell, Debug, link_task, component_task, debug_plan, for_task}
use Rattle.link_tool.specs.Linked.{parts_plan, image_plan, linked_plan}
use Rattle.ready_tasks.specs.Commands.{plan_of}
use Rattle.command_words.specs.Answers.{NewFile, IsWritten}
use Rattle.lcm_cli.specs.Answers.{Answer, IsAnswerOf, tells, puts, writes, stk}
use Rattle.answer_laws.specs.Roads.{Held, PutsComponent, PutsImage, ShowsText, IsErasure, HoldsShort}
use Rattle.answer_laws.specs.Roads.{Pairwise, HaveOneText, same, erasure, IsBeside, one_text, component}
use Rattle.answer_laws.specs.Roads.{shown, AreBeside, LinkBeside, AskBeside, Asking, AskTheSame, beside}
use Rattle.answer_laws.specs.Roads.{back, onward, IsGiven}
use Rattle.answer_laws.proofs.Alongside.{Due, by_length, by_bytes, on, settled, settled_by, settles}
use Rattle.answer_laws.proofs.Alongside.{Match, Agree, agree_bind, each_agree, all_equal, as_many, told}
use Rattle.answer_laws.proofs.Alongside.{settled_bind, settled_unless, match_same}
use Rattle.answer_laws.proofs.ComponentLimits.{LimitLaws, form_fits}
use Rattle.lcm_cli.proofs.Offers.{refused_none}

-- what alike modules have in common, and that an erasure that is read again is alike; and that the text of a
-- component is read as it
pub record RoadLaws : Type 0 where
  pub rules : (xs ms : List ModuleFields) (size : ℕ) → AreAlike xs ms → ruled xs size ≡ ruled ms size
  pub base : (xs ms : List ModuleFields) → AreAlike xs ms → stack_base_of xs ≡ stack_base_of ms
  pub programs : (xs ms : List ModuleFields) → AreAlike xs ms → map part_of xs ≡ map part_of ms
  pub again : (text erased : List ℕ) (e : IsErasure text erased) → IsSourceOf erased e.m
  pub text_is_read : (c : ComponentFields) → IsComponent c → assembled (disassembled c) ≡ Ok c
  pub limits : LimitLaws

alike_all : (xs ms : List ModuleFields) → Pairwise IsAlike xs ms → AreAlike xs ms
alike_all [] [] h = refl
alike_all [] (m ∷ ms) h = absurd h
alike_all (x ∷ xs) [] h = absurd h
alike_all (x ∷ xs) (m ∷ ms) h = let e = h.0 in let f = alike_all xs ms h.1 in cc

-- ---- a word that is read, and what comes of its bytes

read_so : {A : Type 0} (index : ℕ) (next : List ℕ → Due A) (bytes : List ℕ) (o : Option (List ℕ))
    → o ≡ Some bytes → length bytes ≤ LONGEST_FILE → by_bytes index next o ≡ next bytes
read_so index next bytes o e l = rw (e, le-leb (length bytes) LONGEST_FILE l) refl

same_bytes : {A : Type 0} (index : ℕ) (f g : List ℕ → Due A) → ((bytes : List ℕ) → f bytes ≡ g bytes)
    → (o : Option (List ℕ)) → by_bytes index f o ≡ by_bytes index g o
same_bytes index f g k None = refl
same_bytes index f g k (Some bytes) = rw (k bytes) refl

-- what came of a word that was read whole
record ReadWhole {A : Type 0} (next : List ℕ → Due A) (o : Option (List ℕ)) (x : A) : Type 0 where
  bytes : List ℕ
  is : o ≡ Some bytes
  short : length bytes ≤ LONGEST_FILE
  gives : next bytes ≡ Some (Ok x)

read_at : {A : Type 0} (index : ℕ) (next : List ℕ → Due A) (bytes : List ℕ) (x : A) (b : Bool)
    → nat_le (length bytes) LONGEST_FILE ≡ b → by_length index bytes b (next bytes) ≡ Some (Ok x)
    → ReadWhole next (Some bytes) x
read_at index next bytes x true l e =
    record { bytes = bytes; is = refl; short = leb-true (length bytes) LONGEST_FILE l; gives = e }
read_at index next bytes x false l e = absurd (cc)

read_whole : {A : Type 0} (index : ℕ) (next : List ℕ → Due A) (o : Option (List ℕ)) (x : A)
    → by_bytes index next o ≡ Some (Ok x) → ReadWhole next o x
read_whole index next None x e = absurd (cc)
read_whole index next (Some bytes) x e =
    read_at index next bytes x (nat_le (length bytes) LONGEST_FILE) refl e

-- ---- a component

abbrev formed : Ending → ℕ → List ℕ → Result ComponentFields Refusal
formed (Source d) index bytes = told (refusal.Source index) (sourced d bytes)
formed Assembler index bytes = told (refusal.Assembly index) (assembled bytes)
formed Component index bytes = told (refusal.File index) (decoded bytes)

form_is : (over : Held) (ending : Ending) (index : ℕ) (bytes : List ℕ)
    → settled over (form_by ending index bytes) ≡ Some (formed ending index bytes)
form_is over (Source d) index bytes = settled_unless over (refusal.Source index) (sourced d bytes)
form_is over Assembler index bytes = settled_unless over (refusal.Assembly index) (assembled bytes)
form_is over Component index bytes = settled_unless over (refusal.File index) (decoded bytes)

told_ok : {A F : Type 0} (why : F → Refusal) (r : Result A F) (x : A)
    → (let o : Due A = Some (told why r) in o) ≡ Some (Ok x) → r ≡ Ok x
told_ok why (Ok y) x e = let q : y ≡ x = cc in ap (λ z. Ok z) q
told_ok why (Err f) x e = absurd (cc)

form_of : (ending : Ending) (index : ℕ) (bytes : List ℕ) (c : ComponentFields)
    → (let o : Due ComponentFields = Some (formed ending index bytes) in o) ≡ Some (Ok c)
    → HasForm ending bytes c
form_of (Source d) index bytes c e = told_ok (refusal.Source index) (sourced d bytes) c e
form_of Assembler index bytes c e = told_ok (refusal.Assembly index) (assembled bytes) c e
form_of Component index bytes c e = told_ok (refusal.File index) (decoded bytes) c e

formed_so : (ending : Ending) (index : ℕ) (bytes : List ℕ) (c : ComponentFields) → HasForm ending bytes c
    → formed ending index bytes ≡ Ok c
formed_so (Source d) index bytes c h = ap (told (refusal.Source index)) h
formed_so Assembler index bytes c h = ap (told (refusal.Assembly index)) h
formed_so Component index bytes c h = ap (told (refusal.File index)) h

component_is : (over : Held) (index : ℕ) (w : PartWord)
    → settled over (component_at index w) ≡ by_bytes index (λ b. Some (formed w.ending index b))
    (over w.name)
unfolding component_at
component_is over index w =
    same_bytes index (λ b. settled over (form_by w.ending index b)) (λ b. Some (formed w.ending index b))
    (form_is over w.ending index) (over w.name)

-- the file of a word is this component
record IsFileOf (over : Held) (w : PartWord) (c : ComponentFields) : Type 0 where
  bytes : List ℕ
  held : HoldsShort over w.name bytes
  form : HasForm w.ending bytes c

file_of : (over : Held) (index : ℕ) (w : PartWord) (c : ComponentFields)
    → settled over (component_at index w) ≡ Some (Ok c) → IsFileOf over w c
file_of over index w c e =
    let r = read_whole index (λ b. Some (formed w.ending index b)) (over w.name) c
    (sym (component_is over index w) ∙ e) in
    record { bytes = r.bytes; held = (r.is, r.short); form = form_of w.ending index r.bytes c r.gives }

file_settles : (over : Held) (index : ℕ) (w : PartWord) (c : ComponentFields) → IsFileOf over w c
    → settled over (component_at index w) ≡ Some (Ok c)
file_settles over index w c f =
    component_is over index w
    ∙ read_so index (λ b. Some (formed w.ending index b)) f.bytes (over w.name) f.held.0 f.held.1
    ∙ ap (λ r. Some r) (formed_so w.ending index f.bytes c f.form)

-- ---- what a command was answered

-- a plan made this, of which the answer is
record IsMade {A : Type 0} (over : Held) (p : Plan A) (task : A → Task) (a : Answer) : Type 0 where
  made : A
  comes : settled over p ≡ Some (Ok made)
  answered : IsAnswerOf (Ok (task made)) a

due_ok : {A : Type 0} (over : Held) (p : Plan A) (task : A → Task) (a : Answer) (r : Due A)
    (due : Result Task Refusal)
    → settled over p ≡ r → on r (λ x. (let o : Due Task = Some (Ok (task x)) in o)) ≡ Some due
    → IsAnswerOf due a → a.status ≡ Done → IsMade over p task a
due_ok over p task a None due e s h d = absurd (cc)
due_ok over p task a (Some (Ok x)) due e s h d =
    let q : due ≡ Ok (task x) = cc in
    record { made = x; comes = e; answered = subst (λ z. IsAnswerOf z a) q h }
due_ok over p task a (Some (Err why)) due e s h d =
    let q : due ≡ Err why = cc in
    absurd (refused_none why a Done (subst (λ z. IsAnswerOf z a) q h) (sym d) tt)

made_of : {A : Type 0} (over : Held) (p : Plan A) (task : A → Task) (a : Answer)
    → IsWritten stk over (for_task p task) a → a.status ≡ Done → IsMade over p task a
made_of over p task a w d =
    due_ok over p task a (settled over p) w.0 refl
    (sym (settled_bind over p (λ x. Made (task x))) ∙ settled_by over (for_task p task) w.0 w.1) w.2 d

abbrev bytes_in : Option NewFile → List ℕ
bytes_in None = []
bytes_in (Some file) = file.bytes

same_put : (name other bytes x : List ℕ) → puts name bytes ≡ puts other x → bytes ≡ x
same_put name other bytes x e = ap (λ (a : Answer). bytes_in a.file) e

-- what `compile` or `asm` put is the component's spelling, which is read as it
record IsSpelt (over : Held) (w : PartWord) (bytes : List ℕ) : Type 0 where
  c : ComponentFields
  file : IsFileOf over w c
  again : decoded bytes ≡ Ok c

spelt : (over : Held) (w : PartWord) (bytes : List ℕ) → PutsComponent over w bytes → IsSpelt over w bytes
spelt over w bytes (out, h) =
    let m =
    made_of over (component_at 0 w) (component_task (component_deed.Put out)) (puts out bytes) h refl in
    let q = same_put out out bytes (spelling m.made) m.answered.1 in
    record {
      c = m.made;
      file = file_of over 0 w m.made m.comes;
      again = ap decoded q ∙ m.answered.0;
    }

-- what `dis` writes is the component's text
record IsShown (over : Held) (w : PartWord) (text : List ℕ) : Type 0 where
  c : ComponentFields
  file : IsFileOf over w c
  is : text ≡ disassembled c

shown_of : (over : Held) (w : PartWord) (text : List ℕ) → ShowsText over w text → IsShown over w text
shown_of over w text h =
    let m = made_of over (component_at 0 w) (component_task component_deed.Show) (writes Done text) h refl in
    record {
      c = m.made;
      file = file_of over 0 w m.made m.comes;
      is = ap (λ (a : Answer). a.text) m.answered;
    }

-- what `link` put is the image of the parts that link, which is read as it
record IsImageOf (over : Held) (ws : List PartWord) (size : ℕ) (bytes : List ℕ) : Type 0 where
  image : ImageSeen
  comes : settled over (parts_plan ws size) ≡ Some (Ok image)
  again : loaded bytes ≡ Ok image

image_of_words : (over : Held) (ws : List PartWord) (size : ℕ) (bytes : List ℕ) → PutsImage over ws size bytes
    → IsImageOf over ws size bytes
image_of_words over ws size bytes (out, h) =
    let m = made_of over (parts_plan ws size) (link_task (link_deed.Store out)) (puts out bytes) h refl in
    let q = same_put out out bytes (image_bytes m.made) m.answered.1 in
    record { image = m.made; comes = m.comes; again = ap loaded q ∙ m.answered.0 }

image_is : (over : Held) (name : List ℕ)
    → settled over (image_plan name) ≡ by_bytes 0 (λ b. Some (told refusal.Image (loaded b))) (over name)
unfolding image_plan
image_is over name =
    same_bytes 0 (λ b. settled over (unless refusal.Image (loaded b))) _
    (λ b. settled_unless over refusal.Image (loaded b)) (over name)

module _ (laws : RoadLaws) (held there : Held) where
  -- ---- components

  -- the same component, or the same fault of size
  sourced_so : (text erased : List ℕ) → IsErasure text erased → sourced Tokens text ≡ sourced Plain erased
  unfolding sourced
  sourced_so text erased e = rw e.spelled (sym (laws.again text erased e).compiled)

  texts_so : (index : ℕ) (w v : PartWord) → HaveOneText held there w v
      → settled held (component_at index w) ≡ settled there (component_at index v)
  texts_so index w v (same m e f) =
      component_is held index w
      ∙ (ap (λ (q : Ending). by_bytes index (λ b. Some (formed q index b)) (held w.name)) (sym e)
      ∙ (ap (by_bytes index (λ b. Some (formed v.ending index b))) (sym f)
      ∙ sym (component_is there index v)))
  texts_so index w v (erasure text erased m s p h k e) =
      component_is held index w
      ∙ (read_so index (λ b. Some (formed w.ending index b)) text (held w.name) h e.short
      ∙ (rw (s, p, sourced_so text erased e) refl
      ∙ (sym (read_so index (λ b. Some (formed v.ending index b)) erased (there v.name) k e.erasure_short)
      ∙ sym (component_is there index v))))

  -- two files of one component
  files_so : (index : ℕ) (w v : PartWord) (c : ComponentFields) → IsFileOf held w c → IsFileOf there v c
      → settled held (component_at index w) ≡ settled there (component_at index v)
  files_so index w v c f g = file_settles held index w c f ∙ sym (file_settles there index v c g)

  components : (index : ℕ) (w v : PartWord) → IsBeside held there w v
      → settled held (component_at index w) ≡ settled there (component_at index v)
  components index w v (one_text h) = texts_so index w v h
  components index w v (component bytes m e p k) =
      let s = spelt held w bytes p in
      files_so index w v s.c s.file (record {
        bytes = bytes;
        held = k;
        form = subst (λ q. HasForm q bytes s.c) (sym e) s.again;
      })
  components index w v (shown text m e p b k) =
      let s = shown_of held w text p in
      let l : IsComponent s.c =
      form_fits laws.limits w.ending s.file.bytes s.c (λ q. b q s.file.bytes s.file.held.0) s.file.form in
      files_so index w v s.c s.file (record {
        bytes = text;
        held = k;
        form = subst (λ q. HasForm q text s.c) (sym e) (ap assembled s.is ∙ laws.text_is_read s.c l);
      })

  same_due : {A : Type 0} (p q : Plan A) → settled held p ≡ settled there q
      → Agree held there (λ x y. x ≡ y) p q
  same_due p q e = subst (Match (λ x y. x ≡ y) (settled held p)) e (match_same (settled held p))

  component_agrees : (index : ℕ) (w v : PartWord) → IsBeside held there w v
      → Agree held there (λ x y. x ≡ y) (component_at index w) (component_at index v)
  component_agrees index w v b =
      same_due (component_at index w) (component_at index v) (components index w v b)

  marks : (w v : PartWord) → IsBeside held there w v → v.mark ≡ w.mark
  marks w v (one_text (same m e f)) = m
  marks w v (one_text (erasure text erased m s p h k e)) = m
  marks w v (component bytes m e p k) = m
  marks w v (shown text m e p b k) = m

  -- a layer below gives the same over all files
  agree_unless : {A F : Type 0} (why : F → Refusal) (r : Result A F)
      → Agree held there (λ x y. x ≡ y) (unless why r) (unless why r)
  agree_unless why (Ok x) = refl
  agree_unless why (Err f) = refl

  part_agrees : (index : ℕ) (w v : PartWord) → IsBeside held there w v
      → Agree held there (λ x y. x ≡ y) (part_at index w) (part_at index v)
  unfolding part_at
  part_agrees index w v b =
      agree_bind held there (λ x y. x ≡ y) (λ x y. x ≡ y) (component_at index w) (component_at index v) _ _
      (component_agrees index w v b) (λ c d e.
      let a : PartSeen = record { component = c; trusted = is_trusted_mark w.mark } in
      let q = marks w v b in
      rw (sym e, q) (agree_unless (broken_in index) (accepted a)))

  -- ---- parts that link

  linked_agree : (ws vs : List PartWord) (size : ℕ) → AreBeside held there ws vs
      → Agree held there (λ x y. x ≡ y) (parts_plan ws size) (parts_plan vs size)
  unfolding parts_plan
  linked_agree ws vs size b =
      agree_bind held there (Pairwise (λ x y. x ≡ y)) (λ x y. x ≡ y) (each_at part_at 0 ws)
      (each_at part_at 0 vs)
      _ _ (each_agree held there (IsBeside held there) (λ x y. x ≡ y) part_at part_agrees 0 ws vs b)
      (λ ps qs e.
      rw (sym (all_equal ps qs e))
      (agree_bind held there (λ x y. x ≡ y) (λ x y. x ≡ y) (unless refusal.Rule (linked ps size))
      (unless refusal.Rule (linked ps size)) _ _ (agree_unless refusal.Rule (linked ps size))
      (λ u v f. refl)))

  -- ---- what links

  image_so : (ws : List PartWord) (size : ℕ) (name bytes : List ℕ) → PutsImage held ws size bytes
      → HoldsShort there name bytes
      → settled held (parts_plan ws size) ≡ settled there (image_plan name)
  image_so ws size name bytes p k =
      let s = image_of_words held ws size bytes p in
      s.comes ∙ sym (image_is there name
      ∙ read_so 0 (λ b. Some (told refusal.Image (loaded b))) bytes (there name) k.0 k.1
      ∙ ap (λ r. Some (told refusal.Image r)) s.again)

  images_so : (name other : List ℕ) → there other ≡ held name
      → settled held (image_plan name) ≡ settled there (image_plan other)
  images_so name other e =
      image_is held name
      ∙ ap (by_bytes 0 (λ b. Some (told refusal.Image (loaded b)))) (sym e)
      ∙ sym (image_is there other)

  links_agree : (l k : Linked) → LinkBeside held there l k
      → Agree held there (λ x y. x ≡ y) (linked_plan l) (linked_plan k)
  links_agree (what.Parts ws size) (what.Parts vs other) h = rw h.1 (linked_agree ws vs size h.0)
  links_agree (what.Parts ws size) (what.Image name) h =
      same_due (parts_plan ws size) (image_plan name) (image_so ws size name h.0 h.1 h.2)
  links_agree (what.Image name) (what.Image other) h =
      same_due (image_plan name) (image_plan other) (images_so name other h)
  links_agree (what.Image name) (what.Parts vs other) h = absurd h

  -- ---- modules

  module_is : (over : Held) (index : ℕ) (w : PartWord)
      → settled over (module_at index w)
      ≡ by_bytes index (λ b. Some (told (refusal.Source index) (module_in (language_of w.ending) b)))
      (over w.name)
  unfolding module_at
  module_is over index w =
      same_bytes index
      (λ b. settled over (unless (refusal.Source index) (module_in (language_of w.ending) b))) _
      (λ b. settled_unless over (refusal.Source index) (module_in (language_of w.ending) b)) (over w.name)

  alike_itself : (r : Due ModuleFields) → Match IsAlike r r
  alike_itself None = tt
  alike_itself (Some (Ok x)) = refl
  alike_itself (Some (Err why)) = refl

  module_agrees : (index : ℕ) (w v : PartWord) → HaveOneText held there w v
      → Agree held there IsAlike (module_at index w) (module_at index v)
  module_agrees index w v (same m e f) =
      rw (module_is held index w, module_is there index v, e, f)
      (alike_itself (by_bytes index
      (λ b. Some (told (refusal.Source index) (module_in (language_of w.ending) b))) (held w.name)))
  module_agrees index w v (erasure text erased m s p h k e) =
      let a = laws.again text erased e in
      rw (
        module_is held index w,
        module_is there index v,
        read_so index (λ b. Some (told (refusal.Source index) (module_in (language_of w.ending) b))) text
            (held w.name) h e.short,
        read_so index (λ b. Some (told (refusal.Source index) (module_in (language_of v.ending) b))) erased
            (there v.name) k e.erasure_short,
        s,
        p,
        e.spelled,
        a.spelled,
      ) (sym a.alike)

  -- a file that holds the same
  file_agrees : {A : Type 0} (name other : List ℕ) (index : ℕ) (f : List ℕ → Result A Refusal)
      → there other ≡ held name
      → Match (λ x y. x ≡ y) (by_bytes index (λ b. Some (f b)) (held name))
      (by_bytes index (λ b. Some (f b)) (there other))
  file_agrees name other index f e = rw e (match_same (by_bytes index (λ b. Some (f b)) (held name)))

  feed_is : (over : Held) (name : List ℕ) (index base : ℕ)
      → settled over (feed_at name index base) ≡ by_bytes index (λ b. Some (told unfed (fed base b)))
      (over name)
  unfolding feed_at
  feed_is over name index base =
      same_bytes index (λ b. settled over (unless unfed (fed base b))) _
      (λ b. settled_unless over unfed (fed base b)) (over name)

  feed_agrees : (name other : List ℕ) (index base : ℕ) → there other ≡ held name
      → Agree held there (λ x y. x ≡ y) (feed_at name index base) (feed_at other index base)
  feed_agrees name other index base e =
      rw (feed_is held name index base, feed_is there other index base)
      (file_agrees name other index (λ b. told unfed (fed base b)) e)

  -- subjects of which the same is told
  abbrev TellAlike : Subject → Subject → Type 0
  TellAlike s t = (fuel : ℕ) → told_of s fuel ≡ told_of t fuel

  subject_of_agrees : (count size : ℕ) (feed other : List ℕ) (xs ms : List ModuleFields)
      → there other ≡ held feed
      → AreAlike xs ms → Agree held there TellAlike (subject_of count size feed xs)
      (subject_of count size other ms)
  unfolding subject_of
  subject_of_agrees count size feed other xs ms e h =
      rw (← laws.rules xs ms size h, ← laws.base xs ms h)
      (agree_bind held there (λ x y. x ≡ y) TellAlike (unless refusal.Rule (ruled xs size))
      (unless refusal.Rule (ruled xs size)) _ _ (agree_unless refusal.Rule (ruled xs size)) (λ u v q.
      agree_bind held there (λ x y. x ≡ y) TellAlike (feed_at feed count (stack_base_of xs))
      (feed_at other count (stack_base_of xs)) _ _ (feed_agrees feed other count (stack_base_of xs) e)
      (λ items others r
      fuel. rw (laws.programs xs ms h, r) refl)))

  subject_agrees : (ws vs : List PartWord) (size : ℕ) (feed other : List ℕ) → there other ≡ held feed
      → Pairwise (HaveOneText held there) ws vs
      → Agree held there TellAlike (subject_in ws size feed) (subject_in vs size other)
  unfolding subject_in
  subject_agrees ws vs size feed other e b =
      rw (as_many (HaveOneText held there) ws vs b)
      (agree_bind held there (Pairwise IsAlike) TellAlike (each_at module_at 0 ws) (each_at module_at 0 vs)
      _ _
      (each_agree held there (HaveOneText held there) IsAlike module_at module_agrees 0 ws vs b)
      (λ xs ms h. subject_of_agrees (length ws) size feed other xs ms e (alike_all xs ms h)))

  -- ---- and so commands

  -- tasks that have the same answers
  abbrev AnswerAlike : Task → Task → Type 0
  AnswerAlike t u = (a : Answer) → IsAnswerOf (Ok t) a ↔ IsAnswerOf (Ok u) a

  same_task : (t u : Task) → t ≡ u → AnswerAlike t u
  same_task t u e a = subst (λ z. IsAnswerOf (Ok t) a ↔ IsAnswerOf (Ok z) a) e ((λ h. h), (λ h. h))

  tasks_of : {A B : Type 0} (R : A → B → Type 0) (p : Plan A) (q : Plan B) (f : A → Task) (g : B → Task)
      → Agree held there R p q → ((x : A) (y : B) → R x y → AnswerAlike (f x) (g y))
      → Agree held there AnswerAlike (for_task p f) (for_task q g)
  tasks_of R p q f g h k = agree_bind held there R AnswerAlike p q _ _ h k

  same_tasks : {A : Type 0} (p q : Plan A) (f : A → Task) → Agree held there (λ x y. x ≡ y) p q
      → Agree held there AnswerAlike (for_task p f) (for_task q f)
  same_tasks p q f h = tasks_of (λ x y. x ≡ y) p q f f h (λ x y e. same_task (f x) (f y) (ap f e))

  script_is : (over : Held) (name : List ℕ) (index : ℕ)
      → settled over (script_at name index) ≡ by_bytes index (λ b. Some (told unscripted (scripted b)))
      (over name)
  unfolding script_at
  script_is over name index =
      same_bytes index (λ b. settled over (unless unscripted (scripted b))) _
      (λ b. settled_unless over unscripted (scripted b)) (over name)

  script_agrees : (name other : List ℕ) (index : ℕ) → there other ≡ held name
      → Agree held there (λ x y. x ≡ y) (script_at name index) (script_at other index)
  script_agrees name other index e =
      rw (script_is held name index, script_is there other index)
      (file_agrees name other index (λ b. told unscripted (scripted b)) e)

  debug_agrees : (l k : Linked) (script lines : List ℕ) → there lines ≡ held script
      → LinkBeside held there l k
      → Agree held there AnswerAlike (debug_plan l script) (debug_plan k lines)
  unfolding debug_plan
  debug_agrees l k script lines e b =
      agree_bind held there (λ x y. x ≡ y) AnswerAlike (linked_plan l) (linked_plan k) _ _
      (links_agree l k b) (λ i j q.
      rw (sym q) (agree_bind held there (λ x y. x ≡ y) AnswerAlike (script_at script (length i.parts))
      (script_at lines (length i.parts)) _ _ (script_agrees script lines (length i.parts) e)
      (λ x y r. same_task (Debug i x) (Debug i y) (ap (Debug i) r))))

  told_alike : (s t : Subject) (n fuel : ℕ) → n ≡ fuel → TellAlike s t → AnswerAlike (Tell s fuel) (Tell t n)
  told_alike s t n fuel e k a =
      rw e (subst (λ (z : Told). (a ≡ tells (told_of s fuel)) ↔ (a ≡ tells z)) (k fuel) ((λ h. h), (λ h. h)))

  commands_agree : (c d : Command) → AskBeside held there c d
      → Agree held there AnswerAlike (plan_of c) (plan_of d)
  commands_agree (Links l deed) (Links k done) h =
      rw h.1 (same_tasks (linked_plan l) (linked_plan k) (link_task deed) (links_agree l k h.0))
  commands_agree (Takes w deed) (Takes v done) h =
      rw h.1 (same_tasks (component_at 0 w) (component_at 0 v) (component_task deed)
      (component_agrees 0 w v h.0))
  commands_agree (Checks w) (Checks v) h =
      same_tasks (part_at 0 w) (part_at 0 v) _ (part_agrees 0 w v h)
  commands_agree (Mean ws size fuel feed) (Mean vs other ticks items) h =
      rw h.1 (tasks_of TellAlike (subject_in ws size feed) (subject_in vs size items) _ _
      (subject_agrees ws vs size feed items h.3 h.0) (λ s t k. told_alike s t ticks fuel h.2 k))
  commands_agree (asked.Debug l script) (asked.Debug k lines) h = debug_agrees l k script lines h.1 h.0
  commands_agree _ _ h = absurd h

  -- ---- and so answers

  matched : (due : Result Task Refusal) (y : Due Task) (a : Answer) → Match AnswerAlike (Some due) y
      → IsAnswerOf due a → (other : Result Task Refusal) × (y ≡ Some other) × IsAnswerOf other a
  matched (Ok t) (Some (Ok u)) a m h = (Ok u, refl, (m a).0 h)
  matched (Err why) (Some (Err other)) a m h =
      (Err other, refl, subst (λ z. IsAnswerOf (Err z) a) m h)
  matched _ _ a m h = absurd m

  matched_back : (due : Result Task Refusal) (x : Due Task) (a : Answer) → Match AnswerAlike x (Some due)
      → IsAnswerOf due a → (other : Result Task Refusal) × (x ≡ Some other) × IsAnswerOf other a
  matched_back (Ok u) (Some (Ok t)) a m h = (Ok t, refl, (m a).1 h)
  matched_back (Err other) (Some (Err why)) a m h =
      (Err why, refl, subst (λ z. IsAnswerOf (Err z) a) (sym m) h)
  matched_back _ _ a m h = absurd m

  answers_agree : (c d : Command) → AskBeside held there c d → (a : Answer)
      → IsWritten stk held (plan_of c) a ↔ IsWritten stk there (plan_of d) a
  answers_agree c d h a = (there_so, held_so)
    where
      m : Agree held there AnswerAlike (plan_of c) (plan_of d)
      m = commands_agree c d h

      there_so : IsWritten stk held (plan_of c) a → IsWritten stk there (plan_of d) a
      there_so w =
          let e = settled_by held (plan_of c) w.0 w.1 in
          let x = matched w.0 (settled there (plan_of d)) a
          (subst (λ z. Match AnswerAlike z (settled there (plan_of d))) e m) w.2 in
          (x.0, settles there (plan_of d) x.0 x.1, x.2)

      held_so : IsWritten stk there (plan_of d) a → IsWritten stk held (plan_of c) a
      held_so w =
          let e = settled_by there (plan_of d) w.0 w.1 in
          let x = matched_back w.0 (settled held (plan_of c)) a
          (subst (λ z. Match AnswerAlike (settled held (plan_of c)) z) e m) w.2 in
          (x.0, settles held (plan_of c) x.0 x.1, x.2)

-- ---- and so roads

pub roads_are_one : RoadLaws → (x y : Asking) → AskTheSame x y → (a : Answer) → IsGiven x a ↔ IsGiven y a
roads_are_one laws x y (beside h) a = answers_agree laws x.held y.held x.command y.command h a
roads_are_one laws x y (back h) a = let r = roads_are_one laws y x h a in (r.1, r.0)
roads_are_one laws x z (onward {y = y} h k) a =
    let r = roads_are_one laws x y h a in
    let s = roads_are_one laws y z k a in
    ((λ g. s.0 (r.0 g)), (λ g. r.1 (s.1 g)))
