-- Why plans end.
use Rattle.std.proofs.Common.{◌≡◌, ℕ, suc, ◌+◌, List, [], ◌∷◌, ◌++◌, Option, Some, refl, sym, ap, subst, ◌∙◌}
use Rattle.std.proofs.Common.{inl, inr, arith, append_assoc}
use Rattle.std.specs.Prelude.{Result, Ok, Err, slice_get, ⊤}
use Rattle.outside_io.specs.FilesSeen.{FilesSeen}
use Rattle.outside_io.specs.Whole.{GivesWhole}
use Rattle.command_words.specs.declared.part.Ending.{Ending}
use Rattle.command_words.specs.declared.part.Ending.TheVariants.{Source, Assembler, Component}
use Rattle.command_words.specs.declared.part.PartWord.{PartWord}
use Rattle.command_words.specs.declared.command.Linked.{Linked}
use Rattle.command_words.specs.declared.command.Linked.TheVariants as what
use Rattle.command_words.specs.declared.command.Command.{Command}
use Rattle.component_file.specs.Reading.{decoded}
use Rattle.assembler.specs.Assembled.{assembled}
use Rattle.linked_starts.specs.declared.fault.RuleAt.{RuleAt}
use Rattle.linked_starts.specs.Parts.{PartSeen}
use Rattle.image_loader.specs.declared.fault.ImageFault.{ImageFault}
use Rattle.image_loader.specs.Image.{ImageSeen}
use Rattle.file_plans.specs.declared.TheConstants.{LONGEST_FILE}
use Rattle.file_plans.specs.declared.refusal.Refusal.{Refusal}
use Rattle.file_plans.specs.declared.refusal.Refusal.TheVariants as refusal
use Rattle.file_plans.specs.Plans.{Plan, Reads, Ends, Made, ◌>>=◌, unless, each_at, whole, too_long, unread}
use Rattle.file_plans.specs.Plans.{Comes}
use Rattle.linked_starts.specs.Accepted.{accepted}
use Rattle.command_words.specs.Part.{is_trusted_mark}
use Rattle.link_tool.specs.Parts.{broken_in, linked, loaded, form_by, component_at, part_at}
use Rattle.link_tool.specs.Linked.{parts_plan, image_plan, linked_plan}
use Rattle.proc_sources.specs.declared.fault.SourceFault.{SourceFault}
use Rattle.proc_sources.specs.Sources.{sourced}
use Rattle.proc_language.specs.declared.dialect.Dialect.{Dialect}
use Rattle.lcm_cli.specs.Causes.{linked_words, part_words, IsTurn, IsUnread, IsLong, Holds, HoldsPart}
use Rattle.lcm_cli.specs.Causes.{IsUndecoded, IsUnassembled, IsUnsourced, IsUncompiled, IsUnscripted}
use Rattle.lcm_cli.specs.Causes.{IsUnaudited, PartBreaks, SomeBreaks, AllBreak, LinkBreaks, LinkedCame}
use Rattle.lcm_cli.specs.Bytes.{bytes_of, ComesOf}
use Rattle.lcm_cli.proofs.Came.{IsSettled, settled_unless, none_read, split_of, came_first, one_read}
use Rattle.lcm_cli.proofs.Came.{read_made}
use Rattle.lcm_cli.proofs.Ends.{comes_split, same_err, ended_unless, not_made, no_rule, part_by, settled_part}
use Rattle.lcm_cli.proofs.Ends.{link_by, settled_link}
use Rattle.link_tool.proofs.Offers.{image_with, loaded_read}

-- ---- the turns of files

turn_first : {A B : Type 0} (p : Plan A) (f : A → Plan B) (before : List (List ℕ)) (old seen : FilesSeen)
    (name : List ℕ) (index : ℕ)
    → IsTurn p before old name index seen → IsTurn (p >>= f) before old name index seen
turn_first (Made x) f before old seen name index h = absurd h
turn_first (Ends why) f before old seen name index h = absurd h
turn_first (Reads n k next) f [] old seen name index h = h
turn_first (Reads n k next) f (bytes ∷ before) old seen name index h =
    (h.0, h.1, turn_first (next bytes) f before h.0 seen name index h.2)

turn_next : {A B : Type 0} (p : Plan A) (f : A → Plan B) (before : List (List ℕ)) (old mid seen : FilesSeen)
    (x : A) (name : List ℕ) (index : ℕ) (h : Comes p old (Ok x) mid) → IsTurn (f x) before mid name index seen
    → IsTurn (p >>= f) (bytes_of p old (Ok x) mid h ++ before) old name index seen
turn_next (Made y) f before old mid seen x name index h g =
    turn_at f x y before old mid seen name index (same_ok x y h.0) h.1 g
  where
    same_ok : {A : Type 0} (x y : A) → (let r : Result A Refusal = Ok x in r) ≡ Ok y → x ≡ y
    same_ok x y e = cc

    turn_at : {A B : Type 0} (f : A → Plan B) (x y : A) (before : List (List ℕ)) (old mid seen : FilesSeen)
        (name : List ℕ) (index : ℕ)
        → x ≡ y → mid ≡ old → IsTurn (f x) before mid name index seen
        → IsTurn (f y) before old name index seen
    turn_at f x y before old mid seen name index e h g = rw (← e, ← h) g
turn_next (Ends why) f before old mid seen x name index h g = absurd (let e = h.0 in cc)
turn_next (Reads n k next) f before old mid seen x name index (whole bytes m w h) g =
    (m, w, turn_next (next bytes) f before m mid seen x name index h g)
turn_next (Reads n k next) f before old mid seen x name index (too_long t e) g = absurd (cc)
turn_next (Reads n k next) f before old mid seen x name index (unread t e) g = absurd (cc)

-- each turn in the one plan is one in the other, after so many bytes more
abbrev Turns : {A B : Type 0} → Plan A → FilesSeen → List (List ℕ) → Plan B → FilesSeen → Type 0
Turns p mid front q old = (before : List (List ℕ)) (seen : FilesSeen) (name : List ℕ) (index : ℕ)
    → IsTurn p before mid name index seen → IsTurn q (front ++ before) old name index seen

holds_by : {A B : Type 0} (p : Plan A) (q : Plan B) (front read : List (List ℕ)) (mid old new : FilesSeen)
    → Turns p mid front q old → (name : List ℕ) (index : ℕ) (P : List ℕ → Type 0)
    → Holds p read mid name index new P → Holds q (front ++ read) old name index new P
holds_by p q front read mid old new t name index P h = (
  front ++ h.0,
  h.1,
  t h.0 h.1 name index h.2,
  h.3,
  ap (λ r. front ++ r) h.4 ∙ sym (append_assoc front h.0 (h.3 ∷ [])),
  h.5,
  h.6,
)

-- ---- why a plan ends, where a file alone says it

module _ (asked : Option Command) where
  abbrev pub FileReason : {A : Type 0} → Plan A → List (List ℕ) → FilesSeen → Refusal → FilesSeen → Type 0
  FileReason plan read old refusal.Usage new = ⊤
  FileReason plan read old refusal.ReadFault new = IsUnread plan read old new
  FileReason plan read old (refusal.TooLong index) new = IsLong plan read old index new
  FileReason plan read old (refusal.Assembly index f) new = IsUnassembled asked plan read old index f new
  FileReason plan read old (refusal.Source index f) new = IsUncompiled asked plan read old index f new
  FileReason plan read old (refusal.File index f) new = IsUndecoded asked plan read old index f new
  FileReason plan read old (refusal.Rule r) new = ⊤
  FileReason plan read old (refusal.Image f) new = ⊤
  FileReason plan read old (refusal.Feed line) new = ⊤
  FileReason plan read old (refusal.Script line) new = IsUnscripted asked plan read old line new
  FileReason plan read old (refusal.Audit f) new = IsUnaudited asked plan read old f new

  module _ {A B : Type 0} (p : Plan A) (q : Plan B) (front read : List (List ℕ)) (mid old new : FilesSeen)
      (t : Turns p mid front q old) where
    holds_part : (index : ℕ) (ending : Ending) (P : List ℕ → Type 0)
        → HoldsPart asked p read mid index ending new P
        → HoldsPart asked q (front ++ read) old index ending new P
    holds_part index ending P h =
        (h.0, h.1, h.2, holds_by p q front read mid old new t h.0.name index P h.3)

    reason_by_turn : (why : Refusal) → FileReason p read mid why new
        → FileReason q (front ++ read) old why new
    reason_by_turn refusal.Usage h = tt
    reason_by_turn refusal.ReadFault h = (h.0, h.1, h.2, t read h.2 h.0 h.1 h.3, h.4)
    reason_by_turn (refusal.TooLong index) h = (h.0, h.1, t read h.1 h.0 index h.2, h.3)
    reason_by_turn (refusal.Assembly index f) h =
        holds_part index Assembler (λ text. assembled text ≡ Err f) h
    reason_by_turn (refusal.Source index f) h =
        (h.0, holds_part index (Source h.0) (λ text. IsUnsourced asked h.0 text f) h.1)
    reason_by_turn (refusal.File index f) h = holds_part index Component (λ bytes. decoded bytes ≡ Err f) h
    reason_by_turn (refusal.Rule r) h = tt
    reason_by_turn (refusal.Image f) h = tt
    reason_by_turn (refusal.Feed line) h = tt
    reason_by_turn (refusal.Script line) h =
        (h.0, h.1, h.2, h.3, holds_by p q front read mid old new t h.1 h.3 _ h.4)
    reason_by_turn (refusal.Audit f) h =
        (h.0, h.1, holds_by p q front read mid old new t h.0 0 _ h.2)

  pub reason_first : {A B : Type 0} (p : Plan A) (f : A → Plan B) (read : List (List ℕ)) (old new : FilesSeen)
      (why : Refusal) → FileReason p read old why new → FileReason (p >>= f) read old why new
  reason_first p f read old new why =
      reason_by_turn p (p >>= f) [] read old old new
      (λ before seen name index. turn_first p f before old seen name index) why

  reason_next : {A B : Type 0} (p : Plan A) (f : A → Plan B) (front back : List (List ℕ))
      (old mid new : FilesSeen) (x : A) (why : Refusal) → ComesOf p front old (Ok x) mid
      → FileReason (f x) back mid why new → FileReason (p >>= f) (front ++ back) old why new
  reason_next p f front back old mid new x why c =
      reason_by_turn (f x) (p >>= f) front back mid old new
      (λ before seen name index t. subst (λ r. IsTurn (p >>= f) (r ++ before) old name index seen) c.1
      (turn_next p f before old mid seen x name index c.0 t)) why

  -- wherever a plan ends the call, it has a reason
  pub record Reasoned {A : Type 0} (plan : Plan A) : Type 0 where
    pub gives : (read : List (List ℕ)) (old new : FilesSeen) (why : Refusal)
        → ComesOf plan read old (Err why) new → FileReason plan read old why new

  pub reasoned_bind : {A B : Type 0} (p : Plan A) (f : A → Plan B) → Reasoned p → ((x : A) → Reasoned (f x))
      → Reasoned (p >>= f)
  reasoned_bind p f a b = record {
    gives = λ read old new why h. elim (split_of p f read old new (Err why) h) as (λ _. FileReason
        (p >>= f) read old why new) [
          | inl s ↦ subst (λ r. FileReason (p >>= f) r old why new) (sym s.6)
              (reason_next p f s.2 s.3 old s.1 new s.0 why s.4 ((b s.0).gives s.3 s.1 new why s.5))
          | inr s ↦ reason_first p f read old new why (let e = same_err why s.0 s.2 in
              rw (← e) ((a.gives read old new s.0 s.1)))
        ];
  }

  pub reasoned_made : {A : Type 0} (x : A) → Reasoned (Made x)
  reasoned_made x = record { gives = λ read old new why h. absurd (let e = h.0.0 in cc) }

  -- its own rules and those of the link are no reason of a file
  pub reasoned_rule : {A F : Type 0} (told : F → Refusal) (r : Result A F)
      → ((f : F) (read : List (List ℕ)) (old new : FilesSeen)
      → FileReason (unless told r) read old (told f) new)
      → Reasoned (unless told r)
  reasoned_rule told r k = record {
    gives = λ read old new why h. let e = ended_unless told r old new why h.0 in
        let s = e.2 in rw s (k e.0 read old new);
  }

  -- a file is read, and then its bytes alone say how the plan goes on: it ends since the file is too long or
  -- unread, or by its bytes
  abbrev pub ByBytes : {A : Type 0} → List ℕ → ℕ → (List ℕ → Plan A) → Type 0
  ByBytes {A} name index next = (more : List (List ℕ)) (old mid new : FilesSeen) (bytes : List ℕ)
      (why : Refusal)
      → GivesWhole old name LONGEST_FILE bytes mid → ComesOf (next bytes) more mid (Err why) new
      → FileReason (let p : Plan A = Reads name index next in p) (bytes ∷ more) old why new

  pub reads_reasoned : {A : Type 0} (name : List ℕ) (index : ℕ) (next : List ℕ → Plan A)
      → ByBytes name index next
      → Reasoned (let p : Plan A = Reads name index next in p)
  reads_reasoned {A} name index next k = record {
    gives = λ read old new why h.
        subst (λ r. FileReason (let p : Plan A = Reads name index next in p) r old why new) h.1
        (by old new why h.0);
  }
    where
      by : (old new : FilesSeen) (why : Refusal)
          (h : Comes (let p : Plan A = Reads name index next in p) old (Err why) new)
          → FileReason (let p : Plan A = Reads name index next in p)
          (bytes_of (let p : Plan A = Reads name index next in p) old (Err why) new h) old why new
      by old new why (whole bytes mid w h) =
          k (bytes_of (next bytes) mid (Err why) new h) old mid new bytes why w (h, refl)
      by old new why (too_long t e) = let s = same_err {A = A} (refusal.TooLong index) why (sym e) in
          rw s (name, old, (refl, refl, refl), t)
      by old new why (unread t e) = let s = same_err {A = A} refusal.ReadFault why (sym e) in
          rw s (name, index, old, (refl, refl, refl), t)

  -- the bytes have a fault, which is the reason
  module _ {A F : Type 0} (told : F → Refusal) (gives : List ℕ → Result A F) (name : List ℕ) (index : ℕ) where
    abbrev Told : Plan A
    Told = Reads name index (λ bytes. unless told (gives bytes))

    pub reason_by : ((old mid : FilesSeen) (bytes : List ℕ) (f : F)
        → GivesWhole old name LONGEST_FILE bytes mid
        → gives bytes ≡ Err f → FileReason Told (bytes ∷ []) old (told f) mid)
        → ByBytes name index (λ bytes. unless told (gives bytes))
    reason_by k more old mid new bytes why w h =
        let e = ended_unless told (gives bytes) mid new why h.0 in
        let n = none_read (unless told (gives bytes)) (settled_unless told (gives bytes)) more mid new
        (Err why) h in
        let P : List (List ℕ) → Refusal → FilesSeen → Type 0 = λ r v z. FileReason Told (bytes ∷ r) old v z in
        subst (λ r. P r why new) (sym n.0)
        (subst (P [] why) (sym e.3) (subst (λ v. P [] v mid) (sym e.2) (k old mid bytes e.0 w e.1)))

  -- ---- part words

  -- this is the command's part word of this index
  abbrev pub IsWord : ℕ → PartWord → Type 0
  IsWord index w = slice_get (part_words asked) index ≡ Some w

  -- of its sources the command asks components
  abbrev pub AsksComponents : Type 0
  AsksComponents = (d : Dialect) (text : List ℕ) (f : SourceFault) → sourced d text ≡ Err f
      → IsUnsourced asked d text f

  form_by_bytes : (index : ℕ) (w : PartWord) → IsWord index w → AsksComponents → (ending : Ending)
      → w.ending ≡ ending → ByBytes w.name index (form_by ending index)
  form_by_bytes index w is asks (Source d) e =
      reason_by (refusal.Source index) (sourced d) w.name index
      (λ old mid text f g k. (d, (w, is, e, ([], old, (refl, refl, refl), text, refl, g, asks d text f k))))
  form_by_bytes index w is asks Assembler e =
      reason_by (refusal.Assembly index) assembled w.name index
      (λ old mid text f g k. (w, is, e, ([], old, (refl, refl, refl), text, refl, g, k)))
  form_by_bytes index w is asks Component e =
      reason_by (refusal.File index) decoded w.name index
      (λ old mid bytes f g k. (w, is, e, ([], old, (refl, refl, refl), bytes, refl, g, k)))

  pub component_reasoned : AsksComponents → (index : ℕ) (w : PartWord) → IsWord index w
      → Reasoned (component_at index w)
  unfolding component_at
  component_reasoned asks index w is = reads_reasoned w.name index (form_by w.ending index)
      (form_by_bytes index w is asks w.ending refl)

  pub part_reasoned : AsksComponents → (index : ℕ) (w : PartWord) → IsWord index w
      → Reasoned (part_at index w)
  unfolding part_at
  part_reasoned asks index w is = reasoned_bind (component_at index w) _ (component_reasoned asks index w is)
      (λ c. reasoned_rule (broken_in index)
      (accepted (record { component = c; trusted = is_trusted_mark w.mark }))
      (λ f read old new. tt))

  -- these are the command's part words from this index on
  abbrev pub AreWords : ℕ → List PartWord → Type 0
  AreWords index ws = (k : ℕ) (w : PartWord) → slice_get ws k ≡ Some w → IsWord (index + k) w

  first_word : (index : ℕ) (w : PartWord) (ws : List PartWord) → AreWords index (w ∷ ws) → IsWord index w
  first_word index w ws are = let e : index + 0 ≡ index = omega arith in subst (λ n. IsWord n w) e
      (are 0 w refl)

  next_words : (index : ℕ) (w : PartWord) (ws : List PartWord) → AreWords index (w ∷ ws)
      → AreWords (index + 1) ws
  next_words index w ws are k v g =
      let e : index + suc k ≡ (index + 1) + k = omega arith in
      subst (λ n. IsWord n v) e (are (suc k) v g)

  all_words : (ws : List PartWord) → part_words asked ≡ ws → AreWords 0 ws
  all_words ws e k w g =
      let z : 0 + k ≡ k = omega arith in
      subst (λ n. IsWord n w) (sym z) (ap (λ xs. slice_get xs k) e ∙ g)

  each_behind : {A : Type 0} (item : ℕ → PartWord → Plan A)
      → ((index : ℕ) (w : PartWord) → IsWord index w → Reasoned (item index w))
      → (index : ℕ) (ws : List PartWord) → AreWords index ws → Reasoned (each_at item index ws)
  each_behind item h index [] are = reasoned_made []
  each_behind item h index (w ∷ ws) are =
      reasoned_bind (item index w) _ (h index w (first_word index w ws are))
      (λ x. reasoned_bind (each_at item (index + 1) ws) _
      (each_behind item h (index + 1) ws (next_words index w ws are))
      (λ xs. reasoned_made (x ∷ xs)))

  pub each_reasoned : {A : Type 0} (item : ℕ → PartWord → Plan A)
      → ((index : ℕ) (w : PartWord) → IsWord index w → Reasoned (item index w))
      → (ws : List PartWord) → part_words asked ≡ ws → Reasoned (each_at item 0 ws)
  each_reasoned item h ws e = each_behind item h 0 ws (all_words ws e)

  linked_reasoned : AsksComponents → (words : List PartWord) (size : ℕ) → part_words asked ≡ words
      → Reasoned (parts_plan words size)
  unfolding parts_plan
  linked_reasoned asks words size e =
      reasoned_bind (each_at part_at 0 words) _ (each_reasoned part_at (part_reasoned asks) words e)
      (λ parts. reasoned_bind (unless refusal.Rule (linked parts size)) _
      (reasoned_rule refusal.Rule (linked parts size) (λ f read old new. tt))
      (λ u. reasoned_made (image_with size parts)))

  image_by : (name : List ℕ) → ByBytes name 0 (λ bytes. unless refusal.Image (loaded bytes))
  image_by name more old mid new bytes why w h = let e =
      (ended_unless refusal.Image (loaded bytes) mid new why h.0).2 in rw e tt

  image_reasoned : (name : List ℕ) → Reasoned (image_plan name)
  unfolding image_plan
  image_reasoned name =
      reads_reasoned name 0 (λ bytes. unless refusal.Image (loaded bytes)) (image_by name)

  pub in_reasoned : AsksComponents → (l : Linked) → part_words asked ≡ linked_words l
      → Reasoned (linked_plan l)
  in_reasoned asks (what.Parts words size) e = linked_reasoned asks words size e
  in_reasoned asks (what.Image name) e = image_reasoned name

-- ---- rules

pub same_rule : (r s : RuleAt) → refusal.Rule r ≡ refusal.Rule s → r ≡ s
same_rule r s e = cc

pub part_breaks : (index : ℕ) (w : PartWord) (read : List (List ℕ)) (old new : FilesSeen) (r : RuleAt)
    → ComesOf (part_at index w) read old (Err (refusal.Rule r)) new → PartBreaks read old index w r new
unfolding part_at
part_breaks index w read old new r h =
    elim (came_first (component_at index w) (part_by index w) (settled_part index w) read old new
    (Err (refusal.Rule r)) h) as (λ _. PartBreaks read old index w r new) [
      | inl s ↦ (
          let e = ended_unless (broken_in index) (accepted
          (record { component = s.0; trusted = is_trusted_mark w.mark })) new new (refusal.Rule r) s.2 in
          (s.0, s.1, e.0, e.1, same_rule r _ e.2)
          )
      | inr s ↦ absurd (no_rule index w r old new (let e = same_err (refusal.Rule r) s.0 s.2 in
          rw (← e) s.1.0))
    ]

pub each_breaks : (index : ℕ) (ws : List PartWord) (read : List (List ℕ)) (old new : FilesSeen) (r : RuleAt)
    → ComesOf (each_at part_at index ws) read old (Err (refusal.Rule r)) new
    → SomeBreaks read old index ws r new
each_breaks index [] read old new r h = not_made [] (refusal.Rule r) old new h.0
each_breaks index (w ∷ ws) read old new r h =
    elim (split_of (part_at index w) _ read old new (Err (refusal.Rule r)) h)
    as (λ _. SomeBreaks read old index (w ∷ ws) r new) [
      | inl s ↦ inr (
        s.0,
        s.1,
        s.2,
        s.3,
        s.6,
        s.4,
        elim (came_first (each_at part_at (index + 1) ws) (λ others. Made (s.0 ∷ others))
            (λ others. inl (s.0 ∷ others, refl)) s.3 s.1 new (Err (refusal.Rule r)) s.5)
            as (λ _. SomeBreaks s.3 s.1 (index + 1) ws r new) [
              | inl t ↦ absurd (not_made _ (refusal.Rule r) new new t.2)
              | inr t ↦ each_breaks (index + 1) ws s.3 s.1 new r
                  (let e = same_err (refusal.Rule r) t.0 t.2 in rw (← e) t.1)
            ],
      )
      | inr s ↦ inl (part_breaks index w read old new r (let e = same_err (refusal.Rule r) s.0 s.2 in
          rw (← e) s.1))
    ]

pub err_same : {A : Type 0} {x y : RuleAt} → x ≡ y → (let q : Result A RuleAt = Err x in q) ≡ Err y
err_same e = cc

pub linked_break : (words : List PartWord) (size : ℕ) (read : List (List ℕ)) (old new : FilesSeen)
    (r : RuleAt) → ComesOf (parts_plan words size) read old (Err (refusal.Rule r)) new
    → LinkBreaks read old words size r new
unfolding parts_plan
linked_break words size read old new r h =
    elim (came_first (each_at part_at 0 words) (link_by size) (settled_link size) read old new
    (Err (refusal.Rule r)) h) as (λ _. LinkBreaks read old words size r new) [
      | inl s ↦ inr (elim (comes_split (unless refusal.Rule (linked s.0 size)) _ new new
          (Err (refusal.Rule r)) s.2) as (λ _. AllBreak read old words size r new) [
            | inl t ↦ absurd (not_made _ (refusal.Rule r) t.1 new t.3)
            | inr t ↦ (
                let e = ended_unless refusal.Rule (linked s.0 size) new new t.0 t.1 in
                let k = same_rule e.0 r (sym e.2 ∙ same_err {A = ImageSeen} (refusal.Rule r) t.0 t.2) in
                (s.0, s.1, e.1 ∙ err_same k)
                )
          ])
      | inr s ↦ inl (each_breaks 0 words read old new r (let e = same_err (refusal.Rule r) s.0 s.2 in
          rw (← e) s.1))
    ]

-- ---- images

-- the file of an image came whole, it alone, and its bytes are not loaded, with this first fault
abbrev pub ImageFails : List (List ℕ) → FilesSeen → List ℕ → ImageFault → FilesSeen → Type 0
ImageFails read old name f new = (bytes : List ℕ) × (read ≡ bytes ∷ [])
    × GivesWhole old name LONGEST_FILE bytes new × (loaded bytes ≡ Err f)

-- its bytes say all
image_loads : (bytes : List ℕ) → IsSettled (unless refusal.Image (loaded bytes))
image_loads bytes = settled_unless refusal.Image (loaded bytes)

same_fault : (f g : ImageFault) → refusal.Image f ≡ refusal.Image g → f ≡ g
same_fault f g e = cc

fault_same : {A : Type 0} {x y : ImageFault} → x ≡ y → (let q : Result A ImageFault = Err x in q) ≡ Err y
fault_same e = cc

pub image_fails : (name : List ℕ) (read : List (List ℕ)) (old new : FilesSeen) (f : ImageFault)
    → ComesOf (image_plan name) read old (Err (refusal.Image f)) new → ImageFails read old name f new
unfolding image_plan
image_fails name read old new f h =
    elim (one_read name 0 (λ bytes. unless refusal.Image (loaded bytes)) image_loads read old new
    (Err (refusal.Image f)) h) as (λ _. ImageFails read old name f new) [
      | inl s ↦ (
          let e = ended_unless refusal.Image (loaded s.0) new new (refusal.Image f) s.3 in
          (s.0, s.1, s.2, e.1 ∙ fault_same (same_fault e.0 f (sym e.2)))
          )
      | inr s ↦ absurd (elim s as (λ _. ⊥) [ inl e ↦ cc | inr e ↦ cc ])
    ]

-- ---- what came

same_image : (x y : ImageSeen) → (let r : Result ImageSeen Refusal = Ok x in r) ≡ Ok y → y ≡ x
same_image x y e = cc

-- the parts came and keep the rules L
abbrev pub KeptBy : Linked → List (List ℕ) → FilesSeen → ImageSeen → FilesSeen → Type 0
KeptBy l read old i new = LinkedCame l read old i.parts i.stack new × (linked i.parts i.stack ≡ Ok tt)

linked_made : (words : List PartWord) (size : ℕ) (read : List (List ℕ)) (old new : FilesSeen) (i : ImageSeen)
    → ComesOf (parts_plan words size) read old (Ok i) new → KeptBy (what.Parts words size) read old i new
unfolding parts_plan
linked_made words size read old new i h =
    elim (came_first (each_at part_at 0 words) (link_by size) (settled_link size) read old new (Ok i) h)
    as (λ _. KeptBy (what.Parts words size) read old i new) [
      | inl s ↦ made s.0 (linked s.0 size) refl s.1 s.2
      | inr s ↦ absurd (let e = s.2 in cc)
    ]
  where
    made : (ps : List PartSeen) (r : Result (Unit {0}) RuleAt) → linked ps size ≡ r
        → ComesOf (each_at part_at 0 words) read old (Ok ps) new
        → Comes (unless refusal.Rule r >>= (λ _. Made (image_with size ps))) new (Ok i) new
        → KeptBy (what.Parts words size) read old i new
    made ps (Ok u) e c h =
        let same : image_with size ps ≡ i = same_image i (image_with size ps) h.0 in
        subst (λ (j : ImageSeen). KeptBy (what.Parts words size) read old j new) same ((c, refl), e)
    made ps (Err b) e c h = absurd (let q = h.0 in cc)

image_made : (name : List ℕ) (read : List (List ℕ)) (old new : FilesSeen) (i : ImageSeen)
    → ComesOf (image_plan name) read old (Ok i) new → KeptBy (what.Image name) read old i new
unfolding image_plan
image_made name read old new i h =
    let s = read_made name 0 (λ bytes. unless refusal.Image (loaded bytes)) image_loads read old new i h in
    made s.0 s.1 s.2 (loaded s.0) refl s.3
  where
    made : (bytes : List ℕ) → read ≡ bytes ∷ [] → GivesWhole old name LONGEST_FILE bytes new
        → (r : Result ImageSeen ImageFault) → loaded bytes ≡ r
        → Comes (unless refusal.Image r) new (Ok i) new → KeptBy (what.Image name) read old i new
    made bytes q w (Ok j) e h =
        let same : j ≡ i = same_image i j h.0 in
        subst (λ (k : ImageSeen). KeptBy (what.Image name) read old k new) same
        (let l = loaded_read bytes j e in ((bytes, q, w, l.0), l.1))
    made bytes q w (Err f) e h = absurd (let k = h.0 in cc)

pub in_made : (l : Linked) (read : List (List ℕ)) (old new : FilesSeen) (i : ImageSeen)
    → ComesOf (linked_plan l) read old (Ok i) new → KeptBy l read old i new
in_made (what.Parts words size) read old new i h = linked_made words size read old new i h
in_made (what.Image name) read old new i h = image_made name read old new i h
