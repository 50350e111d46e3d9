-- What words ask for fits.
use Rattle.std.proofs.Common.{◌≡◌, refl, ap, subst, suc, arith, ℕ, ◌≤◌, Bool, true, false, List, [], ◌∷◌}
use Rattle.std.proofs.Common.{length, Option, Some, None}
use Rattle.std.specs.Prelude.{IfSome, is_some, nat_le, nat_lt, option_and_then, option_map, if◌then◌else◌}
use Rattle.std.specs.List.{All, list_all}
use Rattle.std.specs.Str.{all_ascii_digits}
use Rattle.std.specs.Str.Parse.{digits_value}
use Rattle.std.proofs.lemmas.Bool.{and_parts, leb-true}
use Rattle.std.proofs.lemmas.List.Elements.{All-cons}
use Rattle.command_words.specs.Texts.{Text}
use Rattle.command_words.specs.Line.{Taken, rows, taken_of}
use Rattle.command_words.specs.Name.{is_file_name, file_name_in, file_of}
use Rattle.command_words.specs.Number.{number_in, number_or, steps_in, size_in, seed_in}
use Rattle.command_words.specs.Part.{mark_in, ending_in, may_be, has_tokens, part_in, parts_in, some_parts_in}
use Rattle.command_words.specs.Part.{one_part_in, image_in, one_image_in}
use Rattle.command_words.specs.Action.{action_in, image_or_parts, is_assembler, is_module, is_source}
use Rattle.command_words.specs.Action.{linked_asked, run_in, put_of, put_in, look_of, look_in, link_in}
use Rattle.command_words.specs.Action.{mean_in, generate_in, asked_of, asked_by, asked_in}
use Rattle.command_words.specs.Action.{reach_in, debug_in, audit_in}
use Rattle.command_words.specs.Fits.{Fits, FitsLinked, FitsLinkDeed, FitsName, FitsPart, FitsParts}
use Rattle.command_words.specs.Fits.{FitsStack, FitsSteps}
use Rattle.command_words.specs.declared.TheConstants.{MOST_PARTS, GREATEST_SEED}
use Rattle.command_words.specs.declared.part.PartWord.{PartWord}
use Rattle.command_words.specs.declared.command.Linked.TheVariants.{Parts, Image}
use Rattle.command_words.specs.declared.command.Command.{Command}
use Rattle.command_words.specs.declared.command.LinkDeed.{LinkDeed}
use Rattle.command_words.specs.declared.command.LinkDeed.TheVariants.{Run, Trace}
use Rattle.command_words.specs.declared.command.ComponentDeed.TheVariants.{Put}
use Rattle.command_words.specs.declared.command.Command.TheVariants.{Takes, Mean, Generate}
use Rattle.command_words.specs.declared.command.Command.TheVariants.{Audit, Erase}
use Rattle.command_words.specs.declared.action.Action.{Action}
use Rattle.command_words.specs.declared.action.Action.TheVariants as action
use Rattle.command_words.specs.declared.action.PutAction.{PutAction}
use Rattle.command_words.specs.declared.action.PutAction.TheVariants as puts
use Rattle.command_words.specs.declared.action.LookAction.{LookAction}
use Rattle.command_words.specs.declared.action.LookAction.TheVariants as looks

-- one thing after another
next : {A B : Type 0} (o : Option A) (f : A → Option B) (Q : A → Type 0) (P : B → Type 0) → IfSome o Q
    → ((a : A) → Q a → IfSome (f a) P) → IfSome (option_and_then f o) P
next None f Q P q h = tt
next (Some a) f Q P q h = h a q

-- one thing of which nothing is asked after another
any : {A B : Type 0} (o : Option A) (f : A → Option B) (P : B → Type 0) → ((a : A) → IfSome (f a) P)
    → IfSome (option_and_then f o) P
any None f P h = tt
any (Some a) f P h = h a

made : {A B : Type 0} (o : Option A) (f : A → B) (Q : A → Type 0) (P : B → Type 0) → IfSome o Q
    → ((a : A) → Q a → P (f a)) → IfSome (option_map f o) P
made None f Q P q h = tt
made (Some a) f Q P q h = h a q

unless : {A : Type 0} (b : Bool) (o : Option A) (P : A → Type 0) → IfSome o P
    → IfSome (if b then None else o) P
unless true o P h = tt
unless false o P h = h

where_true : {A : Type 0} (b : Bool) (o : Option A) (P : A → Type 0) → (b ≡ true → IfSome o P)
    → IfSome (if b then o else None) P
where_true true o P h = h refl
where_true false o P h = tt

number_fits : (least most : ℕ) (word : Text)
    → IfSome (number_in least most word) (λ n. (least ≤ n) × (n ≤ most))
unfolding number_in
number_fits least most word =
    let n = digits_value 10 word in
    where_true _ (Some n) (λ n. (least ≤ n) × (n ≤ most)) (λ e.
    let p = and_parts (nat_lt 0 (length word)) _ e in
    let q = and_parts (all_ascii_digits word) _ p.1 in
    let r = and_parts (nat_le least n) (nat_le n most) q.1 in
    (leb-true least n r.0, leb-true n most r.1))

number_or_fits : (least most otherwise : ℕ) (word : Option Text) → (least ≤ otherwise) × (otherwise ≤ most)
    → IfSome (number_or least most otherwise word) (λ n. (least ≤ n) × (n ≤ most))
number_or_fits least most otherwise None h = h
number_or_fits least most otherwise (Some word) h = number_fits least most word

steps_fit : (word : Option Text) → IfSome (steps_in word) FitsSteps
steps_fit word = number_or_fits _ _ _ word (omega arith, omega arith)

size_fits : (word : Option Text) → IfSome (size_in word) FitsStack
size_fits None = omega arith
size_fits (Some word) = by (number_in 0 _ word) (number_fits 0 _ word)
  where
    by : (o : Option ℕ) → IfSome o (λ n. (0 ≤ n) × FitsStack n) → IfSome o FitsStack
    by None h = tt
    by (Some n) h = h.1

seed_fits : (word : Option Text) → IfSome (seed_in word) (λ n. n ≤ GREATEST_SEED)
seed_fits None = tt
seed_fits (Some word) = by (number_in 0 _ word) (number_fits 0 _ word)
  where
    by : (o : Option ℕ) → IfSome o (λ n. (0 ≤ n) × (n ≤ GREATEST_SEED)) → IfSome o (λ n. n ≤ GREATEST_SEED)
    by None h = tt
    by (Some n) h = h.1

name_fits : (word : Text) → IfSome (file_name_in word) FitsName
name_fits word = where_true (is_file_name word) (Some word) FitsName (λ e. e)

file_fits : (word : Option Text) → IfSome (file_of word) FitsName
file_fits word = any word file_name_in FitsName name_fits

part_fits : (word : Text) → IfSome (part_in word) FitsPart
unfolding part_in
part_fits word = any (mark_in word) _ FitsPart (λ marked. any (ending_in marked.1) _ FitsPart (λ ending.
    next (file_name_in marked.1) _ FitsName FitsPart (name_fits marked.1) (λ name h.
    where_true (may_be marked.0 ending) _ FitsPart (λ e. h))))

parts_fit : (words : List Text) → IfSome (parts_in words) (λ ps. (length ps ≡ length words) × All FitsPart ps)
unfolding parts_in
parts_fit [] = (refl, λ k d lt. absurd (omega arith))
parts_fit (word ∷ words) =
    next (part_in word) _ FitsPart _ (part_fits word) (λ p h.
    next (parts_in words) _ (λ ps. (length ps ≡ length words) × All FitsPart ps) _ (parts_fit words) (λ ps hs.
    (ap suc hs.0, All-cons FitsPart p ps h hs.1)))

some_parts_fit : (words : Option (List Text)) → IfSome (some_parts_in words) FitsParts
unfolding some_parts_in
some_parts_fit None = tt
some_parts_fit (Some words) = where_true _ (parts_in words) FitsParts (λ e.
    let p = and_parts (nat_le 1 (length words)) (nat_le (length words) MOST_PARTS) e in
    by (parts_in words) (leb-true 1 (length words) p.0) (leb-true (length words) MOST_PARTS p.1)
    (parts_fit words))
  where
    by : (o : Option (List PartWord)) → 1 ≤ length words → length words ≤ MOST_PARTS
        → IfSome o (λ ps. (length ps ≡ length words) × All FitsPart ps) → IfSome o FitsParts
    by None low high h = tt
    by (Some ps) low high h = record { some = rw h.0 low; few = rw h.0 high; each = h.1 }

one_part_fits : (words : Option (List Text)) → IfSome (one_part_in words) FitsPart
unfolding one_part_in
one_part_fits None = tt
one_part_fits (Some []) = tt
one_part_fits (Some (word ∷ [])) = part_fits word
one_part_fits (Some (word ∷ more ∷ words)) = tt

image_fits : (word : Text) → IfSome (image_in word) FitsName
unfolding image_in
image_fits word =
    unless (is_some (mark_in word)) _ FitsName
    (where_true _ (file_name_in word) FitsName (λ e. name_fits word))

one_image_fits : (words : Option (List Text)) → IfSome (one_image_in words) FitsName
unfolding one_image_in
one_image_fits None = tt
one_image_fits (Some []) = tt
one_image_fits (Some (word ∷ [])) = image_fits word
one_image_fits (Some (word ∷ more ∷ words)) = tt

parts_linked_fit : (words : Option (List Text)) (stack : Option Text)
    → IfSome
    (option_and_then (λ size. option_and_then (λ parts. Some (Parts parts size)) (some_parts_in words))
    (size_in stack)) FitsLinked
parts_linked_fit words stack =
    next (size_in stack) _ FitsStack FitsLinked (size_fits stack) (λ size s.
    next (some_parts_in words) _ FitsParts FitsLinked (some_parts_fit words) (λ parts p. (p, s)))

linked_fits : (words : Option (List Text)) (stack : Option Text) → IfSome
    (linked_asked words stack) FitsLinked
unfolding linked_asked
linked_fits words stack = by (one_image_in words) (one_image_fits words)
  where
    by : (o : Option Text) → IfSome o FitsName → IfSome (image_or_parts o words stack) FitsLinked
    by None h = parts_linked_fit words stack
    by (Some name) h = unless (is_some stack) (Some (Image name)) FitsLinked h

run_fits : (deed : ℕ → LinkDeed) → ((steps : ℕ) → FitsSteps steps → FitsLinkDeed (deed steps))
    → (t : Taken) → IfSome (run_in deed t) Fits
unfolding run_in
run_fits deed d t = unless _ _ Fits (
    next (steps_in t.steps) _ FitsSteps Fits (steps_fit t.steps) (λ steps s.
    next (linked_asked t.parts t.stack) _ FitsLinked Fits (linked_fits t.parts t.stack)
    (λ what w. (w, d steps s))))

put_of_fits : (a : PutAction) (part : PartWord) (out : Text) → FitsPart part → FitsName out
    → IfSome (put_of a part out) Fits
put_of_fits puts.Assemble part out p o =
    where_true (is_assembler part.ending) (Some (Takes part (Put out))) Fits (λ e. (p, o))
put_of_fits puts.Compile part out p o =
    where_true (is_source part.ending) (Some (Takes part (Put out))) Fits (λ e. (p, o))
put_of_fits puts.Erase part out p o =
    where_true (has_tokens part.ending) (Some (Erase part out)) Fits (λ e. (p, e, o))

put_fits : (a : PutAction) (t : Taken) → IfSome (put_in a t) Fits
unfolding put_in
put_fits a t = unless _ _ Fits (
    next (one_part_in t.parts) _ FitsPart Fits (one_part_fits t.parts) (λ part p.
    next (file_of t.out) _ FitsName Fits (file_fits t.out) (λ out o. put_of_fits a part out p o)))

look_of_fits : (a : LookAction) (part : PartWord) → FitsPart part → Fits (look_of a part)
look_of_fits looks.Disassemble part p = (p, tt)
look_of_fits looks.Check part p = p

look_fits : (a : LookAction) (t : Taken) → IfSome (look_in a t) Fits
unfolding look_in
look_fits a t =
    unless _ _ Fits
    (made (one_part_in t.parts) (look_of a) FitsPart Fits (one_part_fits t.parts) (look_of_fits a))

link_fits : (t : Taken) → IfSome (link_in t) Fits
unfolding link_in
link_fits t = unless _ _ Fits (
    next (size_in t.stack) _ FitsStack Fits (size_fits t.stack) (λ size s.
    next (file_of t.out) _ FitsName Fits (file_fits t.out) (λ out o.
    next (some_parts_in t.parts) _ FitsParts Fits (some_parts_fit t.parts) (λ parts p. ((p, s), o)))))

mean_fits : (t : Taken) → IfSome (mean_in t) Fits
unfolding mean_in
mean_fits t = unless _ _ Fits (
    next (size_in t.stack) _ FitsStack Fits (size_fits t.stack) (λ size s.
    next (steps_in t.steps) _ FitsSteps Fits (steps_fit t.steps) (λ fuel f.
    next (file_of t.feed) _ FitsName Fits (file_fits t.feed) (λ feed n.
    next (some_parts_in t.parts) _ FitsParts Fits (some_parts_fit t.parts) (λ modules p.
    where_true (list_all is_module modules) (Some (Mean modules size fuel feed)) Fits
    (λ e. ((p, e), s, f, n)))))))

generate_fits : (t : Taken) → IfSome (generate_in t) Fits
unfolding generate_in
generate_fits t =
    unless _ _ Fits
    (made (seed_in t.seed) Generate (λ n. n ≤ GREATEST_SEED) Fits (seed_fits t.seed) (λ seed s. s))

reach_fits : (t : Taken) → IfSome (reach_in t) Fits
unfolding reach_in
reach_fits t = unless _ _ Fits (
    next (linked_asked t.parts t.stack) _ FitsLinked Fits (linked_fits t.parts t.stack) (λ what w. (w, tt)))

debug_fits : (t : Taken) → IfSome (debug_in t) Fits
unfolding debug_in
debug_fits t = unless _ _ Fits (
    next (file_of t.feed) _ FitsName Fits (file_fits t.feed) (λ script n.
    next (linked_asked t.parts t.stack) _ FitsLinked Fits (linked_fits t.parts t.stack) (λ what w. (w, n))))

audit_fits : (t : Taken) → IfSome (audit_in t) Fits
unfolding audit_in
audit_fits t = unless _ _ Fits (made (file_of t.feed) Audit FitsName Fits (file_fits t.feed) (λ text n. n))

asked_of_fits : (a : Action) (t : Taken) → IfSome (asked_of a t) Fits
asked_of_fits action.Run t = run_fits Run (λ steps s. s) t
asked_of_fits action.Trace t = run_fits Trace (λ steps s. s) t
asked_of_fits (action.Put a) t = put_fits a t
asked_of_fits (action.Look a) t = look_fits a t
asked_of_fits action.Link t = link_fits t
asked_of_fits action.Mean t = mean_fits t
asked_of_fits action.Generate t = generate_fits t
asked_of_fits action.Reach t = reach_fits t
asked_of_fits action.Debug t = debug_fits t
asked_of_fits action.Audit t = audit_fits t

asked_by_fits : (t : Taken) → IfSome (asked_by t) Fits
unfolding asked_by
asked_by_fits t =
    any t.action _ Fits (λ word. any (action_in word) _ Fits (λ a. asked_of_fits a t))

asked_fits : (words : List Text) → IfSome (asked_in words) Fits
asked_fits words = any (rows words) _ Fits (λ found. asked_by_fits (taken_of found))

pub asked_command_fits : (words : List Text) (c : Command) → asked_in words ≡ Some c → Fits c
asked_command_fits words c e = by (asked_in words) (asked_fits words) e
  where
    by : (o : Option Command) → IfSome o Fits → o ≡ Some c → Fits c
    by o h e = let P : Option Command → Type 0 = λ x. IfSome x Fits in subst P e h
