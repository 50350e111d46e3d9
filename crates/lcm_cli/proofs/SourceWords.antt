-- The modules of words of which every trusted one is a source.
use Rattle.std.proofs.Common.{◌≡◌, ℕ, ◌+◌, List, [], ◌∷◌, ◌++◌, refl, sym, ap, subst, ◌∙◌, inl, inr, true}
use Rattle.std.proofs.Common.{false}
use Rattle.std.specs.Prelude.{Bool, Result, Ok, Err, map, if◌then◌else◌}
use Rattle.std.specs.Result.{result_and}
use Rattle.outside_io.specs.FilesSeen.{FilesSeen}
use Rattle.outside_io.specs.Whole.{GivesWhole}
use Rattle.command_words.specs.declared.part.Ending.{Ending}
use Rattle.command_words.specs.declared.part.Ending.TheVariants.{Source, Assembler, Component}
use Rattle.command_words.specs.declared.part.PartWord.{PartWord}
use Rattle.command_words.specs.Action.{is_source}
use Rattle.proc_language.specs.declared.dialect.Dialect.{Dialect}
use Rattle.meaning_tool.specs.Subjects.{language_of}
use Rattle.component_file.specs.declared.component.ComponentFields.{ComponentFields}
use Rattle.component_check.specs.declared.rule.Group.TheVariants.{C}
use Rattle.component_check.specs.RuleText.{broken_at}
use Rattle.component_check.specs.Verdict.{check_from}
use Rattle.call_sequence.specs.Verdict.{flow_answer}
use Rattle.linked_starts.specs.Parts.{PartSeen, rules_of}
use Rattle.linked_starts.specs.Accepted.{accepted}
use Rattle.assembler.specs.Assembled.{assembled}
use Rattle.component_file.specs.Reading.{decoded}
use Rattle.proc_language.specs.declared.module.ModuleFields.{ModuleFields}
use Rattle.proc_language.specs.Limits.{IsModule}
use Rattle.proc_names.specs.NameFaults.{name_faults}
use Rattle.proc_templates.specs.Compiled.{compiled}
use Rattle.proc_sources.specs.Sources.{module_in, sourced}
use Rattle.source_starts.specs.Sources.{trusted_parts, AreSources}
use Rattle.file_plans.specs.declared.TheConstants.{LONGEST_FILE}
use Rattle.file_plans.specs.declared.refusal.Refusal.{Refusal}
use Rattle.file_plans.specs.declared.refusal.Refusal.TheVariants as refusal
use Rattle.file_plans.specs.Plans.{Plan, Made, each_at, Comes}
use Rattle.command_words.specs.Part.{is_trusted_mark}
use Rattle.link_tool.specs.Parts.{broken_in, form_by, HasForm, component_at, part_at, IsPartOf}
use Rattle.lcm_cli.specs.SourceRuns.{AllSources, SourcesCame}
use Rattle.lcm_cli.specs.Bytes.{ComesOf}
use Rattle.lcm_cli.proofs.Came.{split_of, IsSettled, settled_unless, came_first, read_made}
use Rattle.lcm_cli.proofs.Ends.{part_by, settled_part}
use Rattle.lcm_cli.proofs.Modules.{unless_came}

-- ---- one part

both_ok : {A E : Type 0} (a b : Result (Unit {0}) E) (x y : A)
    → result_and a (result_and b (Ok x)) ≡ Ok y → x ≡ y
both_ok (Ok u) (Ok v) x y e = cc
both_ok (Ok u) (Err f) x y e = absurd (cc)
both_ok (Err f) b x y e = absurd (cc)

-- a part is accepted as it was given
accepted_is : (q p : PartSeen) → accepted q ≡ Ok p → q ≡ p
unfolding accepted
accepted_is q p e =
    both_ok (check_from (broken_at C) 1 (rules_of q))
    (if q.trusted then flow_answer q.component else Ok tt) q p e

-- its file came whole, it alone, and its bytes are the word's part
pub record PartCame (w : PartWord) (read : List (List ℕ)) (old : FilesSeen) (p : PartSeen) (new : FilesSeen)
    : Type 0 where
  pub text : List ℕ
  pub read_is : read ≡ text ∷ []
  pub came : GivesWhole old w.name LONGEST_FILE text new
  pub is : IsPartOf w text p

-- the form that the bytes have
formed : (ending : Ending) (index : ℕ) (text : List ℕ) (c : ComponentFields) (old new : FilesSeen)
    → Comes (form_by ending index text) old (Ok c) new
    → HasForm ending text c × (new ≡ old)
formed (Source d) index text c old new h = unless_came (refusal.Source index) (sourced d text) c old new h
formed Assembler index text c old new h = unless_came (refusal.Assembly index) (assembled text) c old new h
formed Component index text c old new h = unless_came (refusal.File index) (decoded text) c old new h

settled_form : (ending : Ending) (index : ℕ) (text : List ℕ) → IsSettled (form_by ending index text)
settled_form (Source d) index text = settled_unless (refusal.Source index) (sourced d text)
settled_form Assembler index text = settled_unless (refusal.Assembly index) (assembled text)
settled_form Component index text = settled_unless (refusal.File index) (decoded text)

-- where it is a source, it is compiled from them
compiled_by : (ending : Ending) (text : List ℕ) (c : ComponentFields) → HasForm ending text c
    → is_source ending ≡ true → sourced (language_of ending) text ≡ Ok c
compiled_by (Source d) text c h s = h
compiled_by Assembler text c h s = absurd (cc)
compiled_by Component text c h s = absurd (cc)

-- a component's file
record FileCame (w : PartWord) (read : List (List ℕ)) (old : FilesSeen) (c : ComponentFields)
    (new : FilesSeen) : Type 0 where
  pub text : List ℕ
  pub read_is : read ≡ text ∷ []
  pub came : GivesWhole old w.name LONGEST_FILE text new
  pub form : HasForm w.ending text c

file_came : (index : ℕ) (w : PartWord) (c : ComponentFields) (read : List (List ℕ)) (old new : FilesSeen)
    → ComesOf (component_at index w) read old (Ok c) new → FileCame w read old c new
unfolding component_at
file_came index w c read old new h =
    let s = read_made w.name index (form_by w.ending index) (settled_form w.ending index) read old new c h in
    record {
      text = s.0;
      read_is = s.1;
      came = s.2;
      form = (formed w.ending index s.0 c new new s.3).0;
    }

pub part_came : (index : ℕ) (w : PartWord) (p : PartSeen) (read : List (List ℕ)) (old new : FilesSeen)
    → ComesOf (part_at index w) read old (Ok p) new → PartCame w read old p new
unfolding part_at
part_came index w p read old new h =
    elim (came_first (component_at index w) (part_by index w) (settled_part index w) read old new (Ok p) h)
    as (λ _. PartCame w read old p new) [
      | inl s ↦ (
          let a : PartSeen = record { component = s.0; trusted = is_trusted_mark w.mark } in
          let e = unless_came (broken_in index) (accepted a) p new new s.2 in
          let same : a ≡ p = accepted_is a p e.0 in
          let f = file_came index w s.0 read old new s.1 in
          record {
            text = f.text;
            read_is = f.read_is;
            came = f.came;
            is = (
              subst (λ (z : PartSeen). HasForm w.ending f.text z.component) same f.form,
              ap (λ (z : PartSeen). z.trusted) (sym same),
              subst (λ (z : PartSeen). accepted z ≡ Ok p) same e.0,
            );
          }
          )
      | inr s ↦ absurd (let e = s.2 in cc)
    ]

-- ---- all of them

-- what holds of sources
pub record SourceLaws : Type 0 where
  pub limits : (d : Dialect) (text : List ℕ) (m : ModuleFields) → module_in d text ≡ Ok m → IsModule m
  pub resolved : (d : Dialect) (text : List ℕ) (m : ModuleFields) → module_in d text ≡ Ok m
      → name_faults m ≡ []
  pub compiled_from : (d : Dialect) (text : List ℕ) (c : ComponentFields) → sourced d text ≡ Ok c
      → (m : ModuleFields) × (module_in d text ≡ Ok m) × (c ≡ compiled m)

-- the modules of words, and that the trusted parts are their components
pub record Gathered (words : List PartWord) (read : List (List ℕ)) (old : FilesSeen) (parts : List PartSeen)
    (new : FilesSeen) : Type 0 where
  pub modules : List ModuleFields
  pub came : SourcesCame words read old parts modules new
  pub are : AreSources modules parts

abbrev component_in : PartSeen → ComponentFields
component_in p = p.component

module _ (laws : SourceLaws) where
  -- a source before others
  with_source : (p : PartSeen) (m : ModuleFields) (ps : List PartSeen) (ms : List ModuleFields)
      → p.trusted ≡ true → p.component ≡ compiled m → IsModule m → name_faults m ≡ [] → AreSources ms ps
      → AreSources (m ∷ ms) (p ∷ ps)
  with_source p m ps ms t c l r a = record {
    limits = (l, a.limits);
    resolved = (r, a.resolved);
    compiled = rw t (ap (λ d. d ∷ map component_in (trusted_parts ps)) c
        ∙ ap (λ ds. compiled m ∷ ds) a.compiled);
  }

  -- a part that isn't trusted before others
  with_other : (p : PartSeen) (ps : List PartSeen) (ms : List ModuleFields) → p.trusted ≡ false
      → AreSources ms ps → AreSources ms (p ∷ ps)
  with_other p ps ms t a =
      record { limits = a.limits; resolved = a.resolved; compiled = rw t a.compiled }

  with_part : (w : PartWord) (words : List PartWord) (p : PartSeen) (ps : List PartSeen)
      (front back : List (List ℕ)) (old mid new : FilesSeen) (b : Bool) → is_trusted_mark w.mark ≡ b
      → (is_trusted_mark w.mark ≡ true → is_source w.ending ≡ true) → (c : PartCame w front old p mid)
      → Gathered words back mid ps new → Gathered (w ∷ words) (c.text ∷ back) old (p ∷ ps) new
  with_part w words p ps front back old mid new true e s c g =
      let d = language_of w.ending in
      let k = laws.compiled_from d c.text p.component
      (compiled_by w.ending c.text p.component c.is.0 (s e)) in
      record {
        modules = k.0 ∷ g.modules;
        came = (mid, c.came, c.is, rw e (k.1, g.came));
        are = with_source p k.0 ps g.modules (c.is.1 ∙ e) k.2 (laws.limits d c.text k.0 k.1)
            (laws.resolved d c.text k.0 k.1) g.are;
      }
  with_part w words p ps front back old mid new false e s c g = record {
    modules = g.modules;
    came = (mid, c.came, c.is, rw e g.came);
    are = with_other p ps g.modules (c.is.1 ∙ e) g.are;
  }

  none_gathered : (read : List (List ℕ)) (old new : FilesSeen) (parts : List PartSeen)
      → ComesOf (let q : Plan (List PartSeen) = Made [] in q) read old (Ok parts) new
      → Gathered [] read old parts new
  none_gathered read old new [] h = record {
    modules = [];
    came = (sym h.1, refl, refl, h.0.1);
    are = record { limits = tt; resolved = tt; compiled = refl };
  }
  none_gathered read old new (p ∷ ps) h = absurd (let e = h.0.0 in cc)

  same_parts : (xs ys : List PartSeen) → (let r : Result (List PartSeen) Refusal = Ok xs in r) ≡ Ok ys
      → ys ≡ xs
  same_parts xs ys e = cc

  pub gathered : (words : List PartWord) (index : ℕ) (read : List (List ℕ)) (old new : FilesSeen)
      (parts : List PartSeen) → AllSources words
      → ComesOf (each_at part_at index words) read old (Ok parts) new → Gathered words read old parts new
  gathered [] index read old new parts s h = none_gathered read old new parts h
  gathered (w ∷ words) index read old new parts s h =
      elim (split_of (part_at index w) _ read old new (Ok parts) h)
      as (λ _. Gathered (w ∷ words) read old parts new) [
        | inl a ↦ elim (came_first (each_at part_at (index + 1) words) (λ others. Made (a.0 ∷ others))
            (λ others. inl (a.0 ∷ others, refl)) a.3 a.1 new (Ok parts) a.5)
            as (λ _. Gathered (w ∷ words) read old parts new) [
              | inl b ↦ (
                  let c = part_came index w a.0 a.2 old a.1 a.4 in
                  let all : c.text ∷ a.3 ≡ read = sym (a.6 ∙ ap (λ f. f ++ a.3) c.read_is) in
                  subst (λ r. Gathered (w ∷ words) r old parts new) all
                  (subst (λ ps. Gathered (w ∷ words) (c.text ∷ a.3) old ps new)
                  (same_parts parts (a.0 ∷ b.0) b.2.0)
                  (with_part w words a.0 b.0 a.2 a.3 old a.1 new (is_trusted_mark w.mark) refl s.0 c
                  (gathered words (index + 1) a.3 a.1 new b.0 s.1 b.1)))
                  )
              | inr b ↦ absurd (let e = b.2 in cc)
            ]
        | inr a ↦ absurd (let e = a.2 in cc)
      ]
