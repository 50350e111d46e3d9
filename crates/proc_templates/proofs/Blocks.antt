-- What stands at each call, entry and label of the component.
use Rattle.std.proofs.Common.{◌≡◌, ℕ, zero, suc, ◌+◌, ◌-◌, ◌<◌, ◌≤◌, ◌⊎◌, inl, inr, Bool, true, false, List}
use Rattle.std.proofs.Common.{[], ◌∷◌, ◌++◌, length, map, Some, None, refl, sym, ap, ◌∙◌, subst, arith}
use Rattle.std.proofs.Common.{eqb-true}
use Rattle.std.specs.Prelude.{if◌then◌else◌, slice_get, ◌||◌, ◌==◌}
use Rattle.std.proofs.lemmas.Bool.{or_cases}
use Rattle.component_file.specs.declared.component.ComponentFields.{ComponentFields}
use Rattle.lcm_isa.specs.declared.Reg.TheVariants.{A0, Rcode, Rdata}
use Rattle.lcm_isa.specs.declared.Instr.{Instr}
use Rattle.call_sequence.specs.declared.TheConstants.{CALL_WORDS, SITE_WORDS, ENTRY_WORDS}
use Rattle.call_sequence.specs.Sequences.{call_code, return_code, entry_code}
use Rattle.proc_program.specs.declared.program.Program.{Program}
use Rattle.proc_program.specs.declared.program.Procedure.{Procedure}
use Rattle.proc_program.specs.Limits.{registers_of}
use Rattle.proc_program.specs.StepView.{block_of}
use Rattle.call_sequence.specs.Places.{begins_entry, begins_site, declared}
use Rattle.proc_templates.specs.Items.{Spot, Item, does, guards, goes, goes_if, finishes, label, site, entry}
use Rattle.proc_templates.specs.Items.{leaves, instrs, FAIL_AT, LITERAL_AT, Laid, word_of, put, lay, zero_of}
use Rattle.proc_templates.specs.declared.FrameShape.{FrameShape}
use Rattle.proc_templates.specs.Templates.{check_params, pushed, push, wipe, take_back, block_code, proc_code}
use Rattle.proc_templates.specs.Compiled.{label_row, frame_of, head_of, lay_proc, lay_procs, laid_of}
use Rattle.proc_templates.specs.Free.{behind}
use Rattle.proc_templates.proofs.Laying.{has, has_other, any-append, put-length, get-right, get-map, Rest}
use Rattle.proc_templates.proofs.Laying.{Sound, rest_lay, sound_put}
use Rattle.proc_templates.proofs.Whole.{spot_of, proc_laid, sound_proc, rest_procs, head_sound}
use Rattle.proc_templates.proofs.Entries.{entries_proc, behind_entry}

-- no call, entry or label begins within these words, past the first
pub record Within (c : ComponentFields) (o n : ℕ) : Type 0 where
  pub site : (y : ℕ) → o < y → y < o + n → begins_site c y ≡ false
  pub entry : (y : ℕ) → o < y → y < o + n → begins_entry c y ≡ false
  pub label : (y : ℕ) → o < y → y < o + n → declared c y ≡ None

abbrev pub WordsAt : ComponentFields → ℕ → List Instr → Type 0
WordsAt c o is = (j : ℕ) (i : Instr) → slice_get is j ≡ Some i → slice_get c.code (o + j) ≡ Some (word_of i)

pub record SiteThere (c : ComponentFields) (base k o : ℕ) : Type 0 where
  pub words : WordsAt c o (call_code LITERAL_AT o k ++ return_code FAIL_AT (o + CALL_WORDS) base)
  pub within : Within c o SITE_WORDS

pub record EntryThere (c : ComponentFields) (base o : ℕ) : Type 0 where
  pub words : WordsAt c o (entry_code FAIL_AT o base)
  pub within : Within c o ENTRY_WORDS
  pub site : begins_site c o ≡ false
  pub label : declared c o ≡ None

got_last : (xs : List ℕ) (o i x : ℕ) → slice_get (xs ++ (o ∷ [])) i ≡ Some x
    → (slice_get xs i ≡ Some x) ⊎ ((i ≡ length xs) × (x ≡ o))
got_last [] o zero x e = inr (refl, cc)
got_last [] o (suc i) x e = cc
got_last (y ∷ xs) o zero x e = inl e
got_last (y ∷ xs) o (suc i) x e =
    elim (got_last xs o i x e) as (λ _. (slice_get (y ∷ xs) (suc i) ≡ Some x) ⊎
    ((suc i ≡ length (y ∷ xs)) × (x ≡ o))) [
      | inl h ↦ inl h
      | inr h ↦ inr (ap suc h.0, h.1)
    ]

or_none : (b : Bool) → (b || false) ≡ true → b ≡ true
or_none true e = refl
or_none false e = cc

has_last : (xs : List ℕ) (o x : ℕ) → has (xs ++ (o ∷ [])) x ≡ true → (has xs x ≡ true) ⊎ (o ≡ x)
has_last xs o x h = elim (or_cases (has xs x) ((o == x) || false)
    (sym (any-append (λ y. y == x) xs (o ∷ [])) ∙ h)) as (λ _. (has xs x ≡ true) ⊎ (o ≡ x)) [
      | inl g ↦ inl g
      | inr g ↦ inr (eqb-true o x (or_none (o == x) g))
    ]

module _ (c : ComponentFields) where
  within : (spot : Spot) (l : Laid) (x : Item) (n : ℕ) → behind (length l.code) x ≡ length l.code + n
      → Sound l → Rest (put spot l x) c
      → ((y : ℕ) → length l.code < y → has (put spot l x).sites y ≡ has l.sites y)
      → ((y : ℕ) → length l.code < y → has (put spot l x).entries y ≡ has l.entries y)
      → ((y : ℕ) → length l.code < y → has (put spot l x).labels y ≡ has l.labels y)
      → Within c (length l.code) n
  within spot l x n e s r hs he hl =
      let k = put-length spot l x in
      record {
        site = λ y lo hi. r.sites y (omega (arith, k, e, hi)) ∙ hs y lo ∙ s.sites y (omega (arith, lo));
        entry = λ y lo hi. r.entries y (omega (arith, k, e, hi)) ∙ he y lo ∙ s.entries y (omega (arith, lo));
        label = λ y lo hi. r.labels y (omega (arith, k, e, hi))
            ∙ ap (λ t. if t then Some label_row else None) (hl y lo ∙ s.labels y lo);
      }

  words_at : (spot : Spot) (l : Laid) (x : Item) → Rest (put spot l x) c
      → WordsAt c (length l.code) (instrs spot (length l.code) (length l.sites) x)
  unfolding put
  words_at spot l x r j i h =
      let is = instrs spot (length l.code) (length l.sites) x in
      r.code (length l.code + j) (word_of i) (get-right l.code (map word_of is) j ∙ get-map is j i h)

  site_there : (spot : Spot) (l : Laid) → Sound l → Rest (put spot l site) c
      → SiteThere c spot.stack_base (length l.sites) (length l.code)
  unfolding put instrs
  site_there spot l s r = record {
    words = words_at spot l site r;
    within = within spot l site SITE_WORDS refl s r
        (λ y lo. has_other l.sites (length l.code) y (omega (arith, lo))) (λ y lo. refl) (λ y lo. refl);
  }

  -- no label stands at the end of what is laid
  pub record Closed (l : Laid) : Type 0 where
    pub labels : (x : ℕ) → length l.code ≤ x → has l.labels x ≡ false

  entry_there : (spot : Spot) (l : Laid) → Sound l → Closed l → Rest (put spot l entry) c
      → EntryThere c spot.stack_base (length l.code)
  unfolding put instrs
  entry_there spot l s d r =
      let o = length l.code in
      let k = put-length spot l entry in
      let lt : o < length (put spot l entry).code = omega (arith, k) in
      record {
        words = words_at spot l entry r;
        within = within spot l entry ENTRY_WORDS refl s r (λ y lo. refl)
            (λ y lo. has_other l.entries o y (omega (arith, lo))) (λ y lo. refl);
        site = r.sites o lt ∙ s.sites o (omega arith);
        label = r.labels o lt ∙ ap (λ t. if t then Some label_row else None) (d.labels o (omega arith));
      }

  abbrev pub SitesThere : ℕ → Laid → Type 0
  SitesThere base l = (i o : ℕ) → slice_get l.sites i ≡ Some o → SiteThere c base i o

  one_more : (base : ℕ) (xs : List ℕ) (o : ℕ) → ((i x : ℕ) → slice_get xs i ≡ Some x → SiteThere c base i x)
      → SiteThere c base (length xs) o
      → (i x : ℕ) → slice_get (xs ++ (o ∷ [])) i ≡ Some x → SiteThere c base i x
  one_more base xs o old new i x e = elim (got_last xs o i x e) as (λ _. SiteThere c base i x) [
    | inl h ↦ old i x h
    | inr h ↦ subst (λ k. SiteThere c base k x) (sym h.0)
        (subst (λ y. SiteThere c base (length xs) y) (sym h.1) new)
  ]

  sites_put : (spot : Spot) (l : Laid) (x : Item) → Sound l → Rest (put spot l x) c
      → SitesThere spot.stack_base l → SitesThere spot.stack_base (put spot l x)
  unfolding put
  sites_put spot l (does i) s r h = h
  sites_put spot l (guards is) s r h = h
  sites_put spot l (goes far) s r h = h
  sites_put spot l (goes_if far g) s r h = h
  sites_put spot l finishes s r h = h
  sites_put spot l label s r h = h
  sites_put spot l site s r h = one_more spot.stack_base l.sites (length l.code) h (site_there spot l s r)
  sites_put spot l entry s r h = h
  sites_put spot l leaves s r h = h

  sites_lay : (spot : Spot) (xs : List Item) (l : Laid) → Sound l → Rest (lay spot l xs) c
      → SitesThere spot.stack_base l → SitesThere spot.stack_base (lay spot l xs)
  sites_lay spot [] l s r h = h
  sites_lay spot (x ∷ xs) l s r h =
      sites_lay spot xs (put spot l x) (sound_put spot l x s) r
      (sites_put spot l x s (rest_lay spot xs (put spot l x) c r) h)

  -- ---- where no label stands at the end

  pub record Closing (spot : Spot) (xs : List Item) : Type 0 where
    pub by : (l : Laid) → Sound l → Closed (lay spot l xs)

  closing_left : (spot : Spot) (a b : List Item) → Closing spot b → Closing spot (a ++ b)
  closing_left spot [] b k = k
  closing_left spot (x ∷ a) b k =
      record { by = λ l s. (closing_left spot a b k).by (put spot l x) (sound_put spot l x s) }

  closing_last : (spot : Spot) → Closing spot (leaves ∷ [])
  unfolding put
  closing_last spot = record {
    by = λ l s. record
        { labels = λ x h. let k = put-length spot l leaves in s.labels x (omega (arith, k, h)) };
  }

  closing_proc : (spot : Spot) (f : FrameShape) (params : List _) (body : _)
      → Closing spot (proc_code f params body)
  closing_proc spot f params body =
      closing_left spot (entry ∷ check_params 0 params) _
      (closing_left spot (push (pushed (registers_of params) f.words)) _
      (closing_left spot (block_code f body) _
      (closing_left spot (does (zero_of A0) ∷ label ∷ does _ ∷ wipe (f.words - 2)) _
      (closing_left spot (take_back Rdata ++ take_back Rcode) (leaves ∷ []) (closing_last spot)))))

  module _ (m : Program) where
    closed_proc : (l : Laid) (p : Procedure) → Sound l → Closed (lay_proc m l p)
    closed_proc l p s = subst Closed (sym (proc_laid m l p))
        ((closing_proc (spot_of m l p) (frame_of m p) p.callbacks (block_of p.body)).by l s)

    abbrev pub EntriesThere : Laid → Type 0
    EntriesThere l = (x : ℕ) → has l.entries x ≡ true → EntryThere c m.stack x

    -- all calls, entries, and the end
    pub record AllThere (l : Laid) : Type 0 where
      pub sites : SitesThere m.stack l
      pub entries : EntriesThere l
      pub closed : Closed l

    next_entry : (l : Laid) (p : Procedure) → EntriesThere l → EntryThere c m.stack (length l.code)
        → EntriesThere (lay_proc m l p)
    next_entry l p old new x h =
        elim (has_last l.entries (length l.code) x (sym (ap (λ es. has es x) (entries_proc m l p)) ∙ h)) as
        (λ _. EntryThere c m.stack x) [
          | inl g ↦ old x g
          | inr g ↦ subst (EntryThere c m.stack) g new
        ]

    rest_back_to : (spot : Spot) (l : Laid) (p : Procedure)
        → Rest (lay spot l (proc_code (frame_of m p) p.callbacks (block_of p.body))) c
        → Rest (put spot l entry) c
    rest_back_to spot l p r = rest_lay spot (behind_entry (frame_of m p) p.callbacks (block_of p.body))
        (put spot l entry) c r

    next_proc : (l : Laid) (p : Procedure) → Sound l → Rest (lay_proc m l p) c → AllThere l
        → AllThere (lay_proc m l p)
    next_proc l p s r a =
        let spot = spot_of m l p in
        let code = proc_code (frame_of m p) p.callbacks (block_of p.body) in
        let r' : Rest (lay spot l code) c = subst (λ x. Rest x c) (proc_laid m l p) r in
        record {
          sites = subst (λ x. SitesThere m.stack x) (sym (proc_laid m l p))
              (sites_lay spot code l s r' a.sites);
          entries = next_entry l p a.entries (entry_there spot l s a.closed (rest_back_to spot l p r'));
          closed = closed_proc l p s;
        }

    all_procs : (fails : c.fail_at ≡ Some FAIL_AT) (ps : List Procedure) (l : Laid) → Sound l
        → Rest (lay_procs m l ps) c → AllThere l → AllThere (lay_procs m l ps)
    all_procs fails [] l s r a = a
    all_procs fails (p ∷ ps) l s r a =
        all_procs fails ps (lay_proc m l p) (sound_proc m l p s) r
        (next_proc l p s (rest_procs m c fails ps (lay_proc m l p) r) a)

    pub all_there : c.fail_at ≡ Some FAIL_AT → Rest (laid_of m) c → AllThere (laid_of m)
    unfolding laid_of
    all_there fails r = all_procs fails m.procs (head_of m) (head_sound m c fails) r (record {
      sites = λ i o e. cc;
      entries = λ x h. cc;
      closed = record { labels = λ x h. refl };
    })
