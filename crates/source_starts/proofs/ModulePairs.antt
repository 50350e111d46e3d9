-- What the data of compiled modules hold at a linked start: the pairs of imports and own procedures, and the
-- globals.
use Rattle.std.proofs.Common.{◌≡◌, inl, inr, ℕ, ◌+◌, ◌*◌, ◌<◌, ℤ, pos, Bool, true, false, List, []}
use Rattle.std.proofs.Common.{length, map, Some, refl, sym, ap, ◌∙◌, subst, arith}
use Rattle.std.specs.Prelude.{slice_get, slice_index_or, unwrap_or, option_map, position}
use Rattle.std.specs.List.{Contains}
use Rattle.std.specs.Int.{w64}
use Rattle.std.specs.Int.RustNames.{FitsSigned}
use Rattle.std.proofs.lemmas.Option.{slice_get-map}
use Rattle.cap_words.specs.declared.Word.{Word}
use Rattle.cap_words.specs.declared.Word.TheVariants.{Int, Sealed}
use Rattle.cap_words.specs.declared.Sealable.TheVariants.{Mem as MemIn}
use Rattle.component_file.specs.declared.component.Import.{Import}
use Rattle.component_file.proofs.Offers.{inside as there_is}
use Rattle.lcm_machine.specs.Cells.{cell}
use Rattle.lcm_machine.specs.Table.{fits_64}
use Rattle.call_sequence.specs.Holds.{code_at, data_cap}
use Rattle.linked_starts.specs.Parts.{PartSeen}
use Rattle.linked_starts.specs.Start.{Exported, code_half, data_half, code_of, data_of, imported}
use Rattle.linked_starts.specs.Started.{StartSeen}
use Rattle.linked_starts.proofs.Offers.{IsExport}
use Rattle.linked_starts.specs.LinkedStarts.{IsLinkedStart}
use Rattle.overlay_machine.specs.declared.words.OWord.{OWord}
use Rattle.overlay_machine.specs.declared.words.OWord.TheVariants.{Plain}
use Rattle.overlay_machine.specs.Link.{Link, IsTrusted, IsUntrusted, ranges_of}
use Rattle.overlay_machine.specs.Linked.{IsLink}
use Rattle.overlay_machine.specs.Invariant.{Invariant}
use Rattle.overlay_machine.specs.Starting.{overlay_at}
use Rattle.overlay_machine.proofs.Offers.{listed_at}
use Rattle.proc_language.specs.declared.module.ModuleFields.{ModuleFields}
use Rattle.proc_language.specs.Limits.{Each, IsModule}
use Rattle.proc_language.proofs.Offers.{each_at}
use Rattle.proc_names.specs.NameFaults.{name_faults}
use Rattle.proc_program.specs.declared.program.ProgramImport as program
use Rattle.proc_program.specs.declared.program.Program.{Program}
use Rattle.proc_program.specs.declared.program.Procedure.{Procedure}
use Rattle.proc_program.specs.Lower.{part_of}
use Rattle.proc_program.specs.Limits.{IsProgram}
use Rattle.proc_program.proofs.Offers.{part_fits}
use Rattle.proc_templates.specs.Compiled.{pair_count, imports_of}
use Rattle.proc_semantics.specs.declared.value.Target.{Target}
use Rattle.proc_semantics.specs.declared.value.Pair.{Pair}
use Rattle.proc_semantics.specs.declared.value.Pair.TheVariants.{Outside, Runs}
use Rattle.proc_semantics.specs.Values.{World, Store, target, home_part, pair_found, linked_by}
use Rattle.proc_semantics.specs.Values.{linked as linked_to, import_in, is_named}
use Rattle.source_laws.proofs.Offers.{Sealing, MeantBy, IsPair}
use Rattle.source_starts.specs.Sources.{trusted_parts}
use Rattle.source_starts.proofs.Carrying.{offset_from}
use Rattle.source_starts.proofs.Worlds.{Aligned, Home, home_of, found_home, found_none}
use Rattle.source_starts.proofs.Linking.{imported_names, may_import, same_part}
use Rattle.source_starts.proofs.Slots.{import_at, own_at, slot_below, global_at}
use Rattle.source_starts.proofs.StartWords.{the_link, cell_start, data_in, apart, first_words, code_public}
use Rattle.source_starts.proofs.StartWords.{data_public}
use Rattle.source_starts.proofs.Targets.{one_proc, imports_apart, BeginsAt, part_here, differ}
use Rattle.source_starts.proofs.Targets.{shared_found, proc_of}
use Rattle.source_starts.proofs.Halves.{half_of, trusted_pair, trusted_code, open_pair, open_leaves}
use Rattle.source_starts.proofs.Stores.{StoreIs, data_size, index_is}
use Rattle.audited_runs.proofs.Offers.{signed_fits}

module _ (modules : List ModuleFields) (parts : List PartSeen) (size : ℕ) (s : StartSeen)
    (is : IsLinkedStart parts size s) (aligned : Aligned modules (trusted_parts parts))
    (limits : Each IsModule modules) (resolved : Each (λ m. name_faults m ≡ []) modules)
    (linked : IsLink (the_link parts size s is))
    (holds : Invariant (the_link parts size s is) (overlay_at s).state s.state.maps) where
  abbrev pub G : Link
  G = the_link parts size s is

  abbrev pub First : ℕ → OWord
  First = first_words parts size s is

  abbrev pub Begin : Target → PartSeen → ℕ → Type 0
  Begin = BeginsAt modules parts

  abbrev pub W : World
  W = map part_of modules

  first_is : (a : ℕ) (w : Word) → cell s.state.maps.cells a ≡ Some w → First a ≡ Plain w
  first_is a w e = ap (λ o. unwrap_or o (Plain (Int (pos 0)))) (cell_start parts size s is a w e)

  pub home_trusted : (i : ℕ) (p : PartSeen) → Home modules parts i p → IsTrusted G p
  home_trusted i p h = (listed_at parts h.number p h.number_is, h.trusted)

  -- two words of a part's data
  pub record PairWords (p : PartSeen) (d : ℕ) (x y : OWord) : Type 0 where
    pub first : First (p.component.data_base + d) ≡ x
    pub second : First (p.component.data_base + (d + 1)) ≡ y
    pub inside : d + 1 < length p.component.data_words

  pub words_of : (i : ℕ) (p : PartSeen) (h : Home modules parts i p) (n d : ℕ) (part name : List ℕ)
      → slice_get (imports_of (part_of h.source)) n ≡ Some (record { part = part; name = name; slot = d })
      → (x : Exported) × (imported parts (record { part = part; name = name; slot = d }) ≡ Some x)
      × PairWords p d (Plain (code_half x)) (Plain (data_half x))
  words_of i p h n d part name at =
      let im : Import = record { part = part; name = name; slot = d } in
      let here : slice_get p.component.imports n ≡ Some im =
      ap (λ (xs : List Import). slice_get xs n) h.placed.imports ∙ at in
      let halves = (data_in parts size s is h.number p h.number_is).slots n im here in
      let z : p.component.data_base + d + 1 ≡ p.component.data_base + (d + 1) = omega arith in
      let below = slot_below (part_of h.source) n im at in
      let long = data_size modules parts i p h in (
        halves.names,
        halves.names_is,
        record {
          first = first_is (p.component.data_base + d) (code_half halves.names) halves.code;
          second = ap First (sym z)
              ∙ first_is (p.component.data_base + d + 1) (data_half halves.names) halves.behind;
          inside = omega (arith, below, long);
        },
      )

  -- the code half of an own procedure
  abbrev pub OwnCode : (p : PartSeen) → ℕ → OWord
  OwnCode p k = Plain (Sealed p.component.closure (MemIn (code_at (ranges_of p) k)))

  abbrev pub OwnData : PartSeen → OWord
  OwnData p = Plain (Sealed p.component.closure (MemIn (data_cap (ranges_of p) (pos p.component.data_base))))

  pub own_pair : (i : ℕ) (p : PartSeen) (h : Home modules parts i p) (j : ℕ) (q : Procedure)
      → slice_get (part_of h.source).procs j ≡ Some q
      → PairWords p (2 * (length (part_of h.source).imports + j))
      (OwnCode p (offset_from 2 (part_of h.source).procs j))
      (OwnData p)
  own_pair i p h j q at =
      let u = part_of h.source in
      let w = words_of i p h (length u.imports + j) (2 * (length u.imports + j)) u.name q.name
      (own_at u j q at) in
      let im : Import = record { part = u.name; name = q.name; slot = 2 * (length u.imports + j) } in
      let n = imported_names parts im w.0 w.1 in
      let same : w.0.part ≡ p =
      same_part parts (apart parts size s is) n.there.index h.number w.0.part p n.there.at
      h.number_is (n.part ∙ sym h.placed.name) in
      let x = proc_of modules parts aligned (apart parts size s is) resolved i p h w.0.export
      (subst (λ (y : PartSeen). Contains y.component.exports w.0.export) same n.there.listed) in
      let one : x.index ≡ j = one_proc u.procs x.index j x.proc q
      (differ modules parts aligned (apart parts size s is) resolved i p h) x.at at (sym x.name ∙ n.name) in
      let off : w.0.export.offset ≡ offset_from 2 u.procs j = x.offset ∙ ap (offset_from 2 u.procs) one in
      let t : w.0.part.trusted ≡ true = ap (λ (y : PartSeen). y.trusted) same ∙ h.trusted in
      let code : Plain (code_half w.0) ≡ OwnCode p (offset_from 2 u.procs j) =
      ap Plain (trusted_code G linked Begin w.0 t) ∙ ap (λ y. OwnCode y w.0.export.offset) same
      ∙ ap (OwnCode p) off in
      let half : Plain (data_half w.0) ≡ OwnData p = ap OwnData same in
      record { first = w.2.first ∙ code; second = w.2.second ∙ half; inside = w.2.inside }

  -- the pair of an import, and what it means
  pub record ImportPair (i : ℕ) (p : PartSeen) (k : ℕ) : Type 0 where
    pub code : OWord
    pub half : OWord
    pub words : PairWords p (2 * k) code half
    pub pair : Pair
    pub pair_is : linked_to W (import_in (home_part W i) k) ≡ pair
    pub means : IsPair G linked Begin pair code half

  module _ (i : ℕ) (p : PartSeen) (h : Home modules parts i p) (k : ℕ) (im : program.ProgramImport)
      (at : slice_get (part_of h.source).imports k ≡ Some im) (x : Exported)
      (names : imported parts (record { part = im.part; name = im.name; slot = 2 * k }) ≡ Some x)
      (words : PairWords p (2 * k) (Plain (code_half x)) (Plain (data_half x))) where
    abbrev Im : Import
    Im = record { part = im.part; name = im.name; slot = 2 * k }

    there : IsExport parts x
    there = (imported_names parts Im x names).there

    part_name : x.part.component.name ≡ im.part
    part_name = (imported_names parts Im x names).part

    export_name : x.export.name ≡ im.name
    export_name = (imported_names parts Im x names).name

    shared : x.part.trusted ≡ true → x.export.shared ≡ true
    shared t =
        elim (may_import parts size is.rules h.number k p Im x h.number_is
        (ap (λ (xs : List Import). slice_get xs k) h.placed.imports ∙ import_at (part_of h.source) k im at)
        names)
        as (λ _. x.export.shared ≡ true) [
          | inl e ↦ e
          | inr e ↦ (
              let same : x.part ≡ p =
              same_part parts (apart parts size s is) there.index h.number x.part p there.at
              h.number_is e in
              let y = proc_of modules parts aligned (apart parts size s is) resolved i p h x.export
              (subst (λ (z : PartSeen). Contains z.component.exports x.export) same there.listed) in
              absurd (imports_apart h.source
              (each_at (λ m. name_faults m ≡ []) modules i h.source resolved h.source_is)
              k y.index im y.proc at y.at (sym export_name ∙ y.name)))
        ]

    import_here : import_in (home_part W i) k ≡ Some im
    import_here = ap (λ o. import_in o k)
        (part_here modules parts aligned (apart parts size s is) resolved i p h) ∙ at

    linked_is : linked_to W (import_in (home_part W i) k)
        ≡ linked_by W im.name (position (is_named im.part) W)
    unfolding linked_to
    linked_is = ap (λ o. linked_to W o) import_here

    pair_of : (r : Pair) → MeantBy G linked Begin r (Plain (code_half x)) (Plain (data_half x))
        → IsPair G linked Begin r (Plain (code_half x)) (Plain (data_half x))
    pair_of r means = record {
      called = record {
        first = half_of x.part.component.closure (code_of x) refl;
        second = half_of x.part.component.closure (data_of x.part) refl;
        means = means;
      };
      shown = code_public parts size s is linked holds x there shared;
      shown_too = data_public parts size s is linked holds x;
    }

    by_mark : (b : Bool) → x.part.trusted ≡ b → ImportPair i p k
    by_mark true t =
        let n = home_of modules parts aligned there.index x.part there.at t in
        let y = proc_of modules parts aligned (apart parts size s is) resolved n.0 x.part n.1 x.export
        there.listed in
        let sh : y.proc.shared ≡ true = sym y.shared ∙ shared t in
        let to = found_home modules parts aligned (apart parts size s is) n.0 x.part n.1 im.part
        (sym part_name) in
        let found = shared_found modules parts aligned (apart parts size s is) resolved n.0 x.part n.1 y.index
        y.proc
        im.name y.at sh (sym export_name ∙ y.name) in
        let ip : IsTrusted G x.part = (listed_at parts there.index x.part there.at, t) in
        let code : Plain (code_half x) ≡ OwnCode x.part x.export.offset =
        ap Plain (trusted_code G linked Begin x t) in
        record {
          code = Plain (code_half x);
          half = Plain (data_half x);
          words = words;
          pair = Runs (target n.0 y.index);
          pair_is = linked_is ∙ ap (linked_by W im.name) to ∙ ap pair_found found;
          means = pair_of (Runs (target n.0 y.index)) (
            x.part,
            x.export.offset,
            x.part.component.closure,
            record { home = n.1; what = y.proc; what_is = y.at; offset = y.offset },
            ip,
            subst (λ w. Sealing G linked Begin (code_at (ranges_of x.part) x.export.offset)
                (MemIn (data_cap (ranges_of x.part) (pos x.part.component.data_base)))
                x.part.component.closure w
                (Plain (data_half x))) (sym code) (trusted_pair G linked Begin x.part x.export.offset ip),
          );
        }
    by_mark false t =
        let iu : IsUntrusted G x.part = (listed_at parts there.index x.part there.at, t) in
        let to = found_none modules parts aligned (apart parts size s is) there.index x.part im.part there.at
        t (sym part_name) in
        record {
          code = Plain (code_half x);
          half = Plain (data_half x);
          words = words;
          pair = Outside;
          pair_is = linked_is ∙ ap (linked_by W im.name) to;
          means = pair_of Outside (
            code_of x,
            MemIn (data_of x.part),
            x.part.component.closure,
            open_pair G linked Begin x iu,
            open_leaves G linked Begin x iu,
          );
        }

  pub import_pair : (i : ℕ) (p : PartSeen) (h : Home modules parts i p) (k : ℕ) (im : program.ProgramImport)
      → slice_get (part_of h.source).imports k ≡ Some im → ImportPair i p k
  import_pair i p h k im at =
      let w = words_of i p h k (2 * k) im.part im.name (import_at (part_of h.source) k im at) in
      by_mark i p h k im at w.0 w.1 w.2 w.0.part.trusted refl

  -- ---- globals

  global_word : (i : ℕ) (p : PartSeen) (h : Home modules parts i p) (o : ℕ) (z : ℤ)
      → slice_get (part_of h.source).globals o ≡ Some z
      → First (p.component.data_base + (pair_count (part_of h.source) + o)) ≡ Plain (Int z)
  global_word i p h o z at =
      let u = part_of h.source in
      first_is (p.component.data_base + (pair_count u + o)) (Int z)
      ((data_in parts size s is h.number p h.number_is).own (pair_count u + o) (Int z)
      (ap (λ (xs : List Word). slice_get xs (pair_count u + o)) h.placed.data_is ∙ global_at u o z at)
      (λ n im here. (
      let b = slot_below u n im
      (sym (ap (λ (xs : List Import). slice_get xs n) h.placed.imports) ∙ here) in
      (λ e. omega (arith, b, e), λ e. omega (arith, b, e)))))

  pub module_fits : (i : ℕ) (p : PartSeen) (h : Home modules parts i p) → IsProgram (part_of h.source)
  module_fits i p h = part_fits h.source (each_at IsModule modules i h.source limits h.source_is)

  abbrev pub first_store : Store
  first_store = map (λ (u : Program). u.globals) W

  row_is : (i : ℕ) (p : PartSeen) (h : Home modules parts i p)
      → slice_index_or first_store i [] ≡ (part_of h.source).globals
  row_is i p h =
      index_is first_store i (part_of h.source).globals []
      (slice_get-map (λ (u : Program). u.globals) W i
      ∙ ap (option_map (λ (u : Program). u.globals))
      (part_here modules parts aligned (apart parts size s is) resolved i p h))

  pub starts_stored : StoreIs modules parts First first_store First
  starts_stored = record {
    numbers = λ i p h o lt. (
        let z = there_is (part_of h.source).globals o lt in
        global_word i p h o z.0 z.1
        ∙ ap (λ v. Plain (Int v)) (sym (ap (λ xs. slice_index_or xs o (pos 0)) (row_is i p h)
        ∙ index_is (part_of h.source).globals o z.0 (pos 0) z.1)));
    fits = λ i p h o lt. (
        let z = there_is (part_of h.source).globals o lt in
        ap fits_64 (ap (λ xs. slice_index_or xs o (pos 0)) (row_is i p h)
        ∙ index_is (part_of h.source).globals o z.0 (pos 0) z.1)
        ∙ signed_fits z.0
        (each_at (FitsSigned w64) (part_of h.source).globals o z.0 (module_fits i p h).globals z.1));
    rows = λ i p h. ap length (row_is i p h);
    pairs = λ i p h d lt. refl;
  }
