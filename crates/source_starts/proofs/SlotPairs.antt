-- The slots of linked sources hold the pairs that they name.
use Rattle.std.proofs.Common.{◌≡◌, ℕ, zero, suc, ◌+◌, ◌*◌, List, [], ◌∷◌, length, Option, Some, None}
use Rattle.std.proofs.Common.{refl, sym, ap, ◌∙◌}
use Rattle.std.specs.Prelude.{slice_get, option_map}
use Rattle.std.proofs.lemmas.Option.{slice_get-map}
use Rattle.std.proofs.lemmas.List.{length-map}
use Rattle.linked_starts.specs.Parts.{PartSeen}
use Rattle.linked_starts.specs.Standing.{placed}
use Rattle.linked_starts.specs.Start.{Exported, imported, code_half, data_half}
use Rattle.overlay_machine.specs.declared.words.OWord.TheVariants.{Plain}
use Rattle.overlay_machine.specs.Starting.{overlay_at, StartsBegin}
use Rattle.overlay_machine.specs.Keeping.{HoldsFor}
use Rattle.proc_language.specs.declared.module.ModuleFields.{ModuleFields}
use Rattle.proc_language.specs.declared.module.Proc.{Proc}
use Rattle.proc_names.specs.Calls.{proc_calls}
use Rattle.proc_program.specs.declared.program.ProgramImport as program
use Rattle.proc_program.specs.declared.program.Program.{Program}
use Rattle.proc_program.specs.declared.program.Procedure.{Procedure}
use Rattle.proc_program.specs.Lower.{part_of, import_of, procedures_of}
use Rattle.proc_templates.specs.Compiled.{imports_of}
use Rattle.proc_semantics.specs.Values.{World, home_part, proc_in, import_in}
use Rattle.proc_semantics.specs.Marked.{PairHalf, CodeHalf, DataHalf}
use Rattle.source_starts.specs.Sources.{trusted_parts, LinkedSources, world_of}
use Rattle.source_starts.specs.Words.{slot_in, imports_in, where_there, half_at, word_at_start}
use Rattle.source_starts.specs.Named.{by_name, exported_half, IsPairNamed, SlotsAreNamed}
use Rattle.source_starts.proofs.Worlds.{Aligned, Home, aligned, part_of_home}
use Rattle.source_starts.proofs.Slots.{import_at, own_at}
use Rattle.source_starts.proofs.StartWords.{held_at}
use Rattle.source_starts.proofs.ModulePairs.{words_of}

-- a procedure keeps its place and its name
named_at : (m : ModuleFields) (n : ℕ) (ps : List Proc) (j : ℕ) (p : Proc) → slice_get ps j ≡ Some p
    → (q : Procedure) × (slice_get (procedures_of m n ps) j ≡ Some q) × (q.name ≡ p.name.text)
named_at m n [] j p e = absurd (let z : None ≡ Some p = e in cc)
named_at m n (x ∷ ps) zero p e =
    let s : x ≡ p = cc in (_, refl, ap (λ (y : Proc). y.name.text) s)
named_at m n (x ∷ ps) (suc j) p e = named_at m (n + proc_calls x) ps j p e

module _ (begin : StartsBegin) (a : LinkedSources) where
  open a use {modules, are_sources as src}
  open a.linked use {is_start as is}
  open a.linked.link use {parts, size, start as s}

  abbrev P : List PartSeen
  P = placed parts size

  abbrev W : World
  W = world_of a

  held : HoldsFor P size (overlay_at s) s.state.maps
  held = held_at begin a.linked

  beside : Aligned modules (trusted_parts P)
  beside = aligned parts size modules src.compiled

  -- the words of a slot
  slot_words : (i : ℕ) (p : PartSeen) (h : Home modules P i p) (n d : ℕ) (part name : List ℕ)
      → slice_get (imports_of (part_of h.source)) n ≡ Some (record { part = part; name = name; slot = d })
      → IsPairNamed P part name
      (λ x. slot_in modules P s (slice_get (trusted_parts P) i) (half_at modules P s d x))
  slot_words i p h n d part name at =
      let w = words_of modules P size s is beside src.limits src.resolved held.linked held.holds i p h n d
      part name at in (
        w.0,
        w.1,
        λ x. ap (λ o. slot_in modules P s o (half_at modules P s d x)) h.place
            ∙ by w.0 w.2.first w.2.second x,
      )
    where
      by : (e : Exported) → word_at_start modules P s (p.component.data_base + d) ≡ Plain (code_half e)
          → word_at_start modules P s (p.component.data_base + (d + 1)) ≡ Plain (data_half e) → (x : PairHalf)
          → word_at_start modules P s (p.component.data_base + half_at modules P s d x) ≡ exported_half e x
      by e f g CodeHalf = f
      by e f g DataHalf = g

  -- what a module has
  source_at : (i : ℕ) (u : Program) → home_part W i ≡ Some u
      → (m : ModuleFields) × (slice_get modules i ≡ Some m) × (part_of m ≡ u)
  source_at i u e = by (slice_get modules i) refl (sym (slice_get-map part_of modules i) ∙ e)
    where
      by : (o : Option ModuleFields) → slice_get modules i ≡ o → option_map part_of o ≡ Some u
          → (m : ModuleFields) × (slice_get modules i ≡ Some m) × (part_of m ≡ u)
      by None f g = absurd cc
      by (Some m) f g = (m, f, (let z : part_of m ≡ u = cc in z))

  record Here (i : ℕ) (u : Program) : Type 0 where
    pub part : PartSeen
    pub home : Home modules P i part
    pub same : part_of home.source ≡ u

  here : (i : ℕ) (u : Program) → home_part W i ≡ Some u → Here i u
  here i u e =
      let m = source_at i u e in
      let p = part_of_home modules P beside i m.0 m.1 in
      let s : Some p.1.source ≡ Some m.0 = sym p.1.source_is ∙ m.1 in
      let t : p.1.source ≡ m.0 = cc in
      record { part = p.0; home = p.1; same = ap part_of t ∙ m.2 }

  -- the pair of an own procedure
  pub own_words : (i j : ℕ) (u : Program) → home_part W i ≡ Some u → (q : Procedure)
      → slice_get u.procs j ≡ Some q
      → IsPairNamed P u.name q.name (λ x. slot_in modules P s (slice_get (trusted_parts P) i)
      (half_at modules P s (2 * (imports_in modules P s (slice_get modules i) + j)) x))
  own_words i j u e q f =
      let h = here i u e in
      let at : slice_get (part_of h.home.source).procs j ≡ Some q =
      ap (λ (v : Program). slice_get v.procs j) h.same ∙ f in
      let n : imports_in modules P s (slice_get modules i) ≡ length (part_of h.home.source).imports =
      ap (imports_in modules P s) h.home.source_is ∙ sym (length-map h.home.source.imports import_of) in
      let w = slot_words i h.part h.home (length (part_of h.home.source).imports + j)
      (2 * (length (part_of h.home.source).imports + j)) (part_of h.home.source).name q.name
      (own_at (part_of h.home.source) j q at) in (
        w.0,
        ap (λ (v : Program). imported P (by_name v.name q.name)) (sym h.same) ∙ w.1,
        λ x. ap (λ m. slot_in modules P s (slice_get (trusted_parts P) i)
            (half_at modules P s (2 * (m + j)) x)) n
            ∙ w.2 x,
      )

  -- that of an import
  pub import_words : (i k : ℕ) (u : Program) → home_part W i ≡ Some u → (q : program.ProgramImport)
      → slice_get u.imports k ≡ Some q
      → IsPairNamed P q.part q.name
      (λ x. slot_in modules P s (slice_get (trusted_parts P) i) (half_at modules P s (2 * k) x))
  import_words i k u e q f =
      let h = here i u e in
      let at : slice_get (part_of h.home.source).imports k ≡ Some q =
      ap (λ (v : Program). slice_get v.imports k) h.same ∙ f in
      slot_words i h.part h.home k (2 * k) q.part q.name (import_at (part_of h.home.source) k q at)

  -- ---- by the names of the source

  home_is : (i : ℕ) (m : ModuleFields) → slice_get modules i ≡ Some m → home_part W i ≡ Some (part_of m)
  home_is i m e = slice_get-map part_of modules i ∙ ap (option_map part_of) e

  pub slots_named : SlotsAreNamed modules a.link
  slots_named = record {
    imports = λ i k m n at here.
        (let home = home_is i m at in
        let there : slice_get (part_of m).imports k ≡ Some (import_of n) =
        slice_get-map import_of m.imports k ∙ ap (option_map import_of) here in
        let w = import_words i k (part_of m) home (import_of n) there in (
          w.0,
          w.1,
          λ x. ap (λ o. where_there modules P s (import_in o k)
              (slot_in modules P s (slice_get (trusted_parts P) i) (half_at modules P s (2 * k) x))) home
              ∙ ap (λ o. where_there modules P s o
              (slot_in modules P s (slice_get (trusted_parts P) i) (half_at modules P s (2 * k) x))) there
              ∙ w.2 x,
        ));
    own = λ i j m p at here.
        (let home = home_is i m at in
        let q = named_at m 0 m.procs j p here in
        let w = own_words i j (part_of m) home q.0 q.1 in (
          w.0,
          ap (λ (name : List ℕ). imported P (by_name m.name.text name)) (sym q.2) ∙ w.1,
          λ x. ap (λ o. where_there modules P s (proc_in o j)
              (slot_in modules P s (slice_get (trusted_parts P) i)
              (half_at modules P s (2 * (imports_in modules P s (slice_get modules i) + j)) x))) home
              ∙ ap (λ o. where_there modules P s o
              (slot_in modules P s (slice_get (trusted_parts P) i)
              (half_at modules P s (2 * (imports_in modules P s (slice_get modules i) + j)) x))) q.1
              ∙ w.2 x,
        ));
  }
