-- Each procedure of the modules stands in its part, and its part has what its module's laws ask.
use Rattle.source_laws.proofs.Offers as tagged
use Rattle.source_laws.proofs.Offers.{Slotted, DataPair, Globals, IsCalled, IsPair, stand_of, PartIn, Stands}
use Rattle.proc_semantics.specs.Marked.{CodeHalf, DataHalf}
use Rattle.source_starts.specs.Words.{slots, slot_in, imports_in, where_there}
use Rattle.std.proofs.Common.{◌≡◌, ℕ, ◌+◌, ◌*◌, ◌<◌, pos, true, List, [], length, map, Some}
use Rattle.std.proofs.Common.{refl, sym, ap, ◌∙◌, subst, arith, eqb-true}
use Rattle.std.specs.Prelude.{slice_get, ◌==◌}
use Rattle.std.specs.List.{Contains}
use Rattle.std.proofs.lemmas.List.{length-map}
use Rattle.std.proofs.lemmas.Option.{slice_get_within}
use Rattle.lcm_isa.specs.declared.Instr.TheVariants.{Fail}
use Rattle.call_sequence.specs.Holds.{code_at, data_cap}
use Rattle.call_sequence.specs.Places.{begins_site}
use Rattle.linked_starts.specs.declared.owners.Site.{Site}
use Rattle.linked_starts.specs.Parts.{PartSeen}
use Rattle.linked_starts.specs.Started.{StartSeen}
use Rattle.linked_starts.proofs.Offers.{sites_in}
use Rattle.linked_starts.specs.LinkedStarts.{IsLinkedStart}
use Rattle.trusted_border.specs.declared.layout.SiteCode.{SiteCode}
use Rattle.trusted_border.specs.Names.{site_of, part_name}
use Rattle.overlay_machine.specs.declared.words.OWord.{OWord}
use Rattle.overlay_machine.specs.Link.{Link, IsTrusted, ranges_of}
use Rattle.overlay_machine.specs.Linked.{IsLink}
use Rattle.overlay_machine.specs.Invariant.{Invariant}
use Rattle.overlay_machine.specs.Names.{NamesTold, declared_site}
use Rattle.overlay_machine.specs.Starting.{overlay_at}
use Rattle.overlay_machine.proofs.Offers.{listed_at, index_of, any_of, starts_tell_names}
use Rattle.proc_language.specs.declared.module.ModuleFields.{ModuleFields}
use Rattle.proc_language.specs.Limits.{Each, IsModule}
use Rattle.proc_language.proofs.Offers.{each_at}
use Rattle.proc_names.specs.NameFaults.{name_faults}
use Rattle.proc_program.specs.declared.program.Program.{Program}
use Rattle.proc_program.specs.declared.program.Procedure.{Procedure}
use Rattle.proc_program.specs.declared.program.Handle.TheVariants.{Own, Imported}
use Rattle.proc_program.specs.Lower.{part_of, import_of, words_in}
use Rattle.proc_program.specs.Limits.{scope_of, ProcedureFits, IsProgram}
use Rattle.proc_program.specs.StepView.{block_of}
use Rattle.proc_program.proofs.Offers.{globals-length, procs-length}
use Rattle.proc_templates.specs.Items.{FAIL_AT, Spot}
use Rattle.proc_templates.specs.Templates.{proc_code, before_epilogue}
use Rattle.proc_templates.specs.Compiled.{pair_count, frame_of, head_of, laid_of, component_of, data_count}
use Rattle.proc_templates.specs.Kept.{FitsComponent}
use Rattle.proc_templates.proofs.Offers.{Rest, rest_procs, rest_whole, ready}
use Rattle.proc_semantics.specs.declared.value.Target.{Target}
use Rattle.proc_semantics.specs.declared.value.Pair.{Pair}
use Rattle.proc_semantics.specs.declared.value.Pair.TheVariants.{Runs}
use Rattle.proc_semantics.specs.declared.value.Value.{Value}
use Rattle.proc_semantics.specs.Values.{World, Store, target, home_part, proc_in, import_in, pair_of}
use Rattle.template_runs.specs.Public.{IsPublic}
use Rattle.template_runs.proofs.Offers.{Placed, SiteHere}
use Rattle.source_starts.specs.Sources.{trusted_parts}
use Rattle.source_starts.proofs.Alike.{entries_same, sites_same, carries_same, sited_same}
use Rattle.source_starts.proofs.Carrying.{all_stand, offset_from, calls_from}
use Rattle.source_starts.proofs.Worlds.{Aligned, Home}
use Rattle.source_starts.proofs.StartWords.{the_link, apart}
use Rattle.source_starts.proofs.Targets.{BeginsAt, part_here, export_of}
use Rattle.source_starts.proofs.Exports.{export_at}
use Rattle.source_starts.proofs.Halves.{half_of, trusted_pair}
use Rattle.source_starts.proofs.Fitted.{shares}
use Rattle.source_starts.proofs.Sourced.{shared_is, numbered, fits, code_length}
use Rattle.source_starts.proofs.Stores.{StoreIs, data_size, sets}
use Rattle.source_starts.proofs.ModulePairs.{OwnCode, OwnData, own_pair, import_pair, module_fits}
use Rattle.source_starts.proofs.ModulePairs.{home_trusted}
use Rattle.proc_semantics.specs.Meaning as meaning
use Rattle.source_starts.proofs.ModulePairs as words
use Rattle.component_file.proofs.Offers.{inside as there_is}

module _ (modules : List ModuleFields) (parts : List PartSeen) (size : ℕ) (s : StartSeen)
    (is : IsLinkedStart parts size s) (aligned : Aligned modules (trusted_parts parts))
    (limits : Each IsModule modules) (resolved : Each (λ m. name_faults m ≡ []) modules)
    (linked : IsLink (the_link parts size s is))
    (holds : Invariant (the_link parts size s is) (overlay_at s).state s.state.maps) where
  abbrev pub G : Link
  G = the_link parts size s is

  abbrev pub W : World
  W = map part_of modules

  -- the modules, with the words of their pairs
  abbrev pub WW : tagged.World
  WW = record { parts = map part_of modules; marks = slots modules parts s }

  abbrev pub Begin : Target → PartSeen → ℕ → Type 0
  Begin = BeginsAt modules parts

  abbrev pub First : ℕ → OWord
  First = words.First modules parts size s is aligned limits resolved linked holds

  abbrev pub Stored : Store → (ℕ → OWord) → Type 0
  Stored = StoreIs modules parts First

  told : NamesTold parts (overlay_at s).layout
  told = starts_tell_names parts size s is

  module _ (i : ℕ) (p : PartSeen) (h : Home modules parts i p) where
    abbrev U : Program
    U = part_of h.source

    module_is : IsModule h.source
    module_is = each_at IsModule modules i h.source limits h.source_is

    no_faults : name_faults h.source ≡ []
    no_faults = each_at (λ m. name_faults m ≡ []) modules i h.source resolved h.source_is

    part_is : IsProgram U
    part_is = module_fits modules parts size s is aligned limits resolved linked holds i p h

    trusted : IsTrusted G p
    trusted = home_trusted modules parts size s is aligned limits resolved linked holds i p h

    sized : FitsComponent U
    unfolding data_count
    sized =
        let k = is.accepted h.number p h.number_is in
        let a = h.placed.code_length in
        let b = code_length U part_is in
        let c = data_size modules parts i p h in
        let d = k.limits.code.0.1 in
        let e = k.limits.data_words.0.1 in
        record { limits = part_is; code = omega (arith, a, b, d); data_words = omega (arith, c, e) }

    begun : Rest (head_of U) (component_of U)
    unfolding laid_of component_of
    begun = rest_procs U (component_of U) refl U.procs (head_of U) (rest_whole U (ready U sized))

    failing : Placed G linked p 0 Fail
    failing =
        let f = linked.fails p FAIL_AT trusted h.placed.fails in
        record {
          has = f.1 0 Fail refl;
          ok = tt;
          site = sites_same U p.component h.placed 0 ∙ begun.sites 0 (omega arith);
          entry = entries_same U p.component h.placed 0 ∙ begun.entries 0 (omega arith);
        }

    here : home_part W i ≡ Some U
    here = part_here modules parts aligned (apart parts size s is) resolved i p h

    stack_is : meaning.home_stack W i ≡ G.layout.stack.base
    stack_is = ap meaning.stack_in here ∙ sym h.placed.stack ∙ linked.stack_bases p trusted

    pub name_is : meaning.part_name_of W i ≡ p.component.name
    name_is = ap meaning.name_in here ∙ sym h.placed.name

    site_part : (k n : ℕ) (u : SiteCode) → SiteHere G linked p k n u
        → part_name G.layout (site_of G.layout n).part ≡ meaning.part_name_of W i
    site_part k n u x =
        let t = told.numbers n x.index u p x.code_is trusted.0 trusted.1 x.site in
        (told.named (site_of G.layout n).part p t.part_is trusted.1).name ∙ sym name_is

    counted : (k n : ℕ) (u : SiteCode) (x : SiteHere G linked p k n u) → (site_of G.layout n).index ≡ x.index
    counted k n u x = (told.numbers n x.index u p x.code_is trusted.0 trusted.1 x.site).index_is

    within : (k : ℕ) → begins_site p.component k ≡ true → k < length p.component.code
    unfolding begins_site
    within k e =
        let x = any_of (λ (o : ℕ). o == k) p.component.sites e in
        let n = index_of p.component.sites x.0 x.1 in
        let same = eqb-true x.0 k x.2 in
        let lt = sites_in p (is.accepted h.number p h.number_is) h.trusted n.0 x.0 n.1 in
        omega (arith, same, lt)

    sites_apart : (j n k : ℕ) → slice_get p.component.sites j ≡ Some k
        → slice_get p.component.sites n ≡ Some k → j ≡ n
    sites_apart j n k a b =
        let x = told.sites h.number j k p h.number_is h.trusted a in
        let y = told.sites h.number n k p h.number_is h.trusted b in
        let same : Some x.number ≡ Some y.number = sym x.at ∙ y.at in
        let number : x.number ≡ y.number = cc in
        let site : declared_site h.number p j k ≡ declared_site h.number p n k =
        sym x.is ∙ ap (site_of G.layout) number ∙ y.is in
        ap (λ (z : Site). z.index) site

    -- ---- globals

    abbrev Count : ℕ
    Count = words_in h.source.globals

    count_is : Count ≡ length U.globals
    count_is = sym (globals-length h.source.globals)

    globals : Globals Stored p i (pair_count U)
    globals =
        let long = data_size modules parts i p h in
        let c = count_is in
        record {
          count = Count;
          room = omega (arith, long, c);
          reads = λ st mem o k lt. k.numbers i p h o (omega (arith, c, lt));
          fits = λ st mem o k lt. k.fits i p h o (omega (arith, c, lt));
          sets = λ st mem o v k lt fit.
              sets modules G linked (apart parts size s is) First i p h st mem o v k (omega (arith, c, lt))
              fit;
        }

    -- ---- pairs

    imported : length U.imports ≡ length h.source.imports
    imported = length-map h.source.imports import_of

    owned : length U.procs ≡ length h.source.procs
    owned = procs-length h.source 0 h.source.procs

    -- the words of a slot at the start
    slot_is : (d : ℕ) → slot_in modules parts s (slice_get (trusted_parts parts) i) d
        ≡ First (p.component.data_base + d)
    slot_is d = ap (λ o. slot_in modules parts s o d) h.place

    abbrev Slot : ℕ → OWord
    Slot d = slot_in modules parts s (slice_get (trusted_parts parts) i) d

    from_imports : (st : Store) (mem : ℕ → OWord) (k : ℕ) (env : List Value) → Stored st mem
        → k < length h.source.imports
        → DataPair p (Slotted (WW.marks.imported i k) (IsPair G linked Begin)) mem (2 * k)
        (pair_of W i env (Imported k))
    from_imports st mem k env kept lt =
        let c = imported in
        let x = there_is U.imports k (omega (arith, c, lt)) in
        let m = import_pair modules parts size s is aligned limits resolved linked holds i p h k x.0 x.1 in
        let there : (d : ℕ) → where_there modules parts s (import_in (home_part W i) k) (Slot d) ≡ Slot d =
        λ d. ap (λ o. where_there modules parts s o (Slot d)) (ap (λ o. import_in o k) here ∙ x.1) in
        record {
          first = m.code;
          second = m.half;
          inside = m.words.inside;
          stands = kept.pairs i p h (2 * k) (omega (arith, c, lt)) ∙ m.words.first;
          stands_too = kept.pairs i p h (2 * k + 1) (omega (arith, c, lt)) ∙ m.words.second;
          is = (
            subst (λ r. IsPair G linked Begin r m.code m.half) (sym m.pair_is) m.means,
            ap Some (there (2 * k) ∙ slot_is (2 * k) ∙ m.words.first),
            ap Some (there (2 * k + 1) ∙ slot_is (2 * k + 1) ∙ m.words.second),
          );
        }

    abbrev Code : ℕ → OWord
    Code j = OwnCode modules parts size s is aligned limits resolved linked holds p (offset_from 2 U.procs j)

    abbrev Data : OWord
    Data = OwnData modules parts size s is aligned limits resolved linked holds p

    called : (j : ℕ) (q : Procedure) → slice_get U.procs j ≡ Some q
        → IsCalled G linked Begin (Runs (target i j)) (Code j) Data
    called j q at = record {
      first = half_of p.component.closure (code_at (ranges_of p) (offset_from 2 U.procs j)) refl;
      second = half_of p.component.closure (data_cap (ranges_of p) (pos p.component.data_base)) refl;
      means = (
        p,
        offset_from 2 U.procs j,
        p.component.closure,
        record { home = h; what = q; what_is = at; offset = refl },
        trusted,
        trusted_pair G linked Begin p (offset_from 2 U.procs j) trusted,
      );
    }

    code_shown : (j : ℕ) (q : Procedure) → slice_get U.procs j ≡ Some q → q.shared ≡ true
        → IsPublic G (Code j)
    code_shown j q at sh r k ir e =
        let seals : p.component.closure ≡ r.component.closure = cc in
        let caps : code_at (ranges_of p) (offset_from 2 U.procs j) ≡ code_at (ranges_of r) k = cc in
        let same : p ≡ r = linked.one_closure p r trusted ir seals in
        let base = ap (λ (x : PartSeen). x.component.code_base) same in
        let at2 = ap (λ c. c.addr) caps in
        let at3 : p.component.code_base + offset_from 2 U.procs j ≡ r.component.code_base + k = cc in
        let x = export_of modules parts aligned (apart parts size s is) resolved i p h j q at in
        let y = export_at (offset_from 2 U.procs j) q in
        record {
          export = y;
          among = subst (λ (z : PartSeen). Contains z.component.exports y) same
              (listed_at p.component.exports x.0 y x.1);
          shared = sh;
          offset = omega (arith, base, at3);
        }

    data_shown : IsPublic G Data
    data_shown r k ir e =
        let c : data_cap (ranges_of p) (pos p.component.data_base) ≡ code_at (ranges_of r) k = cc in
        let bad = ap (λ c. c.perm) c in cc

    own_words : (st : Store) (mem : ℕ → OWord) (j : ℕ) (q : Procedure) (Rel : Pair → OWord → OWord → Type 0)
        → Stored st mem → slice_get U.procs j ≡ Some q → Rel (Runs (target i j)) (Code j) Data
        → DataPair p Rel mem (2 * (length U.imports + j)) (Runs (target i j))
    own_words st mem j q Rel kept at r =
        let lt = slice_get_within U.procs j q at in
        let w = own_pair modules parts size s is aligned limits resolved linked holds i p h j q at in
        record {
          first = Code j;
          second = Data;
          inside = w.inside;
          stands = kept.pairs i p h (2 * (length U.imports + j)) (omega (arith, lt)) ∙ w.first;
          stands_too = kept.pairs i p h (2 * (length U.imports + j) + 1) (omega (arith, lt)) ∙ w.second;
          is = r;
        }

    own_slot : (j : ℕ) (q : Procedure) → slice_get U.procs j ≡ Some q
        → (Some (WW.marks.own i j CodeHalf) ≡ Some (Code j)) × (Some (WW.marks.own i j DataHalf) ≡ Some Data)
    own_slot j q at =
        let w = own_pair modules parts size s is aligned limits resolved linked holds i p h j q at in
        let n : imports_in modules parts s (slice_get modules i) ≡ length U.imports =
        ap (imports_in modules parts s) h.source_is ∙ sym imported in
        let m = imports_in modules parts s (slice_get modules i) in
        let there : (d : ℕ) → where_there modules parts s (proc_in (home_part W i) j) (Slot d) ≡ Slot d =
        λ d. ap (λ o. where_there modules parts s o (Slot d)) (ap (λ o. proc_in o j) here ∙ at) in (
          ap Some (there (2 * (m + j))) ∙ ap (λ n. Some (Slot (2 * (n + j)))) n
              ∙ ap Some (slot_is (2 * (length U.imports + j)) ∙ w.first),
          ap Some (there (2 * (m + j) + 1)) ∙ ap (λ n. Some (Slot (2 * (n + j) + 1))) n
              ∙ ap Some (slot_is (2 * (length U.imports + j) + 1) ∙ w.second),
        )

    from_own : (st : Store) (mem : ℕ → OWord) (j : ℕ) (env : List Value) → Stored st mem
        → j < length h.source.procs
        → DataPair p (Slotted (WW.marks.own i j) (IsCalled G linked Begin)) mem (2 * (length U.imports + j))
        (pair_of W i env (Own j))
    from_own st mem j env kept lt =
        let c = owned in
        let x = there_is U.procs j (omega (arith, c, lt)) in
        own_words st mem j x.0 (Slotted (WW.marks.own i j) (IsCalled G linked Begin)) kept x.1
        (called j x.0 x.1, (own_slot j x.0 x.1).0, (own_slot j x.0 x.1).1)

    from_shared : (st : Store) (mem : ℕ → OWord) (j : ℕ) (env : List Value) → Stored st mem
        → j < length h.source.procs → shares h.source.procs j ≡ true
        → DataPair p (Slotted (WW.marks.own i j) (IsPair G linked Begin)) mem (2 * (length U.imports + j))
        (pair_of W i env (Own j))
    from_shared st mem j env kept lt sh =
        let c = owned in
        let x = there_is U.procs j (omega (arith, c, lt)) in
        let q : (x.0).shared ≡ true = sym (shared_is h.source 0 h.source.procs j x.0 x.1) ∙ sh in
        own_words st mem j x.0 (Slotted (WW.marks.own i j) (IsPair G linked Begin)) kept x.1 (
          record {
            called = called j x.0 x.1;
            shown = code_shown j x.0 x.1 q;
            shown_too = data_shown;
          },
          (own_slot j x.0 x.1).0,
          (own_slot j x.0 x.1).1,
        )

    pub part_in : PartIn WW G linked Begin Stored i p
    part_in = record {
      trusted = trusted;
      failing = failing;
      stack_is = stack_is;
      site_part = site_part;
      counted = counted;
      sites_in = within;
      apart = sites_apart;
      pair_words = pair_count U;
      imports = length U.imports;
      globals = globals;
      pairs = record {
        imported = length h.source.imports;
        owned = length h.source.procs;
        shared = shares h.source.procs;
        from_imports = from_imports;
        from_own = from_own;
        from_shared = from_shared;
      };
    }

    fitted : (j : ℕ) (q : Procedure) → slice_get U.procs j ≡ Some q → ProcedureFits (scope_of U) q
    fitted j q at = each_at (ProcedureFits (scope_of U)) U.procs j q part_is.procs.1 at

    stand : (j : ℕ) (q : Procedure) → slice_get U.procs j ≡ Some q
        → Stands WW G linked Begin Stored (target i j) p (offset_from 2 U.procs j)
    unfolding frame_of part_in globals
    stand j q at =
        let e = offset_from 2 U.procs j in
        let xs = proc_code (frame_of U q) q.callbacks (block_of q.body) in
        let spot : Spot = record {
          stack_base = U.stack;
          epilogue = e + before_epilogue (frame_of U q) q.callbacks (block_of q.body);
        } in
        let x = all_stand U sized j q at in
        let f = fitted j q at in
        record {
          part = part_in;
          what = q;
          what_is = ap (λ o. proc_in o j) here ∙ at;
          few = f.registers;
          room = f.frame;
          fits = fits h.source module_is no_faults j q at;
          stands = stand_of G linked p spot e xs (carries_same U p.component h.placed spot e xs x.carried);
          first = calls_from 0 U.procs j;
          sites = sited_same U p.component h.placed (calls_from 0 U.procs j) e xs x.sited;
          numbered = numbered h.source module_is no_faults j q at;
        }

  pub stands : (t : Target) (p : PartSeen) (e : ℕ) → Begin t p e → Stands WW G linked Begin Stored t p e
  stands t p e b = subst (Stands WW G linked Begin Stored t p) (sym b.offset)
      (stand t.home p b.home t.proc b.what b.what_is)
