-- A component that stands wherever it was placed has the code, the data and the lists of the compiled one.
use Rattle.std.proofs.Common.{◌≡◌, ℕ, zero, suc, ◌+◌, ℤ, pos, List, [], ◌∷◌, ◌++◌, length, map, Option, Some}
use Rattle.std.proofs.Common.{None, refl, ap, ◌∙◌, true, inl, inr}
use Rattle.std.specs.Prelude.{slice_get, replicate, option_map, ◌==◌, nat_lt, find}
use Rattle.std.specs.List.{list_any}
use Rattle.std.proofs.lemmas.List.{length-map}
use Rattle.std.proofs.lemmas.Option.{slice_get-map}
use Rattle.cap_words.specs.declared.Word.{Word}
use Rattle.cap_words.specs.declared.Word.TheVariants.{Int, Mem, Seal, Sealed}
use Rattle.component_file.specs.declared.component.ComponentFields.{ComponentFields}
use Rattle.component_file.specs.declared.component.Export.{Export}
use Rattle.call_sequence.specs.Places.{begins_entry, begins_site, declared}
use Rattle.call_sequence.specs.Walk.{instr_at, instr_in}
use Rattle.linked_starts.specs.Placing.{moved_by, moved_word}
use Rattle.proc_program.specs.declared.program.Program.{Program}
use Rattle.proc_templates.specs.Items.{FAIL_AT, Spot, Item, does, guards, goes, goes_if, finishes, label}
use Rattle.proc_templates.specs.Items.{site, entry, leaves, zero_of, wiped, leading}
use Rattle.proc_templates.specs.Compiled.{component_of, first_data, imports_of, exports_of, int_word}
use Rattle.proc_templates.specs.Compiled.{pair_count}
use Rattle.lcm_isa.specs.declared.Instr.{Instr}
use Rattle.component_file.specs.declared.component.KindRow.{KindRow}
use Rattle.call_sequence.specs.Sequences.{distance}
use Rattle.lcm_isa.specs.declared.Reg.TheVariants.{Pc, Rcode, Rdata, T2}
use Rattle.lcm_isa.specs.declared.Operand.TheVariants.{R, Imm}
use Rattle.lcm_isa.specs.declared.Instr.TheVariants.{Move, Cca, Jmp, Jnz, Xjmp}
use Rattle.proc_templates.specs.Free.{behind}
use Rattle.proc_templates.proofs.Offers.{Stands, AtMostLabel, Run, Starts, Here, Carries}
use Rattle.source_laws.specs.Sites.{next_count, SiteAt, SitesAt}

-- the component of a program, but for the numbers at which it stands
pub record IsPlaced (m : Program) (c : ComponentFields) : Type 0 where
  pub name : c.name ≡ m.name
  pub stack : c.stack_base ≡ m.stack
  pub code_length : length c.code ≡ length (component_of m).code
  pub instrs : (o : ℕ) → instr_at c o ≡ instr_at (component_of m) o
  pub data_is : c.data_words ≡ first_data m
  pub imports : c.imports ≡ imports_of m
  pub exports : c.exports ≡ exports_of m
  pub sites : c.sites ≡ (component_of m).sites
  pub rows : c.rows ≡ (component_of m).rows
  pub fails : c.fail_at ≡ Some FAIL_AT

instr_same : (m : _) (w : Option Word) → instr_in (option_map (moved_word m) w) ≡ instr_in w
instr_same m None = refl
instr_same m (Some (Int n)) = refl
instr_same m (Some (Mem c)) = refl
instr_same m (Some (Seal s)) = refl
instr_same m (Some (Sealed o x)) = refl

ints_same : (m : _) (zs : List ℤ) → map (moved_word m) (map int_word zs) ≡ map int_word zs
ints_same m [] = refl
ints_same m (z ∷ zs) = ap (λ ws. Int z ∷ ws) (ints_same m zs)

zeros_same : (m : _) (n : ℕ) (ws : List Word)
    → map (moved_word m) (replicate n (Int (pos 0)) ++ ws) ≡ replicate n (Int (pos 0)) ++ map (moved_word m)
    ws
zeros_same m zero ws = refl
zeros_same m (suc n) ws = ap (λ ws. Int (pos 0) ∷ ws) (zeros_same m n ws)

data_same : (v : _) (m : Program) → map (moved_word v) (first_data m) ≡ first_data m
unfolding first_data
data_same v m =
    zeros_same v (pair_count m) (map int_word m.globals)
    ∙ ap (λ ws. replicate (pair_count m) (Int (pos 0)) ++ ws) (ints_same v m.globals)

pub placed_at : (v : _) (m : Program) → IsPlaced m (moved_by v (component_of m))
unfolding component_of instr_at
placed_at None m = record {
  name = refl;
  stack = refl;
  code_length = refl;
  instrs = λ o. refl;
  data_is = refl;
  imports = refl;
  exports = refl;
  sites = refl;
  rows = refl;
  fails = refl;
}
placed_at (Some v) m = record {
  name = refl;
  stack = refl;
  code_length = length-map (component_of m).code (moved_word v);
  instrs = λ o. ap instr_in (slice_get-map (moved_word v) (component_of m).code o)
      ∙ instr_same v (slice_get (component_of m).code o);
  data_is = data_same v m;
  imports = refl;
  exports = refl;
  sites = refl;
  rows = refl;
  fails = refl;
}

module _ (m : Program) (c : ComponentFields) (is : IsPlaced m c) where
  pub entries_same : (o : ℕ) → begins_entry c o ≡ begins_entry (component_of m) o
  unfolding begins_entry component_of
  entries_same o = ap (λ (es : List Export). list_any (λ (e : Export). e.offset == o) es) is.exports

  pub sites_same : (o : ℕ) → begins_site c o ≡ begins_site (component_of m) o
  unfolding begins_site component_of
  sites_same o = ap (λ (xs : List ℕ). list_any (λ s. s == o) xs) is.sites

  pub stands_same : (o : ℕ) (i : _) → Stands (component_of m) o i → Stands c o i
  stands_same o i s = record {
    instr = is.instrs o ∙ s.instr;
    entry = entries_same o ∙ s.entry;
    site = sites_same o ∙ s.site;
  }

  -- ---- all of it stands

  rows_same : (o : ℕ) → declared c o ≡ declared (component_of m) o
  unfolding declared
  rows_same o = ap (λ (rs : List KindRow). option_map
      (λ (r : KindRow). r.kinds) (find (λ (r : KindRow). r.offset == o) rs)) is.rows

  label_same : (o : ℕ) → AtMostLabel (component_of m) o → AtMostLabel c o
  label_same o (inl e) = inl (rows_same o ∙ e)
  label_same o (inr e) = inr (rows_same o ∙ e)

  run_same : (o : ℕ) (is : List Instr) → Run (component_of m) o is → Run c o is
  run_same o [] h = tt
  run_same o (i ∷ is) h =
      (record { stands = stands_same o i h.0.stands; bare = rows_same o ∙ h.0.bare }, run_same (o + 1) is h.1)

  starts_same : (o : ℕ) (is : List Instr) → Starts (component_of m) o is → Starts c o is
  starts_same o [] h = tt
  starts_same o (i ∷ is) h = (
    record { stands = stands_same o i h.0.stands; label = label_same o h.0.label },
    run_same (o + 1) is h.1,
  )

  within_same : (o : ℕ) → nat_lt o (length (component_of m).code) ≡ true → nat_lt o (length c.code) ≡ true
  within_same o e = ap (nat_lt o) is.code_length ∙ e

  here_same : (spot : Spot) (o : ℕ) (x : Item) → Here (component_of m) spot o x → Here c spot o x
  here_same spot o (does i) h = record { stands = stands_same o i h.stands; label = label_same o h.label }
  here_same spot o (guards is) h =
      starts_same o (Move T2 (R Pc) ∷ Cca T2 (Imm (distance o FAIL_AT)) ∷ (is ++ (zero_of T2 ∷ []))) h
  here_same spot o (goes far) h = starts_same o (leading far (Jmp T2)) h
  here_same spot o (goes_if far r) h = starts_same o (leading far (Jnz T2 r)) h
  here_same spot o finishes h = starts_same o (leading (distance o spot.epilogue) (Jmp T2)) h
  here_same spot o label h = rows_same o ∙ h
  here_same spot o site h = record {
    within = within_same o h.within;
    entry = entries_same o ∙ h.entry;
    site = sites_same o ∙ h.site;
    label = label_same o h.label;
  }
  here_same spot o entry h = record { within = within_same o h.within; entry = entries_same o ∙ h.entry }
  here_same spot o leaves h = starts_same o (zero_of T2 ∷ (map zero_of wiped ++ (Xjmp Rcode Rdata ∷ []))) h

  pub carries_same : (spot : Spot) (o : ℕ) (xs : List Item) → Carries (component_of m) spot o xs
      → Carries c spot o xs
  carries_same spot o [] h = tt
  carries_same spot o (x ∷ xs) h = (here_same spot o x h.0, carries_same spot (behind o x) xs h.1)

  site_same : (j o : ℕ) (x : Item) → SiteAt (component_of m) j o x → SiteAt c j o x
  site_same j o (does i) h = tt
  site_same j o (guards is) h = tt
  site_same j o (goes far) h = tt
  site_same j o (goes_if far r) h = tt
  site_same j o finishes h = tt
  site_same j o label h = tt
  site_same j o site h =
      record {
        begins = sites_same o ∙ h.begins;
        listed = ap (λ (xs : List ℕ). slice_get xs j) is.sites
            ∙ h.listed;
      }
  site_same j o entry h = tt
  site_same j o leaves h = tt

  pub sited_same : (j o : ℕ) (xs : List Item) → SitesAt (component_of m) j o xs → SitesAt c j o xs
  sited_same j o [] h = tt
  sited_same j o (x ∷ xs) h = (site_same j o x h.0, sited_same (next_count j x) (behind o x) xs h.1)
