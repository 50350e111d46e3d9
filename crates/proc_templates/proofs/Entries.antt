-- Where entries, sites and declared rows of the component stand.
use Rattle.std.proofs.lemmas.Bool.{and_parts}
use Rattle.std.proofs.Common.{◌≡◌, ℕ, ◌+◌, ◌-◌, Bool, true, false, List, [], ◌∷◌, ◌++◌, length, map, Some}
use Rattle.std.proofs.Common.{None, refl, sym, ap, ◌∙◌}
use Rattle.std.specs.Prelude.{◌||◌, ◌==◌, if◌then◌else◌, option_map}
use Rattle.std.specs.List.{list_all, list_any, find}
use Rattle.component_file.specs.declared.component.Export.{Export}
use Rattle.component_file.specs.declared.component.KindRow.{KindRow}
use Rattle.component_file.specs.Limits.{name_lt}
use Rattle.lcm_isa.specs.declared.Reg.TheVariants.{A0}
use Rattle.proc_program.specs.declared.program.Program.{Program}
use Rattle.proc_program.specs.declared.program.Procedure.{Procedure}
use Rattle.proc_program.specs.Program.{Exp, Statement, Set, SetAt, Do, If, While, Return, Halt, Block}
use Rattle.proc_program.specs.Program.{no_steps, step}
use Rattle.proc_program.specs.Limits.{registers_of}
use Rattle.proc_program.specs.StepView.{block_of}
use Rattle.call_sequence.specs.Places.{begins_entry, begins_site, declared}
use Rattle.proc_templates.specs.Items.{Spot, Item, does, guards, goes, goes_if, finishes, label, site, entry}
use Rattle.proc_templates.specs.Items.{leaves, Laid, put, lay, zero_of}
use Rattle.proc_templates.specs.declared.FrameShape.{FrameShape}
use Rattle.proc_templates.specs.Templates.{code, store_var, step_code, block_code, if_code, check_params}
use Rattle.proc_templates.specs.Templates.{pushed, push, wipe, epilogue, block_words}
use Rattle.proc_templates.specs.Compiled.{frame_of, size_of_proc, head_of, lay_proc, lay_procs, laid_of}
use Rattle.proc_templates.specs.Compiled.{label_row, row_at_label, export_into, exports_from, exports_of}
use Rattle.proc_templates.specs.Compiled.{component_of}
use Rattle.proc_templates.specs.Free.{is_free, ends_or_goes, is_guarded}
use Rattle.proc_templates.proofs.Frees.{AllFree, code_free, store_var_free, params_free, push_free, wipe_free}
use Rattle.proc_templates.proofs.Procs.{pushed_low}
use Rattle.proc_templates.proofs.Laying.{has, or_joined, or_false, any-append, Rest}
use Rattle.proc_templates.proofs.Whole.{AllReady, spot_of, proc_laid, laid-length}

-- no entry begins with it
abbrev is_inner : Item → Bool
is_inner entry = false
is_inner _ = true

abbrev AllInner : List Item → Type 0
AllInner xs = list_all is_inner xs ≡ true

inner_both : (a b : List Item) → AllInner a → AllInner b → AllInner (a ++ b)
inner_both [] b x y = y
inner_both (i ∷ a) b x y = rw ((and_parts (is_inner i) (list_all is_inner a) x).0)
    (inner_both a b ((and_parts (is_inner i) (list_all is_inner a) x).1) y)

free_inner : (xs : List Item) → AllFree xs → AllInner xs
unfolding is_free
free_inner [] e = refl
free_inner (does i ∷ xs) e = free_inner xs ((and_parts (ends_or_goes i) (list_all is_free xs) e).1)
free_inner (guards is ∷ xs) e = free_inner xs ((and_parts (list_all is_guarded is) (list_all is_free xs) e).1)
free_inner (goes far ∷ xs) e = cc
free_inner (goes_if far r ∷ xs) e = cc
free_inner (finishes ∷ xs) e = cc
free_inner (label ∷ xs) e = free_inner xs e
free_inner (site ∷ xs) e = free_inner xs e
free_inner (entry ∷ xs) e = cc
free_inner (leaves ∷ xs) e = cc

code_inner : (f : FrameShape) (e : Exp) (t : ℕ) → AllInner (code f t e)
code_inner f e t = free_inner (code f t e) (code_free f e t)

if_inner : (cs bs ds : List Item) (n k : ℕ) → AllInner cs → AllInner bs → AllInner ds
    → AllInner (if_code cs bs n ds k)
if_inner cs bs ds n k c b d = inner_both cs _ c (inner_both bs _ b (inner_both ds _ d refl))

mutual
  stmt_inner : (f : FrameShape) (s : Statement) → AllInner (step_code f s)
  stmt_inner f (Set x e) = inner_both (code f f.temps e) _ (code_inner f e f.temps)
      (free_inner (store_var f x) (store_var_free f x))
  stmt_inner f (SetAt x i e) = inner_both (code f f.temps i) _ (code_inner f i f.temps)
      (inner_both (code f (f.temps + 1) e) _ (code_inner f e (f.temps + 1)) refl)
  stmt_inner f (Do e) = code_inner f e f.temps
  stmt_inner f (If k b d) = if_inner (code f f.temps k) (block_code f b) (block_code f d) (block_words b)
      (block_words d) (code_inner f k f.temps) (block_inner f b) (block_inner f d)
  stmt_inner f (While k b) = inner_both (code f f.temps k) _ (code_inner f k f.temps)
      (inner_both (block_code f b) _ (block_inner f b) refl)
  stmt_inner f (Return e) = inner_both (code f f.temps e) _ (code_inner f e f.temps) refl
  stmt_inner f (Halt e) = inner_both (code f f.temps e) _ (code_inner f e f.temps) refl

  block_inner : (f : FrameShape) (b : Block) → AllInner (block_code f b)
  block_inner f no_steps = refl
  block_inner f (step s b) = inner_both (step_code f s) (block_code f b) (stmt_inner f s) (block_inner f b)

-- what stands after an entry
abbrev pub behind_entry : FrameShape → List Bool → Block → List Item
behind_entry f params body =
    check_params 0 params ++ (push (pushed (registers_of params) f.words)
    ++ (block_code f body ++ (does (zero_of A0) ∷ label ∷ epilogue f.words)))

inner_proc : (f : FrameShape) (params : List Bool) (body : Block) → AllInner (behind_entry f params body)
inner_proc f params body =
    inner_both (check_params 0 params) _ (free_inner (check_params 0 params) (params_free params 0))
    (inner_both (push (pushed (registers_of params) f.words)) _
    (free_inner (push (pushed (registers_of params) f.words))
    (push_free (pushed (registers_of params) f.words) (pushed_low (registers_of params) f.words)))
    (inner_both (block_code f body) _ (block_inner f body)
    (inner_both (wipe (f.words - 2)) _ (free_inner (wipe (f.words - 2)) (wipe_free (f.words - 2))) refl)))

entries_kept : (spot : Spot) (xs : List Item) (l : Laid) → AllInner xs → (lay spot l xs).entries ≡ l.entries
unfolding put
entries_kept spot [] l e = refl
entries_kept spot (does i ∷ xs) l e = entries_kept spot xs (put spot l (does i)) e
entries_kept spot (guards is ∷ xs) l e = entries_kept spot xs (put spot l (guards is)) e
entries_kept spot (goes far ∷ xs) l e = entries_kept spot xs (put spot l (goes far)) e
entries_kept spot (goes_if far r ∷ xs) l e = entries_kept spot xs (put spot l (goes_if far r)) e
entries_kept spot (finishes ∷ xs) l e = entries_kept spot xs (put spot l finishes) e
entries_kept spot (label ∷ xs) l e = entries_kept spot xs (put spot l label) e
entries_kept spot (site ∷ xs) l e = entries_kept spot xs (put spot l site) e
entries_kept spot (entry ∷ xs) l e = cc
entries_kept spot (leaves ∷ xs) l e = entries_kept spot xs (put spot l leaves) e

pub entries_proc : (m : Program) (l : Laid) (p : Procedure)
    → (lay_proc m l p).entries ≡ l.entries ++ (length l.code ∷ [])
unfolding put
entries_proc m l p =
    let f = frame_of m p in
    ap (λ (x : Laid). x.entries) (proc_laid m l p)
    ∙ entries_kept (spot_of m l p) (behind_entry f p.callbacks (block_of p.body))
    (put (spot_of m l p) l entry) (inner_proc f p.callbacks (block_of p.body))

pub any_into : (q : Export → Bool) (e : Export) (es : List Export)
    → list_any q (export_into e es) ≡ (q e || list_any q es)
any_into q e [] = refl
any_into q e (x ∷ xs) = by (name_lt e.name x.name) (any_into q e xs)
  where
    swapped : (a b d : Bool) → (b || (a || d)) ≡ (a || (b || d))
    swapped true true d = refl
    swapped true false d = refl
    swapped false true d = refl
    swapped false false d = refl

    by : (t : Bool) → list_any q (export_into e xs) ≡ (q e || list_any q xs)
        → list_any q (if t then e ∷ x ∷ xs else x ∷ export_into e xs) ≡ (q e || (q x || list_any q xs))
    by true h = refl
    by false h = ap (λ z. q x || z) h ∙ swapped (q e) (q x) (list_any q xs)

pub entries_are : (m : Program) (ps : List Procedure) (l : Laid) (x : ℕ) → AllReady m ps
    → (has l.entries x || list_any (λ e. e.offset == x) (exports_from (length l.code) ps)) ≡ has
    (lay_procs m l ps).entries x
entries_are m [] l x r = or_false (has l.entries x)
entries_are m (p ∷ ps) l x r =
    let o = length l.code in
    let q = λ (e : Export). (e.offset == x) in
    let next = exports_from (o + size_of_proc p) ps in
    ap (λ z. has l.entries x || z) (any_into q (record { name = p.name; offset = o; shared = p.shared }) next)
    ∙ or_joined (has l.entries x) (o == x) (list_any q next)
    ∙ ap (λ z. z || list_any q next)
    (sym (ap (λ es. has es x) (entries_proc m l p) ∙ any-append (λ y. y == x) l.entries (o ∷ [])
    ∙ ap (λ z. has l.entries x || z) (or_false (o == x))))
    ∙ ap (λ n. has (lay_proc m l p).entries x || list_any q (exports_from n ps))
    (sym (laid-length m l p r.0))
    ∙ entries_are m ps (lay_proc m l p) x r.1

pub entries_whole : (m : Program) → AllReady m m.procs → (x : ℕ)
    → begins_entry (component_of m) x ≡ has (laid_of m).entries x
unfolding laid_of component_of exports_of begins_entry
entries_whole m r x = entries_are m m.procs (head_of m) x r

pub rows_are : (labels : List ℕ) (x : ℕ)
    → option_map (λ (r : KindRow). r.kinds) (find (λ r. r.offset == x) (map row_at_label labels)) ≡
    (if has labels x then Some label_row else None)
rows_are [] x = refl
rows_are (o ∷ os) x = by (o == x) (rows_are os x)
  where
    by : (t : Bool) → option_map (λ (r : KindRow). r.kinds)
        (find (λ r. r.offset == x) (map row_at_label os)) ≡ (if has os x then Some label_row else None)
        → option_map (λ (r : KindRow). r.kinds)
        (if t then Some (row_at_label o) else find (λ r. r.offset == x) (map row_at_label os)) ≡
        (if (t || has os x) then Some label_row else None)
    by true h = refl
    by false h = h

pub rest_whole : (m : Program) → AllReady m m.procs → Rest (laid_of m) (component_of m)
unfolding laid_of component_of exports_of begins_entry begins_site declared
rest_whole m r = record {
  code = λ j w e. e;
  sites = λ x lt. refl;
  entries = λ x lt. entries_are m m.procs (head_of m) x r;
  labels = λ x lt. rows_are (lay_procs m (head_of m) m.procs).labels x;
  marked = λ x h. rows_are (lay_procs m (head_of m) m.procs).labels x
      ∙ ap (λ t. if t then Some label_row else None) h;
}
