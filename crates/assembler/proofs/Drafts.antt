-- The lines of a text keep the limits.
use Rattle.std.proofs.Common.{◌≡◌, ℕ, ◌<◌, ◌≤◌, zero, suc, Bool, true, false, cond, List, [], ◌∷◌, ◌++◌}
use Rattle.std.proofs.Common.{length, Option, Some, None, Result, Ok, Err, refl, sym, ap, ◌∙◌, subst, arith}
use Rattle.std.proofs.Common.{append-nil, ◌⊎◌, inl, inr}
use Rattle.std.specs.Prelude.{IsTrue, nat_lt, nat_le, ◌==◌, not, ◌&&◌, ◌||◌, is_some, pos}
use Rattle.std.proofs.lemmas.Bool.Decides.{nat_tests}
use Rattle.std.proofs.lemmas.List.{length_push}
use Rattle.std.proofs.lemmas.Bool.{and_parts}
use Rattle.cap_words.specs.declared.Word.{Word}
use Rattle.cap_words.specs.declared.Word.TheVariants.{Int}
use Rattle.lcm_isa.specs.declared.Instr.{Instr}
use Rattle.lcm_isa.specs.Numbers.{number_of}
use Rattle.component_file.specs.declared.TheConstants.{MOST_WORDS}
use Rattle.cap_words.specs.Names.{is_name}
use Rattle.assembler.specs.declared.labels.Section.{Section as SectionOf}
use Rattle.assembler.specs.declared.labels.Section.TheVariants as section
use Rattle.assembler.specs.declared.labels.Label.{Label}
use Rattle.assembler.specs.Labels.{label_of}
use Rattle.assembler.specs.References.{Reference, AreReady}
use Rattle.assembler.proofs.LabelTables.{one_more}
use Rattle.asm_fields.specs.declared.directives.ItemKind.{ItemKind}
use Rattle.asm_fields.specs.declared.directives.ItemKind.TheVariants as item
use Rattle.asm_fields.specs.declared.directives.WordKind.{WordKind}
use Rattle.asm_fields.specs.declared.directives.Directive.{Directive}
use Rattle.asm_fields.specs.declared.directives.Directive.TheVariants.{Of, Word as WordOf}
use Rattle.asm_fields.specs.declared.fault.AsmFault.{AsmFault}
use Rattle.asm_fields.specs.declared.fault.AsmFault.TheVariants.{Unknown, Operand, LabelTwice, Section}
use Rattle.readers.specs.Readers.{◌>>=◌, unless_none, holds}
use Rattle.asm_fields.specs.Fields.{Input, place, is_empty, is_labelled, name_at, proper_name_at, sign_at}
use Rattle.asm_fields.specs.Fields.{colon, end_at}
use Rattle.asm_fields.specs.Instrs.{Last, Plain, Code as CodeLabel, Data as DataLabel, row_named}
use Rattle.assembler.specs.declared.header.TextHeader.{TextHeader}
use Rattle.assembler.specs.Order.{rank, rank_of, repeats, furthest, may_follow, section_of}
use Rattle.assembler.specs.Tables.{has_room}
use Rattle.assembler.specs.Draft.{Draft, nothing, words_in, has_word_room, with_word, may_end, may_end_in}
use Rattle.assembler.specs.Draft.{with_label, reference_of, with_instr}
use Rattle.assembler.specs.Operands.{seals_of, operands_in}
use Rattle.assembler.specs.Lines.{label_in, label_if, is_code, instr_in, word_in, may_stand, item_in}
use Rattle.assembler.specs.Lines.{directive_from, directed, directive_in, behind_label, line_in}
use Rattle.assembler.specs.Whole.{goes_to, line_or_none, drafted}
use Rattle.assembler.proofs.Gets.{Gets, Any, gets_any, gets_then, gets_done, gets_holds, gets_some, gets_if}
use Rattle.assembler.proofs.Gets.{gets_looking}
use Rattle.assembler.proofs.Chains.{each_onto}
use Rattle.assembler.proofs.Words.{IsPartWord, line_fits, IsLine, operands_fit, instr_fits}
use Rattle.assembler.proofs.Kept.{AreWords, HeaderKept, IsDraft, ready_longer, ready_instr}
use Rattle.assembler.proofs.Items.{name_is, address_is, stretch_is, import_is, export_is, site_is, fail_is}
use Rattle.assembler.proofs.Items.{literal_is, row_is}

-- ---- labels

label_kept : (name : List ℕ) (s : SectionOf) (d : Draft) → IsDraft d → has_word_room s d ≡ true
    → IsDraft (with_label name s d)
label_kept name s d k room =
    let l : Label = record { section = s; offset = length (words_in s d) } in
    let lt : length (words_in s d) < 65536 = grind (arith, nat_tests, room) in
    record {
      words = record {
        labels_within = one_more name l d.labels k.words.labels_within lt;
        ready = k.words.ready;
        code_fits = k.words.code_fits;
        data_fits = k.words.data_fits;
      };
      header = k.header;
      tables = k.tables;
      came = k.came;
    }

label_is : (d : Draft) → IsDraft d → Gets IsDraft (label_in d)
unfolding label_in
label_is d k =
    gets_then Any IsDraft _ _ (gets_any place) (λ at _.
    gets_then Any IsDraft _ _ (gets_any proper_name_at) (λ name _.
    gets_then Any IsDraft _ _ (gets_any (sign_at colon)) (λ _ _.
    gets_then Any IsDraft _ _ (gets_any (unless_none (Section at) (section_of d.last))) (λ s _.
    gets_then Any IsDraft _ _ (gets_any (holds (not (is_some (label_of name d.labels))) (LabelTwice at)))
    (λ _ _.
    gets_then _ IsDraft _ _ (gets_holds (has_word_room s d) (Section at)) (λ _ room.
    gets_then Any IsDraft _ _ (gets_any place) (λ end _.
    gets_then Any IsDraft _ _ (gets_any (λ i. Ok (is_empty i, i))) (λ none _.
    gets_then Any IsDraft _ _ (gets_any (holds (not none) (Operand end))) (λ _ _.
    gets_done IsDraft (with_label name s d) (label_kept name s d k room))))))))))

label_if_is : (labelled : Bool) (d : Draft) → IsDraft d → Gets IsDraft (label_if labelled d)
label_if_is labelled d k = gets_if IsDraft labelled _ _ (λ _. label_is d k) (λ _. gets_done IsDraft d k)

-- ---- words

one_word : (words : List Word) (w : Word) → AreWords words → nat_lt (length words) MOST_WORDS ≡ true
    → IsPartWord w → AreWords (words ++ w ∷ [])
one_word words w kept room fits = (
  let n = length_push words w in grind (arith, nat_tests, n, room),
  each_onto IsPartWord None words w kept.1 fits,
)

some_word : (words : List Word) (w : Word) → 1 ≤ length (words ++ w ∷ [])
some_word words w = let n = length_push words w in omega (arith, n)

word_kept : (s : SectionOf) (w : Word) (d : Draft) → IsDraft d → has_word_room s d ≡ true → IsPartWord w
    → IsDraft (with_word s w d)
word_kept section.Code w d k room fits = record {
  words = record {
    labels_within = k.words.labels_within;
    ready = ready_longer 0 d.code w d.references k.words.ready;
    code_fits = one_word d.code w k.words.code_fits room fits;
    data_fits = k.words.data_fits;
  };
  header = k.header;
  tables = k.tables;
  came = record {
    name_came = k.came.name_came;
    code_came = λ _. some_word d.code w;
    data_came = k.came.data_came;
  };
}
word_kept section.Data w d k room fits = record {
  words = record {
    labels_within = k.words.labels_within;
    ready = k.words.ready;
    code_fits = k.words.code_fits;
    data_fits = one_word d.data_words w k.words.data_fits room fits;
  };
  header = k.header;
  tables = k.tables;
  came = record {
    name_came = k.came.name_came;
    code_came = k.came.code_came;
    data_came = λ _.
        some_word d.data_words w;
  };
}

word_is : (at : ℕ) (kind : WordKind) (d : Draft) → IsDraft d → Gets IsDraft (word_in at kind d)
unfolding word_in
word_is at kind d k =
    gets_then Any IsDraft _ _ (gets_any (unless_none (Section at) (section_of d.last))) (λ s _.
    gets_then _ IsDraft _ _ (gets_holds (has_word_room s d) (Section at)) (λ _ room.
    gets_then _ IsDraft _ _ (line_fits kind) (λ w fits.
    gets_done IsDraft (with_word s w d) (word_kept s w d k room fits))))

refers_ready : (code : List Word) (references : List Reference) (i : Instr) (n : Last) → IsLine (i, n)
    → AreReady 0 code references
    → AreReady 0 (code ++ Int (pos (number_of i)) ∷ []) (references ++ reference_of (length code) n)
refers_ready code references i (Plain o) line ready =
    subst (λ (l : List _). AreReady 0 (code ++ Int (pos (number_of i)) ∷ []) l)
    (sym (append-nil references))
    (ready_longer 0 code (Int (pos (number_of i))) references ready)
refers_ready code references i (CodeLabel at name) line ready = ready_instr code references i _ line.0
    (line.1 tt) refl ready
refers_ready code references i (DataLabel at name) line ready = ready_instr code references i _ line.0
    (line.1 tt) refl ready

instr_kept : (i : Instr) (n : Last) (d : Draft) → IsDraft d → has_word_room section.Code d ≡ true
    → IsLine (i, n) → IsDraft (with_instr i n d)
instr_kept i n d k room line = record {
  words = record {
    labels_within = k.words.labels_within;
    ready = refers_ready d.code d.references i n line k.words.ready;
    code_fits = one_word d.code (Int (pos (number_of i))) k.words.code_fits room (instr_fits i line.0);
    data_fits = k.words.data_fits;
  };
  header = k.header;
  tables = k.tables;
  came = record {
    name_came = k.came.name_came;
    code_came = λ _. some_word d.code (Int (pos (number_of i)));
    data_came = k.came.data_came;
  };
}

instr_is : (d : Draft) → IsDraft d → Gets IsDraft (instr_in d)
unfolding instr_in
instr_is d k =
    gets_then Any IsDraft _ _ (gets_any place) (λ at _.
    gets_then Any IsDraft _ _ (gets_any name_at) (λ name _.
    gets_then _ IsDraft _ _ (gets_some (Unknown at) (row_named name)) (λ row is.
    gets_then _ IsDraft _ _
    (gets_holds (is_code (section_of d.last) && has_word_room section.Code d) (Section at)) (λ _ room.
    gets_then _ IsDraft _ _ (operands_fit at name row is) (λ x line.
    gets_done IsDraft (with_instr x.0 x.1 d)
    (instr_kept x.0 x.1 d k
    (and_parts (is_code (section_of d.last)) (has_word_room section.Code d) room).1 line))))))

-- ---- the order of items

-- the items that came end with the code, or the data, where the next item is not before that
code_last : (last : Option ItemKind) → rank item.Code ≤ rank_of last
    → (section_of last ≡ Some section.Code) ⊎ (rank item.Data ≤ rank_of last)
code_last None le = absurd (omega (arith, le))
code_last (Some item.Name) le = absurd (omega (arith, le))
code_last (Some item.Stack) le = absurd (omega (arith, le))
code_last (Some item.Closure) le = absurd (omega (arith, le))
code_last (Some item.Movable) le = absurd (omega (arith, le))
code_last (Some item.Seals) le = absurd (omega (arith, le))
code_last (Some item.Linear) le = absurd (omega (arith, le))
code_last (Some item.Code) le = inl refl
code_last (Some item.Data) le = inr (omega arith)
code_last (Some item.Import) le = inr (omega arith)
code_last (Some item.Export) le = inr (omega arith)
code_last (Some item.Site) le = inr (omega arith)
code_last (Some item.Fail) le = inr (omega arith)
code_last (Some item.Literal) le = inr (omega arith)
code_last (Some item.Row) le = inr (omega arith)

data_last : (last : Option ItemKind) → rank item.Data ≤ rank_of last
    → (section_of last ≡ Some section.Data) ⊎ (rank item.Import ≤ rank_of last)
data_last None le = absurd (omega (arith, le))
data_last (Some item.Name) le = absurd (omega (arith, le))
data_last (Some item.Stack) le = absurd (omega (arith, le))
data_last (Some item.Closure) le = absurd (omega (arith, le))
data_last (Some item.Movable) le = absurd (omega (arith, le))
data_last (Some item.Seals) le = absurd (omega (arith, le))
data_last (Some item.Linear) le = absurd (omega (arith, le))
data_last (Some item.Code) le = absurd (omega (arith, le))
data_last (Some item.Data) le = inl refl
data_last (Some item.Import) le = inr (omega arith)
data_last (Some item.Export) le = inr (omega arith)
data_last (Some item.Site) le = inr (omega arith)
data_last (Some item.Fail) le = inr (omega arith)
data_last (Some item.Literal) le = inr (omega arith)
data_last (Some item.Row) le = inr (omega arith)

-- how far one may go from a rank
far_from_1 : (r n : ℕ) → n ≤ furthest r → 2 ≤ n → 1 ≤ r
far_from_1 zero n le far = absurd (omega (arith, le, far))
far_from_1 (suc r) n le far = omega arith

far_from_code : (r n : ℕ) → n ≤ furthest r → rank item.Data ≤ n → rank item.Code ≤ r
far_from_code r n le far = grind (arith, nat_tests)

far_from_data : (r n : ℕ) → n ≤ furthest r → rank item.Import ≤ n → rank item.Data ≤ r
far_from_data r n le far = grind (arith, nat_tests)

not_none : (words : List Word) → not (length words == 0) ≡ true → 1 ≤ length words
not_none words h = grind (arith, nat_tests, h)

code_some : (last : Option ItemKind) (d : Draft) → (rank item.Data ≤ rank_of last → 1 ≤ length d.code)
    → may_end_in (section_of last) d ≡ true → rank item.Code ≤ rank_of last → 1 ≤ length d.code
code_some last d came ends le = by_last (code_last last le)
  where
    by_last : (section_of last ≡ Some section.Code) ⊎ (rank item.Data ≤ rank_of last) → 1 ≤ length d.code
    by_last (inl is) = not_none d.code (ap (λ o. may_end_in o d) (sym is) ∙ ends)
    by_last (inr past) = came past

data_some : (last : Option ItemKind) (d : Draft) → (rank item.Import ≤ rank_of last → 1 ≤ length d.data_words)
    → may_end_in (section_of last) d ≡ true → rank item.Data ≤ rank_of last → 1 ≤ length d.data_words
data_some last d came ends le = by_last (data_last last le)
  where
    by_last : (section_of last ≡ Some section.Data) ⊎ (rank item.Import ≤ rank_of last)
        → 1 ≤ length d.data_words
    by_last (inl is) = not_none d.data_words (ap (λ o. may_end_in o d) (sym is) ∙ ends)
    by_last (inr past) = came past

-- an item begins
abbrev begun : ItemKind → Draft → Draft
begun i d = record d { last = Some i }

others_begun : (labelled : Bool) (i : ItemKind) (d : Draft) → IsDraft d → may_stand labelled i d ≡ true
    → 2 ≤ rank i → IsDraft (begun i d)
others_begun labelled i d k stands behind =
    let follows = may_follow d.last i in
    let first = and_parts (not labelled && follows && may_end d) (has_room i d.tables) stands in
    let second = and_parts (not labelled && follows) (may_end d) first.0 in
    let third = and_parts (not labelled) follows second.0 in
    let near : IsTrue (nat_le (rank i) (furthest (rank_of d.last))) =
    (and_parts (nat_lt (rank_of d.last) (rank i) || ((rank i == rank_of d.last) && repeats i))
    (nat_le (rank i) (furthest (rank_of d.last))) third.1).1 in
    let le : rank i ≤ furthest (rank_of d.last) = grind (arith, nat_tests, near) in
    record {
      words = k.words;
      header = k.header;
      tables = k.tables;
      came = record {
        name_came = λ _. k.came.name_came (far_from_1 (rank_of d.last) (rank i) le behind);
        code_came = λ far. code_some d.last d k.came.code_came second.1
            (far_from_code (rank_of d.last) (rank i) le far);
        data_came = λ far. data_some d.last d k.came.data_came second.1
            (far_from_data (rank_of d.last) (rank i) le far);
      };
    }

room_in : (labelled : Bool) (i : ItemKind) (d : Draft) → may_stand labelled i d ≡ true
    → has_room i d.tables ≡ true
room_in labelled i d stands =
    (and_parts (not labelled && may_follow d.last i && may_end d) (has_room i d.tables) stands).1

-- ---- what items say

other_header : (d : Draft) (h : TextHeader) → IsDraft d → HeaderKept h → h.name ≡ d.header.name
    → IsDraft (record d { header = h })
other_header d h k kept same = record {
  words = k.words;
  header = kept;
  tables = k.tables;
  came = record {
    name_came = λ le. subst (λ n. IsTrue (is_name n)) (sym same) (k.came.name_came le);
    code_came = k.came.code_came;
    data_came = k.came.data_came;
  };
}

operands_are : (at : ℕ) (i : ItemKind) (d : Draft) → 2 ≤ rank i → IsDraft d → has_room i d.tables ≡ true
    → Gets IsDraft (operands_in at i d)
operands_are at item.Name d le k room = absurd (omega (arith, le))
operands_are at item.Stack d le k room =
    gets_then _ IsDraft _ _ address_is
    (λ n fits. gets_done IsDraft _ (other_header d (record d.header { stack_base = n }) k (record {
      stack_base = fits;
      closure = k.header.closure;
      seals = k.header.seals;
      linear = k.header.linear;
      code_base = k.header.code_base;
      data_base = k.header.data_base;
    }) refl))
operands_are at item.Closure d le k room =
    gets_then _ IsDraft _ _ address_is
    (λ n fits. gets_done IsDraft _ (other_header d (record d.header { closure = n }) k (record {
      stack_base = k.header.stack_base;
      closure = fits;
      seals = k.header.seals;
      linear = k.header.linear;
      code_base = k.header.code_base;
      data_base = k.header.data_base;
    }) refl))
operands_are at item.Movable d le k room =
    gets_done IsDraft _ (other_header d (record d.header { movable = true }) k (record {
      stack_base = k.header.stack_base;
      closure = k.header.closure;
      seals = k.header.seals;
      linear = k.header.linear;
      code_base = k.header.code_base;
      data_base = k.header.data_base;
    }) refl)
operands_are at item.Seals d le k room =
    gets_then _ IsDraft _ _ stretch_is
    (λ s fits. gets_done IsDraft _ (other_header d (record d.header { seals = seals_of s }) k (record {
      stack_base = k.header.stack_base;
      closure = k.header.closure;
      seals = fits;
      linear = k.header.linear;
      code_base = k.header.code_base;
      data_base = k.header.data_base;
    }) refl))
operands_are at item.Linear d le k room =
    gets_then _ IsDraft _ _ stretch_is
    (λ s fits. gets_done IsDraft _ (other_header d (record d.header { linear = s }) k (record {
      stack_base = k.header.stack_base;
      closure = k.header.closure;
      seals = k.header.seals;
      linear = fits;
      code_base = k.header.code_base;
      data_base = k.header.data_base;
    }) refl))
operands_are at item.Code d le k room =
    gets_then _ IsDraft _ _ address_is
    (λ n fits. gets_done IsDraft _ (other_header d (record d.header { code_base = n }) k (record {
      stack_base = k.header.stack_base;
      closure = k.header.closure;
      seals = k.header.seals;
      linear = k.header.linear;
      code_base = fits;
      data_base = k.header.data_base;
    }) refl))
operands_are at item.Data d le k room =
    gets_then _ IsDraft _ _ address_is
    (λ n fits. gets_done IsDraft _ (other_header d (record d.header { data_base = n }) k (record {
      stack_base = k.header.stack_base;
      closure = k.header.closure;
      seals = k.header.seals;
      linear = k.header.linear;
      code_base = k.header.code_base;
      data_base = fits;
    }) refl))
operands_are at item.Import d le k room = import_is at d k room
operands_are at item.Export d le k room = export_is at d k room
operands_are at item.Site d le k room = site_is at d k room
operands_are at item.Fail d le k room = fail_is d k
operands_are at item.Literal d le k room = literal_is d k
operands_are at item.Row d le k room = row_is at d k room

-- the name comes first
name_item : (at : ℕ) (d : Draft) → IsDraft d → Gets IsDraft (operands_in at item.Name (begun item.Name d))
name_item at d k =
    gets_then _ IsDraft _ _ name_is (λ name is. gets_done IsDraft _ (record {
      words = k.words;
      header = record {
        stack_base = k.header.stack_base;
        closure = k.header.closure;
        seals = k.header.seals;
        linear = k.header.linear;
        code_base = k.header.code_base;
        data_base = k.header.data_base;
      };
      tables = k.tables;
      came = record {
        name_came = λ _. is;
        code_came = λ le. absurd (omega (arith, le));
        data_came = λ le.
            absurd (omega (arith, le));
      };
    }))

name_or_other : (i : ItemKind) → (i ≡ item.Name) ⊎ (2 ≤ rank i)
name_or_other item.Name = inl refl
name_or_other item.Stack = inr (omega arith)
name_or_other item.Closure = inr (omega arith)
name_or_other item.Movable = inr (omega arith)
name_or_other item.Seals = inr (omega arith)
name_or_other item.Linear = inr (omega arith)
name_or_other item.Code = inr (omega arith)
name_or_other item.Data = inr (omega arith)
name_or_other item.Import = inr (omega arith)
name_or_other item.Export = inr (omega arith)
name_or_other item.Site = inr (omega arith)
name_or_other item.Fail = inr (omega arith)
name_or_other item.Literal = inr (omega arith)
name_or_other item.Row = inr (omega arith)

begins : (at : ℕ) (labelled : Bool) (i : ItemKind) (d : Draft) → IsDraft d → may_stand labelled i d ≡ true
    → Gets IsDraft (operands_in at i (begun i d))
begins at labelled i d k stands = by_item (name_or_other i)
  where
    by_item : (i ≡ item.Name) ⊎ (2 ≤ rank i) → Gets IsDraft (operands_in at i (begun i d))
    by_item (inl is) = subst (λ (j : ItemKind). Gets IsDraft (operands_in at j (begun j d))) (sym is)
        (name_item at d k)
    by_item (inr le) = operands_are at i (begun i d) le (others_begun labelled i d k stands le)
        (room_in labelled i d stands)

item_is : (at : ℕ) (labelled : Bool) (i : ItemKind) (d : Draft) → IsDraft d
    → Gets IsDraft (item_in at labelled i d)
unfolding item_in
item_is at labelled i d k =
    gets_then _ IsDraft _ _ (gets_holds (may_stand labelled i d) (Section at)) (λ _ stands.
    gets_then _ IsDraft _ _ (begins at labelled i d k stands) (λ new kept.
    gets_then Any IsDraft _ _ (gets_any end_at) (λ _ _.
    gets_done IsDraft new kept)))

-- ---- lines

directed_is : (at : ℕ) (labelled : Bool) (directive : Directive) (d : Draft) → IsDraft d
    → Gets IsDraft (directed at labelled directive d)
directed_is at labelled (WordOf kind) d k = word_is at kind d k
directed_is at labelled (Of i) d k = item_is at labelled i d k

directive_is : (labelled : Bool) (d : Draft) → IsDraft d → Gets IsDraft (directive_in labelled d)
unfolding directive_in
directive_is labelled d k =
    gets_then Any IsDraft _ _ (gets_any place) (λ at _.
    gets_then Any IsDraft _ _ (gets_any (directive_from at)) (λ directive _.
    directed_is at labelled directive d k))

behind_is : (labelled : Bool) (d : Draft) → IsDraft d → Gets IsDraft (behind_label labelled d)
unfolding behind_label
behind_is labelled d k = gets_looking IsDraft _
    (λ i. gets_if IsDraft _ _ _ (λ _. instr_is d k) (λ _. directive_is labelled d k))

line_is : (d : Draft) → IsDraft d → Gets IsDraft (line_in d)
unfolding line_in
line_is d k = gets_looking IsDraft (λ i. label_if (is_labelled i) d >>= behind_label (is_labelled i)) (λ i.
    gets_then _ IsDraft _ _ (label_if_is (is_labelled i) d k) (λ e kept. behind_is (is_labelled i) e kept))

line_or_none_is : (d : Draft) → IsDraft d → Gets IsDraft (line_or_none d)
unfolding line_or_none
line_or_none_is d k = record { gets = λ i x j h. by_length i x j (length i.rest == 0) h }
  where
    by_length : (i : Input) (x : Draft) (j : Input) (b : Bool) → cond b (Ok (d, i)) (line_in d i) ≡ Ok
        (x, j) → IsDraft x
    by_length i x j true h = (gets_done IsDraft d k).gets i x j h
    by_length i x j false h = (line_is d k).gets i x j h

went : (o : Result (Draft × Input) AsmFault) (f : Draft → Result Draft AsmFault) (e : Draft)
    → goes_to o f ≡ Ok e
    → (x : Draft × Input) × (o ≡ Ok x) × (f x.0 ≡ Ok e)
went (Ok x) f e h = (x, refl, h)
went (Err x) f e h = absurd cc

lines_are : (d e : Draft) (lines : List Input) → IsDraft d → drafted d lines ≡ Ok e → IsDraft e
unfolding drafted
lines_are d e [] k h = let is : d ≡ e = cc in subst IsDraft is k
lines_are d e (line ∷ lines) k h =
    let p = went (line_or_none d line) (λ new. drafted new lines) e h in
    lines_are p.0.0 e lines ((line_or_none_is d k).gets line p.0.0 p.0.1 p.1) p.2

nothing_is : IsDraft nothing
nothing_is = record {
  words = record {
    labels_within = tt;
    ready = tt;
    code_fits = (omega arith, tt);
    data_fits = (omega arith, tt);
  };
  header = record {
    stack_base = omega arith;
    closure = omega arith;
    seals = (omega arith, omega arith);
    linear = (omega arith, omega arith);
    code_base = omega arith;
    data_base = omega arith;
  };
  tables = record {
    imports = omega arith;
    exports = omega arith;
    sites = omega arith;
    rows = omega arith;
    fail_at = tt;
    literal_at = tt;
    ordered = λ _. (tt, tt, tt, tt);
  };
  came =
      record {
        name_came = λ le. absurd (omega (arith, le));
        code_came = λ le. absurd (omega (arith, le));
        data_came = λ le. absurd (omega (arith, le));
      };
}

pub drafted_is : (e : Draft) (lines : List Input) → drafted nothing lines ≡ Ok e → IsDraft e
drafted_is e lines h = lines_are nothing e lines nothing_is h

-- where the text may end, and_parts sections have words
pub ended_some : (d : Draft) → IsDraft d → rank item.Data ≤ rank_of d.last → may_end d ≡ true
    → (1 ≤ length d.code) × (1 ≤ length d.data_words)
ended_some d k le ends = (k.came.code_came le, data_some d.last d k.came.data_came ends le)
