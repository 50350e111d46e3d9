use Rattle.std.proofs.Common.{◌≡◌, ℕ, ◌+◌, ◌<◌, List, [], ◌∷◌, ◌++◌, length, take, get_or, sym, ap, ◌∙◌}
use Rattle.std.proofs.Common.{append-nil, append_assoc}
use Rattle.std.specs.List.{flat_map}
use Rattle.std.proofs.lemmas.Grind.{flat_map-append}
use Rattle.std.proofs.lemmas.List.{take_all, take_more}
use Rattle.cap_words.specs.Text.{field_text}
use Rattle.component_file.specs.declared.component.Kind.{Kind}
use Rattle.disassembler.specs.Disassembled.{kind_fields}
use Rattle.disassembler.proofs.tables.push_kinds.Goals as goal

abbrev fields_of : List Kind → List ℕ
fields_of kinds = flat_map field_text (flat_map kind_fields kinds)

one_kind_more : (text : List ℕ) (kinds : List Kind) (i : ℕ) (d : Kind) → i < length kinds
    → (text ++ fields_of (take i kinds)) ++ flat_map field_text (kind_fields (get_or kinds i d))
    ≡ text ++ fields_of (take (i + 1) kinds)
one_kind_more text kinds i d lt =
    let kind = get_or kinds i d in
    let before = flat_map kind_fields (take i kinds) in
    append_assoc text (flat_map field_text before) (flat_map field_text (kind_fields kind))
    ∙ ap (λ l. text ++ l) (sym (ap fields_of (take_more kinds i d lt)
    ∙ ap (flat_map field_text) (flat_map-append kind_fields (take i kinds) (kind ∷ []))
    ∙ flat_map-append field_text before (flat_map kind_fields (kind ∷ []))
    ∙ ap (λ l. flat_map field_text before ++ flat_map field_text l) (append-nil (kind_fields kind))))

pub loop-kind-init : goal.loop-kind-init
loop-kind-init c = sym (append-nil c.args.text.now.items)

pub loop-kind-preserved : goal.loop-kind-preserved
loop-kind-preserved c = rw (c.in_ok-push_kind.ensures, c.loop-kind.invariant)
    (one_kind_more c.args.text.now.items c.args.kinds.now c.loop-kind.kind-index _ c.loop-kind-test.true)

pub returns : goal.returns
returns c =
    c.loop-kind.invariant
    ∙ ap (λ ks. c.args.text.now.items ++ fields_of ks)
    (take_all c.loop-kind.kind-index c.args.kinds.now c.loop-kind-test.false)
