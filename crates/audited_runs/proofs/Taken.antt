-- What is taken from the front of fields is a text of what it is read as.
use Rattle.std.proofs.Common.{append-nil, ◌≡◌, ℕ, ◌≤◌, ◌<◌, ◌^◌, Bool, true, false, List, [], ◌∷◌, ◌++◌}
use Rattle.std.proofs.Common.{Option, Some, None, refl, sym, ap, ◌∙◌}
use Rattle.std.specs.Prelude.{codes, decimal, map, is_some, ◌||◌}
use Rattle.std.specs.List.{list_all, join_with_byte}
use Rattle.std.specs.Str.{bytes_eq}
use Rattle.std.proofs.lemmas.Bool.{and_parts}
use Rattle.std.proofs.lemmas.Slice.Eq.{bytes_eq-Decides}
use Rattle.std.proofs.lemmas.List.Splits.{join_with_byte-slice_split}
use Rattle.cap_words.specs.declared.Word.{Word}
use Rattle.cap_words.specs.Names.{is_name}
use Rattle.cap_words.specs.Text.{word_text_of}
use Rattle.source_events.specs.declared.FeedBack.{FeedBack}
use Rattle.source_events.specs.declared.FeedPair.{FeedPair}
use Rattle.source_events.specs.Forms.{IsName, BackFits, PairFits, back_text, pair_text}
use Rattle.run_lines.specs.Lines.{Args}
use Rattle.line_fields.specs.Options.{where_true}
use Rattle.line_fields.specs.Cuts.{parts}
use Rattle.line_fields.specs.Numbers.{number_in}
use Rattle.line_fields.specs.Words.{HasText, word_in, is_word}
use Rattle.line_fields.specs.Forms.{back_in, handed_in}
use Rattle.line_fields.specs.Fields.{field, meant, tested, fields}
use Rattle.line_fields.proofs.Offers.{number_is, chosen, word_is, back_is, handed_is, Fields, goes, same_read}
use Rattle.line_fields.proofs.Offers.{unless_is, tested_is, meant_is}
use Rattle.audited_runs.proofs.Offers.{spaced}
use Rattle.run_audit.specs.Lines.{is_direction, registers, words_left}
use Rattle.audited_runs.proofs.Spelled.{dir_text}
use Rattle.run_lines.specs.Fits.{AllOf, ArgsOf}

-- one field in front of others
pub and_then : {ts us vs : Fields} {t : List ℕ} → ts ≡ t ∷ us → us ≡ vs → ts ≡ t ∷ vs
and_then {t = t} h k = h ∙ ap (λ ws. t ∷ ws) k

-- ---- one field

pub field_is : (ts : Fields) (x : List ℕ) (rest : Fields) → field ts ≡ Some (x, rest) → ts ≡ x ∷ rest
field_is [] x rest h = absurd cc
field_is (t ∷ ts) x rest h = let both = same_read h in and_then (ap (λ u. u ∷ ts) both.0) both.1

-- ---- fields by what they are

pub name_taken : (ts : Fields) (x : List ℕ) (rest : Fields) → tested is_name ts ≡ Some (x, rest)
    → IsName x × (ts ≡ x ∷ rest)
name_taken ts x rest h = tested_is is_name ts x rest h

pub number_taken : (most : ℕ) (ts : Fields) (n : ℕ) (rest : Fields) → most < 2 ^ 64
    → meant (number_in most) ts ≡ Some (n, rest) → (n ≤ most) × (ts ≡ decimal n ∷ rest)
number_taken most ts n rest small h =
    let k = meant_is (number_in most) ts n rest h in
    let t = number_is most n k.0 small k.1 in
    (t.0, k.2 ∙ ap (λ u. u ∷ rest) t.1)

-- a word, by its text
word_of : (t : List ℕ) (o : Option Word) → word_in t ≡ o → is_some o ≡ true
    → (w : Word) × HasText w × (t ≡ word_text_of w)
word_of t None e h = absurd cc
word_of t (Some w) e h = let k = word_is w t e in (w, k.0, k.1)

pub word_taken : (ts : Fields) (x : List ℕ) (rest : Fields) → tested is_word ts ≡ Some (x, rest)
    → (w : Word) × HasText w × (ts ≡ word_text_of w ∷ rest)
word_taken ts x rest h =
    let k = tested_is is_word ts x rest h in
    let w = word_of x (word_in x) refl k.0 in
    (w.0, w.1, k.1 ∙ ap (λ u. u ∷ rest) w.2)

direction_of : (a b : Bool) (x : List ℕ) → bytes_eq (codes "in") x ≡ a → bytes_eq (codes "out") x ≡ b
    → (a || b) ≡ true → (d : Bool) × (x ≡ dir_text d)
direction_of true b x p q h = (true, sym ((bytes_eq-Decides (codes "in") x).0 p))
direction_of false true x p q h = (false, sym ((bytes_eq-Decides (codes "out") x).0 q))
direction_of false false x p q h = absurd cc

pub direction_taken : (ts : Fields) (x : List ℕ) (rest : Fields) → tested is_direction ts ≡ Some (x, rest)
    → (d : Bool) × (ts ≡ dir_text d ∷ rest)
direction_taken ts x rest h =
    let k = tested_is is_direction ts x rest h in
    let d = direction_of _ _ x refl refl k.0 in
    (d.0, k.1 ∙ ap (λ u. u ∷ rest) d.1)

pub mark_taken : (mark : List ℕ) (ts : Fields) (x : List ℕ) (rest : Fields)
    → tested (bytes_eq mark) ts ≡ Some (x, rest) → ts ≡ mark ∷ rest
mark_taken mark ts x rest h =
    let k = tested_is (bytes_eq mark) ts x rest h in
    k.1 ∙ ap (λ u. u ∷ rest) (sym ((bytes_eq-Decides mark x).0 k.0))

-- where a return leads
pub back_taken : (ts : Fields) (b : FeedBack) (rest : Fields) → meant back_in ts ≡ Some (b, rest)
    → BackFits b × (ts ≡ back_text b ∷ rest)
back_taken ts b rest h =
    let k = meant_is back_in ts b rest h in
    let t = back_is b k.0 k.1 in
    (t.0, k.2 ∙ ap (λ u. u ∷ rest) t.1)

-- what two registers are
pub pair_taken : (ts : Fields) (p : FeedPair) (rest : Fields) → meant handed_in ts ≡ Some (p, rest)
    → PairFits p × (ts ≡ pair_text p ∷ rest)
pair_taken ts p rest h =
    let k = meant_is handed_in ts p rest h in
    let t = handed_is p k.0 k.1 in
    (t.0, k.2 ∙ ap (λ u. u ∷ rest) t.1)

-- ---- many fields

pub record ArgsTaken (ts rest : Fields) : Type 0 where
  pub args : Args
  pub texts : ArgsOf HasText args
  pub is : ts ≡ word_text_of args.a0 ∷ word_text_of args.a1 ∷ word_text_of args.a2 ∷ word_text_of args.a3
      ∷ rest

pub args_taken : (ts : Fields) (x : List ℕ) (rest : Fields) → registers true ts ≡ Some (x, rest)
    → ArgsTaken ts rest
args_taken ts x rest h =
    let g0 = goes (tested is_word ts) _ (x, rest) h in
    let g1 = goes (tested is_word g0.rest) _ (x, rest) g0.next in
    let g2 = goes (tested is_word g1.rest) _ (x, rest) g1.next in
    let w0 = word_taken ts g0.value g0.rest g0.first in
    let w1 = word_taken g0.rest g1.value g1.rest g1.first in
    let w2 = word_taken g1.rest g2.value g2.rest g2.first in
    let w3 = word_taken g2.rest x rest g2.next in
    record {
      args = record { a0 = w0.0; a1 = w1.0; a2 = w2.0; a3 = w3.0 };
      texts = (w0.1, w1.1, w2.1, w3.1);
      is = and_then w0.2 (and_then w1.2 (and_then w2.2 w3.2));
    }

words_of : (ts : Fields) → list_all is_word ts ≡ true
    → (ws : List Word) × AllOf HasText ws × (ts ≡ map word_text_of ws)
words_of [] h = ([], tt, refl)
words_of (t ∷ ts) h =
    let p = and_parts (is_word t) (list_all is_word ts) h in
    let w = word_of t (word_in t) refl p.0 in
    let r = words_of ts p.1 in
    (w.0 ∷ r.0, (w.1, r.1), and_then (ap (λ u. u ∷ ts) w.2) r.2)

pub record WordsTaken (ts xs rest : Fields) : Type 0 where
  pub words : List Word
  pub texts : AllOf HasText words
  pub is : ts ≡ map word_text_of words
  pub same : xs ≡ ts
  pub none : rest ≡ []

pub words_taken : (ts xs rest : Fields) → words_left ts ≡ Some (xs, rest) → WordsTaken ts xs rest
unfolding words_left
words_taken ts xs rest h =
    let k = unless_is (where_true (list_all is_word ts) ts) [] xs rest h in
    let c = chosen (list_all is_word ts) ts xs k.0 in
    let w = words_of ts c.0 in
    record { words = w.0; texts = w.1; is = w.2; same = sym c.1; none = sym k.1 }

-- ---- a line by its fields

joined : (t : List ℕ) (ts : Fields) → join_with_byte 32 (t ∷ ts) ≡ t ++ spaced ts
joined t [] = sym (append-nil t)
joined t (u ∷ us) = ap (λ v. t ++ 32 ∷ v) (joined u us)

pub by_fields : (text t : List ℕ) (ts : Fields) → fields text ≡ t ∷ ts → text ≡ t ++ spaced ts
unfolding parts
by_fields text t ts h =
    sym (join_with_byte-slice_split 32 text) ∙ ap (join_with_byte 32) h ∙ joined t ts
