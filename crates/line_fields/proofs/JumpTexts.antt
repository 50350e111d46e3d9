-- Where a jump leads is read of its own text alone.
use Rattle.std.proofs.Common.{◌≡◌, ℕ, ◌≤◌, Bool, true, false, List, [], ◌∷◌, ◌++◌, Option, Some, None, refl}
use Rattle.std.proofs.Common.{sym, ap, ◌∙◌, subst, arith, inr}
use Rattle.std.specs.Prelude.{nat_le, length, not, ◌&&◌, ◌==◌, codes, decimal, slice_index, option_map}
use Rattle.std.specs.Prelude.{if◌then◌else◌}
use Rattle.std.specs.List.{list_all}
use Rattle.std.specs.Str.{bytes_eq}
use Rattle.std.proofs.lemmas.Bool.{and_parts, ne_eqb}
use Rattle.std.proofs.lemmas.Slice.Eq.{bytes_eq-Decides}
use Rattle.cap_words.specs.declared.TheConstants.{LONGEST_NAME}
use Rattle.cap_words.specs.Names.{is_digit, is_name_byte, is_name}
use Rattle.line_fields.specs.declared.TheConstants.{LAST_NATURAL}
use Rattle.source_events.specs.declared.FeedBack.{FeedBack}
use Rattle.source_events.specs.declared.FeedBack.TheVariants as back
use Rattle.source_events.specs.declared.FeedPair.{FeedPair}
use Rattle.source_events.specs.declared.FeedPair.TheVariants as handed
use Rattle.source_events.specs.Forms.{IsName, IsSmall, BackFits, PairFits, back_text, pair_text}
use Rattle.line_fields.specs.Cuts.{cut, behind}
use Rattle.line_fields.specs.Numbers.{natural_in}
use Rattle.line_fields.specs.Entries.{EntrySeen, CallSeen}
use Rattle.line_fields.specs.Forms.{name_in, entry_in, call_in, hop_back, pair_back, hop_pair, pair_behind}
use Rattle.line_fields.specs.Forms.{back_behind, back_in, handed_behind, handed_in}
use Rattle.line_fields.proofs.Cuts.{cut_is}
use Rattle.line_fields.proofs.Numbers.{number_again, number_is, some_from, some_of, chosen}
use Rattle.line_fields.proofs.Fronts.{is_free, behind_is, cut_front, decimal_free}

-- ---- names have no colon

byte_free : (b : ℕ) → is_name_byte b ≡ true → not (b == 58) ≡ true
byte_free b h =
    ap not (ne_eqb b 58 (λ e. let bad : true ≡ false = sym h ∙ ap is_name_byte e in absurd cc))

pub bytes_free : (text : List ℕ) → list_all is_name_byte text ≡ true → is_free 58 text ≡ true
bytes_free [] h = refl
bytes_free (b ∷ text) h =
    let p = and_parts (is_name_byte b) (list_all is_name_byte text) h in
    let one = byte_free b p.0 in
    let rest = bytes_free text p.1 in
    rw (one, rest) refl

name_free : (text : List ℕ) → is_name text ≡ true → is_free 58 text ≡ true
unfolding is_name
name_free text h =
    bytes_free text (and_parts
    (nat_le 1 (length text) && nat_le (length text) LONGEST_NAME && not (is_digit (slice_index text 0)))
    (list_all is_name_byte text) h).1

name_is : (text name : List ℕ) → name_in text ≡ Some name → (is_name name ≡ true) × (text ≡ name)
name_is text name h =
    let k = chosen (is_name text) text name h in
    (sym (ap is_name k.1) ∙ k.0, k.1)

-- ---- what they name

abbrev EntryFits : EntrySeen → Type 0
EntryFits e = IsName e.part × IsName e.name

abbrev CallFits : CallSeen → Type 0
CallFits c = IsName c.part × IsSmall c.site × IsSmall c.base

abbrev entry_text : EntrySeen → List ℕ
entry_text e = e.part ++ (codes ":" ++ e.name)

abbrev call_text : CallSeen → List ℕ
call_text c = c.part ++ (codes ":" ++ (decimal c.site ++ (codes ":" ++ decimal c.base)))

entry_again : (e : EntrySeen) → EntryFits e → entry_in (entry_text e) ≡ Some e
unfolding entry_in
entry_again e h =
    let one = cut_front 58 e.part e.name (name_free e.part h.0) in
    let part : is_name e.part ≡ true = h.0 in
    let name : is_name e.name ≡ true = h.1 in
    rw (one, part, name) refl

entry_is : (text : List ℕ) (e : EntrySeen) → entry_in text ≡ Some e → EntryFits e × (text ≡ entry_text e)
unfolding entry_in
entry_is text e h =
    let a = some_from (cut 58 text) _ e h in
    let b = some_from (name_in a.0.0) _ e a.2 in
    let d = some_from (name_in a.0.1) _ e b.2 in
    let made : EntrySeen = record { part = b.0; name = d.0 } in
    let same : made ≡ e = (let g = d.2 in cc) in
    let part = name_is a.0.0 b.0 b.1 in
    let name = name_is a.0.1 d.0 d.1 in
    subst (λ (x : EntrySeen). EntryFits x × (text ≡ entry_text x)) same (
      (part.0, name.0),
      cut_is 58 text a.0.0 a.0.1 a.1 ∙ ap (λ t. t ++ 58 ∷ a.0.1) part.1 ∙ ap (λ t. b.0 ++ 58 ∷ t) name.1,
    )

call_again : (c : CallSeen) → CallFits c → call_in (call_text c) ≡ Some c
unfolding call_in
call_again c h =
    let small : c.site ≤ LAST_NATURAL = h.1 in
    let low : c.base ≤ LAST_NATURAL = h.2 in
    let one = cut_front 58 c.part (decimal c.site ++ 58 ∷ decimal c.base) (name_free c.part h.0) in
    let part : is_name c.part ≡ true = h.0 in
    let two =
    cut_front 58 (decimal c.site) (decimal c.base)
    (decimal_free 58 c.site (inr (omega arith)) (omega (arith, small))) in
    let site = number_again LAST_NATURAL c.site small (omega (arith, small)) in
    let base = number_again LAST_NATURAL c.base low (omega (arith, low)) in
    rw (one, part, two, site, base) refl

call_is : (text : List ℕ) (c : CallSeen) → call_in text ≡ Some c → CallFits c × (text ≡ call_text c)
unfolding call_in
call_is text c h =
    let a = some_from (cut 58 text) _ c h in
    let b = some_from (name_in a.0.0) _ c a.2 in
    let d = some_from (cut 58 a.0.1) _ c b.2 in
    let e = some_from (natural_in d.0.0) _ c d.2 in
    let f = some_from (natural_in d.0.1) _ c e.2 in
    let made : CallSeen = record { part = b.0; site = e.0; base = f.0 } in
    let same : made ≡ c = (let g = f.2 in cc) in
    let part = name_is a.0.0 b.0 b.1 in
    let site = number_is LAST_NATURAL e.0 d.0.0 (omega arith) e.1 in
    let base = number_is LAST_NATURAL f.0 d.0.1 (omega arith) f.1 in
    subst (λ (x : CallSeen). CallFits x × (text ≡ call_text x)) same (
      (part.0, site.0, base.0),
      cut_is 58 text a.0.0 a.0.1 a.1 ∙ ap (λ t. t ++ 58 ∷ a.0.1) part.1
          ∙ ap (λ t. b.0 ++ 58 ∷ t) (cut_is 58 a.0.1 d.0.0 d.0.1 d.1 ∙ ap (λ t. t ++ 58 ∷ d.0.1) site.1
          ∙ ap (λ t. decimal e.0 ++ 58 ∷ t) base.1),
    )

-- ---- what a return would do

back_again : (b : FeedBack) → BackFits b → back_in (back_text b) ≡ Some b
unfolding back_in behind
back_again back.Out h = refl
back_again back.Bad h = refl
back_again (back.Hop part name) h =
    ap (option_map hop_back) (entry_again (record { part = part; name = name }) h)
back_again (back.Pair part site base) h =
    ap (option_map pair_back) (call_again (record { part = part; site = site; base = base }) h)

pub text_is_back : (b : FeedBack) (text : List ℕ) → BackFits b × (text ≡ back_text b) → back_in text ≡ Some b
text_is_back b text h = ap back_in h.1 ∙ back_again b h.0

abbrev IsBackText : List ℕ → FeedBack → Type 0
IsBackText text b = BackFits b × (text ≡ back_text b)

pair_is : (text : List ℕ) (o : Option (List ℕ)) (b : FeedBack) → behind (codes "pair:") text ≡ o
    → pair_behind o ≡ Some b → IsBackText text b
pair_is text None b is h = absurd cc
pair_is text (Some call) b is h =
    let k = some_of (call_in call) pair_back b h in
    let c = call_is call k.0 k.1 in
    subst (IsBackText text) k.2
    (c.0, behind_is (codes "pair:") text call is ∙ ap (λ t. codes "pair:" ++ t) c.1)

hop_is : (text : List ℕ) (o : Option (List ℕ)) (b : FeedBack) → behind (codes "hop:") text ≡ o
    → back_behind text o ≡ Some b → IsBackText text b
hop_is text None b is h = pair_is text (behind (codes "pair:") text) b refl h
hop_is text (Some entry) b is h =
    let k = some_of (entry_in entry) hop_back b h in
    let e = entry_is entry k.0 k.1 in
    subst (IsBackText text) k.2
    (e.0, behind_is (codes "hop:") text entry is ∙ ap (λ t. codes "hop:" ++ t) e.1)

same_text : (front text : List ℕ) → bytes_eq front text ≡ true → text ≡ front
same_text front text h = sym ((bytes_eq-Decides front text).0 h)

bad_is : (text : List ℕ) (t : Bool) (b : FeedBack) → bytes_eq (codes "bad") text ≡ t
    → (if t then Some back.Bad else back_behind text (behind (codes "hop:") text)) ≡ Some b
    → IsBackText text b
bad_is text true b is h =
    let same : back.Bad ≡ b = cc in
    subst (IsBackText text) same (tt, same_text (codes "bad") text is)
bad_is text false b is h = hop_is text (behind (codes "hop:") text) b refl h

out_is : (text : List ℕ) (t : Bool) (b : FeedBack) → bytes_eq (codes "out") text ≡ t
    → (if t then Some back.Out
    else if bytes_eq (codes "bad") text then Some back.Bad
    else back_behind text (behind (codes "hop:") text)) ≡ Some b
    → IsBackText text b
out_is text true b is h =
    let same : back.Out ≡ b = cc in
    subst (IsBackText text) same (tt, same_text (codes "out") text is)
out_is text false b is h = bad_is text (bytes_eq (codes "bad") text) b refl h

pub back_is : (b : FeedBack) (text : List ℕ) → back_in text ≡ Some b → BackFits b × (text ≡ back_text b)
unfolding back_in
back_is b text h = out_is text (bytes_eq (codes "out") text) b refl h

-- ---- what two argument registers are

handed_again : (p : FeedPair) → PairFits p → handed_in (pair_text p) ≡ Some p
unfolding handed_in behind
handed_again handed.Nothing h = refl
handed_again handed.Bad h = refl
handed_again handed.Out h = refl
handed_again (handed.Hop part name) h =
    ap (option_map hop_pair) (entry_again (record { part = part; name = name }) h)

pub text_is_handed : (p : FeedPair) (text : List ℕ) → PairFits p × (text ≡ pair_text p)
    → handed_in text ≡ Some p
text_is_handed p text h = ap handed_in h.1 ∙ handed_again p h.0

abbrev IsHandedText : List ℕ → FeedPair → Type 0
IsHandedText text p = PairFits p × (text ≡ pair_text p)

handed_hop_is : (text : List ℕ) (o : Option (List ℕ)) (p : FeedPair) → behind (codes "hop:") text ≡ o
    → handed_behind o ≡ Some p → IsHandedText text p
handed_hop_is text None p is h = absurd cc
handed_hop_is text (Some entry) p is h =
    let k = some_of (entry_in entry) hop_pair p h in
    let e = entry_is entry k.0 k.1 in
    subst (IsHandedText text) k.2
    (e.0, behind_is (codes "hop:") text entry is ∙ ap (λ t. codes "hop:" ++ t) e.1)

handed_out_is : (text : List ℕ) (t : Bool) (p : FeedPair) → bytes_eq (codes "out") text ≡ t
    → (if t then Some handed.Out else handed_behind (behind (codes "hop:") text)) ≡ Some p
    → IsHandedText text p
handed_out_is text true p is h =
    let same : handed.Out ≡ p = cc in
    subst (IsHandedText text) same (tt, same_text (codes "out") text is)
handed_out_is text false p is h = handed_hop_is text (behind (codes "hop:") text) p refl h

handed_bad_is : (text : List ℕ) (t : Bool) (p : FeedPair) → bytes_eq (codes "bad") text ≡ t
    → (if t then Some handed.Bad
    else if bytes_eq (codes "out") text then Some handed.Out
    else handed_behind (behind (codes "hop:") text)) ≡ Some p
    → IsHandedText text p
handed_bad_is text true p is h =
    let same : handed.Bad ≡ p = cc in
    subst (IsHandedText text) same (tt, same_text (codes "bad") text is)
handed_bad_is text false p is h = handed_out_is text (bytes_eq (codes "out") text) p refl h

none_is : (text : List ℕ) (t : Bool) (p : FeedPair) → bytes_eq (codes "none") text ≡ t
    → (if t then Some handed.Nothing
    else if bytes_eq (codes "bad") text then Some handed.Bad
    else if bytes_eq (codes "out") text then Some handed.Out
    else handed_behind (behind (codes "hop:") text)) ≡ Some p
    → IsHandedText text p
none_is text true p is h =
    let same : handed.Nothing ≡ p = cc in
    subst (IsHandedText text) same (tt, same_text (codes "none") text is)
none_is text false p is h = handed_bad_is text (bytes_eq (codes "bad") text) p refl h

pub handed_is : (p : FeedPair) (text : List ℕ) → handed_in text ≡ Some p
    → PairFits p × (text ≡ pair_text p)
unfolding handed_in
handed_is p text h = none_is text (bytes_eq (codes "none") text) p refl h
